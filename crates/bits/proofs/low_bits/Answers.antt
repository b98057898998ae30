-- `bits::low_bits` meets its contract.
use native.Mathlib.Omega.{arith}
use lib.Pow.{pow_pos}
use Rattle.bits.proofs.Windows.{one_shl, mask}
use Rattle.bits.proofs.low_bits.Goals as goal

pub overflow_sub-result : goal.overflow_sub-result
overflow_sub-result c = rw (one_shl c.args.width (omega arith)) (pow_pos c.args.width)

pub returns : goal.returns
returns c = mask c.args.x c.args.width (omega arith)
