-- Every public function of `bits` is settled (crate `settled`).
use Rattle.bits.proofs as bits
use mathlib.Core.Path.{◌≡◌, refl}
use denote.RattleType.{RattleType}
use denote.Builtin.{u8, u16, u32, u64}
use denote.Param.Laws.{Laws, of_field}
use denote.Param.Shared.{copy_shared}
use denote.Struct.Field.{u8-field, u16-field, u32-field, u64-field}
use denote.Struct.Laws.{u8-laws, u16-laws, u32-laws, u64-laws, u8-copy, u16-copy, u32-copy, u64-copy}
use mir.Syntax.{Dict}
use Rattle.bits.specs.declared.number.Number.{Ghosts}
use Rattle.bits.specs.contracts as promised
use Rattle.bits.specs.contracts.number.U8Number.TheImpl as in8
use Rattle.bits.specs.contracts.number.U16Number.TheImpl as in16
use Rattle.bits.specs.contracts.number.U32Number.TheImpl as in32
use Rattle.bits.specs.contracts.number.U64Number.TheImpl as in64
use Rattle.settled.specs.Settled.{Settled}
use Rattle.settled.proofs.Law.{answer, told, buffer, second}

module _ (T : RattleType) (laws : Laws T) (N : Ghosts T.Denot) (d : Dict) (told_apart : (x y : T.Denot) → N.value x ≡ N.value y → x ≡ y) where
  pub Number-lowest_is_settled : Settled (promised.number.Number.lowest.ended T N d) (bits.number.Number.lowest.Reads.Post T laws N d)
  Number-lowest_is_settled κs a x y = told N.value told_apart

  pub field_is_settled : Settled (promised.field.ended T N d) (bits.field.Reads.Post T laws N d)
  field_is_settled κs a x y p q = told N.value told_apart p.0 q.0

-- at each of the four types, whose values are told apart
abbrev laws8 : Laws u8
laws8 = of_field u8-field u8-laws refl (copy_shared u8-field u8-copy)

abbrev laws16 : Laws u16
laws16 = of_field u16-field u16-laws refl (copy_shared u16-field u16-copy)

abbrev laws32 : Laws u32
laws32 = of_field u32-field u32-laws refl (copy_shared u32-field u32-copy)

abbrev laws64 : Laws u64
laws64 = of_field u64-field u64-laws refl (copy_shared u64-field u64-copy)

pub field64_is_settled : Settled (promised.field.ended u64 in64.ghosts in64.dict) (bits.field.Reads.Post u64 laws64 in64.ghosts in64.dict)
field64_is_settled = field_is_settled u64 laws64 in64.ghosts in64.dict (λ x y e. e)

pub field32_is_settled : Settled (promised.field.ended u32 in32.ghosts in32.dict) (bits.field.Reads.Post u32 laws32 in32.ghosts in32.dict)
field32_is_settled = field_is_settled u32 laws32 in32.ghosts in32.dict (λ x y e. e)

pub field16_is_settled : Settled (promised.field.ended u16 in16.ghosts in16.dict) (bits.field.Reads.Post u16 laws16 in16.ghosts in16.dict)
field16_is_settled = field_is_settled u16 laws16 in16.ghosts in16.dict (λ x y e. e)

pub field8_is_settled : Settled (promised.field.ended u8 in8.ghosts in8.dict) (bits.field.Reads.Post u8 laws8 in8.ghosts in8.dict)
field8_is_settled = field_is_settled u8 laws8 in8.ghosts in8.dict (λ x y e. e)

pub lowest64_is_settled : Settled (promised.number.Number.lowest.ended u64 in64.ghosts in64.dict) (bits.number.Number.lowest.Reads.Post u64 laws64 in64.ghosts in64.dict)
lowest64_is_settled = Number-lowest_is_settled u64 laws64 in64.ghosts in64.dict (λ x y e. e)

pub lowest32_is_settled : Settled (promised.number.Number.lowest.ended u32 in32.ghosts in32.dict) (bits.number.Number.lowest.Reads.Post u32 laws32 in32.ghosts in32.dict)
lowest32_is_settled = Number-lowest_is_settled u32 laws32 in32.ghosts in32.dict (λ x y e. e)

pub lowest16_is_settled : Settled (promised.number.Number.lowest.ended u16 in16.ghosts in16.dict) (bits.number.Number.lowest.Reads.Post u16 laws16 in16.ghosts in16.dict)
lowest16_is_settled = Number-lowest_is_settled u16 laws16 in16.ghosts in16.dict (λ x y e. e)

pub lowest8_is_settled : Settled (promised.number.Number.lowest.ended u8 in8.ghosts in8.dict) (bits.number.Number.lowest.Reads.Post u8 laws8 in8.ghosts in8.dict)
lowest8_is_settled = Number-lowest_is_settled u8 laws8 in8.ghosts in8.dict (λ x y e. e)

pub Words-of_is_settled : Settled promised.words.Words.of.ended bits.words.Words.of.Reads.Post
Words-of_is_settled κs a x y = answer

pub Words-push_is_settled : Settled promised.words.Words.push.ended bits.words.Words.push.Reads.Post
Words-push_is_settled κs a x y = answer

pub Words-put_is_settled : Settled promised.words.Words.put.ended bits.words.Words.put.Reads.Post
Words-put_is_settled κs a x y = buffer second

pub push_all_is_settled : Settled promised.words.push_all.ended bits.words.push_all.Reads.Post
push_all_is_settled κs a x y = answer
