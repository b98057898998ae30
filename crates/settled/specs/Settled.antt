-- Document 01, "What the contracts have to settle": what it is for a contract to settle the outcome of a call. It is said of the contract as the check itself reads it: of a function f, `f.ended` is its signature with what is seen of each parameter at exit, and `f.Reads.Post` is the claim that its `ensures` clauses make.
use Rattle.std.specs.Prelude.{◌≡◌}
use contract.Lifetimes.{Lfts}
use denote.Triple.Entry.{Args, Res}
use denote.Triple.Clauses.{Ended, Lasts, AtExit, at_exit}

module _ (T : Ended) where
  -- how a call on given arguments may end: its answer, and the last value of each `&mut` parameter
  abbrev pub Outcome : (κs : Lfts T.signature.lifetimes) → Args T.signature κs → Type 0
  Outcome κs a = Res T.signature κs × Lasts T κs a

  -- what a contract says of the arguments, the answer and the parameters at exit
  abbrev pub Promise : Type 1
  Promise = (κs : Lfts T.signature.lifetimes) → Args T.signature κs → Res T.signature κs → AtExit T κs → Type 0

  abbrev pub Allowed : Promise → (κs : Lfts T.signature.lifetimes) (a : Args T.signature κs) → Outcome κs a → Type 0
  Allowed promise κs a x = promise κs a x.0 (at_exit T κs a x.1)

  -- any two outcomes that the contract allows on the same arguments are equal
  abbrev pub Settled : Promise → Type 0
  Settled promise =
      (κs : Lfts T.signature.lifetimes) (a : Args T.signature κs) (x y : Outcome κs a) →
      Allowed promise κs a x →
      Allowed promise κs a y →
      x ≡ y
