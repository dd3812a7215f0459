-- What a call comes to.
use Rattle.std.specs.Prelude.{Bool, cond, Ok, Err, Result}
use Rattle.faults.specs.declared.Fault.{Fault}
use Rattle.faults.specs.declared.Layer.{Layer}
use Rattle.faults.specs.Faults.{passed}

-- it answers, or refuses
pub data Outcome (X : Type 0) : Type 0 where
  answered : X → Outcome X
  refused : Fault → Outcome X

-- the outcome that a result stands for, where `seen` reads an answer and `why` an error
abbrev pub told : {X Y E : Type 0} → (X → Y) → (E → Fault) → Result X E → Outcome Y
told seen why (Ok x) = answered (seen x)
told seen why (Err e) = refused (why e)

-- a check: a fault where `bad` holds, and otherwise what follows
abbrev pub refuse_if : {X : Type 0} → Bool → Fault → Outcome X → Outcome X
refuse_if bad fault rest = cond bad (refused fault) rest

-- what a call comes to for which a layer makes this one
abbrev pub passed_up : {X : Type 0} → Layer → Outcome X → Outcome X
passed_up by (answered x) = answered x
passed_up by (refused fault) = refused (passed by fault)

-- a check that is made first, and what follows where it answers
abbrev pub checked : {X Y : Type 0} → Outcome X → Outcome Y → Outcome Y
checked (answered x) rest = rest
checked (refused fault) rest = refused fault
