-- What an outcome is to a program in another language: plain numbers.
use Rattle.std.specs.Prelude.{ℕ, ◌≡◌, ◌⊎◌, Some, None, Option}
use Rattle.faults.specs.declared.Fault.{Fault}
use Rattle.faults.specs.declared.Layer.{Layer}
use Rattle.faults.specs.declared.Layer.TheVariants.{Word, Text, Table, Sheet}
use Rattle.faults.specs.Outcome.{Outcome}
use Rattle.faults.specs.Outcome.Outcome.{answered, refused}
use Rattle.c_interface.specs.declared.fault.PlainFault.{PlainFault}

-- the number of a layer, or 0
abbrev pub layer_number : Option Layer → ℕ
layer_number None = 0
layer_number (Some Word) = 1
layer_number (Some Text) = 2
layer_number (Some Table) = 3
layer_number (Some Sheet) = 4

-- a fault as numbers
abbrev pub plain : Fault → PlainFault
plain f =
    record {
      number = f.number;
      layer = layer_number (Some f.layer);
      first = layer_number f.passed.first;
      second = layer_number f.passed.second;
      third = layer_number f.passed.third;
      place = f.place;
      position = f.position;
    }

-- all is 0 where a call was accepted
abbrev pub no_fault : PlainFault
no_fault = record { number = 0; layer = 0; first = 0; second = 0; third = 0; place = 0; position = 0 }

-- the fault that a call answers
abbrev pub fault_of : {X : Type 0} → Outcome X → PlainFault
fault_of (answered x) = no_fault
fault_of (refused f) = plain f

-- what stands in a place that was lent for the answer: the answer, or what stood there
abbrev pub answer_or : {X : Type 0} → Outcome X → X → X
answer_or (answered x) old = x
answer_or (refused f) old = old

-- what stands in a memory that was lent: something new, or what stood there where the call was refused
abbrev pub if_answered : {X Y : Type 0} → Outcome X → Y → Y → Y
if_answered (answered x) new old = new
if_answered (refused f) new old = old

-- the same of two statements
abbrev pub IfAnswered : {X : Type 0} → Outcome X → Type 0 → Type 0 → Type 0
IfAnswered (answered x) Then Otherwise = Then
IfAnswered (refused f) Then Otherwise = Otherwise

-- a number, or 65,535 for none
abbrev pub or_none : Option ℕ → ℕ
or_none None = 65535
or_none (Some n) = n

abbrev pub outcome_or_none : Outcome (Option ℕ) → Outcome ℕ
outcome_or_none (answered n) = answered (or_none n)
outcome_or_none (refused f) = refused f

-- 1 where a statement holds, and 0 where it does not
abbrev pub Says : ℕ → Type 0 → Type 0
Says n Statement = ((n ≡ 1) × Statement) ⊎ ((n ≡ 0) × (Statement → ⊥))
