-- What a program prints.
use Rattle.std.specs.Prelude.{◌≡◌, ℕ, List, take, Ok, Err, Result, IfOk}
use Rattle.std.specs.declared.alloc.AllocError.{AllocError}
use Rattle.faults.specs.Outcome.{Outcome}
use Rattle.faults.specs.Outcome.Outcome.{answered, refused}
use Rattle.text.specs.Input.{first_line}
use Rattle.text.specs.Lines.{fault_line}
use Rattle.console.specs.declared.Stop.{Stop}
use Rattle.console.specs.declared.Stop.TheVariants.{Refused, NoMemory}

-- for an outcome: of an answer what P says, and of a refusal the line of its fault
abbrev pub OutcomePrints : {X : Type 0} → (X → List ℕ → Type 0) → Outcome X → List ℕ → Type 0
OutcomePrints P (answered x) printed = P x printed
OutcomePrints P (refused f) printed = printed ≡ fault_line f.number

-- for an input: what its first line prints, where P says what a line does, or the fault with which that is refused
abbrev pub Prints : (List ℕ → List ℕ → Type 0) → List ℕ → List ℕ → Type 0
Prints P input printed = OutcomePrints P (first_line input) printed

-- the first 4,097 bytes of an input decide what is printed, and that is one thing
pub record Determined (P : List ℕ → List ℕ → Type 0) : Type 0 where
  pub front : (input printed : List ℕ) → Prints P (take 4097 input) printed → Prints P input printed
  pub once : (input one other : List ℕ) → Prints P input one → Prints P input other → one ≡ other

-- of what stops a report: P holds of the line that is printed for a fault, and nothing is printed without memory
abbrev pub StopPrints : (List ℕ → Type 0) → Stop → Type 0
StopPrints P (Refused f) = P (fault_line f.number)
StopPrints P (NoMemory e) = Unit {0}

-- a report stays, a fault becomes its line, and missing memory stays an error
abbrev pub Settled : {V : Type 0} → (V → List ℕ) → Result V Stop → Result V AllocError → Type 0
Settled items (Ok lines) printed = printed ≡ Ok lines
Settled items (Err (Refused f)) printed = IfOk printed (λ lines. items lines ≡ fault_line f.number)
Settled items (Err (NoMemory e)) printed = printed ≡ Err e
