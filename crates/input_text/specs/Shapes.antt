-- Lines "k n". 32 is the space; `decimal` writes no zero in front of other digits.
use Rattle.std.specs.Prelude.{◌≡◌, ℕ, ◌<◌, List, [], ◌∷◌, ◌++◌, decimal}
use Rattle.faults.specs.Faults.{found}
use Rattle.faults.specs.Outcome.{Outcome}
use Rattle.faults.specs.Outcome.Outcome.{answered, refused}
use Rattle.faults.specs.declared.Layer.TheVariants.{Text}
use Rattle.text.specs.Reading.{Stops}
use Rattle.input_text.specs.declared.shape.Numbers.{Numbers}

-- bs is the line of two numbers below 100, and ns are the two
abbrev pub IsShape : List ℕ → List ℕ → Type 0
IsShape bs ns =
    (k : ℕ) × (n : ℕ) × (bs ≡ decimal k ++ (32 ∷ decimal n)) × (k < 100) × (n < 100) × (ns ≡ k ∷ n ∷ [])

-- what reading a line comes to
pub data ShapeOutcome (line : List ℕ) : Outcome Numbers → Type 0 where
  read : (s : Numbers) → IsShape line (s.k ∷ s.n ∷ []) → ShapeOutcome line (answered s)
  malformed : (p : ℕ) → Stops IsShape line p → ShapeOutcome line (refused (found 15 Text p 0))

-- a line has one outcome
unfoldable pub OneOutcome : Type 0
OneOutcome = (line : List ℕ) (o p : Outcome Numbers) → ShapeOutcome line o → ShapeOutcome line p → o ≡ p
