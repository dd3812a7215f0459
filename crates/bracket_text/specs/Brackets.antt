-- Bracket texts. 91 is [, 44 the comma, 93 ].
use Rattle.std.specs.Prelude.{◌≡◌, ℕ, ◌<◌, ◌≤◌, List, [], ◌∷◌, ◌++◌, length}
use Rattle.faults.specs.Faults.{found}
use Rattle.faults.specs.Outcome.{Outcome}
use Rattle.faults.specs.Outcome.Outcome.{answered, refused}
use Rattle.faults.specs.declared.Layer.TheVariants.{Text}
use Rattle.text.specs.Reading.{Stops}
use Rattle.text.specs.Symbols.{symbol}

-- two texts in brackets
abbrev pub pair : List ℕ → List ℕ → List ℕ
pair s t = 91 ∷ (s ++ (44 ∷ (t ++ 93 ∷ [])))

-- the bytes are a well-formed text, and the letters are those of its symbols, in their order
pub data IsText : List ℕ → List ℕ → Type 0 where
  letter : (x : ℕ) → x < 16 → IsText (symbol x ∷ []) (x ∷ [])
  bracket : {s t u v : List ℕ} → IsText s u → IsText t v → IsText (pair s t) (u ++ v)

-- what reading a text comes to
pub data BracketOutcome (text : List ℕ) : Outcome (List ℕ) → Type 0 where
  long : 45 < length text → BracketOutcome text (refused (found 14 Text 0 0))
  malformed : (p : ℕ) → length text ≤ 45 → Stops IsText text p → BracketOutcome text (refused (found 15 Text p 0))
  read : (w : List ℕ) → length text ≤ 45 → IsText text w → BracketOutcome text (answered w)

-- a text has one outcome
unfoldable pub OneOutcome : Type 0
OneOutcome = (text : List ℕ) (o p : Outcome (List ℕ)) → BracketOutcome text o → BracketOutcome text p → o ≡ p
