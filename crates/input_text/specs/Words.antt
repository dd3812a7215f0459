-- Lines "k u v". 32 is the space; `decimal` writes no zero in front of other digits.
use Rattle.std.specs.Prelude.{◌≡◌, ℕ, ◌<◌, List, [], ◌∷◌, ◌++◌, map, length, decimal, All}
use Rattle.faults.specs.Faults.{found}
use Rattle.faults.specs.Outcome.{Outcome}
use Rattle.faults.specs.Outcome.Outcome.{answered, refused}
use Rattle.faults.specs.declared.Layer.TheVariants.{Text}
use Rattle.text.specs.Reading.{Stops}
use Rattle.text.specs.Symbols.{symbol}
use Rattle.input_text.specs.Symbols.{letters_of}
use Rattle.input_text.specs.declared.word_pair.WordPair.{WordPair}

-- a number, and two words by their letters
pub record Words : Type 0 where
  pub k : ℕ
  pub first : List ℕ
  pub second : List ℕ

-- a word that symbols can spell
abbrev pub IsWord : List ℕ → Type 0
IsWord u = (0 < length u) × All (λ x. x < 16) u

-- bs is the line of w
pub record IsWords (bs : List ℕ) (w : Words) : Type 0 where
  pub line : bs ≡ decimal w.k ++ (32 ∷ (map symbol w.first ++ (32 ∷ map symbol w.second)))
  pub number : w.k < 100
  pub first : IsWord w.first
  pub second : IsWord w.second

-- the same, where what a line means is a list: of w alone
abbrev pub MeansWords : List ℕ → List Words → Type 0
MeansWords bs ws = (w : Words) × IsWords bs w × (ws ≡ w ∷ [])

-- what is read
abbrev pub words_of : WordPair → Words
words_of p = record { k = p.k; first = letters_of p.first; second = letters_of p.second }

-- what reading a line comes to
pub data WordsOutcome (line : List ℕ) : Outcome Words → Type 0 where
  read : (w : Words) → IsWords line w → WordsOutcome line (answered w)
  malformed : (p : ℕ) → Stops MeansWords line p → WordsOutcome line (refused (found 15 Text p 0))

-- a line has one outcome
unfoldable pub OneWordsOutcome : Type 0
OneWordsOutcome = (line : List ℕ) (o p : Outcome Words) → WordsOutcome line o → WordsOutcome line p → o ≡ p
