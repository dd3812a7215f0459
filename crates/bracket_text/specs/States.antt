-- The reader of bracket texts: what it awaits.
use Rattle.std.specs.Prelude.{◌≡◌, ℕ, ◌+◌, ◌*◌, ◌-◌, ◌≤◌, List, [], ◌∷◌, ◌++◌, map, length, reverse, Some, None, Ok, Err, Option, Result}
use Rattle.lent_list.specs.Lent.{places, items}
use Rattle.text.specs.Reading.{Leads}
use Rattle.text.specs.Symbols.{letter}
use Rattle.text.specs.declared.fault.TextFault.{TextFault}
use Rattle.text.specs.declared.fault.TextFault.TheVariants.{Malformed}
use Rattle.bracket_text.specs.Brackets.{IsText}
use Rattle.bracket_text.specs.Words.{letters_in}
use Rattle.bracket_text.specs.declared.reader.Part.{Part}
use Rattle.bracket_text.specs.declared.reader.Part.TheVariants as part
use Rattle.bracket_text.specs.declared.reader.Reader.{Reader}
use Rattle.bracket_text.specs.declared.token.Token.{Token}
use Rattle.bracket_text.specs.declared.token.Token.TheVariants as token

-- the bytes are these parts, one after the other, and the letters are those of the texts among them
abbrev pub Fits : List Part → List ℕ → List ℕ → Type 0
Fits [] bs w = (bs ≡ []) × (w ≡ [])
Fits (part.Text ∷ ps) bs w =
    (s : List ℕ) × (u : List ℕ) × (t : List ℕ) × (v : List ℕ) × IsText s u × Fits ps t v × (bs ≡ s ++ t) × (w ≡ u ++ v)
Fits (part.Comma ∷ ps) bs w = (t : List ℕ) × (bs ≡ 44 ∷ t) × Fits ps t w
Fits (part.Close ∷ ps) bs w = (t : List ℕ) × (bs ≡ 93 ∷ t) × Fits ps t w

-- one text and nothing else
abbrev pub whole : List Part
whole = part.Text ∷ []

-- the parts that a reader awaits, the next one first
abbrev pub awaited : Reader → List Part
awaited r = reverse (items r.awaited)

-- what a token makes of the parts that are awaited, with the letters that it adds; none where it cannot follow
abbrev pub taken : List Part → Token → Option (List Part × List ℕ)
taken (part.Text ∷ ps) token.Open = Some (part.Text ∷ part.Comma ∷ part.Text ∷ part.Close ∷ ps, [])
taken (part.Text ∷ ps) (token.Symbol bytes) = Some (ps, map letter bytes.now)
taken (part.Comma ∷ ps) token.Comma = Some (ps, [])
taken (part.Close ∷ ps) token.Close = Some (ps, [])
taken _ _ = None

-- what a step answers, and leaves
abbrev pub Stepped : Option (List Part × List ℕ) → ℕ → Reader → Reader → Result Unit TextFault → Type 0
Stepped None place old new r = r ≡ Err (Malformed place)
Stepped (Some next) place old new r =
    (r ≡ Ok tt) × (awaited new ≡ next.0) × (letters_in new.word ≡ letters_in old.word ++ next.1)

-- a reader of the text bs has read i bytes of it
pub record HasRead (bs : List ℕ) (i : ℕ) (r : Reader) : Type 0 where
  pub leads : Leads Fits bs 0 whole (letters_in r.word) i (awaited r)
  pub room : length (items r.awaited) + 3 * (45 - i) ≤ length (places r.awaited)
  pub few : r.word.count ≤ i
