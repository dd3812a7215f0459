-- The tokens of a trace text. 43 is +, 45 is -, 32 is the space, 48 to 57 are the digits.
use Rattle.std.specs.Prelude.{◌≡◌, ℕ, ◌-◌, ◌<◌, ◌≤◌, ◌⊎◌, List, [], ◌∷◌, length, take, drop, Some, None, Option, ◌≢◌}
use Rattle.std.specs.Iterator.{Count, at_most}
use Rattle.text.specs.Digits.{NotDigit, AllDigits}
use Rattle.text.specs.Reading.{Begins}
use Rattle.trace_text.specs.declared.token.Token.{Token}
use Rattle.trace_text.specs.declared.token.Token.TheVariants.{Sign, Digits, Space, Other}
use Rattle.trace_text.specs.declared.token.Mark.{Mark}
use Rattle.trace_text.specs.declared.token.Marks.{Marks}

-- these bytes are the token, where those stand behind it
abbrev pub Stands : Token → List ℕ → List ℕ → Type 0
Stands (Sign part) bytes behind = (part.now ≡ bytes) × ((bytes ≡ 43 ∷ []) ⊎ (bytes ≡ 45 ∷ []))
Stands (Digits part) bytes behind = (part.now ≡ bytes) × (0 < length bytes) × AllDigits bytes × Begins NotDigit behind
Stands Space bytes behind = bytes ≡ 32 ∷ []
Stands Other bytes behind = (c : ℕ) × (bytes ≡ c ∷ []) × (c ≢ 43) × (c ≢ 45) × (c ≢ 32) × NotDigit c

-- how many bytes a token has
abbrev pub size_of : Token → ℕ
size_of (Sign part) = length part.now
size_of (Digits part) = length part.now
size_of Space = 1
size_of Other = 1

-- a text begins with a token, unless it is empty
abbrev pub Tokened : List ℕ → Option Token → Type 0
Tokened bs None = bs ≡ []
Tokened bs (Some t) = (0 < size_of t) × (size_of t ≤ length bs) × Stands t (take (size_of t) bs) (drop (size_of t) bs)

-- a mark stands at one place of a text, and the next place is behind it; there is none at the end
abbrev pub Marked : List ℕ → ℕ → ℕ → Option Mark → Type 0
Marked bs i j None = (length bs ≤ i) × (j ≡ i)
Marked bs i j (Some mark) =
    (mark.place ≡ i) × (i < j) × (j ≤ length bs) × Stands mark.token (take (j - i) (drop i bs)) (drop j bs)

-- the next mark of a text
abbrev pub GivesMark : Marks → Option Mark → Marks → Type 0
GivesMark old mark new = (new.text.now ≡ old.text.now) × Marked old.text.now old.place new.place mark

-- each mark has a byte at least
abbrev pub bytes_left : Marks → Count
bytes_left marks = at_most (length marks.text.now - marks.place)
