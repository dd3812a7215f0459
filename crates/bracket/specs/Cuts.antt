-- How P of a word is made of P of its parts.
use Rattle.std.specs.Prelude.{◌≡◌, ℕ, ◌<◌, true, ◌⊎◌, List, ◌∷◌, length, take, drop, ℤ, ◌*ℤ◌}
use Rattle.letter_order.specs.Orders.{by_value}
use Rattle.lyndon.specs.Words.{Lyndon, Factors, Split, joined}
use Rattle.lyndon.specs.Listing.{lyndon}
use Rattle.polynomial.specs.Polynomials.{P}
use Rattle.bracket.specs.declared.short.ShortWord.{ShortWord}
use Rattle.bracket.specs.declared.short.Cut.{Cut}
use Rattle.bracket.specs.declared.short.Cut.TheVariants.{Single, Bracket, Product}

abbrev pub letters_of : ShortWord → List ℕ
letters_of w = w.letters.now

-- the coefficient of u in P(l) P(r)
abbrev pub product_at : List ℕ → List ℕ → List ℕ → ℤ
product_at l r u = P l (take (length l) u) *ℤ P r (drop (length l) u)

-- w is a Lyndon word, and l and r are its split
abbrev pub SplitCut : List ℕ → List ℕ → List ℕ → Type 0
SplitCut w l r = Lyndon by_value w × Split by_value w l r

-- f is the first factor of w, and r is what stands behind it, which is something
abbrev pub FirstCut : List ℕ → List ℕ → List ℕ → Type 0
FirstCut w f r = (fs : List (List ℕ)) × Factors by_value w (f ∷ fs) × (r ≡ joined fs) × (0 < length r)

abbrev pub Cuts : List ℕ → Cut → Type 0
Cuts w Single = length w < 2
Cuts w (Bracket l r) = SplitCut w (letters_of l) (letters_of r)
Cuts w (Product f r) = FirstCut w (letters_of f) (letters_of r)

-- nothing stands behind a first factor of w: it is empty, or a Lyndon word
abbrev pub Whole : List ℕ → Type 0
Whole w = (length w ≡ 0) ⊎ (lyndon w ≡ true)

-- w has no split: it is no Lyndon word, or has no two letters
abbrev pub Unsplit : List ℕ → Type 0
Unsplit w = lyndon w ≡ true → length w < 2
