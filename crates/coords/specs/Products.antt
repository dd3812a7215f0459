-- The words uv and vu.
use Rattle.std.specs.Prelude.{◌≡◌, ℕ, List, Some}
use Rattle.lyndon.specs.Entries.{listing}
use Rattle.ring_laws.specs.Rings.{Operations}
use Rattle.ring.specs.Modulo.{ring_64}
use Rattle.coded_word.specs.Words.{word_of}
use Rattle.coded_word.specs.declared.shape.Shape.{Shape}
use Rattle.bracket_table.specs.Views.{View}
use Rattle.coords.specs.declared.products.Products.{Products}
use Rattle.coords.specs.Printed.{CoordinatesPrint, difference}

-- their letters
abbrev pub both : Products → List ℕ × List ℕ
both p = (word_of p.uv, word_of p.vu)

-- the sheet of uv - vu
abbrev pub difference_of : {A : Type 0} → Operations A → Products → List A
difference_of ring p = difference ring p.uv.shape.k p.uv.shape.n (word_of p.uv) (word_of p.vu)

-- what is printed for it
abbrev pub ProductsPrint : Products → List ℕ → Type 0
ProductsPrint p printed = CoordinatesPrint p.uv.shape.k p.uv.shape.n (difference_of ring_64 p) printed

-- the table has this shape, and every entry of it
abbrev pub IsWhole : Shape → View → Type 0
IsWhole s v = (v.shape ≡ Some (record { k = s.k; n = s.n })) × (v.entries ≡ listing s.k s.n)
