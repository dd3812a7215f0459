-- The scan through the Lyndon words of a shape.
use Rattle.std.specs.Prelude.{◌≡◌, ℕ, ◌+◌, ◌^◌, List, [], ◌∷◌, Some, None, Option}
use Rattle.lyndon.specs.Listing.{rest}
use Rattle.coded_word.specs.declared.coded.CodedWord.{CodedWord}
use Rattle.coded_word.specs.declared.coded.Cursor.{Cursor}

-- the Lyndon words of the shape from a place on, in listing order, each by its length and code
abbrev pub left_from : Cursor → List (ℕ × ℕ)
left_from c = rest c.shape.k c.shape.n c.length c.code

-- those of them that are longer
abbrev pub left_behind : Cursor → List (ℕ × ℕ)
left_behind c = rest c.shape.k c.shape.n c.length (c.shape.k ^ c.length)

-- the first of them, with the others left behind it; or none where none is left
abbrev pub FirstFrom : Cursor → Option CodedWord → Type 0
FirstFrom c None = left_from c ≡ []
FirstFrom c (Some w) =
    (w.shape ≡ c.shape) × (left_from c ≡ (w.length, w.code) ∷ rest c.shape.k c.shape.n w.length (w.code + 1))
