-- One thing is printed for a line.
use Rattle.std.proofs.Common.{◌≡◌, ℕ, ◌≤◌, List, [], ◌∷◌, ◌-ℤ◌, sym, refl, ap, ◌∙◌, subst}
use Rattle.faults.proofs.Checks.{passed}
use Rattle.polynomial.specs.Polynomials.{only}
use Rattle.ring.specs.Modulo.{below_64, ring_64}
use Rattle.ring.specs.declared.modulo.Mod64.{Mod64}
use Rattle.ring_laws.proofs.Residues.{residue_laws}
use Rattle.sheet_laws.specs.Coordinates.{Coordinates, EverySheet}
use Rattle.sheet_laws.proofs.Coordinates.{every_sheet}
use Rattle.sheet_laws.proofs.Sheets.{length-sheet_of}
use Rattle.text.proofs.Reading.{means_or_stops}
use Rattle.word.specs.Faults.{letters_checked}
use Rattle.input_text.specs.Words.{Words, MeansWords}
use Rattle.input_text.proofs.Outcomes.{one_words}
use Rattle.bracket_table.specs.Views.{shape_checked}
use Rattle.bracket_table.proofs.Shapes.{taken}
use Rattle.console.proofs.Reports.{one_prints}
use Rattle.coords.specs.Printed.{CoordinatesPrint, LinePrints, WordsPrint, difference, lines_from, or_zero, size, uv, vu, words_checked}
use Rattle.coords.specs.Printed.LinePrints.{words, malformed}

-- a sheet has one set of coordinates
one_set : (k n : ℕ) (x y : List ℕ) (c d : List Mod64) → 1 ≤ k → n ≤ 12 → Coordinates ring_64 k n (difference ring_64 k n x y) c → Coordinates ring_64 k n (difference ring_64 k n x y) d → c ≡ d
unfolding EverySheet
one_set k n x y c d some short p q = (every_sheet ring_64 (residue_laws below_64) k n some short (difference ring_64 k n x y) (length-sheet_of k n (λ u. ring_64.image (only x u -ℤ only y u)))).only c d p q

one_print : (w : Words) (one other : List ℕ) → WordsPrint w one → WordsPrint w other → one ≡ other
one_print w =
    one_prints (λ _. CoordinatesPrint w.k (size w) (difference ring_64 w.k (size w) (uv w) (vu w))) (words_checked w)
    (λ u is one other p q.
    let bounds = taken w.k (size w) (sym (passed (shape_checked w.k (size w)) (letters_checked w.k (uv w)) u (sym is)).0) in
    let same = one_set w.k (size w) (uv w) (vu w) p.coordinates q.coordinates bounds.0 bounds.2 p.of_sheet q.of_sheet in
    p.lines ∙ ap (λ c. or_zero (lines_from w.k (size w) 0 c)) same ∙ sym q.lines)

pub one_line : (bs one other : List ℕ) → LinePrints bs one → LinePrints bs other → one ≡ other
one_line bs one other (words w f p) (words z g q) = one_print w one other p (subst (λ x. WordsPrint x other) (one_words bs z w g f) q)
one_line bs one other (words w f p) (malformed i s e) = absurd (means_or_stops MeansWords bs (w ∷ []) i (w, f, refl) s)
one_line bs one other (malformed i s e) (words w f p) = absurd (means_or_stops MeansWords bs (w ∷ []) i (w, f, refl) s)
one_line bs one other (malformed i s e) (malformed j t g) = e ∙ sym g
