-- One thing is printed for a line.
use Rattle.std.proofs.Common.{◌≡◌, ℕ, List, [], ◌∷◌, get_or, sym, ap, ◌∙◌, subst}
use Rattle.text.proofs.Reading.{means_or_stops}
use Rattle.input_text.specs.Shapes.{IsShape}
use Rattle.input_text.proofs.Outcomes.{one_meaning}
use Rattle.bracket_table.specs.Views.{shape_checked}
use Rattle.console.proofs.Reports.{one_prints}
use Rattle.table.specs.Printed.{LinePrints, ShapePrints, printed_table}
use Rattle.table.specs.Printed.LinePrints.{shape, malformed}

one_shape : (k n : ℕ) (one other : List ℕ) → ShapePrints k n one → ShapePrints k n other → one ≡ other
one_shape k n one other p q =
    one_prints (λ _ lines. lines ≡ printed_table k n) (shape_checked k n) (λ _ _ a b e f. e ∙ sym f) one other p q

pub one_line : (bs one other : List ℕ) → LinePrints bs one → LinePrints bs other → one ≡ other
one_line bs one other (shape k n f p) (shape m j g q) =
    let same : m ∷ j ∷ [] ≡ k ∷ n ∷ [] = one_meaning bs (m ∷ j ∷ []) (k ∷ n ∷ []) g f in
    let first : m ≡ k = ap (λ l. get_or l 0 0) same in
    let second : j ≡ n = ap (λ l. get_or l 1 0) same in
    one_shape k n one other p (subst (λ z. ShapePrints k z other) second (subst (λ z. ShapePrints z j other) first q))
one_line bs one other (shape k n f p) (malformed i s e) = absurd (means_or_stops IsShape bs (k ∷ n ∷ []) i f s)
one_line bs one other (malformed i s e) (shape k n f p) = absurd (means_or_stops IsShape bs (k ∷ n ∷ []) i f s)
one_line bs one other (malformed i s e) (malformed j t g) = e ∙ sym g
