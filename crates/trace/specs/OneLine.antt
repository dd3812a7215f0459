-- One thing is printed for a line.
use Rattle.std.proofs.Common.{◌≡◌, ℕ, List, refl, ap}
use Rattle.letter_order.specs.Moves.{by_axis}
use Rattle.letter_order.specs.Orders.{reversed_order}
use Rattle.lyndon.specs.Factoring.{factors}
use Rattle.text.proofs.Reading.{means_or_stops}
use Rattle.trace_text.specs.Traces.{IsTrace}
use Rattle.trace_text.proofs.Outcomes.{one_meaning}
use Rattle.trace.specs.Printed.{LinePrints, factor_lines}
use Rattle.trace.specs.Printed.LinePrints.{factored, malformed}

pub one_line : (bs one other : List ℕ) → LinePrints bs one → LinePrints bs other → one ≡ other
one_line bs one other (factored ms f) (factored ns g) = ap (λ l. factor_lines 0 (factors (reversed_order by_axis) l)) (one_meaning bs ms ns f g)
one_line bs one other (factored ms f) (malformed p s) = absurd (means_or_stops IsTrace bs ms p f s)
one_line bs one other (malformed p s) (factored ms f) = absurd (means_or_stops IsTrace bs ms p f s)
one_line bs one other (malformed p s) (malformed q t) = refl
