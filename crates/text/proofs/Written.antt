-- What a caller knows of a line that was written into its buffer.
use Rattle.std.proofs.Common.{◌≡◌, ℕ, ◌≤◌, cond, ltb, List, length, take, drop, sym, ap, ◌∙◌, arith, ltb-false, ltb-true}
use Rattle.std.proofs.lemmas.List.{take_at}
use Rattle.faults.specs.declared.Fault.{Fault}
use Rattle.faults.specs.declared.Layer.TheVariants.{Text}
use Rattle.faults.specs.Faults.{found}
use Rattle.faults.specs.Outcome.Outcome.{answered, refused}
use Rattle.faults.proofs.Checks.{answered_by, refused_by}
use Rattle.lent_list.specs.Lent.{over}
use Rattle.text.specs.Lines.{written, left}

-- the bytes stand in the front of the buffer
pub line_stands : (bytes buffer after : List ℕ) (n : ℕ) → answered n ≡ written bytes buffer → after ≡ left bytes buffer → (take n after ≡ bytes) × (n ≤ length buffer)
line_stands bytes buffer after n told is =
    let a = answered_by (ltb (length buffer) (length bytes)) (found 7 Text 0 0) n (length bytes) told in
    let e : after ≡ over bytes buffer = is ∙ ap (λ b. cond b buffer (over bytes buffer)) a.0 in (
      ap (take n) e ∙ take_at bytes (drop (length bytes) buffer) n (sym a.1),
      omega (arith, a.1, ltb-false (length buffer) (length bytes) a.0),
    )

-- a buffer that is long enough is not refused
pub line_fits : (bytes buffer : List ℕ) (e : Fault) → length bytes ≤ length buffer → refused e ≡ written bytes buffer → ⊥
line_fits bytes buffer e h told =
    omega (arith, ltb-true (length buffer) (length bytes) (refused_by (ltb (length buffer) (length bytes)) e (found 7 Text 0 0) (length bytes) told).0)
