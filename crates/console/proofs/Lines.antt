-- Lines that are written into a buffer that can hold them.
use Rattle.std.proofs.Common.{◌≡◌, ℕ, ◌<◌, ◌≤◌, List, [], ◌∷◌, length, take, decimal, Ok, Err, Result, IsOk, refl, subst, arith, length-append}
use Rattle.std.proofs.lemmas.Fmt.{length-decimal-le}
use Rattle.faults.specs.declared.Fault.{Fault}
use Rattle.faults.specs.Outcome.{told}
use Rattle.text.specs.Lines.{fault_line, written, left}
use Rattle.text.proofs.Written.{line_fits, line_stands}

-- the call is answered
pub line_answered : {E : Type 0} (why : E → Fault) (r : Result ℕ E) (bytes buffer : List ℕ) → told (λ n. n) why r ≡ written bytes buffer → length bytes ≤ length buffer → IsOk r
line_answered why (Ok n) bytes buffer is h = refl
line_answered why (Err e) bytes buffer is h = absurd (line_fits bytes buffer (why e) h is)

-- the line fills the front of the buffer
pub line_in_front : {E : Type 0} (why : E → Fault) (r : Result ℕ E) (bytes buffer after : List ℕ) (n : ℕ) → told (λ n. n) why r ≡ written bytes buffer → after ≡ left bytes buffer → r ≡ Ok n → (take n after ≡ bytes) × (n ≤ length buffer)
line_in_front why r bytes buffer after n is stands e =
    line_stands bytes buffer after n (subst (λ x. told (λ m. m) why x ≡ written bytes buffer) e is) stands

-- the line of a fault is short
pub fault_line_short : (number : ℕ) → number < 256 → length (fault_line number) ≤ 16
fault_line_short number h =
    omega (arith, length-append (decimal number) (10 ∷ []), length-decimal-le 3 number (omega arith) (omega arith) (omega arith))
