-- Runs of digits in a text.
use Rattle.std.proofs.Common.{◌≡◌, ℕ, ◌+◌, ◌<◌, ◌≤◌, suc, Bool, true, false, cond, List, [], ◌∷◌, ◌++◌, length, get_or, take, drop, sym, refl, ap, ◌∙◌, arith}
use Rattle.std.specs.List.{prefix_len}
use Rattle.std.specs.Char.{is_ascii_digit}
use Rattle.std.proofs.lemmas.Bool.Decides.{nat_tests}
use Rattle.std.proofs.lemmas.List.{append-nil}
use Rattle.std.proofs.lemmas.List.Elements.{All-nil, All-cons, All-head, All-tail}
use Rattle.text.specs.Reading.{Begins}
use Rattle.text.specs.Digits.{Digit, NotDigit, AllDigits}

-- the digits with which a text begins
pub record Run (bs : List ℕ) (n : ℕ) : Type 0 where
  pub within : n ≤ length bs
  pub digits : AllDigits (take n bs)
  pub whole : Begins NotDigit (drop n bs)
  pub some : 0 < length bs → Digit (get_or bs 0 0) → 0 < n

run_on : (c : ℕ) (bs : List ℕ) (n : ℕ) (b : Bool) → b ≡ is_ascii_digit c → Run bs n → Run (c ∷ bs) (cond b (1 + n) 0)
run_on c bs n true is h =
    let digit : Digit c = (grind (arith, nat_tests), grind (arith, nat_tests)) in
    let front : AllDigits (c ∷ take n bs) = All-cons Digit c (take n bs) digit h.digits in
    let size : 1 + n ≡ suc n = omega arith in
    rw size
    (record {
      within = (let k = h.within in omega arith);
      digits = front;
      whole = h.whole;
      some = λ long digit. omega arith;
    })
run_on c bs n false is h =
    let none : NotDigit c = λ digit. grind (arith, nat_tests, digit) in
    record { within = omega arith; digits = All-nil Digit; whole = none; some = λ long digit. absurd (none digit) }

pub leading_run : (bs : List ℕ) → Run bs (prefix_len is_ascii_digit bs)
leading_run [] = record { within = omega arith; digits = All-nil Digit; whole = tt; some = λ long digit. absurd (omega arith) }
leading_run (c ∷ bs) = run_on c bs (prefix_len is_ascii_digit bs) (is_ascii_digit c) refl (leading_run bs)

digits_back : (s t : List ℕ) → AllDigits (s ++ t) → AllDigits t
digits_back [] t run = run
digits_back (c ∷ s) t run = digits_back s t (All-tail Digit c (s ++ t) run)

-- digits in front of a text, where another run ends at the latest with those behind it: a front of that run
pub run_front : (whole behind digits rest : List ℕ) → whole ++ behind ≡ digits ++ rest → AllDigits digits → Begins NotDigit behind → (more : List ℕ) × (whole ≡ digits ++ more) × (rest ≡ more ++ behind)
run_front whole behind [] rest e run stop = (whole, refl, sym e)
run_front [] [] (c ∷ digits) rest e run stop = absurd (cc)
run_front [] (b ∷ behind) (c ∷ digits) rest e run stop =
    let s : b ≡ c = cc in
    absurd (stop (rw s (All-head Digit c digits run)))
run_front (d ∷ whole) behind (c ∷ digits) rest e run stop =
    let s : d ≡ c = cc in
    let t : whole ++ behind ≡ digits ++ rest = cc in
    let f = run_front whole behind digits rest t (All-tail Digit c digits run) stop in
    (f.0, rw s (ap (λ l. c ∷ l) f.1), f.2)

-- digits that are followed by none, and stand in a run behind which there is none
no_more : (more behind : List ℕ) → AllDigits more → Begins NotDigit (more ++ behind) → more ≡ []
no_more [] behind run stop = refl
no_more (c ∷ more) behind run stop = absurd (stop (All-head Digit c more run))

-- two runs behind which there is no digit
pub same_run : (a s b t : List ℕ) → a ++ s ≡ b ++ t → AllDigits a → AllDigits b → Begins NotDigit s → Begins NotDigit t → (a ≡ b) × (s ≡ t)
same_run a s b t e run-a run-b stop-s stop-t =
    let f = run_front a s b t e run-b stop-s in
    let none : f.0 ≡ [] = no_more f.0 s (digits_back b f.0 (rw f.1 at run-a)) (rw f.2 at stop-t) in
    (f.1 ∙ ap (λ l. b ++ l) none ∙ append-nil b, sym (f.2 ∙ ap (λ l. l ++ s) none))
