-- Axes in decimal.
use Rattle.std.proofs.Common.{◌≡◌, ℕ, ◌+◌, ◌-◌, ◌*◌, ◌<◌, ◌≤◌, List, [], ◌∷◌, ◌++◌, map, length, get_or, take, Err, decimal, sym, refl, ap, ◌∙◌, inl, inr, arith, lit<}
use Rattle.std.specs.Str.Parse.{digits_value}
use Rattle.std.specs.Int.Digits.{number_from_digits, number_from_digits_after}
use Rattle.std.specs.Char.{digit_value as digitValue}
use Rattle.std.proofs.lemmas.Fmt.{decimal_digit, decimal-digits_value, digits_decimal, first_decimal, digits_value-decimal}
use Rattle.std.proofs.lemmas.Int.Digits.{number_after_append, number_after_ge, digits_value_is, digits_value_more}
use Rattle.std.proofs.lemmas.List.{append-nil, get_or-take, length-take-le, map-append, take_all}
use Rattle.std.proofs.lemmas.List.Elements.{All-nil, All-cons, All-head, All-tail, All-take}
use Rattle.std.proofs.lemmas.Str.Parse.{IsNumeralModel, IsDigitsTest, numerals_by_value}
use Rattle.std.proofs.lemmas.Bool.{cases_lt}
use Rattle.std.proofs.lemmas.Bool.Decides.{nat_tests}
use Rattle.text.specs.Digits.{Digit, AllDigits}
use Rattle.text.specs.declared.fault.TextFault.TheVariants.{Malformed}
use Rattle.trace_text.specs.States.{LeadingZero, AxisFront, AxisRead}

tells_digits : IsDigitsTest AllDigits
tells_digits =
    record {
      empty = All-nil Digit;
      parts = λ c cs run. (All-head Digit c cs run, All-tail Digit c cs run);
      more = λ c cs digit run. All-cons Digit c cs digit run;
    }

numerals : IsNumeralModel AllDigits (digits_value 10)
numerals = numerals_by_value AllDigits tells_digits

pub decimal_digits : (axis : ℕ) → axis < 256 → AllDigits (decimal axis)
decimal_digits axis h = digits_decimal numerals axis (omega arith)

digit_value : (c : ℕ) → Digit c → digitValue c ≡ c - 48
digit_value c d = grind (arith, nat_tests)

-- one more digit
pub value_on : (ds : List ℕ) (i : ℕ) → AllDigits ds → i < length ds → digits_value 10 (take (i + 1) ds) ≡ digits_value 10 (take i ds) * 10 + (get_or ds i 0 - 48)
value_on ds i run h =
    digits_value_more 10 ds i h ∙ ap (λ n. digits_value 10 (take i ds) * 10 + n) (digit_value (get_or ds i 0) (run i 0 h))

-- more digits write no less
value_front : (s t : List ℕ) → digits_value 10 s ≤ digits_value 10 (s ++ t)
value_front s t =
    let ds = map digitValue s in
    let es = map digitValue t in
    let whole : digits_value 10 (s ++ t) ≡ number_from_digits_after 10 (number_from_digits 10 ds) es = digits_value_is 10 (s ++ t) ∙ ap (number_from_digits 10) (map-append digitValue s t) ∙ number_after_append 10 0 ds es in
    let least : number_from_digits 10 ds ≤ number_from_digits_after 10 (number_from_digits 10 ds) es = number_after_ge 10 (number_from_digits 10 ds) es (omega arith) in
    rw (whole, digits_value_is 10 s) least

written_back : (ds : List ℕ) → AllDigits ds → 0 < length ds → (LeadingZero ds → ⊥) → digits_value 10 ds < 256 → decimal (digits_value 10 ds) ≡ ds
written_back ds run some plain h = decimal-digits_value numerals ds run some (λ e. elim (cases_lt 1 (length ds)) [ inl k ↦ absurd (plain (k, e)) | inr k ↦ omega arith ]) (omega arith)

-- all the digits
pub axis_read : (ds : List ℕ) (k : ℕ) → AllDigits ds → 0 < length ds → (LeadingZero ds → ⊥) → length ds ≤ k → digits_value 10 (take k ds) < 256 → decimal (digits_value 10 (take k ds)) ≡ ds
axis_read ds k run some plain all h =
    let same : take k ds ≡ ds = take_all k ds all in
    rw same (written_back ds run some plain (rw same at h))

-- digits past 255 begin no axis
too_great : (ds : List ℕ) → 255 < digits_value 10 ds → AxisFront ds → ⊥
too_great ds h f =
    let e : digits_value 10 (decimal f.0) ≡ f.0 = digits_value-decimal numerals f.0 (omega (arith, f.2)) in
    let least : digits_value 10 ds ≤ digits_value 10 (decimal f.0) = rw f.3 (value_front ds f.1) in
    omega (arith, f.2)

pub axis_great : (ds : List ℕ) (i k : ℕ) → AllDigits ds → (LeadingZero ds → ⊥) → k < length ds → digits_value 10 (take k ds) < 256 → 255 < digits_value 10 (take (k + 1) ds) → AxisRead ds i (Err (Malformed (i + k)))
axis_great ds i k run plain h low high =
    let next = value_on ds k run h in
    let digit = run k 0 h in
    let some : 0 < k =
    elim (cases_lt 0 k) [
      | inl more ↦ more
      | inr none ↦
          let first : digits_value 10 (take k ds) ≡ 0 = ap (λ n. digits_value 10 (take n ds)) (let e : k ≡ 0 = omega arith in e) in
          absurd (omega arith)
    ] in
    let size = length-take-le k ds (omega arith) in
    let front : AllDigits (take k ds) = All-take Digit k ds run in
    let written = written_back (take k ds) front (omega arith) (λ zero. plain (omega (arith, zero.0), sym (get_or-take k ds 0 0 some) ∙ zero.1)) low in
    (k, refl, h, (digits_value 10 (take k ds), [], low, rw append-nil written), too_great (take (k + 1) ds) high)

-- a zero in front is the whole axis
zero_alone : (axis c d : ℕ) (rest : List ℕ) → axis < 256 → c ≡ 48 → decimal axis ≡ c ∷ d ∷ rest → ⊥
zero_alone axis c d rest h zero e =
    elim (cases_lt 0 axis) [
      | inl some ↦
          let first = first_decimal axis some (omega arith) in
          let is : get_or (decimal axis) 0 0 ≡ c = ap (λ l. get_or l 0 0) e in
          omega arith
      | inr none ↦
          let one : length (decimal axis) ≡ 1 = ap length (decimal_digit axis (omega arith)) in
          let more = ap length e in
          omega arith
    ]

pub axis_zero : (ds : List ℕ) (i : ℕ) → LeadingZero ds → AxisRead ds i (Err (Malformed (i + 1)))
axis_zero [] i h = absurd (omega (arith, h.0))
axis_zero (c ∷ []) i h = absurd (omega (arith, h.0))
axis_zero (c ∷ d ∷ ds) i h =
    (1, refl, h.0, (0, [], lit< tt, rw h.1 (decimal_digit 0 (lit< tt))), λ f. zero_alone f.0 c d f.1 f.2 h.1 f.3)
