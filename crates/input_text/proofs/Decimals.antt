-- Numbers below 100 in decimal.
use Rattle.std.proofs.Common.{◌≡◌, ℕ, ◌+◌, ◌/◌, ◌%◌, ◌<◌, ◌≤◌, ◌⊎◌, List, [], ◌∷◌, ◌++◌, length, decimal, ap, ◌∙◌, inl, inr, arith}
use Rattle.std.proofs.lemmas.Fmt.{decimal_digit, decimal_nonempty, decimal_step}
use Rattle.std.proofs.lemmas.List.{length-append}
use Rattle.std.proofs.lemmas.Bool.{cases_lt}
use Rattle.text.specs.Reading.{Begins}
use Rattle.text.specs.Digits.{Digit, NotDigit}

pub two_digits : (k : ℕ) → 10 ≤ k → k < 100 → decimal k ≡ (48 + k / 10) ∷ (48 + k % 10) ∷ []
two_digits k more small =
    decimal_step k more (omega arith) ∙ ap (λ l. l ++ (48 + k % 10) ∷ []) (decimal_digit (k / 10) (omega arith))

-- one digit, or two
digits_of : (k : ℕ) → k < 100 → ((k < 10) × (decimal k ≡ (48 + k) ∷ [])) ⊎ ((10 ≤ k) × (decimal k ≡ (48 + k / 10) ∷ (48 + k % 10) ∷ []))
digits_of k small =
    elim (cases_lt k 10) [ inl one ↦ inl (one, decimal_digit k one) | inr more ↦ inr (more, two_digits k more small) ]

-- a number begins with a digit
pub first_digit : (k c : ℕ) (s t : List ℕ) → k < 100 → c ∷ s ≡ decimal k ++ t → Digit c
first_digit k c s t small e =
    elim (digits_of k small) [
      | inl a ↦
          let is : c ∷ s ≡ (48 + k) ∷ t = rw a.1 at e in
          let first : c ≡ 48 + k = cc in
          (omega arith, omega (arith, a.0))
      | inr a ↦
          let is : c ∷ s ≡ (48 + k / 10) ∷ (48 + k % 10) ∷ t = rw a.1 at e in
          let first : c ≡ 48 + k / 10 = cc in
          (omega arith, omega arith)
    ]

pub not_empty : (k : ℕ) (t : List ℕ) → k < 100 → [] ≡ decimal k ++ t → ⊥
not_empty k t small e = omega (arith, decimal_nonempty k (omega arith), simp length-append at (ap length e))

-- c is no further digit of the number k: only a single digit that is no zero can be followed by another
abbrev pub Ends : ℕ → ℕ → Type 0
Ends k c = Digit c → (k ≡ 0) ⊎ (10 ≤ k)

-- a number that is read as far as it goes is the only one with which the text can begin
pub number_cut : (k m : ℕ) (s t : List ℕ) → k < 100 → m < 100 → decimal k ++ s ≡ decimal m ++ t → Begins (Ends k) s → Begins NotDigit t → (k ≡ m) × (s ≡ t)
number_cut k m s t small other e stop end =
    elim (digits_of k small) [
      | inl a ↦
          elim (digits_of m other) [
            | inl b ↦
                let is : (48 + k) ∷ s ≡ (48 + m) ∷ t = rw (a.1, b.1) at e in
                let first : 48 + k ≡ 48 + m = cc in
                (omega arith, cc)
            | inr b ↦
                let is : (48 + k) ∷ s ≡ (48 + m / 10) ∷ (48 + m % 10) ∷ t = rw (a.1, b.1) at e in
                let first : 48 + k ≡ 48 + m / 10 = cc in
                let next : s ≡ (48 + m % 10) ∷ t = cc in
                let ends : Ends k (48 + m % 10) = rw next at stop in
                absurd (omega (arith, a.0, b.0, ends (omega arith, omega arith)))
          ]
      | inr a ↦
          elim (digits_of m other) [
            | inl b ↦
                let is : (48 + k / 10) ∷ (48 + k % 10) ∷ s ≡ (48 + m) ∷ t = rw (a.1, b.1) at e in
                let next : t ≡ (48 + k % 10) ∷ s = cc in
                let ends : NotDigit (48 + k % 10) = rw next at end in
                absurd (ends (omega arith, omega arith))
            | inr b ↦
                let is : (48 + k / 10) ∷ (48 + k % 10) ∷ s ≡ (48 + m / 10) ∷ (48 + m % 10) ∷ t = rw (a.1, b.1) at e in
                let first : 48 + k / 10 ≡ 48 + m / 10 = cc in
                let second : 48 + k % 10 ≡ 48 + m % 10 = cc in
                (omega arith, cc)
          ]
    ]
