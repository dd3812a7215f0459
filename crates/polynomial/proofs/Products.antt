-- The product of polynomials: where it is 0, where one cut is left of its sum, and the unit.
use Rattle.std.proofs.Common.{◌≡◌, ◌≢◌, ℕ, ◌≤◌, ◌⊎◌, List, [], ◌∷◌, ◌++◌, length, take, drop, ℤ, pos, ◌+ℤ◌, ◌-ℤ◌, ◌*ℤ◌, sym, refl, ap, ap₂, ◌∙◌, inl, inr, arith, take-append-drop, length-take-le}
use Rattle.std.proofs.Math.IntN.{one, zero-*ℤ, *ℤ-zero, *ℤ-one, +ℤ_idl, +ℤ_idr}
use Rattle.polynomial.specs.Polynomials.{only, times}

-- x has coefficients only at words of n letters
abbrev pub Sized : (List ℕ → ℤ) → ℕ → Type 0
Sized x n = (u : List ℕ) → length u ≢ n → x u ≡ pos 0

sum_none : (a b : ℤ) → a ≡ pos 0 → b ≡ pos 0 → a +ℤ b ≡ pos 0
sum_none a b h k = rw (h, k)

pub difference_none : (a b : ℤ) → a ≡ pos 0 → b ≡ pos 0 → a -ℤ b ≡ pos 0
difference_none a b h k = rw (h, k)

product_none : (a b : ℤ) → (a ≡ pos 0) ⊎ (b ≡ pos 0) → a *ℤ b ≡ pos 0
product_none a b (inl h) = rw h (zero-*ℤ b)
product_none a b (inr h) = rw h (*ℤ-zero a)

-- a sum of which each part is 0
pub times_none : (x y : List ℕ → ℤ) (u : List ℕ) → ((p q : List ℕ) → u ≡ p ++ q → (x p ≡ pos 0) ⊎ (y q ≡ pos 0)) → times x y u ≡ pos 0
times_none x y [] h = product_none (x []) (y []) (h [] [] refl)
times_none x y (a ∷ u) h =
    let first = product_none (x []) (y (a ∷ u)) (h [] (a ∷ u) refl) in
    let others = times_none (λ p. x (a ∷ p)) y u (λ p q e. h (a ∷ p) q (ap (λ z. a ∷ z) e)) in
    sum_none (x [] *ℤ y (a ∷ u)) (times (λ p. x (a ∷ p)) y u) first others

-- a sum of which one part is left
pub times_at : (x y : List ℕ → ℤ) (p q : List ℕ) → Sized x (length p) → times x y (p ++ q) ≡ x p *ℤ y q
times_at x y [] [] h = refl
times_at x y [] (a ∷ q) h =
    ap (λ z. x [] *ℤ y (a ∷ q) +ℤ z) (times_none (λ p. x (a ∷ p)) y q (λ p r e. inl (h (a ∷ p) (λ n. omega arith))))
    ∙ +ℤ_idr (x [] *ℤ y (a ∷ q))
times_at x y (a ∷ p) q h =
    let first = product_none (x []) (y (a ∷ p ++ q)) (inl (h [] (λ n. omega arith))) in
    let others = times_at (λ r. x (a ∷ r)) y p q (λ r n. h (a ∷ r) (λ m. n (omega arith))) in
    ap₂ ◌+ℤ◌ first others ∙ +ℤ_idl (x (a ∷ p) *ℤ y q)

-- the same, where the word is cut behind n letters
pub times_cut : (x y : List ℕ → ℤ) (n : ℕ) (u : List ℕ) → Sized x n → n ≤ length u → times x y u ≡ x (take n u) *ℤ y (drop n u)
times_cut x y n u h le =
    ap (times x y) (sym (take-append-drop n u))
    ∙ times_at x y (take n u) (drop n u) (λ r k. h r (λ e. k (e ∙ sym (length-take-le n u le))))

-- the polynomial of the empty word is a unit
unit_at : (x : List ℕ → ℤ) (u : List ℕ) → times x (only []) u ≡ x u
unfolding one
unit_at x [] = *ℤ-one (x [])
unit_at x (a ∷ u) = ap₂ ◌+ℤ◌ (*ℤ-zero (x [])) (unit_at (λ p. x (a ∷ p)) u) ∙ +ℤ_idl (x (a ∷ u))

pub times_unit : (x : List ℕ → ℤ) → times x (only []) ≡ x
times_unit x = λ i. λ u. unit_at x u i
