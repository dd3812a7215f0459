-- What follows from the laws of an order.
use Rattle.std.proofs.Common.{◌≡◌, ℕ, true, false, ◌⊎◌, Ordering, Less, Equal, Greater, sym, refl, ap, ◌∙◌, inl, inr, arith}
use borrow.Author.Tests.{clash}
use Rattle.std.specs.Ordering.{is_lt, ordering_reverse}
use Rattle.letter_order.specs.Orders.{TotalOrder}

-- before, the same or after
abbrev pub Ranked : {A : Type 0} → (A → A → Ordering) → A → A → Type 0
Ranked ranks x y = (ranks x y ≡ Less) ⊎ ((x ≡ y) ⊎ (ranks y x ≡ Less))

pub equal_less : Equal ≡ Less → ⊥
equal_less h = let z : ◌≡◌ {A = ℕ} 0 1 = cc in omega arith

pub greater_less : Greater ≡ Less → ⊥
greater_less h = let z : ◌≡◌ {A = ℕ} 0 1 = cc in omega arith

pub greater_equal : Greater ≡ Equal → ⊥
greater_equal h = let z : ◌≡◌ {A = ℕ} 0 1 = cc in omega arith

-- what a test for before says
pub is_before : (r : Ordering) → is_lt r ≡ true → r ≡ Less
is_before Less h = refl
is_before Equal h = absurd (clash h)
is_before Greater h = absurd (clash h)

module _ {A : Type 0} {ranks : A → A → Ordering} (o : TotalOrder ranks) where
  -- neither is before the other
  pub neither_before : (x y : A) → is_lt (ranks x y) ≡ false → is_lt (ranks y x) ≡ false → ranks x y ≡ Equal
  neither_before x y h k = go (ranks x y) refl
    where
      go : (r : Ordering) → ranks x y ≡ r → r ≡ Equal
      go Less e = absurd (clash (sym h ∙ ap is_lt e))
      go Equal e = refl
      go Greater e = absurd (clash (sym k ∙ ap is_lt (o.exchanged x y ∙ ap ordering_reverse e)))

  pub not_itself : (x : A) → ranks x x ≡ Less → ⊥
  not_itself x h = equal_less (sym ((o.same x x).1 refl) ∙ h)

  pub not_both : (x y : A) → ranks x y ≡ Less → ranks y x ≡ Less → ⊥
  not_both x y h k = not_itself x (o.transitive x y x h k)

  pub ranked : (x y : A) → Ranked ranks x y
  ranked x y = go (ranks x y) refl
    where
      go : (r : Ordering) → ranks x y ≡ r → Ranked ranks x y
      go Less e = inl e
      go Equal e = inr (inl ((o.same x y).0 e))
      go Greater e = inr (inr (o.exchanged x y ∙ ap ordering_reverse e))

  pub decided : (x y : A) → Dec (ranks x y ≡ Less)
  decided x y =
      elim (ranked x y) [
        | inl h ↦ yes h
        | inr (inl e) ↦ no (λ h. not_itself y (rw e at h))
        | inr (inr k) ↦ no (λ h. not_both x y h k)
      ]

  -- x is not after y, and y is before z
  pub le_lt : (x y z : A) → (ranks y x ≡ Less → ⊥) → ranks y z ≡ Less → ranks x z ≡ Less
  le_lt x y z h k = elim (ranked x y) [ inl l ↦ o.transitive x y z l k | inr (inl e) ↦ rw e k | inr (inr l) ↦ absurd (h l) ]

  pub lt_le : (x y z : A) → ranks x y ≡ Less → (ranks z y ≡ Less → ⊥) → ranks x z ≡ Less
  lt_le x y z h k = elim (ranked y z) [ inl l ↦ o.transitive x y z h l | inr (inl e) ↦ rw e at h | inr (inr l) ↦ absurd (k l) ]
