-- What follows from the laws of a ring.
use Rattle.std.proofs.Common.{◌≡◌, sym, ap, ap₂, ◌∙◌}
use Rattle.ring_laws.specs.Rings.{Operations, CommutativeRing}

module _ {A : Type 0} {r : Operations A} (l : CommutativeRing r) where
  pub zero_plus : (a : A) → r.plus r.zero a ≡ a
  zero_plus a = l.plus_commutative r.zero a ∙ l.plus_zero a

  pub negative_plus : (a : A) → r.plus (r.negative a) a ≡ r.zero
  negative_plus a = l.plus_commutative (r.negative a) a ∙ l.plus_negative a

  -- what is added and then taken away
  taken_away : (a c : A) → r.plus (r.plus a c) (r.negative c) ≡ a
  taken_away a c = l.plus_associative a c (r.negative c) ∙ ap (r.plus a) (l.plus_negative c) ∙ l.plus_zero a

  pub cancel : (a b c : A) → r.plus a c ≡ r.plus b c → a ≡ b
  cancel a b c e = sym (taken_away a c) ∙ ap (λ x. r.plus x (r.negative c)) e ∙ taken_away b c

  pub plus_swap : (a b c : A) → r.plus a (r.plus b c) ≡ r.plus b (r.plus a c)
  plus_swap a b c = sym (l.plus_associative a b c) ∙ ap (λ x. r.plus x c) (l.plus_commutative a b) ∙ l.plus_associative b a c

  pub times_swap : (a b c : A) → r.times a (r.times b c) ≡ r.times b (r.times a c)
  times_swap a b c = sym (l.times_associative a b c) ∙ ap (λ x. r.times x c) (l.times_commutative a b) ∙ l.times_associative b a c

  pub one_times : (a : A) → r.times r.one a ≡ a
  one_times a = l.times_commutative r.one a ∙ l.times_one a

  pub plus_times : (a b c : A) → r.times (r.plus a b) c ≡ r.plus (r.times a c) (r.times b c)
  plus_times a b c = l.times_commutative (r.plus a b) c ∙ l.times_plus c a b ∙ ap₂ r.plus (l.times_commutative c a) (l.times_commutative c b)

  pub times_zero : (a : A) → r.times a r.zero ≡ r.zero
  times_zero a =
      cancel (r.times a r.zero) r.zero (r.times a r.zero)
      (sym (l.times_plus a r.zero r.zero) ∙ ap (r.times a) (l.plus_zero r.zero) ∙ sym (zero_plus (r.times a r.zero)))

  pub zero_times : (a : A) → r.times r.zero a ≡ r.zero
  zero_times a = l.times_commutative r.zero a ∙ times_zero a

  -- what gives zero with b is the opposite of b
  pub negative_is : (a b : A) → r.plus a b ≡ r.zero → a ≡ r.negative b
  negative_is a b e = cancel a (r.negative b) b (e ∙ sym (negative_plus b))

  pub negative_negative : (a : A) → r.negative (r.negative a) ≡ a
  negative_negative a = sym (negative_is a (r.negative a) (l.plus_negative a))

  pub negative_zero : r.negative r.zero ≡ r.zero
  negative_zero = sym (negative_is r.zero r.zero (l.plus_zero r.zero))

  pub plus_negatives : (a b : A) → r.plus (r.negative a) (r.negative b) ≡ r.negative (r.plus a b)
  plus_negatives a b =
      negative_is (r.plus (r.negative a) (r.negative b)) (r.plus a b)
      (l.plus_associative (r.negative a) (r.negative b) (r.plus a b)
      ∙ ap (r.plus (r.negative a)) (plus_swap (r.negative b) a b ∙ ap (r.plus a) (negative_plus b) ∙ l.plus_zero a)
      ∙ negative_plus a)

  pub negative_times : (a b : A) → r.times (r.negative a) b ≡ r.negative (r.times a b)
  negative_times a b =
      negative_is (r.times (r.negative a) b) (r.times a b)
      (sym (plus_times (r.negative a) a b) ∙ ap (λ x. r.times x b) (negative_plus a) ∙ zero_times b)

  pub times_negative : (a b : A) → r.times a (r.negative b) ≡ r.negative (r.times a b)
  times_negative a b = l.times_commutative a (r.negative b) ∙ negative_times b a ∙ ap r.negative (l.times_commutative b a)
