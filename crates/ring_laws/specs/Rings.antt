-- Commutative rings with an image of each signed number of sixteen bits.
use Rattle.std.specs.Prelude.{◌≡◌, ◌≢◌, ℤ, pos, ◌+ℤ◌, ◌*ℤ◌, FitsSigned}
use mir.Syntax.{w16}

-- what a ring does with its values
pub record Operations (A : Type 0) : Type 0 where
  pub zero : A
  pub one : A
  pub plus : A → A → A
  pub negative : A → A
  pub times : A → A → A
  -- the image of a signed number of sixteen bits; of other numbers nothing is said
  pub image : ℤ → A

-- it is a signed number of sixteen bits
abbrev pub Small : ℤ → Type 0
Small z = FitsSigned w16 z

-- the laws of sums and products
pub record CommutativeRing {A : Type 0} (r : Operations A) : Type 0 where
  pub plus_associative : (a b c : A) → r.plus (r.plus a b) c ≡ r.plus a (r.plus b c)
  pub plus_commutative : (a b : A) → r.plus a b ≡ r.plus b a
  pub plus_zero : (a : A) → r.plus a r.zero ≡ a
  pub plus_negative : (a : A) → r.plus a (r.negative a) ≡ r.zero
  pub times_associative : (a b c : A) → r.times (r.times a b) c ≡ r.times a (r.times b c)
  pub times_commutative : (a b : A) → r.times a b ≡ r.times b a
  pub times_one : (a : A) → r.times a r.one ≡ a
  pub times_plus : (a b c : A) → r.times a (r.plus b c) ≡ r.plus (r.times a b) (r.times a c)
  pub one_zero : r.one ≢ r.zero

-- all laws of a ring; its images respect the sums and products that are small again
pub record Laws {A : Type 0} (r : Operations A) : Type 0 where
  pub ring : CommutativeRing r
  pub image_zero : r.image (pos 0) ≡ r.zero
  pub image_one : r.image (pos 1) ≡ r.one
  pub image_plus : (x y : ℤ) → Small x → Small y → Small (x +ℤ y) → r.image (x +ℤ y) ≡ r.plus (r.image x) (r.image y)
  pub image_times : (x y : ℤ) → Small x → Small y → Small (x *ℤ y) → r.image (x *ℤ y) ≡ r.times (r.image x) (r.image y)
