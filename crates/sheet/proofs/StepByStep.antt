-- The steps of a conversion, as the code takes them.
use Rattle.std.proofs.Common.{◌≡◌, ℕ, suc, ◌-◌, ◌^◌, ◌<◌, List, Option, Some, length, get_or, set, sym, ap, ap₂, ◌∙◌, arith}
use Rattle.std.proofs.lemmas.List.{get_or_default}
use Rattle.ring_laws.specs.Rings.{Operations, Laws}
use Rattle.lyndon.specs.Codes.{spelled}
use Rattle.sheet_laws.specs.Terms.{raised}
use Rattle.sheet_laws.specs.Steps.{taken_out, reduced, put_back, restored}
use Rattle.sheet_laws.proofs.Conversion.{taken_none, put_none}
use Rattle.sheet_laws.proofs.Coordinates.{reduced_coordinates, restored_combined}
use Rattle.bracket_table.specs.Views.{Dimensions}
use Rattle.sheet.specs.Calls.{IntoLeaves, back_leaves}

module _ {A : Type 0} (ring : Operations A) (laws : Laws ring) (k m p : ℕ) (s : List A) (x : A) where
  pub none_taken : x ≡ get_or s p x → x ≡ ring.zero → length s ≡ k ^ m → 0 < k → p < k ^ m → s ≡ taken_out ring k m p s
  none_taken e z n some h = sym (taken_none ring laws k m some p s n h (ap (get_or s p) (sym z) ∙ sym e ∙ z))

  pub none_put : x ≡ get_or s p x → x ≡ ring.zero → length s ≡ k ^ m → 0 < k → p < k ^ m → s ≡ put_back ring k m p s
  none_put e z n some h = sym (put_none ring laws k m some p s n h (ap (get_or s p) (sym z) ∙ sym e ∙ z))

module _ {A : Type 0} (ring : Operations A) (k m p : ℕ) (s t : List A) (x y : A) where
  read : x ≡ get_or s p x → p < length s → x ≡ get_or s p ring.zero
  read e h = e ∙ get_or_default s p x ring.zero h

  pub one_taken : t ≡ raised ring k (spelled k m p) y s → y ≡ ring.negative x → x ≡ get_or s p x → p < length s → set t p x ≡ taken_out ring k m p s
  one_taken e f r h = ap₂ (λ l v. set l p v) (e ∙ ap (λ v. raised ring k (spelled k m p) v s) (f ∙ ap ring.negative (read r h))) (read r h)

  pub one_put : x ≡ get_or s p x → y ≡ ring.zero → p < length s → t ≡ raised ring k (spelled k m p) x (set s p y) → t ≡ put_back ring k m p s
  one_put r f h e = e ∙ ap₂ (λ v z. raised ring k (spelled k m p) v (set s p z)) (read r h) f

-- the way back goes downward: p words are left, and then one word less
pub restored_less : {A : Type 0} (ring : Operations A) (k m p : ℕ) (s t z : List A) → restored ring k m p s ≡ z → 0 < p → t ≡ put_back ring k m (p - 1) s → restored ring k m (p - 1) t ≡ z
restored_less ring k m p s t z e h f =
    let one : p ≡ suc (p - 1) = omega arith in
    ap (restored ring k m (p - 1)) f ∙ sym (ap (λ j. restored ring k m j s) one) ∙ e

-- ---- when all steps are taken

module _ {A : Type 0} (ring : Operations A) (laws : Laws ring) (shape : Option Dimensions) (k n m : ℕ) (s t : List A) where
  pub all_reduced : shape ≡ Some (record { k = k; n = n }) → t ≡ reduced ring k m (k ^ m) s → length s ≡ k ^ m → 0 < k → IntoLeaves ring shape m s t
  all_reduced e f h some = rw (e, f) (reduced_coordinates ring laws k m some s h)

  pub all_restored : shape ≡ Some (record { k = k; n = n }) → t ≡ restored ring k m (k ^ m) s → length s ≡ k ^ m → 0 < k → t ≡ back_leaves ring shape m s
  all_restored e f h some = f ∙ restored_combined ring laws k m some s h ∙ sym (ap (λ d. back_leaves ring d m s) e)
