-- Coordinates that are zero but at Lyndon words, as the code goes through them.
use Rattle.std.proofs.Common.{◌≡◌, ℕ, ◌+◌, ◌^◌, ◌<◌, Bool, true, false, List, Option, Some, length, get_or, sym, ap, ◌∙◌, subst, inl, inr, arith}
use Rattle.std.specs.Prelude.{Decides}
use borrow.Author.Tests.{clash}
use Rattle.std.proofs.lemmas.Bool.{cases_lt, cases_Bool}
use Rattle.std.proofs.lemmas.List.{get_or_default}
use Rattle.ring_laws.specs.Rings.{Operations}
use Rattle.letter_order.specs.Orders.{by_value}
use Rattle.lyndon.specs.Words.{Lyndon}
use Rattle.lyndon.specs.Codes.{code, spelled}
use Rattle.lyndon.specs.Listing.{lyndon}
use Rattle.lyndon.proofs.Codes.{lyndon_says, says_lyndon, length-spelled, spelled-over, code-spelled, code_below, spelled-code}
use Rattle.sheet_laws.specs.Brackets.{OnlyLyndon}
use Rattle.bracket_table.specs.Views.{Dimensions}
use Rattle.sheet.specs.Calls.{LieSaysYes}

module _ {A : Type 0} (ring : Operations A) (k m : ℕ) (c : List A) where
  -- of the coordinates below a place, each at a word that is not Lyndon is zero
  unfoldable pub OnlyLyndonBelow : ℕ → Type 0
  OnlyLyndonBelow n = (p : ℕ) → p < n → lyndon (spelled k m p) ≡ false → get_or c p ring.zero ≡ ring.zero

  pub none_below : OnlyLyndonBelow 0
  unfolding OnlyLyndonBelow
  none_below p h n = absurd (omega arith)

  next_below : (p : ℕ) → OnlyLyndonBelow p → (lyndon (spelled k m p) ≡ false → get_or c p ring.zero ≡ ring.zero) → OnlyLyndonBelow (p + 1)
  unfolding OnlyLyndonBelow
  next_below p a f q h n =
      elim (cases_lt q p) [
        | inl l ↦ a q l n
        | inr l ↦ let e : q ≡ p = omega arith in rw e (f (rw e at n))
      ]

  -- every word of m letters has a place
  all_below : 0 < k → OnlyLyndonBelow (k ^ m) → OnlyLyndon ring k m c
  unfolding OnlyLyndonBelow OnlyLyndon
  all_below some a w o n other =
      let there : code k w < k ^ m = subst (λ j. code k w < k ^ j) n (code_below k w o) in
      let word : spelled k m (code k w) ≡ w = ap (λ j. spelled k j (code k w)) (sym n) ∙ spelled-code k w some o in
      elim (cases_Bool (lyndon w)) [
        | inl e ↦ absurd (other (lyndon_says w e))
        | inr e ↦ a (code k w) there (ap lyndon word ∙ e)
      ]

  pub all_seen : (b : Bool) → b ≡ true → 0 < k → (n : ℕ) → n ≡ k ^ m → OnlyLyndonBelow n → Decides b (OnlyLyndon ring k m c)
  all_seen b e some n h a = (λ d. all_below some (subst OnlyLyndonBelow h a), λ d. e)

module _ {A : Type 0} (ring : Operations A) (k m : ℕ) (c : List A) (p : ℕ) (x : A) where
  read : x ≡ get_or c p x → p < length c → get_or c p ring.zero ≡ x
  read r h = sym (r ∙ get_or_default c p x ring.zero h)

  pub zero_below : OnlyLyndonBelow ring k m c p → x ≡ get_or c p x → p < length c → x ≡ ring.zero → OnlyLyndonBelow ring k m c (p + 1)
  zero_below a r h z = next_below ring k m c p a (λ n. read r h ∙ z)

  pub lyndon_below : OnlyLyndonBelow ring k m c p → lyndon (spelled k m p) ≡ true → OnlyLyndonBelow ring k m c (p + 1)
  lyndon_below a l = next_below ring k m c p a (λ n. absurd (clash (sym n ∙ l)))

  -- a value at a word that is not Lyndon, and is not zero
  pub one_other : (b : Bool) → b ≡ false → 0 < k → p < k ^ m → x ≡ get_or c p x → p < length c → (x ≡ ring.zero → ⊥) → lyndon (spelled k m p) ≡ false → Decides b (OnlyLyndon ring k m c)
  unfolding OnlyLyndon
  one_other b e some h r i other n =
      let w : List ℕ = spelled k m p in
      let there : get_or c (code k w) ring.zero ≡ x = ap (λ q. get_or c q ring.zero) (code-spelled k m p some h) ∙ read r i in
      let no_word : Lyndon by_value w → ⊥ = λ L. clash (sym n ∙ says_lyndon w L) in
      (λ d. absurd (clash (sym e ∙ d)), λ a. absurd (other (sym there ∙ a w (spelled-over k m p some h) (length-spelled k m p) no_word)))

module _ {A : Type 0} (ring : Operations A) (shape : Option Dimensions) (k n m : ℕ) (c : List A) (b : Bool) where
  pub says_yes : shape ≡ Some (record { k = k; n = n }) → Decides b (OnlyLyndon ring k m c) → Decides b (LieSaysYes ring shape m c)
  says_yes e h = rw e h
