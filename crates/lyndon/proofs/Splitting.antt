-- Where a word is split: before its longest proper suffix that is Lyndon, which is its least one.
use Rattle.std.proofs.Common.{◌≡◌, ℕ, zero, suc, ◌<◌, ◌≤◌, Bool, true, false, cond, List, [], ◌∷◌, ◌++◌, length, take, drop, Ordering, sym, refl, ap, ◌∙◌, subst, inl, inr, append_assoc, append-nil, arith, length-append, length-drop, take-append-drop}
use borrow.Author.Tests.{clash}
use lib.Seq.{drop-append_seam, drop-append-le}
use Rattle.std.specs.Ordering.{is_lt}
use Rattle.std.proofs.lemmas.Bool.{and_from, and_parts, cases_Bool, cases_lt}
use Rattle.letter_order.specs.Orders.{TotalOrder}
use Rattle.std.specs.List.{AllByRecursion}
use Rattle.lyndon.specs.Words.{dictionary, Before, Lyndon, Factors, joined}
use Rattle.lyndon.specs.Factoring.{factors, leads, is_lyndon, ahead}
use Rattle.lyndon.specs.Theorems.{Tested}
use Rattle.lyndon.proofs.Orders.{is_before}
use Rattle.lyndon.proofs.Dictionary.{compared}
use Rattle.lyndon.proofs.LyndonWords.{suffix, from_cuts, single}
use Rattle.lyndon.proofs.Factorization.{factored, last_least}

-- s is the least of the non-empty suffixes of w
abbrev pub Least : {A : Type 0} → (A → A → Ordering) → List A → List A → Type 0
Least {A} ranks w s = (q t : List A) → w ≡ q ++ t → 0 < length t → Before ranks t s → ⊥

-- every sequence but the empty one has a last word
pub ended : {X : Type 0} (x : X) (xs : List X) → (ys : List X) × (y : X) × (x ∷ xs ≡ ys ++ y ∷ [])
ended x [] = ([], x, refl)
ended x (z ∷ xs) = let e = ended z xs in (x ∷ e.0, e.1, ap (λ l. x ∷ l) e.2)

joined-push : {A : Type 0} (fs : List (List A)) (f : List A) → joined (fs ++ f ∷ []) ≡ joined fs ++ f
joined-push [] f = append-nil f
joined-push (g ∷ fs) f = ap (λ z. g ++ z) (joined-push fs f) ∙ sym (append_assoc g (joined fs) f)

module _ {A : Type 0} {ranks : A → A → Ordering} (o : TotalOrder ranks) where
  -- ---- the test for Lyndon words

  leads_each : (w s : List A) → leads ranks w s ≡ true → (i : ℕ) → i < length s → Before ranks w (drop i s)
  leads_each w [] h i k = absurd (omega arith)
  leads_each w (x ∷ s) h zero k = is_before (dictionary ranks w (x ∷ s)) (and_parts _ _ h).0
  leads_each w (x ∷ s) h (suc i) k = leads_each w s (and_parts _ _ h).1 i (omega arith)

  leads_all : (w s : List A) → ((i : ℕ) → i < length s → Before ranks w (drop i s)) → leads ranks w s ≡ true
  leads_all w [] f = refl
  leads_all w (x ∷ s) f = and_from _ _ (ap is_lt (f 0 (omega arith))) (leads_all w s (λ i h. f (suc i) (omega arith)))

  pub tested : Tested ranks
  tested [] = (λ h. absurd (clash h), λ L. absurd (omega (arith, L.some)))
  tested (x ∷ w) =
      (λ h. record { some = omega arith; least = below h }, λ L. leads_all (x ∷ w) w (λ i h. L.least (suc i) (omega arith) (omega arith)))
    where
      below : leads ranks (x ∷ w) w ≡ true → (i : ℕ) → 0 < i → i < suc (length w) → Before ranks (x ∷ w) (drop i (x ∷ w))
      below h zero p k = absurd (omega arith)
      below h (suc i) p k = leads_each (x ∷ w) w h i (omega arith)

  -- ---- the longest suffix that is Lyndon

  pub ahead_lyndon : (w : List A) → 0 < length w → Lyndon ranks (drop (ahead ranks w) w)
  ahead_lyndon [] h = absurd (omega arith)
  ahead_lyndon (x ∷ w) h = go (is_lyndon ranks (x ∷ w)) refl (ahead_lyndon w)
    where
      some : (v : List A) → is_lyndon ranks (x ∷ v) ≡ false → 0 < length v
      some [] e = absurd (clash (sym e ∙ (tested (x ∷ [])).1 (single o x)))
      some (y ∷ v) e = omega arith

      go : (b : Bool) → is_lyndon ranks (x ∷ w) ≡ b → (0 < length w → Lyndon ranks (drop (ahead ranks w) w)) → Lyndon ranks (drop (cond b 0 (suc (ahead ranks w))) (x ∷ w))
      go true e more = (tested (x ∷ w)).0 e
      go false e more = more (some w e)

  pub ahead_longest : (w : List A) (i : ℕ) → Lyndon ranks (drop i w) → ahead ranks w ≤ i
  ahead_longest [] i L = omega arith
  ahead_longest (x ∷ w) zero L = rw ((tested (x ∷ w)).1 L) (omega arith)
  ahead_longest (x ∷ w) (suc i) L =
      let k = ahead_longest w i L in
      elim (cases_Bool (is_lyndon ranks (x ∷ w))) [ inl e ↦ rw e (omega arith) | inr e ↦ rw e (omega arith) ]

  pub ahead_is : (w : List A) (i : ℕ) → Lyndon ranks (drop i w) → ((j : ℕ) → Lyndon ranks (drop j w) → i ≤ j) → ahead ranks w ≡ i
  ahead_is w i L longest =
      let n : 0 < length w = omega (arith, L.some, length-drop i w) in
      omega (arith, ahead_longest w i L, longest (ahead ranks w) (ahead_lyndon w n))

  -- ---- the least suffix is the longest that is Lyndon

  least_lyndon : (w p s : List A) → w ≡ p ++ s → 0 < length s → Least ranks w s → Lyndon ranks s
  least_lyndon w p s e hs low = from_cuts o s hs (λ a b ha hb d.
      elim (compared o s b) [
        | inl k ↦ k
        | inr (inl k) ↦ absurd (omega (arith, ap length k, ap length d ∙ length-append a b))
        | inr (inr k) ↦ absurd (low (p ++ a) b (e ∙ ap (λ z. p ++ z) d ∙ sym (append_assoc p a b)) hb k)
      ])

  least_longest : (w p s : List A) → w ≡ p ++ s → 0 < length s → Least ranks w s → (i : ℕ) → Lyndon ranks (drop i w) → length p ≤ i
  least_longest w p s e hs low i L =
      elim (cases_lt i (length p)) [
        | inl k ↦
            let d : drop i w ≡ drop i p ++ s = ap (drop i) e ∙ drop-append-le i p s (omega arith) in
            let n : 0 < length (drop i p) = rw length-drop (omega arith) in
            absurd (low (take i w) (drop i w) (sym (take-append-drop i w)) L.some (suffix o (drop i w) L (drop i p) s n hs d))
        | inr k ↦ k
      ]

  pub ahead_least : (w p s : List A) → w ≡ p ++ s → 0 < length s → Least ranks w s → ahead ranks w ≡ length p
  ahead_least w p s e hs low =
      let d : drop (length p) w ≡ s = ap (drop (length p)) e ∙ drop-append_seam p s in
      ahead_is w (length p) (rw d (least_lyndon w p s e hs low)) (least_longest w p s e hs low)

  -- ---- the last factor

  pub last_suffix : (w : List A) (fs : List (List A)) (f : List A) → factors ranks w ≡ fs ++ f ∷ [] → (w ≡ joined fs ++ f) × (0 < length f) × Least ranks w f
  last_suffix w fs f e =
      let F : Factors ranks w (fs ++ f ∷ []) = subst (Factors ranks w) e (factored o w) in
      (sym F.whole ∙ joined-push fs f, last_some fs F.lyndon, λ q t d ht l. last_least o fs f F.lyndon F.falls q t ht (F.whole ∙ d) l)
    where
      last_some : (gs : List (List A)) → AllByRecursion (Lyndon ranks) (gs ++ f ∷ []) → 0 < length f
      last_some [] h = h.0.some
      last_some (g ∷ gs) h = last_some gs h.1

  pub ahead_last : (w : List A) (fs : List (List A)) (f : List A) → factors ranks w ≡ fs ++ f ∷ [] → ahead ranks w ≡ length (joined fs)
  ahead_last w fs f e = let l = last_suffix w fs f e in ahead_least w (joined fs) f l.0 l.1 l.2
