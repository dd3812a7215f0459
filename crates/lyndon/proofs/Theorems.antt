-- The theorems on factorizations and splits.
use Rattle.std.proofs.Common.{◌≡◌, ℕ, zero, suc, ◌-◌, ◌<◌, ◌≤◌, List, [], ◌∷◌, ◌++◌, length, take, drop, Ordering, sym, refl, ap, ◌∙◌, subst, inl, inr, append_assoc, arith, length-append, length-drop, take-append-drop, length-take, length-take-le}
use lib.Seq.{drop-append_seam, take-append_seam}
use Rattle.letter_order.specs.Orders.{TotalOrder}
use Rattle.lyndon.specs.Words.{Before, Lyndon, Factors, Split, joined}
use Rattle.lyndon.specs.Factoring.{factors, ahead, split_place}
use Rattle.lyndon.specs.Theorems.{LongestPrefix, LeastSuffix, Factorizations, Splits}
use Rattle.lyndon.proofs.Dictionary.{asym, compared, unfront, apart_before, apart_append, before_cases}
use Rattle.lyndon.proofs.LyndonWords.{suffix, from_cuts}
use Rattle.lyndon.proofs.Factorization.{factored, only, first_longest}
use Rattle.lyndon.proofs.Splitting.{Least, ended, ahead_lyndon, ahead_longest, last_suffix, ahead_last}

module _ {A : Type 0} {ranks : A → A → Ordering} (o : TotalOrder ranks) where
  -- ---- factorizations

  first_factor : (w f : List A) (fs : List (List A)) → factors ranks w ≡ f ∷ fs → LongestPrefix ranks w f
  first_factor w f fs e =
      let F : Factors ranks w (f ∷ fs) = subst (Factors ranks w) e (factored o w) in
      record {
        prefix = ap (take (length f)) (sym F.whole) ∙ take-append_seam f (joined fs);
        lyndon = F.lyndon.0;
        longest = λ n h L. omega (arith, length-take-le n w h, first_longest o w f fs F (take n w) (drop n w) L (sym (take-append-drop n w)));
      }

  last_factor : (w : List A) (fs : List (List A)) (f : List A) → factors ranks w ≡ fs ++ f ∷ [] → LeastSuffix ranks w f
  last_factor w fs f e =
      let l = last_suffix o w fs f e in
      let n : length w - length f ≡ length (joined fs) = omega (arith, ap length l.0 ∙ length-append (joined fs) f) in
      record {
        suffix = rw n (ap (drop (length (joined fs))) l.0 ∙ drop-append_seam (joined fs) f);
        least = λ i h. l.2 (take i w) (drop i w) (sym (take-append-drop i w)) (rw length-drop (omega arith));
      }

  pub factorizations : Factorizations ranks
  factorizations w = record { exists = factored o w; only = only o w; first = first_factor w; last = last_factor w }

  -- ---- splits

  -- the longest suffix that is Lyndon is the least one
  pub ahead_lowest : (w : List A) → 0 < length w → Least ranks w (drop (ahead ranks w) w)
  ahead_lowest w h = go (factors ranks w) refl
    where
      go : (fs : List (List A)) → factors ranks w ≡ fs → Least ranks w (drop (ahead ranks w) w)
      go [] e = absurd (omega (arith, ap length (sym (factored o w).whole ∙ ap joined e)))
      go (f ∷ fs) e =
          let d = ended f fs in
          let l = last_suffix o w d.0 d.1 (e ∙ d.2) in
          let s : drop (ahead ranks w) w ≡ d.1 = ap (λ n. drop n w) (ahead_last o w d.0 d.1 (e ∙ d.2)) ∙ ap (drop (length (joined d.0))) l.0 ∙ drop-append_seam (joined d.0) d.1 in
          rw s l.2

  -- the left part of a Lyndon word is Lyndon
  left_lyndon : (w l r : List A) → Lyndon ranks w → w ≡ l ++ r → 0 < length l → ((q t : List A) → 0 < length q → 0 < length t → w ≡ q ++ t → Before ranks t r → ⊥) → Lyndon ranks l
  left_lyndon w l r W whole some low = from_cuts o l some (λ p s hp hs e. go p s hp hs e)
    where
      go : (p s : List A) → 0 < length p → 0 < length s → l ≡ p ++ s → Before ranks l s
      go p s hp hs e =
          elim (compared o l s) [
            | inl k ↦ k
            | inr (inl k) ↦ absurd (omega (arith, ap length k, ap length e ∙ length-append p s))
            | inr (inr k) ↦ absurd (last k)
          ]
        where
          above : Before ranks (l ++ r) (s ++ r)
          above = subst (λ z. Before ranks z (s ++ r)) whole (suffix o w W p (s ++ r) hp (rw length-append (omega arith)) (whole ∙ ap (λ z. z ++ r) e ∙ append_assoc p s r))

          last : Before ranks s l → ⊥
          last k =
              elim (before_cases o s l k) [
                | inl a ↦ asym o (l ++ r) (s ++ r) above (apart_before o (s ++ r) (l ++ r) (apart_append o s l r r a))
                | inr (y, t, d) ↦
                    let f : l ++ r ≡ s ++ (y ∷ t ++ r) = ap (λ z. z ++ r) d ∙ append_assoc s (y ∷ t) r in
                    low s (y ∷ t ++ r) hs (omega arith) (whole ∙ f) (unfront o s (y ∷ t ++ r) r (subst (λ z. Before ranks z (s ++ r)) f above))
              ]

  same_cut : (w l r p q : List A) → Split ranks w l r → Split ranks w p q → length l ≤ length p
  same_cut w l r p q S T = S.longest (length p) T.proper (rw (ap (drop (length p)) T.whole ∙ drop-append_seam p q) T.lyndon)

  pub split_once : (w l r p q : List A) → Split ranks w l r → Split ranks w p q → (p ≡ l) × (q ≡ r)
  split_once w l r p q S T =
      let n : length p ≡ length l = omega (arith, same_cut w l r p q S T, same_cut w p q l r T S) in (
        sym (take-append_seam p q) ∙ ap (take (length p)) (sym T.whole ∙ S.whole) ∙ rw n (take-append_seam l r),
        sym (drop-append_seam p q) ∙ ap (drop (length p)) (sym T.whole ∙ S.whole) ∙ rw n (drop-append_seam l r),
      )

  -- a word of two letters or more, Lyndon or not, is split there
  pub split_there : (w : List A) → 2 ≤ length w → Split ranks w (take (split_place ranks w) w) (drop (split_place ranks w) w)
  split_there [] h = absurd (omega arith)
  split_there (x ∷ w) h = record {
    whole = ap (λ z. x ∷ z) (sym (take-append-drop (ahead ranks w) w));
    proper = omega arith;
    lyndon = ahead_lyndon o w (omega arith);
    longest = longest;
  }
    where
      longest : (i : ℕ) → 0 < i → Lyndon ranks (drop i (x ∷ w)) → suc (length (take (ahead ranks w) w)) ≤ i
      longest zero k L = absurd (omega arith)
      longest (suc i) k L = omega (arith, ahead_longest o w i L, length-take (ahead ranks w) w)

  pub split_lowest : (w : List A) → 2 ≤ length w → (q t : List A) → 0 < length q → 0 < length t → w ≡ q ++ t → Before ranks t (drop (split_place ranks w) w) → ⊥
  split_lowest [] h q t hq ht e = absurd (omega arith)
  split_lowest (x ∷ w) h [] t hq ht e = absurd (omega arith)
  split_lowest (x ∷ w) h (y ∷ q) t hq ht e = ahead_lowest w (omega arith) q t (cc) ht

  pub splits : Splits ranks
  splits w W h =
      let n = split_place ranks w in
      let S = split_there w h in
      record {
        exists = S;
        only = λ p q T. split_once w (take n w) (drop n w) p q S T;
        left = left_lyndon w (take n w) (drop n w) W S.whole S.proper (split_lowest w h);
        right = S.lyndon;
        least = λ i hi k. split_lowest w h (take i w) (drop i w) (rw (length-take-le i w (omega arith)) hi) (rw length-drop (omega arith)) (sym (take-append-drop i w));
      }
