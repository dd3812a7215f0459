-- Every word has exactly one factorization.
use Rattle.std.proofs.Common.{◌≡◌, ◌+◌, ◌<◌, ◌≤◌, cond, List, [], ◌∷◌, ◌++◌, length, Ordering, Less, Equal, Greater, sym, refl, ap, ◌∙◌, subst, inl, inr, append_assoc, append-nil, arith, length-append}
use Rattle.std.specs.Ordering.{is_lt}
use Rattle.letter_order.specs.Orders.{TotalOrder}
use Rattle.std.specs.List.{AllByRecursion}
use Rattle.lyndon.specs.Words.{dictionary, Before, Lyndon, Falling, Factors, joined}
use Rattle.lyndon.specs.Factoring.{factors, merged}
use Rattle.lyndon.proofs.Orders.{equal_less, greater_less}
use Rattle.lyndon.proofs.Dictionary.{trans, lt_le, prefix, prefix_low}
use Rattle.lyndon.proofs.LyndonWords.{Cut, cuts, suffix, single, join}

-- t ends in a word p that is not after f
abbrev LowEnd : {A : Type 0} → (A → A → Ordering) → List A → List A → Type 0
LowEnd {A} ranks f t = (a : List A) × (p : List A) × (t ≡ a ++ p) × (0 < length p) × (Before ranks f p → ⊥)

no_word : {A : Type 0} (s t : List A) → ◌≡◌ {A = List A} [] (s ++ t) → 0 < length s + length t → ⊥
no_word s t e h = omega (arith, ap length e ∙ length-append s t)

-- no more words than letters
pub few_words : {A : Type 0} (ranks : A → A → Ordering) (fs : List (List A)) → AllByRecursion (Lyndon ranks) fs → length fs ≤ length (joined fs)
few_words ranks [] F = omega arith
few_words ranks (f ∷ fs) F = omega (arith, F.0.some, few_words ranks fs F.1, length-append f (joined fs))

module _ {A : Type 0} {ranks : A → A → Ordering} (o : TotalOrder ranks) where
  pub falling_tail : (f : List A) (fs : List (List A)) → Falling ranks (f ∷ fs) → Falling ranks fs
  falling_tail f [] h = tt
  falling_tail f (g ∷ fs) h = h.1

  -- ---- it exists

  merged_factors : (l : List A) (fs : List (List A)) → Lyndon ranks l → AllByRecursion (Lyndon ranks) fs → Falling ranks fs → Factors ranks (l ++ joined fs) (merged ranks l fs)
  merged_factors l [] L F h = record { whole = refl; lyndon = (L, tt); falls = tt }
  merged_factors l (f ∷ fs) L F h =
      go (dictionary ranks l f) refl (λ k. merged_factors (l ++ f) fs (join o l f L F.0 k) F.1 (falling_tail f fs h))
    where
      apart : (Before ranks l f → ⊥) → Factors ranks (l ++ (f ++ joined fs)) (l ∷ f ∷ fs)
      apart k = record { whole = refl; lyndon = (L, F); falls = (k, h) }

      go : (r : Ordering) → dictionary ranks l f ≡ r → (Before ranks l f → Factors ranks ((l ++ f) ++ joined fs) (merged ranks (l ++ f) fs)) → Factors ranks (l ++ (f ++ joined fs)) (cond (is_lt r) (merged ranks (l ++ f) fs) (l ∷ f ∷ fs))
      go Less e more = rw append_assoc at (more e)
      go Equal e more = apart (λ k. equal_less (sym e ∙ k))
      go Greater e more = apart (λ k. greater_less (sym e ∙ k))

  pub factored : (w : List A) → Factors ranks w (factors ranks w)
  factored [] = record { whole = refl; lyndon = tt; falls = tt }
  factored (x ∷ w) =
      let F = factored w in
      subst (λ v. Factors ranks (x ∷ v) (merged ranks (x ∷ []) (factors ranks w))) F.whole (merged_factors (x ∷ []) (factors ranks w) (single o x) F.lyndon F.falls)

  -- ---- there is one

  weaken : (f g : List A) (fs : List (List A)) → (Before ranks f g → ⊥) → AllByRecursion (λ x. Before ranks g x → ⊥) fs → AllByRecursion (λ x. Before ranks f x → ⊥) fs
  weaken f g [] h k = tt
  weaken f g (x ∷ fs) h k = (λ l. h (lt_le o f x g l k.0), weaken f g fs h k.1)

  all_low : (f : List A) (fs : List (List A)) → Falling ranks (f ∷ fs) → AllByRecursion (λ x. Before ranks f x → ⊥) fs
  all_low f [] h = tt
  all_low f (g ∷ fs) h = (h.0, weaken f g fs h.0 (all_low g fs h.1))

  -- what begins a sequence of words that are not after f ends in a word that is not after f
  low_end : (f : List A) (fs : List (List A)) (t r : List A) → AllByRecursion (λ x. Before ranks f x → ⊥) fs → 0 < length t → joined fs ≡ t ++ r → LowEnd ranks f t
  low_end f [] t r h ht e = absurd (no_word t r e (omega arith))
  low_end f (g ∷ fs) t r h ht e = go (cuts g (joined fs) t r e) (λ s. low_end f fs s r h.1)
    where
      within : (s : List A) → t ≡ g ++ s → (0 < length s → LowEnd ranks f s) → LowEnd ranks f t
      within [] d more = ([], t, refl, ht, λ l. h.0 (rw (d ∙ append-nil g) at l))
      within (x ∷ s) d more =
          let k = more (omega arith) in
          (g ++ k.0, k.1, d ∙ ap (λ z. g ++ z) k.2 ∙ sym (append_assoc g k.0 k.1), k.3, k.4)

      before : (s : List A) → 0 < length s → g ≡ t ++ s → Before ranks f t → ⊥
      before [] hs k l = omega arith
      before (x ∷ s) hs k l = h.0 (trans o f t g l (rw k (prefix o t x s)))

      go : Cut g (joined fs) t r → ((s : List A) → 0 < length s → joined fs ≡ s ++ r → LowEnd ranks f s) → LowEnd ranks f t
      go (inl (s, d, k)) more = within s d (λ hs. more s hs k)
      go (inr (s, hs, d, k)) more = ([], t, refl, ht, before s hs d)

  -- no Lyndon prefix is longer than the first factor
  no_longer : (f : List A) (fs : List (List A)) (t r : List A) → Lyndon ranks f → Falling ranks (f ∷ fs) → Lyndon ranks (f ++ t) → joined fs ≡ t ++ r → 0 < length t → ⊥
  no_longer f fs [] r F h G e ht = omega arith
  no_longer f fs (x ∷ t) r F h G e ht =
      let k = low_end f fs (x ∷ t) r (all_low f fs h) ht e in
      let n : 0 < length (f ++ k.0) = rw length-append (omega (arith, F.some)) in
      k.4 (trans o f (f ++ x ∷ t) k.1 (prefix o f x t) (suffix o (f ++ x ∷ t) G (f ++ k.0) k.1 n k.3 (ap (λ z. f ++ z) k.2 ∙ sym (append_assoc f k.0 k.1))))

  same : (fs gs : List (List A)) → AllByRecursion (Lyndon ranks) fs → AllByRecursion (Lyndon ranks) gs → Falling ranks fs → Falling ranks gs → joined fs ≡ joined gs → fs ≡ gs
  same [] [] F G h k e = refl
  same [] (g ∷ gs) F G h k e = absurd (no_word g (joined gs) e (omega (arith, G.0.some)))
  same (f ∷ fs) [] F G h k e = absurd (no_word f (joined fs) (sym e) (omega (arith, F.0.some)))
  same (f ∷ fs) (g ∷ gs) F G h k e =
      go (cuts f (joined fs) g (joined gs) e) (same fs gs F.1 G.1 (falling_tail f fs h) (falling_tail g gs k))
    where
      within : (t : List A) → g ≡ f ++ t → joined fs ≡ t ++ joined gs → (joined fs ≡ joined gs → fs ≡ gs) → ◌≡◌ {A = List (List A)} (f ∷ fs) (g ∷ gs)
      within [] e d more = let p = more d in let q = append-nil f in cc
      within (x ∷ t) e d more = absurd (no_longer f fs (x ∷ t) (joined gs) F.0 h (rw e at G.0) d (omega arith))

      go : Cut f (joined fs) g (joined gs) → (joined fs ≡ joined gs → fs ≡ gs) → ◌≡◌ {A = List (List A)} (f ∷ fs) (g ∷ gs)
      go (inl (t, e, d)) more = within t e d more
      go (inr (t, ht, e, d)) more = absurd (no_longer g gs t (joined fs) G.0 k (rw e at F.0) d ht)

  unique : (w : List A) (fs gs : List (List A)) → Factors ranks w fs → Factors ranks w gs → fs ≡ gs
  unique w fs gs F G = same fs gs F.lyndon G.lyndon F.falls G.falls (F.whole ∙ sym G.whole)

  pub only : (w : List A) (fs : List (List A)) → Factors ranks w fs → fs ≡ factors ranks w
  only w fs F = unique w fs (factors ranks w) F (factored w)

  -- no more factors than letters
  pub few_factors : (w : List A) → length (factors ranks w) ≤ length w
  few_factors w = let F = factored w in rw F.whole at (few_words ranks (factors ranks w) F.lyndon)

  -- ---- the first factor is the longest Lyndon prefix

  pub first_longest : (w f : List A) (fs : List (List A)) → Factors ranks w (f ∷ fs) → (g r : List A) → Lyndon ranks g → w ≡ g ++ r → length g ≤ length f
  first_longest w f fs F g r G e = go (cuts f (joined fs) g r (F.whole ∙ e))
    where
      within : (t : List A) → g ≡ f ++ t → joined fs ≡ t ++ r → length g ≤ length f
      within [] e d = omega (arith, ap length (e ∙ append-nil f))
      within (x ∷ t) e d = absurd (no_longer f fs (x ∷ t) r F.lyndon.0 F.falls (rw e at G) d (omega arith))

      go : Cut f (joined fs) g r → length g ≤ length f
      go (inl (t, e, d)) = within t e d
      go (inr (t, ht, e, d)) = omega (arith, ap length e ∙ length-append g t)

  -- and the longest Lyndon prefix is the first factor
  pub longest_first : (w f r : List A) → w ≡ f ++ r → Lyndon ranks f → ((g q : List A) → Lyndon ranks g → w ≡ g ++ q → length g ≤ length f) → factors ranks w ≡ f ∷ factors ranks r
  longest_first w f r e F longest = sym (only w (f ∷ factors ranks r) (go (factors ranks r) (factored r)))
    where
      go : (gs : List (List A)) → Factors ranks r gs → Factors ranks w (f ∷ gs)
      go [] G = record { whole = ap (λ z. f ++ z) G.whole ∙ sym e; lyndon = (F, tt); falls = tt }
      go (g ∷ gs) G = record { whole = ap (λ z. f ++ z) G.whole ∙ sym e; lyndon = (F, G.lyndon); falls = (low, G.falls) }
        where
          low : Before ranks f g → ⊥
          low l =
              let n = longest (f ++ g) (joined gs) (join o f g F G.lyndon.0 l) (e ∙ ap (λ z. f ++ z) (sym G.whole) ∙ sym (append_assoc f g (joined gs))) in
              omega (arith, length-append f g, G.lyndon.0.some)

  -- ---- the last factor is the least suffix

  -- what begins with a suffix of a Lyndon word f is not before f
  suffix_low : (f : List A) → Lyndon ranks f → (p t r : List A) → 0 < length t → f ≡ p ++ t → Before ranks (t ++ r) f → ⊥
  suffix_low f F [] t r ht e l = prefix_low o t r (subst (Before ranks (t ++ r)) e l)
  suffix_low f F (x ∷ p) t r ht e l = prefix_low o t r (trans o (t ++ r) f t l (suffix o f F (x ∷ p) t (omega arith) ht e))

  -- no word is before the last
  last_low : (f : List A) (fs : List (List A)) (g : List A) → Falling ranks (f ∷ fs ++ g ∷ []) → Before ranks f g → ⊥
  last_low f [] g h l = h.0 l
  last_low f (e ∷ fs) g h l = h.0 (lt_le o f g e l (last_low e fs g h.1))

  pub last_least : (fs : List (List A)) (f : List A) → AllByRecursion (Lyndon ranks) (fs ++ f ∷ []) → Falling ranks (fs ++ f ∷ []) → (p s : List A) → 0 < length s → joined (fs ++ f ∷ []) ≡ p ++ s → Before ranks s f → ⊥
  last_least [] f F h p s hs e l = go (cuts f [] p s e)
    where
      go : Cut f [] p s → ⊥
      go (inl (t, d, k)) = no_word t s k (omega arith)
      go (inr (t, ht, d, k)) = suffix_low f F.0 p t [] ht d (rw k at l)
  last_least (g ∷ gs) f F h p s hs e l =
      go (cuts g (joined (gs ++ f ∷ [])) p s e) (λ t d. last_least gs f F.1 (falling_tail g (gs ++ f ∷ []) h) t s hs d l)
    where
      go : Cut g (joined (gs ++ f ∷ [])) p s → ((t : List A) → joined (gs ++ f ∷ []) ≡ t ++ s → ⊥) → ⊥
      go (inl (t, d, k)) more = more t k
      go (inr (t, ht, d, k)) more = suffix_low g F.0 p t (joined (gs ++ f ∷ [])) ht d (rw k at (lt_le o s f g l (last_low g gs f h)))
