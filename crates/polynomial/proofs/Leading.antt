-- Every word leads in its P: it has the coefficient 1, and each other word with a coefficient comes after it.
use Rattle.std.proofs.Common.{◌≡◌, ◌≢◌, ℕ, ◌+◌, ◌<◌, ◌⊎◌, cond, List, [], ◌∷◌, ◌++◌, length, ℤ, pos, ◌-ℤ◌, ◌*ℤ◌, sym, refl, ap, ap₂, ◌∙◌, subst, subst₂, inl, inr, arith, length-append, is_eq, Ordering, Less, Equal, Greater}
use Rattle.std.proofs.lemmas.Bool.{cases_eq}
use Rattle.letter_order.specs.Orders.{by_value}
use Rattle.lyndon.specs.Words.{dictionary, Before, Lyndon, Factors, Split, joined}
use Rattle.lyndon.proofs.Dictionary.{deciding, there, here, trans, decide, lt_le, prefix_low, dictionary_total, irrefl}
use Rattle.lyndon.proofs.LyndonWords.{suffix}
use Rattle.lyndon.proofs.Codes.{by_value_total}
use Rattle.polynomial.specs.Polynomials.{only, times, bracket, P}
use Rattle.polynomial.specs.Theorems.{Leads}
use Rattle.polynomial.proofs.Products.{difference_none, times_none, times_at}
use Rattle.polynomial.proofs.Steps.{poly_short}
use Rattle.polynomial.proofs.Rules.{P_lyndon, P_first, by_parts}

over_append : (p l q r : List ℕ) → length p ≡ length l → (Before by_value p l → ⊥) → (Before by_value q r → ⊥) →
    Before by_value (p ++ q) (l ++ r) → ⊥
over_append [] [] q r n h k b = k b
over_append [] (y ∷ l) q r n h k b = omega arith
over_append (x ∷ p) [] q r n h k b = omega arith
over_append (x ∷ p) (y ∷ l) q r n h k b =
    elim (deciding by_value_total x y (p ++ q) (l ++ r) b) [
      | inl d ↦ h (here by_value_total x y p l d)
      | inr d ↦ over_append p l q r (omega arith) (λ c. h (there by_value_total x y p l d.0 c)) k d.1
    ]

-- no cut of u has parts as long as l and r and not before them
abbrev NoRoom : List ℕ → List ℕ → List ℕ → Type 0
NoRoom l r u = (p q : List ℕ) → u ≡ p ++ q → length p ≡ length l → length q ≡ length r →
    (Before by_value p l → ⊥) → (Before by_value q r → ⊥) → ⊥

vanish : (x y : List ℕ → ℤ) (l r u : List ℕ) → Leads x l → Leads y r → NoRoom l r u → times x y u ≡ pos 0
vanish x y l r u X Y h = times_none x y u (λ p q e. go p q e (size p l) (size q r) (decide by_value_total p l) (decide by_value_total q r))
  where
    Sizes : List ℕ → List ℕ → Type 0
    Sizes p l = (length p ≡ length l) ⊎ (length p ≢ length l)

    size : (p l : List ℕ) → Sizes p l
    size p l = cases_eq (length p) (length l)

    go : (p q : List ℕ) → u ≡ p ++ q → Sizes p l → Sizes q r → Dec (Before by_value p l) → Dec (Before by_value q r) →
        (x p ≡ pos 0) ⊎ (y q ≡ pos 0)
    go p q e (inr n) m b c = inl (X.size p n)
    go p q e (inl n) (inr m) b c = inr (Y.size q m)
    go p q e (inl n) (inl m) (yes b) c = inl (X.low p b)
    go p q e (inl n) (inl m) (no b) (yes c) = inr (Y.low q c)
    go p q e (inl n) (inl m) (no b) (no c) = absurd (h p q e n m b c)

-- the product of two leads with the two words joined
leads_times : (x y : List ℕ → ℤ) (l r : List ℕ) → Leads x l → Leads y r → Leads (times x y) (l ++ r)
leads_times x y l r X Y = record {
  one = times_at x y l r X.size ∙ ap₂ ◌*ℤ◌ X.one Y.one;
  size = λ u n. vanish x y l r u X Y (λ p q e a b _ _. n (ap length e ∙ length-append p q ∙ ap₂ ◌+◌ a b ∙ sym (length-append l r)));
  low = λ u k. vanish x y l r u X Y (λ p q e a b c d. over_append p l q r a c d (subst (λ z. Before by_value z (l ++ r)) e k));
}

-- exchanged, the product has nothing before r
swapped : (x y : List ℕ → ℤ) (l r u : List ℕ) → Leads x l → Leads y r → Before by_value u r → times y x u ≡ pos 0
swapped x y l r u X Y k =
    vanish y x r l u Y X (λ p q e a b c d. prefix_low by_value_total p q (lt_le by_value_total (p ++ q) r p (subst (λ z. Before by_value z r) e k) c))

leads_bracket : (x y : List ℕ → ℤ) (l r : List ℕ) → Before by_value (l ++ r) r → Leads x l → Leads y r → Leads (bracket x y) (l ++ r)
leads_bracket x y l r b X Y = record {
  one = ap₂ ◌-ℤ◌ XY.one (swapped x y l r (l ++ r) X Y b);
  size = λ u n. difference_none (times x y u) (times y x u) (XY.size u n) (vanish y x r l u Y X (λ p q e a c _ _. n (whole p q u e a c)));
  low = λ u k. difference_none (times x y u) (times y x u) (XY.low u k) (swapped x y l r u X Y (trans by_value_total u (l ++ r) r k b));
}
  where
    XY : Leads (times x y) (l ++ r)
    XY = leads_times x y l r X Y

    whole : (p q u : List ℕ) → u ≡ p ++ q → length p ≡ length r → length q ≡ length l → length u ≡ length (l ++ r)
    whole p q u e a c = omega (arith, ap length e, length-append p q, length-append l r)

-- ---- a single word

pub only_itself : (w u : List ℕ) → w ≡ u → only w u ≡ pos 1
only_itself w u e = ap (λ r. cond (is_eq r) (pos 1) (pos 0)) (((dictionary_total by_value_total).same w u).1 e)

pub only_other : (w u : List ℕ) → w ≢ u → only w u ≡ pos 0
only_other w u n = go (dictionary by_value w u) refl
  where
    go : (r : Ordering) → dictionary by_value w u ≡ r → cond (is_eq r) (pos 1) (pos 0) ≡ pos 0
    go Less e = refl
    go Equal e = absurd (n (((dictionary_total by_value_total).same w u).0 e))
    go Greater e = refl

leads_only : (w : List ℕ) → Leads (only w) w
leads_only w = record {
  one = only_itself w w refl;
  size = λ u n. only_other w u (λ e. n (ap length (sym e)));
  low = λ u h. only_other w u (λ e. irrefl by_value_total u (subst (Before by_value u) e h));
}

-- ---- P

pub leads : (w : List ℕ) → Leads (P w) w
leads = by_parts (λ w. Leads (P w) w) (short [] (omega arith)) (λ a. short (a ∷ []) (omega arith)) two more
  where
    short : (w : List ℕ) → length w < 2 → Leads (P w) w
    short w h = rw (poly_short (length w) w h) (leads_only w)

    two : (w l r : List ℕ) → Lyndon by_value w → Split by_value w l r → Leads (P l) l → Leads (P r) r → Leads (P w) w
    two w l r L S X Y =
        let b : Before by_value (l ++ r) r = subst (λ z. Before by_value z r) S.whole (suffix by_value_total w L l r S.proper S.lyndon.some S.whole) in
        subst₂ Leads (sym (P_lyndon w l r L S)) (sym S.whole) (leads_bracket (P l) (P r) l r b X Y)

    more : (w f : List ℕ) (fs : List (List ℕ)) → Factors by_value w (f ∷ fs) → 0 < length (joined fs) →
        Leads (P f) f → Leads (P (joined fs)) (joined fs) → Leads (P w) w
    more w f fs F h X Y = subst₂ Leads (sym (P_first w f fs F)) F.whole (leads_times (P f) (P (joined fs)) f (joined fs) X Y)
