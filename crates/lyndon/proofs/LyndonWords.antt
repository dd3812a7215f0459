-- Lyndon words by their cuts; two Lyndon words in order make one.
use Rattle.std.proofs.Common.{◌≡◌, ◌+◌, ◌<◌, ◌⊎◌, List, [], ◌∷◌, ◌++◌, length, take, drop, Ordering, sym, refl, ap, ◌∙◌, subst, inl, inr, append-nil, arith, length-append, length-drop, take-append-drop, length-take-le}
use lib.Seq.{drop-append_seam}
use Rattle.letter_order.specs.Orders.{TotalOrder}
use Rattle.lyndon.specs.Words.{Before, Lyndon}
use Rattle.lyndon.proofs.Dictionary.{Apart, trans, front, apart_before, apart_append, before_cases, before_apart}

-- two ways to cut one word, a b and c d: t stands between the cuts
abbrev pub Cut : {A : Type 0} → List A → List A → List A → List A → Type 0
Cut {A} a b c d = ((t : List A) × (c ≡ a ++ t) × (b ≡ t ++ d)) ⊎ ((t : List A) × (0 < length t) × (a ≡ c ++ t) × (d ≡ t ++ b))

pub cuts : {A : Type 0} (a b c d : List A) → a ++ b ≡ c ++ d → Cut a b c d
cuts [] b c d e = inl (c, refl, e)
cuts (x ∷ a) b [] d e = inr (x ∷ a, omega arith, refl, sym e)
cuts (x ∷ a) b (z ∷ c) d e =
    elim (cuts a b c d (cc)) [ inl k ↦ inl (k.0, cc k.1, k.2) | inr k ↦ inr (k.0, k.1, cc k.2, k.3) ]

module _ {A : Type 0} {ranks : A → A → Ordering} (o : TotalOrder ranks) where
  -- the form to prove with: every way to cut the word
  pub suffix : (w : List A) → Lyndon ranks w → (p s : List A) → 0 < length p → 0 < length s → w ≡ p ++ s → Before ranks w s
  suffix w h p s hp hs e =
      let n : length w ≡ length p + length s = ap length e ∙ length-append p s in
      let d : drop (length p) w ≡ s = ap (drop (length p)) e ∙ drop-append_seam p s in
      subst (Before ranks w) d (h.least (length p) hp (omega arith))

  pub from_cuts : (w : List A) → 0 < length w → ((p s : List A) → 0 < length p → 0 < length s → w ≡ p ++ s → Before ranks w s) → Lyndon ranks w
  from_cuts w hw f = record {
    some = hw;
    least = λ i hi k. f (take i w) (drop i w) (rw (length-take-le i w (omega arith)) hi) (simp length-drop (omega arith)) (sym (take-append-drop i w));
  }

  pub single : (x : A) → Lyndon ranks (x ∷ [])
  single x = record { some = omega arith; least = λ i h k. absurd (omega arith) }

  -- l m is before m
  join_before : (l m : List A) → Lyndon ranks l → Lyndon ranks m → Before ranks l m → Before ranks (l ++ m) m
  join_before l m L M h =
      elim (before_cases o l m h) [
        | inl k ↦ apart_before o (l ++ m) m (subst (Apart ranks (l ++ m)) (append-nil m) (apart_append o l m m [] k))
        | inr (y, t, e) ↦ subst (Before ranks (l ++ m)) (sym e) (front o l m (y ∷ t) (suffix m M l (y ∷ t) L.some (omega arith) e))
      ]

  pub join : (l m : List A) → Lyndon ranks l → Lyndon ranks m → Before ranks l m → Lyndon ranks (l ++ m)
  join l m L M h = from_cuts (l ++ m) (rw length-append (omega (arith, L.some))) (λ p s hp hs e. go p s hp hs (cuts l m p s e))
    where
      below : Before ranks (l ++ m) m
      below = join_before l m L M h

      within : (t s : List A) → 0 < length s → m ≡ t ++ s → Before ranks (l ++ m) s
      within [] s hs e = subst (Before ranks (l ++ m)) e below
      within (x ∷ t) s hs e = trans o (l ++ m) m s below (suffix m M (x ∷ t) s (omega arith) hs e)

      go : (p s : List A) → 0 < length p → 0 < length s → Cut l m p s → Before ranks (l ++ m) s
      go p s hp hs (inl (t, e, f)) = within t s hs f
      go p s hp hs (inr (t, ht, e, f)) =
          let n : length l ≡ length p + length t = ap length e ∙ length-append p t in
          subst (Before ranks (l ++ m)) (sym f) (apart_before o (l ++ m) (t ++ m) (apart_append o l t m m (before_apart o l t (suffix l L p t hp ht e) (omega arith))))
