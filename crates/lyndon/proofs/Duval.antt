-- The steps of Duval's algorithm: u is Lyndon, and u v is read, where v is a prefix of u v.
use Rattle.std.proofs.Common.{◌≡◌, ℕ, zero, suc, ◌+◌, ◌<◌, ◌≤◌, List, [], ◌∷◌, ◌++◌, length, Ordering, Less, sym, ap, ◌∙◌, subst, subst₂, inl, inr, append_assoc, append-nil, arith, length-append}
use Rattle.std.proofs.lemmas.List.{append_cancel_left}
use Rattle.letter_order.specs.Orders.{TotalOrder}
use Rattle.lyndon.specs.Words.{Before, Lyndon}
use Rattle.lyndon.proofs.Orders.{ranked}
use Rattle.lyndon.proofs.Dictionary.{Apart, irrefl, asym, front, here, prefix_low, apart_before, apart_append, before_apart}
use Rattle.lyndon.proofs.LyndonWords.{Cut, cuts, suffix, from_cuts}

-- u v is read, and c is the letter that would go on with the period
pub record Reads {A : Type 0} (ranks : A → A → Ordering) (u v : List A) (c : A) : Type 0 where
  pub lyndon : Lyndon ranks u
  pub rest : List A
  pub again : u ++ v ≡ v ++ c ∷ rest

-- no suffix is apart from the word and before it
abbrev Prenecklace : {A : Type 0} → (A → A → Ordering) → List A → Type 0
Prenecklace {A} ranks w = (y z : List A) → w ≡ y ++ z → Apart ranks z w → ⊥

-- the next letter is less than c, or there is none
abbrev pub Stops : {A : Type 0} → (A → A → Ordering) → A → List A → Type 0
Stops ranks c [] = Unit {0}
Stops ranks c (a ∷ x) = ranks a c ≡ Less

module _ {A : Type 0} {ranks : A → A → Ordering} (o : TotalOrder ranks) where
  apart_irrefl : (u : List A) → Apart ranks u u → ⊥
  apart_irrefl u h = irrefl o u (apart_before o u u h)

  -- where v is as long as u, what follows v does not matter
  apart_within : (u v s : List A) → length u ≤ length v → Apart ranks u (v ++ s) → Apart ranks u v
  apart_within [] v s n h = h
  apart_within (x ∷ u) [] s n h = absurd (omega arith)
  apart_within (x ∷ u) (y ∷ v) s n (inl h) = inl h
  apart_within (x ∷ u) (y ∷ v) s n (inr h) = inr (h.0, apart_within u v s (omega arith) h.1)

  -- a Lyndon word u is not after what begins with a suffix of u
  lyndon_low : (u : List A) → Lyndon ranks u → (y z t : List A) → u ≡ y ++ (z ++ t) → Apart ranks (z ++ t) u → ⊥
  lyndon_low u U [] z t e h = apart_irrefl u (subst (λ x. Apart ranks x u) (sym e) h)
  lyndon_low u U (x ∷ y) z t e h = go (z ++ t) e h
    where
      go : (s : List A) → u ≡ x ∷ y ++ s → Apart ranks s u → ⊥
      go [] e h = h
      go (b ∷ s) e h = asym o u (b ∷ s) (suffix o u U (x ∷ y) (b ∷ s) (omega arith) (omega arith) e) (apart_before o (b ∷ s) u h)

  -- one period of it
  period_step : (u v s : List A) → Lyndon ranks u → u ++ v ≡ v ++ s → ((t : List A) → v ≡ u ++ t → u ++ t ≡ t ++ s → Prenecklace ranks (u ++ t)) → Prenecklace ranks (u ++ v)
  period_step u v s U e more y z d h = go (cuts u v y z d)
    where
      edge : (y t : List A) → 0 < length t → u ≡ y ++ t → Apart ranks (t ++ v) (u ++ v) → ⊥
      edge [] t ht a k = apart_irrefl (u ++ v) (subst (λ x. Apart ranks (x ++ v) (u ++ v)) (sym a) k)
      edge (x ∷ y) t ht a k =
          let n : length u ≡ suc (length y + length t) = ap length a ∙ ap suc (length-append y t) in
          asym o (u ++ v) (t ++ v) (apart_before o (u ++ v) (t ++ v) (apart_append o u t v v (before_apart o u t (suffix o u U (x ∷ y) t (omega arith) ht a) (omega arith)))) (apart_before o (t ++ v) (u ++ v) k)

      inside : (q : List A) → v ≡ q ++ z → ⊥
      inside q k = last (cuts u v v s e)
        where
          low : Apart ranks z v
          low = apart_within z v s (omega (arith, ap length k ∙ length-append q z)) (rw e at h)

          last : Cut u v v s → ⊥
          last (inl (t, a, b)) = more t a (sym a ∙ b) q z (sym a ∙ k) (subst (Apart ranks z) a low)
          last (inr (t, ht, a, b)) = lyndon_low u U q z t (a ∙ ap (λ x. x ++ t) k ∙ append_assoc q z t) (subst (Apart ranks (z ++ t)) (sym a) (apart_append o z v t t low))

      go : Cut u v y z → ⊥
      go (inl (t, a, b)) = inside t b
      go (inr (t, ht, a, b)) = edge y t ht a (rw b at h)

  shorter : (u v t : List A) → Lyndon ranks u → v ≡ u ++ t → length t < length v
  shorter u v t U a = omega (arith, U.some, ap length a ∙ length-append u t)

  periodic_upto : (n : ℕ) (u v s : List A) → length v ≤ n → Lyndon ranks u → u ++ v ≡ v ++ s → Prenecklace ranks (u ++ v)
  periodic_upto zero u v s hn U e = period_step u v s U e (λ t a b. absurd (omega (arith, shorter u v t U a)))
  periodic_upto (suc n) u v s hn U e = period_step u v s U e (λ t a b. periodic_upto n u t s (omega (arith, shorter u v t U a)) U b)

  -- a prefix of u u u .. is a prenecklace
  periodic : (u v s : List A) → Lyndon ranks u → u ++ v ≡ v ++ s → Prenecklace ranks (u ++ v)
  periodic u v s = periodic_upto (length v) u v s (omega arith)

  -- the period goes on by a letter
  grown : (u v r : List A) (c : A) → u ++ v ≡ v ++ c ∷ r → u ++ (v ++ c ∷ []) ≡ (v ++ c ∷ []) ++ (r ++ c ∷ [])
  grown u v r c e = sym (append_assoc u v (c ∷ [])) ∙ ap (λ z. z ++ c ∷ []) e ∙ append_assoc v (c ∷ r) (c ∷ []) ∙ sym (append_assoc v (c ∷ []) (r ++ c ∷ []))

  -- ---- the start, and the three cases of the next letter

  pub fresh : (c : A) (r : List A) → Lyndon ranks (c ∷ r) → Reads ranks (c ∷ r) [] c
  fresh c r U = record { lyndon = U; rest = r; again = append-nil (c ∷ r) }

  -- the next letter is the same
  pub step_same : (u v : List A) (c : A) → Reads ranks u v c → (d : A) × Reads ranks u (v ++ c ∷ []) d
  step_same u v c R = go (R.rest ++ c ∷ []) (rw length-append (omega arith)) (grown u v R.rest c R.again)
    where
      go : (r : List A) → 0 < length r → u ++ (v ++ c ∷ []) ≡ (v ++ c ∷ []) ++ r → (d : A) × Reads ranks u (v ++ c ∷ []) d
      go [] h e = absurd (omega arith)
      go (d ∷ r) h e = (d, record { lyndon = R.lyndon; rest = r; again = e })

  -- a greater last letter
  raise : (z v : List A) (c a : A) → (Apart ranks (z ++ c ∷ []) (v ++ c ∷ []) → ⊥) → ranks c a ≡ Less → length z < length v → Apart ranks (v ++ a ∷ []) (z ++ a ∷ [])
  raise z [] c a h l n = absurd (omega arith)
  raise [] (x ∷ v) c a h l n =
      elim (ranked o c x) [ inl k ↦ absurd (h (inl k)) | inr (inl k) ↦ inl (rw k at l) | inr (inr k) ↦ inl (o.transitive x c a k l) ]
  raise (b ∷ z) (x ∷ v) c a h l n =
      elim (ranked o b x) [
        | inl k ↦ absurd (h (inl k))
        | inr (inl k) ↦ inr (sym k, raise z v c a (λ m. h (inr (k, m))) l (omega arith))
        | inr (inr k) ↦ inl k
      ]

  raised : (w : List A) (c a : A) → Prenecklace ranks (w ++ c ∷ []) → ranks c a ≡ Less → Lyndon ranks (w ++ a ∷ [])
  raised w c a P l = from_cuts o (w ++ a ∷ []) (rw length-append (omega arith)) (λ p s hp hs e. go p s hp hs (cuts w (a ∷ []) p s e))
    where
      ends : (p z : List A) → 0 < length p → w ≡ p ++ z → Before ranks (w ++ a ∷ []) (z ++ a ∷ [])
      ends p z hp e = apart_before o (w ++ a ∷ []) (z ++ a ∷ []) (raise z w c a (P p (z ++ c ∷ []) (ap (λ x. x ++ c ∷ []) e ∙ append_assoc p z (c ∷ []))) l (omega (arith, ap length e ∙ length-append p z)))

      none : (p s t : List A) → 0 < length p → 0 < length s → p ≡ w ++ t → a ∷ [] ≡ t ++ s → Before ranks (w ++ a ∷ []) s
      none p s [] hp hs d k = subst (Before ranks (w ++ a ∷ [])) k (ends p [] hp (let q = append-nil w in let q' = append-nil p in cc))
      none p s (x ∷ t) hp hs d k = absurd (let n : 1 ≡ suc (length t + length s) = ap length k ∙ ap suc (length-append t s) in omega arith)

      go : (p s : List A) → 0 < length p → 0 < length s → Cut w (a ∷ []) p s → Before ranks (w ++ a ∷ []) s
      go p s hp hs (inl (t, d, k)) = none p s t hp hs d k
      go p s hp hs (inr (t, ht, d, k)) = rw k (ends p t hp d)

  -- the next letter is greater: all that is read is one Lyndon word
  pub step_greater : (u v : List A) (c a : A) → Reads ranks u v c → ranks c a ≡ Less → Lyndon ranks ((u ++ v) ++ a ∷ [])
  step_greater u v c a R l = raised (u ++ v) c a (rw append_assoc (periodic u (v ++ c ∷ []) (R.rest ++ c ∷ []) R.lyndon (grown u v R.rest c R.again))) l

  within_low : (g t q k : List A) → g ++ q ≡ t ++ k → length t ≤ length g → Before ranks g t → ⊥
  within_low g t q k e n h = go (cuts g q t k e)
    where
      go : Cut g q t k → ⊥
      go (inl ([], a, b)) = irrefl o g (subst (Before ranks g) (a ∙ append-nil g) h)
      go (inl (x ∷ m, a, b)) = omega (arith, ap length a ∙ length-append g (x ∷ m))
      go (inr (m, hm, a, b)) = prefix_low o t m (subst (λ x. Before ranks x t) a h)

  -- the next letter is less, or there is none: u is the longest Lyndon prefix
  pub stop : (u v : List A) (c : A) → Reads ranks u v c → (x : List A) → Stops ranks c x → (g r : List A) → Lyndon ranks g → u ++ (v ++ x) ≡ g ++ r → length g ≤ length u
  stop u v c R x hx g r G e = go (cuts u (v ++ x) g r e)
    where
      -- t is a prefix of v
      short : (t q : List A) → g ≡ u ++ t → v ≡ t ++ q → Before ranks g t → ⊥
      short t q d k = within_low g t q (q ++ c ∷ R.rest) (ap (λ z. z ++ q) d ∙ append_assoc u t q ∙ ap (λ z. u ++ z) (sym k) ∙ R.again ∙ ap (λ z. z ++ c ∷ R.rest) k ∙ append_assoc t q (c ∷ R.rest)) (omega (arith, ap length d ∙ length-append u t))

      -- t goes on behind v, with a lesser letter
      long : (t : List A) (b : A) (q : List A) → g ≡ u ++ t → t ≡ v ++ b ∷ q → ranks b c ≡ Less → Before ranks g t → ⊥
      long t b q d k l h =
          let f : g ≡ v ++ (c ∷ R.rest ++ b ∷ q) = d ∙ ap (λ z. u ++ z) k ∙ sym (append_assoc u v (b ∷ q)) ∙ ap (λ z. z ++ b ∷ q) R.again ∙ append_assoc v (c ∷ R.rest) (b ∷ q) in
          asym o g t h (subst₂ (Before ranks) (sym k) (sym f) (front o v (b ∷ q) (c ∷ R.rest ++ b ∷ q) (here o b c q (R.rest ++ b ∷ q) l)))

      pick : (x : List A) → Stops ranks c x → (t : List A) → g ≡ u ++ t → Before ranks g t → Cut v x t r → ⊥
      pick x hx t d h (inl ([], a, b)) = short t [] d (sym (a ∙ append-nil v) ∙ sym (append-nil t)) h
      pick [] hx t d h (inl (z ∷ q, a, b)) = let n : ◌≡◌ {A = ℕ} 0 (suc (length q + length r)) = ap length b ∙ ap suc (length-append q r) in omega arith
      pick (y ∷ x) hx t d h (inl (z ∷ q, a, b)) = let f : y ≡ z = cc in long t z q d a (rw f at hx) h
      pick x hx t d h (inr (q, hq, a, b)) = short t q d a h

      go : Cut u (v ++ x) g r → length g ≤ length u
      go (inl ([], d, k)) = omega (arith, ap length (d ∙ append-nil u))
      go (inl (y ∷ t, d, k)) = absurd (pick x hx (y ∷ t) d (suffix o g G u (y ∷ t) R.lyndon.some (omega arith) d) (cuts v x (y ∷ t) r k))
      go (inr (t, ht, d, k)) = omega (arith, ap length d ∙ length-append g t)

  -- behind one u the same period goes on
  pub next : (u v : List A) (c : A) → Reads ranks u (u ++ v) c → Reads ranks u v c
  next u v c R = record { lyndon = R.lyndon; rest = R.rest; again = append_cancel_left u (u ++ v) (v ++ c ∷ R.rest) (R.again ∙ append_assoc u v (c ∷ R.rest)) }
