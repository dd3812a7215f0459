-- The loop that reads the equal factors with which a word begins.
use Rattle.std.proofs.Common.{◌≡◌, ℕ, zero, suc, ◌+◌, ◌-◌, ◌*◌, ◌/◌, ◌<◌, ◌≤◌, List, [], ◌∷◌, ◌++◌, length, get_or, take, drop, replicate, Ordering, Less, Equal, sym, refl, ap, ◌∙◌, subst, inl, inr, append_assoc, append-nil, suc-mul, one-mul, le-div_iff_mul-le, zero-mul, div-mul-le_self, arith, length-append, take-append-drop}
use lib.Seq.{take-append_seam, drop-append_seam}
use Rattle.std.proofs.lemmas.List.{drop_all, drop-drop, drop_more, get_or_at, get_or-take, length-take-le, take_more}
use Rattle.letter_order.specs.Orders.{TotalOrder}
use Rattle.lyndon.specs.Words.{Lyndon}
use Rattle.lyndon.specs.Factoring.{factors}
use Rattle.lyndon.specs.Runs.{LeadingRun}
use Rattle.lyndon.proofs.LyndonWords.{cuts, single}
use Rattle.lyndon.proofs.Factorization.{longest_first}
use Rattle.lyndon.proofs.Duval.{Reads, Stops, fresh, next, step_greater, step_same, stop}

-- `read` letters of w are read: a Lyndon word u of `period` letters, and its repeats as far as they go
pub record Reading {A : Type 0} (ranks : A → A → Ordering) (w : List A) (read period : ℕ) : Type 0 where
  pub u : List A
  pub v : List A
  pub c : A
  pub reads : Reads ranks u v c
  pub front : take read w ≡ u ++ v
  pub size : length u ≡ period

module _ {A : Type 0} {ranks : A → A → Ordering} (o : TotalOrder ranks) where
  pub reading_start : (w : List A) → 0 < length w → Reading ranks w 1 1
  reading_start [] h = absurd (omega arith)
  reading_start (x ∷ w) h = record { u = x ∷ []; v = []; c = x; reads = fresh o x [] (single o x); front = refl; size = refl }

  -- as many equal factors as fit into what is read
  run : (k : ℕ) (u v x w : List A) (c : A) → Reads ranks u v c → Stops ranks c x → w ≡ u ++ (v ++ x) → k * length u ≤ length u + length v → factors ranks w ≡ replicate k u ++ factors ranks (drop (k * length u) w)
  run zero u v x w c R s e h = rw zero-mul refl
  run (suc k) u v x w c R s e h =
      let one : factors ranks w ≡ u ∷ factors ranks (v ++ x) = longest_first o w u (v ++ x) e R.lyndon (λ g q G d. stop o u v c R x s g q G (sym e ∙ d)) in
      let left : drop (k * length u) (v ++ x) ≡ drop (suc k * length u) w = ap (drop (k * length u)) (sym (drop-append_seam u (v ++ x)) ∙ ap (drop (length u)) (sym e)) ∙ drop-drop (k * length u) (length u) w ∙ ap (λ n. drop n w) (omega (arith, suc-mul k (length u))) in
      one ∙ ap (λ fs. u ∷ fs) (more k (omega (arith, suc-mul k (length u))) (λ t S d n. run k u t x (v ++ x) c S s d n) ∙ ap (λ l. replicate k u ++ factors ranks l) left)
    where
      more : (k : ℕ) → k * length u ≤ length v → ((t : List A) → Reads ranks u t c → v ++ x ≡ u ++ (t ++ x) → k * length u ≤ length u + length t → factors ranks (v ++ x) ≡ replicate k u ++ factors ranks (drop (k * length u) (v ++ x))) → factors ranks (v ++ x) ≡ replicate k u ++ factors ranks (drop (k * length u) (v ++ x))
      more zero n again = rw zero-mul refl
      more (suc k) n again =
          elim (cuts u v v (c ∷ R.rest) R.again) [
            | inl (t, a, b) ↦ again t (next o u t c (subst (λ z. Reads ranks u z c) a R)) (ap (λ z. z ++ x) a ∙ append_assoc u t x) (omega (arith, ap length a ∙ length-append u t))
            | inr (t, ht, a, b) ↦ absurd (omega (arith, suc-mul k (length u), ap length a ∙ length-append v t))
          ]

  module _ (w : List A) (read period : ℕ) (R : Reading ranks w read period) (within : read ≤ length w) where
    sizes : read ≡ period + length R.v
    sizes = sym (length-take-le read w within) ∙ ap length R.front ∙ length-append R.u R.v ∙ ap (λ z. z + length R.v) R.size

    pub period_some : (0 < period) × (period ≤ read)
    period_some = (omega (arith, R.size, R.reads.lyndon.some), omega (arith, sizes))

    -- the letter a period back is the one that goes on
    letter_at : (x : A) → x ≡ get_or w (read - period) x → x ≡ R.c
    letter_at x e =
        e
        ∙ sym (get_or-take read w (read - period) x (omega (arith, period_some)))
        ∙ ap (λ z. get_or z (read - period) x) (R.front ∙ R.reads.again)
        ∙ get_or_at R.v R.c R.reads.rest x (read - period) (omega (arith, sizes))

    pub stops_end : length w ≤ read → Stops ranks R.c (drop read w)
    stops_end h = rw (drop_all read w h) tt

    module _ (x y : A) (more : read < length w) (hx : x ≡ get_or w (read - period) x) (hy : y ≡ get_or w read y) where
      next_read : take (read + 1) w ≡ (R.u ++ R.v) ++ y ∷ []
      next_read = take_more w read y more ∙ ap (λ z. z ++ get_or w read y ∷ []) R.front ∙ ap (λ z. (R.u ++ R.v) ++ z ∷ []) (sym hy)

      pub reading_same : ranks x y ≡ Equal → Reading ranks w (read + 1) period
      reading_same h =
          let S = step_same o R.u R.v R.c R.reads in
          record {
            u = R.u;
            v = R.v ++ R.c ∷ [];
            c = S.0;
            reads = S.1;
            front = next_read ∙ ap (λ z. (R.u ++ R.v) ++ z ∷ []) (sym ((o.same x y).0 h) ∙ letter_at x hx) ∙ append_assoc R.u R.v (R.c ∷ []);
            size = R.size;
          }

      pub reading_greater : ranks x y ≡ Less → Reading ranks w (read + 1) (read + 1)
      reading_greater h = go ((R.u ++ R.v) ++ y ∷ []) next_read (step_greater o R.u R.v R.c y R.reads (subst (λ z. ranks z y ≡ Less) (letter_at x hx) h))
        where
          go : (l : List A) → take (read + 1) w ≡ l → Lyndon ranks l → Reading ranks w (read + 1) (read + 1)
          go [] e L = absurd (omega (arith, L.some))
          go (b ∷ l) e L = record {
            u = b ∷ l;
            v = [];
            c = b;
            reads = fresh o b l L;
            front = e ∙ sym (append-nil (b ∷ l));
            size = sym (ap length e) ∙ length-take-le (read + 1) w (omega arith);
          }

      pub stops_less : ranks y x ≡ Less → Stops ranks R.c (drop read w)
      stops_less h = subst (Stops ranks R.c) (sym (drop_more w read y more ∙ ap (λ z. z ∷ drop (read + 1) w) (sym hy))) (subst (λ z. ranks y z ≡ Less) (letter_at x hx) h)

    pub reading_run : Stops ranks R.c (drop read w) → LeadingRun ranks w period (read / period)
    reading_run s =
        let whole : read / period * period ≤ read = div-mul-le_self read period in
        let front : w ≡ R.u ++ (R.v ++ drop read w) = sym (take-append-drop read w) ∙ ap (λ z. z ++ drop read w) R.front ∙ append_assoc R.u R.v (drop read w) in
        let first : take period w ≡ R.u = ap (λ n. take n w) (sym R.size) ∙ ap (take (length R.u)) front ∙ take-append_seam R.u (R.v ++ drop read w) in
        let fits : read / period * length R.u ≤ length R.u + length R.v = rw R.size (omega (arith, sizes, whole)) in
        let factored : factors ranks w ≡ replicate (read / period) R.u ++ factors ranks (drop (read / period * length R.u) w) = run (read / period) R.u R.v (drop read w) w R.c R.reads s front fits in
        record {
          letters = period_some.0;
          some = (le-div_iff_mul-le {x = 1} period_some.0).1 (rw one-mul period_some.1);
          within = omega (arith, whole);
          factored = rw first (rw R.size at factored);
        }
