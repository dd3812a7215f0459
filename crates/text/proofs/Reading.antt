-- Reading a text state by state, and what a text comes to.
use Rattle.std.proofs.Common.{◌≡◌, ℕ, suc, ◌+◌, ◌-◌, ◌<◌, ◌≤◌, List, [], ◌∷◌, ◌++◌, length, get_or, take, drop, sym, refl, ap, ◌∙◌, inl, inr, append_assoc, zero-add, arith, length-append, take-append-drop}
use Rattle.std.proofs.lemmas.List.{drop_all, drop_more, drop-drop, length-drop, length-take-le, take-take}
use Rattle.std.proofs.lemmas.Bool.{cases_lt, cases_order}
use Rattle.text.specs.Reading.{Viable, Stops, Begins, Halts, Leads}

take-over : (u t : List ℕ) (n : ℕ) → take (length u + n) (u ++ t) ≡ u ++ take n t
take-over [] t n = ap (λ k. take k t) (zero-add n)
take-over (c ∷ u) t n =
    let e : suc (length u) + n ≡ suc (length u + n) = omega arith in
    ap (λ k. take k (c ∷ (u ++ t))) e ∙ ap (λ l. c ∷ l) (take-over u t n)

-- a front that is not empty begins as the text does
begins_front : (P : ℕ → Type 0) (t more : List ℕ) (n : ℕ) → n < length t → Begins P t → Begins P (take (n + 1) t ++ more)
begins_front P [] more n h b = absurd (omega arith)
begins_front P (c ∷ t) more n h b =
    let e : n + 1 ≡ suc n = omega arith in
    rw e b

-- any byte
abbrev pub Any : ℕ → Type 0
Any c = Unit {0}

pub begins_any : (t : List ℕ) → Begins Any t
begins_any [] = tt
begins_any (c ∷ t) = tt

pub begins_at : (P : ℕ → Type 0) (bs : List ℕ) (i : ℕ) → (i < length bs → P (get_or bs i 0)) → Begins P (drop i bs)
begins_at P bs i p =
    elim (cases_lt i (length bs)) [
      | inl h ↦ rw (drop_more bs i 0 h) (p h)
      | inr h ↦ rw (drop_all i bs h) tt
    ]

-- the bytes from the place i up to j
abbrev pub part : List ℕ → ℕ → ℕ → List ℕ
part bs i j = take (j - i) (drop i bs)

pub part_rest : (bs : List ℕ) (i j : ℕ) → i < j → j ≤ length bs → (drop i bs ≡ part bs i j ++ drop j bs) × (j ≡ i + length (part bs i j))
part_rest bs i j less within =
    let n : i + (j - i) ≡ j = omega arith in
    let size : length (part bs i j) ≡ j - i = length-take-le (j - i) (drop i bs) (rw length-drop (omega arith)) in
    (sym (take-append-drop (j - i) (drop i bs)) ∙ ap (λ l. part bs i j ++ l) (drop-drop (j - i) i bs ∙ ap (λ k. drop k bs) n), omega arith)

module _ {A S : Type 0} (Rest : S → List ℕ → List A → Type 0) where
  -- the bytes u, which mean w, lead from the state s to z, and the text t behind them begins as P says
  module _ (P : ℕ → Type 0) (s z : S) (u : List ℕ) (w : List A)
      (on : (t : List ℕ) (v : List A) → Rest z t v → Rest s (u ++ t) (w ++ v))
      (back : (t : List ℕ) (x : List A) → Begins P t → Rest s (u ++ t) x → (v : List A) × (x ≡ w ++ v) × Rest z t v)
    where
      viable_over : (t : List ℕ) → Viable (Rest z) t → Viable (Rest s) (u ++ t)
      viable_over t v = (v.0, w ++ v.1, rw append_assoc (on (t ++ v.0) v.1 v.2))

      stops_over : (t : List ℕ) (p : ℕ) → Begins P t → Stops (Rest z) t p → Stops (Rest s) (u ++ t) (length u + p)
      stops_over t p b h =
          record {
            within = rw length-append (omega (arith, h.within));
            viable = rw (take-over u t p) (viable_over (take p t) h.viable);
            stuck =
                elim h.stuck [
                  | inl e ↦
                      inl (
                        rw length-append (ap (λ n. length u + n) e.0),
                        λ x f. let r = back t x b f in e.1 r.0 r.2,
                      )
                  | inr e ↦
                      inr (
                        rw length-append (let k = e.0 in omega arith),
                        λ v.
                            let n : length u + p + 1 ≡ length u + (p + 1) = omega arith in
                            let f : Rest s ((u ++ take (p + 1) t) ++ v.0) v.1 = rw (n, take-over u t (p + 1)) at v.2 in
                            let r = back (take (p + 1) t ++ v.0) v.1 (begins_front P t v.0 p e.0 b) (rw append_assoc at f) in
                            e.1 (v.0, r.0, r.2),
                      )
                ];
          }
          -- the bytes from the place i up to j are u

      pub leads_over : (bs : List ℕ) (i j : ℕ) → i < j → j ≤ length bs → part bs i j ≡ u → Begins P (drop j bs) → Leads Rest bs i s w j z
      leads_over bs i j less within is b =
          let cut = part_rest bs i j less within in
          let e : drop i bs ≡ u ++ drop j bs = cut.0 ∙ ap (λ l. l ++ drop j bs) is in
          let n : j ≡ i + length u = cut.1 ∙ ap (λ l. i + length l) is in
          record {
            reads = λ v f. rw e (on (drop j bs) v f);
            only = λ x f. back (drop j bs) x b (rw e at f);
            halts =
                λ p f.
                let q : length u + (p - j) ≡ p - i = (let k = f.0 in omega arith) in
                (let k = f.0 in omega arith, rw (← q, e) (stops_over (drop j bs) (p - j) b f.1));
          }

  module _ (bs : List ℕ) where
    pub leads_stay : (i : ℕ) (s : S) → Leads Rest bs i s [] i s
    leads_stay i s = record { reads = λ v f. f; only = λ x f. (x, refl, f); halts = λ p f. f }

    pub leads_then : {i j k : ℕ} {s y z : S} {u w : List A} → Leads Rest bs i s u j y → Leads Rest bs j y w k z → Leads Rest bs i s (u ++ w) k z
    leads_then {u = u} {w = w} a b =
        record {
          reads = λ v f. rw append_assoc (a.reads (w ++ v) (b.reads v f));
          only =
              λ x f.
              let p = a.only x f in
              let q = b.only p.0 p.2 in
              (q.0, p.1 ∙ ap (λ v. u ++ v) q.1 ∙ sym (append_assoc u w q.0), q.2);
          halts = λ p f. a.halts p (b.halts p f);
        }

    -- the byte k places on in a part, at which nothing can continue
    pub halts_in : (i j k : ℕ) (s : S) → i < j → j ≤ length bs → k < length (part bs i j) → Viable (Rest s) (take k (part bs i j)) → (Viable (Rest s) (take (k + 1) (part bs i j)) → ⊥) → Halts Rest bs i s (i + k)
    halts_in i j k s less within h front stuck =
        let n : i + k - i ≡ k = omega arith in
        let cut = part_rest bs i j less within in
        let size = length-drop i bs in
        let more = rw (take-take (k + 1) (j - i) (drop i bs) (omega arith)) at stuck in (
          omega arith,
          rw n
              (record {
                within = omega arith;
                viable = rw (take-take k (j - i) (drop i bs) (omega arith)) at front;
                stuck = inr (omega arith, more);
              }),
        )

    -- the end, at which the text may not end
    pub halts_end : (i : ℕ) (s : S) → length bs ≤ i → Viable (Rest s) [] → ((x : List A) → Rest s [] x → ⊥) → Halts Rest bs i s i
    halts_end i s h front short =
        let n : i - i ≡ 0 = omega arith in (
          omega arith,
          rw (n, drop_all i bs h) (record { within = omega arith; viable = front; stuck = inl (refl, short) }),
        )

-- a text comes to one thing
module _ {A : Type 0} (W : List ℕ → List A → Type 0) where
  viable_front : (a b : List ℕ) → Viable W (a ++ b) → Viable W a
  viable_front a b v = (b ++ v.0, v.1, rw append_assoc at v.2)

  viable_less : (bs : List ℕ) (p q : ℕ) → p ≤ q → Viable W (take q bs) → Viable W (take p bs)
  viable_less bs p q h v =
      viable_front (take p bs) (drop p (take q bs)) (rw (← take-take p q bs h, take-append-drop p (take q bs)) v)

  no_later : (bs : List ℕ) (p q : ℕ) → Stops W bs p → Stops W bs q → p < q → ⊥
  no_later bs p q a b h =
      elim a.stuck [
        | inl e ↦ let k = b.within in let z = e.0 in omega arith
        | inr e ↦ e.1 (viable_less bs (p + 1) q (omega arith) b.viable)
      ]

  pub one_place : (bs : List ℕ) (p q : ℕ) → Stops W bs p → Stops W bs q → p ≡ q
  one_place bs p q a b =
      elim (cases_order p q) [
        | inl e ↦ e
        | inr (inl h) ↦ absurd (no_later bs p q a b h)
        | inr (inr h) ↦ absurd (no_later bs q p b a h)
      ]

  pub means_or_stops : (bs : List ℕ) (w : List A) (p : ℕ) → W bs w → Stops W bs p → ⊥
  means_or_stops bs w p f a =
      elim a.stuck [ inl e ↦ e.1 w f | inr e ↦ e.1 (drop (p + 1) bs, w, rw (take-append-drop (p + 1) bs) f) ]
