-- What the leading run tells of the last factor, and of Lyndon words.
use Rattle.std.proofs.Common.{◌≡◌, ℕ, zero, suc, Bool, ◌+◌, ◌-◌, ◌*◌, ◌<◌, false, eqb, List, [], ◌∷◌, ◌++◌, length, take, drop, replicate, Option, Some, None, MatchOption, Ordering, sym, refl, ap, ◌∙◌, subst, inl, inr, append_assoc, append-nil, mul-le-mul_right, suc-mul, zero-mul, add-one, zero-add, arith, length-append, length-drop, eqb-true}
use Rattle.std.specs.Iterator.{Yields, Drains}
use Rattle.std.specs.List.{last_or}
use borrow.Author.Tests.{eqb-false}
use Rattle.std.proofs.lemmas.List.{length-take-le, replicate_more, take_all}
use Rattle.std.proofs.lemmas.Bool.{cases_Bool}
use Rattle.letter_order.specs.Orders.{TotalOrder}
use Rattle.lyndon.specs.Words.{Lyndon, joined}
use Rattle.lyndon.specs.Factoring.{factors, is_lyndon, ahead}
use Rattle.lyndon.specs.Runs.{LeadingRun}
use Rattle.lyndon.proofs.Factorization.{factored}
use Rattle.lyndon.proofs.Splitting.{ahead_last, ended, tested}
use Rattle.lyndon.proofs.Theorems.{factorizations}
use Rattle.word.specs.Passing.{gives_run}
use Rattle.word.specs.declared.run.Run.{Run}
use Rattle.word.specs.declared.run.Runs.{Runs}
use Rattle.word.proofs.Passing.{Within, letters_left, passed, none_left}

joined-append : {A : Type 0} (fs gs : List (List A)) → joined (fs ++ gs) ≡ joined fs ++ joined gs
joined-append [] gs = refl
joined-append (f ∷ fs) gs = ap (λ l. f ++ l) (joined-append fs gs) ∙ sym (append_assoc f (joined fs) (joined gs))

length-repeated : {A : Type 0} (count : ℕ) (f : List A) → length (joined (replicate count f)) ≡ count * length f
length-repeated zero f = rw zero-mul refl
length-repeated (suc count) f =
    omega (arith, length-append f (joined (replicate count f)), length-repeated count f, suc-mul count (length f))

module _ {A : Type 0} {ranks : A → A → Ordering} (o : TotalOrder ranks) (w : List A) (period count : ℕ) (R : LeadingRun ranks w period count) where
  first_length : length (take period w) ≡ period
  first_length = length-take-le period w (omega (arith, mul-le-mul_right period R.some, R.within))

  -- the run is a factor and others
  begins : (n : ℕ) → 0 < n → factors ranks w ≡ replicate n (take period w) ++ factors ranks (drop (n * period) w) → (fs : List (List A)) × (factors ranks w ≡ take period w ∷ fs)
  begins zero h e = absurd (omega arith)
  begins (suc n) h e = (replicate n (take period w) ++ factors ranks (drop (suc n * period) w), e)

  lyndon_by_run : eqb period (length w) ≡ is_lyndon ranks w
  lyndon_by_run =
      let b = begins count R.some R.factored in
      let first = (factorizations o w).first (take period w) b.0 b.1 in
      elim (cases_Bool (eqb period (length w))) [
        | inl e ↦
            let all : take period w ≡ w = take_all period w (omega (arith, eqb-true period (length w) e)) in
            e ∙ sym ((tested o w).1 (subst (Lyndon ranks) all first.lyndon))
        | inr e ↦
            elim (cases_Bool (is_lyndon ranks w)) [
              | inl d ↦
                  let L = (tested o w).0 d in
                  let n = first.longest (length w) (omega arith) (rw (take_all (length w) w (omega arith)) L) in
                  absurd (eqb-false period (length w) e (omega (arith, first_length, mul-le-mul_right period R.some, R.within)))
              | inr d ↦ e ∙ sym d
            ]
      ]

  -- the run ends with the word
  pub last_in_run : drop (count * period) w ≡ [] → ahead ranks w ≡ (count - 1) * period
  last_in_run whole = go count R.some R.factored whole
    where
      go : (n : ℕ) → 0 < n → factors ranks w ≡ replicate n (take period w) ++ factors ranks (drop (n * period) w) → drop (n * period) w ≡ [] → ahead ranks w ≡ (n - 1) * period
      go zero h f e = absurd (omega arith)
      go (suc n) h f e =
          let last : factors ranks w ≡ replicate n (take period w) ++ take period w ∷ [] = f ∙ ap (λ v. replicate (suc n) (take period w) ++ factors ranks v) e ∙ append-nil (replicate (suc n) (take period w)) ∙ sym (replicate_more n (take period w) ∙ ap (λ k. replicate k (take period w)) (add-one n)) in
          let before : n ≡ suc n - 1 = omega arith in
          ahead_last o w (replicate n (take period w)) (take period w) last
          ∙ length-repeated n (take period w)
          ∙ ap (λ k. n * k) first_length
          ∙ ap (λ k. k * period) before

  -- something follows the run
  pub last_behind_run : count * period < length w → ahead ranks w ≡ count * period + ahead ranks (drop (count * period) w)
  last_behind_run more = go (factors ranks (drop (count * period) w)) refl
    where
      rest : List A
      rest = drop (count * period) w

      go : (gs : List (List A)) → factors ranks rest ≡ gs → ahead ranks w ≡ count * period + ahead ranks rest
      go [] e = absurd (omega (arith, ap length (sym (factored o rest).whole ∙ ap joined e), length-drop (count * period) w))
      go (g ∷ gs) e =
          let d = ended g gs in
          let f = take period w in
          let last : factors ranks w ≡ (replicate count f ++ d.0) ++ d.1 ∷ [] = R.factored ∙ ap (λ l. replicate count f ++ l) (e ∙ d.2) ∙ sym (append_assoc (replicate count f) d.0 (d.1 ∷ [])) in
          ahead_last o w (replicate count f ++ d.0) d.1 last
          ∙ ap length (joined-append (replicate count f) d.0)
          ∙ length-append (joined (replicate count f)) (joined d.0)
          ∙ ap (λ n. n + length (joined d.0)) (length-repeated count f ∙ ap (λ n. count * n) first_length)
          ∙ ap (λ n. count * period + n) (sym (ahead_last o rest d.0 d.1 (e ∙ d.2)))

-- a word is Lyndon where it begins with a run, and that has the period of the word
pub lyndon_by_first : {A : Type 0} {ranks : A → A → Ordering} (o : TotalOrder ranks) (w : List A) (r : Option Run) (b : Bool) {Answers : Run → Type 0} → MatchOption r (w ≡ []) (λ run. LeadingRun ranks w run.period run.count) → MatchOption r (b ≡ false) Answers → ((run : Run) → Answers run → b ≡ eqb run.period (length w)) → b ≡ is_lyndon ranks w
lyndon_by_first {ranks = ranks} o w None b none wrong f = wrong ∙ ap (is_lyndon ranks) (sym none)
lyndon_by_first o w (Some run) b R same f = f run same ∙ lyndon_by_run o w run.period run.count R

-- ---- the last run of what is left of a word

module _ {L O : Type 0} (ranks : O → L → L → Ordering) where
  -- the last factor of what is left is the last one of this run
  pub record Last (s : Runs L O) (x : ℕ × Run) : Type 0 where
    pub some : 0 < x.1.count
    pub letters : 0 < x.1.period
    pub end : x.0 + (x.1.count - 1) * x.1.period + x.1.period ≡ length s.word.now
    pub start : x.0 + (x.1.count - 1) * x.1.period ≡ s.from + ahead (ranks s.order.now) (letters_left ranks s)

  module _ (o : (order : O) → TotalOrder (ranks order)) where
    weaker : {X : Type 0} (N : Type 0) {P Q : X → Type 0} (r : Option X) → ((x : X) → P x → Q x) → MatchOption r N P → MatchOption r N Q
    weaker N None f h = h
    weaker N (Some x) f h = f x h

    last_from : (N : Type 0) (x : ℕ × Run) (xs : List (ℕ × Run)) (s j t u : Runs L O) → Within ranks s → gives_run ranks s (Some x) j → Yields (gives_run ranks) j xs t → gives_run ranks t None u → MatchOption (last_or (Some x) xs) N (Last s)
    last_from N x [] s j t u h step e end =
        let p = passed ranks s x j h step in
        let last : (x.1.count - 1) * x.1.period + x.1.period ≡ x.1.count * x.1.period = sym (suc-mul (x.1.count - 1) x.1.period) ∙ ap (λ n. n * x.1.period) (omega (arith, p.leading.some)) in
        let none : letters_left ranks j ≡ [] = ap (letters_left ranks) e ∙ none_left ranks t u end in
        record {
          some = p.leading.some;
          letters = p.leading.letters;
          end = omega (arith, last, step.0, p.moved, p.within, ap length none, length-drop j.from j.word.now, ap length step.3);
          start = ap (λ n. n + (x.1.count - 1) * x.1.period) step.0 ∙ ap (λ n. s.from + n) (sym (last_in_run (o s.order.now) (letters_left ranks s) x.1.period x.1.count p.leading (sym p.rest ∙ none)));
        }
    last_from N x (y ∷ ys) s j t u h step (k, next, steps) end =
        let p = passed ranks s x j h step in
        let q = passed ranks j y k p.within next in
        let left : length (letters_left ranks j) ≡ length (letters_left ranks s) - x.1.count * x.1.period = ap length p.rest ∙ length-drop (x.1.count * x.1.period) (letters_left ranks s) in
        let more : x.1.count * x.1.period < length (letters_left ranks s) = omega (arith, q.few, q.leading.some, q.leading.within) in
        let same : j.from + ahead (ranks j.order.now) (letters_left ranks j) ≡ s.from + ahead (ranks s.order.now) (letters_left ranks s) =
        ap (λ order. j.from + ahead (ranks order) (letters_left ranks j)) step.2
        ∙ ap (λ v. j.from + ahead (ranks s.order.now) v) p.rest
        ∙ omega (arith, p.moved, last_behind_run (o s.order.now) (letters_left ranks s) x.1.period x.1.count p.leading more) in
        weaker N (last_or (Some y) ys) (λ z l. record { some = l.some; letters = l.letters; end = l.end ∙ ap length step.3; start = l.start ∙ same }) (last_from N y ys j k t u p.within next steps end)

    last_of : (s : Runs L O) (xs : List (ℕ × Run)) → Within ranks s → Drains (gives_run ranks) s xs → MatchOption (last_or None xs) (letters_left ranks s ≡ []) (Last s)
    last_of s [] h (u, (t, e, end)) = ap (letters_left ranks) e ∙ none_left ranks t u end
    last_of s (x ∷ xs) h (u, (t, (j, step, steps), end)) = last_from _ x xs s j t u h step steps end

    -- ---- of a whole word

    pub no_last : (s : Runs L O) (r : Option (ℕ × Run)) → s.from ≡ 0 → ((xs : List (ℕ × Run)) × Drains (gives_run ranks) s xs × (r ≡ last_or None xs)) → r ≡ None → s.word.now ≡ []
    no_last s r h (xs, d, e) n = ap (λ k. drop k s.word.now) (sym h) ∙ (rw (sym e ∙ n) at (last_of s xs (omega arith) d))

    pub some_last : (s : Runs L O) (r : Option (ℕ × Run)) (x : ℕ × Run) → s.from ≡ 0 → ((xs : List (ℕ × Run)) × Drains (gives_run ranks) s xs × (r ≡ last_or None xs)) → r ≡ Some x → Last s x
    some_last s r x h (xs, d, e) n = rw (sym e ∙ n) at (last_of s xs (omega arith) d)

    pub last_start : (s : Runs L O) (x : ℕ × Run) → s.from ≡ 0 → Last s x → x.0 + (x.1.count - 1) * x.1.period ≡ ahead (ranks s.order.now) s.word.now
    last_start s x h l = l.start ∙ ap (λ n. n + ahead (ranks s.order.now) (drop n s.word.now)) h ∙ zero-add (ahead (ranks s.order.now) s.word.now)
