-- Passing over a word run by run.
use Rattle.std.proofs.Common.{◌≡◌, ℕ, Bool, ◌+◌, ◌*◌, ◌≤◌, List, [], ◌∷◌, ◌++◌, length, take, drop, replicate, Option, Some, None, Ordering, true, sym, refl, subst, ap, ◌∙◌, le-mul_of_pos_right, arith, length-append, length-drop}
use Rattle.std.specs.Iterator.{Yields}
use Rattle.std.specs.Iterator.Runs.{Run as Steps, YieldsRun, SomeRun, IsMapRun}
use Rattle.std.specs.Fn.{Mut, Called}
use Rattle.std.specs.List.{fold}
use lib.ListN.{length-replicate}
use Rattle.std.proofs.lemmas.List.{drop_all, drop-drop}
use Rattle.lyndon.specs.Factoring.{factors}
use Rattle.lyndon.specs.Runs.{LeadingRun}
use Rattle.word.specs.Passing.{gives_run}
use Rattle.word.specs.declared.run.Run.{Run}
use Rattle.word.specs.declared.run.Runs.{Runs}

module _ {L O : Type 0} (ranks : O → L → L → Ordering) where
  -- no more letters are passed than there are
  abbrev pub Within : Runs L O → Type 0
  Within s = s.from ≤ length s.word.now

  -- the letters that are left, and their factors
  abbrev pub letters_left : Runs L O → List L
  letters_left s = drop s.from s.word.now

  abbrev pub factors_left : Runs L O → List (List L)
  factors_left s = factors (ranks s.order.now) (letters_left s)

  -- the run was passed, from s to t
  pub record Passed (s : Runs L O) (run : Run) (t : Runs L O) : Type 0 where
    pub leading : LeadingRun (ranks s.order.now) (letters_left s) run.period run.count
    pub few : run.count ≤ run.count * run.period
    pub within : t.from ≤ length t.word.now
    pub moved : t.from ≡ s.from + run.count * run.period
    pub rest : letters_left t ≡ drop (run.count * run.period) (letters_left s)
    pub factored : factors_left s ≡ replicate run.count (take run.period (letters_left s)) ++ factors_left t
    pub counted : length (factors_left s) ≡ run.count + length (factors_left t)

  pub passed : (s : Runs L O) (x : ℕ × Run) (t : Runs L O) → Within s → gives_run ranks s (Some x) t → Passed s x.1 t
  passed s x t h (e, R, order, word, moved) =
      let run : Run = x.1 in
      let count : ℕ = run.count in
      let period : ℕ = run.period in
      let f : List L = take period (letters_left s) in
      let rest : letters_left t ≡ drop (count * period) (letters_left s) = ap (λ w. drop t.from w) word ∙ ap (λ n. drop n s.word.now) moved ∙ sym (drop-drop (count * period) s.from s.word.now) in
      let factored : factors_left s ≡ replicate count f ++ factors_left t = R.factored ∙ ap (λ w. replicate count f ++ factors (ranks s.order.now) w) (sym rest) ∙ ap (λ order. replicate count f ++ factors (ranks order) (letters_left t)) (sym order) in
      record {
        leading = R;
        few = le-mul_of_pos_right count R.letters;
        within = omega (arith, R.within, length-drop s.from s.word.now, ap length word);
        moved = moved;
        rest = rest;
        factored = factored;
        counted = ap length factored ∙ length-append (replicate count f) (factors_left t) ∙ ap (λ n. n + length (factors_left t)) (length-replicate count f);
      }

  -- nothing is left
  pub none_left : (s t : Runs L O) → gives_run ranks s None t → letters_left s ≡ []
  none_left s t h = drop_all s.from s.word.now h

  -- ---- how many factors there are

  counted : (n : ℕ) (xs : List (ℕ × Run)) (s t : Runs L O) → Within s → Yields (gives_run ranks) s xs t → (fold (λ a x. a + x.1.count) n xs + s.from ≤ n + t.from) × (t.from ≤ length s.word.now) × (fold (λ a x. a + x.1.count) n xs + length (factors_left t) ≡ n + length (factors_left s))
  counted n [] s t h e = subst (λ v. (n + s.from ≤ n + v.from) × (v.from ≤ length s.word.now) × (n + length (factors_left v) ≡ n + length (factors_left s))) e (omega arith, h, refl)
  counted n (x ∷ xs) s t h (j, step, steps) =
      let p = passed s x j h step in
      let q = counted (n + x.1.count) xs j t p.within steps in
      (omega (arith, p.few, p.moved), omega (arith, ap length step.3), omega (arith, p.counted))

  -- a sum of the counts of runs of a word: at most its letters, and of all runs its factors
  pub record Counted (s : Runs L O) (sum : ℕ) (whole : Bool) : Type 0 where
    pub few : sum ≤ length s.word.now
    pub all : whole ≡ true → sum ≡ length (factors (ranks s.order.now) s.word.now)

  runs_counted : (q : Steps (gives_run ranks)) → q.from.from ≡ 0 → Counted q.from (fold (λ a x. a + x.1.count) 0 q.items) q.whole
  unfolding YieldsRun
  runs_counted q h =
      let n = counted 0 q.items q.from q.gave.0.0 (omega arith) q.gave.0.1 in
      record {
        few = omega arith;
        all = λ w.
            let u = q.gave.0.2 w in
            omega (arith, ap (λ l. length (factors (ranks q.gave.0.0.order.now) l)) (none_left q.gave.0.0 u.0 u.1), ap (λ k. length (factors (ranks q.from.order.now) (drop k q.from.word.now))) h);
      }

  -- p has what f gives for each run
  pub counts_summed : {T F : Type 0} {steps : T → Option ℕ → T → Type 0} (g : Mut F ((ℕ × Run) × Unit {0}) ℕ) (f : F) (s : Runs L O) (p : Steps steps) → s.from ≡ 0 → SomeRun (gives_run ranks) s (λ q. IsMapRun p q g f) → ((x : ℕ × Run) (n : ℕ) (f' : F) → Called g f (x, tt) n f' → (f' ≡ f) × (n ≡ x.1.count)) → Counted s (fold (λ a x. a + x) 0 p.items) p.whole
  counts_summed g f s p h (q, at, m) count =
      let n = subst (λ v. Counted v (fold (λ a x. a + x.1.count) 0 q.items) q.whole) at (runs_counted q (ap (λ v. v.from) at ∙ h)) in
      let same : fold (λ a x. a + x) 0 p.items ≡ fold (λ a x. a + x.1.count) 0 q.items = m.4 (λ a x. a + x) (λ a x. a + x.1.count) 0 (λ x y f' a c. let k = count x y f' c in (k.0, ap (λ z. a + z) k.1)) in
      record { few = omega (arith, n.few); all = λ w. same ∙ n.all (m.0 ∙ w) }
