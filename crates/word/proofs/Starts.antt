-- The starts of factors that stand one behind the other.
use Rattle.std.proofs.Common.{◌≡◌, ℕ, zero, suc, ◌+◌, ◌*◌, List, [], ◌∷◌, ◌++◌, length, take, replicate, None, Ordering, sym, refl, ap, ◌∙◌, append_assoc, append-nil, add-zero, mul-le-mul_right, suc-mul, zero-mul, add-one, arith, length-append}
use Rattle.std.proofs.lemmas.List.{length-take-le}
use Rattle.lyndon.specs.Factoring.{factors}
use Rattle.word.specs.Calls.{paced, starts_from}
use Rattle.word.specs.Passing.{gives_run}
use Rattle.word.specs.declared.run.Run.{Run}
use Rattle.word.specs.declared.run.Runs.{Runs}
use Rattle.word.proofs.Passing.{letters_left, factors_left, Passed, none_left}

pub paced_more : (place period count : ℕ) → paced place period (count + 1) ≡ paced place period count ++ (place + count * period) ∷ []
paced_more place period count = rw add-one (go place count)
  where
    go : (place count : ℕ) → paced place period (suc count) ≡ paced place period count ++ (place + count * period) ∷ []
    go place zero = rw (zero-mul, add-zero) refl
    go place (suc count) = ap (λ l. place ∷ l) (go (place + period) count ∙ ap (λ n. paced (place + period) period count ++ n ∷ []) (omega (arith, suc-mul count period)))

pub length-paced : (place period count : ℕ) → length (paced place period count) ≡ count
length-paced place period zero = refl
length-paced place period (suc count) = ap suc (length-paced (place + period) period count)

pub starts-paced : {A : Type 0} (place count : ℕ) (f : List A) (rest : List (List A)) → starts_from place (replicate count f ++ rest) ≡ paced place (length f) count ++ starts_from (place + count * length f) rest
starts-paced place zero f rest = rw (zero-mul, add-zero) refl
starts-paced place (suc count) f rest =
    ap (λ l. place ∷ l) (starts-paced (place + length f) count f rest ∙ ap (λ n. paced (place + length f) (length f) count ++ starts_from n rest) (omega (arith, suc-mul count (length f))))

pub length-starts : {A : Type 0} (place : ℕ) (fs : List (List A)) → length (starts_from place fs) ≡ length fs
length-starts place [] = refl
length-starts place (f ∷ fs) = ap suc (length-starts (place + length f) fs)

-- ---- the starts that are listed, and those of what is left of a word

module _ {L O : Type 0} (ranks : O → L → L → Ordering) (s : Runs L O) (items all : List ℕ) (listed : items ++ starts_from s.from (factors_left ranks s) ≡ all) where
  pub listed_all : (t : Runs L O) → gives_run ranks s None t → items ≡ all
  listed_all t h =
      sym (append-nil items) ∙ ap (λ w. items ++ starts_from s.from (factors (ranks s.order.now) w)) (sym (none_left ranks s t h)) ∙ listed

  pub listed_length : length items + length (factors_left ranks s) ≡ length all
  listed_length =
      ap (λ n. length items + n) (sym (length-starts s.from (factors_left ranks s)))
      ∙ sym (length-append items (starts_from s.from (factors_left ranks s)))
      ∙ ap length listed

  pub listed_more : (run : Run) (t : Runs L O) (items' : List ℕ) → Passed ranks s run t → items' ≡ items ++ paced s.from run.period run.count → items' ++ starts_from t.from (factors_left ranks t) ≡ all
  listed_more run t items' P e =
      let period : ℕ = run.period in
      let count : ℕ = run.count in
      let f : List L = take period (letters_left ranks s) in
      let rest : List (List L) = factors_left ranks t in
      let n : length f ≡ period = length-take-le period (letters_left ranks s) (omega (arith, P.leading.within, mul-le-mul_right period P.leading.some)) in
      ap (λ l. l ++ starts_from t.from rest) e
      ∙ append_assoc items (paced s.from period count) (starts_from t.from rest)
      ∙ ap (λ k. items ++ (paced s.from period count ++ starts_from k rest)) P.moved
      ∙ ap (λ p. items ++ (paced s.from p count ++ starts_from (s.from + count * p) rest)) (sym n)
      ∙ ap (λ l. items ++ l) (sym (starts-paced s.from count f rest))
      ∙ ap (λ fs. items ++ starts_from s.from fs) (sym P.factored)
      ∙ listed
