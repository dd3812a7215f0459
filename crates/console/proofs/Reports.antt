-- What is printed.
use Rattle.std.proofs.Common.{◌≡◌, ℕ, List, take, Ok, Err, Result, IfOk, MatchResult, sym, refl, ◌∙◌, subst}
use Rattle.std.specs.declared.alloc.AllocError.{AllocError}
use Rattle.std.proofs.lemmas.Result.{IfOk-weaker}
use Rattle.faults.specs.Outcome.{Outcome}
use Rattle.faults.specs.Outcome.Outcome.{answered, refused}
use Rattle.text.specs.Input.{first_line, FrontDecides}
use Rattle.text.proofs.FirstLine.{front_decides}
use Rattle.console.specs.declared.Stop.{Stop}
use Rattle.console.specs.declared.Stop.TheVariants.{Refused, NoMemory}
use Rattle.console.specs.Reports.{Determined, OutcomePrints, Prints, Settled, StopPrints}

-- ---- a settled report

pub settles : {V : Type 0} (items : V → List ℕ) (P : List ℕ → Type 0) (report : Result V Stop) (printed : Result V AllocError) → MatchResult report (λ v. P (items v)) (StopPrints P) → Settled items report printed → IfOk printed (λ v. P (items v))
settles items P (Ok lines) printed p is = subst (λ r. IfOk r (λ v. P (items v))) (sym is) p
settles items P (Err (Refused f)) printed p is = IfOk-weaker printed _ _ (λ v e. subst P (sym e) p) is
settles items P (Err (NoMemory e)) printed p is = subst (λ r. IfOk r (λ v. P (items v))) (sym is) tt

-- ---- what is printed for an input

-- its line decides it
pub line_prints : (P : List ℕ → List ℕ → Type 0) (input line printed : List ℕ) → answered line ≡ first_line input → P line printed → Prints P input printed
line_prints P input line printed is p = subst (λ o. OutcomePrints P o printed) is p

-- its front decides it
pub front_prints : (P : List ℕ → List ℕ → Type 0) (input printed : List ℕ) → Prints P (take 4097 input) printed → Prints P input printed
unfolding FrontDecides
front_prints P input printed p = subst (λ o. OutcomePrints P o printed) (front_decides input) p

-- where one thing is printed for each answer, one is printed
pub one_prints : {X : Type 0} (P : X → List ℕ → Type 0) (o : Outcome X) → ((x : X) → o ≡ answered x → (one other : List ℕ) → P x one → P x other → one ≡ other) → (one other : List ℕ) → OutcomePrints P o one → OutcomePrints P o other → one ≡ other
one_prints P (answered x) only one other p q = only x refl one other p q
one_prints P (refused f) only one other p q = p ∙ sym q

pub determined : (P : List ℕ → List ℕ → Type 0) → ((line one other : List ℕ) → P line one → P line other → one ≡ other) → Determined P
determined P only = record {
  front = front_prints P;
  once = λ input one other. one_prints P (first_line input) (λ line _. only line) one other;
}
