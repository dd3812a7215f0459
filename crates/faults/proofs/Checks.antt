-- What a check comes to.
use Rattle.std.proofs.Common.{◌≡◌, ℕ, Bool, true, false, Ok, Err, Result, IsOk, refl, arith}
use Rattle.faults.specs.declared.Fault.{Fault}
use Rattle.faults.specs.Outcome.{Outcome, refuse_if, checked, told}
use Rattle.faults.specs.Outcome.Outcome.{answered, refused}

pub refuses : {X : Type 0} (bad : Bool) (f : Fault) (rest : Outcome X) → bad ≡ true → refused f ≡ refuse_if bad f rest
refuses bad f rest h = rw h

-- what a check refuses, and with which fault
pub refused_by : {X : Type 0} (bad : Bool) (e f : Fault) (x : X) → refused e ≡ refuse_if bad f (answered x) → (bad ≡ true) × (e ≡ f)
refused_by true e f x h = (refl, cc)
refused_by false e f x h = absurd (let z : ◌≡◌ {A = ℕ} 0 1 = cc in omega arith)

-- what a check lets pass, and what it answers
pub answered_by : {X : Type 0} (bad : Bool) (f : Fault) (x y : X) → answered x ≡ refuse_if bad f (answered y) → (bad ≡ false) × (x ≡ y)
answered_by true f x y h = absurd (let z : ◌≡◌ {A = ℕ} 0 1 = cc in omega arith)
answered_by false f x y h = (refl, cc)

-- the same of a check that is made first
pub passed : {X : Type 0} (first : Outcome (Unit {0})) (rest : Outcome X) (x : X) → answered x ≡ checked first rest → (answered tt ≡ first) × (answered x ≡ rest)
passed (answered done) rest x e = (refl, e)
passed (refused f) rest x e = absurd (let z : ◌≡◌ {A = ℕ} 0 1 = cc in omega arith)

pub stopped : {X : Type 0} (first : Outcome (Unit {0})) (f : Fault) (x : X) → refused f ≡ checked first (answered x) → refused f ≡ first
stopped (answered done) f x e = absurd (let z : ◌≡◌ {A = ℕ} 0 1 = cc in omega arith)
stopped (refused g) f x e = cc

-- a call that comes to an answer
pub answers : {X Y E : Type 0} (seen : X → Y) (why : E → Fault) (r : Result X E) (y : Y) → told seen why r ≡ answered y → IsOk r
answers seen why (Ok x) y e = refl
answers seen why (Err f) y e = absurd (let z : ◌≡◌ {A = ℕ} 0 1 = cc in omega arith)
