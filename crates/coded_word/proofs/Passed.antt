-- What the checks of a word let pass.
use Rattle.std.proofs.Common.{◌≡◌, ℕ, suc, ◌<◌, ◌≤◌, cond, ltb, ◌⊎◌, List, [], ◌∷◌, length, refl, ap, inl, inr, arith}
use Rattle.std.proofs.lemmas.Bool.{cases_lt, ltb-false, lt-ltb, le-ltb}
use Rattle.faults.specs.declared.Layer.TheVariants as layer
use Rattle.faults.specs.Faults.{found}
use Rattle.faults.specs.Outcome.Outcome.{answered}
use Rattle.faults.proofs.Checks.{answered_by}
use Rattle.lyndon.specs.Codes.{Over}
use Rattle.word.specs.Faults.{foreign, letters_checked}

-- every letter is below k
pub all_below : (k : ℕ) (w : List ℕ) → length w ≤ foreign k w → Over k w
all_below k [] h = tt
all_below k (x ∷ w) h = go (cases_lt x k) (all_below k w)
  where
    go : (x < k) ⊎ (k ≤ x) → (length w ≤ foreign k w → Over k w) → (x < k) × Over k w
    go (inl l) more = (l, more (omega (arith, ap (λ b. cond b (suc (foreign k w)) 0) (lt-ltb x k l))))
    go (inr l) more = absurd (omega (arith, ap (λ b. cond b (suc (foreign k w)) 0) (le-ltb x k l)))

pub letters_below : (k : ℕ) (w : List ℕ) → answered tt ≡ letters_checked k w → Over k w
letters_below k w told =
    all_below k w (ltb-false (foreign k w) (length w) (answered_by (ltb (foreign k w) (length w)) (found 13 layer.Word 0 (foreign k w)) tt tt told).0)

-- and then the letters pass
pub below_passes : (k : ℕ) (w : List ℕ) → Over k w → letters_checked k w ≡ answered tt
below_passes k w h = rw (none_foreign w h, le-ltb (length w) (length w) (omega arith))
  where
    none_foreign : (u : List ℕ) → Over k u → foreign k u ≡ length u
    none_foreign [] o = refl
    none_foreign (x ∷ u) o = rw (lt-ltb x k o.0) (ap suc (none_foreign u o.1))
