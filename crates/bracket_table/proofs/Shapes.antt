-- Which numbers are a shape.
use Rattle.std.proofs.Common.{◌≡◌, ℕ, ◌^◌, ◌<◌, ◌≤◌, arith}
use Rattle.std.proofs.lemmas.Bool.Decides.{nat_tests}
use native.Mathlib.Nat.{pow-le-pow_left, pow-le-pow_right}
use Rattle.faults.specs.Outcome.Outcome.{answered}
use Rattle.bracket_table.specs.Views.{shape_checked}

pub fits : (k n : ℕ) → 1 ≤ k → k ≤ 16 → n ≤ 12 → k ^ n < 18446744073709551616
fits k n o h l =
    let a : k ^ n ≤ k ^ 12 = pow-le-pow_right o l in
    let b : k ^ 12 ≤ 16 ^ 12 = pow-le-pow_left h 12 in
    omega arith

-- the bounds of numbers that pass as a shape
pub taken : (k n : ℕ) → shape_checked k n ≡ answered tt → (1 ≤ k) × (1 ≤ n) × (n ≤ 12)
taken k n e = (grind (arith, nat_tests), grind (arith, nat_tests), grind (arith, nat_tests))
