-- Powers of a shape.
use Rattle.std.proofs.Common.{◌≡◌, ℕ, ◌^◌, ◌<◌, ◌≤◌, Bool, false, ◌⊎◌, Decides, inl, inr, arith}
use native.Mathlib.Nat.{pow-le-pow_right, one-le-pow}
use Rattle.std.proofs.lemmas.Bool.{both_ways, cases_lt}

-- a shorter word has fewer codes
pub fewer : (k i m : ℕ) → 1 ≤ k → k ^ m ≤ 4096 → i ≤ m → k ^ i ≤ 4096
fewer k i m o t h = let up : k ^ i ≤ k ^ m = pow-le-pow_right o h in omega arith

pub fits : (k i m : ℕ) → 1 ≤ k → k ^ m ≤ 4096 → i ≤ m → k ^ i < 65536
fits k i m o t h = omega (arith, fewer k i m o t h)

pub some : (k i r : ℕ) → 1 ≤ k → r ≡ k ^ i → 0 < r
some k i r o e = omega (arith, one-le-pow i k o)

-- a length that is not the longest
pub not_longest : (r : Bool) (m n : ℕ) → Decides r (m ≡ n) → r ≡ false → m ≤ n → m < n
not_longest r m n D e h = go (cases_lt m n)
  where
    go : (m < n) ⊎ (n ≤ m) → m < n
    go (inl l) = l
    go (inr l) = absurd (both_ways r e (D.1 (omega arith)))
