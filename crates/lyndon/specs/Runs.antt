-- Equal factors in a row.
use Rattle.std.specs.Prelude.{◌≡◌, ℕ, ◌*◌, ◌<◌, ◌≤◌, List, ◌++◌, length, take, drop, replicate}
use Rattle.std.specs.declared.cmp.Ordering.{Ordering}
use Rattle.lyndon.specs.Factoring.{factors}

-- w begins with `count` equal factors of `period` letters; the others are the factors of what follows
pub record LeadingRun {A : Type 0} (ranks : A → A → Ordering) (w : List A) (period count : ℕ) : Type 0 where
  pub letters : 0 < period
  pub some : 0 < count
  pub within : count * period ≤ length w
  pub factored : factors ranks w ≡ replicate count (take period w) ++ factors ranks (drop (count * period) w)
