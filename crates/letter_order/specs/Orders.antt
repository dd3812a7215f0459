-- Orders of letters.
use Rattle.std.specs.Prelude.{◌≡◌, ℕ, ◌↔◌}
use Rattle.std.specs.declared.cmp.Ordering.TheVariants.{Less, Equal}
use Rattle.std.specs.declared.cmp.Ordering.{Ordering}
use Rattle.std.specs.Ordering.{ordering_reverse, nat_cmp}

-- the laws of an order: Less says before, Equal the same, Greater after
pub record TotalOrder {A : Type 0} (ranks : A → A → Ordering) : Type 0 where
  pub exchanged : (x y : A) → ranks y x ≡ ordering_reverse (ranks x y)
  pub transitive : (x y z : A) → ranks x y ≡ Less → ranks y z ≡ Less → ranks x z ≡ Less
  pub same : (x y : A) → (ranks x y ≡ Equal) ↔ (x ≡ y)

-- numbers by their value
abbrev pub by_value : ℕ → ℕ → Ordering
by_value = nat_cmp

-- the reverse of an order
abbrev pub reversed_order : {A : Type 0} → (A → A → Ordering) → A → A → Ordering
reversed_order ranks x y = ranks y x
