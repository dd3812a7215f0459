-- What a caller sees of a table.
use Rattle.std.specs.Prelude.{ℕ, ◌^◌, Bool, not, ◌&&◌, List, [], None, Option, nat_le, nat_lt}
use Rattle.faults.specs.declared.Layer.TheVariants as layer
use Rattle.faults.specs.Faults.{found}
use Rattle.faults.specs.Outcome.{Outcome, refuse_if}
use Rattle.faults.specs.Outcome.Outcome.{answered}
use Rattle.lyndon.specs.declared.entry.Entry.{Entry}

-- the numbers of a shape: how many letters there are, and how many of them a word may have
pub record Dimensions : Type 0 where
  pub k : ℕ
  pub n : ℕ

pub record View : Type 0 where
  -- the k and n of the latest accepted open; none until then
  pub shape : Option Dimensions
  -- by their numbers
  pub entries : List Entry
  -- how many entries the memory can hold
  pub room : ℕ

-- a table for which no open was accepted
abbrev pub fresh : ℕ → View
fresh room = record { shape = None; entries = []; room = room }

abbrev pub within : ℕ → ℕ → ℕ → Bool
within low high n = nat_le low n && nat_le n high

-- which k and n are a shape
abbrev pub shape_checked : ℕ → ℕ → Outcome (Unit {0})
shape_checked k n =
    refuse_if (not (within 1 16 k)) (found 1 layer.Table 0 0)
    (refuse_if (not (within 1 12 n)) (found 2 layer.Table 0 0)
    (refuse_if (nat_lt 4096 (k ^ n)) (found 3 layer.Table 0 0) (answered tt)))
