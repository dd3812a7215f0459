-- Faults: found by a layer, passed up by others.
use Rattle.std.specs.Prelude.{ℕ, Some, None, Option}
use Rattle.faults.specs.declared.Fault.{Fault}
use Rattle.faults.specs.declared.Layer.{Layer}
use Rattle.faults.specs.declared.Names.{Names}

abbrev pub nobody : Names
nobody = record { first = None; second = None; third = None }

-- a fault that a layer finds, with a byte place and a letter position
abbrev pub found : ℕ → Layer → ℕ → ℕ → Fault
found number layer place position =
    record { number = number; layer = layer; place = place; position = position; passed = nobody }

-- one more name, behind those that are there; there are at most three
abbrev pub named : Layer → Option Layer → Option Layer → Option Layer → Names
named by None b c = record { first = Some by; second = b; third = c }
named by (Some a) None c = record { first = Some a; second = Some by; third = c }
named by (Some a) (Some b) None = record { first = Some a; second = Some b; third = Some by }
named by (Some a) (Some b) (Some c) = record { first = Some a; second = Some b; third = Some c }

-- a fault that a layer passes up: the lower one's whole, and the name of the layer
abbrev pub passed : Layer → Fault → Fault
passed by f =
    record {
      number = f.number;
      layer = f.layer;
      place = f.place;
      position = f.position;
      passed = named by f.passed.first f.passed.second f.passed.third;
    }
