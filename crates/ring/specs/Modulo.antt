-- The rings of whole numbers modulo 2^64 and modulo 2^16.
use Rattle.std.specs.Prelude.{◌^◌, refl}
use lib.Dec.{lit<}
use Rattle.ring_laws.specs.Rings.{Operations}
use Rattle.ring_laws.specs.Residues.{Below, residues}
use Rattle.ring.specs.declared.modulo.Mod64.{Mod64}
use Rattle.ring.specs.declared.modulo.Mod16.{Mod16}

abbrev pub below_64 : Below (2 ^ 64) Mod64
below_64 =
    record {
      several = lit< tt;
      value = λ x. x.value;
      make = λ n h. record { value = n; fits = h };
      below = λ x. x.fits;
      made = λ n h. refl;
      own = λ x. refl;
    }

abbrev pub ring_64 : Operations Mod64
ring_64 = residues below_64

abbrev pub below_16 : Below (2 ^ 16) Mod16
below_16 =
    record {
      several = lit< tt;
      value = λ x. x.value;
      make = λ n h. record { value = n; fits = h };
      below = λ x. x.fits;
      made = λ n h. refl;
      own = λ x. refl;
    }

abbrev pub ring_16 : Operations Mod16
ring_16 = residues below_16
