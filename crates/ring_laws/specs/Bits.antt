-- The ring of two values: a sum is true where its terms differ, a product where both factors are.
use Rattle.std.specs.Prelude.{◌%◌, Bool, true, false, not, ◌&&◌, nat_abs, nat_eq}
use Rattle.ring_laws.specs.Rings.{Operations}

abbrev pub differ : Bool → Bool → Bool
differ true b = not b
differ false b = b

-- the image of a whole number says whether it is odd
abbrev pub bits : Operations Bool
bits =
    record {
      zero = false;
      one = true;
      plus = differ;
      negative = λ a. a;
      times = ◌&&◌;
      image = λ z. nat_eq (nat_abs z % 2) 1;
    }
