-- Products of sheets, as lists of values.
use Rattle.std.specs.Prelude.{List, [], ◌∷◌, map}
use Rattle.std.specs.List.{flat_map}
use Rattle.ring_laws.specs.Rings.{Operations}

module _ {A : Type 0} (ring : Operations A) where
  -- a value times each of a row
  abbrev pub multiple : A → List A → List A
  multiple value row = map (ring.times value) row

  -- xy: each value of x times each of y
  abbrev pub product : List A → List A → List A
  product x y = flat_map (λ value. multiple value y) x

  -- the second taken from the first, place by place; what the first has behind it stays
  abbrev pub minus : List A → List A → List A
  minus xs [] = xs
  minus [] (y ∷ ys) = []
  minus (x ∷ xs) (y ∷ ys) = ring.plus x (ring.negative y) ∷ minus xs ys
