-- How the loops take products away, and what stands at each place of a product.
use Rattle.std.proofs.Common.{◌≡◌, ℕ, zero, suc, ◌+◌, ◌-◌, ◌*◌, ◌/◌, ◌%◌, ◌<◌, ◌≤◌, List, [], ◌∷◌, ◌++◌, length, get_or, set, take, drop, refl, sym, ap, ◌∙◌, add-one, arith, length-append, take-append-drop, mul-le-mul_right}
use Rattle.std.proofs.lemmas.List.{length-map, length-drop, length-take-le, map_more, flat_map_more, take_more, drop_more, set_split, get_or-map}
use Rattle.std.proofs.lemmas.List.Concat.{get_or-flat_map}
use Rattle.std.proofs.lemmas.Nat.{div_below, div-add-mod'}
use borrow.Rule.Slice.PartMut.{put_mid, mid_of}
use Rattle.ring_laws.specs.Rings.{Operations}
use Rattle.sheet.specs.Products.{multiple, product, minus}

module _ {A : Type 0} (ring : Operations A) where
  length-multiple : (v : A) (row : List A) → length (multiple ring v row) ≡ length row
  length-multiple v row = length-map row (ring.times v)

  pub length-product : (x y : List A) → length (product ring x y) ≡ length x * length y
  length-product [] y = omega arith
  length-product (v ∷ x) y =
      length-append (multiple ring v y) (product ring x y) ∙ omega (arith, length-multiple v y, length-product x y)

  length-rows : (x y : List A) (i : ℕ) → i ≤ length x → length (product ring (take i x) y) ≡ i * length y
  length-rows x y i h = length-product (take i x) y ∙ ap (λ n. n * length y) (length-take-le i x h)

  -- one place more
  multiple_more : (v : A) (row : List A) (j : ℕ) (y : A) → j < length row → y ≡ get_or row j y → multiple ring v (take (j + 1) row) ≡ multiple ring v (take j row) ++ ring.times v y ∷ []
  multiple_more v row j y h e = map_more (ring.times v) row j y h ∙ rw (← e)

  -- one row more
  product_more : (x y : List A) (i : ℕ) (v : A) → i < length x → v ≡ get_or x i v → product ring (take (i + 1) x) y ≡ product ring (take i x) y ++ multiple ring v y
  product_more x y i v h e =
      rw (take_more x i v h, ← e) (sym (flat_map_more (λ w. multiple ring w y) [] (take i x) v))

  -- ---- taken away in parts

  minus-append : (xs ys zs : List A) → minus ring xs (ys ++ zs) ≡ take (length ys) (minus ring xs ys) ++ minus ring (drop (length ys) (minus ring xs ys)) zs
  minus-append xs [] zs = refl
  minus-append [] (y ∷ ys) [] = refl
  minus-append [] (y ∷ ys) (z ∷ zs) = refl
  minus-append (x ∷ xs) (y ∷ ys) zs = ap (λ l. ring.plus x (ring.negative y) ∷ l) (minus-append xs ys zs)

  minus_more : (xs ys zs s : List A) (i : ℕ) → s ≡ minus ring xs ys → length ys ≡ i → take i s ++ minus ring (drop i s) zs ≡ minus ring xs (ys ++ zs)
  minus_more xs ys zs s i is n = rw (is, ← n) (sym (minus-append xs ys zs))

  -- from the front alone
  minus_front : (xs ys zs : List A) → length zs ≡ length xs → minus ring (xs ++ ys) zs ≡ minus ring xs zs ++ ys
  minus_front xs ys [] e = refl
  minus_front [] ys (z ∷ zs) e = absurd (omega arith)
  minus_front (x ∷ xs) ys (z ∷ zs) e =
      ap (λ l. ring.plus x (ring.negative z) ∷ l) (minus_front xs ys zs (omega arith))

  -- from a part alone
  minus_mid : (s zs : List A) (i : ℕ) → i + length zs ≤ length s → put_mid i (length zs) s (minus ring (mid_of i (length zs) s) zs) ≡ take i s ++ minus ring (drop i s) zs
  minus_mid s zs i h =
      let n : length (take (length zs) (drop i s)) ≡ length zs = length-take-le (length zs) (drop i s) (rw length-drop (omega arith)) in
      let e = minus_front (take (length zs) (drop i s)) (drop (length zs) (drop i s)) zs (sym n) in
      ap (λ l. take i s ++ l) (sym (rw take-append-drop at e))

  -- ---- the loops that take away

  pub place_taken : (xs row s : List A) (v p x y : A) (j : ℕ) → s ≡ minus ring xs (multiple ring v (take j row)) → j < length row → length s ≡ length row → p ≡ ring.plus x (ring.negative (ring.times v y)) → x ≡ get_or s j x → y ≡ get_or row j y → set s j p ≡ minus ring xs (multiple ring v (take (j + 1) row))
  place_taken xs row s v p x y j is h l e ex ey =
      let n : length (multiple ring v (take j row)) ≡ j = length-multiple v (take j row) ∙ length-take-le j row (omega arith) in
      let r : drop j s ≡ x ∷ drop (j + 1) s = drop_more s j x (omega arith) ∙ rw (← ex) in
      let w = minus_more xs (multiple ring v (take j row)) (ring.times v y ∷ []) s j is n in
      set_split s j p (omega arith) ∙ rw (e, ← add-one j, multiple_more v row j y h ey) (rw r at w)

  -- the size is written as the code has it
  pub row_taken : (xs x y s new : List A) (v : A) (i : ℕ) → s ≡ minus ring xs (product ring (take i x) y) → i < length x → length s ≡ length x * length y → v ≡ get_or x i v → new ≡ minus ring (mid_of (i * length y) (i * length y + length y - i * length y) s) (multiple ring v y) → put_mid (i * length y) (i * length y + length y - i * length y) s new ≡ minus ring xs (product ring (take (i + 1) x) y)
  row_taken xs x y s new v i is h l ev e =
      let n : length (multiple ring v y) ≡ length y = length-multiple v y in
      let m : i * length y + length y - i * length y ≡ length (multiple ring v y) = omega arith in
      let w = minus_more xs (product ring (take i x) y) (multiple ring v y) s (i * length y) is (length-rows x y i (omega arith)) in
      rw (e, m, product_more x y i v h ev) (minus_mid s (multiple ring v y) (i * length y) (omega (arith, mul-le-mul_right (length y) h)) ∙ w)

  -- ---- what stands at each place

  pub product_at : (x y : List A) (u : ℕ) (d : A) → u < length x * length y → get_or (product ring x y) u d ≡ ring.times (get_or x (u / length y) d) (get_or y (u % length y) d)
  product_at x [] u d h = absurd (omega arith)
  product_at x (z ∷ y) u d h =
      let m : ℕ = suc (length y) in
      let v : A = get_or x (u / m) d in
      let l : u / m < length x = div_below u m (length x) (omega arith) h in
      let n : length (product ring (take (u / m) x) (z ∷ y)) + u % m ≡ u = rw (length-rows x (z ∷ y) (u / m) (omega arith)) (div-add-mod' u m) in
      ap (λ p. get_or (product ring x (z ∷ y)) p d) (sym n)
      ∙ get_or-flat_map (λ w. multiple ring w (z ∷ y)) x (u / m) (u % m) d d l (omega (arith, length-multiple v (z ∷ y)))
      ∙ get_or-map (ring.times v) (z ∷ y) (u % m) d d (omega arith)

  pub length-minus : (xs ys : List A) → length (minus ring xs ys) ≡ length xs
  length-minus xs [] = refl
  length-minus [] (y ∷ ys) = refl
  length-minus (x ∷ xs) (y ∷ ys) = ap suc (length-minus xs ys)

  pub minus_at : (xs ys : List A) (u : ℕ) (d : A) → u < length xs → u < length ys → get_or (minus ring xs ys) u d ≡ ring.plus (get_or xs u d) (ring.negative (get_or ys u d))
  minus_at xs [] u d h l = absurd (omega arith)
  minus_at [] (y ∷ ys) u d h l = absurd (omega arith)
  minus_at (x ∷ xs) (y ∷ ys) zero d h l = refl
  minus_at (x ∷ xs) (y ∷ ys) (suc u) d h l = minus_at xs ys u d (omega arith) (omega arith)
