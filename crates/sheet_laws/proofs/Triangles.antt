-- Sums of multiples of the rows of a triangle with ones on its diagonal: which multiples they are is told by the sum.
use Rattle.std.proofs.Common.{◌≡◌, ℕ, zero, suc, ◌<◌, ◌≤◌, List, [], ◌∷◌, length, get_or, refl, sym, ap, ap₂, ◌∙◌, inl, inr, arith}
use Rattle.std.proofs.lemmas.Bool.{cases_lt, cases_eq}
use Rattle.ring_laws.specs.Rings.{Operations, CommutativeRing}
use Rattle.ring_laws.proofs.Basics.{zero_plus, times_zero, cancel}
use Rattle.ring_laws.proofs.Solve.{var, ◌⊕◌, ⊖◌, solve}
use Rattle.sheet_laws.specs.Coordinates.{sum}

module _ {A : Type 0} (ring : Operations A) where
  abbrev pub at : List A → ℕ → A
  at xs p = get_or xs p ring.zero

  -- place u of the sum of the first n rows of T, row w taken c w times
  abbrev pub column : (ℕ → ℕ → A) → ℕ → (ℕ → A) → ℕ → A
  column T n c u = sum ring n (λ w. ring.times (c w) (T w u))

  -- ones on the diagonal and zeros below it, in the first n rows
  pub record Unitriangular (T : ℕ → ℕ → A) (n : ℕ) : Type 0 where
    pub diagonal : (w : ℕ) → w < n → T w w ≡ ring.one
    pub below : (w u : ℕ) → u < w → w < n → T w u ≡ ring.zero

  -- ys is xs, less row w behind the diagonal, so often as the place w says
  pub record Taken (T : ℕ → ℕ → A) (w : ℕ) (xs ys : List A) : Type 0 where
    pub size : length ys ≡ length xs
    pub kept : (p : ℕ) → p ≤ w → at ys p ≡ at xs p
    pub moved : (p : ℕ) → w < p → p < length xs → at ys p ≡ ring.plus (at xs p) (ring.negative (ring.times (at xs w) (T w p)))

  -- ys is xs, with row w behind the diagonal added so often
  pub record Given (T : ℕ → ℕ → A) (w : ℕ) (xs ys : List A) : Type 0 where
    pub size : length ys ≡ length xs
    pub kept : (p : ℕ) → p ≤ w → at ys p ≡ at xs p
    pub moved : (p : ℕ) → w < p → p < length xs → at ys p ≡ ring.plus (at xs p) (ring.times (at xs w) (T w p))

  -- the first w rows are taken from xs, and ys is left: how often, stands in its first w places
  pub record Down (T : ℕ → ℕ → A) (w : ℕ) (xs ys : List A) : Type 0 where
    pub size : length ys ≡ length xs
    pub done : (u : ℕ) → u < length xs → u < w → ring.plus (column T u (at ys) u) (at ys u) ≡ at xs u
    pub to_do : (u : ℕ) → u < length xs → w ≤ u → ring.plus (column T w (at ys) u) (at ys u) ≡ at xs u

  -- all rows but the first w are added again, so often as xs says, and ys is there
  pub record Up (T : ℕ → ℕ → A) (w : ℕ) (xs ys : List A) : Type 0 where
    pub size : length ys ≡ length xs
    pub to_do : (u : ℕ) → u < length xs → u ≤ w → at ys u ≡ at xs u
    pub done : (u : ℕ) → u < length xs → w ≤ u → ring.plus (column T w (at xs) u) (at ys u) ≡ ring.plus (column T u (at xs) u) (at xs u)

module _ {A : Type 0} {ring : Operations A} (l : CommutativeRing ring) where
  pub sum_same : (n : ℕ) (f g : ℕ → A) → ((w : ℕ) → w < n → f w ≡ g w) → sum ring n f ≡ sum ring n g
  sum_same zero f g h = refl
  sum_same (suc n) f g h = ap₂ ring.plus (sum_same n f g (λ w k. h w (omega arith))) (h n (omega arith))

  -- terms that are zero may be left out at the end
  pub sum_short : (m n : ℕ) (f : ℕ → A) → m ≤ n → ((w : ℕ) → m ≤ w → w < n → f w ≡ ring.zero) → sum ring n f ≡ sum ring m f
  sum_short m zero f le h = let e : zero ≡ m = omega arith in ap (λ j. sum ring j f) e
  sum_short m (suc n) f le h =
      elim (cases_lt n m) [
        | inl k ↦ let e : suc n ≡ m = omega arith in ap (λ j. sum ring j f) e
        | inr k ↦ ap₂ ring.plus (sum_short m n f k (λ w a b. h w a (omega arith))) (h n k (omega arith)) ∙ l.plus_zero (sum ring m f)
      ]

  module _ (T : ℕ → ℕ → A) (n : ℕ) (t : Unitriangular ring T n) where
    -- column u ends at row u, where there is a one
    pub column_ends : (c : ℕ → A) (u : ℕ) → u < n → column ring T n c u ≡ ring.plus (column ring T u c u) (c u)
    column_ends c u h =
        sum_short (suc u) n (λ w. ring.times (c w) (T w u)) h (λ w a b. ap (ring.times (c w)) (t.below w u a b) ∙ times_zero l (c w))
        ∙ ap (ring.plus (column ring T u c u)) (ap (ring.times (c u)) (t.diagonal u h) ∙ l.times_one (c u))

    same_below : (c d : ℕ → A) → ((u : ℕ) → u < n → column ring T n c u ≡ column ring T n d u) → (m u : ℕ) → u < m → u < n → c u ≡ d u
    same_below c d same zero u under h = absurd (omega arith)
    same_below c d same (suc m) u under h =
        let before : column ring T u c u ≡ column ring T u d u =
        sum_same u (λ w. ring.times (c w) (T w u)) (λ w. ring.times (d w) (T w u))
        (λ w k. ap (λ x. ring.times x (T w u)) (same_below c d same m w (omega arith) (omega arith))) in
        cancel l (c u) (d u) (column ring T u c u)
        (l.plus_commutative (c u) (column ring T u c u)
        ∙ sym (column_ends c u h) ∙ same u h ∙ column_ends d u h
        ∙ ap (λ x. ring.plus x (d u)) (sym before) ∙ l.plus_commutative (column ring T u c u) (d u))

    -- multiples with the same sum are the same
    pub same_multiples : (c d : ℕ → A) → ((u : ℕ) → u < n → column ring T n c u ≡ column ring T n d u) → (u : ℕ) → u < n → c u ≡ d u
    same_multiples c d same u h = same_below c d same (suc u) u (omega arith) h

  module _ (T : ℕ → ℕ → A) where
    pub down_starts : (xs : List A) → Down ring T 0 xs xs
    down_starts xs = record { size = refl; done = λ u h k. absurd (omega arith); to_do = λ u h k. zero_plus l (at ring xs u) }

    same_column : (w u : ℕ) (ys zs : List A) → ((p : ℕ) → p < w → at ring zs p ≡ at ring ys p) → column ring T w (at ring zs) u ≡ column ring T w (at ring ys) u
    same_column w u ys zs h = sum_same w (λ p. ring.times (at ring zs p) (T p u)) (λ p. ring.times (at ring ys p) (T p u)) (λ p k. ap (λ x. ring.times x (T p u)) (h p k))

    -- what is taken away and added again
    given_back : (s x y : A) → ring.plus (ring.plus s y) (ring.plus x (ring.negative y)) ≡ ring.plus s x
    given_back s x y = solve l (s ∷ x ∷ y ∷ []) ((var 0 ⊕ var 2) ⊕ (var 1 ⊕ ⊖ var 2)) (var 0 ⊕ var 1) refl

    pub down_more : (w : ℕ) (xs ys zs : List A) → w < length xs → Down ring T w xs ys → Taken ring T w ys zs → Down ring T (suc w) xs zs
    down_more w xs ys zs h d t =
        record {
          size = t.size ∙ d.size;
          done = λ u a b.
              ap₂ ring.plus (same_column u u ys zs (λ p k. t.kept p (omega arith))) (t.kept u (omega arith))
              ∙ elim (cases_lt u w) [
                | inl k ↦ d.done u a k
                | inr k ↦ let e : u ≡ w = omega arith in ap (λ j. ring.plus (column ring T j (at ring ys) u) (at ring ys u)) e ∙ d.to_do u a k
              ];
          to_do = λ u a b.
              ap₂ ring.plus
              (ap₂ ring.plus (same_column w u ys zs (λ p k. t.kept p (omega arith))) (ap (λ x. ring.times x (T w u)) (t.kept w (omega arith))))
              (t.moved u (omega arith) (omega (arith, d.size)))
              ∙ given_back (column ring T w (at ring ys) u) (at ring ys u) (ring.times (at ring ys w) (T w u))
              ∙ d.to_do u a (omega arith);
        }

    pub up_starts : (xs : List A) → Up ring T (length xs) xs xs
    up_starts xs = record { size = refl; to_do = λ u h k. refl; done = λ u h k. absurd (omega arith) }

    swapped : (s x y : A) → ring.plus s (ring.plus x y) ≡ ring.plus (ring.plus s y) x
    swapped s x y = solve l (s ∷ x ∷ y ∷ []) (var 0 ⊕ (var 1 ⊕ var 2)) ((var 0 ⊕ var 2) ⊕ var 1) refl

    pub up_more : (w : ℕ) (xs ys zs : List A) → w < length xs → Up ring T (suc w) xs ys → Given ring T w ys zs → Up ring T w xs zs
    up_more w xs ys zs h d t =
        record {
          size = t.size ∙ d.size;
          to_do = λ u a b. t.kept u b ∙ d.to_do u a (omega arith);
          done = λ u a b.
              elim (cases_eq w u) [
                | inl e ↦ ap₂ (λ j y. ring.plus (column ring T j (at ring xs) u) y) e (t.kept u (omega arith) ∙ d.to_do u a (omega arith))
                | inr n ↦
                    ap (ring.plus (column ring T w (at ring xs) u)) (t.moved u (omega arith) (omega (arith, d.size)) ∙ ap (λ x. ring.plus (at ring ys u) (ring.times x (T w u))) (d.to_do w h (omega arith)))
                    ∙ swapped (column ring T w (at ring xs) u) (at ring ys u) (ring.times (at ring xs w) (T w u))
                    ∙ d.done u a (omega arith)
              ];
        }

    -- all rows are taken: the first n places are the sum of the rows
    pub down_ends : (xs ys : List A) → Unitriangular ring T (length xs) → Down ring T (length xs) xs ys → (u : ℕ) → u < length xs → column ring T (length xs) (at ring ys) u ≡ at ring xs u
    down_ends xs ys t d u h = column_ends T (length xs) t (at ring ys) u h ∙ d.done u h h

    pub up_ends : (xs ys : List A) → Unitriangular ring T (length xs) → Up ring T 0 xs ys → (u : ℕ) → u < length xs → at ring ys u ≡ column ring T (length xs) (at ring xs) u
    up_ends xs ys t d u h = sym (zero_plus l (at ring ys u)) ∙ d.done u h (omega arith) ∙ sym (column_ends T (length xs) t (at ring xs) u h)
