-- The sheets of products.
use Rattle.std.proofs.Common.{◌≡◌, ℕ, ◌+◌, ◌/◌, ◌%◌, ◌^◌, ◌<◌, List, length, get_or, take, drop, sym, ap, ap₂, ◌∙◌, pow-add, add_comm}
use Rattle.ring_laws.specs.Rings.{Operations}
use Rattle.lyndon.specs.Codes.{spelled}
use Rattle.sheet_laws.specs.Sheets.{sheet_of, coefficient, bracket}
use Rattle.sheet.specs.Products.{product, minus}
use Rattle.sheet_laws.proofs.Sheets.{length-sheet_of, sheet_at, is_sheet, own_sheet}
use Rattle.sheet_laws.proofs.Places.{front_below, back_below, take-spelled, drop-spelled}
use Rattle.sheet.proofs.Products.{length-product, length-minus, product_at, minus_at}

-- x has the coefficients f, and y has g: x less y
module _ {A : Type 0} (ring : Operations A) (k m : ℕ) (f g : List ℕ → A) (x y : List A) (hx : x ≡ sheet_of k m f) (hy : y ≡ sheet_of k m g) where
  minus_value : (c : ℕ) → c < k ^ m → get_or (minus ring x y) c ring.zero ≡ ring.plus (f (spelled k m c)) (ring.negative (g (spelled k m c)))
  minus_value c h =
      minus_at ring x y c ring.zero (rw (hx, length-sheet_of k m f) h) (rw (hy, length-sheet_of k m g) h)
      ∙ rw (hx, hy, sheet_at k m f c ring.zero h, sheet_at k m g c ring.zero h)

  pub minus_sheet : minus ring x y ≡ sheet_of k m (λ u. ring.plus (f u) (ring.negative (g u)))
  minus_sheet =
      let n : length (minus ring x y) ≡ k ^ m = length-minus ring x y ∙ ap length hx ∙ length-sheet_of k m f in
      is_sheet k m (λ u. ring.plus (f u) (ring.negative (g u))) (minus ring x y) ring.zero n minus_value

-- x of length a has the coefficients f, and y of length b has g: xy
module _ {A : Type 0} (ring : Operations A) (k a b : ℕ) (f g : List ℕ → A) (x y : List A) (some : 0 < k) (hx : x ≡ sheet_of k a f) (hy : y ≡ sheet_of k b g) where
  size_x : length x ≡ k ^ a
  size_x = ap length hx ∙ length-sheet_of k a f

  size_y : length y ≡ k ^ b
  size_y = ap length hy ∙ length-sheet_of k b g

  size : length (product ring x y) ≡ k ^ (a + b)
  size = length-product ring x y ∙ rw (size_x, size_y) (sym (pow-add k a b))

  at_front : (c : ℕ) → c < k ^ (a + b) → get_or x (c / k ^ b) ring.zero ≡ f (take a (spelled k (a + b) c))
  at_front c h = rw (hx, take-spelled k a b c some h) (sheet_at k a f (c / k ^ b) ring.zero (front_below k a b c some h))

  at_back : (c : ℕ) → c < k ^ (a + b) → get_or y (c % k ^ b) ring.zero ≡ g (drop a (spelled k (a + b) c))
  at_back c h = rw (hy, drop-spelled k a b c some h) (sheet_at k b g (c % k ^ b) ring.zero (back_below k a b c some h))

  product_value : (c : ℕ) → c < k ^ (a + b) → get_or (product ring x y) c ring.zero ≡ ring.times (f (take a (spelled k (a + b) c))) (g (drop a (spelled k (a + b) c)))
  product_value c h =
      product_at ring x y c ring.zero (rw (size_x, size_y, ← pow-add k a b) h) ∙ rw size_y (ap₂ ring.times (at_front c h) (at_back c h))

  pub product_sheet : product ring x y ≡ sheet_of k (a + b) (λ u. ring.times (f (take a u)) (g (drop a u)))
  product_sheet = is_sheet k (a + b) (λ u. ring.times (f (take a u)) (g (drop a u))) (product ring x y) ring.zero size product_value

-- and xy - yx
pub bracket_sheet : {A : Type 0} (ring : Operations A) (k a b : ℕ) (f g : List ℕ → A) (x y : List A) → 0 < k → x ≡ sheet_of k a f → y ≡ sheet_of k b g →
    minus ring (product ring x y) (product ring y x)
    ≡ sheet_of k (a + b) (λ u. ring.plus (ring.times (f (take a u)) (g (drop a u))) (ring.negative (ring.times (g (take b u)) (f (drop b u)))))
bracket_sheet {A} ring k a b f g x y some hx hy =
    let there : List ℕ → A = λ u. ring.times (f (take a u)) (g (drop a u)) in
    let back : List ℕ → A = λ u. ring.times (g (take b u)) (f (drop b u)) in
    let e : product ring y x ≡ sheet_of k (a + b) back = product_sheet ring k b a g f y x some hy hx ∙ ap (λ m. sheet_of k m back) (add_comm b a) in
    minus_sheet ring k (a + b) there back (product ring x y) (product ring y x) (product_sheet ring k a b f g x y some hx hy) e

-- what `join` writes
pub joined : {A : Type 0} (ring : Operations A) (k a b : ℕ) (x y : List A) → 0 < k → length x ≡ k ^ a → length y ≡ k ^ b →
    minus ring (product ring x y) (product ring y x) ≡ sheet_of k (a + b) (bracket ring k a b x y)
joined ring k a b x y some n m =
    bracket_sheet ring k a b (coefficient ring k x) (coefficient ring k y) x y some (own_sheet ring k a x some n) (own_sheet ring k b y some m)
