-- The parts of a word: they are words of the shape, memory for P of the word holds P of both, and P of it is made of them.
use Rattle.std.proofs.Common.{◌≡◌, ℕ, suc, ◌+◌, ◌-◌, ◌*◌, ◌^◌, ◌<◌, ◌≤◌, true, false, List, [], ◌∷◌, ◌++◌, length, take, drop, subst, sym, ap, ap₂, ◌∙◌, arith, length-append, pow-add}
use native.Mathlib.Nat.{pow-succ', pow-le-pow_right, one-le-pow}
use lib.Seq.{take-append_seam, drop-append_seam}
use Rattle.coded_word.specs.declared.shape.Shape.{Shape}
use Rattle.coded_word.proofs.Bounds.{fits}
use Rattle.lyndon.specs.Codes.{Over, code}
use Rattle.lyndon.proofs.Codes.{over-take, over-drop}
use Rattle.bracket.specs.Cuts.{SplitCut, FirstCut}
use Rattle.sheet_laws.specs.declared.term.Term.{Term}
use Rattle.sheet_laws.specs.Terms.{products, SumsTo}
use Rattle.sheet_laws.proofs.WordTerms.{pairs_few, first_whole, first_size, split_size, single_sums, product_sums, bracket_sums}
use Rattle.sheet.specs.declared.sum.Sum.{Sum}
use Rattle.sheet.specs.Words.{InShape, Expands, room_for}
use Rattle.sheet.proofs.Sums.{one_power}

-- ---- they are words of the shape

module _ (s : Shape) (w l r : List ℕ) (e : w ≡ l ++ r) (h : InShape s w) where
  sizes : length l + length r ≡ length w
  sizes = sym (ap length e ∙ length-append l r)

  front_in : InShape s l
  front_in = (subst (Over s.k) (ap (take (length l)) e ∙ take-append_seam l r) (over-take s.k (length l) w h.0), omega (arith, sizes, h.1))

  back_in : InShape s r
  back_in = (subst (Over s.k) (ap (drop (length l)) e ∙ drop-append_seam l r) (over-drop s.k (length l) w h.0), omega (arith, sizes, h.1))

pub left_in : (s : Shape) (w l r : List ℕ) → SplitCut w l r → InShape s w → InShape s l
left_in s w l r C h = front_in s w l r C.1.whole h

pub right_in : (s : Shape) (w l r : List ℕ) → SplitCut w l r → InShape s w → InShape s r
right_in s w l r C h = back_in s w l r C.1.whole h

pub first_in : (s : Shape) (w f r : List ℕ) → FirstCut w f r → InShape s w → InShape s f
first_in s w f r C h = front_in s w f r (first_whole w f r C) h

pub rest_in : (s : Shape) (w f r : List ℕ) → FirstCut w f r → InShape s w → InShape s r
rest_in s w f r C h = back_in s w f r (first_whole w f r C) h

-- ---- the memory holds them

sum_room : (x y : ℕ) → 1 ≤ x → 1 ≤ y → x + y ≤ x * y + 1
sum_room x y hx hy =
    let p : x ≡ 1 + (x - 1) = omega arith in
    let q : y ≡ 1 + (y - 1) = omega arith in
    subst (λ x. x + y ≤ x * y + 1) (sym p) (subst (λ y. 1 + (x - 1) + y ≤ (1 + (x - 1)) * y + 1) (sym q) (omega arith))

double : (n : ℕ) → 0 < n → 2 ^ n ≡ 2 * 2 ^ (n - 1)
double n h = let e : n ≡ suc (n - 1) = omega arith in subst (λ j. 2 ^ j ≡ 2 * 2 ^ (n - 1)) (sym e) (pow-succ' 2 (n - 1))

parts_room : (a b : ℕ) → 0 < a → 0 < b → 2 ^ (a + b - 1) + (room_for a + room_for b) ≤ room_for (a + b)
unfolding room_for
parts_room a b ha hb =
    let e : a + b - 1 ≡ suc (a - 1 + (b - 1)) = omega arith in
    let p : 1 ≤ 2 ^ (a - 1) = one-le-pow (a - 1) 2 (omega arith) in
    let q : 1 ≤ 2 ^ (b - 1) = one-le-pow (b - 1) 2 (omega arith) in
    rw (double (a + b) (omega arith), double a ha, double b hb, e, pow-succ', pow-add) (omega (arith, sum_room (2 ^ (a - 1)) (2 ^ (b - 1)) p q, p, q))

pub terms_fit : (m s : ℕ) → room_for m ≤ s → 0 < m → 2 ^ (m - 1) ≤ s
unfolding room_for
terms_fit m s h l = omega (arith, double m l, one-le-pow (m - 1) 2 (omega arith), h)

pub parts_fit : (a b m t s : ℕ) → a + b ≡ m → 0 < a → 0 < b → room_for m ≤ s → t ≡ 2 ^ (m - 1) → room_for a + room_for b ≤ s - t
parts_fit a b m t s e ha hb h i =
    let room : 2 ^ (m - 1) + (room_for a + room_for b) ≤ room_for m = subst (λ j. 2 ^ (j - 1) + (room_for a + room_for b) ≤ room_for j) e (parts_room a b ha hb) in
    omega (arith, room, h, i)

pub room_left : (a b m p q s : ℕ) → a + b ≡ m → 0 < a → 0 < b → p ≤ 2 ^ (a - 1) → q ≤ 2 ^ (b - 1) → s ≡ 2 ^ (m - 1) → 2 * (p * q) ≤ s
room_left a b m p q s e ha hb hp hq i = rw (i, ← e) (pairs_few a b p q ha hb hp hq)

most_room : (m : ℕ) → m ≤ 12 → room_for m ≤ 4106
unfolding room_for
most_room m h = omega (arith, pow-le-pow_right {n = 2} (omega arith) h)

-- the memory that P of the longest words takes holds the parts of every word
pub all_room : (a b m s : ℕ) → a + b ≡ m → 0 < a → 0 < b → m ≤ 12 → 4106 ≤ s → room_for a + room_for b ≤ s
all_room a b m s e ha hb h l = omega (arith, parts_room a b ha hb, most_room (a + b) (omega arith))

-- ---- P of the word

pub joint_words : (k a b m x y : ℕ) → x ≡ k ^ a → y ≡ k ^ b → a + b ≡ m → x * y ≡ k ^ m
joint_words k a b m x y p q e = ap₂ ◌*◌ p q ∙ sym (pow-add k a b) ∙ ap (λ j. k ^ j) e

pub words_fit : (s : Shape) (a b m x y : ℕ) → x ≡ s.k ^ a → y ≡ s.k ^ b → a + b ≡ m → m ≤ s.n → x * y < 65536
words_fit s a b m x y p q e h = rw (joint_words s.k a b m x y p q e) (fits s.k m s.n s.some s.few h)

pub letter_expands : (s : Shape) (w : List ℕ) (z : Sum) → InShape s w → length w ≡ 1 → z.words ≡ s.k → z.terms.now ≡ record { code = code s.k w; negative = false } ∷ [] → Expands s.k w z
letter_expands s w z h n e f =
    let t : Term = record { code = code s.k w; negative = false } in
    (e ∙ one_power s.k (length w) n, subst (SumsTo s.k w) (sym f) (single_sums s.k w (omega arith) s.some h.0 t (λ i. code s.k w) (λ i. false)))

pub product_expands : (s : Shape) (w f r : List ℕ) (x y z : Sum) → FirstCut w f r → Expands s.k f x → Expands s.k r y → z.words ≡ x.words * y.words → z.terms.now ≡ products y.words false x.terms.now y.terms.now → Expands s.k w z
product_expands s w f r x y z C hx hy e h = (
  e ∙ joint_words s.k (length f) (length r) (length w) x.words y.words hx.0 hy.0 (first_size w f r C),
  subst (SumsTo s.k w) (sym (h ∙ ap (λ n. products n false x.terms.now y.terms.now) hy.0)) (product_sums s.k w f r x.terms.now y.terms.now s.some hx.1 hy.1 C),
)

pub bracket_expands : (s : Shape) (w l r : List ℕ) (x y z : Sum) → SplitCut w l r → Expands s.k l x → Expands s.k r y → z.words ≡ x.words * y.words → z.terms.now ≡ products y.words false x.terms.now y.terms.now ++ products x.words true y.terms.now x.terms.now → Expands s.k w z
bracket_expands s w l r x y z C hx hy e h = (
  e ∙ joint_words s.k (length l) (length r) (length w) x.words y.words hx.0 hy.0 (split_size w l r C),
  subst (SumsTo s.k w) (sym (h ∙ ap₂ (λ n m. products n false x.terms.now y.terms.now ++ products m true y.terms.now x.terms.now) hy.0 hx.0)) (bracket_sums s.k w l r x.terms.now y.terms.now s.some hx.1 hy.1 C),
)
