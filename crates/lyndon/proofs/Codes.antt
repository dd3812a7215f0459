-- Words of one length stand in dictionary order as their codes do.
use Rattle.std.proofs.Common.{◌≡◌, ℕ, zero, suc, ◌+◌, ◌*◌, ◌%◌, ◌^◌, ◌<◌, true, List, [], ◌∷◌, ◌++◌, length, take, drop, Less, sym, refl, ap, ◌∙◌, inl, inr, mul-le-mul_right, mod-lt, div-lt_iff_lt-mul, pow-suc, div-add-mod', arith, length-append}
use native.Mathlib.Nat.{pow-zero, pow-succ', one-le-pow}
use Rattle.std.proofs.lemmas.List.{length-drop}
use Rattle.std.proofs.lemmas.Bool.Decides.{nat_tests}
use Rattle.letter_order.specs.Orders.{TotalOrder, by_value}
use Rattle.lyndon.specs.Words.{dictionary, Before, Lyndon, Split}
use Rattle.lyndon.specs.Codes.{Over, code, spelled}
use Rattle.lyndon.specs.Listing.{lyndon}
use Rattle.lyndon.specs.Entries.{cut}
use Rattle.lyndon.proofs.Dictionary.{Deciding, compared, deciding}
use Rattle.lyndon.proofs.Orders.{Ranked, equal_less, greater_less}
use Rattle.lyndon.proofs.Splitting.{tested}
use Rattle.lyndon.proofs.Theorems.{split_there}

pub by_value_total : TotalOrder by_value
by_value_total = record {
  exchanged = λ x y. grind (arith, nat_tests);
  transitive = λ x y z h k. grind (arith, nat_tests);
  same = λ x y. (λ h. grind (arith, nat_tests), λ h. grind (arith, nat_tests));
}

value_less : (x y : ℕ) → by_value x y ≡ Less → x < y
value_less x y h = grind (arith, nat_tests)

-- ---- the test for Lyndon words, and the place of the split

pub lyndon_says : (w : List ℕ) → lyndon w ≡ true → Lyndon by_value w
unfolding lyndon
lyndon_says w h = (tested by_value_total w).0 h

pub says_lyndon : (w : List ℕ) → Lyndon by_value w → lyndon w ≡ true
unfolding lyndon
says_lyndon w L = (tested by_value_total w).1 L

pub cut_splits : (w : List ℕ) → 1 < length w → Split by_value w (take (cut w) w) (drop (cut w) w)
cut_splits w h = split_there by_value_total w h

pub cut_within : (w : List ℕ) → 1 < length w → (0 < cut w) × (cut w < length w)
cut_within [] h = absurd (omega arith)
cut_within (x ∷ w) h =
    let S = cut_splits (x ∷ w) h in
    (omega arith, omega (arith, S.lyndon.some, length-drop (cut (x ∷ w)) (x ∷ w)))

-- ---- codes

pub over-take : (k i : ℕ) (w : List ℕ) → Over k w → Over k (take i w)
over-take k zero w h = tt
over-take k (suc i) [] h = tt
over-take k (suc i) (x ∷ w) h = (h.0, over-take k i w h.1)

pub over-drop : (k i : ℕ) (w : List ℕ) → Over k w → Over k (drop i w)
over-drop k zero w h = h
over-drop k (suc i) [] h = tt
over-drop k (suc i) (x ∷ w) h = over-drop k i w h.1

pub code_below : (k : ℕ) (w : List ℕ) → Over k w → code k w < k ^ length w
code_below k [] h = omega (arith, pow-zero k)
code_below k (x ∷ w) h = rw pow-succ' (omega (arith, code_below k w h.1, mul-le-mul_right (k ^ length w) h.0))

pub code_up : (k : ℕ) (u v : List ℕ) → length u ≡ length v → Over k u → Over k v → Before by_value u v → code k u < code k v
code_up k [] [] n hu hv h = absurd (equal_less h)
code_up k [] (y ∷ v) n hu hv h = absurd (omega arith)
code_up k (x ∷ u) [] n hu hv h = absurd (greater_less h)
code_up k (x ∷ u) (y ∷ v) n hu hv h = go (deciding by_value_total x y u v h) (code_up k u v)
  where
    m : length u ≡ length v
    m = omega arith

    go : Deciding by_value x y u v → (length u ≡ length v → Over k u → Over k v → Before by_value u v → code k u < code k v) → x * k ^ length u + code k u < y * k ^ length v + code k v
    go (inl d) more =
        rw m (omega (arith, rw m at (code_below k u hu.1), mul-le-mul_right (k ^ length v) (value_less x y d)))
    go (inr d) more = rw (m, d.0) (omega (arith, more m hu.1 hv.1 d.1))

pub code_down : (k : ℕ) (u v : List ℕ) → length u ≡ length v → Over k u → Over k v → code k u < code k v → Before by_value u v
code_down k u v n hu hv h = go (compared by_value_total u v)
  where
    go : Ranked (dictionary by_value) u v → Before by_value u v
    go (inl l) = l
    go (inr (inl e)) = absurd (omega (arith, ap (code k) e))
    go (inr (inr l)) = absurd (omega (arith, code_up k v u (sym n) hv hu l))

pub code_same : (k : ℕ) (u v : List ℕ) → length u ≡ length v → Over k u → Over k v → code k u ≡ code k v → u ≡ v
code_same k u v n hu hv h = go (compared by_value_total u v)
  where
    go : Ranked (dictionary by_value) u v → u ≡ v
    go (inl l) = absurd (omega (arith, code_up k u v n hu hv l))
    go (inr (inl e)) = e
    go (inr (inr l)) = absurd (omega (arith, code_up k v u (sym n) hv hu l))

pub length-spelled : (k m n : ℕ) → length (spelled k m n) ≡ m
length-spelled k zero n = refl
length-spelled k (suc m) n = ap suc (length-spelled k m (n % k ^ m))

pub spelled-over : (k m n : ℕ) → 0 < k → n < k ^ m → Over k (spelled k m n)
spelled-over k zero n h l = tt
spelled-over k (suc m) n h l =
    let p : 0 < k ^ m = one-le-pow m k h in
    ((div-lt_iff_lt-mul p).1 (rw pow-succ' at l), spelled-over k m (n % k ^ m) h (mod-lt n p))

pub code-spelled : (k m n : ℕ) → 0 < k → n < k ^ m → code k (spelled k m n) ≡ n
code-spelled k zero n h l = omega (arith, pow-zero k)
code-spelled k (suc m) n h l =
    let p : 0 < k ^ m = one-le-pow m k h in
    rw (length-spelled k m (n % k ^ m), code-spelled k m (n % k ^ m) h (mod-lt n p)) (div-add-mod' n (k ^ m))

pub spelled-code : (k : ℕ) (w : List ℕ) → 0 < k → Over k w → spelled k (length w) (code k w) ≡ w
spelled-code k w h hw = code_same k (spelled k (length w) (code k w)) w (length-spelled k (length w) (code k w)) (spelled-over k (length w) (code k w) h (code_below k w hw)) hw (code-spelled k (length w) (code k w) h (code_below k w hw))

-- one letter more at the end
pub code-push : (k : ℕ) (w : List ℕ) (x : ℕ) → code k (w ++ x ∷ []) ≡ code k w * k + x
code-push k [] x = rw pow-zero (omega arith)
code-push k (y ∷ w) x =
    let n : length (w ++ x ∷ []) ≡ suc (length w) = length-append w (x ∷ []) ∙ omega arith in
    rw (n, code-push k w x, pow-suc) (omega arith)
