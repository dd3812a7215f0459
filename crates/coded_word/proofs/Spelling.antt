-- The loops that read the code of a word, and write its letters.
use Rattle.std.proofs.Common.{◌≡◌, ℕ, zero, suc, ◌+◌, ◌-◌, ◌*◌, ◌/◌, ◌%◌, ◌^◌, ◌<◌, ◌≤◌, List, [], ◌∷◌, ◌++◌, length, get_or, set, take, drop, sym, ap, subst, append_assoc, append-nil, ◌∙◌, mul-le-mul_right, add-mul, one-mul, mod-lt, div-lt_iff_lt-mul, pow-suc, add-one, arith}
use native.Mathlib.Nat.{div-add-mod, mul_comm, pow-le-pow_right}
use Rattle.std.proofs.lemmas.List.{take_more, take_all, length_push, drop_all, drop-set}
use Rattle.lyndon.specs.Codes.{Over, code, spelled}
use Rattle.lyndon.proofs.Codes.{code-push, code-spelled, code_same, length-spelled, spelled-over}

-- ---- reading

pub letter_at : (k : ℕ) (w : List ℕ) (i : ℕ) → i < length w → Over k w → get_or w i 0 < k
letter_at k [] i h o = absurd (omega arith)
letter_at k (x ∷ w) zero h o = o.0
letter_at k (x ∷ w) (suc i) h o = letter_at k w i (omega arith) o.1

pub code_next : (k c : ℕ) (w : List ℕ) (i : ℕ) → i < length w → c ≡ code k (take i w) → c * k + get_or w i 0 ≡ code k (take (i + 1) w)
code_next k c w i lt e =
    ap (λ z. z * k + get_or w i 0) e
    ∙ sym (ap (code k) (take_more w i 0 lt) ∙ code-push k (take i w) (get_or w i 0))

pub code_all : (k c : ℕ) (w : List ℕ) (i : ℕ) → length w ≤ i → c ≡ code k (take i w) → c ≡ code k w
code_all k c w i h e = e ∙ ap (code k) (take_all i w h)

pub below_next : (n k x i : ℕ) → n < k ^ i → x < k → n * k + x < k ^ (i + 1)
below_next n k x i h lt =
    let p : k ^ (i + 1) ≡ k ^ i * k = rw (add-one, pow-suc) in
    let q : (n + 1) * k ≤ k ^ i * k = mul-le-mul_right k (omega arith) in
    omega (arith, add-mul n 1 k, one-mul k)

pub below_top : (n k x i l m : ℕ) → n < k ^ i → x < k → i < l → l ≤ m → 1 ≤ k → k ^ m ≤ 4096 → n * k + x < 4096
below_top n k x i l m h lt here le one top =
    let a = below_next n k x i h lt in
    let up : k ^ (i + 1) ≤ k ^ m = pow-le-pow_right (omega arith) (omega arith) in
    omega arith

-- ---- writing

over_push : (k : ℕ) (w : List ℕ) (x : ℕ) → Over k w → x < k → Over k (w ++ x ∷ [])
over_push k [] x o h = (h, tt)
over_push k (y ∷ w) x o h = (o.0, over_push k w x o.1 h)

-- the last letter of a word, and the others
spelled_last : (k m c : ℕ) → 1 ≤ k → c < k ^ (m + 1) → spelled k (m + 1) c ≡ spelled k m (c / k) ++ (c % k) ∷ []
spelled_last k m c some small =
    let few : c < k ^ m * k = rw (add-one, pow-suc) at small in
    let front : c / k < k ^ m = (div-lt_iff_lt-mul some).1 few in
    let last : c % k < k = mod-lt c some in
    code_same k (spelled k (m + 1) c) (spelled k m (c / k) ++ (c % k) ∷ [])
    (length-spelled k (m + 1) c ∙ sym (length_push (spelled k m (c / k)) (c % k) ∙ ap (λ n. n + 1) (length-spelled k m (c / k))))
    (spelled-over k (m + 1) c some small)
    (over_push k (spelled k m (c / k)) (c % k) (spelled-over k m (c / k) some front) last)
    (code-spelled k (m + 1) c some small
    ∙ sym (code-push k (spelled k m (c / k)) (c % k) ∙ ap (λ n. n * k + c % k) (code-spelled k m (c / k) some front) ∙ ap (λ n. n + c % k) (mul_comm (c / k) k) ∙ div-add-mod c k))

-- the letters from a place on are written, and `rest` spells those before
pub letters_none : (k c m : ℕ) (letters w : List ℕ) → length letters ≡ m → spelled k m c ≡ w → spelled k m c ++ drop m letters ≡ w
letters_none k c m letters w n e =
    ap (λ l. spelled k m c ++ l) (drop_all m letters (omega arith)) ∙ append-nil (spelled k m c) ∙ e

one_more : (k rest i x : ℕ) (letters w : List ℕ) → 1 ≤ k → i < length letters → rest < k ^ (i + 1) → x ≡ rest % k → spelled k (i + 1) rest ++ drop (i + 1) letters ≡ w → spelled k i (rest / k) ++ drop i (set letters i x) ≡ w
one_more k rest i x letters w some here small is e =
    ap (λ l. spelled k i (rest / k) ++ l) (drop-set letters i x here ∙ ap (λ y. y ∷ drop (i + 1) letters) is)
    ∙ sym (append_assoc (spelled k i (rest / k)) ((rest % k) ∷ []) (drop (i + 1) letters))
    ∙ ap (λ l. l ++ drop (i + 1) letters) (sym (spelled_last k i rest some small))
    ∙ e

-- the place before `place` is written
module _ (k rest place : ℕ) (some : 1 ≤ k) (here : 0 < place) (small : rest < k ^ place) where
  back : place ≡ place - 1 + 1
  back = omega arith

  smaller : rest < k ^ (place - 1 + 1)
  smaller = subst (λ n. rest < k ^ n) back small

  pub small_next : rest / k < k ^ (place - 1)
  small_next = let few : rest < k ^ (place - 1) * k = rw (add-one, pow-suc) at smaller in (div-lt_iff_lt-mul some).1 few

  pub letters_more : (x : ℕ) (letters w : List ℕ) → place ≤ length letters → x ≡ rest % k → spelled k place rest ++ drop place letters ≡ w → spelled k (place - 1) (rest / k) ++ drop (place - 1) (set letters (place - 1) x) ≡ w
  letters_more x letters w within is e =
      one_more k rest (place - 1) x letters w some (omega arith) smaller is (subst (λ n. spelled k n rest ++ drop n letters ≡ w) back e)
