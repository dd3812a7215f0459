-- The terms of P of a word, from those of its parts.
use Rattle.std.proofs.Common.{◌≡◌, ℕ, suc, ◌+◌, ◌-◌, ◌*◌, ◌/◌, ◌%◌, ◌^◌, ◌<◌, ◌≤◌, Bool, true, false, List, [], ◌∷◌, ◌++◌, length, pos, ◌+ℤ◌, ◌*ℤ◌, refl, sym, ap, ap₂, ◌∙◌, subst, inl, inr, arith, length-append, pow-add, mod-lt, mul-le-mul_left, mul-le-mul_right, mul_comm}
use native.Mathlib.Nat.{one-le-pow, pow-succ'}
use Rattle.std.proofs.lemmas.Bool.{cases_eq}
use Rattle.std.proofs.lemmas.Nat.{div-add-mod'}
use Rattle.std.proofs.lemmas.List.Elements.{All-nil, All-cons, All-append}
use Rattle.lyndon.specs.Codes.{Over, code, spelled}
use Rattle.lyndon.proofs.Codes.{code_below, code-spelled, spelled-code}
use Rattle.polynomial.specs.Polynomials.{only, P}
use Rattle.polynomial.proofs.Parts.{P_short}
use Rattle.polynomial.proofs.Leading.{only_itself, only_other}
use Rattle.bracket.specs.Cuts.{product_at, SplitCut, FirstCut}
use Rattle.bracket.proofs.Values.{split_value, first_value}
use Rattle.lyndon.proofs.Codes.{length-spelled}
use Rattle.sheet_laws.specs.declared.term.Term.{Term}
use Rattle.sheet_laws.specs.Terms.{sign, weight, products, Below, SumsTo}
use Rattle.sheet_laws.proofs.Places.{take-spelled, drop-spelled, front_below}
use Rattle.sheet_laws.proofs.Terms.{turned_ℤ, turned_zero, weight_here, weight_other, weight-append, weight_products, length-products, below_products}

pub first_whole : (w f r : List ℕ) → FirstCut w f r → w ≡ f ++ r
first_whole w f r C = sym C.1.whole ∙ ap (λ v. f ++ v) (sym C.2)

pub first_size : (w f r : List ℕ) → FirstCut w f r → length f + length r ≡ length w
first_size w f r C = sym (ap length (first_whole w f r C) ∙ length-append f r)

pub split_size : (w l r : List ℕ) → SplitCut w l r → length l + length r ≡ length w
split_size w l r C = sym (ap length C.1.whole ∙ length-append l r)

-- ---- one word

sign_turned : (b : Bool) → sign b +ℤ pos 0 ≡ turned_ℤ b (pos 1)
sign_turned true = refl
sign_turned false = refl

-- a term stands for its word, or for the opposite of that
module _ (k : ℕ) (w : List ℕ) (some : 0 < k) (over : Over k w) (t : Term) (e : t.code ≡ code k w) where
  pub word_at : (c : ℕ) → c < k ^ length w → weight (t ∷ []) c ≡ turned_ℤ t.negative (only w (spelled k (length w) c))
  word_at c h =
      elim (cases_eq t.code c) [
        | inl same ↦
            weight_here t [] c same
            ∙ sign_turned t.negative
            ∙ ap (turned_ℤ t.negative) (sym (only_itself w (spelled k (length w) c) (sym (ap (spelled k (length w)) (sym same ∙ e) ∙ spelled-code k w some over))))
        | inr other ↦
            weight_other t [] c other
            ∙ sym (turned_zero t.negative)
            ∙ ap (turned_ℤ t.negative) (sym (only_other w (spelled k (length w) c) (λ u. other (e ∙ ap (code k) u ∙ code-spelled k (length w) c some h))))
      ]

module _ (k : ℕ) (w : List ℕ) (short : length w < 2) (some : 0 < k) (over : Over k w) (t : Term) (e : t.code ≡ code k w) (s : t.negative ≡ false) where
  pub single_sums : SumsTo k w (t ∷ [])
  single_sums =
      record {
        below = All-cons (λ t. t.code < k ^ length w) t [] (rw e (code_below k w over)) (All-nil (λ t. t.code < k ^ length w));
        few = one-le-pow (length w - 1) 2 (omega arith);
        weights = λ c h. word_at k w some over t e c h ∙ ap (λ b. turned_ℤ b (only w (spelled k (length w) c))) s ∙ ap (λ x. x (spelled k (length w) c)) (sym (P_short w short));
      }

-- ---- products

-- a product has at most half as many terms as P of a word of as many letters may have
pub pairs_few : (a b p q : ℕ) → 0 < a → 0 < b → p ≤ 2 ^ (a - 1) → q ≤ 2 ^ (b - 1) → 2 * (p * q) ≤ 2 ^ (a + b - 1)
pairs_few a b p q ha hb hp hq =
    let e : a + b - 1 ≡ suc (a - 1 + (b - 1)) = omega arith in
    rw (e, pow-succ', pow-add) (omega (arith, mul-le-mul_right q hp, mul-le-mul_left (2 ^ (a - 1)) hq))

module _ (k : ℕ) (l r : List ℕ) (xs ys : List Term) (some : 0 < k) (hx : SumsTo k l xs) (hy : SumsTo k r ys) where
  product_weight : (opposite : Bool) (m c : ℕ) → length l + length r ≡ m → c < k ^ m
      → weight (products (k ^ length r) opposite xs ys) c ≡ turned_ℤ opposite (product_at l r (spelled k m c))
  product_weight opposite m c e h =
      let q : c % k ^ length r < k ^ length r = mod-lt c (one-le-pow (length r) k some) in
      let here : c < k ^ (length l + length r) = rw e h in
      ap (weight (products (k ^ length r) opposite xs ys)) (sym (div-add-mod' c (k ^ length r)))
      ∙ weight_products (k ^ length r) (c / k ^ length r) (c % k ^ length r) opposite xs ys hy.below q
      ∙ ap (turned_ℤ opposite) (ap₂ ◌*ℤ◌
      (hx.weights (c / k ^ length r) (front_below k (length l) (length r) c some here) ∙ ap (P l) (sym (take-spelled k (length l) (length r) c some here)))
      (hy.weights (c % k ^ length r) q ∙ ap (P r) (sym (drop-spelled k (length l) (length r) c some here))))
      ∙ ap (λ j. turned_ℤ opposite (product_at l r (spelled k j c))) e

  product_below : (opposite : Bool) (m : ℕ) → length l + length r ≡ m → Below (k ^ m) (products (k ^ length r) opposite xs ys)
  product_below opposite m e =
      subst (λ j. Below j (products (k ^ length r) opposite xs ys)) (sym (pow-add k (length l) (length r)) ∙ ap (λ j. k ^ j) e) (below_products (k ^ length l) (k ^ length r) opposite xs ys hx.below hy.below)

module _ (k : ℕ) (w l r : List ℕ) (xs ys : List Term) (some : 0 < k) (hx : SumsTo k l xs) (hy : SumsTo k r ys) where
  -- a word with a first factor l
  pub product_sums : FirstCut w l r → SumsTo k w (products (k ^ length r) false xs ys)
  product_sums C =
      let e : length l + length r ≡ length w = first_size w l r C in
      record {
        below = product_below k l r xs ys some hx hy false (length w) e;
        few = rw (length-products, ← e) (omega (arith, pairs_few (length l) (length r) (length xs) (length ys) C.1.lyndon.0.some C.3 hx.few hy.few));
        weights = λ c h. product_weight k l r xs ys some hx hy false (length w) c e h ∙ sym (first_value w l r (spelled k (length w) c) C (length-spelled k (length w) c));
      }

  -- a Lyndon word with the split l, r
  pub bracket_sums : SplitCut w l r → SumsTo k w (products (k ^ length r) false xs ys ++ products (k ^ length l) true ys xs)
  bracket_sums C =
      let e : length l + length r ≡ length w = split_size w l r C in
      let d : length r + length l ≡ length w = omega arith in
      record {
        below =
            All-append (λ t. t.code < k ^ length w) (products (k ^ length r) false xs ys) (products (k ^ length l) true ys xs)
            (product_below k l r xs ys some hx hy false (length w) e) (product_below k r l ys xs some hy hx true (length w) d);
        few =
            rw (length-append, length-products, length-products, ← e) (omega (arith, pairs_few (length l) (length r) (length xs) (length ys) C.1.proper C.1.lyndon.some hx.few hy.few, mul_comm (length ys) (length xs)));
        weights = λ c h.
            let u : List ℕ = spelled k (length w) c in
            weight-append (products (k ^ length r) false xs ys) (products (k ^ length l) true ys xs) c
            ∙ ap₂ ◌+ℤ◌ (product_weight k l r xs ys some hx hy false (length w) c e h) (product_weight k r l ys xs some hy hx true (length w) c d h)
            ∙ sym (split_value w l r u C (length-spelled k (length w) c));
      }
