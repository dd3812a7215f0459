-- The codes of products of sums are those of words of their length.
use Rattle.std.proofs.Common.{◌≡◌, ℕ, ◌*◌, ◌^◌, ◌<◌, true, false, List, [], ◌∷◌, ◌++◌, length, set, subst, sym, ap, ◌∙◌, arith, mul_comm, pow-suc}
use native.Mathlib.Nat.{pow-zero}
use Rattle.std.proofs.lemmas.List.Elements.{All-append, All-same, All-cons, All-nil}
use Rattle.lyndon.specs.Codes.{Over, code}
use Rattle.lyndon.proofs.Codes.{code_below}
use Rattle.sheet_laws.specs.declared.term.Term.{Term}
use Rattle.sheet_laws.specs.Terms.{products, Below}
use Rattle.sheet_laws.proofs.Terms.{below_products}

pub below_product : (m n : ℕ) (xs ys ts : List Term) → Below m xs → Below n ys → ts ≡ products n false xs ys → Below (m * n) ts
below_product m n xs ys ts h l e = All-same (λ t. t.code < m * n) ts (products n false xs ys) e (below_products m n false xs ys h l)

pub below_bracket : (m n : ℕ) (xs ys ts us : List Term) → Below m xs → Below n ys → ts ≡ products n false xs ys → us ≡ products m true ys xs → Below (m * n) (ts ++ us)
below_bracket m n xs ys ts us h l e f =
    All-append (λ t. t.code < m * n) ts us (below_product m n xs ys ts h l e)
    (All-same (λ t. t.code < m * n) us (products m true ys xs) f (subst (λ j. Below j (products m true ys xs)) (mul_comm n m) (below_products n m true ys xs l h)))

pub one_power : (k m : ℕ) → m ≡ 1 → k ≡ k ^ m
one_power k m e = sym (ap (λ j. k ^ j) e ∙ pow-suc k 0 ∙ rw (pow-zero k) (omega arith))

pub below_letter : (k : ℕ) (w : List ℕ) (ts : List Term) (t : Term) → length ts ≡ 1 → Over k w → length w ≡ 1 → t ≡ record { code = code k w; negative = false } → Below k (set ts 0 t)
below_letter k w [] t n o l e = absurd (omega arith)
below_letter k w (u ∷ []) t n o l e = All-cons (λ t. t.code < k) t [] (rw e (subst (λ n. code k w < n) (sym (one_power k (length w) l)) (code_below k w o))) (All-nil (λ t. t.code < k))
below_letter k w (u ∷ v ∷ ts) t n o l e = absurd (omega arith)
