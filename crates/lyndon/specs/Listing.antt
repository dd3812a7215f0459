-- The Lyndon words of a shape: k letters, words of at most n of them.
use Rattle.std.specs.Prelude.{◌≡◌, ℕ, zero, suc, ◌+◌, ◌-◌, ◌^◌, ◌≤◌, Bool, cond, ◌⊎◌, List, [], ◌∷◌, ◌++◌, length}
use Rattle.std.specs.List.{AllByRecursion}
use Rattle.letter_order.specs.Orders.{by_value}
use Rattle.lyndon.specs.Words.{Lyndon}
use Rattle.lyndon.specs.Factoring.{is_lyndon}
use Rattle.lyndon.specs.Codes.{Over, spelled, Listed}

-- w is a Lyndon word of the shape
pub record OfShape (k n : ℕ) (w : List ℕ) : Type 0 where
  pub lyndon : Lyndon by_value w
  pub letters : Over k w
  pub short : length w ≤ n

abbrev pub In : {A : Type 0} → A → List A → Type 0
In x [] = ⊥
In x (y ∷ ys) = (x ≡ y) ⊎ In x ys

-- each stands to every later one in the relation R
abbrev pub Rising : {A : Type 0} → (A → A → Type 0) → List A → Type 0
Rising R [] = Unit {0}
Rising R (x ∷ xs) = AllByRecursion (R x) xs × Rising R xs

-- ws are the first Lyndon words of the shape in listing order, each once and none skipped
pub record First (k n : ℕ) (ws : List (List ℕ)) : Type 0 where
  pub lyndon : AllByRecursion (OfShape k n) ws
  pub rising : Rising Listed ws
  pub unskipped : (v : List ℕ) → OfShape k n v → In v ws ⊎ AllByRecursion (λ w. Listed w v) ws

-- w is the first Lyndon word of the shape in listing order that is not among ws
pub record FirstMissing (k n : ℕ) (ws : List (List ℕ)) (w : List ℕ) : Type 0 where
  pub lyndon : OfShape k n w
  pub missing : In w ws → ⊥
  pub first : (v : List ℕ) → OfShape k n v → (In v ws → ⊥) → (v ≡ w) ⊎ Listed w v

-- each Lyndon word of the shape that has at most m letters is one of ws
abbrev pub CompleteTo : ℕ → ℕ → ℕ → List (List ℕ) → Type 0
CompleteTo k n m ws = (w : List ℕ) → OfShape k n w → length w ≤ m → In w ws

-- ---- as a list of lengths and codes

-- is it a Lyndon word?
unfoldable pub lyndon : List ℕ → Bool
lyndon w = is_lyndon by_value w

-- the Lyndon words of m letters among f codes from c on, each as its length and its code
unfoldable pub codes : ℕ → ℕ → ℕ → ℕ → List (ℕ × ℕ)
codes k m c zero = []
codes k m c (suc f) = cond (lyndon (spelled k m c)) ((m, c) ∷ codes k m (c + 1) f) (codes k m (c + 1) f)

-- those of j lengths from m on
unfoldable pub lengths : ℕ → ℕ → ℕ → List (ℕ × ℕ)
lengths k m zero = []
lengths k m (suc j) = codes k m 0 (k ^ m) ++ lengths k (m + 1) j

-- all Lyndon words of the shape in listing order
unfoldable pub keys : ℕ → ℕ → List (ℕ × ℕ)
keys k n = lengths k 1 n

-- what is left of them from the word of m letters with the code c on
unfoldable pub rest : ℕ → ℕ → ℕ → ℕ → List (ℕ × ℕ)
rest k n m c = codes k m c (k ^ m - c) ++ lengths k (m + 1) (n - m)
