-- What holds of P of every word.
use Rattle.std.specs.Prelude.{◌≡◌, ◌≢◌, ℕ, ◌-◌, ◌^◌, ◌≤◌, List, [], ◌∷◌, map, length, ℤ, pos, unsigned_abs}
use Rattle.letter_order.specs.Orders.{by_value}
use Rattle.lyndon.specs.Words.{Before, Lyndon, Factors, Split}
use Rattle.polynomial.specs.Polynomials.{only, product, bracket, P}

-- w has the coefficient 1; each other word with a coefficient has as many letters and comes after w
pub record Leads (x : List ℕ → ℤ) (w : List ℕ) : Type 0 where
  pub one : x w ≡ pos 1
  pub size : (u : List ℕ) → length u ≢ length w → x u ≡ pos 0
  pub low : (u : List ℕ) → Before by_value u w → x u ≡ pos 0

pub record BracketPolynomials : Type 0 where
  -- P of a letter is that letter
  pub letter : (a : ℕ) → P (a ∷ []) ≡ only (a ∷ [])
  -- P of a Lyndon word with the split l, r is P(l) P(r) - P(r) P(l)
  pub lyndon : (w l r : List ℕ) → Lyndon by_value w → Split by_value w l r → P w ≡ bracket (P l) (P r)
  -- P of any word is the product of P of its factors, in their order
  pub factors : (w : List ℕ) (fs : List (List ℕ)) → Factors by_value w fs → P w ≡ product (map P fs)
  pub leads : (w : List ℕ) → Leads (P w) w
  pub bound : (w u : List ℕ) → unsigned_abs (P w u) ≤ 2 ^ (length w - 1)
