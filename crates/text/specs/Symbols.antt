-- The symbols of letters: 0 to 9, a to f.
use Rattle.std.specs.Prelude.{◌≡◌, ℕ, ◌+◌, ◌-◌, ◌<◌, Bool, cond, ◌&&◌, Decides, ◌==◌, nat_lt}

-- the symbol of a letter
abbrev pub symbol : ℕ → ℕ
symbol x = cond (nat_lt x 10) (48 + x) (87 + x)

-- the letter of a symbol
abbrev pub letter : ℕ → ℕ
letter c = cond (nat_lt c 58) (c - 48) (c - 87)

-- whether a byte is the symbol of a letter below 16
abbrev pub is_symbol : ℕ → Bool
is_symbol c = nat_lt (letter c) 16 && symbol (letter c) == c

-- what symbols are to letters
pub record SymbolsOfLetters : Type 0 where
  -- the letter of a letter's symbol is that letter
  pub letters : (x : ℕ) → x < 16 → letter (symbol x) ≡ x
  -- the test for symbols is right
  pub tested : (c : ℕ) → Decides (is_symbol c) ((x : ℕ) × (x < 16) × (c ≡ symbol x))
