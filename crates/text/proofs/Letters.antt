-- Symbols and their letters.
use Rattle.std.proofs.Common.{◌≡◌, ℕ, ◌<◌, true, sym, ap, ◌∙◌, arith}
use Rattle.std.proofs.lemmas.Bool.Decides.{nat_tests}
use Rattle.text.specs.Symbols.{symbol, letter, is_symbol, SymbolsOfLetters}

pub letter_symbol : (x : ℕ) → x < 16 → letter (symbol x) ≡ x
letter_symbol x h = grind (arith, nat_tests)

pub symbol_is : (x : ℕ) → x < 16 → is_symbol (symbol x) ≡ true
symbol_is x h = grind (arith, nat_tests, letter_symbol x h)

-- a symbol is that of its letter
pub symbol_back : (c : ℕ) → is_symbol c ≡ true → (letter c < 16) × (symbol (letter c) ≡ c)
symbol_back c h = (grind (arith, nat_tests), grind (arith, nat_tests))

pub symbols_of_letters : SymbolsOfLetters
symbols_of_letters = record {
  letters = letter_symbol;
  tested = λ c. (
    λ is. let back = symbol_back c is in (letter c, back.0, sym back.1),
    λ of. ap is_symbol of.2 ∙ symbol_is of.0 of.1,
  );
}
