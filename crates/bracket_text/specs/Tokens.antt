-- The tokens of a bracket text. 91 is [, 44 the comma, 93 ].
use Rattle.std.specs.Prelude.{◌≡◌, ℕ, true, false, [], ◌∷◌, ◌≢◌}
use Rattle.text.specs.Symbols.{is_symbol}
use Rattle.bracket_text.specs.declared.token.Token.{Token}
use Rattle.bracket_text.specs.declared.token.Token.TheVariants.{Open, Comma, Close, Symbol, Other}

-- the token of a byte
abbrev pub Stands : ℕ → Token → Type 0
Stands c Open = c ≡ 91
Stands c Comma = c ≡ 44
Stands c Close = c ≡ 93
Stands c (Symbol part) = (is_symbol c ≡ true) × (part.now ≡ c ∷ [])
Stands c Other = (is_symbol c ≡ false) × (c ≢ 91) × (c ≢ 44) × (c ≢ 93)
