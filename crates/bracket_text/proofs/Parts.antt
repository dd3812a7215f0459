-- The parts of bracket texts, and the bytes with which they begin.
use Rattle.std.proofs.Common.{◌+◌, ◌*◌, ◌≡◌, ℕ, ◌<◌, true, false, ◌⊎◌, List, [], ◌∷◌, ◌++◌, map, length, Some, None, Option, sym, refl, ap, ◌∙◌, inl, inr, append_assoc, arith, length-append}
use Rattle.std.specs.Prelude.{◌≢◌}
use Rattle.std.proofs.lemmas.Bool.{false≢true}
use Rattle.text.specs.Reading.{Viable}
use Rattle.text.specs.Symbols.{symbol, letter, is_symbol}
use Rattle.text.proofs.Letters.{letter_symbol, symbol_is, symbol_back}
use Rattle.bracket_text.specs.Brackets.{pair, IsText}
use Rattle.bracket_text.specs.Brackets.IsText.{letter as one, bracket as two}
use Rattle.bracket_text.specs.States.{Fits, taken}
use Rattle.bracket_text.specs.Tokens.{Stands}
use Rattle.bracket_text.specs.declared.reader.Part.{Part}
use Rattle.bracket_text.specs.declared.reader.Part.TheVariants as part
use Rattle.bracket_text.specs.declared.token.Token.{Token}
use Rattle.bracket_text.specs.declared.token.Token.TheVariants as token

-- behind the byte c, which adds the letters w, the parts qs are left
abbrev pub Next : List Part → ℕ → List ℕ → List Part → Type 0
Next ps c w qs =
    ((t v : List ℕ) → Fits qs t v → Fits ps (c ∷ t) (w ++ v))
    × ((t x : List ℕ) → Fits ps (c ∷ t) x → (v : List ℕ) × (x ≡ w ++ v) × Fits qs t v)

-- no text begins with the byte c
abbrev pub Stuck : List Part → ℕ → Type 0
Stuck ps c = (t x : List ℕ) → Fits ps (c ∷ t) x → ⊥

-- the parts can always be read
pub fill : (ps : List Part) → Viable (Fits ps) []
fill [] = ([], [], (refl, refl))
fill (part.Text ∷ ps) =
    let r = fill ps in
    (48 ∷ r.0, 0 ∷ r.1, (48 ∷ [], 0 ∷ [], r.0, r.1, one 0 (omega arith), r.2, refl, refl))
fill (part.Comma ∷ ps) = let r = fill ps in (44 ∷ r.0, r.1, (r.0, refl, r.2))
fill (part.Close ∷ ps) = let r = fill ps in (93 ∷ r.0, r.1, (r.0, refl, r.2))

-- a text has a first byte
some_byte : (s u : List ℕ) → IsText s u → 0 < length s
some_byte s u (one x h) = omega arith
some_byte s u (two f g) = omega arith

-- a byte for each letter, and three for each bracket
pub size : (bs w : List ℕ) → IsText bs w → length bs + 3 ≡ 4 * length w
size bs w (one x h) = refl
size bs w (two {s = s} {t = t} {u = u} {v = v} f g) =
    let a = size s u f in
    let b = size t v g in
    omega (arith, a, b, length-append s (44 ∷ (t ++ 93 ∷ [])), length-append t (93 ∷ []), length-append u v)

-- and where one is awaited, nothing has ended
pub not_empty : (q : Part) (ps : List Part) (w : List ℕ) → Fits (q ∷ ps) [] w → ⊥
not_empty part.Text ps w f = omega (arith, some_byte f.0 f.1 f.4, simp length-append at (ap length f.6))
not_empty part.Comma ps w f = let e = f.1 in absurd (cc)
not_empty part.Close ps w f = let e = f.1 in absurd (cc)

head_is : (a b : ℕ) (s t : List ℕ) → a ∷ s ≡ b ∷ t → a ≡ b
head_is a b s t e = cc

tail_is : (a b : ℕ) (s t : List ℕ) → a ∷ s ≡ b ∷ t → s ≡ t
tail_is a b s t e = cc

-- commas and closing brackets
next_comma : (ps : List Part) → Next (part.Comma ∷ ps) 44 [] ps
next_comma ps = (λ t v f. (t, refl, f), λ t x f. (x, refl, rw (tail_is 44 44 t f.0 f.1) f.2))

next_close : (ps : List Part) → Next (part.Close ∷ ps) 93 [] ps
next_close ps = (λ t v f. (t, refl, f), λ t x f. (x, refl, rw (tail_is 93 93 t f.0 f.1) f.2))

stuck_comma : (ps : List Part) (c : ℕ) → c ≢ 44 → Stuck (part.Comma ∷ ps) c
stuck_comma ps c n t x f = n (head_is c 44 t f.0 f.1)

stuck_close : (ps : List Part) (c : ℕ) → c ≢ 93 → Stuck (part.Close ∷ ps) c
stuck_close ps c n t x f = n (head_is c 93 t f.0 f.1)

stuck_end : (c : ℕ) → Stuck [] c
stuck_end c t x f = let e = f.0 in absurd (cc)

-- symbols
no_symbol : (x c : ℕ) → x < 16 → is_symbol c ≡ false → c ≡ symbol x → ⊥
no_symbol x c h off e = false≢true (sym off ∙ ap is_symbol e ∙ symbol_is x h)

symbol_back_at : (c : ℕ) → is_symbol c ≡ true → (ps : List Part) (t z s u r v : List ℕ) → IsText s u → Fits ps r v → c ∷ t ≡ s ++ r → z ≡ u ++ v → (y : List ℕ) × (z ≡ letter c ∷ y) × Fits ps t y
symbol_back_at c is ps t z s u r v (one x h) f e d =
    let q : letter c ≡ x = ap letter (head_is c (symbol x) t r e) ∙ letter_symbol x h in
    (v, rw q d, rw (tail_is c (symbol x) t r e) f)
symbol_back_at c is ps t z s u r v (two {s = a} {t = b} f g) k e d =
    let q : c ≡ 91 = head_is c 91 t ((a ++ (44 ∷ (b ++ 93 ∷ []))) ++ r) e in
    absurd (false≢true (sym (ap is_symbol q) ∙ is))

next_symbol : (c : ℕ) → is_symbol c ≡ true → (ps : List Part) → Next (part.Text ∷ ps) c (letter c ∷ []) ps
next_symbol c is ps =
    let back = symbol_back c is in (
      λ t v f. (c ∷ [], letter c ∷ [], t, v, rw back.1 at (one (letter c) back.0), f, refl, refl),
      λ t z f. symbol_back_at c is ps t z f.0 f.1 f.2 f.3 f.4 f.5 f.6 f.7,
    )

-- opening brackets
abbrev inside : List Part → List Part
inside ps = part.Text ∷ part.Comma ∷ part.Text ∷ part.Close ∷ ps

pair_then : (a b r : List ℕ) → pair a b ++ r ≡ 91 ∷ (a ++ (44 ∷ (b ++ (93 ∷ r))))
pair_then a b r = ap (λ l. 91 ∷ l) (append_assoc a (44 ∷ (b ++ 93 ∷ [])) r ∙ ap (λ l. a ++ (44 ∷ l)) (append_assoc b (93 ∷ []) r))

open_back : (ps : List Part) (t z s u r v : List ℕ) → IsText s u → Fits ps r v → 91 ∷ t ≡ s ++ r → z ≡ u ++ v → (y : List ℕ) × (z ≡ y) × Fits (inside ps) t y
open_back ps t z s u r v (one x h) f e d = absurd (no_symbol x 91 h refl (head_is 91 (symbol x) t r e))
open_back ps t z s u r v (two {s = a} {t = b} {u = m} {v = n} f g) k e d =
    let rest : t ≡ a ++ (44 ∷ (b ++ (93 ∷ r))) = tail_is 91 91 t (a ++ (44 ∷ (b ++ (93 ∷ r)))) (e ∙ pair_then a b r) in (
      z,
      refl,
      (a, m, 44 ∷ (b ++ (93 ∷ r)), n ++ v, f, (b ++ (93 ∷ r), refl, (b, n, 93 ∷ r, v, g, (r, refl, k), refl, refl)), rest, d ∙ append_assoc m n v),
    )

open_on : (ps : List Part) (t z : List ℕ) → Fits (inside ps) t z → Fits (part.Text ∷ ps) (91 ∷ t) z
open_on ps t z f =
    let g = f.5.2 in
    let rest : t ≡ f.0 ++ (44 ∷ (g.0 ++ (93 ∷ g.5.0))) = f.6 ∙ ap (λ l. f.0 ++ l) (f.5.1 ∙ ap (λ l. 44 ∷ l) (g.6 ∙ ap (λ l. g.0 ++ l) g.5.1)) in (
      pair f.0 g.0,
      f.1 ++ g.1,
      g.5.0,
      g.3,
      two f.4 g.4,
      g.5.2,
      ap (λ l. 91 ∷ l) rest ∙ sym (pair_then f.0 g.0 g.5.0),
      f.7 ∙ ap (λ l. f.1 ++ l) g.7 ∙ sym (append_assoc f.1 g.1 g.3),
    )

next_open : (ps : List Part) → Next (part.Text ∷ ps) 91 [] (inside ps)
next_open ps = (λ t v f. open_on ps t v f, λ t z f. open_back ps t z f.0 f.1 f.2 f.3 f.4 f.5 f.6 f.7)

-- other bytes
stuck_text_at : (c : ℕ) → is_symbol c ≡ false → c ≢ 91 → (t s u r : List ℕ) → IsText s u → c ∷ t ≡ s ++ r → ⊥
stuck_text_at c off n t s u r (one x h) e = no_symbol x c h off (head_is c (symbol x) t r e)
stuck_text_at c off n t s u r (two {s = a} {t = b} f g) e = n (head_is c 91 t ((a ++ (44 ∷ (b ++ 93 ∷ []))) ++ r) e)

stuck_text : (ps : List Part) (c : ℕ) → is_symbol c ≡ false → c ≢ 91 → Stuck (part.Text ∷ ps) c
stuck_text ps c off n t z f = stuck_text_at c off n t f.0 f.1 f.2 f.4 f.6

-- what a token does is what its byte does
abbrev pub Follows : List Part → ℕ → Option (List Part × List ℕ) → Type 0
Follows ps c None = Stuck ps c
Follows ps c (Some next) = Next ps c next.1 next.0

symbol_letters : (c : ℕ) (bytes : List ℕ) → bytes ≡ c ∷ [] → map letter bytes ≡ letter c ∷ []
symbol_letters c bytes e = ap (map letter) e

not : (c d : ℕ) → is_symbol c ≡ true → is_symbol d ≡ false → c ≢ d
not c d is off e = false≢true (sym off ∙ sym (ap is_symbol e) ∙ is)

pub follows : (ps : List Part) (t : Token) (c : ℕ) → Stands c t → Follows ps c (taken ps t)
follows [] t c h = stuck_end c
follows (part.Text ∷ ps) token.Open c h = rw h (next_open ps)
follows (part.Text ∷ ps) token.Comma c h = rw h (stuck_text ps 44 refl (λ e. omega arith))
follows (part.Text ∷ ps) token.Close c h = rw h (stuck_text ps 93 refl (λ e. omega arith))
follows (part.Text ∷ ps) (token.Symbol bytes) c h = rw (symbol_letters c bytes.now h.1) (next_symbol c h.0 ps)
follows (part.Text ∷ ps) token.Other c h = stuck_text ps c h.0 h.1
follows (part.Comma ∷ ps) token.Open c h = stuck_comma ps c (λ e. omega arith)
follows (part.Comma ∷ ps) token.Comma c h = rw h (next_comma ps)
follows (part.Comma ∷ ps) token.Close c h = stuck_comma ps c (λ e. omega arith)
follows (part.Comma ∷ ps) (token.Symbol bytes) c h = stuck_comma ps c (not c 44 h.0 refl)
follows (part.Comma ∷ ps) token.Other c h = stuck_comma ps c h.2
follows (part.Close ∷ ps) token.Open c h = stuck_close ps c (λ e. omega arith)
follows (part.Close ∷ ps) token.Comma c h = stuck_close ps c (λ e. omega arith)
follows (part.Close ∷ ps) token.Close c h = rw h (next_close ps)
follows (part.Close ∷ ps) (token.Symbol bytes) c h = stuck_close ps c (not c 93 h.0 refl)
follows (part.Close ∷ ps) token.Other c h = stuck_close ps c h.3

-- a byte opens, is a symbol, or begins no text
begins : (c : ℕ) → (c ≡ 91) ⊎ (is_symbol c ≡ true) ⊎ ((is_symbol c ≡ false) × (c ≢ 91))
begins c = grind (arith)

-- the letters are those of the text
pub one_fit : (bs : List ℕ) (ps : List Part) (u v : List ℕ) → Fits ps bs u → Fits ps bs v → u ≡ v
one_fit [] [] u v f g = f.1 ∙ sym g.1
one_fit [] (q ∷ ps) u v f g = absurd (not_empty q ps u f)
one_fit (c ∷ t) [] u v f g = absurd (stuck_end c t u f)
one_fit (c ∷ t) (part.Comma ∷ ps) u v f g =
    one_fit t ps u v (rw (tail_is c 44 t f.0 f.1) f.2) (rw (tail_is c 44 t g.0 g.1) g.2)
one_fit (c ∷ t) (part.Close ∷ ps) u v f g =
    one_fit t ps u v (rw (tail_is c 93 t f.0 f.1) f.2) (rw (tail_is c 93 t g.0 g.1) g.2)
one_fit (c ∷ t) (part.Text ∷ ps) u v f g =
    elim (begins c) [
      | inl e ↦
          let a = (next_open ps).1 t u (rw e at f) in
          let b = (next_open ps).1 t v (rw e at g) in
          a.1 ∙ one_fit t (inside ps) a.0 b.0 a.2 b.2 ∙ sym b.1
      | inr (inl is) ↦
          let a = (next_symbol c is ps).1 t u f in
          let b = (next_symbol c is ps).1 t v g in
          a.1 ∙ ap (λ l. letter c ∷ l) (one_fit t ps a.0 b.0 a.2 b.2) ∙ sym b.1
      | inr (inr h) ↦ absurd (stuck_text ps c h.0 h.1 t u f)
    ]
