-- An entry of a table, by its number.
use Rattle.std.proofs.Common.{◌≡◌, ℕ, ◌+◌, ◌*◌, ◌/◌, ◌^◌, ◌<◌, ◌≤◌, ◌⊎◌, List, [], ◌∷◌, map, length, get_or, sym, ap, ◌∙◌, subst, inl, inr, one-mul, pow-suc, div-one, arith, length-append}
use native.Mathlib.Nat.{pow-zero}
use Rattle.std.proofs.lemmas.Bool.{cases_lt}
use Rattle.letter_order.specs.Orders.{by_value}
use Rattle.lyndon.specs.declared.entry.Entry.{Entry}
use Rattle.lyndon.specs.Words.{Split}
use Rattle.lyndon.specs.Codes.{spelled}
use Rattle.lyndon.specs.Entries.{word, no_entry, Parted}
use Rattle.lyndon.specs.Listing.{OfShape}
use Rattle.lyndon.proofs.Codes.{length-spelled}
use Rattle.lyndon.proofs.Entries.{listing_parts}
use Rattle.bracket_table.proofs.Named.{entry_coded, entry_of_shape, entry_some, entry_short}
use Rattle.text.specs.Symbols.{symbol}
use Rattle.bracket_text.specs.Brackets.{pair}
use Rattle.table_text.specs.Lines.{text_of}
use Rattle.table_text.specs.Listed.{entry_at, word_at}
use Rattle.table_text.specs.declared.entry_line.Listed.{Listed}
use Rattle.table_text.proofs.Texts.{text_letter, text_split, texts}

module _ (s : Listed) where
  abbrev k : ℕ
  k = s.shape.k

  abbrev es : List Entry
  es = s.entries.now

  abbrev e : Entry
  e = entry_at s

  abbrev l : Entry
  l = get_or es e.left no_entry

  abbrev r : Entry
  r = get_or es e.right no_entry

  pub coded : e.code < k ^ e.length
  coded = entry_coded k s.shape.n s.shape.some es s.listed s.number s.named

  of_shape : OfShape k s.shape.n (word_at s)
  of_shape = entry_of_shape k s.shape.n s.shape.some es s.listed s.number s.named

  size : length (word_at s) ≡ e.length
  size = length-spelled k e.length e.code

  pub some_letters : 1 ≤ e.length
  some_letters = entry_some k s.shape.n s.shape.some es s.listed s.number s.named

  pub few_letters : e.length ≤ s.shape.n
  few_letters = entry_short k s.shape.n s.shape.some es s.listed s.number s.named

  -- four bytes for each letter, less three
  pub text_size : length (text_of (word_at s)) + 3 ≡ 4 * e.length
  text_size = omega (arith, size, texts.size (word_at s) of_shape.lyndon.some)

  parted : Parted k es s.number e
  parted =
      subst (λ z. Parted k z s.number (get_or z s.number no_entry)) (sym s.listed)
      (listing_parts k s.shape.n s.shape.some (length es) s.number (subst (λ z. s.number < length z) s.listed s.named))

  pub letter_code : e.length ≡ 1 → e.code < 16
  letter_code h =
      let c : e.code < k ^ 1 = subst (λ m. e.code < k ^ m) h coded in
      let one : k ^ 1 ≡ k = pow-suc k 0 ∙ ap (λ z. z * k) (pow-zero k) ∙ one-mul k in
      omega (arith, s.shape.letters)

  pub letter_text : e.length ≡ 1 → text_of (word_at s) ≡ symbol e.code ∷ []
  letter_text h =
      let w : word_at s ≡ e.code / k ^ 0 ∷ [] = ap (λ m. spelled k m e.code) h in
      let d : e.code / k ^ 0 ≡ e.code = rw (pow-zero k) (div-one e.code) in
      text_letter (word_at s) (size ∙ h) ∙ ap (map symbol) w ∙ ap (λ z. symbol z ∷ []) d

  module _ (none : e.length ≡ 1 → ⊥) where
    long : 1 < e.length
    long = go (cases_lt 1 e.length)
      where
        go : (1 < e.length) ⊎ (e.length ≤ 1) → 1 < e.length
        go (inl h) = h
        go (inr h) = absurd (none (omega (arith, some_letters)))

    cut_so : Split by_value (word_at s) (word k l) (word k r)
    cut_so = parted.split long

    -- both parts are entries, and shorter
    pub left_within : e.left < length es
    left_within = let h = (parted.earlier long).0 in omega (arith, s.named)

    pub right_within : e.right < length es
    right_within = let h = (parted.earlier long).1 in omega (arith, s.named)

    pub shorter : (l.length < e.length) × (r.length < e.length)
    shorter =
        let a = length-spelled k l.length l.code in
        let b = length-spelled k r.length r.code in
        let n : length (word_at s) ≡ length (word k l) + length (word k r) = ap length cut_so.whole ∙ length-append (word k l) (word k r) in
        (omega (arith, size, cut_so.lyndon.some), omega (arith, size, cut_so.proper))

    pub pair_text : text_of (word_at s) ≡ pair (text_of (word k l)) (text_of (word k r))
    pair_text = text_split (word_at s) (word k l) (word k r) cut_so
