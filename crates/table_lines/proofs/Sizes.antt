-- How many bytes the line of an entry has.
use Rattle.std.proofs.Common.{◌≡◌, ℕ, ◌+◌, ◌<◌, ◌≤◌, List, [], ◌∷◌, ◌++◌, map, length, decimal, inl, inr, arith, length-append}
use Rattle.std.proofs.lemmas.Fmt.{length-decimal-le}
use Rattle.std.proofs.lemmas.List.{length-map}
use Rattle.std.proofs.lemmas.Bool.{cases_lt, eq-eqb, ne_eqb}
use Rattle.lyndon.specs.declared.entry.Entry.{Entry}
use Rattle.lyndon.specs.Entries.{word}
use Rattle.lyndon.proofs.Codes.{length-spelled}
use Rattle.text.specs.Symbols.{symbol}
use Rattle.table_text.specs.Lines.{line_of_entry, fields, part, text_of}
use Rattle.table_text.proofs.Texts.{texts}

part_size : (e : Entry) (number i : ℕ) → 1 ≤ e.length → (1 < e.length → number < i) → i ≤ 1496 → length (part e number) ≤ 4
part_size e number i some earlier few =
    elim (cases_lt 1 e.length) [
      | inl h ↦
          let less = earlier h in
          rw (ne_eqb e.length 1 (λ q. omega arith)) (length-decimal-le 4 number (omega arith) (omega arith) (omega arith))
      | inr h ↦ rw (eq-eqb e.length 1 (omega arith)) (omega arith)
    ]

fields_size : (i : ℕ) (w l r t : List ℕ) → length (fields i w l r t) ≡ length (decimal i) + length w + length l + length r + length t + 5
fields_size i w l r t =
    omega (arith, length-append (decimal i) (32 ∷ (w ++ (32 ∷ (l ++ (32 ∷ (r ++ (32 ∷ (t ++ 10 ∷ [])))))))), length-append w (32 ∷ (l ++ (32 ∷ (r ++ (32 ∷ (t ++ 10 ∷ [])))))), length-append l (32 ∷ (r ++ (32 ∷ (t ++ 10 ∷ [])))), length-append r (32 ∷ (t ++ 10 ∷ [])), length-append t (10 ∷ []))

pub entry_line_size : (k i : ℕ) (e : Entry) → i < 1496 → 1 ≤ e.length → e.length ≤ 12 → (1 < e.length → (e.left < i) × (e.right < i)) → length (line_of_entry k i e) ≤ 74
entry_line_size k i e few some short earlier =
    let w = word k e in
    let n = length-spelled k e.length e.code in
    let a = length-decimal-le 4 i (omega arith) (omega arith) (omega arith) in
    let l = part_size e e.left i some (λ h. (earlier h).0) (omega arith) in
    let r = part_size e e.right i some (λ h. (earlier h).1) (omega arith) in
    let t = texts.size w (omega arith) in
    omega (arith, fields_size i (map symbol w) (part e e.left) (part e e.right) (text_of w), length-map w symbol)
