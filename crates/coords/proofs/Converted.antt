-- Coordinates over a table with every entry of its shape.
use Rattle.std.proofs.Common.{◌≡◌, ℕ, ◌^◌, List, length, Some, Result, IsOk, ◌-ℤ◌, refl, ap, ap₂, ◌∙◌, subst, arith}
use Rattle.std.proofs.lemmas.Bool.{ne_eqb, le-ltb, eq-eqb}
use Rattle.faults.specs.Outcome.{told}
use Rattle.faults.specs.Outcome.Outcome.{answered}
use Rattle.faults.proofs.Checks.{answers}
use Rattle.lyndon.specs.Entries.{listing}
use Rattle.polynomial.specs.Polynomials.{only}
use Rattle.ring.specs.Modulo.{ring_64}
use Rattle.ring.specs.declared.modulo.Mod64.{Mod64}
use Rattle.sheet_laws.specs.Coordinates.{Coordinates}
use Rattle.sheet_laws.proofs.Sheets.{length-sheet_of}
use Rattle.coded_word.specs.Words.{word_of}
use Rattle.coded_word.specs.declared.shape.Shape.{Shape}
use Rattle.bracket_table.specs.Seen.{view}
use Rattle.bracket_table.specs.Views.{View}
use Rattle.bracket_table.specs.declared.Table.{Table}
use Rattle.bracket_table.proofs.Lacking.{none_lacking}
use Rattle.sheet.specs.Calls.{conversion_outcome}
use Rattle.sheet.specs.Faults.{sheet_fault}
use Rattle.sheet.specs.declared.fault.SheetFault.{SheetFault}
use Rattle.coords.specs.Printed.{lines_from, or_zero}
use Rattle.coords.specs.Products.{ProductsPrint, IsWhole, difference_of}
use Rattle.coords.specs.declared.products.Products.{Products}

module _ (s : Shape) where
  abbrev whole : ℕ → View
  whole room = record { shape = Some (record { k = s.k; n = s.n }); entries = listing s.k s.n; room = room }

  -- a sheet of the greatest length is converted
  accepted : (room : ℕ) → conversion_outcome (whole room) s.n (s.k ^ s.n) ≡ answered tt
  accepted room =
      rw (ne_eqb s.n 0 (λ e. omega (arith, s.one)), le-ltb s.n s.n (omega arith), eq-eqb (s.k ^ s.n) (s.k ^ s.n) refl, none_lacking s.k s.n s.n s.some) refl

  pub converts : (t : Table) (m size : ℕ) (r : Result (Unit {0}) SheetFault) → told (λ done. done) sheet_fault r ≡ conversion_outcome (view t) m size → m ≡ s.n → size ≡ s.k ^ s.n → IsWhole s (view t) → IsOk r
  converts t m size r told n k w =
      let is : view t ≡ whole (view t).room = λ i. record { shape = w.0 i; entries = w.1 i; room = (view t).room } in
      answers (λ done. done) sheet_fault r tt (told ∙ ap₂ (conversion_outcome (view t)) n k ∙ ap (λ v. conversion_outcome v s.n (s.k ^ s.n)) is ∙ accepted (view t).room)

module _ (p : Products) where
  abbrev k : ℕ
  k = p.uv.shape.k

  abbrev n : ℕ
  n = p.uv.shape.n

  pub difference_size : (sheet : List Mod64) → sheet ≡ difference_of ring_64 p → length sheet ≡ k ^ n
  difference_size sheet e = ap length e ∙ length-sheet_of k n (λ u. ring_64.image (only (word_of p.uv) u -ℤ only (word_of p.vu) u))

  pub coordinates_printed : (sheet c : List Mod64) (printed : List ℕ) → sheet ≡ difference_of ring_64 p → Coordinates ring_64 k n sheet c → printed ≡ or_zero (lines_from k n 0 c) → ProductsPrint p printed
  coordinates_printed sheet c printed is are e = record { coordinates = c; of_sheet = subst (λ x. Coordinates ring_64 k n x c) is are; lines = e }
