-- P of an entry of a table.
use Rattle.std.proofs.Common.{◌≡◌, ℕ, ◌^◌, ◌<◌, ◌≤◌, List, length, take, get_or, None, Option, Some, sym, ap, ap₂, ◌∙◌}
use Rattle.std.specs.List.{slice_get}
use Rattle.std.proofs.lemmas.Option.{slice_get_within, get_or_from_slice_get}
use Rattle.ring_laws.specs.Rings.{Operations, Laws}
use Rattle.ring_laws.proofs.Basics.{zero_plus, one_times}
use Rattle.faults.specs.Outcome.{Outcome}
use Rattle.faults.specs.Outcome.Outcome.{answered, refused}
use Rattle.bracket_table.proofs.Named as table
use Rattle.bracket_table.specs.Calls.{when_open, with_entry, look_outcome}
use Rattle.bracket_table.specs.Seen.{Sound}
use Rattle.bracket_table.specs.Views.{View}
use Rattle.lyndon.specs.declared.entry.Entry.{Entry}
use Rattle.lyndon.specs.Entries.{listing, no_entry}
use Rattle.polynomial.specs.Polynomials.{P}
use Rattle.coded_word.specs.declared.coded.CodedWord.{CodedWord}
use Rattle.coded_word.specs.Words.{word_of}
use Rattle.sheet_laws.specs.Sheets.{sheet_of}
use Rattle.sheet_laws.specs.Terms.{raised}
use Rattle.sheet_laws.proofs.Conversion.{row, raised_at, length-raised}
use Rattle.sheet_laws.proofs.Sheets.{is_sheet}

-- what is added to zeros is all that is there
pub raised_from_zero : {A : Type 0} (ring : Operations A) (laws : Laws ring) (w : CodedWord) (zeros xs : List A) (x : A) → xs ≡ raised ring w.shape.k (word_of w) x zeros → x ≡ ring.one → ((p : ℕ) → p < w.shape.k ^ w.length → get_or zeros p ring.zero ≡ ring.zero) → xs ≡ sheet_of w.shape.k w.length (λ u. ring.image (P (word_of w) u))
raised_from_zero ring laws w zeros xs x q one z =
    let e : xs ≡ raised ring w.shape.k (word_of w) ring.one zeros = q ∙ ap (λ y. raised ring w.shape.k (word_of w) y zeros) one in
    let k : ℕ = w.shape.k in
    let m : ℕ = w.length in
    is_sheet k m (λ u. ring.image (P (word_of w) u)) xs ring.zero (ap length e ∙ length-raised ring laws k m w.shape.some w.code ring.one zeros)
    (λ p l.
    ap (λ s. get_or s p ring.zero) e
    ∙ raised_at ring laws k m w.shape.some w.code ring.one zeros p l
    ∙ ap₂ ring.plus (z p l) (one_times laws.ring (row ring k m w.code p))
    ∙ zero_plus laws.ring (row ring k m w.code p))

-- ---- an entry is a word of the shape

module _ (v : View) (i k n : ℕ) (e : Entry) (shape : v.shape ≡ Some (record { k = k; n = n })) (some : 1 ≤ k) (sound : Sound v) (answer : answered e ≡ look_outcome v i) where
  here : slice_get v.entries i ≡ Some e
  here = go (slice_get v.entries i) (answer ∙ ap (λ s. when_open s (λ d. with_entry (slice_get v.entries i) answered)) shape)
    where
      seen : Outcome Entry → Option Entry
      seen (answered d) = Some d
      seen (refused fault) = None

      go : (o : Option Entry) → answered e ≡ with_entry o answered → o ≡ Some e
      go None h = sym (ap seen h)
      go (Some d) h = sym (ap seen h)

  listed : v.entries ≡ take (length v.entries) (listing k n)
  listed = (sound (record { k = k; n = n }) shape).listed

  within : i < length v.entries
  within = slice_get_within v.entries i e here

  named : get_or v.entries i no_entry ≡ e
  named = get_or_from_slice_get v.entries i e no_entry here

  pub entry_some : 1 ≤ e.length
  entry_some = rw named at (table.entry_some k n some v.entries listed i within)

  pub entry_short : e.length ≤ n
  entry_short = rw named at (table.entry_short k n some v.entries listed i within)

  pub entry_coded : e.code < k ^ e.length
  entry_coded = rw named at (table.entry_coded k n some v.entries listed i within)
