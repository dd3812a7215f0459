-- Texts that are refused.
use Rattle.std.proofs.Common.{ℕ, ◌<◌, List, [], ◌∷◌, length, sym, refl, ap, ◌∙◌, inl, lit≤, arith}
use Rattle.std.specs.Prelude.{◌≢◌}
use Rattle.std.proofs.lemmas.Bool.{false≢true}
use Rattle.faults.specs.Faults.{found, passed}
use Rattle.faults.specs.Outcome.Outcome.{answered, refused}
use Rattle.faults.specs.declared.Layer.TheVariants as layer
use Rattle.lyndon.specs.Listing.{lyndon}
use Rattle.lyndon.specs.Theorems.{FirstEntries, Listings}
use Rattle.lyndon.specs.Entries.{listing}
use Rattle.lyndon.proofs.Codes.{says_lyndon}
use Rattle.lyndon.proofs.Entries.{listings}
use Rattle.text.specs.Reading.{Stops}
use Rattle.bracket_text.specs.Brackets.{IsText, BracketOutcome}
use Rattle.bracket_text.specs.Brackets.IsText.{letter, bracket}
use Rattle.bracket_text.specs.Brackets.BracketOutcome.{malformed, read}
use Rattle.bracket_text.proofs.Parts.{size}
use Rattle.table_text.specs.Reads.{entry_text, ReadOutcome}
use Rattle.table_text.specs.Reads.TextOutcome.{no_text, unknown}
use Rattle.table_text.proofs.ReadTexts.{of_shape, entry_word}
use Rattle.worked_cases.specs.Holds.{whole}

-- a bracket is missing: with it the text is one, and eight bytes are none
pub unclosed : ReadOutcome (whole 2 5) (91 ∷ 48 ∷ 44 ∷ 91 ∷ 48 ∷ 44 ∷ 49 ∷ 93 ∷ []) (refused (passed layer.Table (found 15 layer.Text 8 0)))
unfolding ReadOutcome
unclosed = no_text (found 15 layer.Text 8 0) (malformed 8 (omega arith) stops)
  where
    bs : List ℕ
    bs = 91 ∷ 48 ∷ 44 ∷ 91 ∷ 48 ∷ 44 ∷ 49 ∷ 93 ∷ []

    stops : Stops IsText bs 8
    stops = record {
      within = omega arith;
      viable = (93 ∷ [], 0 ∷ 0 ∷ 1 ∷ [], bracket (letter 0 (omega arith)) (bracket (letter 0 (omega arith)) (letter 1 (omega arith))));
      stuck = inl (refl, λ w f. omega (arith, size bs w f));
    }

firsts : FirstEntries 2 5 (listing 2 5)
unfolding Listings
firsts = (listings 2 5 (lit≤ tt)).entries

-- no entry has the word 10, since it is not Lyndon
pub unlisted : ReadOutcome (whole 2 5) (91 ∷ 49 ∷ 44 ∷ 48 ∷ 93 ∷ []) (refused (passed layer.Table (found 16 layer.Text 0 0)))
unfolding lyndon ReadOutcome
unlisted = unknown (1 ∷ 0 ∷ []) reads refl none
  where
    bs : List ℕ
    bs = 91 ∷ 49 ∷ 44 ∷ 48 ∷ 93 ∷ []

    reads : BracketOutcome bs (answered (1 ∷ 0 ∷ []))
    reads = read (1 ∷ 0 ∷ []) (omega arith) (bracket (letter 1 (omega arith)) (letter 0 (omega arith)))

    none : (i : ℕ) → i < length (listing 2 5) → bs ≢ entry_text 2 (listing 2 5) i
    none i here e =
        let first = firsts in
        let word = entry_word 2 5 (lit≤ tt) (lit≤ tt) (lit≤ tt) (listing 2 5) first bs (1 ∷ 0 ∷ []) i here e reads in
        let shape = of_shape 2 5 (lit≤ tt) (lit≤ tt) (lit≤ tt) (listing 2 5) first i here in
        false≢true (sym (ap lyndon word) ∙ says_lyndon _ shape.lyndon)
