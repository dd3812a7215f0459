-- A line is read part by part.
use Rattle.std.proofs.Common.{◌≡◌, ℕ, ◌<◌, List, [], ◌∷◌, ◌++◌, length, None, Ok, Err, Result, sym, ◌∙◌, inl, inr, arith}
use native.Mathlib.Nat.{sub-zero}
use Rattle.std.specs.Result.{IsErrAnd}
use Rattle.std.proofs.lemmas.List.{append-nil}
use Rattle.std.proofs.lemmas.Result.{err_from_is_err_and}
use Rattle.faults.specs.Faults.{found}
use Rattle.faults.specs.Outcome.{Outcome, told}
use Rattle.faults.specs.Outcome.Outcome.{refused}
use Rattle.faults.specs.declared.Layer.TheVariants.{Text}
use Rattle.text.specs.Faults.{text_fault}
use Rattle.text.specs.Reading.{Stops, Halts, Leads}
use Rattle.text.specs.declared.fault.TextFault.{TextFault}
use Rattle.text.specs.declared.fault.TextFault.TheVariants.{Malformed}
use Rattle.text.proofs.Reading.{part_rest, leads_stay, leads_then}
use Rattle.input_text.specs.Parts.{DigitAt, NumberAt, SpaceAt, WordAt, EndAt}
use Rattle.input_text.specs.Symbols.{letters_of}
use Rattle.input_text.specs.declared.part.LineReader.{LineReader}
use Rattle.input_text.specs.declared.symbols.Symbols.{Symbols}
use Rattle.input_text.proofs.Spelled.{letters_back, letters_word}
use Rattle.input_text.proofs.Parts.{Part, Rest, Apart, number_read, number_refused, space_read, space_refused, word_read, word_refused, end_read, end_refused}
use Rattle.input_text.proofs.Parts.Part.{number, space, word}

-- A reader of the line bs, whose parts are `all`, has read what means ws, and the parts ps are awaited.
pub record Awaits (all : List Part) (bs : List ℕ) (ws : List (List ℕ)) (ps : List Part) (r : LineReader) : Type 0 where
  pub line : r.line.now ≡ bs
  pub leads : Leads Rest bs 0 all ws r.place ps

-- The line cannot go on.
abbrev pub Refuses : List Part → List ℕ → TextFault → Type 0
Refuses all bs f = (p : ℕ) × (f ≡ Malformed p) × Halts Rest bs 0 all p

pub starts : (all : List Part) {bs : List ℕ} (r : LineReader) → r.line.now ≡ bs → r.place ≡ 0 → Awaits all bs [] all r
starts all {bs} r line place = record { line = line; leads = rw place (leads_stay Rest bs 0 all) }

module _ {all : List Part} {bs : List ℕ} where
  module _ {ws : List (List ℕ)} {ps : List Part} {r : LineReader} where
    -- a part is read, and the reader is t
    pub reads_number : (t : LineReader) (k : ℕ) → Apart ps → Awaits all bs ws (number ∷ ps) r → t.line.now ≡ r.line.now → NumberAt r.line.now r.place t.place (Ok k) → Awaits all bs (ws ++ (k ∷ []) ∷ []) ps t
    reads_number t k apart at same taken =
        record {
          line = same ∙ at.line;
          leads = leads_then Rest bs at.leads (number_read bs r.place ps k t.place apart (rw at.line at taken));
        }

    pub reads_space : (t : LineReader) → Awaits all bs ws (space ∷ ps) r → t.line.now ≡ r.line.now → SpaceAt r.line.now r.place t.place (Ok tt) → Awaits all bs ws ps t
    reads_space t at same taken =
        let gap : SpaceAt bs r.place t.place (Ok tt) = rw at.line at taken in
        let on : Leads Rest bs 0 all (ws ++ []) t.place ps = rw gap.2 (leads_then Rest bs at.leads (space_read bs r.place ps gap.0 gap.1)) in
        record { line = same ∙ at.line; leads = rw append-nil at on }

    pub reads_word : (t : LineReader) (s : Symbols) → Apart ps → Awaits all bs ws (word ∷ ps) r → t.line.now ≡ r.line.now → WordAt r.line.now r.place t.place (Ok s) → Awaits all bs (ws ++ letters_of s ∷ []) ps t
    reads_word t s apart at same taken =
        let here : WordAt bs r.place t.place (Ok s) = rw at.line at taken in
        let some : 0 < length s.bytes.now = rw (← here.2) (omega (arith, (part_rest bs r.place t.place here.0 here.1).1, here.0)) in
        let is = here.2 ∙ sym (letters_back s.bytes.now s.spelled) in
        record {
          line = same ∙ at.line;
          leads = leads_then Rest bs at.leads (word_read bs r.place ps (letters_of s) t.place apart (letters_word s.bytes.now s.spelled some) here.0 here.1 is here.3);
        }

    refused_at : (f : TextFault) → Awaits all bs ws ps r → f ≡ Malformed r.place → Halts Rest bs r.place ps r.place → Refuses all bs f
    refused_at f at is halts = (r.place, is, at.leads.halts r.place halts)

  module _ {ws : List (List ℕ)} {ps : List Part} {r : LineReader} {f : TextFault} where
    pub no_number : Awaits all bs ws (number ∷ ps) r → DigitAt r.line.now r.place None × (f ≡ Malformed r.place) → Refuses all bs f
    no_number at none = refused_at f at none.1 (number_refused bs r.place ps (rw at.line at none.0))

    pub no_space : (j : ℕ) → Awaits all bs ws (space ∷ ps) r → SpaceAt r.line.now r.place j (Err f) → Refuses all bs f
    no_space j at none = refused_at f at none.1 (space_refused bs r.place ps (rw at.line at none.0))

    pub no_word : (j : ℕ) → Awaits all bs ws (word ∷ ps) r → WordAt r.line.now r.place j (Err f) → Refuses all bs f
    no_word j at none = refused_at f at none.1 (word_refused bs r.place ps (rw at.line at none.0))

  module _ {ws : List (List ℕ)} {r : LineReader} where
    pub no_end : {f : TextFault} → Awaits all bs ws [] r → EndAt r.line.now r.place (Err f) → Refuses all bs f
    no_end {f = f} at more = refused_at f at more.1 (end_refused bs r.place (rw at.line at more.0))

    pub whole : Awaits all bs ws [] r → EndAt r.line.now r.place (Ok tt) → Rest all bs ws
    whole at end =
        let read : Rest all bs (ws ++ []) = at.leads.reads [] (end_read bs r.place (rw at.line at end)) in
        rw append-nil at read

-- The lines of these parts are those that W says.
pub record Spells {B : Type 0} (all : List Part) (W : List ℕ → List B → Type 0) : Type 0 where
  pub into : (bs : List ℕ) (w : List B) → W bs w → (ws : List (List ℕ)) × Rest all bs ws
  pub from : (bs : List ℕ) (ws : List (List ℕ)) → Rest all bs ws → (w : List B) × W bs w

module _ {B : Type 0} {all : List Part} {W : List ℕ → List B → Type 0} (spells : Spells all W) {bs : List ℕ} where
  stops_in : (p : ℕ) → Halts Rest bs 0 all p → Stops W bs p
  stops_in p h =
      let stops : Stops (Rest all) bs p = rw sub-zero at h.1 in
      let front = stops.viable in
      record {
        within = stops.within;
        viable = (let w = spells.from _ _ front.2 in (front.0, w.0, w.1));
        stuck =
            elim stops.stuck [
              | inl e ↦ inl (e.0, λ w s. let r = spells.into bs w s in e.1 r.0 r.1)
              | inr e ↦ inr (e.0, λ v. let r = spells.into _ _ v.2 in e.1 (v.0, r.0, r.1))
            ];
      }

  -- the exit of a `?`
  pub exit : {X Y : Type 0} (O : Outcome Y → Type 0) (seen : X → Y) → ((p : ℕ) → Stops W bs p → O (refused (found 15 Text p 0))) → (r : Result X TextFault) (f : TextFault) → IsErrAnd r (λ e. e ≡ f) → Refuses all bs f → O (told seen text_fault r)
  exit O seen malformed r f is stuck =
      let p = err_from_is_err_and r is in
      rw (p.1, p.2, stuck.1) (malformed stuck.0 (stops_in stuck.0 stuck.2))
