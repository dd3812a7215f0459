-- A reader of traces, on its way to the end of the next move.
use Rattle.std.proofs.Common.{◌≡◌, ℕ, ◌≤◌, ◌⊎◌, List, [], ◌∷◌, ◌++◌, length, drop, Some, None, Ok, Err, Option, Result, sym, refl, ap, ◌∙◌, arith}
use native.Mathlib.Nat.{sub-zero}
use Rattle.std.proofs.lemmas.List.{append-nil, drop_all, length-append}
use Rattle.letter_order.specs.declared.moves.Move.{Move}
use Rattle.letter_order.specs.declared.moves.Sense.{Sense}
use Rattle.text.specs.Reading.{Stops, Halts, Leads}
use Rattle.trace_text.specs.States.{Rest, HasRead, Onward, Stepped, GivesMove, early, text_of, place_of}
use Rattle.trace_text.specs.Tokens.{Marked}
use Rattle.trace_text.specs.Traces.{IsTrace}
use Rattle.text.specs.declared.fault.TextFault.{TextFault}
use Rattle.text.specs.declared.fault.TextFault.TheVariants.{Malformed}
use Rattle.trace_text.specs.declared.reader.Reader.{Reader}
use Rattle.trace_text.specs.declared.reader.State.{State}
use Rattle.std.specs.Result.{result_transpose}
use Rattle.trace_text.specs.declared.reader.State.TheVariants.{Start, Next, Axis, Ended}
use Rattle.trace_text.specs.declared.token.Mark.{Mark}
use Rattle.trace_text.specs.declared.token.Marks.{Marks}
use Rattle.text.proofs.Reading.{leads_stay, leads_then, halts_end}
use Rattle.trace_text.proofs.Tracing.{ends_here, goes_on, short_here}

pub early_one : (s : State) → early s ≤ 1
early_one Start = omega arith
early_one Next = omega arith
early_one (Axis f) = omega arith
early_one Ended = omega arith

-- the marks behind the next one, and the reader that has taken it
module _ (old at : Reader) (h : Onward old [] at) (marks : Marks) (same : marks.text.now ≡ text_of at) where
  abbrev mid : Reader
  mid = record { marks = marks; state = at.state }

  module _ (new : Reader) (mark : Mark) (marked : Marked (text_of at) (place_of at) marks.place (Some mark)) (kept : new.marks ≡ marks) where
    pub onward_next : (w : List Move) → Leads Rest (text_of mid) mark.place at.state w (place_of mid) new.state → Onward old w new
    onward_next w step =
        let to : marks.text.now ≡ text_of old = same ∙ h.text in
        let text : text_of new ≡ text_of old = ap (λ m. m.text.now) kept ∙ to in
        let place : marks.place ≡ place_of new = ap (λ m. m.place) (sym kept) in
        let leads : Leads Rest (text_of old) (place_of at) at.state w (place_of new) new.state = rw (to, marked.0, place) at step in
        record { text = text; leads = leads_then Rest (text_of old) h.leads leads }

    pub halts_next : (f : TextFault) → (p : ℕ) × (f ≡ Malformed p) × Halts Rest (text_of mid) mark.place at.state p → GivesMove old (Some (Err f)) new
    halts_next f step =
        let to : marks.text.now ≡ text_of old = same ∙ h.text in
        let halts : Halts Rest (text_of old) (place_of at) at.state step.0 = rw (to, marked.0) at step.2 in
        (step.0, step.1, h.leads.halts step.0 halts)

    -- the mark ends a move or the reading, and otherwise the reader goes on
    pub gives_next : (r : Result (Option Move) TextFault) (ended : Result Move TextFault) → result_transpose r ≡ Some ended → Stepped mark.place mid new r → GivesMove old (Some ended) new
    gives_next (Ok None) ended e step = absurd (cc)
    gives_next (Ok (Some m)) ended e step =
        let is : Ok m ≡ ended = cc in
        rw (← is) (onward_next (m ∷ []) step.0)
    gives_next (Err f) ended e step =
        let is : Err f ≡ ended = cc in
        rw (← is) (halts_next f (step.0, step.1, step.2))

    pub stays_next : (r : Result (Option Move) TextFault) → result_transpose r ≡ None → Stepped mark.place mid new r → Onward old [] new
    stays_next (Ok None) e step = onward_next [] step
    stays_next (Ok (Some m)) e step = absurd (cc)
    stays_next (Err f) e step = absurd (cc)

  -- the end of the text
  module _ (ended : Marked (text_of at) (place_of at) marks.place None) where
    rest : drop (place_of at) (text_of old) ≡ []
    rest = drop_all (place_of at) (text_of old) (simp h.text at ended.0)

    pub ends : (at.state ≡ Start) ⊎ (at.state ≡ Ended) → (new : Reader) → GivesMove old None new
    ends state new ms =
        let here = ends_here at.state state in (
          λ f.
              let v = h.leads.only ms f in
              v.1 ∙ (here v.0).0 (rw rest at v.2),
          λ e. rw e (h.leads.reads [] (rw rest ((here []).1 refl))),
        )

    pub ends_early : (at.state ≡ Next) ⊎ ((f : Sense) × (at.state ≡ Axis f)) → (new : Reader) → GivesMove old (Some (Err (Malformed marks.place))) new
    ends_early state new =
        let end : length (text_of old) ≤ place_of at = simp h.text at ended.0 in
        let halts = halts_end Rest (text_of old) (place_of at) at.state end (goes_on at.state) (short_here at.state state) in
        (place_of at, ap Malformed ended.1, h.leads.halts (place_of at) halts)

-- a reader of the text bs, from its start on
pub starts : (bs : List ℕ) (r : Reader) → text_of r ≡ bs → place_of r ≡ 0 → r.state ≡ Start → HasRead bs [] r
starts bs r text place state = record { text = text; leads = rw (place, state) (leads_stay Rest bs 0 Start) }

module _ (bs : List ℕ) (w : List Move) (r new : Reader) (h : HasRead bs w r) where
  pub reads_on : (m : Move) → GivesMove r (Some (Ok m)) new → HasRead bs (w ++ m ∷ []) new
  reads_on m more =
      record { text = more.text ∙ h.text; leads = leads_then Rest bs h.leads (simp h.text at more.leads) }

  -- no more moves than the text has
  pub front : (ms : List Move) → IsTrace bs ms → length w ≤ length ms
  front ms f =
      let v = h.leads.only ms f in
      rw (v.1, length-append) (omega arith)

  pub whole : GivesMove r None new → IsTrace bs w
  whole none =
      let end : Rest r.state (drop (place_of r) bs) [] = simp h.text at ((none []).1 refl) in
      rw append-nil at (h.leads.reads [] end)

  pub halts : (f : TextFault) → GivesMove r (Some (Err f)) new → (p : ℕ) × (f ≡ Malformed p) × Stops IsTrace bs p
  halts f stop =
      let there : Halts Rest bs (place_of r) r.state stop.0 = simp h.text at stop.2 in
      (stop.0, stop.1, rw sub-zero at (h.leads.halts stop.0 there).1)
