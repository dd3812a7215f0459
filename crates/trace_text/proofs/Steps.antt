-- What a mark does to a reader of traces that stands behind it.
use Rattle.std.proofs.Common.{◌≡◌, ℕ, ◌+◌, ◌<◌, ◌≤◌, ◌⊎◌, false, List, [], ◌∷◌, length, drop, Some, Ok, Err, sym, ◌∙◌, inl, inr, arith, Bor}
use Rattle.letter_order.specs.declared.moves.Move.{Move}
use Rattle.letter_order.specs.declared.moves.Sense.{Sense}
use Rattle.text.specs.Reading.{Halts, Leads}
use Rattle.text.specs.Digits.{AllDigits}
use Rattle.text.specs.declared.fault.TextFault.{TextFault}
use Rattle.text.specs.declared.fault.TextFault.TheVariants.{Malformed}
use Rattle.trace_text.specs.States.{Rest, AxisRead, text_of, place_of}
use Rattle.trace_text.specs.Tokens.{Marked, Stands}
use Rattle.trace_text.specs.Traces.{sign}
use Rattle.trace_text.specs.declared.reader.Reader.{Reader}
use Rattle.trace_text.specs.declared.reader.State.{State}
use Rattle.trace_text.specs.declared.reader.State.TheVariants.{Start, Next, Axis, Ended}
use Rattle.trace_text.specs.declared.token.Mark.{Mark}
use Rattle.trace_text.specs.declared.token.Token.{Token}
use Rattle.trace_text.specs.declared.token.Token.TheVariants.{Sign, Digits, Space}
use Rattle.text.proofs.Reading.{part, part_rest}
use Rattle.trace_text.proofs.Tracing.{along, taken, start_leads, next_leads, axis_leads, space_leads, axis_halts, token_halts}

module _ (r : Reader) (mark : Mark) (marked : Marked (text_of r) mark.place (place_of r) (Some mark)) where
  -- the mark leads to a state, with moves that are read
  abbrev pub Takes : State → List Move → Type 0
  Takes z w = Leads Rest (text_of r) mark.place r.state w (place_of r) z

  abbrev bytes : List ℕ
  bytes = part (text_of r) mark.place (place_of r)

  stands : (t : Token) → mark.token ≡ t → Stands t bytes (drop (place_of r) (text_of r))
  stands t is = rw is at marked.3

  pub sign_taken : (w : Bor (List ℕ)) (f : Sense) → (r.state ≡ Start) ⊎ (r.state ≡ Next) → mark.token ≡ Sign w → w.now ≡ sign f ∷ [] → Takes (Axis f) []
  sign_taken w f state token is =
      let one : bytes ≡ sign f ∷ [] = sym (stands (Sign w) token).0 ∙ is in
      elim state [
        | inl e ↦ rw e (start_leads (text_of r) mark.place (place_of r) marked.1 marked.2 f one)
        | inr e ↦ rw e (next_leads (text_of r) mark.place (place_of r) marked.1 marked.2 f one)
      ]

  pub space_taken : r.state ≡ Ended → mark.token ≡ Space → Takes Next []
  space_taken state token =
      rw state (space_leads (text_of r) mark.place (place_of r) marked.1 marked.2 (stands Space token))

  module _ (w : Bor (List ℕ)) (token : mark.token ≡ Digits w) where
    run : Stands (Digits w) bytes (drop (place_of r) (text_of r))
    run = stands (Digits w) token

    pub digits_awaited : (0 < length w.now) × AllDigits w.now × (mark.place + length w.now ≤ length (text_of r))
    digits_awaited =
        let cut = part_rest (text_of r) mark.place (place_of r) marked.1 marked.2 in
        let size = marked.2 in
        rw run.0 (run.1, run.2, omega arith)

    pub axis_taken : (f : Sense) (a : ℕ) → r.state ≡ Axis f → AxisRead w.now mark.place (Ok a) → Takes Ended (along f a ∷ [])
    axis_taken f a state axis =
        rw state (axis_leads (text_of r) mark.place (place_of r) marked.1 marked.2 f a axis.0 (sym run.0 ∙ axis.1) run.3)

    pub axis_refused : (f : Sense) (e : TextFault) → r.state ≡ Axis f → AxisRead w.now mark.place (Err e) → (p : ℕ) × (e ≡ Malformed p) × Halts Rest (text_of r) mark.place r.state p
    axis_refused f e state axis =
        let here : AxisRead bytes mark.place (Err e) = rw run.0 at axis in (
          mark.place + here.0,
          here.1,
          rw state (axis_halts (text_of r) mark.place (place_of r) marked.1 marked.2 f here.0 run.2 here.2 here.3 here.4),
        )

  pub untaken : taken r.state mark.token ≡ false → Halts Rest (text_of r) mark.place r.state mark.place
  untaken off =
      token_halts (text_of r) mark.place (place_of r) marked.1 marked.2 r.state mark.token marked.3 off
