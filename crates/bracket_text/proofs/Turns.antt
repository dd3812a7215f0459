-- A reader of bracket texts, byte by byte.
use Rattle.std.proofs.Common.{◌≡◌, ℕ, ◌+◌, ◌-◌, ◌<◌, ◌≤◌, List, [], ◌∷◌, ◌++◌, length, get_or, take, drop, Some, None, Ok, Err, Option, refl, ap, inl, inr, add-zero, arith}
use native.Mathlib.Nat.{sub-zero}
use Rattle.std.proofs.lemmas.List.{append-nil, drop_all, drop_more}
use Rattle.lent_list.specs.Lent.{places, items}
use Rattle.text.specs.Reading.{Viable, Stops, Halts, Leads}
use Rattle.text.specs.declared.fault.TextFault.{TextFault}
use Rattle.text.specs.declared.fault.TextFault.TheVariants.{Malformed}
use Rattle.text.proofs.Reading.{Any, begins_any, part, leads_over, leads_stay, leads_then, halts_in, halts_end}
use Rattle.faults.specs.Faults.{found}
use Rattle.faults.specs.Outcome.Outcome.{answered, refused}
use Rattle.faults.specs.declared.Layer.TheVariants.{Text}
use Rattle.text.specs.Faults.{text_fault}
use Rattle.bracket_text.specs.Brackets.{IsText, BracketOutcome}
use Rattle.bracket_text.specs.Brackets.BracketOutcome.{long, malformed, read}
use Rattle.bracket_text.specs.States.{Fits, awaited, whole, taken, Stepped, HasRead}
use Rattle.bracket_text.specs.Tokens.{Stands}
use Rattle.bracket_text.specs.Words.{letters_in}
use Rattle.bracket_text.specs.declared.reader.Part.{Part}
use Rattle.bracket_text.specs.declared.reader.Reader.{Reader}
use Rattle.bracket_text.specs.declared.token.Token.{Token}
use Rattle.bracket_text.proofs.Parts.{Next, Stuck, Follows, fill, follows, not_empty}
use Rattle.bracket_text.proofs.Outcomes.{alone, alone_back}

-- to stop as one text alone is to stop
stops_alone : (bs : List ℕ) (p : ℕ) → Stops (Fits whole) bs p → Stops IsText bs p
stops_alone bs p s =
    let front : (cs : List ℕ) → Viable (Fits whole) cs → Viable IsText cs = λ cs v. (v.0, v.1, alone_back (cs ++ v.0) v.1 v.2) in
    let back : (cs : List ℕ) → Viable IsText cs → Viable (Fits whole) cs = λ cs v. (v.0, v.1, alone (cs ++ v.0) v.1 v.2) in
    record {
      within = s.within;
      viable = front (take p bs) s.viable;
      stuck = elim s.stuck [
        | inl e ↦ inl (e.0, λ w f. e.1 w (alone bs w f))
        | inr e ↦ inr (e.0, λ v. e.1 (back (take (p + 1) bs) v))
      ];
    }

module _ (bs : List ℕ) where
  one_part : (i : ℕ) → i < length bs → part bs i (i + 1) ≡ get_or bs i 0 ∷ []
  one_part i h =
      let n : i + 1 - i ≡ 1 = omega arith in
      rw (n, drop_more bs i 0 h) refl

  leads_at : (i : ℕ) → i < length bs → (ps qs : List Part) (w : List ℕ) → Next ps (get_or bs i 0) w qs → Leads Fits bs i ps w (i + 1) qs
  leads_at i h ps qs w n =
      leads_over Fits Any ps qs (get_or bs i 0 ∷ []) w n.0 (λ t x b f. n.1 t x f) bs i (i + 1) (omega arith) (omega arith) (one_part i h) (begins_any (drop (i + 1) bs))

  halts_at : (i : ℕ) → i < length bs → (ps : List Part) → Stuck ps (get_or bs i 0) → Halts Fits bs i ps i
  halts_at i h ps stuck =
      let one = one_part i h in
      let some : 0 < length (part bs i (i + 1)) = rw one (omega arith) in
      let front : take 1 (part bs i (i + 1)) ≡ get_or bs i 0 ∷ [] = ap (take 1) one in
      let none : Viable (Fits ps) (take 1 (part bs i (i + 1))) → ⊥ = rw front (λ v. stuck v.0 v.1 v.2) in
      rw add-zero at (halts_in Fits bs i (i + 1) 0 ps (omega arith) (omega arith) some (fill ps) none)

  -- a reader of nothing yet
  pub starts : (r : Reader) → awaited r ≡ whole → letters_in r.word ≡ [] → length (items r.awaited) ≡ 1 → length (places r.awaited) ≡ 136 → r.word.count ≡ 0 → HasRead bs 0 r
  starts r a w n m c =
      record { leads = rw (a, w) (leads_stay Fits bs 0 whole); room = omega arith; few = omega arith }

  module _ (i : ℕ) (old : Reader) (h : HasRead bs i old) where
    to_end : (p : ℕ) → Halts Fits bs i (awaited old) p → Stops IsText bs p
    to_end p there = stops_alone bs p (rw sub-zero at (h.leads.halts p there).1)

    -- behind the last byte
    pub ends : length bs ≤ 45 → length bs ≤ i → awaited old ≡ [] → BracketOutcome bs (answered (letters_in old.word))
    ends few end done =
        let rest : Fits (awaited old) (drop i bs) [] = rw (done, drop_all i bs end) (refl, refl) in
        read (letters_in old.word) few (alone_back bs (letters_in old.word) (rw append-nil at (h.leads.reads [] rest)))

    pub ends_early : length bs ≤ 45 → length bs ≤ i → i ≤ length bs → (awaited old ≡ [] → ⊥) → BracketOutcome bs (refused (found 15 Text (length bs) 0))
    ends_early few end last none =
        let e : i ≡ length bs = omega arith in
        malformed (length bs) few (rw (← e) (to_end i (halts_end Fits bs i (awaited old) end (fill (awaited old)) (short (awaited old) none))))
      where
        short : (ps : List Part) → (ps ≡ [] → ⊥) → (x : List ℕ) → Fits ps [] x → ⊥
        short [] n x f = n refl
        short (q ∷ ps) n x f = not_empty q ps x f

    -- at a byte
    module _ (few : length bs ≤ 45) (here : i < length bs) (c : ℕ) (is : c ≡ get_or bs i 0) (t : Token) (stands : Stands c t) (new : Reader) where
      does : Follows (awaited old) (get_or bs i 0) (taken (awaited old) t)
      does = rw (← is) (follows (awaited old) t c stands)

      pub halts : (f : TextFault) → Stepped (taken (awaited old) t) i old new (Err f) → BracketOutcome bs (refused (text_fault f))
      halts f step = go (taken (awaited old) t) does step
        where
          go : (next : Option (List Part × List ℕ)) → Follows (awaited old) (get_or bs i 0) next → Stepped next i old new (Err f) → BracketOutcome bs (refused (text_fault f))
          go None stuck e =
              let at : f ≡ Malformed i = cc in
              rw at (malformed i few (to_end i (halts_at i here (awaited old) stuck)))
          go (Some next) n e = let is = e.0 in absurd (cc)

      pub turns : Stepped (taken (awaited old) t) i old new (Ok tt) → Leads Fits bs 0 whole (letters_in new.word) (i + 1) (awaited new)
      turns step = go (taken (awaited old) t) does step
        where
          go : (next : Option (List Part × List ℕ)) → Follows (awaited old) (get_or bs i 0) next → Stepped next i old new (Ok tt) → Leads Fits bs 0 whole (letters_in new.word) (i + 1) (awaited new)
          go None stuck e = absurd (cc)
          go (Some next) n e = rw (e.1, e.2) (leads_then Fits bs h.leads (leads_at i here (awaited old) next.0 next.1 n))

pub ruleset reads = (long, starts, ends, ends_early, halts, turns)
