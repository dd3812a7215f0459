-- What the reader of traces can read in each state.
use Rattle.std.proofs.Common.{◌≡◌, ℕ, ◌+◌, ◌<◌, ◌≤◌, Bool, true, false, ◌⊎◌, ◌↔◌, List, [], ◌∷◌, ◌++◌, length, take, drop, decimal, sym, refl, ap, ◌∙◌, inl, inr, add-zero, arith, lit<}
use Rattle.std.proofs.lemmas.Fmt.{decimal_digit, decimal_nonempty, decimal_injective}
use Rattle.std.proofs.lemmas.List.{append-nil, length-append}
use Rattle.std.proofs.lemmas.Bool.{true≢false}
use Rattle.letter_order.specs.declared.moves.Move.{Move}
use Rattle.letter_order.specs.declared.moves.Sense.{Sense}
use Rattle.letter_order.specs.declared.moves.Sense.TheVariants.{Reverse, Forward}
use Rattle.text.specs.Reading.{Viable, Begins, Halts, Leads}
use Rattle.trace_text.specs.States.{Rest, AxisFront}
use Rattle.text.specs.Digits.{Digit, NotDigit, AllDigits}
use Rattle.trace_text.specs.Tokens.{Stands}
use Rattle.trace_text.specs.Traces.{sign, further, trace, AxesFit, IsTrace}
use Rattle.trace_text.specs.declared.reader.State.{State}
use Rattle.trace_text.specs.declared.reader.State.TheVariants.{Start, Next, Axis, Ended}
use Rattle.trace_text.specs.declared.token.Token.{Token}
use Rattle.trace_text.specs.declared.token.Token.TheVariants.{Sign, Digits, Space, Other}
use Rattle.trace_text.proofs.Axes.{decimal_digits}
use Rattle.text.proofs.Reading.{Any, begins_any, part, leads_over, halts_in}
use Rattle.std.proofs.lemmas.List.Elements.{All-head, All-take}
use Rattle.trace_text.proofs.Runs.{run_front, same_run}

abbrev pub along : Sense → ℕ → Move
along sense axis = record { axis = axis; sense = sense }

-- signs
pub sign_same : (f g : Sense) → sign f ≡ sign g → f ≡ g
sign_same Forward Forward e = refl
sign_same Forward Reverse e = absurd (omega arith)
sign_same Reverse Forward e = absurd (omega arith)
sign_same Reverse Reverse e = refl

sign_told : (f : Sense) → (sign f ≡ 43) ⊎ (sign f ≡ 45)
sign_told Forward = inl refl
sign_told Reverse = inr refl

-- first bytes
pub further_stops : (ms : List Move) → Begins NotDigit (further ms)
further_stops [] = tt
further_stops (m ∷ ms) = λ d. omega arith

further_first : (c : ℕ) (t : List ℕ) (ms : List Move) → c ∷ t ≡ further ms → c ≡ 32
further_first c t [] e = absurd (cc)
further_first c t (m ∷ ms) e = cc

trace_first : (c : ℕ) (t : List ℕ) (ms : List Move) → c ∷ t ≡ trace ms → (c ≡ 43) ⊎ (c ≡ 45)
trace_first c t [] e = absurd (cc)
trace_first c t (m ∷ ms) e = let is : c ≡ sign m.sense = cc in rw is (sign_told m.sense)

first_digit : (c : ℕ) (t digits behind : List ℕ) → 0 < length digits → AllDigits digits → c ∷ t ≡ digits ++ behind → Digit c
first_digit c t [] behind some run e = absurd (omega arith)
first_digit c t (d ∷ digits) behind some run e = let is : c ≡ d = cc in rw is (All-head Digit d digits run)

-- behind a sign: an axis, and further moves
axis_then : (f : Sense) (bs : List ℕ) (ms : List Move) → Rest (Axis f) bs ms → (a : ℕ) × (v : List Move) × (ms ≡ along f a ∷ v) × (a < 256) × AxesFit v × (bs ≡ decimal a ++ further v)
axis_then f bs [] r = let e = r.0 in absurd (cc)
axis_then f bs (m ∷ ms) r =
    let e = r.0 in
    let s : sign f ≡ sign m.sense = cc in
    let rest : bs ≡ decimal m.axis ++ further ms = cc in
    (m.axis, ms, ap (λ g. along g m.axis ∷ ms) (sym (sign_same f m.sense s)), r.1.0, r.1.1, rest)

-- something can always be read on
pub goes_on : (s : State) → Viable (Rest s) []
goes_on Start = ([], [], (refl, tt))
goes_on Next = (43 ∷ 48 ∷ [], along Forward 0 ∷ [], ((ap (λ l. 43 ∷ l ++ []) (sym (decimal_digit 0 (lit< tt))), (lit< tt, tt)), lit< tt))
goes_on (Axis f) = (48 ∷ [], along f 0 ∷ [], (ap (λ l. sign f ∷ l ++ []) (sym (decimal_digit 0 (lit< tt))), (lit< tt, tt)))
goes_on Ended = ([], [], (refl, tt))

-- where a text may end, and where it may not
trace_ends : (ms : List Move) → IsTrace [] ms ↔ (ms ≡ [])
trace_ends [] = (λ r. refl, λ e. (refl, tt))
trace_ends (m ∷ ms) = (
  λ r. let e = r.0 in absurd (cc),
  λ e. absurd (cc),
)

ended_ends : (ms : List Move) → Rest Ended [] ms ↔ (ms ≡ [])
ended_ends [] = (λ r. refl, λ e. (refl, tt))
ended_ends (m ∷ ms) = (
  λ r. let e = r.0 in absurd (cc),
  λ e. absurd (cc),
)

pub ends_here : (s : State) → (s ≡ Start) ⊎ (s ≡ Ended) → (ms : List Move) → Rest s [] ms ↔ (ms ≡ [])
ends_here s state ms = elim state [ inl e ↦ rw e (trace_ends ms) | inr e ↦ rw e (ended_ends ms) ]

next_short : (ms : List Move) → Rest Next [] ms → ⊥
next_short ms r = let e = (trace_ends ms).0 r.0 in omega (arith, ap length e, r.1)

axis_short : (f : Sense) (ms : List Move) → Rest (Axis f) [] ms → ⊥
axis_short f ms r =
    let a = axis_then f [] ms r in
    omega (arith, decimal_nonempty a.0 (omega (arith, a.3)), simp length-append at (ap length a.5))

pub short_here : (s : State) → (s ≡ Next) ⊎ ((f : Sense) × (s ≡ Axis f)) → (ms : List Move) → Rest s [] ms → ⊥
short_here s state = elim state [ inl e ↦ rw e next_short | inr e ↦ rw e.1 (axis_short e.0) ]

-- which token a state takes
abbrev pub taken : State → Token → Bool
taken Start (Sign part) = true
taken Next (Sign part) = true
taken (Axis f) (Digits part) = true
taken Ended Space = true
taken _ _ = false

-- what a token begins with
abbrev First : Token → ℕ → Type 0
First (Sign part) c = (c ≡ 43) ⊎ (c ≡ 45)
First (Digits part) c = Digit c
First Space c = c ≡ 32
First Other c = (c ≡ 43 → ⊥) × (c ≡ 45 → ⊥) × (c ≡ 32 → ⊥) × NotDigit c

run_first : (bytes : List ℕ) → 0 < length bytes → AllDigits bytes → (c : ℕ) × (more : List ℕ) × (bytes ≡ c ∷ more) × Digit c
run_first [] some run = absurd (omega arith)
run_first (c ∷ more) some run = (c, more, refl, All-head Digit c more run)

first_of : (t : Token) (bytes behind : List ℕ) → Stands t bytes behind → (c : ℕ) × (more : List ℕ) × (bytes ≡ c ∷ more) × First t c
first_of (Sign part) bytes behind h = elim h.1 [ inl e ↦ (43, [], e, inl refl) | inr e ↦ (45, [], e, inr refl) ]
first_of (Digits part) bytes behind h = run_first bytes h.1 h.2
first_of Space bytes behind h = (32, [], h, refl)
first_of Other bytes behind h = (h.0, [], h.1, (h.2, h.3, h.4, h.5))

axis_first : (f : Sense) (c : ℕ) (t : List ℕ) (x : List Move) → Rest (Axis f) (c ∷ t) x → Digit c
axis_first f c t x r =
    let a = axis_then f (c ∷ t) x r in
    first_digit c t (decimal a.0) (further a.1) (decimal_nonempty a.0 (omega (arith, a.3))) (decimal_digits a.0 a.3) a.5

-- a token that a state does not take: nothing goes on with its first byte
stuck : (s : State) (t : Token) (c : ℕ) → First t c → taken s t ≡ false → (bs : List ℕ) (x : List Move) → Rest s (c ∷ bs) x → ⊥
stuck Start (Sign part) c h off bs x r = absurd (true≢false off)
stuck Start (Digits part) c h off bs x r = omega (arith, trace_first c bs x r.0)
stuck Start Space c h off bs x r = omega (arith, trace_first c bs x r.0)
stuck Start Other c h off bs x r = elim (trace_first c bs x r.0) [ inl e ↦ h.0 e | inr e ↦ h.1 e ]
stuck Next (Sign part) c h off bs x r = absurd (true≢false off)
stuck Next (Digits part) c h off bs x r = omega (arith, trace_first c bs x r.0.0)
stuck Next Space c h off bs x r = omega (arith, trace_first c bs x r.0.0)
stuck Next Other c h off bs x r = elim (trace_first c bs x r.0.0) [ inl e ↦ h.0 e | inr e ↦ h.1 e ]
stuck (Axis f) (Sign part) c h off bs x r = omega (arith, axis_first f c bs x r)
stuck (Axis f) (Digits part) c h off bs x r = absurd (true≢false off)
stuck (Axis f) Space c h off bs x r = omega (arith, axis_first f c bs x r)
stuck (Axis f) Other c h off bs x r = h.3 (axis_first f c bs x r)
stuck Ended (Sign part) c h off bs x r = omega (arith, further_first c bs x r.0)
stuck Ended (Digits part) c h off bs x r = omega (arith, further_first c bs x r.0)
stuck Ended Space c h off bs x r = absurd (true≢false off)
stuck Ended Other c h off bs x r = h.2 (further_first c bs x r.0)

trace_some : (c : ℕ) (t : List ℕ) (ms : List Move) → c ∷ t ≡ trace ms → 0 < length ms
trace_some c t [] e = absurd (cc)
trace_some c t (m ∷ ms) e = omega arith

-- a space is followed by a trace
space_on : (t : List ℕ) (ms : List Move) → Rest Next t ms → Rest Ended (32 ∷ t) ms
space_on t [] r = absurd (omega (arith, r.1))
space_on t (m ∷ ms) r = (ap (λ l. 32 ∷ l) r.0.0, r.0.1)

space_back : (t : List ℕ) (ms : List Move) → Rest Ended (32 ∷ t) ms → Rest Next t ms
space_back t [] r = let e = r.0 in absurd (cc)
space_back t (m ∷ ms) r = let e = r.0 in let f : t ≡ trace (m ∷ ms) = cc in ((f, r.1), omega arith)

-- a whole run of digits is the axis
axis_back : (f : Sense) (a : ℕ) → a < 256 → (t : List ℕ) (x : List Move) → Begins NotDigit t → Rest (Axis f) (decimal a ++ t) x → (v : List Move) × (x ≡ along f a ∷ v) × Rest Ended t v
axis_back f a h t x stop r =
    let b = axis_then f (decimal a ++ t) x r in
    let e = same_run (decimal a) t (decimal b.0) (further b.1) b.5 (decimal_digits a h) (decimal_digits b.0 b.3) stop (further_stops b.1) in
    let same : b.0 ≡ a = decimal_injective b.0 a (omega (arith, b.3)) (omega arith) (sym e.0) in
    (b.1, b.2 ∙ ap (λ n. along f n ∷ b.1) same, (e.1, b.4))

-- digits that begin an axis can be read behind a sign, and no others
axis_viable : (f : Sense) (front : List ℕ) → AxisFront front → Viable (Rest (Axis f)) front
axis_viable f front h =
    (h.1, along f h.0 ∷ [], (ap (λ l. sign f ∷ l) (sym h.3 ∙ sym (append-nil (decimal h.0))), (h.2, tt)))

viable_axis : (f : Sense) (front : List ℕ) → AllDigits front → Viable (Rest (Axis f)) front → AxisFront front
viable_axis f front run h =
    let b = axis_then f (front ++ h.0) h.1 h.2 in
    let e = run_front (decimal b.0) (further b.1) front h.0 (sym b.5) run (further_stops b.1) in
    (b.0, e.0, b.3, e.1)

-- A mark of the text bs stands from the place i up to j.
module _ (bs : List ℕ) (i j : ℕ) (less : i < j) (within : j ≤ length bs) where
  pub start_leads : (f : Sense) → part bs i j ≡ sign f ∷ [] → Leads Rest bs i Start [] j (Axis f)
  start_leads f is =
      leads_over Rest Any Start (Axis f) (sign f ∷ []) [] (λ t v r. r) (λ t x b r. (x, refl, r)) bs i j less within is (begins_any (drop j bs))

  pub next_leads : (f : Sense) → part bs i j ≡ sign f ∷ [] → Leads Rest bs i Next [] j (Axis f)
  next_leads f is =
      leads_over Rest Any Next (Axis f) (sign f ∷ []) [] (λ t v r. (r, trace_some (sign f) t v r.0)) (λ t x b r. (x, refl, r.0)) bs i j less within is (begins_any (drop j bs))

  pub axis_leads : (f : Sense) (a : ℕ) → a < 256 → part bs i j ≡ decimal a → Begins NotDigit (drop j bs) → Leads Rest bs i (Axis f) (along f a ∷ []) j Ended
  axis_leads f a h is stop =
      leads_over Rest NotDigit (Axis f) Ended (decimal a) (along f a ∷ []) (λ t v r. (ap (λ l. sign f ∷ (decimal a ++ l)) r.0, (h, r.1))) (axis_back f a h) bs i j less within is stop

  pub space_leads : part bs i j ≡ 32 ∷ [] → Leads Rest bs i Ended [] j Next
  space_leads is =
      leads_over Rest Any Ended Next (32 ∷ []) [] space_on (λ t x b r. (x, refl, space_back t x r)) bs i j less within is (begins_any (drop j bs))

  pub axis_halts : (f : Sense) (k : ℕ) → AllDigits (part bs i j) → k < length (part bs i j) → AxisFront (take k (part bs i j)) → (AxisFront (take (k + 1) (part bs i j)) → ⊥) → Halts Rest bs i (Axis f) (i + k)
  axis_halts f k run h front none =
      halts_in Rest bs i j k (Axis f) less within h (axis_viable f (take k (part bs i j)) front) (λ v. none (viable_axis f (take (k + 1) (part bs i j)) (All-take Digit (k + 1) (part bs i j) run) v))

  pub token_halts : (s : State) (t : Token) → Stands t (part bs i j) (drop j bs) → taken s t ≡ false → Halts Rest bs i s i
  token_halts s t h off =
      let first = first_of t (part bs i j) (drop j bs) h in
      let c = first.0 in
      let some : 0 < length (part bs i j) = rw first.2 (omega arith) in
      let one : take 1 (part bs i j) ≡ c ∷ [] = ap (take 1) first.2 in
      let none : Viable (Rest s) (take 1 (part bs i j)) → ⊥ = rw one (λ v. stuck s t c first.3 off v.0 v.1 v.2) in
      rw add-zero at (halts_in Rest bs i j 0 s less within some (goes_on s) none)
