-- A line is read part by part.
use Rattle.std.proofs.Common.{◌≡◌, ℕ, ◌+◌, ◌-◌, ◌/◌, ◌<◌, ◌≤◌, List, [], ◌∷◌, ◌++◌, map, length, get_or, drop, None, Ok, ◌≢◌, decimal, sym, refl, ap, ◌∙◌, inl, inr, arith, lit<}
use Rattle.std.proofs.lemmas.Fmt.{decimal_digit}
use Rattle.std.proofs.lemmas.List.{drop_all, drop_more}
use Rattle.std.proofs.lemmas.List.Elements.{All-nil, All-cons}
use Rattle.std.proofs.lemmas.Bool.{cases_lt, false≢true}
use Rattle.text.specs.Reading.{Viable, Begins, Halts, Leads}
use Rattle.text.proofs.Reading.{Any, begins_any, begins_at, part, leads_over, halts_end}
use Rattle.text.specs.Symbols.{symbol}
use Rattle.input_text.specs.Parts.{DigitAt, NumberAt}
use Rattle.input_text.specs.Symbols.{NoSymbol}
use Rattle.input_text.specs.Words.{IsWord}
use Rattle.text.specs.Digits.{NotDigit}
use Rattle.input_text.proofs.Spelled.{digit_is, word_cut, first_symbol, no_word}
use Rattle.input_text.proofs.Decimals.{two_digits, first_digit, not_empty, Ends, number_cut}

pub data Part : Type 0 where
  number : Part
  space : Part
  word : Part

-- what can be read where these parts are awaited, and what it means: each number alone, and the letters of each word
abbrev pub Rest : List Part → List ℕ → List (List ℕ) → Type 0
Rest [] bs ws = (bs ≡ []) × (ws ≡ [])
Rest (number ∷ ps) bs ws =
    (k : ℕ) × (t : List ℕ) × (v : List (List ℕ)) × (bs ≡ decimal k ++ t) × (k < 100) × (ws ≡ (k ∷ []) ∷ v) × Rest ps t v
Rest (space ∷ ps) bs ws = (t : List ℕ) × (bs ≡ 32 ∷ t) × Rest ps t ws
Rest (word ∷ ps) bs ws =
    (u : List ℕ) × (t : List ℕ) × (v : List (List ℕ)) × (bs ≡ map symbol u ++ t) × IsWord u × (ws ≡ u ∷ v) × Rest ps t v

-- something can always be read on
goes_on : (ps : List Part) → Viable (Rest ps) []
goes_on [] = ([], [], (refl, refl))
goes_on (number ∷ ps) =
    let on = goes_on ps in
    (decimal 0 ++ on.0, (0 ∷ []) ∷ on.1, (0, on.0, on.1, refl, lit< tt, refl, on.2))
goes_on (space ∷ ps) =
    let on = goes_on ps in
    (32 ∷ on.0, on.1, (on.0, refl, on.2))
goes_on (word ∷ ps) =
    let on = goes_on ps in
    (symbol 0 ∷ on.0, (0 ∷ []) ∷ on.1, (0 ∷ [], on.0, on.1, refl, (lit< tt, All-cons (λ x. x < 16) 0 [] (lit< tt) (All-nil (λ x. x < 16))), refl, on.2))

-- these parts begin with no symbol
abbrev pub Apart : List Part → Type 0
Apart ps = (t : List ℕ) (v : List (List ℕ)) → Rest ps t v → Begins NoSymbol t

pub apart_end : Apart []
apart_end t v r = rw r.0 tt

pub apart_space : (ps : List Part) → Apart (space ∷ ps)
apart_space ps t v r = rw r.1 refl

no_digit : (t : List ℕ) → Begins NoSymbol t → Begins NotDigit t
no_digit [] b = tt
no_digit (c ∷ t) b = λ d. absurd (false≢true (sym b ∙ digit_is c d))

-- the first bytes from a place on
part_one : (bs : List ℕ) (i : ℕ) → i < length bs → part bs i (i + 1) ≡ get_or bs i 0 ∷ []
part_one bs i h =
    let n : i + 1 - i ≡ 1 = omega arith in
    rw (n, drop_more bs i 0 h)

part_two : (bs : List ℕ) (i : ℕ) → i + 1 < length bs → part bs i (i + 2) ≡ get_or bs i 0 ∷ get_or bs (i + 1) 0 ∷ []
part_two bs i h =
    let n : i + 2 - i ≡ 2 = omega arith in
    rw (n, drop_more bs i 0 (omega arith), drop_more bs (i + 1) 0 h)

-- A part is read at the place i of the line bs, and the parts ps are awaited behind it.
module _ (bs : List ℕ) (i : ℕ) where
  -- a byte at which nothing can continue
  halts_at : (ps : List Part) → i < length bs → ((t : List ℕ) (v : List (List ℕ)) → Rest ps (get_or bs i 0 ∷ t) v → ⊥) → Halts Rest bs i ps i
  halts_at ps h stuck =
      let n : i - i ≡ 0 = omega arith in (
        omega arith,
        rw (n, drop_more bs i 0 h)
            (record {
              within = omega arith;
              viable = goes_on ps;
              stuck = inr (omega arith, λ v. stuck v.0 v.1 v.2);
            }),
      )

  module _ (ps : List Part) where
    number_leads : (k j : ℕ) → Apart ps → k < 100 → i < j → j ≤ length bs → part bs i j ≡ decimal k → Begins (Ends k) (drop j bs) → Leads Rest bs i (number ∷ ps) ((k ∷ []) ∷ []) j ps
    number_leads k j apart small less within is ends =
        leads_over Rest (Ends k) (number ∷ ps) ps (decimal k) ((k ∷ []) ∷ []) (λ t v r. (k, t, v, refl, small, refl, r)) (λ t x b r. let cut = number_cut k r.0 t r.1 small r.4 r.3 b (no_digit r.1 (apart r.1 r.2 r.6)) in (r.2, r.5 ∙ ap (λ n. (n ∷ []) ∷ r.2) (sym cut.0), rw cut.1 r.6)) bs i j less within is ends

    pub number_read : (k j : ℕ) → Apart ps → NumberAt bs i j (Ok k) → Leads Rest bs i (number ∷ ps) ((k ∷ []) ∷ []) j ps
    number_read k j apart read =
        elim read [
          | inl a ↦
              let digit = a.0.0 in
              let is : part bs i (i + 1) ≡ decimal k = part_one bs i digit.0 ∙ ap (λ c. c ∷ []) digit.2 ∙ sym (decimal_digit k digit.1) in
              let ends : Begins (Ends k) (drop (i + 1) bs) = begins_at (Ends k) bs (i + 1) (λ h d. elim (cases_lt 0 k) [ inl some ↦ absurd (a.0.1 some h d) | inr none ↦ inl (omega arith) ]) in
              rw a.1 (number_leads k (i + 1) apart (omega (arith, digit.1)) (omega arith) (omega (arith, digit.0)) is ends)
          | inr a ↦
              let more = a.0.0 in
              let first = a.0.1 in
              let second = a.0.2 in
              let small : k < 100 = omega (arith, first.1) in
              let is : part bs i (i + 2) ≡ decimal k = part_two bs i second.0 ∙ ap (λ c. c ∷ get_or bs (i + 1) 0 ∷ []) first.2 ∙ ap (λ c. (48 + k / 10) ∷ c ∷ []) second.2 ∙ sym (two_digits k more small) in
              let ends : Begins (Ends k) (drop (i + 2) bs) = begins_at (Ends k) bs (i + 2) (λ h d. inr more) in
              rw a.1 (number_leads k (i + 2) apart small (omega arith) (omega (arith, second.0)) is ends)
        ]

    pub number_refused : DigitAt bs i None → Halts Rest bs i (number ∷ ps) i
    number_refused none =
        elim (cases_lt i (length bs)) [
          | inl h ↦ halts_at (number ∷ ps) h (λ t v r. none h (first_digit r.0 (get_or bs i 0) t r.1 r.4 r.3))
          | inr h ↦ halts_end Rest bs i (number ∷ ps) h (goes_on (number ∷ ps)) (λ v r. not_empty r.0 r.1 r.4 r.3)
        ]

    pub space_read : i < length bs → get_or bs i 0 ≡ 32 → Leads Rest bs i (space ∷ ps) [] (i + 1) ps
    space_read h is =
        leads_over Rest Any (space ∷ ps) ps (32 ∷ []) [] (λ t v r. (t, refl, r)) (λ t x b r. let e = r.1 in let same : t ≡ r.0 = cc in (x, refl, rw same r.2)) bs i (i + 1) (omega arith) (omega arith) (part_one bs i h ∙ ap (λ c. c ∷ []) is) (begins_any (drop (i + 1) bs))

    pub space_refused : (i < length bs → get_or bs i 0 ≢ 32) → Halts Rest bs i (space ∷ ps) i
    space_refused none =
        elim (cases_lt i (length bs)) [
          | inl h ↦ halts_at (space ∷ ps) h (λ t v r. let e = r.1 in let is : get_or bs i 0 ≡ 32 = cc in none h is)
          | inr h ↦ halts_end Rest bs i (space ∷ ps) h (goes_on (space ∷ ps)) (λ v r. let e = r.1 in let z : ◌≡◌ {A = ℕ} 0 1 = cc in omega arith)
        ]

    -- all symbols that come next are a word
    pub word_read : (u : List ℕ) (j : ℕ) → Apart ps → IsWord u → i < j → j ≤ length bs → part bs i j ≡ map symbol u → Begins NoSymbol (drop j bs) → Leads Rest bs i (word ∷ ps) (u ∷ []) j ps
    word_read u j apart is_word less within is stop =
        leads_over Rest NoSymbol (word ∷ ps) ps (map symbol u) (u ∷ []) (λ t v r. (u, t, v, refl, is_word, refl, r)) (λ t x b r. let cut = word_cut u r.0 t r.1 r.3 is_word.1 r.4.1 b (apart r.1 r.2 r.6) in (r.2, r.5 ∙ ap (λ w. w ∷ r.2) (sym cut.0), rw cut.1 r.6)) bs i j less within is stop

    pub word_refused : Begins NoSymbol (drop i bs) → Halts Rest bs i (word ∷ ps) i
    word_refused none =
        elim (cases_lt i (length bs)) [
          | inl h ↦
              let here : NoSymbol (get_or bs i 0) = rw (drop_more bs i 0 h) at none in
              halts_at (word ∷ ps) h (λ t v r. first_symbol r.0 (get_or bs i 0) t r.1 r.4 r.3 here)
          | inr h ↦ halts_end Rest bs i (word ∷ ps) h (goes_on (word ∷ ps)) (λ v r. no_word r.0 r.1 r.4 r.3)
        ]

  pub end_read : length bs ≤ i → Rest [] (drop i bs) []
  end_read h = (drop_all i bs h, refl)

  pub end_refused : i < length bs → Halts Rest bs i [] i
  end_refused more =
      halts_at [] more (λ t v r. let e = r.0 in let z : ◌≡◌ {A = ℕ} 0 1 = cc in omega arith)
