-- What the first factor and the split of a word of at most 12 letters say of its polynomial.
use Rattle.std.proofs.Common.{◌≡◌, ℕ, ◌+◌, ◌<◌, ◌≤◌, true, List, [], ◌∷◌, ◌++◌, length, take, drop, Some, None, Option, unwrap_or, sym, ap, ◌∙◌, subst, inl, inr, arith, length-append, length-take, length-drop, append-nil}
use Rattle.std.proofs.lemmas.Bool.Decides.{nat_tests}
use Rattle.std.proofs.lemmas.List.{nil_from_length}
use Rattle.std.proofs.lemmas.Option.{none-some}
use lib.Seq.{take-append_seam, drop-append_seam}
use Rattle.faults.specs.declared.Fault.{Fault}
use Rattle.faults.specs.Outcome.Outcome.{answered, refused}
use Rattle.letter_order.specs.Orders.{by_value}
use Rattle.lyndon.specs.Words.{Lyndon, Factors, joined}
use Rattle.lyndon.specs.Factoring.{factors}
use Rattle.lyndon.specs.Listing.{lyndon}
use Rattle.lyndon.specs.Entries.{cut}
use Rattle.lyndon.proofs.Codes.{by_value_total, lyndon_says, says_lyndon, cut_splits}
use Rattle.lyndon.proofs.Factorization.{factored}
use Rattle.word.specs.Calls.{cut_behind, first_outcome, split_outcome}
use Rattle.bracket.specs.Cuts.{SplitCut, FirstCut, Whole, Unsplit}

-- ---- the first factor

-- the answer, where the word is not too long
first_answer : (w : List ℕ) (parts : Option (List ℕ × List ℕ)) → answered parts ≡ first_outcome by_value w → length w ≤ 12 → parts ≡ cut_behind w (factors by_value w)
first_answer w parts e h = grind (arith, nat_tests)

-- f is the first factor, and r the rest
first_parts : (w f r : List ℕ) → answered (Some (f, r)) ≡ first_outcome by_value w → length w ≤ 12 → (fs : List (List ℕ)) × Factors by_value w (f ∷ fs) × (r ≡ joined fs)
first_parts w f r e h = go (factors by_value w) (factored by_value_total w) (first_answer w (Some (f, r)) e h)
  where
    go : (gs : List (List ℕ)) → Factors by_value w gs → Some (f, r) ≡ cut_behind w gs → (fs : List (List ℕ)) × Factors by_value w (f ∷ fs) × (r ≡ joined fs)
    go [] F k = absurd (none-some (f, r) (sym k))
    go (g ∷ gs) F k =
        let parts : (f, r) ≡ (take (length g) w, drop (length g) w) = ap (λ o. unwrap_or o ([], [])) k in
        let same : f ≡ g = ap (λ x. x.0) parts ∙ ap (take (length g)) (sym F.whole) ∙ take-append_seam g (joined gs) in
        let rest : r ≡ joined gs = ap (λ x. x.1) parts ∙ ap (drop (length g)) (sym F.whole) ∙ drop-append_seam g (joined gs) in
        (gs, subst (λ x. Factors by_value w (x ∷ gs)) (sym same) F, rest)

pub first_found : (w f r : List ℕ) → answered (Some (f, r)) ≡ first_outcome by_value w → length w ≤ 12 → 0 < length r → FirstCut w f r
first_found w f r e h k = let p = first_parts w f r e h in (p.0, p.1, p.2, k)

first_sizes : (w f r : List ℕ) → answered (Some (f, r)) ≡ first_outcome by_value w → length w ≤ 12 → length f + length r ≡ length w
first_sizes w f r e h =
    let p = first_parts w f r e h in
    ap (λ v. length f + length v) p.2 ∙ sym (length-append f (joined p.0)) ∙ ap length p.1.whole

pub first_left : (w f r : List ℕ) → answered (Some (f, r)) ≡ first_outcome by_value w → length w ≤ 12 → length f ≤ 12
first_left w f r e h = omega (arith, first_sizes w f r e h)

pub first_right : (w f r : List ℕ) → answered (Some (f, r)) ≡ first_outcome by_value w → length w ≤ 12 → length r ≤ 12
first_right w f r e h = omega (arith, first_sizes w f r e h)

pub first_whole : (w f r : List ℕ) → answered (Some (f, r)) ≡ first_outcome by_value w → length w ≤ 12 → length r ≡ 0 → Whole w
first_whole w f r e h k =
    let p = first_parts w f r e h in
    let none : joined p.0 ≡ [] = sym p.2 ∙ nil_from_length r k in
    inr (says_lyndon w (subst (Lyndon by_value) (sym (append-nil f) ∙ ap (λ v. f ++ v) (sym none) ∙ p.1.whole) p.1.lyndon.0))

pub first_none : (w : List ℕ) → answered None ≡ first_outcome by_value w → length w ≤ 12 → Whole w
first_none w e h = go (factors by_value w) (factored by_value_total w) (first_answer w None e h)
  where
    go : (gs : List (List ℕ)) → Factors by_value w gs → None ≡ cut_behind w gs → Whole w
    go [] F k = inl (ap length (sym F.whole))
    go (g ∷ gs) F k = absurd (none-some (take (length g) w, drop (length g) w) k)

split_answer : (w l r : List ℕ) → answered (Some (l, r)) ≡ split_outcome by_value w → (lyndon w ≡ true) × (2 ≤ length w) × (l ≡ take (cut w) w) × (r ≡ drop (cut w) w)
unfolding lyndon
split_answer w l r e = (grind (arith, nat_tests), grind (arith, nat_tests), grind (arith, nat_tests), grind (arith, nat_tests))

pub split_found : (w l r : List ℕ) → answered (Some (l, r)) ≡ split_outcome by_value w → SplitCut w l r
split_found w l r e =
    let p = split_answer w l r e in
    (lyndon_says w p.0, rw (p.2, p.3) (cut_splits w (omega (arith, p.1))))

pub split_left : (w l r : List ℕ) → answered (Some (l, r)) ≡ split_outcome by_value w → length w ≤ 12 → length l ≤ 12
split_left w l r e h = let p = split_answer w l r e in rw p.2 (omega (arith, length-take (cut w) w))

pub split_right : (w l r : List ℕ) → answered (Some (l, r)) ≡ split_outcome by_value w → length w ≤ 12 → length r ≤ 12
split_right w l r e h = let p = split_answer w l r e in rw p.3 (omega (arith, length-drop (cut w) w))

pub split_none : (w : List ℕ) → answered None ≡ split_outcome by_value w → length w ≤ 12 → Unsplit w
unfolding lyndon
split_none w e h = λ k. grind (arith, nat_tests)

pub split_refused : (w : List ℕ) (fault : Fault) → refused fault ≡ split_outcome by_value w → length w ≤ 12 → Unsplit w
unfolding lyndon
split_refused w fault e h = λ k. grind (arith, nat_tests)
