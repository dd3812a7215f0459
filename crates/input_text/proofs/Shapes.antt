-- Lines "k n", part by part.
use Rattle.std.proofs.Common.{◌≡◌, ℕ, List, [], ◌∷◌, ◌++◌, Result, decimal, sym, refl, ap, subst, ◌∙◌}
use Rattle.std.specs.Result.{IsErrAnd}
use Rattle.std.proofs.lemmas.List.{append-nil}
use Rattle.faults.specs.Outcome.{told}
use Rattle.faults.specs.Outcome.Outcome.{answered}
use Rattle.text.specs.Faults.{text_fault}
use Rattle.text.specs.declared.fault.TextFault.{TextFault}
use Rattle.input_text.specs.Shapes.{IsShape, ShapeOutcome}
use Rattle.input_text.specs.Shapes.ShapeOutcome.{read, malformed}
use Rattle.input_text.specs.declared.shape.Numbers.{Numbers}
use Rattle.input_text.proofs.Parts.{Part, Rest}
use Rattle.input_text.proofs.Parts.Part.{number, space}
use Rattle.input_text.proofs.Awaiting.{Refuses, Spells, exit}

abbrev pub shape : List Part
shape = number ∷ space ∷ number ∷ []

in_parts : (bs ns : List ℕ) → IsShape bs ns → (ws : List (List ℕ)) × Rest shape bs ws
in_parts bs ns s =
    let last : Rest (number ∷ []) (decimal s.1) ((s.1 ∷ []) ∷ []) = (s.1, [], [], sym (append-nil (decimal s.1)), s.4, refl, (refl, refl)) in
    ((s.0 ∷ []) ∷ (s.1 ∷ []) ∷ [], (s.0, 32 ∷ decimal s.1, (s.1 ∷ []) ∷ [], s.2, s.3, refl, (decimal s.1, refl, last)))

from_parts : (bs : List ℕ) (ws : List (List ℕ)) → Rest shape bs ws → (k : ℕ) × (n : ℕ) × IsShape bs (k ∷ n ∷ []) × (ws ≡ (k ∷ []) ∷ (n ∷ []) ∷ [])
from_parts bs ws r =
    let gap = r.6 in
    let last = gap.2 in
    let end = last.6 in
    let digits : gap.0 ≡ decimal last.0 = last.3 ∙ ap (λ l. decimal last.0 ++ l) end.0 ∙ append-nil (decimal last.0) in
    let line : bs ≡ decimal r.0 ++ (32 ∷ decimal last.0) = r.3 ∙ ap (λ l. decimal r.0 ++ l) (gap.1 ∙ ap (λ l. 32 ∷ l) digits) in
    let two : ws ≡ (r.0 ∷ []) ∷ (last.0 ∷ []) ∷ [] = r.5 ∙ ap (λ l. (r.0 ∷ []) ∷ l) (last.5 ∙ ap (λ l. (last.0 ∷ []) ∷ l) end.1) in
    (r.0, last.0, (r.0, last.0, line, r.4, last.4, refl), two)

spelled : Spells shape IsShape
spelled = record { into = in_parts; from = λ bs ws r. let s = from_parts bs ws r in (s.0 ∷ s.1 ∷ [], s.2) }

pub shape_exit : {bs : List ℕ} (r : Result Numbers TextFault) (f : TextFault) → IsErrAnd r (λ e. e ≡ f) → Refuses shape bs f → ShapeOutcome bs (told (λ numbers. numbers) text_fault r)
shape_exit {bs = bs} r f is stuck = exit spelled (ShapeOutcome bs) (λ numbers. numbers) malformed r f is stuck

pub shape_read : {bs : List ℕ} {k n : ℕ} → Rest shape bs ((k ∷ []) ∷ (n ∷ []) ∷ []) → ShapeOutcome bs (answered (record { k = k; n = n }))
shape_read {bs = bs} {k = k} {n = n} r =
    let s = from_parts bs _ r in
    let both = s.3 in
    let first : k ≡ s.0 = cc in
    let second : n ≡ s.1 = cc in
    read (record { k = k; n = n }) (subst (λ m. IsShape bs (m ∷ n ∷ [])) (sym first) (subst (λ m. IsShape bs (s.0 ∷ m ∷ [])) (sym second) s.2))
