-- What reading a bracket text comes to.
use Rattle.std.proofs.Common.{◌≡◌, ℕ, List, [], ◌∷◌, ◌++◌, sym, refl, ap, ◌∙◌, arith}
use Rattle.std.proofs.lemmas.List.{append-nil}
use Rattle.faults.specs.Faults.{found}
use Rattle.faults.specs.Outcome.{Outcome}
use Rattle.faults.specs.Outcome.Outcome.{answered, refused}
use Rattle.faults.specs.declared.Layer.TheVariants.{Text}
use Rattle.text.proofs.Reading.{one_place, means_or_stops}
use Rattle.bracket_text.specs.Brackets.{IsText, BracketOutcome, OneOutcome}
use Rattle.bracket_text.specs.Brackets.BracketOutcome.{long, malformed, read}
use Rattle.bracket_text.specs.States.{Fits}
use Rattle.bracket_text.specs.declared.reader.Part.TheVariants as part
use Rattle.bracket_text.proofs.Parts.{one_fit}

-- a text alone
pub alone : (bs w : List ℕ) → IsText bs w → Fits (part.Text ∷ []) bs w
alone bs w f = (bs, w, [], [], f, (refl, refl), sym (append-nil bs), sym (append-nil w))

pub alone_back : (bs w : List ℕ) → Fits (part.Text ∷ []) bs w → IsText bs w
alone_back bs w f =
    let s : bs ≡ f.0 = f.6 ∙ ap (λ t. f.0 ++ t) f.5.0 ∙ append-nil f.0 in
    let u : w ≡ f.1 = f.7 ∙ ap (λ v. f.1 ++ v) f.5.1 ∙ append-nil f.1 in
    rw (s, u) f.4

-- a text means one word
pub one_meaning : (bs u v : List ℕ) → IsText bs u → IsText bs v → u ≡ v
one_meaning bs u v f g = one_fit bs (part.Text ∷ []) u v (alone bs u f) (alone bs v g)

pub one_of : (text : List ℕ) (o p : Outcome (List ℕ)) → BracketOutcome text o → BracketOutcome text p → o ≡ p
one_of text o p (long h) (long k) = refl
one_of text o p (long h) (malformed q k s) = absurd (omega arith)
one_of text o p (long h) (read v k g) = absurd (omega arith)
one_of text o p (malformed q k s) (long h) = absurd (omega arith)
one_of text o p (malformed q k s) (malformed r h t) = ap (λ n. refused (found 15 Text n 0)) (one_place IsText text q r s t)
one_of text o p (malformed q k s) (read v h g) = absurd (means_or_stops IsText text v q g s)
one_of text o p (read u k f) (long h) = absurd (omega arith)
one_of text o p (read u k f) (malformed r h t) = absurd (means_or_stops IsText text u r f t)
one_of text o p (read u k f) (read v h g) = ap answered (one_meaning text u v f g)

pub one_outcome : OneOutcome
unfolding OneOutcome
one_outcome = one_of
