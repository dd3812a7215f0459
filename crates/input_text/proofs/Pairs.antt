-- Lines "k u v", part by part.
use Rattle.std.proofs.Common.{◌≡◌, ℕ, List, [], ◌∷◌, ◌++◌, map, Result, decimal, sym, refl, ap, subst, ◌∙◌}
use Rattle.std.specs.Result.{IsErrAnd}
use Rattle.std.proofs.lemmas.List.{append-nil}
use Rattle.faults.specs.Outcome.{told}
use Rattle.faults.specs.Outcome.Outcome.{answered}
use Rattle.text.specs.Faults.{text_fault}
use Rattle.text.specs.Symbols.{symbol}
use Rattle.text.specs.declared.fault.TextFault.{TextFault}
use Rattle.input_text.specs.Words.{Words, IsWords, MeansWords, words_of, WordsOutcome}
use Rattle.input_text.specs.Words.WordsOutcome.{read, malformed}
use Rattle.input_text.specs.declared.word_pair.WordPair.{WordPair}
use Rattle.input_text.proofs.Outcomes.{same_words}
use Rattle.input_text.proofs.Parts.{Part, Rest}
use Rattle.input_text.proofs.Parts.Part.{number, space, word}
use Rattle.input_text.proofs.Awaiting.{Refuses, Spells, exit}

abbrev pub words : List Part
words = number ∷ space ∷ word ∷ space ∷ word ∷ []

abbrev pub three : Words → List (List ℕ)
three w = (w.k ∷ []) ∷ w.first ∷ w.second ∷ []

in_parts : (bs : List ℕ) (w : Words) → IsWords bs w → Rest words bs (three w)
in_parts bs w s =
    let u = map symbol w.first in
    let v = map symbol w.second in
    let last : Rest (word ∷ []) v (w.second ∷ []) = (w.second, [], [], sym (append-nil v), s.second, refl, (refl, refl)) in
    let first : Rest (word ∷ space ∷ word ∷ []) (u ++ (32 ∷ v)) (w.first ∷ w.second ∷ []) = (w.first, 32 ∷ v, w.second ∷ [], refl, s.first, refl, (v, refl, last)) in
    (w.k, 32 ∷ (u ++ (32 ∷ v)), w.first ∷ w.second ∷ [], s.line, s.number, refl, (u ++ (32 ∷ v), refl, first))

from_parts : (bs : List ℕ) (ws : List (List ℕ)) → Rest words bs ws → (w : Words) × IsWords bs w × (ws ≡ three w)
from_parts bs ws r =
    let first = r.6.2 in
    let gap = first.6 in
    let last = gap.2 in
    let end = last.6 in
    let u = map symbol first.0 in
    let v = map symbol last.0 in
    let second : gap.0 ≡ v = last.3 ∙ ap (λ l. v ++ l) end.0 ∙ append-nil v in
    let both : r.6.0 ≡ u ++ (32 ∷ v) = first.3 ∙ ap (λ l. u ++ l) (gap.1 ∙ ap (λ l. 32 ∷ l) second) in
    let line : bs ≡ decimal r.0 ++ (32 ∷ (u ++ (32 ∷ v))) = r.3 ∙ ap (λ l. decimal r.0 ++ l) (r.6.1 ∙ ap (λ l. 32 ∷ l) both) in
    let all : ws ≡ (r.0 ∷ []) ∷ first.0 ∷ last.0 ∷ [] = r.5 ∙ ap (λ l. (r.0 ∷ []) ∷ l) (first.5 ∙ ap (λ l. first.0 ∷ l) (last.5 ∙ ap (λ l. last.0 ∷ l) end.1)) in (
      record { k = r.0; first = first.0; second = last.0 },
      record { line = line; number = r.4; first = first.4; second = last.4 },
      all,
    )

spelled : Spells words MeansWords
spelled =
    record {
      into = λ bs ws m. (three m.0, in_parts bs m.0 m.1);
      from = λ bs ws r. let s = from_parts bs ws r in (s.0 ∷ [], (s.0, s.1, refl));
    }

pub words_exit : {bs : List ℕ} (r : Result WordPair TextFault) (f : TextFault) → IsErrAnd r (λ e. e ≡ f) → Refuses words bs f → WordsOutcome bs (told words_of text_fault r)
words_exit {bs = bs} r f is stuck = exit spelled (WordsOutcome bs) words_of malformed r f is stuck

pub words_read : {bs : List ℕ} (w : Words) → Rest words bs (three w) → WordsOutcome bs (answered w)
words_read {bs = bs} w r =
    let s = from_parts bs (three w) r in
    let z = s.0 in
    let all = s.2 in
    let k : w.k ≡ z.k = cc in
    let first : w.first ≡ z.first = cc in
    let second : w.second ≡ z.second = cc in
    read w (subst (IsWords bs) (sym (same_words w z k first second)) s.1)
