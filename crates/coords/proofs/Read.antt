-- What reading a word with another behind it comes to.
use Rattle.std.proofs.Common.{◌≡◌, ℕ, ◌<◌, List, ◌+◌, ◌++◌, length, Ok, Err, Result, IfOk, IsOk, refl, ap, ◌∙◌, arith, length-append}
use Rattle.std.proofs.ByRecursion.{All-append}
use Rattle.std.proofs.lemmas.Bool.{ne_eqb, le-ltb}
use Rattle.std.proofs.lemmas.List.{take_at, drop_at}
use Rattle.faults.specs.Outcome.{Outcome, told, checked}
use Rattle.faults.specs.Outcome.Outcome.{answered, refused}
use Rattle.faults.proofs.Checks.{passed, answers}
use Rattle.lyndon.specs.Codes.{Over, code}
use Rattle.lyndon.proofs.Codes.{over-take, over-drop, spelled-code}
use Rattle.word.specs.Faults.{word_fault, length_checked, letters_checked}
use Rattle.word.specs.declared.fault.WordFault.{WordFault}
use Rattle.coded_word.specs.Codes.{read_outcome}
use Rattle.coded_word.specs.Words.{word_of}
use Rattle.coded_word.specs.declared.coded.CodedWord.{CodedWord}
use Rattle.coded_word.specs.declared.shape.Shape.{Shape}
use Rattle.coded_word.proofs.Passed.{letters_below, below_passes}

-- ---- one word, which has as many letters as the longest words

module _ (shape : Shape) (w : List ℕ) (long : length w ≡ shape.n) where
  length_passes : length_checked shape.n (length w) ≡ answered tt
  length_passes =
      rw (ne_eqb (length w) 0 (λ e. omega (arith, shape.one)), le-ltb shape.n (length w) (omega arith)) refl

  spells : (x : CodedWord) → x.shape ≡ shape → Over shape.k w → x.length ≡ length w → x.code ≡ code shape.k w → word_of x ≡ w
  spells x s o l c = rw (s, l, c) (spelled-code shape.k w shape.some o)

  by_letters : (o : Outcome (Unit {0})) → o ≡ letters_checked shape.k w → (r : Result CodedWord WordFault) → IfOk r (λ x. x.shape ≡ shape) → told {Y = ℕ × ℕ} (λ x. (x.length, x.code)) word_fault r ≡ checked o (answered (length w, code shape.k w)) → told word_of word_fault r ≡ checked o (answered w)
  by_letters (answered u) is (Ok x) s e =
      let both : ◌≡◌ {A = ℕ × ℕ} (x.length, x.code) (length w, code shape.k w) = cc in
      ap answered (spells x s (letters_below shape.k w is) (ap (λ z. z.0) both) (ap (λ z. z.1) both))
  by_letters (answered u) is (Err f) s e = absurd (let z : ◌≡◌ {A = ℕ} 0 1 = cc in omega arith)
  by_letters (refused g) is (Ok x) s e = absurd (let z : ◌≡◌ {A = ℕ} 0 1 = cc in omega arith)
  by_letters (refused g) is (Err f) s e = let same : word_fault f ≡ g = cc in ap refused same

  whole_read : (r : Result CodedWord WordFault) → IfOk r (λ x. x.shape ≡ shape) → told {Y = ℕ × ℕ} (λ x. (x.length, x.code)) word_fault r ≡ read_outcome shape.k shape.n w → told word_of word_fault r ≡ checked (letters_checked shape.k w) (answered w)
  whole_read r s e =
      by_letters (letters_checked shape.k w) refl r s
      (e ∙ ap (λ o. checked o (checked (letters_checked shape.k w) (answered (length w, code shape.k w)))) length_passes)

-- what is read by length and code is read by letters
pub product_read : (shape : Shape) (u v letters : List ℕ) (r : Result CodedWord WordFault) → length u + length v ≡ shape.n → letters ≡ u ++ v → IfOk r (λ x. x.shape ≡ shape) → told {Y = ℕ × ℕ} (λ x. (x.length, x.code)) word_fault r ≡ read_outcome shape.k shape.n letters → told word_of word_fault r ≡ checked (letters_checked shape.k (u ++ v)) (answered (u ++ v))
product_read shape u v letters r long same s e =
    whole_read shape (u ++ v) (length-append u v ∙ long) r s (e ∙ ap (read_outcome shape.k shape.n) same)

-- ---- the other word has the same letters

over_swap : (k : ℕ) (u v : List ℕ) → Over k (u ++ v) → Over k (v ++ u)
over_swap k u v h =
    All-append (λ x. x < k) v u (rw (drop_at u v (length u) refl) at (over-drop k (length u) (u ++ v) h)) (rw (take_at u v (length u) refl) at (over-take k (length u) (u ++ v) h))

pub vu_read : (k : ℕ) (u v x : List ℕ) (r : Result CodedWord WordFault) → answered x ≡ checked (letters_checked k (u ++ v)) (answered (u ++ v)) → told word_of word_fault r ≡ checked (letters_checked k (v ++ u)) (answered (v ++ u)) → IsOk r
vu_read k u v x r first e =
    let below = over_swap k u v (letters_below k (u ++ v) (passed (letters_checked k (u ++ v)) (answered (u ++ v)) x first).0) in
    answers word_of word_fault r (v ++ u) (e ∙ ap (λ o. checked o (answered (v ++ u))) (below_passes k (v ++ u) below))
