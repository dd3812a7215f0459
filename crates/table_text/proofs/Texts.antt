-- Texts of words.
use Rattle.std.proofs.Common.{◌≡◌, ℕ, zero, suc, ◌+◌, ◌-◌, ◌*◌, ◌<◌, ◌≤◌, ◌⊎◌, List, [], ◌∷◌, ◌++◌, map, length, take, drop, sym, refl, ap, ◌∙◌, inl, inr, arith, length-append, take-append-drop}
use Rattle.std.proofs.lemmas.List.{length-drop, length-map, length-take-le}
use Rattle.std.proofs.lemmas.Bool.{cases_lt, lt-ltb, le-ltb}
use Rattle.letter_order.specs.Orders.{by_value}
use Rattle.lyndon.specs.Words.{Split}
use Rattle.lyndon.specs.Entries.{cut}
use Rattle.lyndon.specs.Codes.{Over}
use Rattle.lyndon.proofs.Codes.{by_value_total, cut_splits, cut_within, over-take, over-drop}
use Rattle.lyndon.proofs.Theorems.{split_once}
use Rattle.text.specs.Symbols.{symbol}
use Rattle.bracket_text.specs.Brackets.{pair, IsText}
use Rattle.bracket_text.specs.Brackets.IsText.{letter, bracket}
use Rattle.table_text.specs.Lines.{text, text_of, Texts}

single : (m : ℕ) (w : List ℕ) → length w < 2 → text (suc m) w ≡ map symbol w
unfolding text
single m w h = rw (lt-ltb (length w) 2 h)

double : (m : ℕ) (w : List ℕ) → 2 ≤ length w → text (suc m) w ≡ pair (text m (take (cut w) w)) (text m (drop (cut w) w))
unfolding text
double m w h = rw (le-ltb (length w) 2 h)

-- it needs no more steps than the word has letters
enough : (m n : ℕ) (w : List ℕ) → 0 < length w → length w ≤ m → length w ≤ n → text m w ≡ text n w
enough zero n w s h k = absurd (omega arith)
enough (suc m) zero w s h k = absurd (omega arith)
enough (suc m) (suc n) w s h k = go (cases_lt (length w) 2) (λ v. enough m n v)
  where
    go : (length w < 2) ⊎ (2 ≤ length w) → ((v : List ℕ) → 0 < length v → length v ≤ m → length v ≤ n → text m v ≡ text n v) → text (suc m) w ≡ text (suc n) w
    go (inl l) more = single m w l ∙ sym (single n w l)
    go (inr l) more =
        let at = cut_within w l in
        let a : length (take (cut w) w) ≡ cut w = length-take-le (cut w) w (omega (arith, at.1)) in
        let b : length (drop (cut w) w) ≡ length w - cut w = length-drop (cut w) w in
        double m w l
        ∙ (ap (λ t. pair t (text m (drop (cut w) w))) (more (take (cut w) w) (omega (arith, at.0)) (omega (arith, at.1)) (omega (arith, at.1)))
        ∙ (ap (pair (text n (take (cut w) w))) (more (drop (cut w) w) (omega (arith, at.1)) (omega (arith, at.0)) (omega (arith, at.0)))
        ∙ sym (double n w l)))

pub text_letter : (w : List ℕ) → length w ≡ 1 → text_of w ≡ map symbol w
text_letter w h = ap (λ m. text m w) h ∙ single 0 w (omega arith)

pub text_split : (w l r : List ℕ) → Split by_value w l r → text_of w ≡ pair (text_of l) (text_of r)
text_split w l r S =
    let k : length w ≡ length l + length r = ap length S.whole ∙ length-append l r in
    let h : 2 ≤ length w = omega (arith, S.proper, S.lyndon.some) in
    let same = split_once by_value_total w (take (cut w) w) (drop (cut w) w) l r (cut_splits w h) S in
    let n : length w ≡ suc (length w - 1) = omega arith in
    ap (λ m. text m w) n
    ∙ (double (length w - 1) w h
    ∙ (ap (λ z. pair (text (length w - 1) z) (text (length w - 1) (drop (cut w) w))) (sym same.0)
    ∙ (ap (λ z. pair (text (length w - 1) l) (text (length w - 1) z)) (sym same.1)
    ∙ (ap (λ t. pair t (text (length w - 1) r)) (enough (length w - 1) (length l) l S.proper (omega (arith, S.lyndon.some)) (omega arith))
    ∙ ap (pair (text_of l)) (enough (length w - 1) (length r) r S.lyndon.some (omega (arith, S.proper)) (omega arith))))))

-- a byte for each letter, and three for each bracket
text_size : (m : ℕ) (w : List ℕ) → 0 < length w → length w ≤ m → length (text m w) + 3 ≡ 4 * length w
text_size zero w some h = absurd (omega arith)
text_size (suc m) w some h = go (cases_lt (length w) 2) (text_size m)
  where
    go : (length w < 2) ⊎ (2 ≤ length w) → ((v : List ℕ) → 0 < length v → length v ≤ m → length (text m v) + 3 ≡ 4 * length v) → length (text (suc m) w) + 3 ≡ 4 * length w
    go (inl l) more = rw (single m w l) (omega (arith, length-map w symbol))
    go (inr l) more =
        let at = cut_within w l in
        let a : length (take (cut w) w) ≡ cut w = length-take-le (cut w) w (omega (arith, at.1)) in
        let b : length (drop (cut w) w) ≡ length w - cut w = length-drop (cut w) w in
        let p = more (take (cut w) w) (omega (arith, at.0)) (omega (arith, at.1)) in
        let q = more (drop (cut w) w) (omega (arith, at.1)) (omega (arith, at.0)) in
        let r = text m (drop (cut w) w) in
        rw (double m w l) (omega (arith, at.1, length-append (text m (take (cut w) w)) (44 ∷ (r ++ 93 ∷ [])), length-append r (93 ∷ [])))

-- the text of a word is well formed, and means it
one_letter : (w : List ℕ) → 0 < length w → length w < 2 → Over 16 w → IsText (map symbol w) w
one_letter [] some h o = absurd (omega arith)
one_letter (x ∷ []) some h o = letter x o.0
one_letter (x ∷ y ∷ w) some h o = absurd (omega arith)

pub formed : (m : ℕ) (w : List ℕ) → 0 < length w → length w ≤ m → Over 16 w → IsText (text m w) w
formed zero w some h o = absurd (omega arith)
formed (suc m) w some h o = go (cases_lt (length w) 2) (formed m)
  where
    go : (length w < 2) ⊎ (2 ≤ length w) → ((v : List ℕ) → 0 < length v → length v ≤ m → Over 16 v → IsText (text m v) v) → IsText (text (suc m) w) w
    go (inl l) more = rw (single m w l) (one_letter w some l o)
    go (inr l) more =
        let at = cut_within w l in
        let a : length (take (cut w) w) ≡ cut w = length-take-le (cut w) w (omega (arith, at.1)) in
        let b : length (drop (cut w) w) ≡ length w - cut w = length-drop (cut w) w in
        let p = more (take (cut w) w) (omega (arith, at.0)) (omega (arith, at.1)) (over-take 16 (cut w) w o) in
        let q = more (drop (cut w) w) (omega (arith, at.1)) (omega (arith, at.0)) (over-drop 16 (cut w) w o) in
        let whole : IsText (pair (text m (take (cut w) w)) (text m (drop (cut w) w))) w = rw take-append-drop at (bracket p q) in
        rw (double m w l) whole

pub texts : Texts
texts = record {
  letter = λ x. text_letter (x ∷ []) refl;
  bracket = text_split;
  size = λ w some. text_size (length w) w some (omega arith);
}
