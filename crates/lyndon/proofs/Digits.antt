-- The parts of a word by quotient and remainder of its code.
use Rattle.std.proofs.Common.{◌≡◌, ℕ, ◌+◌, ◌-◌, ◌*◌, ◌/◌, ◌%◌, ◌^◌, ◌<◌, ◌≤◌, true, false, ◌⊎◌, List, [], ◌∷◌, ◌++◌, length, take, drop, sym, ap, ◌∙◌, subst, inl, inr, append-nil, mul_assoc, add-mul, arith, length-append, take-append-drop, pow-add}
use lib.Arith.{digits_div, digits_mod}
use Rattle.std.proofs.lemmas.Bool.{cases_order, cases_Bool, both_ways}
use Rattle.std.proofs.lemmas.List.{length-take-le, length-drop}
use Rattle.lyndon.specs.Words.{Before}
use Rattle.letter_order.specs.Orders.{by_value}
use Rattle.lyndon.specs.Codes.{Over, code, spelled}
use Rattle.lyndon.proofs.Dictionary.{asym, prefix, apart_before, apart_append, before_apart}
use Rattle.lyndon.proofs.Codes.{by_value_total, code_below, code_down, code_same, code-spelled, spelled-over, length-spelled, lyndon_says, says_lyndon, cut_within, cut_splits, over-take, over-drop}
use Rattle.lyndon.specs.Listing.{lyndon}
use Rattle.lyndon.specs.Entries.{cut}

code-append : (k : ℕ) (u v : List ℕ) → code k (u ++ v) ≡ code k u * k ^ length v + code k v
code-append k [] v = omega arith
code-append k (x ∷ u) v = rw (length-append u v, code-append k u v, pow-add, ← mul_assoc, add-mul) (omega arith)

module _ (k : ℕ) (w : List ℕ) (over : Over k w) (i : ℕ) (here : i ≤ length w) where
  sizes : length (drop i w) ≡ length w - i
  sizes = length-drop i w

  whole : code k w ≡ code k (take i w) * k ^ (length w - i) + code k (drop i w)
  whole = ap (code k) (sym (take-append-drop i w)) ∙ code-append k (take i w) (drop i w) ∙ ap (λ z. code k (take i w) * k ^ z + code k (drop i w)) sizes

  small : code k (drop i w) < k ^ (length w - i)
  small = subst (λ z. code k (drop i w) < k ^ z) sizes (code_below k (drop i w) (over-drop k i w over))

  pub code-take : code k (take i w) ≡ code k w / k ^ (length w - i)
  code-take = sym (ap (λ z. z / k ^ (length w - i)) whole ∙ digits_div (code k (take i w)) small)

  pub code-drop : code k (drop i w) ≡ code k w % k ^ (length w - i)
  code-drop = sym (ap (λ z. z % k ^ (length w - i)) whole ∙ digits_mod (code k (take i w)) small)

-- a word against one of its suffixes
module _ (k : ℕ) (w : List ℕ) (over : Over k w) (i : ℕ) (some : 0 < i) (here : i < length w) where
  t : List ℕ
  t = take (length w - i) w

  s : List ℕ
  s = drop i w

  b : List ℕ
  b = drop (length w - i) w

  even : length (take (length w - i) w) ≡ length (drop i w)
  even = length-take-le (length w - i) w (omega arith) ∙ sym (length-drop i w)

  more : 0 < length (drop (length w - i) w)
  more = rw length-drop (omega arith)

  is : take (length w - i) w ++ drop (length w - i) w ≡ w
  is = take-append-drop (length w - i) w

  front : code k (take (length w - i) w) ≡ code k w / k ^ i
  front =
      let e : length w - (length w - i) ≡ i = omega arith in
      code-take k w over (length w - i) (omega arith) ∙ ap (λ z. code k w / k ^ z) e

  back : code k (drop i w) ≡ code k w % k ^ (length w - i)
  back = code-drop k w over i (omega arith)

  pub before_by_digits : code k w / k ^ i < code k w % k ^ (length w - i) → Before by_value w (drop i w)
  before_by_digits h =
      let B = code_down k (take (length w - i) w) (drop i w) even (over-take k (length w - i) w over) (over-drop k i w over) (omega (arith, front, back)) in
      let A = apart_append by_value_total (take (length w - i) w) (drop i w) (drop (length w - i) w) [] (before_apart by_value_total (take (length w - i) w) (drop i w) B (omega (arith, even))) in
      apart_before by_value_total w (drop i w) (rw (is, append-nil) at A)

  longer : (u v : List ℕ) → 0 < length v → Before by_value u (u ++ v)
  longer u [] h = absurd (omega arith)
  longer u (y ∷ v) h = prefix by_value_total u y v

  pub digits_by_before : Before by_value w (drop i w) → code k w / k ^ i < code k w % k ^ (length w - i)
  digits_by_before h = go (cases_order (code k (take (length w - i) w)) (code k (drop i w)))
    where
      go : (code k (take (length w - i) w) ≡ code k (drop i w)) ⊎ ((code k (take (length w - i) w) < code k (drop i w)) ⊎ (code k (drop i w) < code k (take (length w - i) w))) → code k w / k ^ i < code k w % k ^ (length w - i)
      go (inl e) =
          let q = code_same k (take (length w - i) w) (drop i w) even (over-take k (length w - i) w over) (over-drop k i w over) e in
          let l : Before by_value (drop i w) w = subst (λ z. Before by_value (drop i w) z) (ap (λ z. z ++ drop (length w - i) w) (sym q) ∙ is) (longer (drop i w) (drop (length w - i) w) more) in
          absurd (asym by_value_total w (drop i w) h l)
      go (inr (inl l)) = omega (arith, front, back)
      go (inr (inr l)) =
          let B = code_down k (drop i w) (take (length w - i) w) (sym even) (over-drop k i w over) (over-take k (length w - i) w over) l in
          let A = apart_append by_value_total (drop i w) (take (length w - i) w) [] (drop (length w - i) w) (before_apart by_value_total (drop i w) (take (length w - i) w) B (omega (arith, even))) in
          absurd (asym by_value_total w (drop i w) h (apart_before by_value_total (drop i w) w (rw (is, append-nil) at A)))

-- ---- the same of the word of m letters with the code c

module _ (k m c : ℕ) (some : 1 ≤ k) (here : c < k ^ m) where
  over : Over k (spelled k m c)
  over = spelled-over k m c some here

  size : length (spelled k m c) ≡ m
  size = length-spelled k m c

  is_code : code k (spelled k m c) ≡ c
  is_code = code-spelled k m c some here

  pub lyndon_by_digits : 1 ≤ m → ((j : ℕ) → 0 < j → j < m → c / k ^ j < c % k ^ (m - j)) → true ≡ lyndon (spelled k m c)
  lyndon_by_digits one h = sym (says_lyndon (spelled k m c) (record {
    some = omega (arith, size);
    least = λ i p l. before_by_digits k (spelled k m c) over i p l (rw (is_code, size) (h i p (omega (arith, size))));
  }))

  pub not_lyndon_by_digits : (j : ℕ) → 0 < j → j < m → c % k ^ (m - j) ≤ c / k ^ j → false ≡ lyndon (spelled k m c)
  not_lyndon_by_digits j p l h = go (cases_Bool (lyndon (spelled k m c)))
    where
      go : (lyndon (spelled k m c) ≡ true) ⊎ (lyndon (spelled k m c) ≡ false) → false ≡ lyndon (spelled k m c)
      go (inl e) =
          let a : code k (spelled k m c) / k ^ j < code k (spelled k m c) % k ^ (length (spelled k m c) - j) = digits_by_before k (spelled k m c) over j p (omega (arith, size)) ((lyndon_says (spelled k m c) e).least j p (omega (arith, size))) in
          let b : c / k ^ j < c % k ^ (m - j) = rw (is_code, size) at a in
          absurd (omega arith)
      go (inr e) = sym e

  pub suffix_code : (i : ℕ) → i ≤ m → code k (drop i (spelled k m c)) ≡ c % k ^ (m - i)
  suffix_code i h = rw (is_code, size) at (code-drop k (spelled k m c) over i (omega (arith, size)))

  pub prefix_code : (i : ℕ) → i ≤ m → code k (take i (spelled k m c)) ≡ c / k ^ (m - i)
  prefix_code i h = rw (is_code, size) at (code-take k (spelled k m c) over i (omega (arith, size)))

  pub prefix_size : (i : ℕ) → i ≤ m → length (take i (spelled k m c)) ≡ i
  prefix_size i h = length-take-le i (spelled k m c) (omega (arith, size))

  pub suffix_size : (i : ℕ) → i ≤ m → length (drop i (spelled k m c)) ≡ m - i
  suffix_size i h = length-drop i (spelled k m c) ∙ ap (λ z. z - i) size

  -- the first suffix that is Lyndon is where the split cuts
  pub cut_first : (i : ℕ) → 0 < i → i < m → true ≡ lyndon (drop i (spelled k m c)) → ((j : ℕ) → 0 < j → j < i → false ≡ lyndon (drop j (spelled k m c))) → i ≡ cut (spelled k m c)
  cut_first i p l y h = go (cases_order i (cut (spelled k m c)))
    where
      two : 1 < length (spelled k m c)
      two = omega (arith, size)

      at : (0 < cut (spelled k m c)) × (cut (spelled k m c) < length (spelled k m c))
      at = cut_within (spelled k m c) two

      go : (i ≡ cut (spelled k m c)) ⊎ ((i < cut (spelled k m c)) ⊎ (cut (spelled k m c) < i)) → i ≡ cut (spelled k m c)
      go (inl e) = e
      go (inr (inl q)) = absurd (omega (arith, length-take-le (cut (spelled k m c)) (spelled k m c) (omega (arith, at.1)), (cut_splits (spelled k m c) two).longest i p (lyndon_says (drop i (spelled k m c)) (sym y))))
      go (inr (inr q)) = absurd (both_ways (lyndon (drop (cut (spelled k m c)) (spelled k m c))) (sym (h (cut (spelled k m c)) at.0 q)) (says_lyndon (drop (cut (spelled k m c)) (spelled k m c)) (cut_splits (spelled k m c) two).lyndon))
