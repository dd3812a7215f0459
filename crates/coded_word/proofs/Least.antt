-- The least proper suffix of a word, which is where its split cuts.
use Rattle.std.proofs.Common.{◌≡◌, ℕ, ◌+◌, ◌-◌, ◌*◌, ◌%◌, ◌^◌, ◌<◌, ◌≤◌, ◌⊎◌, inl, inr, sym, below_more, mod-lt, arith}
use native.Mathlib.Nat.{one-le-pow}
use Rattle.std.proofs.lemmas.Bool.{cases_lt}
use Rattle.lyndon.specs.Codes.{spelled}
use Rattle.lyndon.specs.Entries.{cut}
use Rattle.lyndon.proofs.Digits.{cut_first}
use Rattle.coded_word.proofs.Shifted.{shifted, up_next, suffix_lyndon, suffix_not, shifted_whole}

-- s is the word moved up by i - 1 letters; b, the least of its suffixes behind 1 to i - 1 letters, is behind a letters, and
-- of equal ones the last
pub record Least (k m c i s a b : ℕ) : Type 0 where
  pub up : s ≡ shifted k m c (i - 1)
  pub none : a ≡ 0 → b ≡ k ^ m
  pub some : 0 < a → (a < m) × (b ≡ shifted k m c a)
  pub front : (j : ℕ) → 0 < j → j < i → b ≤ shifted k m c j
  pub back : (j : ℕ) → a < j → j < i → b < shifted k m c j

pub least_start : (k m c w : ℕ) → 1 ≤ k → c < k ^ m → w ≡ k ^ m → Least k m c 1 c 0 w
least_start k m c w some coded e = record {
  up = sym (shifted_whole k m c some coded);
  none = λ _. e;
  some = λ p. absurd (omega arith);
  front = λ j p l. absurd (omega arith);
  back = λ j p l. absurd (omega arith);
}

module _ (k m c i s a b w : ℕ) (one : 1 ≤ i) (within : i < m) (e : w ≡ k ^ m) (L : Least k m c i s a b) where
  here : s * k % w ≡ shifted k m c i
  here = up_next k m c i s w one e L.up

  same : i + 1 - 1 ≡ i
  same = omega arith

  pub least_taken : s * k % w ≤ b → Least k m c (i + 1) (s * k % w) i (s * k % w)
  least_taken h = record {
    up = rw same here;
    none = λ z. absurd (omega arith);
    some = λ _. (within, here);
    front = λ j p l. below_more (λ j. 0 < j → s * k % w ≤ shifted k m c j) i (λ j l p. omega (arith, L.front j p l)) (λ _. omega (arith, here)) j l p;
    back = λ j p l. absurd (omega arith);
  }

  pub least_kept : b < s * k % w → Least k m c (i + 1) (s * k % w) a b
  least_kept h = record {
    up = rw same here;
    none = L.none;
    some = L.some;
    front = λ j p l. below_more (λ j. 0 < j → b ≤ shifted k m c j) i (λ j l p. L.front j p l) (λ _. omega (arith, here)) j l p;
    back = λ j p l. below_more (λ j. a < j → b < shifted k m c j) i (λ j l p. L.back j p l) (λ _. omega (arith, here)) j l p;
  }

module _ (k m c i s a b : ℕ) (some : 1 ≤ k) (coded : c < k ^ m) (two : 1 < m) (end : m ≤ i) (L : Least k m c i s a b) where
  pub least_some : 0 < a
  least_some = go (cases_lt 0 a)
    where
      go : (0 < a) ⊎ (a ≤ 0) → 0 < a
      go (inl l) = l
      go (inr l) = absurd (omega (arith, L.none (omega arith), L.front 1 (omega arith) (omega arith), mod-lt (c * k ^ 1) (one-le-pow m k some)))

  pub least_within : a < m
  least_within = (L.some least_some).0

  pub least_cut : a ≡ cut (spelled k m c)
  least_cut =
      let is : b ≡ shifted k m c a = (L.some least_some).1 in
      cut_first k m c some coded a least_some least_within
      (suffix_lyndon k m c some coded a least_within (λ j p l. rw (← is) (L.back j p (omega arith))))
      (λ j p l. suffix_not k m c some coded j a l least_within (rw (← is) (L.front j p (omega (arith, least_within)))))
