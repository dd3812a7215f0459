-- A word cut in two, by quotient and remainder of its code.
use Rattle.std.proofs.Common.{◌≡◌, ℕ, ◌-◌, ◌/◌, ◌%◌, ◌^◌, ◌<◌, ◌≤◌, length, take, drop, refl, sym, ap, ◌∙◌}
use Rattle.lyndon.specs.Codes.{code, spelled}
use Rattle.lyndon.proofs.Codes.{code_below, over-drop, over-take, spelled-code, spelled-over}
use Rattle.lyndon.proofs.Digits.{prefix_code, prefix_size, suffix_code, suffix_size}
use Rattle.coded_word.specs.Codes.{Codes}

module _ (k m c : ℕ) (some : 1 ≤ k) (coded : c < k ^ m) where
  module _ (i r : ℕ) (within : i ≤ m) (weight : r ≡ k ^ (m - i)) where
    pub quotient_coded : c / r < k ^ i
    quotient_coded =
        let b : code k (take i (spelled k m c)) < k ^ length (take i (spelled k m c)) = code_below k (take i (spelled k m c)) (over-take k i (spelled k m c) (spelled-over k m c some coded)) in
        let d : c / k ^ (m - i) < k ^ i = rw (prefix_code k m c some coded i within, prefix_size k m c some coded i within) at b in
        rw weight d

    pub front_codes : Codes k (take i (spelled k m c)) i (c / r)
    front_codes = rw weight (sym (prefix_size k m c some coded i within), sym (prefix_code k m c some coded i within))

    pub back_codes : Codes k (drop i (spelled k m c)) (m - i) (c % r)
    back_codes = rw weight (sym (suffix_size k m c some coded i within), sym (suffix_code k m c some coded i within))

  -- a back is the word with its code
  pub back_spelled : (i : ℕ) → i ≤ m → spelled k (m - i) (c % k ^ (m - i)) ≡ drop i (spelled k m c)
  back_spelled i h =
      let codes = back_codes i (k ^ (m - i)) h refl in
      ap (λ z. spelled k z (c % k ^ (m - i))) codes.0
      ∙ ap (spelled k (length (drop i (spelled k m c)))) codes.1
      ∙ spelled-code k (drop i (spelled k m c)) some (over-drop k i (spelled k m c) (spelled-over k m c some coded))
