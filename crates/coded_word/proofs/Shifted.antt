-- The suffixes of a word, each filled up with zeros to the length of the word, by their codes.
use Rattle.std.proofs.Common.{◌≡◌, ℕ, ◌+◌, ◌-◌, ◌*◌, ◌/◌, ◌%◌, ◌^◌, ◌<◌, ◌≤◌, true, false, inl, inr, drop, sym, ap, ◌∙◌, mul_assoc, add-mul, add-one, mod-lt, div-lt_iff_lt-mul, pow-suc, pow-add, div-add-mod', arith}
use native.Mathlib.Nat.{one-le-pow, pow-zero, mod-mod_of_dvd, dvd-mul_right, mul-lt-mul_of_pos_right, lt_of_mul-lt-mul_right}
use lib.Arith.{digits_mod}
use Rattle.std.proofs.lemmas.Bool.{cases_lt}
use Rattle.std.proofs.lemmas.Nat.{mul-mod_first}
use Rattle.lyndon.specs.Codes.{spelled}
use Rattle.lyndon.specs.Listing.{lyndon}
use Rattle.lyndon.proofs.Digits.{lyndon_by_digits, not_lyndon_by_digits}
use Rattle.coded_word.proofs.Cutting.{back_spelled}

-- the suffix behind i letters, and i zeros
abbrev pub shifted : ℕ → ℕ → ℕ → ℕ → ℕ
shifted k m c i = c * k ^ i % k ^ m

shifted_next : (k m c i : ℕ) → shifted k m c i * k % k ^ m ≡ shifted k m c (i + 1)
shifted_next k m c i =
    let p : k ^ i * k ≡ k ^ (i + 1) = rw (add-one, pow-suc) in
    mul-mod_first (c * k ^ i) k (k ^ m)
    ∙ ap (λ z. z % k ^ m) (mul_assoc c (k ^ i) k ∙ ap (λ z. c * z) p)

-- one letter more, in a loop
pub up_next : (k m c i s w : ℕ) → 1 ≤ i → w ≡ k ^ m → s ≡ shifted k m c (i - 1) → s * k % w ≡ shifted k m c i
up_next k m c i s w one e u =
    let back : i - 1 + 1 ≡ i = omega arith in
    ap (λ z. s * k % z) e ∙ ap (λ z. z * k % k ^ m) u ∙ shifted_next k m c (i - 1) ∙ ap (shifted k m c) back

-- the remainder of a multiple
scaled_mod : (c v w : ℕ) → 0 < v → 0 < w → c * w % (v * w) ≡ c % v * w
scaled_mod c v w hv hw =
    let whole : c / v * (v * w) + c % v * w ≡ c * w = sym (ap (λ z. z + c % v * w) (mul_assoc (c / v) v w)) ∙ sym (add-mul (c / v * v) (c % v) w) ∙ ap (λ z. z * w) (div-add-mod' c v) in
    let low : c % v * w < v * w = mul-lt-mul_of_pos_right (mod-lt c hv) hw in
    ap (λ z. z % (v * w)) (sym whole) ∙ digits_mod (c / v) low

module _ (k m c : ℕ) (some : 1 ≤ k) where
  pos : (j : ℕ) → 0 < k ^ j
  pos j = one-le-pow j k some

  pub shifted_suffix : (i r : ℕ) → m ≡ r + i → shifted k m c i ≡ c % k ^ r * k ^ i
  shifted_suffix i r e = ap (λ z. c * k ^ i % k ^ z) e ∙ ap (λ z. c * k ^ i % z) (pow-add k r i) ∙ scaled_mod c (k ^ r) (k ^ i) (pos r) (pos i)

  -- the suffix behind i letters against the one behind e more
  module _ (i e r : ℕ) (all : m ≡ r + e + i) where
    longer : shifted k m c i ≡ c % k ^ (r + e) * k ^ i
    longer = shifted_suffix i (r + e) all

    shorter : shifted k m c (i + e) ≡ c % k ^ (r + e) % k ^ r * k ^ e * k ^ i
    shorter =
        let d : Prim.Native.Nat.◌∣◌ (k ^ r) (k ^ (r + e)) = rw (pow-add k r e) (dvd-mul_right (k ^ r) (k ^ e)) in
        let inner : c % k ^ (r + e) % k ^ r ≡ c % k ^ r = mod-mod_of_dvd (k ^ r) c d in
        let p : k ^ (i + e) ≡ k ^ e * k ^ i = rw (pow-add k i e) (omega arith) in
        let q : m ≡ r + (i + e) = omega arith in
        shifted_suffix (i + e) r q ∙ ap (λ z. c % k ^ r * z) p ∙ sym (mul_assoc (c % k ^ r) (k ^ e) (k ^ i)) ∙ ap (λ z. z * k ^ e * k ^ i) (sym inner)

    leads_by_shifted : shifted k m c i < shifted k m c (i + e) → c % k ^ (r + e) / k ^ e < c % k ^ (r + e) % k ^ r
    leads_by_shifted h =
        let h' : c % k ^ (r + e) * k ^ i < c % k ^ (r + e) % k ^ r * k ^ e * k ^ i = rw (longer, shorter) at h in
        (div-lt_iff_lt-mul (pos e)).1 (lt_of_mul-lt-mul_right (k ^ i) h')

    trails_by_shifted : shifted k m c (i + e) ≤ shifted k m c i → c % k ^ (r + e) % k ^ r ≤ c % k ^ (r + e) / k ^ e
    trails_by_shifted h =
        elim (cases_lt (c % k ^ (r + e) / k ^ e) (c % k ^ (r + e) % k ^ r)) [
          | inl l ↦
              let l' : c % k ^ (r + e) * k ^ i < c % k ^ (r + e) % k ^ r * k ^ e * k ^ i = mul-lt-mul_of_pos_right ((div-lt_iff_lt-mul (pos e)).0 l) (pos i) in
              absurd (omega (arith, longer, shorter))
          | inr l ↦ l
        ]

  -- ---- a suffix, and whether it is Lyndon

  module _ (coded : c < k ^ m) where
    -- the suffix behind i letters, where it is before each shorter one
    pub suffix_lyndon : (i : ℕ) → i < m → ((j : ℕ) → i < j → j < m → shifted k m c i < shifted k m c j) → true ≡ lyndon (drop i (spelled k m c))
    suffix_lyndon i l h =
        lyndon_by_digits k (m - i) (c % k ^ (m - i)) some (mod-lt c (pos (m - i))) (omega arith) (λ j p q.
        let e : m - i - j + j ≡ m - i = omega arith in
        let all : m ≡ m - i - j + j + i = omega arith in
        rw e at (leads_by_shifted i j (m - i - j) all (h (i + j) (omega arith) (omega arith))))
        ∙ ap lyndon (back_spelled k m c some coded i (omega arith))

    -- and where it is not
    pub suffix_not : (i j : ℕ) → i < j → j < m → shifted k m c j ≤ shifted k m c i → false ≡ lyndon (drop i (spelled k m c))
    suffix_not i j l n h =
        let e : m - j + (j - i) ≡ m - i = omega arith in
        let e' : i + (j - i) ≡ j = omega arith in
        let r : m - i - (j - i) ≡ m - j = omega arith in
        let all : m ≡ m - j + (j - i) + i = omega arith in
        let t : c % k ^ (m - i) % k ^ (m - i - (j - i)) ≤ c % k ^ (m - i) / k ^ (j - i) = rw (e, ← r) at (trails_by_shifted i (j - i) (m - j) all (rw e' h)) in
        not_lyndon_by_digits k (m - i) (c % k ^ (m - i)) some (mod-lt c (pos (m - i))) (j - i) (omega arith) (omega arith) t
        ∙ ap lyndon (back_spelled k m c some coded i (omega arith))

    pub shifted_whole : shifted k m c 0 ≡ c
    shifted_whole =
        let e : c * k ^ 0 ≡ 0 * k ^ m + c = rw pow-zero (omega arith) in
        ap (λ z. z % k ^ m) e ∙ digits_mod 0 coded
