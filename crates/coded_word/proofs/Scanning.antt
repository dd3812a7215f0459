-- The scan through the codes of a length, which passes codes of no Lyndon words.
use Rattle.std.proofs.Common.{◌≡◌, ℕ, zero, suc, ◌+◌, ◌-◌, ◌*◌, ◌/◌, ◌%◌, ◌^◌, ◌<◌, ◌≤◌, true, false, cond, eqb, ◌⊎◌, inl, inr, [], ◌∷◌, refl, sym, ap, ◌∙◌, add-mul, below_more, div-lt_iff_lt-mul, le-div_iff_mul-le, pow-add, div-add-mod', arith}
use native.Mathlib.Nat.{one-le-pow, div-mul-le_self}
use lib.Arith.{digits_mod, digits_div}
use Rattle.std.proofs.lemmas.Bool.{cases_Bool, ne_eqb}
use Rattle.lyndon.specs.Codes.{spelled}
use Rattle.lyndon.specs.Listing.{lyndon, codes, rest}
use Rattle.lyndon.proofs.Digits.{not_lyndon_by_digits}
use Rattle.lyndon.proofs.Keys.{rest_passed}
use Rattle.coded_word.proofs.Shifted.{shifted, up_next, shifted_suffix, suffix_lyndon, shifted_whole}

-- where codes are passed, the first one and the others are
passed_each : (k m c f : ℕ) → codes k m c (suc f) ≡ [] → (lyndon (spelled k m c) ≡ false) × (codes k m (c + 1) f ≡ [])
unfolding codes
passed_each k m c f none = go (cases_Bool (lyndon (spelled k m c))) none
  where
    go : (lyndon (spelled k m c) ≡ true) ⊎ (lyndon (spelled k m c) ≡ false) → cond (lyndon (spelled k m c)) ((m, c) ∷ codes k m (c + 1) f) (codes k m (c + 1) f) ≡ [] → (lyndon (spelled k m c) ≡ false) × (codes k m (c + 1) f ≡ [])
    go (inl e) none = absurd (let q : (m, c) ∷ codes k m (c + 1) f ≡ [] = rw e at none in cc)
    go (inr e) none = (e, rw e at none)

no_codes : (k m c f : ℕ) → ((d : ℕ) → d < f → false ≡ lyndon (spelled k m (c + d))) → codes k m c f ≡ []
unfolding codes
no_codes k m c zero none = refl
no_codes k m c (suc f) none =
    let here : lyndon (spelled k m c) ≡ false = ap (λ z. lyndon (spelled k m z)) (omega arith) ∙ sym (none 0 (omega arith)) in
    let more : (d : ℕ) → d < f → false ≡ lyndon (spelled k m (c + 1 + d)) = λ d l. none (suc d) (omega arith) ∙ ap (λ z. lyndon (spelled k m z)) (omega arith) in
    rw here (no_codes k m (c + 1) f more)

pub none_passed : (k m c : ℕ) → codes k m c 0 ≡ []
none_passed k m c = no_codes k m c 0 (λ d l. absurd (omega arith))

-- what is left behind codes that are passed
pub rest_behind : (k n m c f : ℕ) → c + f ≤ k ^ m → codes k m c f ≡ [] → rest k n m c ≡ rest k n m (c + f)
rest_behind k n m c zero h none = ap (rest k n m) (omega arith)
rest_behind k n m c (suc f) h none =
    let each = passed_each k m c f none in
    rest_passed k n m c (omega arith) each.0 ∙ rest_behind k n m (c + 1) f (omega arith) each.1 ∙ ap (rest k n m) (omega arith)

-- a word is Lyndon if none is passed from its code on
pub lyndon_by_passed : (k m c r : ℕ) → (r ≡ 0 → true ≡ lyndon (spelled k m c)) → codes k m c r ≡ [] → eqb r 0 ≡ lyndon (spelled k m c)
lyndon_by_passed k m c zero y none = y refl
lyndon_by_passed k m c (suc r) y none = ne_eqb (suc r) 0 (λ q. omega arith) ∙ sym (passed_each k m c r none).0

-- ---- the loop that tries the suffixes of a word

module _ (k m c : ℕ) (some : 1 ≤ k) (coded : c < k ^ m) where
  -- a suffix that is not behind the word shows more codes to be of no Lyndon words: d codes further the suffix is d more, and
  -- the front of its length no less, while what stands before the suffix is the same
  passed : (i d : ℕ) → 0 < i → i < m → shifted k m c i ≤ c → d ≤ (c - shifted k m c i) / k ^ i → (c + d < k ^ m) × (false ≡ lyndon (spelled k m (c + d)))
  passed i d p l h t =
      let S = c % k ^ (m - i) in
      let x : shifted k m c i ≡ S * k ^ i = shifted_suffix k m c some i (m - i) (omega arith) in
      let w : 0 < k ^ i = one-le-pow i k some in
      let v : 0 < k ^ (m - i) = one-le-pow (m - i) k some in
      let up : d * k ^ i ≤ c - shifted k m c i = (le-div_iff_mul-le w).0 t in
      let front : S + d ≤ c / k ^ i = (le-div_iff_mul-le w).1 (omega (arith, add-mul S d (k ^ i))) in
      let sum : m ≡ m - i + i = omega arith in
      let two : k ^ m ≡ k ^ (m - i) * k ^ i = ap (λ z. k ^ z) sum ∙ pow-add k (m - i) i in
      let low : c / k ^ i < k ^ (m - i) = (div-lt_iff_lt-mul w).1 (omega arith) in
      let split : c + d ≡ c / k ^ (m - i) * k ^ (m - i) + (S + d) = omega (arith, div-add-mod' c (k ^ (m - i))) in
      let back : (c + d) % k ^ (m - i) ≡ S + d = ap (λ z. z % k ^ (m - i)) split ∙ digits_mod (c / k ^ (m - i)) (omega arith) in
      let quotient : (c + d) / k ^ (m - i) ≡ c / k ^ (m - i) = ap (λ z. z / k ^ (m - i)) split ∙ digits_div (c / k ^ (m - i)) (omega arith) in
      let high : c / k ^ (m - i) < k ^ i = (div-lt_iff_lt-mul v).1 (omega arith) in
      let high' : (c + d) / k ^ (m - i) < k ^ i = omega arith in
      let here : c + d < k ^ m = omega (arith, (div-lt_iff_lt-mul v).0 high') in
      let more : c / k ^ i ≤ (c + d) / k ^ i = (le-div_iff_mul-le w).1 (omega (arith, div-mul-le_self c (k ^ i))) in
      (here, not_lyndon_by_digits k m (c + d) some here i p l (omega arith))

-- s is the word moved up by i - 1 letters, and the word is before its suffixes behind 1 to i - 1 letters
pub record Led (k m c i s : ℕ) : Type 0 where
  pub up : s ≡ shifted k m c (i - 1)
  pub before : (j : ℕ) → 0 < j → j < i → c < shifted k m c j

pub led_start : (k m c : ℕ) → 1 ≤ k → c < k ^ m → Led k m c 1 c
led_start k m c some coded = record { up = sym (shifted_whole k m c some coded); before = λ j p l. absurd (omega arith) }

pub led_next : (k m c i s w : ℕ) → 1 ≤ i → w ≡ k ^ m → Led k m c i s → c < s * k % w → Led k m c (i + 1) (s * k % w)
led_next k m c i s w one e L h =
    let u : s * k % w ≡ shifted k m c i = up_next k m c i s w one e L.up in
    let same : i + 1 - 1 ≡ i = omega arith in
    record {
      up = rw same u;
      before = λ j p l. below_more (λ j. 0 < j → c < shifted k m c j) i (λ j l p. L.before j p l) (λ _. omega arith) j l p;
    }

pub led_lyndon : (k m c i s : ℕ) → 1 ≤ k → c < k ^ m → 1 ≤ m → m ≤ i → Led k m c i s → true ≡ lyndon (spelled k m c)
led_lyndon k m c i s some coded one end L = suffix_lyndon k m c some coded 0 one (λ j p l. rw (shifted_whole k m c some coded) (L.before j p (omega arith)))

-- the suffix behind i letters is not behind the word
module _ (k m c i s w v : ℕ) (some : 1 ≤ k) (coded : c < k ^ m) (one : 1 ≤ i) (within : i < m) (e : w ≡ k ^ m) (e' : v ≡ k ^ i) (L : Led k m c i s) (h : s * k % w ≤ c) where
  to : (d : ℕ) → d < (c - s * k % w) / v + 1 → (c + d < k ^ m) × (false ≡ lyndon (spelled k m (c + d)))
  to d l =
      let u : s * k % w ≡ shifted k m c i = up_next k m c i s w one e L.up in
      passed k m c some coded i d one within (omega arith) (rw (← u, ← e') (omega arith))

  pub led_passed : codes k m c ((c - s * k % w) / v + 1) ≡ []
  led_passed = no_codes k m c ((c - s * k % w) / v + 1) (λ d l. (to d l).1)

  pub led_within : c + ((c - s * k % w) / v + 1) ≤ w
  led_within = omega (arith, (to ((c - s * k % w) / v) (omega arith)).0)
