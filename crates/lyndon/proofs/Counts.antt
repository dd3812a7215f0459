-- No shape has more than 1,496 Lyndon words.
use Rattle.std.proofs.Common.{◌≡◌, ℕ, zero, suc, ◌+◌, ◌^◌, ◌<◌, ◌≤◌, length, refl, subst, inl, inr, arith}
use native.Mathlib.Nat.{pow-le-pow_right}
use Rattle.std.proofs.lemmas.List.{length-append}
use Rattle.std.proofs.lemmas.Bool.{cases_lt}
use Rattle.lyndon.specs.Listing.{lyndon, codes, lengths, keys}

-- a greater depth has no fewer
lengths_more : (k m i j : ℕ) → i ≤ j → length (lengths k m i) ≤ length (lengths k m j)
unfolding lengths
lengths_more k m zero j h = omega arith
lengths_more k m (suc i) zero h = absurd (omega arith)
lengths_more k m (suc i) (suc j) h =
    let more = lengths_more k (m + 1) i j (omega arith) in
    rw (length-append (codes k m 0 (k ^ m)) (lengths k (m + 1) i), length-append (codes k m 0 (k ^ m)) (lengths k (m + 1) j)) (omega arith)

keys_more : (k i j : ℕ) → i ≤ j → length (keys k i) ≤ length (keys k j)
unfolding keys
keys_more k i j h = lengths_more k 1 i j h

-- the depths of a shape of k letters are at most `top`
abbrev Few : ℕ → Type 0
Few k = (n : ℕ) → n ≤ 12 → k ^ n ≤ 4096 → length (keys k n) ≤ 1496

few_from : (k top count : ℕ) → 1 ≤ k → 4096 < k ^ (top + 1) → length (keys k top) ≡ count → count ≤ 1496 → Few k
few_from k top count some high is few n h p =
    elim (cases_lt top n) [
      | inl l ↦ absurd (let up : k ^ (top + 1) ≤ k ^ n = pow-le-pow_right some (omega arith) in omega arith)
      | inr l ↦ omega (arith, keys_more k n top l)
    ]

count_1 : length (keys 1 12) ≡ 1
unfolding lyndon codes lengths keys
count_1 = refl

count_2 : length (keys 2 12) ≡ 747
unfolding lyndon codes lengths keys
count_2 = refl

count_3 : length (keys 3 7) ≡ 508
unfolding lyndon codes lengths keys
count_3 = refl

count_4 : length (keys 4 6) ≡ 964
unfolding lyndon codes lengths keys
count_4 = refl

count_5 : length (keys 5 5) ≡ 829
unfolding lyndon codes lengths keys
count_5 = refl

count_6 : length (keys 6 4) ≡ 406
unfolding lyndon codes lengths keys
count_6 = refl

count_7 : length (keys 7 4) ≡ 728
unfolding lyndon codes lengths keys
count_7 = refl

count_8 : length (keys 8 4) ≡ 1212
unfolding lyndon codes lengths keys
count_8 = refl

count_9 : length (keys 9 3) ≡ 285
unfolding lyndon codes lengths keys
count_9 = refl

count_10 : length (keys 10 3) ≡ 385
unfolding lyndon codes lengths keys
count_10 = refl

count_11 : length (keys 11 3) ≡ 506
unfolding lyndon codes lengths keys
count_11 = refl

count_12 : length (keys 12 3) ≡ 650
unfolding lyndon codes lengths keys
count_12 = refl

count_13 : length (keys 13 3) ≡ 819
unfolding lyndon codes lengths keys
count_13 = refl

count_14 : length (keys 14 3) ≡ 1015
unfolding lyndon codes lengths keys
count_14 = refl

count_15 : length (keys 15 3) ≡ 1240
unfolding lyndon codes lengths keys
count_15 = refl

count_16 : length (keys 16 3) ≡ 1496
unfolding lyndon codes lengths keys
count_16 = refl

step : (P : ℕ → Type 0) (k m : ℕ) → m ≤ k → P m → (suc m ≤ k → P k) → P k
step P k m h here more =
    elim (cases_lt m k) [ inl l ↦ more l | inr l ↦ let e : m ≡ k = omega arith in subst P e here ]

few_of : (k : ℕ) → 1 ≤ k → k ≤ 16 → Few k
few_of k some few =
    step Few k 1 some (λ n h p. omega (arith, keys_more 1 n 12 h, count_1))
    (λ h2. step Few k 2 h2 (few_from 2 12 747 (omega arith) (omega arith) count_2 (omega arith))
    (λ h3. step Few k 3 h3 (few_from 3 7 508 (omega arith) (omega arith) count_3 (omega arith))
    (λ h4. step Few k 4 h4 (few_from 4 6 964 (omega arith) (omega arith) count_4 (omega arith))
    (λ h5. step Few k 5 h5 (few_from 5 5 829 (omega arith) (omega arith) count_5 (omega arith))
    (λ h6. step Few k 6 h6 (few_from 6 4 406 (omega arith) (omega arith) count_6 (omega arith))
    (λ h7. step Few k 7 h7 (few_from 7 4 728 (omega arith) (omega arith) count_7 (omega arith))
    (λ h8. step Few k 8 h8 (few_from 8 4 1212 (omega arith) (omega arith) count_8 (omega arith))
    (λ h9. step Few k 9 h9 (few_from 9 3 285 (omega arith) (omega arith) count_9 (omega arith))
    (λ h10. step Few k 10 h10 (few_from 10 3 385 (omega arith) (omega arith) count_10 (omega arith))
    (λ h11. step Few k 11 h11 (few_from 11 3 506 (omega arith) (omega arith) count_11 (omega arith))
    (λ h12. step Few k 12 h12 (few_from 12 3 650 (omega arith) (omega arith) count_12 (omega arith))
    (λ h13. step Few k 13 h13 (few_from 13 3 819 (omega arith) (omega arith) count_13 (omega arith))
    (λ h14. step Few k 14 h14 (few_from 14 3 1015 (omega arith) (omega arith) count_14 (omega arith))
    (λ h15. step Few k 15 h15 (few_from 15 3 1240 (omega arith) (omega arith) count_15 (omega arith))
    (λ h16. step Few k 16 h16 (few_from 16 3 1496 (omega arith) (omega arith) count_16 (omega arith))
    (λ h. absurd (omega arith)))))))))))))))))

pub few_keys : (k n : ℕ) → 1 ≤ k → k ≤ 16 → n ≤ 12 → k ^ n ≤ 4096 → length (keys k n) ≤ 1496
few_keys k n some letters depth words = few_of k some letters n depth words
