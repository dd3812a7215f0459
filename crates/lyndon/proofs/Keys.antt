-- The keys of a shape: each Lyndon word once, in listing order.
use Rattle.std.proofs.Common.{◌≡◌, ℕ, zero, suc, ◌+◌, ◌-◌, ◌^◌, ◌<◌, ◌≤◌, true, false, cond, ◌⊎◌, [], ◌∷◌, ◌++◌, sym, refl, ap, subst, inl, inr, arith}
use Rattle.std.specs.List.{AllByRecursion}
use Rattle.std.proofs.lemmas.Bool.{cases_Bool, cases_lt}
use Rattle.std.proofs.ByRecursion.{All-append, All-weaker}
use Rattle.lyndon.specs.Codes.{spelled}
use Rattle.lyndon.specs.Listing.{In, Rising}
use Rattle.lyndon.specs.Listing.{lyndon, codes, lengths, keys, rest}
use Rattle.lyndon.proofs.Rises.{in_left, in_right, rising_append}

abbrev pub Sooner : ℕ × ℕ → ℕ × ℕ → Type 0
Sooner x y = (x.0 < y.0) ⊎ ((x.0 ≡ y.0) × (x.1 < y.1))

-- x is a Lyndon word of m letters, with a code from c to below top
pub record Coded (k m c top : ℕ) (x : ℕ × ℕ) : Type 0 where
  pub size : x.0 ≡ m
  pub low : c ≤ x.1
  pub high : x.1 < top
  pub lyn : lyndon (spelled k x.0 x.1) ≡ true

-- x is a Lyndon word of m to n letters
pub record Keyed (k m n : ℕ) (x : ℕ × ℕ) : Type 0 where
  pub least : m ≤ x.0
  pub most : x.0 ≤ n
  pub high : x.1 < k ^ x.0
  pub lyn : lyndon (spelled k x.0 x.1) ≡ true

later : (k m c top : ℕ) (x : ℕ × ℕ) → Coded k m (c + 1) top x → Coded k m c top x
later k m c top x h = record { size = h.size; low = omega (arith, h.low); high = h.high; lyn = h.lyn }

pub codes_each : (k m c f top : ℕ) → c + f ≤ top → AllByRecursion (Coded k m c top) (codes k m c f)
unfolding codes
codes_each k m c zero top h = tt
codes_each k m c (suc f) top h = go (cases_Bool (lyndon (spelled k m c))) (All-weaker (Coded k m (c + 1) top) (Coded k m c top) (later k m c top) (codes k m (c + 1) f) (codes_each k m (c + 1) f top (omega arith)))
  where
    go : (lyndon (spelled k m c) ≡ true) ⊎ (lyndon (spelled k m c) ≡ false) → AllByRecursion (Coded k m c top) (codes k m (c + 1) f) → AllByRecursion (Coded k m c top) (cond (lyndon (spelled k m c)) ((m, c) ∷ codes k m (c + 1) f) (codes k m (c + 1) f))
    go (inl e) a = rw e (record { size = refl; low = omega arith; high = omega arith; lyn = e }, a)
    go (inr e) a = rw e a

pub codes_rising : (k m c f : ℕ) → Rising Sooner (codes k m c f)
unfolding codes
codes_rising k m c zero = tt
codes_rising k m c (suc f) = go (cases_Bool (lyndon (spelled k m c))) (codes_rising k m (c + 1) f)
  where
    go : (lyndon (spelled k m c) ≡ true) ⊎ (lyndon (spelled k m c) ≡ false) → Rising Sooner (codes k m (c + 1) f) → Rising Sooner (cond (lyndon (spelled k m c)) ((m, c) ∷ codes k m (c + 1) f) (codes k m (c + 1) f))
    go (inl e) a = rw e (All-weaker (Coded k m (c + 1) (c + 1 + f)) (Sooner (m, c)) (λ x h. inr (sym h.size, omega (arith, h.low))) (codes k m (c + 1) f) (codes_each k m (c + 1) f (c + 1 + f) (omega arith)), a)
    go (inr e) a = rw e a

pub codes_has : (k m c f d : ℕ) → lyndon (spelled k m d) ≡ true → c ≤ d → d < c + f → In (m, d) (codes k m c f)
unfolding codes
codes_has k m c zero d l h h' = absurd (omega arith)
codes_has k m c (suc f) d l h h' = go (cases_lt c d) (cases_Bool (lyndon (spelled k m c))) (λ b. codes_has k m (c + 1) f d l b (omega arith))
  where
    go : (c < d) ⊎ (d ≤ c) → (lyndon (spelled k m c) ≡ true) ⊎ (lyndon (spelled k m c) ≡ false) → (c + 1 ≤ d → In (m, d) (codes k m (c + 1) f)) → In (m, d) (cond (lyndon (spelled k m c)) ((m, c) ∷ codes k m (c + 1) f) (codes k m (c + 1) f))
    go (inl b) (inl e) more = rw e (inr (more (omega arith)))
    go (inl b) (inr e) more = rw e (more (omega arith))
    go (inr b) s more = let q : d ≡ c = omega arith in rw (subst (λ z. lyndon (spelled k m z) ≡ true) q l) (inl (ap (λ z. (m, z)) q))

keyed_later : (k m n : ℕ) (x : ℕ × ℕ) → Keyed k (m + 1) n x → Keyed k m n x
keyed_later k m n x h = record { least = omega (arith, h.least); most = h.most; high = h.high; lyn = h.lyn }

pub lengths_each : (k m j n : ℕ) → m + j ≤ n + 1 → AllByRecursion (Keyed k m n) (lengths k m j)
unfolding lengths
lengths_each k m zero n h = tt
lengths_each k m (suc j) n h =
    All-append (Keyed k m n) (codes k m 0 (k ^ m)) (lengths k (m + 1) j)
    (All-weaker (Coded k m 0 (k ^ m)) (Keyed k m n) (λ x a. record { least = omega (arith, a.size); most = omega (arith, a.size); high = rw a.size a.high; lyn = a.lyn }) (codes k m 0 (k ^ m)) (codes_each k m 0 (k ^ m) (k ^ m) (omega arith)))
    (All-weaker (Keyed k (m + 1) n) (Keyed k m n) (keyed_later k m n) (lengths k (m + 1) j) (lengths_each k (m + 1) j n (omega arith)))

pub lengths_rising : (k m j : ℕ) → Rising Sooner (lengths k m j)
unfolding lengths
lengths_rising k m zero = tt
lengths_rising k m (suc j) =
    rising_append Sooner (codes k m 0 (k ^ m)) (lengths k (m + 1) j) (codes_rising k m 0 (k ^ m)) (lengths_rising k (m + 1) j)
    (All-weaker (Coded k m 0 (k ^ m)) (λ x. AllByRecursion (Sooner x) (lengths k (m + 1) j)) (λ x a.
    All-weaker (Keyed k (m + 1) (m + j)) (Sooner x) (λ y b. inl (omega (arith, a.size, b.least))) (lengths k (m + 1) j) (lengths_each k (m + 1) j (m + j) (omega arith)))
    (codes k m 0 (k ^ m)) (codes_each k m 0 (k ^ m) (k ^ m) (omega arith)))

pub lengths_has : (k m j l d : ℕ) → lyndon (spelled k l d) ≡ true → m ≤ l → l < m + j → d < k ^ l → In (l, d) (lengths k m j)
unfolding lengths
lengths_has k m zero l d y h h' t = absurd (omega arith)
lengths_has k m (suc j) l d y h h' t = go (cases_lt m l) (λ b. lengths_has k (m + 1) j l d y b (omega arith) t)
  where
    go : (m < l) ⊎ (l ≤ m) → (m + 1 ≤ l → In (l, d) (lengths k (m + 1) j)) → In (l, d) (codes k m 0 (k ^ m) ++ lengths k (m + 1) j)
    go (inl b) more = in_right (l, d) (codes k m 0 (k ^ m)) (lengths k (m + 1) j) (more (omega arith))
    go (inr b) more =
        let e : m ≡ l = omega arith in
        rw e (in_left (l, d) (codes k l 0 (k ^ l)) (lengths k (l + 1) j) (codes_has k l 0 (k ^ l) d y (omega arith) (omega arith)))

pub keys_each : (k n : ℕ) → AllByRecursion (Keyed k 1 n) (keys k n)
unfolding keys
keys_each k n = lengths_each k 1 n n (omega arith)

pub keys_rising : (k n : ℕ) → Rising Sooner (keys k n)
unfolding keys
keys_rising k n = lengths_rising k 1 n

pub keys_has : (k n l d : ℕ) → lyndon (spelled k l d) ≡ true → 1 ≤ l → l ≤ n → d < k ^ l → In (l, d) (keys k n)
unfolding keys
keys_has k n l d y h h' t = lengths_has k 1 n l d y h (omega arith) t

-- ---- what is left from a word on

pub rest_start : (k n : ℕ) → 1 ≤ n → keys k n ≡ rest k n 1 0
unfolding keys rest
rest_start k zero h = absurd (omega arith)
rest_start k (suc n) h =
    let a : k ^ 1 - 0 ≡ k ^ 1 = omega arith in
    let b : suc n - 1 ≡ n = omega arith in
    rw (a, b) (unfold lengths in refl)

module _ (k n m c : ℕ) (here : c < k ^ m) where
  one_less : k ^ m - c ≡ suc (k ^ m - (c + 1))
  one_less = omega arith

  pub rest_found : lyndon (spelled k m c) ≡ true → rest k n m c ≡ (m, c) ∷ rest k n m (c + 1)
  unfolding rest codes
  rest_found e = rw (one_less, e)

  pub rest_passed : lyndon (spelled k m c) ≡ false → rest k n m c ≡ rest k n m (c + 1)
  unfolding rest codes
  rest_passed e = rw (one_less, e)

module _ (k n m c : ℕ) (here : k ^ m ≤ c) where
  no_more : k ^ m - c ≡ 0
  no_more = omega arith

  pub rest_longer : m < n → rest k n m c ≡ rest k n (m + 1) 0
  unfolding rest codes lengths
  rest_longer h =
      let a : n - m ≡ suc (n - (m + 1)) = omega arith in
      let b : k ^ (m + 1) - 0 ≡ k ^ (m + 1) = omega arith in
      rw (no_more, a, b)

  pub rest_none : n ≤ m → rest k n m c ≡ []
  unfolding rest codes lengths
  rest_none h =
      let a : n - m ≡ 0 = omega arith in
      rw (no_more, a)

-- none of those is shorter
pub rest_each : (k n m c l : ℕ) → l ≤ m → AllByRecursion (λ x. l ≤ x.0) (rest k n m c)
unfolding rest
rest_each k n m c l h =
    All-append (λ x. l ≤ x.0) (codes k m c (k ^ m - c)) (lengths k (m + 1) (n - m))
    (All-weaker (Coded k m c (c + (k ^ m - c))) (λ x. l ≤ x.0) (λ x a. omega (arith, a.size)) (codes k m c (k ^ m - c)) (codes_each k m c (k ^ m - c) (c + (k ^ m - c)) (omega arith)))
    (All-weaker (Keyed k (m + 1) (m + 1 + (n - m))) (λ x. l ≤ x.0) (λ x a. omega (arith, a.least)) (lengths k (m + 1) (n - m)) (lengths_each k (m + 1) (n - m) (m + 1 + (n - m)) (omega arith)))
