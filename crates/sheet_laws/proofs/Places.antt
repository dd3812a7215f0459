-- The front of a word and what is behind it, by quotient and remainder of the word's code.
use Rattle.std.proofs.Common.{◌≡◌, ℕ, ◌+◌, ◌-◌, ◌*◌, ◌/◌, ◌%◌, ◌^◌, ◌<◌, List, length, take, drop, sym, ap, ◌∙◌, arith, mod-lt, pow-add}
use native.Mathlib.Nat.{one-le-pow}
use Rattle.std.proofs.lemmas.Nat.{div_below}
use Rattle.lyndon.specs.Codes.{Over, code, spelled}
use Rattle.lyndon.proofs.Codes.{spelled-over, spelled-code, over-take, over-drop}
use Rattle.lyndon.proofs.Digits.{prefix_code, prefix_size, suffix_code, suffix_size}

module _ (k a b c : ℕ) (some : 0 < k) (here : c < k ^ (a + b)) where
  behind : a + b - a ≡ b
  behind = omega arith

  pub front_below : c / k ^ b < k ^ a
  front_below = div_below c (k ^ b) (k ^ a) (one-le-pow b k some) (rw pow-add at here)

  pub back_below : c % k ^ b < k ^ b
  back_below = mod-lt c (one-le-pow b k some)

  pub code-front : code k (take a (spelled k (a + b) c)) ≡ c / k ^ b
  code-front = prefix_code k (a + b) c some here a (omega arith) ∙ ap (λ n. c / k ^ n) behind

  pub code-back : code k (drop a (spelled k (a + b) c)) ≡ c % k ^ b
  code-back = suffix_code k (a + b) c some here a (omega arith) ∙ ap (λ n. c % k ^ n) behind

  -- a word is spelled again from its length and its code
  again : (m d : ℕ) (w : List ℕ) → Over k w → length w ≡ m → code k w ≡ d → w ≡ spelled k m d
  again m d w o n e = rw (← n, ← e) (sym (spelled-code k w some o))

  over : Over k (spelled k (a + b) c)
  over = spelled-over k (a + b) c some here

  pub take-spelled : take a (spelled k (a + b) c) ≡ spelled k a (c / k ^ b)
  take-spelled =
      let n : length (take a (spelled k (a + b) c)) ≡ a = prefix_size k (a + b) c some here a (omega arith) in
      again a (c / k ^ b) (take a (spelled k (a + b) c)) (over-take k a (spelled k (a + b) c) over) n code-front

  pub drop-spelled : drop a (spelled k (a + b) c) ≡ spelled k b (c % k ^ b)
  drop-spelled =
      let n : length (drop a (spelled k (a + b) c)) ≡ b = suffix_size k (a + b) c some here a (omega arith) ∙ behind in
      again b (c % k ^ b) (drop a (spelled k (a + b) c)) (over-drop k a (spelled k (a + b) c) over) n code-back

-- how many places the sheet of a product has
pub joint_size : (k a b s x y : ℕ) → s ≡ k ^ (a + b) → x ≡ k ^ a → y ≡ k ^ b → s ≡ x * y
joint_size k a b s x y e n m = rw (e, n, m) (pow-add k a b)
