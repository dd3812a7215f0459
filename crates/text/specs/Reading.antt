-- What is read from a text of bytes. `W bs w` says that the text bs is well formed, and means w.
use Rattle.std.specs.Prelude.{◌≡◌, ℕ, ◌+◌, ◌-◌, ◌<◌, ◌≤◌, ◌⊎◌, List, [], ◌∷◌, ◌++◌, length, take, drop}

-- some well-formed text begins so
abbrev pub Viable : {A : Type 0} → (List ℕ → List A → Type 0) → List ℕ → Type 0
Viable {A} W front = (rest : List ℕ) × (w : List A) × W (front ++ rest) w

-- p is the first place at which no well-formed text can continue, or the length where the text ends early
pub record Stops {A : Type 0} (W : List ℕ → List A → Type 0) (bs : List ℕ) (p : ℕ) : Type 0 where
  pub within : p ≤ length bs
  pub viable : Viable W (take p bs)
  pub stuck : ((p ≡ length bs) × ((w : List A) → W bs w → ⊥)) ⊎ ((p < length bs) × (Viable W (take (p + 1) bs) → ⊥))

-- what holds of the first byte, if there is one
abbrev pub Begins : (ℕ → Type 0) → List ℕ → Type 0
Begins P [] = Unit {0}
Begins P (c ∷ cs) = P c

-- A reader goes through states. `Rest s bs w` says that in the state s the text bs can be read, and means w.

-- read from the place i on in the state s, the text stops at the place p
abbrev pub Halts : {A S : Type 0} → (S → List ℕ → List A → Type 0) → List ℕ → ℕ → S → ℕ → Type 0
Halts Rest bs i s p = (i ≤ p) × Stops (Rest s) (drop i bs) (p - i)

-- to read from the place i on in the state s is to read w, and then from the place j on in the state z
pub record Leads {A S : Type 0} (Rest : S → List ℕ → List A → Type 0) (bs : List ℕ) (i : ℕ) (s : S) (w : List A) (j : ℕ) (z : S) : Type 0 where
  pub reads : (v : List A) → Rest z (drop j bs) v → Rest s (drop i bs) (w ++ v)
  pub only : (x : List A) → Rest s (drop i bs) x → (v : List A) × (x ≡ w ++ v) × Rest z (drop j bs) v
  pub halts : (p : ℕ) → Halts Rest bs j z p → Halts Rest bs i s p
