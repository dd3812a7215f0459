-- Equations that hold in every ring, proved by a normal form of both sides that computes.
-- `solve l values a b refl` proves `eval r values a ≡ eval r values b`, where a and b are terms over the places of the list `values`.
use Rattle.std.proofs.Common.{◌≡◌, ℕ, Bool, true, false, not, eqb, ltb, leb, List, [], ◌∷◌, get_or, refl, sym, ap, ap₂, ◌∙◌, eqb-true}
use Rattle.ring_laws.specs.Rings.{Operations, CommutativeRing}
use Rattle.ring_laws.proofs.Basics.{zero_plus, negative_plus, plus_swap, times_swap, one_times, plus_times, times_zero, zero_times}
use Rattle.ring_laws.proofs.Basics.{negative_negative, negative_zero, plus_negatives, negative_times, times_negative}

infixl 50 ◌⊕◌
infixl 60 ◌⊗◌
infixl 70 ⊖◌
pub data Term : Type 0 where
  var : ℕ → Term
  𝟘 𝟙 : Term
  ◌⊕◌ : Term → Term → Term
  ◌⊗◌ : Term → Term → Term
  ⊖◌ : Term → Term

-- a product of variables, in order, and its sign (true: plus)
pub record Part : Type 0 where
  pub sign : Bool
  pub vars : List ℕ

pub data Order : Type 0 where
  less same more : Order

abbrev pick : Bool → Bool → Order → Order
pick true lower o = o
pick false true o = less
pick false false o = more

abbrev order : List ℕ → List ℕ → Order
order [] [] = same
order [] (y ∷ ys) = less
order (x ∷ xs) [] = more
order (x ∷ xs) (y ∷ ys) = pick (eqb x y) (ltb x y) (order xs ys)

abbrev put_var : Bool → ℕ → ℕ → List ℕ → List ℕ → List ℕ
put_var true v w m further = v ∷ w ∷ m
put_var false v w m further = w ∷ further

abbrev with_var : ℕ → List ℕ → List ℕ
with_var v [] = v ∷ []
with_var v (w ∷ m) = put_var (leb v w) v w m (with_var v m)

abbrev with_vars : List ℕ → List ℕ → List ℕ
with_vars [] n = n
with_vars (v ∷ m) n = with_var v (with_vars m n)

-- a product and the same one with the other sign go together
abbrev meet : Bool → Bool → Part → Part → List Part → List Part
meet true true t u p = t ∷ u ∷ p
meet true false t u p = p
meet false true t u p = p
meet false false t u p = t ∷ u ∷ p

abbrev put_part : Order → Part → Part → List Part → List Part → List Part
put_part less t u p further = t ∷ u ∷ p
put_part same t u p further = meet t.sign u.sign t u p
put_part more t u p further = u ∷ further

abbrev with_part : Part → List Part → List Part
with_part t [] = t ∷ []
with_part t (u ∷ p) = put_part (order t.vars u.vars) t u p (with_part t p)

abbrev with_parts : List Part → List Part → List Part
with_parts [] q = q
with_parts (t ∷ p) q = with_part t (with_parts p q)

abbrev agree : Bool → Bool → Bool
agree true b = b
agree false b = not b

abbrev part_times : Part → List Part → List Part
part_times t [] = []
part_times t (u ∷ q) = with_part (record { sign = agree t.sign u.sign; vars = with_vars t.vars u.vars }) (part_times t q)

abbrev parts_times : List Part → List Part → List Part
parts_times [] q = []
parts_times (t ∷ p) q = with_parts (part_times t q) (parts_times p q)

abbrev opposites : List Part → List Part
opposites [] = []
opposites (t ∷ p) = record { sign = not t.sign; vars = t.vars } ∷ opposites p

-- the normal form: a sum of parts, in order
abbrev pub norm : Term → List Part
norm (var n) = record { sign = true; vars = n ∷ [] } ∷ []
norm 𝟘 = []
norm 𝟙 = record { sign = true; vars = [] } ∷ []
norm (a ⊕ b) = with_parts (norm a) (norm b)
norm (a ⊗ b) = parts_times (norm a) (norm b)
norm (⊖ a) = opposites (norm a)

module _ {A : Type 0} (r : Operations A) (values : List A) where
  -- what a term comes to at these values
  abbrev pub eval : Term → A
  eval (var n) = get_or values n r.zero
  eval 𝟘 = r.zero
  eval 𝟙 = r.one
  eval (a ⊕ b) = r.plus (eval a) (eval b)
  eval (a ⊗ b) = r.times (eval a) (eval b)
  eval (⊖ a) = r.negative (eval a)

  abbrev product : List ℕ → A
  product [] = r.one
  product (v ∷ m) = r.times (get_or values v r.zero) (product m)

  abbrev signed : Bool → A → A
  signed true a = a
  signed false a = r.negative a

  abbrev part : Part → A
  part t = signed t.sign (product t.vars)

  abbrev total : List Part → A
  total [] = r.zero
  total (t ∷ p) = r.plus (part t) (total p)

pick_same : (x y : ℕ) (xs ys : List ℕ) (b lower : Bool) (o : Order) →
    eqb x y ≡ b → (o ≡ same → xs ≡ ys) → pick b lower o ≡ same → x ∷ xs ≡ y ∷ ys
pick_same x y xs ys true lower o test rest e = ap₂ ◌∷◌ (eqb-true x y test) (rest e)
pick_same x y xs ys false true o test rest e = cc
pick_same x y xs ys false false o test rest e = cc

order_same : (xs ys : List ℕ) → order xs ys ≡ same → xs ≡ ys
order_same [] [] e = refl
order_same [] (y ∷ ys) e = cc
order_same (x ∷ xs) [] e = cc
order_same (x ∷ xs) (y ∷ ys) e = pick_same x y xs ys (eqb x y) (ltb x y) (order xs ys) refl (order_same xs ys) e

module _ {A : Type 0} {r : Operations A} (l : CommutativeRing r) (values : List A) where
  abbrev at : ℕ → A
  at v = get_or values v r.zero

  abbrev prod : List ℕ → A
  prod = product r values

  abbrev one_part : Part → A
  one_part = part r values

  abbrev sum : List Part → A
  sum = total r values

  put_var_sound : (b : Bool) (v w : ℕ) (m further : List ℕ) →
      prod further ≡ r.times (at v) (prod m) → prod (put_var b v w m further) ≡ r.times (at v) (prod (w ∷ m))
  put_var_sound true v w m further h = refl
  put_var_sound false v w m further h = ap (r.times (at w)) h ∙ times_swap l _ _ _

  with_var_sound : (v : ℕ) (m : List ℕ) → prod (with_var v m) ≡ r.times (at v) (prod m)
  with_var_sound v [] = refl
  with_var_sound v (w ∷ m) = put_var_sound (leb v w) v w m (with_var v m) (with_var_sound v m)

  with_vars_sound : (m n : List ℕ) → prod (with_vars m n) ≡ r.times (prod m) (prod n)
  with_vars_sound [] n = sym (one_times l (prod n))
  with_vars_sound (v ∷ m) n =
      with_var_sound v (with_vars m n) ∙ ap (r.times (at v)) (with_vars_sound m n) ∙ sym (l.times_associative _ _ _)

  -- two parts that cancel
  gone : (a b c : A) → r.plus a b ≡ r.zero → c ≡ r.plus a (r.plus b c)
  gone a b c e = sym (zero_plus l c) ∙ ap (λ x. r.plus x c) (sym e) ∙ l.plus_associative a b c

  -- two parts of these signs
  signs : (s z : Bool) (t u : Part) → t.sign ≡ s → u.sign ≡ z → t.vars ≡ u.vars →
      r.plus (one_part t) (one_part u) ≡ r.plus (signed r values s (prod u.vars)) (signed r values z (prod u.vars))
  signs s z t u st su e =
      ap₂ (λ x y. r.plus (signed r values x (prod t.vars)) (signed r values y (prod u.vars))) st su
      ∙ ap (λ x. r.plus (signed r values s (prod x)) (signed r values z (prod u.vars))) e

  meet_sound : (s z : Bool) (t u : Part) (p : List Part) → t.sign ≡ s → u.sign ≡ z → t.vars ≡ u.vars →
      sum (meet s z t u p) ≡ r.plus (one_part t) (sum (u ∷ p))
  meet_sound true true t u p st su e = refl
  meet_sound false false t u p st su e = refl
  meet_sound true false t u p st su e = gone (one_part t) (one_part u) (sum p) (signs true false t u st su e ∙ l.plus_negative _)
  meet_sound false true t u p st su e = gone (one_part t) (one_part u) (sum p) (signs false true t u st su e ∙ negative_plus l _)

  put_part_sound : (o : Order) (t u : Part) (p further : List Part) → order t.vars u.vars ≡ o → sum further ≡ r.plus (one_part t) (sum p) →
      sum (put_part o t u p further) ≡ r.plus (one_part t) (sum (u ∷ p))
  put_part_sound less t u p further e h = refl
  put_part_sound same t u p further e h = meet_sound t.sign u.sign t u p refl refl (order_same t.vars u.vars e)
  put_part_sound more t u p further e h = ap (r.plus (one_part u)) h ∙ plus_swap l _ _ _

  with_part_sound : (t : Part) (p : List Part) → sum (with_part t p) ≡ r.plus (one_part t) (sum p)
  with_part_sound t [] = refl
  with_part_sound t (u ∷ p) = put_part_sound (order t.vars u.vars) t u p (with_part t p) refl (with_part_sound t p)

  with_parts_sound : (p q : List Part) → sum (with_parts p q) ≡ r.plus (sum p) (sum q)
  with_parts_sound [] q = sym (zero_plus l (sum q))
  with_parts_sound (t ∷ p) q =
      with_part_sound t (with_parts p q) ∙ ap (r.plus (one_part t)) (with_parts_sound p q) ∙ sym (l.plus_associative _ _ _)

  agree_sound : (s z : Bool) (a b : A) →
      signed r values (agree s z) (r.times a b) ≡ r.times (signed r values s a) (signed r values z b)
  agree_sound true true a b = refl
  agree_sound true false a b = sym (times_negative l a b)
  agree_sound false true a b = sym (negative_times l a b)
  agree_sound false false a b = sym (negative_times l a (r.negative b) ∙ ap r.negative (times_negative l a b) ∙ negative_negative l (r.times a b))

  part_times_sound : (t : Part) (q : List Part) → sum (part_times t q) ≡ r.times (one_part t) (sum q)
  part_times_sound t [] = sym (times_zero l _)
  part_times_sound t (u ∷ q) =
      with_part_sound (record { sign = agree t.sign u.sign; vars = with_vars t.vars u.vars }) (part_times t q)
      ∙ ap₂ r.plus (ap (signed r values (agree t.sign u.sign)) (with_vars_sound t.vars u.vars) ∙ agree_sound t.sign u.sign _ _) (part_times_sound t q)
      ∙ sym (l.times_plus _ _ _)

  parts_times_sound : (p q : List Part) → sum (parts_times p q) ≡ r.times (sum p) (sum q)
  parts_times_sound [] q = sym (zero_times l (sum q))
  parts_times_sound (t ∷ p) q =
      with_parts_sound (part_times t q) (parts_times p q) ∙ ap₂ r.plus (part_times_sound t q) (parts_times_sound p q) ∙ sym (plus_times l _ _ _)

  signed_not : (s : Bool) (a : A) → signed r values (not s) a ≡ r.negative (signed r values s a)
  signed_not true a = refl
  signed_not false a = sym (negative_negative l a)

  opposites_sound : (p : List Part) → sum (opposites p) ≡ r.negative (sum p)
  opposites_sound [] = sym (negative_zero l)
  opposites_sound (t ∷ p) = ap₂ r.plus (signed_not t.sign (prod t.vars)) (opposites_sound p) ∙ plus_negatives l _ _

  norm_sound : (a : Term) → sum (norm a) ≡ eval r values a
  norm_sound (var n) = l.plus_zero _ ∙ l.times_one _
  norm_sound 𝟘 = refl
  norm_sound 𝟙 = l.plus_zero _
  norm_sound (a ⊕ b) = with_parts_sound (norm a) (norm b) ∙ ap₂ r.plus (norm_sound a) (norm_sound b)
  norm_sound (a ⊗ b) = parts_times_sound (norm a) (norm b) ∙ ap₂ r.times (norm_sound a) (norm_sound b)
  norm_sound (⊖ a) = opposites_sound (norm a) ∙ ap r.negative (norm_sound a)

  pub solve : (a b : Term) → norm a ≡ norm b → eval r values a ≡ eval r values b
  solve a b e = sym (norm_sound a) ∙ ap sum e ∙ norm_sound b
