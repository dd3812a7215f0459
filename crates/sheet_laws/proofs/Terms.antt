-- The terms of a product, and the coefficients that they sum up to.
use Rattle.std.proofs.Common.{◌≡◌, ◌≢◌, ℕ, ◌+◌, ◌*◌, ◌<◌, Bool, true, false, cond, List, [], ◌∷◌, ◌++◌, map, length, ℤ, pos, neg_ℤ, ◌+ℤ◌, ◌*ℤ◌, refl, sym, ap, ◌∙◌, inl, inr, arith, eq-eqb, ne_eqb, length-append, mul-le-mul_right}
use lib.IntN.{suc_ℤ, pred_ℤ, pred_ℤ-+ℤ, suc_ℤ-*ℤ, pred_ℤ-*ℤ, suc_ℤ-+ℤ, +ℤ_idl, zero-*ℤ}
use Rattle.std.proofs.lemmas.Bool.{cases_eq, cases_lt}
use Rattle.std.proofs.lemmas.Int.{ints}
use Rattle.std.proofs.lemmas.List.{length-map}
use Rattle.std.proofs.lemmas.List.Elements.{All-nil, All-head, All-tail, All-append, All-map, All-weaker}
use Rattle.ring_laws.specs.Bits.{differ}
use Rattle.sheet_laws.specs.declared.term.Term.{Term}
use Rattle.sheet_laws.specs.Terms.{sign, weight, followed, products, Below}

-- z, or its opposite
abbrev pub turned_ℤ : Bool → ℤ → ℤ
turned_ℤ opposite z = cond opposite (neg_ℤ z) z

-- ---- signs

turned_plus : (b d : Bool) (z : ℤ) → turned_ℤ b (sign d +ℤ z) ≡ sign (differ b d) +ℤ turned_ℤ b z
turned_plus true true z = omega (arith, ints)
turned_plus true false z = omega (arith, ints)
turned_plus false true z = refl
turned_plus false false z = refl

pub turned_zero : (b : Bool) → turned_ℤ b (pos 0) ≡ pos 0
turned_zero true = refl
turned_zero false = refl

turned_sum : (b : Bool) (y z : ℤ) → turned_ℤ b (y +ℤ z) ≡ turned_ℤ b y +ℤ turned_ℤ b z
turned_sum true y z = omega (arith, ints)
turned_sum false y z = refl

sign_times : (b : Bool) (z k : ℤ) → (sign b +ℤ z) *ℤ k ≡ turned_ℤ b k +ℤ z *ℤ k
sign_times true z k = ap (λ y. y *ℤ k) (pred_ℤ-+ℤ (pos 0) z ∙ ap pred_ℤ (+ℤ_idl z)) ∙ pred_ℤ-*ℤ z k ∙ omega (arith, ints)
sign_times false z k = ap (λ y. y *ℤ k) (suc_ℤ-+ℤ (pos 0) z ∙ ap suc_ℤ (+ℤ_idl z)) ∙ suc_ℤ-*ℤ z k ∙ omega (arith, ints)

-- ---- coefficients

pub weight_here : (t : Term) (ts : List Term) (c : ℕ) → t.code ≡ c → weight (t ∷ ts) c ≡ sign t.negative +ℤ weight ts c
weight_here t ts c e = ap (λ b. cond b (sign t.negative) (pos 0) +ℤ weight ts c) (eq-eqb t.code c e)

pub weight_other : (t : Term) (ts : List Term) (c : ℕ) → t.code ≢ c → weight (t ∷ ts) c ≡ weight ts c
weight_other t ts c n = ap (λ b. cond b (sign t.negative) (pos 0) +ℤ weight ts c) (ne_eqb t.code c n) ∙ omega (arith, ints)

pub weight-append : (ts us : List Term) (c : ℕ) → weight (ts ++ us) c ≡ weight ts c +ℤ weight us c
weight-append [] us c = omega (arith, ints)
weight-append (t ∷ ts) us c = omega (arith, ints, weight-append ts us c)

-- of x with each of ys behind it: where x stands at the front
row_here : (n q : ℕ) (o : Bool) (x : Term) (ys : List Term) → weight (map (followed n o x) ys) (x.code * n + q) ≡ turned_ℤ o (turned_ℤ x.negative (weight ys q))
row_here n q o x [] = sym (ap (turned_ℤ o) (turned_zero x.negative) ∙ turned_zero o)
row_here n q o x (y ∷ ys) =
    elim (cases_eq y.code q) [
      | inl e ↦
          weight_here (followed n o x y) (map (followed n o x) ys) (x.code * n + q) (omega arith)
          ∙ ap (λ z. sign (differ o (differ x.negative y.negative)) +ℤ z) (row_here n q o x ys)
          ∙ sym (ap (λ z. turned_ℤ o (turned_ℤ x.negative z)) (weight_here y ys q e)
          ∙ ap (turned_ℤ o) (turned_plus x.negative y.negative (weight ys q))
          ∙ turned_plus o (differ x.negative y.negative) (turned_ℤ x.negative (weight ys q)))
      | inr d ↦
          weight_other (followed n o x y) (map (followed n o x) ys) (x.code * n + q) (λ e. d (omega arith))
          ∙ row_here n q o x ys
          ∙ sym (ap (λ z. turned_ℤ o (turned_ℤ x.negative z)) (weight_other y ys q d))
    ]

not_front : (a b y q n : ℕ) → y < n → a < b → a * n + y ≡ b * n + q → ⊥
not_front a b y q n hy h e = omega (arith, mul-le-mul_right n h)

one_front : (a b y q n : ℕ) → y < n → q < n → a * n + y ≡ b * n + q → a ≡ b
one_front a b y q n hy hq e =
    elim (cases_lt a b) [
      | inl h ↦ absurd (not_front a b y q n hy h e)
      | inr h ↦ elim (cases_lt b a) [ inl l ↦ absurd (not_front b a q y n hq l (sym e)) | inr l ↦ omega arith ]
    ]

-- and where it does not
row_other : (n p q : ℕ) (o : Bool) (x : Term) (ys : List Term) → Below n ys → q < n → x.code ≢ p → weight (map (followed n o x) ys) (p * n + q) ≡ pos 0
row_other n p q o x [] h l d = refl
row_other n p q o x (y ∷ ys) h l d =
    weight_other (followed n o x y) (map (followed n o x) ys) (p * n + q) (λ e. d (one_front x.code p y.code q n (All-head (λ t. t.code < n) y ys h) l e))
    ∙ row_other n p q o x ys (All-tail (λ t. t.code < n) y ys h) l d

pub weight_products : (n p q : ℕ) (opposite : Bool) (xs ys : List Term) → Below n ys → q < n → weight (products n opposite xs ys) (p * n + q) ≡ turned_ℤ opposite (weight xs p *ℤ weight ys q)
weight_products n p q opposite [] ys h l = sym (ap (turned_ℤ opposite) (zero-*ℤ (weight ys q)) ∙ turned_zero opposite)
weight_products n p q opposite (x ∷ xs) ys h l =
    weight-append (map (followed n opposite x) ys) (products n opposite xs ys) (p * n + q)
    ∙ ap (λ z. weight (map (followed n opposite x) ys) (p * n + q) +ℤ z) (weight_products n p q opposite xs ys h l)
    ∙ elim (cases_eq x.code p) [
      | inl e ↦
          ap (λ z. z +ℤ turned_ℤ opposite (weight xs p *ℤ weight ys q)) (ap (λ k. weight (map (followed n opposite x) ys) (k * n + q)) (sym e) ∙ row_here n q opposite x ys)
          ∙ sym (ap (λ z. turned_ℤ opposite (z *ℤ weight ys q)) (weight_here x xs p e) ∙ ap (turned_ℤ opposite) (sign_times x.negative (weight xs p) (weight ys q)) ∙ turned_sum opposite (turned_ℤ x.negative (weight ys q)) (weight xs p *ℤ weight ys q))
      | inr d ↦
          ap (λ z. z +ℤ turned_ℤ opposite (weight xs p *ℤ weight ys q)) (row_other n p q opposite x ys h l d)
          ∙ +ℤ_idl (turned_ℤ opposite (weight xs p *ℤ weight ys q))
          ∙ sym (ap (λ z. turned_ℤ opposite (z *ℤ weight ys q)) (weight_other x xs p d))
    ]

-- ---- their number and their codes

pub length-products : (n : ℕ) (opposite : Bool) (xs ys : List Term) → length (products n opposite xs ys) ≡ length xs * length ys
length-products n opposite [] ys = omega arith
length-products n opposite (x ∷ xs) ys =
    length-append (map (followed n opposite x) ys) (products n opposite xs ys)
    ∙ omega (arith, length-map ys (followed n opposite x), length-products n opposite xs ys)

followed_below : (m n : ℕ) (o : Bool) (x : Term) → x.code < m → (y : Term) → y.code < n → (followed n o x y).code < m * n
followed_below m n o x h y l = omega (arith, mul-le-mul_right n h)

pub below_products : (m n : ℕ) (opposite : Bool) (xs ys : List Term) → Below m xs → Below n ys → Below (m * n) (products n opposite xs ys)
below_products m n opposite [] ys h l = All-nil (λ t. t.code < m * n)
below_products m n opposite (x ∷ xs) ys h l =
    All-append (λ t. t.code < m * n) (map (followed n opposite x) ys) (products n opposite xs ys)
    (All-map (λ t. t.code < m * n) (followed n opposite x) ys
    (All-weaker (λ t. t.code < n) (λ y. (followed n opposite x y).code < m * n) (followed_below m n opposite x (All-head (λ t. t.code < m) x xs h)) ys l))
    (below_products m n opposite xs ys (All-tail (λ t. t.code < m) x xs h) l)
