-- Dictionary order is an order of words.
use Rattle.std.proofs.Common.{◌≡◌, ◌≤◌, ◌⊎◌, List, [], ◌∷◌, ◌++◌, length, Ordering, Less, Equal, Greater, sym, refl, ap, ◌∙◌, subst, inl, inr, arith, length-append}
use Rattle.std.specs.Prelude.{Decides}
use Rattle.std.specs.Ordering.{is_eq, ordering_reverse, ordering_then}
use Rattle.std.specs.Cmp.{Equal-is}
use Rattle.letter_order.specs.Orders.{TotalOrder}
use Rattle.lyndon.specs.Words.{dictionary, Before}
use Rattle.lyndon.proofs.Orders as orders
use Rattle.lyndon.proofs.Orders.{equal_less, greater_less, greater_equal, Ranked, not_itself}

-- of two words, the first letters decide or the rest does
abbrev pub Deciding : {A : Type 0} → (A → A → Ordering) → A → A → List A → List A → Type 0
Deciding ranks x y u v = (ranks x y ≡ Less) ⊎ ((x ≡ y) × Before ranks u v)

-- u is a proper prefix of v
abbrev pub ProperPrefix : {A : Type 0} → List A → List A → Type 0
ProperPrefix {A} u v = (y : A) × (t : List A) × (v ≡ u ++ y ∷ t)

-- the first letter that differs decides: neither word is a prefix of the other
abbrev pub Apart : {A : Type 0} → (A → A → Ordering) → List A → List A → Type 0
Apart ranks [] v = ⊥
Apart ranks (x ∷ u) [] = ⊥
Apart ranks (x ∷ u) (y ∷ v) = (ranks x y ≡ Less) ⊎ ((x ≡ y) × Apart ranks u v)

module _ {A : Type 0} {ranks : A → A → Ordering} (o : TotalOrder ranks) where
  pub here : (x y : A) (u v : List A) → ranks x y ≡ Less → Before ranks (x ∷ u) (y ∷ v)
  here x y u v h = rw h

  pub there : (x y : A) (u v : List A) → x ≡ y → Before ranks u v → Before ranks (x ∷ u) (y ∷ v)
  there x y u v e h = rw ((o.same x y).1 e) h

  pub deciding : (x y : A) (u v : List A) → Before ranks (x ∷ u) (y ∷ v) → Deciding ranks x y u v
  deciding x y u v = go (ranks x y) refl
    where
      go : (r : Ordering) → ranks x y ≡ r → ordering_then r (dictionary ranks u v) ≡ Less → Deciding ranks x y u v
      go Less e h = inl e
      go Equal e h = inr ((o.same x y).0 e, h)
      go Greater e h = absurd (greater_less h)

  exchange_then : (r s : Ordering) → ordering_then (ordering_reverse r) (ordering_reverse s) ≡ ordering_reverse (ordering_then r s)
  exchange_then Less s = refl
  exchange_then Equal s = refl
  exchange_then Greater s = refl

  dictionary_exchanged : (u v : List A) → dictionary ranks v u ≡ ordering_reverse (dictionary ranks u v)
  dictionary_exchanged [] [] = refl
  dictionary_exchanged [] (y ∷ v) = refl
  dictionary_exchanged (x ∷ u) [] = refl
  dictionary_exchanged (x ∷ u) (y ∷ v) =
      ap (λ r. ordering_then r (dictionary ranks v u)) (o.exchanged x y)
      ∙ ap (ordering_then (ordering_reverse (ranks x y))) (dictionary_exchanged u v)
      ∙ exchange_then (ranks x y) (dictionary ranks u v)

  dictionary_transitive : (u v w : List A) → Before ranks u v → Before ranks v w → Before ranks u w
  dictionary_transitive [] [] w h k = absurd (equal_less h)
  dictionary_transitive [] (y ∷ v) [] h k = absurd (greater_less k)
  dictionary_transitive [] (y ∷ v) (z ∷ w) h k = refl
  dictionary_transitive (x ∷ u) [] w h k = absurd (greater_less h)
  dictionary_transitive (x ∷ u) (y ∷ v) [] h k = absurd (greater_less k)
  dictionary_transitive (x ∷ u) (y ∷ v) (z ∷ w) h k = go (deciding x y u v h) (deciding y z v w k) (dictionary_transitive u v w)
    where
      go : Deciding ranks x y u v → Deciding ranks y z v w → (Before ranks u v → Before ranks v w → Before ranks u w) → Before ranks (x ∷ u) (z ∷ w)
      go (inl h) (inl k) more = here x z u w (o.transitive x y z h k)
      go (inl h) (inr k) more = here x z u w (subst (λ a. ranks x a ≡ Less) k.0 h)
      go (inr h) (inl k) more = here x z u w (rw h.0 k)
      go (inr h) (inr k) more = there x z u w (h.0 ∙ k.0) (more h.1 k.1)

  alike : (u v : List A) → dictionary ranks u v ≡ Equal → u ≡ v
  alike [] [] h = refl
  alike [] (y ∷ v) h = absurd (equal_less (sym h))
  alike (x ∷ u) [] h = absurd (greater_equal h)
  alike (x ∷ u) (y ∷ v) h = go (ranks x y) refl h (alike u v)
    where
      go : (r : Ordering) → ranks x y ≡ r → ordering_then r (dictionary ranks u v) ≡ Equal → (dictionary ranks u v ≡ Equal → u ≡ v) → ◌≡◌ {A = List A} (x ∷ u) (y ∷ v)
      go Less e h more = absurd (equal_less (sym h))
      go Equal e h more = let p = (o.same x y).0 e in let q = more h in cc
      go Greater e h more = absurd (greater_equal h)

  itself : (u : List A) → dictionary ranks u u ≡ Equal
  itself [] = refl
  itself (x ∷ u) = rw ((o.same x x).1 refl) (itself u)

  pub dictionary_total : TotalOrder (dictionary ranks)
  dictionary_total = record {
    exchanged = dictionary_exchanged;
    transitive = dictionary_transitive;
    same = λ u v. (alike u v, λ e. rw e (itself v));
  }

  -- the test for the same word is right
  pub same_words : (u v : List A) → Decides (is_eq (dictionary ranks u v)) (u ≡ v)
  same_words u v = (
    λ e. alike u v ((Equal-is (dictionary ranks u v)).0 e),
    λ e. (Equal-is (dictionary ranks u v)).1 ((dictionary_total.same u v).1 e),
  )

  pub irrefl : (u : List A) → Before ranks u u → ⊥
  irrefl = orders.not_itself dictionary_total

  pub trans : (u v w : List A) → Before ranks u v → Before ranks v w → Before ranks u w
  trans = dictionary_transitive

  pub asym : (u v : List A) → Before ranks u v → Before ranks v u → ⊥
  asym = orders.not_both dictionary_total

  pub compared : (u v : List A) → Ranked (dictionary ranks) u v
  compared = orders.ranked dictionary_total

  pub decide : (u v : List A) → Dec (Before ranks u v)
  decide = orders.decided dictionary_total

  -- u is not after v, and v is before w
  pub le_lt : (u v w : List A) → (Before ranks v u → ⊥) → Before ranks v w → Before ranks u w
  le_lt = orders.le_lt dictionary_total

  pub lt_le : (u v w : List A) → Before ranks u v → (Before ranks w v → ⊥) → Before ranks u w
  lt_le = orders.lt_le dictionary_total

  -- ---- fronts

  pub front : (p u v : List A) → Before ranks u v → Before ranks (p ++ u) (p ++ v)
  front [] u v h = h
  front (x ∷ p) u v h = there x x (p ++ u) (p ++ v) refl (front p u v h)

  pub unfront : (p u v : List A) → Before ranks (p ++ u) (p ++ v) → Before ranks u v
  unfront [] u v h = h
  unfront (x ∷ p) u v h =
      elim (deciding x x (p ++ u) (p ++ v) h) [ inl k ↦ absurd (not_itself o x k) | inr k ↦ unfront p u v k.1 ]

  pub prefix : (u : List A) (y : A) (t : List A) → Before ranks u (u ++ y ∷ t)
  prefix [] y t = refl
  prefix (x ∷ u) y t = there x x u (u ++ y ∷ t) refl (prefix u y t)

  pub prefix_low : (t r : List A) → Before ranks (t ++ r) t → ⊥
  prefix_low [] [] l = equal_less l
  prefix_low [] (x ∷ r) l = greater_less l
  prefix_low (x ∷ t) r l = elim (deciding x x (t ++ r) t l) [ inl k ↦ not_itself o x k | inr k ↦ prefix_low t r k.1 ]

  -- ---- apart

  pub apart_before : (u v : List A) → Apart ranks u v → Before ranks u v
  apart_before [] v h = absurd h
  apart_before (x ∷ u) [] h = absurd h
  apart_before (x ∷ u) (y ∷ v) (inl h) = here x y u v h
  apart_before (x ∷ u) (y ∷ v) (inr h) = there x y u v h.0 (apart_before u v h.1)

  pub apart_append : (u v a b : List A) → Apart ranks u v → Apart ranks (u ++ a) (v ++ b)
  apart_append [] v a b h = absurd h
  apart_append (x ∷ u) [] a b h = absurd h
  apart_append (x ∷ u) (y ∷ v) a b (inl h) = inl h
  apart_append (x ∷ u) (y ∷ v) a b (inr h) = inr (h.0, apart_append u v a b h.1)

  -- u before v: apart, or a proper prefix
  pub before_cases : (u v : List A) → Before ranks u v → Apart ranks u v ⊎ ProperPrefix u v
  before_cases [] [] h = absurd (equal_less h)
  before_cases [] (y ∷ v) h = inr (y, v, refl)
  before_cases (x ∷ u) [] h = absurd (greater_less h)
  before_cases (x ∷ u) (y ∷ v) h =
      elim (deciding x y u v h) [
        | inl k ↦ inl (inl k)
        | inr k ↦
            elim (before_cases u v k.1) [
              | inl a ↦ inl (inr (k.0, a))
              | inr b ↦ inr (b.0, b.1, let e = k.0 in let f = b.2 in cc)
            ]
      ]

  pub before_apart : (u v : List A) → Before ranks u v → length v ≤ length u → Apart ranks u v
  before_apart u v h n =
      elim (before_cases u v h) [ inl k ↦ k | inr b ↦ absurd (omega (arith, ap length b.2 ∙ length-append u (b.0 ∷ b.1))) ]
