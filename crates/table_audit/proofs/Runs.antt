-- What is seen of a table after a list of calls.
use Rattle.std.proofs.Common.{◌≡◌, ℕ, ◌+◌, ◌<◌, ◌≤◌, true, cond, ◌⊎◌, List, [], ◌∷◌, length, take, Some, None, Option, refl, sym, ap, ◌∙◌, subst, inl, inr, arith}
use Rattle.std.proofs.lemmas.Bool.{cases_lt, le-leb, lt-leb, false≢true}
use Rattle.std.proofs.lemmas.List.{take_more, length-take-le}
use Rattle.faults.specs.declared.Layer.TheVariants as layer
use Rattle.faults.specs.Faults.{found}
use Rattle.faults.specs.Outcome.{Outcome}
use Rattle.faults.specs.Outcome.Outcome.{answered, refused}
use Rattle.faults.specs.declared.Fault.{Fault}
use Rattle.lyndon.specs.declared.entry.Entry.{Entry}
use Rattle.lyndon.specs.Entries.{listing, no_entry}
use Rattle.bracket_table.specs.Calls.{opened, grow_in, grow_outcome, grown, listing_of}
use Rattle.bracket_table.specs.Runs.{Call, after, accepted, shape_after, grows_after}
use Rattle.bracket_table.specs.Runs.Call.{Open, Grow, Look, Find, Expand, Into, Back, Lie, Join, Line, Read}
use Rattle.bracket_table.proofs.Shapes.{taken}
use Rattle.bracket_table.specs.Views.{Dimensions, View, fresh, shape_checked}

-- a shape has letters, and no word of it has more than 12
abbrev pub Shaped : Option Dimensions → Type 0
Shaped None = Unit {0}
Shaped (Some s) = (1 ≤ s.k) × (s.n ≤ 12)

-- a table of this shape with so many entries, the first of its listing, and this room
pub record Stands (room : ℕ) (shape : Option Dimensions) (count : ℕ) (v : View) : Type 0 where
  pub is : v ≡ record { shape = shape; entries = take count (listing_of shape); room = room }
  pub within : count ≤ length (listing_of shape)
  pub shaped : Shaped shape

begun : (room : ℕ) → Stands room None 0 (fresh room)
begun room = record { is = refl; within = omega arith; shaped = tt }

-- ---- open

-- an open is accepted only for a shape
shaped : (k n : ℕ) → accepted (shape_checked k n) ≡ true → Shaped (Some (record { k = k; n = n }))
shaped k n e = go (shape_checked k n) refl e
  where
    go : (o : Outcome (Unit {0})) → shape_checked k n ≡ o → accepted o ≡ true → Shaped (Some (record { k = k; n = n }))
    go (answered done) is h = let t = taken k n is in (t.0, t.2)
    go (refused f) is h = absurd (false≢true h)

opens : (room : ℕ) (shape : Option Dimensions) (count : ℕ) (v : View) (k n : ℕ) (o : Outcome (Unit {0})) → (accepted o ≡ true → Shaped (Some (record { k = k; n = n }))) → Stands room shape count v → Stands room (cond (accepted o) (Some (record { k = k; n = n })) shape) (cond (accepted o) 0 count) (opened k n o v)
opens room shape count v k n (answered done) s S = record { is = ap (λ w. opened k n (answered done) w) S.is; within = omega arith; shaped = s refl }
opens room shape count v k n (refused fault) s S = S

-- ---- grow

abbrev pub of_entries : Option Dimensions → ℕ → List Entry → View
of_entries shape room es = record { shape = shape; entries = es; room = room }

-- what a grow comes to
pub grow_told : (room : ℕ) (shape : Option Dimensions) (count : ℕ) (v : View) → Stands room shape count v → grow_outcome v ≡ grow_in shape count room
grow_told room shape count v S = ap grow_outcome S.is ∙ ap (λ c. grow_in shape c room) (length-take-le count (listing_of shape) S.within)

-- a grow is refused, or there is an entry of its number in the listing
told : (shape : Option Dimensions) (count room : ℕ) → ((f : Fault) × (grow_in shape count room ≡ refused f)) ⊎ ((grow_in shape count room ≡ answered count) × (count < length (listing_of shape)))
told None count room = inl (found 8 layer.Table 0 0, refl)
told (Some s) count room =
    elim (cases_lt count (length (listing s.k s.n))) [
      | inr h ↦ inl (found 9 layer.Table 0 0, rw (le-leb (length (listing s.k s.n)) count h) refl)
      | inl h ↦ elim (cases_lt count room) [
        | inr j ↦ inl (found 4 layer.Table 0 0, rw (lt-leb (length (listing s.k s.n)) count h, le-leb room count j) refl)
        | inl j ↦ inr (rw (lt-leb (length (listing s.k s.n)) count h, lt-leb room count j) refl, h)
      ]
    ]

pub grows : (room : ℕ) (shape : Option Dimensions) (count : ℕ) (v : View) → Stands room shape count v → Stands room shape (cond (accepted (grow_in shape count room)) (count + 1) count) (grown (grow_outcome v) v)
grows room shape count v S = subst (λ o. Stands room shape (cond (accepted (grow_in shape count room)) (count + 1) count) (grown o v)) (sym (grow_told room shape count v S)) (go (told shape count room))
  where
    go : ((f : Fault) × (grow_in shape count room ≡ refused f)) ⊎ ((grow_in shape count room ≡ answered count) × (count < length (listing_of shape))) → Stands room shape (cond (accepted (grow_in shape count room)) (count + 1) count) (grown (grow_in shape count room) v)
    go (inl (f, e)) = rw e S
    go (inr (e, h)) =
        rw e (record {
          is =
              ap (grown (answered count)) S.is
              ∙ ap (λ es. of_entries shape room es) (sym (take_more (listing_of shape) count no_entry h));
          within = omega (arith, h);
          shaped = S.shaped;
        })

-- ---- every list of calls

pub every : (room : ℕ) (calls : List Call) → Stands room (shape_after calls) (grows_after room calls) (after (fresh room) calls)
every room [] = begun room
every room (Open k n ∷ calls) = opens room (shape_after calls) (grows_after room calls) (after (fresh room) calls) k n (shape_checked k n) (shaped k n) (every room calls)
every room (Grow ∷ calls) = grows room (shape_after calls) (grows_after room calls) (after (fresh room) calls) (every room calls)
every room (Look number ∷ calls) = every room calls
every room (Find letters ∷ calls) = every room calls
every room (Expand number size ∷ calls) = every room calls
every room (Into m size ∷ calls) = every room calls
every room (Back m size ∷ calls) = every room calls
every room (Lie m size ∷ calls) = every room calls
every room (Join a a_size b b_size size ∷ calls) = every room calls
every room (Line number buffer ∷ calls) = every room calls
every room (Read text ∷ calls) = every room calls
