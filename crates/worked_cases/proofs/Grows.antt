-- Growing a table of the shape 2, 5.
use Rattle.std.proofs.Common.{◌≡◌, ℕ, ◌+◌, ◌<◌, ◌≤◌, min, ltb, length, get_or, take, Some, Option, cond, refl, ap, ◌∙◌, inl, inr, arith}
use Rattle.std.proofs.lemmas.List.{length-take-le, get_or-take}
use Rattle.std.proofs.lemmas.Option.{slice_get-get_or, slice_get_past}
use Rattle.std.proofs.lemmas.Bool.{cases_lt, le-leb, lt-leb, lt-ltb, le-ltb}
use Rattle.faults.specs.declared.Layer.TheVariants as layer
use Rattle.faults.specs.Faults.{found}
use Rattle.faults.specs.Outcome.{refuse_if}
use Rattle.faults.specs.Outcome.Outcome.{answered}
use Rattle.lyndon.specs.Entries.{listing, no_entry}
use Rattle.lyndon.specs.Listing.{lyndon, codes, lengths, keys}
use Rattle.bracket_table.specs.Calls.{grow_in, grow_outcome, grown, look_outcome, with_entry}
use Rattle.bracket_table.specs.Runs.{accepted}
use Rattle.bracket_table.specs.Views.{Dimensions, View}
use Rattle.table_audit.proofs.Runs.{Stands, of_entries, grows}

-- what is seen after i grows
abbrev pub after : ℕ → ℕ → View
after room i = record { shape = Some (record { k = 2; n = 5 }); entries = take (min i room) (listing 2 5); room = room }

fourteen : length (listing 2 5) ≡ 14
unfolding lyndon codes lengths keys listing
fourteen = refl

tenth : get_or (listing 2 5) 10 no_entry ≡ record { length = 5; code = 5; left = 3; right = 2 }
unfolding lyndon codes lengths keys listing
tenth = refl

count : (room i : ℕ) → i ≤ 11 → length (take (min i room) (listing 2 5)) ≡ min i room
count room i h = length-take-le (min i room) (listing 2 5) (omega (arith, fourteen))

abbrev shape : Option Dimensions
shape = Some (record { k = 2; n = 5 })

-- so many entries of the fourteen
stands : (room i : ℕ) → i < 11 → Stands room shape (min i room) (after room i)
stands room i h = record { is = refl; within = omega (arith, fourteen); shaped = (omega arith, omega arith) }

pub after_grow : (room i : ℕ) → i < 11 → grown (grow_outcome (after room i)) (after room i) ≡ after room (i + 1)
after_grow room i h =
    let few : min i room < length (listing 2 5) = omega (arith, fourteen) in
    let one_more : cond (accepted (grow_in shape (min i room) room)) (min i room + 1) (min i room) ≡ min (i + 1) room = elim (cases_lt i room) [
      | inl l ↦ rw (lt-leb (length (listing 2 5)) (min i room) few, lt-leb room (min i room) (omega arith)) (omega arith)
      | inr l ↦ rw (lt-leb (length (listing 2 5)) (min i room) few, le-leb room (min i room) (omega arith)) (omega arith)
    ] in
    (grows room shape (min i room) (after room i) (stands room i h)).is ∙ ap (λ c. of_entries shape room (take c (listing 2 5))) one_more

pub look_ten : (room : ℕ) → look_outcome (after room 11) 10 ≡ refuse_if (ltb room 11) (found 10 layer.Table 0 0) (answered (record { length = 5; code = 5; left = 3; right = 2 }))
look_ten room =
    elim (cases_lt room 11) [
      | inl l ↦ rw (lt-ltb room 11 l) (ap (λ e. with_entry e answered) (slice_get_past (take (min 11 room) (listing 2 5)) 10 (omega (arith, n))))
      | inr l ↦
          rw (le-ltb room 11 l)
          (ap (λ e. with_entry e answered) (slice_get-get_or (take (min 11 room) (listing 2 5)) 10 no_entry (omega (arith, n)))
          ∙ ap answered (get_or-take (min 11 room) (listing 2 5) 10 no_entry (omega arith) ∙ tenth))
    ]
  where
    n : length (take (min 11 room) (listing 2 5)) ≡ min 11 room
    n = count room 11 (omega arith)
