-- The steps in which a sheet is replaced by its coordinates, and those of the way back.
use Rattle.std.specs.Prelude.{ℕ, zero, suc, List, slice_index_or, slice_set}
use Rattle.ring_laws.specs.Rings.{Operations}
use Rattle.lyndon.specs.Codes.{spelled}
use Rattle.sheet_laws.specs.Terms.{raised}

module _ {A : Type 0} (ring : Operations A) (k m : ℕ) where
  -- P of the word with the code w is taken away so often as the sheet says at its place, which keeps this value
  abbrev pub taken_out : ℕ → List A → List A
  taken_out w s =
      let c = slice_index_or s w ring.zero in
      slice_set (raised ring k (spelled k m w) (ring.negative c) s) w c

  -- the steps of the first w words, the least word first
  abbrev pub reduced : ℕ → List A → List A
  reduced zero s = s
  reduced (suc w) s = taken_out w (reduced w s)

  -- so often as the coordinate at its place says, P of the word with the code w is added to what else is there
  abbrev pub put_back : ℕ → List A → List A
  put_back w s = raised ring k (spelled k m w) (slice_index_or s w ring.zero) (slice_set s w ring.zero)

  -- the steps of the first w words, the greatest word first
  abbrev pub restored : ℕ → List A → List A
  restored zero s = s
  restored (suc w) s = restored w (put_back w s)
