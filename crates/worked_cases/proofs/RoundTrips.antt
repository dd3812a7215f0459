-- Two sets of coordinates of one sheet are the same.
use Rattle.std.proofs.Common.{◌≡◌, ℕ, ◌^◌, ◌≤◌, List, length}
use Rattle.ring_laws.specs.Rings.{Operations}
use Rattle.sheet_laws.specs.Coordinates.{Coordinates, EverySheet}

pub same_coordinates : {A : Type 0} (ring : Operations A) (k m : ℕ) (sheet c d : List A)
    → EverySheet ring → 1 ≤ k → m ≤ 12 → length sheet ≡ k ^ m → Coordinates ring k m sheet c → Coordinates ring k m sheet d → c ≡ d
unfolding EverySheet
same_coordinates ring k m sheet c d every some short n hc hd = (every k m some short sheet n).only c d hc hd
