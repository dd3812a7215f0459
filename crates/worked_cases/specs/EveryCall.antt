-- A run of every call.
use Rattle.std.specs.Prelude.{List, [], ◌∷◌}
use Rattle.bracket_table.specs.Runs.{Call}
use Rattle.bracket_table.specs.Runs.Call.{Open, Grow, Look, Find, Expand, Into, Back, Lie, Join, Line, Read}

-- the calls, the latest first
abbrev pub every_call : List Call
every_call =
    Open 2 13
    ∷ Grow
    ∷ Back 2 4
    ∷ Lie 2 4
    ∷ Into 2 4
    ∷ Join 1 2 1 2 4
    ∷ Expand 2 4
    ∷ Grow
    ∷ Read (91 ∷ 48 ∷ 44 ∷ 49 ∷ 93 ∷ [])
    ∷ Line 1 (0 ∷ 0 ∷ [])
    ∷ Grow
    ∷ Find (0 ∷ 1 ∷ [])
    ∷ Look 0
    ∷ Grow
    ∷ Open 2 2
    ∷ Grow
    ∷ []
