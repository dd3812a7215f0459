-- What a list over lent memory shows.
use Rattle.std.specs.Prelude.{◌≡◌, List, ◌++◌, length, take, drop}
use Rattle.lent_list.specs.declared.LentList.{LentList}

-- what stands in the places of the memory
abbrev pub places : {T : Type 0} → LentList T → List T
places l = l.memory.now

-- the elements, which fill the front of the memory
abbrev pub items : {T : Type 0} → LentList T → List T
items l = take l.count l.memory.now

-- a memory with other elements in its front, and behind them what stood there
abbrev pub over : {T : Type 0} → List T → List T → List T
over front old = front ++ drop (length front) old

-- the list lies in the memory in which it lay: of the list before and after, so that no type can hold it
abbrev pub SameMemory : {T : Type 0} → LentList T → LentList T → Type 0
SameMemory old new = new.memory.ghost_name ≡ old.memory.ghost_name

-- the elements are xs, which stand in the front of the same memory, and behind them what stood there
abbrev pub Refilled : {T : Type 0} → LentList T → LentList T → List T → Type 0
Refilled old new xs = (items new ≡ xs) × (places new ≡ over xs (places old)) × SameMemory old new
