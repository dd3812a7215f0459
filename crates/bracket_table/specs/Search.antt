-- Looking for words among entries.
use Rattle.std.specs.Prelude.{ℕ, Bool, cond, ◌&&◌, List, length, take, drop, Option, ◌==◌, unwrap_or}
use Rattle.std.specs.List.{position_from}
use Rattle.lyndon.specs.declared.entry.Entry.{Entry}
use Rattle.coded_word.specs.declared.coded.CodedWord.{CodedWord}
use Rattle.lyndon.specs.Codes.{code, spelled}
use Rattle.lyndon.specs.Entries.{cut}

-- has it this length and code?
abbrev pub has : ℕ → ℕ → Entry → Bool
has m c e = e.length == m && e.code == c

-- the number of the first entry with this length and code
abbrev pub spot : List Entry → ℕ → ℕ → Option ℕ
spot es m c = position_from (has m c) 0 es

-- the number of the entry with the word w; 65,535 where none has it
abbrev pub spotted : ℕ → List Entry → List ℕ → ℕ
spotted k es w = unwrap_or (spot es (length w) (code k w)) 65535

-- the entry of the word of m letters with the code c, the parts of which are looked for among es
abbrev pub made : ℕ → List Entry → ℕ → ℕ → Entry
made k es m c =
    record {
      length = m;
      code = c;
      left = cond (m == 1) 65535 (spotted k es (take (cut (spelled k m c)) (spelled k m c)));
      right = cond (m == 1) 65535 (spotted k es (drop (cut (spelled k m c)) (spelled k m c)));
    }

abbrev pub entry_for : List Entry → CodedWord → Entry
entry_for es w = made w.shape.k es w.length w.code
