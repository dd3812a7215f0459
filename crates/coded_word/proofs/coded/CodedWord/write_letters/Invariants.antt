use Rattle.std.proofs.Common.{◌≡◌, ◌^◌, ◌<◌, ◌++◌, length, drop}
use Rattle.lyndon.specs.Codes.{spelled}
use Rattle.coded_word.specs.Words.{word_of}
use Rattle.coded_word.proofs.coded.CodedWord.write_letters.Given as goal

-- `rest` spells the letters before those that are written
abbrev pub invariant-loop-place : goal.invariant-loop-place
invariant-loop-place l =
    (length l.letters ≡ length l.initial.letters)
    × (l.rest < l.k ^ l.place)
    × (spelled l.k l.place l.rest ++ drop l.place l.letters ≡ word_of l.fn.self)
