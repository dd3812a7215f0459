-- What is read of an input into the front of a buffer, one read behind another.
use Rattle.std.proofs.Common.{◌≡◌, ℕ, ◌+◌, ◌-◌, ◌≤◌, List, ◌++◌, length, take, None, Some, Option, sym, ap, ◌∙◌, subst, refl, arith}
use borrow.Rule.Slice.PartMut.{put_mid}
use Rattle.std.proofs.Math.Seq.{take-append-add}
use Rattle.std.proofs.lemmas.List.{append_assoc, length-take-le, take-take}
use Rattle.std.proofs.lemmas.Slice.{take-put_mid, take-put_mid_below}
use Rattle.std.specs.Io.KnownBytes.{Consumes, Keeps}

consumes_then : (known mid new : Option (List ℕ)) (a b : List ℕ) → Consumes known mid a → Consumes mid new b → Consumes known new (a ++ b)
consumes_then None mid new a b p q = tt
consumes_then (Some xs) None new a b p q = absurd p
consumes_then (Some xs) (Some ys) None a b p q = absurd q
consumes_then (Some xs) (Some ys) (Some zs) a b p q = p ∙ ap (λ l. a ++ l) q ∙ sym (append_assoc a b zs)

consumes_keeps : (known mid new : Option (List ℕ)) (a : List ℕ) → Consumes known mid a → Keeps mid new → Consumes known new a
consumes_keeps None mid new a p q = tt
consumes_keeps (Some xs) None new a p q = absurd p
consumes_keeps (Some xs) (Some ys) None a p q = absurd q
consumes_keeps (Some xs) (Some ys) (Some zs) a p q = p ∙ ap (λ l. a ++ l) (sym q)

-- a read gave so many bytes
pub reads_more : (known mid new : Option (List ℕ)) (old part : List ℕ) (count n : ℕ) → count ≤ length old → n ≤ length part → Consumes known mid (take count old) → Consumes mid new (take n part) → Consumes known new (take (count + n) (put_mid count (length old - count) old part))
reads_more known mid new old part count n within some p q =
    let whole = take-put_mid count (length old - count) old part (count + length part) refl within in
    let size = length-take-le count old within in
    let front : take (count + n) (put_mid count (length old - count) old part) ≡ take count old ++ take n part =
    sym (take-take (count + n) (count + length part) (put_mid count (length old - count) old part) (omega arith))
    ∙ ap (take (count + n)) whole
    ∙ ap (λ m. take (m + n) (take count old ++ part)) (sym size)
    ∙ take-append-add (take count old) part n in
    subst (Consumes known new) (sym front) (consumes_then known mid new (take count old) (take n part) p q)

-- a read gave none
pub reads_none : (known mid new : Option (List ℕ)) (old part : List ℕ) (count : ℕ) → count ≤ length old → Consumes known mid (take count old) → Keeps mid new → Consumes known new (take count (put_mid count (length old - count) old part))
reads_none known mid new old part count within p q =
    subst (Consumes known new) (sym (take-put_mid_below count (length old - count) old part count (omega arith) within)) (consumes_keeps known mid new (take count old) p q)
