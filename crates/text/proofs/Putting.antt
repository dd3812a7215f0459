-- Bytes put into a buffer, one behind another.
use Rattle.std.proofs.Common.{◌≡◌, ℕ, ◌+◌, ◌-◌, ◌/◌, ◌%◌, ◌^◌, ◌<◌, ◌≤◌, List, [], ◌∷◌, ◌++◌, length, get_or, take, drop, decimal, sym, refl, ap, ◌∙◌, arith}
use borrow.Rule.Slice.PartMut.{put_mid}
use Rattle.std.proofs.lemmas.List.{append_assoc, append-nil, drop-drop, length-append, length_push, take-append-drop, take_more}
use Rattle.std.proofs.lemmas.Slice.{take-put_mid, drop-put_mid}
use Rattle.std.proofs.lemmas.Fmt.{decimal_digit, decimal_step}
use Rattle.text.specs.Pieces.{bytes_of, bytes_of_all, Puts}
use Rattle.text.specs.declared.line.piece.Piece.{Piece}

drop_later : (new old : List ℕ) (k m : ℕ) → k ≤ m → drop k new ≡ drop k old → drop m new ≡ drop m old
drop_later new old k m h e =
    let n : k + (m - k) ≡ m = omega arith in
    let q : drop (k + (m - k)) new ≡ drop (k + (m - k)) old = sym (drop-drop (m - k) k new) ∙ ap (drop (m - k)) e ∙ drop-drop (m - k) k old in
    rw n at q

pub puts_then : {i j k : ℕ} {a b c t u : List ℕ} → Puts i j a b t → Puts j k b c u → Puts i k a c (t ++ u)
puts_then {i} {j} {k} {a} {b} {c} {t} {u} p q =
    record {
      end = q.end ∙ ap (λ x. x + length u) p.end ∙ (simp length-append (omega arith));
      front = q.front ∙ ap (λ l. l ++ u) p.front ∙ append_assoc (take i a) t u;
      rest = q.rest ∙ drop_later b a j k (omega (arith, q.end)) p.rest;
    }

pub puts_part : (i k : ℕ) (a t u : List ℕ) → i + length t ≤ length a → k ≡ length t → u ≡ t → Puts i (i + length t) a (put_mid i k a u) t
puts_part i k a t u h n e =
    rw e
    (record {
      end = refl;
      front = take-put_mid i k a t (i + length t) refl (omega arith);
      rest = drop-put_mid i k a t (i + length t) (omega arith) (omega arith) (sym n);
    })

-- a number's digits: all but the last, and the last
pub length-digit : (n : ℕ) → n < 10 → length (decimal n) ≡ 1
length-digit n h = ap length (decimal_digit n h)

pub length-decimal_more : (n : ℕ) → 10 ≤ n → n < 2 ^ 64 → length (decimal n) ≡ length (decimal (n / 10)) + 1
length-decimal_more n h k = ap length (decimal_step n h k) ∙ length_push (decimal (n / 10)) (48 + n % 10)

-- the first pieces of a line, and one more
all_append : (ps qs : List Piece) → bytes_of_all (ps ++ qs) ≡ bytes_of_all ps ++ bytes_of_all qs
all_append [] qs = refl
all_append (p ∷ ps) qs =
    ap (λ l. bytes_of p ++ l) (all_append ps qs) ∙ sym (append_assoc (bytes_of p) (bytes_of_all ps) (bytes_of_all qs))

all_more : (ps : List Piece) (i : ℕ) (d : Piece) → i < length ps → bytes_of_all (take (i + 1) ps) ≡ bytes_of_all (take i ps) ++ bytes_of (get_or ps i d)
all_more ps i d h =
    ap bytes_of_all (take_more ps i d h)
    ∙ all_append (take i ps) (get_or ps i d ∷ [])
    ∙ ap (λ l. bytes_of_all (take i ps) ++ l) (append-nil (bytes_of (get_or ps i d)))

pub size_more : (ps : List Piece) (i n : ℕ) (d : Piece) → i < length ps → n ≡ length (bytes_of (get_or ps i d)) → length (bytes_of_all (take (i + 1) ps)) ≡ length (bytes_of_all (take i ps)) + n
size_more ps i n d h is = rw (is, all_more ps i d h) (length-append (bytes_of_all (take i ps)) (bytes_of (get_or ps i d)))

pub puts_more : (ps : List Piece) (i : ℕ) (d : Piece) {j k : ℕ} {old mid new : List ℕ} → i < length ps → Puts 0 j old mid (bytes_of_all (take i ps)) → Puts j k mid new (bytes_of (get_or ps i d)) → Puts 0 k old new (bytes_of_all (take (i + 1) ps))
puts_more ps i d h p q = rw (all_more ps i d h) (puts_then p q)

pub all_front : (ps : List Piece) (i : ℕ) → length (bytes_of_all (take i ps)) ≤ length (bytes_of_all ps)
all_front ps i =
    let e = ap (λ l. length (bytes_of_all l)) (sym (take-append-drop i ps)) in
    rw (e, all_append, length-append) (omega arith)

-- where all pieces find room, so does the next
pub room_next : (ps : List Piece) (i : ℕ) (d : Piece) {j : ℕ} {old mid : List ℕ} → i < length ps → Puts 0 j old mid (bytes_of_all (take i ps)) → length (bytes_of_all ps) ≤ length mid → j + length (bytes_of (get_or ps i d)) ≤ length mid
room_next ps i d h p room =
    let more = size_more ps i (length (bytes_of (get_or ps i d))) d h refl in
    let all = all_front ps (i + 1) in
    omega (arith, p.end)
