-- Replacing a sheet by its coordinates word by word, and the way back.
use Rattle.std.proofs.Common.{◌≡◌, ℕ, zero, suc, ◌^◌, ◌<◌, ◌≤◌, List, length, set, sym, ap, ap₂, ◌∙◌, inl, inr, arith, length-set}
use Rattle.std.proofs.lemmas.Bool.{cases_lt, cases_eq}
use Rattle.std.proofs.lemmas.List.{get_or-set_same, get_or-set_other, ext_get_or}
use Rattle.ring_laws.specs.Rings.{Operations, Laws}
use Rattle.ring_laws.proofs.Basics.{zero_plus, times_zero, zero_times, negative_times, negative_zero}
use Rattle.letter_order.specs.Orders.{by_value}
use Rattle.lyndon.specs.Codes.{spelled}
use Rattle.lyndon.specs.Words.{Before}
use Rattle.lyndon.proofs.Codes.{length-spelled, spelled-over, code-spelled, code_down}
use Rattle.polynomial.specs.Polynomials.{P}
use Rattle.polynomial.proofs.Leading.{leads}
use Rattle.sheet_laws.specs.Sheets.{sheet_of, coefficient}
use Rattle.sheet_laws.specs.Terms.{raised}
use Rattle.sheet_laws.specs.Steps.{taken_out, reduced, put_back, restored}
use Rattle.sheet_laws.proofs.Sheets.{length-sheet_of, sheet_at}
use Rattle.sheet_laws.proofs.Triangles.{at, Unitriangular, Taken, Given, Down, Up, down_starts, down_more, up_more}

-- the coefficient of the word p in P of the word w, by their codes
abbrev pub row : {A : Type 0} → Operations A → ℕ → ℕ → ℕ → ℕ → A
row ring k m w p = ring.image (P (spelled k m w) (spelled k m p))

module _ {A : Type 0} (ring : Operations A) (laws : Laws ring) (k m : ℕ) (some : 0 < k) where
  before : (u w : ℕ) → u < w → w < k ^ m → Before by_value (spelled k m u) (spelled k m w)
  before u w h l =
      let small : u < k ^ m = omega arith in
      code_down k (spelled k m u) (spelled k m w) (length-spelled k m u ∙ sym (length-spelled k m w)) (spelled-over k m u some small) (spelled-over k m w some l)
      (rw (code-spelled k m u some small, code-spelled k m w some l) h)

  pub unitriangular : Unitriangular ring (row ring k m) (k ^ m)
  unitriangular =
      record {
        diagonal = λ w h. ap ring.image (leads (spelled k m w)).one ∙ laws.image_one;
        below = λ w u h l. ap ring.image ((leads (spelled k m w)).low (spelled k m u) (before u w h l)) ∙ laws.image_zero;
      }

  raised_sheet : (w : ℕ) (c : A) (s : List A) → raised ring k (spelled k m w) c s ≡ sheet_of k m (λ u. ring.plus (coefficient ring k s u) (ring.times c (ring.image (P (spelled k m w) u))))
  unfolding raised
  raised_sheet w c s = ap (λ j. sheet_of k j (λ u. ring.plus (coefficient ring k s u) (ring.times c (ring.image (P (spelled k m w) u))))) (length-spelled k m w)

  pub length-raised : (w : ℕ) (c : A) (s : List A) → length (raised ring k (spelled k m w) c s) ≡ k ^ m
  length-raised w c s = ap length (raised_sheet w c s) ∙ length-sheet_of k m (λ u. ring.plus (coefficient ring k s u) (ring.times c (ring.image (P (spelled k m w) u))))

  pub raised_at : (w : ℕ) (c : A) (s : List A) (p : ℕ) → p < k ^ m → at ring (raised ring k (spelled k m w) c s) p ≡ ring.plus (at ring s p) (ring.times c (row ring k m w p))
  raised_at w c s p h =
      ap (λ l. at ring l p) (raised_sheet w c s)
      ∙ sheet_at k m (λ u. ring.plus (coefficient ring k s u) (ring.times c (ring.image (P (spelled k m w) u)))) p ring.zero h
      ∙ ap (λ q. ring.plus (at ring s q) (ring.times c (row ring k m w p))) (code-spelled k m p some h)

  raised_low : (w : ℕ) (c : A) (s : List A) (p : ℕ) → p < w → w < k ^ m → at ring (raised ring k (spelled k m w) c s) p ≡ at ring s p
  raised_low w c s p h l =
      raised_at w c s p (omega arith)
      ∙ ap (λ x. ring.plus (at ring s p) (ring.times c x)) (unitriangular.below w p h l)
      ∙ ap (ring.plus (at ring s p)) (times_zero laws.ring c)
      ∙ laws.ring.plus_zero (at ring s p)

  pub taken : (w : ℕ) (s : List A) → length s ≡ k ^ m → w < k ^ m → Taken ring (row ring k m) w s (taken_out ring k m w s)
  taken w s n l =
      let t : List A = raised ring k (spelled k m w) (ring.negative (at ring s w)) s in
      record {
        size = length-set t w (at ring s w) ∙ length-raised w (ring.negative (at ring s w)) s ∙ sym n;
        kept = λ p h.
            elim (cases_eq p w) [
              | inl e ↦ ap (λ q. at ring (set t w (at ring s w)) q) e ∙ get_or-set_same t w (at ring s w) ring.zero (rw length-raised l) ∙ ap (at ring s) (sym e)
              | inr d ↦ get_or-set_other t w p (at ring s w) ring.zero d ∙ raised_low w (ring.negative (at ring s w)) s p (omega arith) l
            ];
        moved = λ p h b.
            get_or-set_other t w p (at ring s w) ring.zero (λ e. omega arith)
            ∙ raised_at w (ring.negative (at ring s w)) s p (rw n at b)
            ∙ ap (ring.plus (at ring s p)) (negative_times laws.ring (at ring s w) (row ring k m w p));
      }

  pub given : (w : ℕ) (s : List A) → length s ≡ k ^ m → w < k ^ m → Given ring (row ring k m) w s (put_back ring k m w s)
  given w s n l =
      record {
        size = length-raised w (at ring s w) (set s w ring.zero) ∙ sym n;
        kept = λ p h.
            elim (cases_eq p w) [
              | inl e ↦
                  raised_at w (at ring s w) (set s w ring.zero) p (omega arith)
                  ∙ ap₂ (λ x y. ring.plus x (ring.times (at ring s w) y))
                  (ap (λ q. at ring (set s w ring.zero) q) e ∙ get_or-set_same s w ring.zero ring.zero (omega arith))
                  (ap (row ring k m w) e ∙ unitriangular.diagonal w l)
                  ∙ zero_plus laws.ring (ring.times (at ring s w) ring.one)
                  ∙ laws.ring.times_one (at ring s w)
                  ∙ ap (at ring s) (sym e)
              | inr d ↦ raised_low w (at ring s w) (set s w ring.zero) p (omega arith) l ∙ get_or-set_other s w p ring.zero ring.zero d
            ];
        moved = λ p h b.
            raised_at w (at ring s w) (set s w ring.zero) p (rw n at b)
            ∙ ap (λ x. ring.plus x (ring.times (at ring s w) (row ring k m w p))) (get_or-set_other s w p ring.zero ring.zero (λ e. omega arith));
      }

  -- a list that keeps its places up to w, and those behind it
  all_kept : (w : ℕ) (s t : List A) → length t ≡ length s → ((p : ℕ) → p ≤ w → at ring t p ≡ at ring s p) → ((p : ℕ) → w < p → p < length s → at ring t p ≡ at ring s p) → t ≡ s
  all_kept w s t n kept behind = ext_get_or ring.zero t s n (λ p h. elim (cases_lt w p) [ inl b ↦ behind p b (omega arith) | inr b ↦ kept p b ])

  -- a step with zero changes nothing
  pub taken_none : (w : ℕ) (s : List A) → length s ≡ k ^ m → w < k ^ m → at ring s w ≡ ring.zero → taken_out ring k m w s ≡ s
  taken_none w s n l z =
      let t = taken w s n l in
      all_kept w s (taken_out ring k m w s) t.size t.kept
      (λ p b h.
      t.moved p b h
      ∙ ap (λ x. ring.plus (at ring s p) (ring.negative (ring.times x (row ring k m w p)))) z
      ∙ ap (ring.plus (at ring s p)) (ap ring.negative (zero_times laws.ring (row ring k m w p)) ∙ negative_zero laws.ring)
      ∙ laws.ring.plus_zero (at ring s p))

  pub put_none : (w : ℕ) (s : List A) → length s ≡ k ^ m → w < k ^ m → at ring s w ≡ ring.zero → put_back ring k m w s ≡ s
  put_none w s n l z =
      let t = given w s n l in
      all_kept w s (put_back ring k m w s) t.size t.kept
      (λ p b h. t.moved p b h ∙ ap (λ x. ring.plus (at ring s p) (ring.times x (row ring k m w p))) z ∙ ap (ring.plus (at ring s p)) (zero_times laws.ring (row ring k m w p)) ∙ laws.ring.plus_zero (at ring s p))

  pub reduced_down : (w : ℕ) (s : List A) → length s ≡ k ^ m → w ≤ k ^ m → Down ring (row ring k m) w s (reduced ring k m w s)
  reduced_down zero s n h = down_starts laws.ring (row ring k m) s
  reduced_down (suc w) s n h =
      let d = reduced_down w s n (omega arith) in
      down_more laws.ring (row ring k m) w s (reduced ring k m w s) (taken_out ring k m w (reduced ring k m w s)) (omega arith) d (taken w (reduced ring k m w s) (d.size ∙ n) h)

  pub restored_up : (w : ℕ) (s t : List A) → length s ≡ k ^ m → w ≤ k ^ m → Up ring (row ring k m) w s t → Up ring (row ring k m) 0 s (restored ring k m w t)
  restored_up zero s t n h d = d
  restored_up (suc w) s t n h d =
      restored_up w s (put_back ring k m w t) n (omega arith)
      (up_more laws.ring (row ring k m) w s t (put_back ring k m w t) (omega arith) d (given w t (d.size ∙ n) h))
