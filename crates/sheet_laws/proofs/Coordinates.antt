-- Every sheet has exactly one set of coordinates.
use Rattle.std.proofs.Common.{◌≡◌, ℕ, ◌^◌, ◌<◌, List, length, sym, ap, ◌∙◌, subst, arith}
use Rattle.std.proofs.lemmas.List.{ext_get_or}
use Rattle.ring_laws.specs.Rings.{Operations, Laws}
use Rattle.lyndon.specs.Codes.{spelled}
use Rattle.polynomial.specs.Polynomials.{P}
use Rattle.sheet_laws.specs.Coordinates.{sum, combined, Coordinates, OneSet, EverySheet}
use Rattle.sheet_laws.proofs.Sheets.{sheet_at, is_sheet}
use Rattle.sheet_laws.proofs.Triangles.{at, column, Unitriangular, Up, same_multiples, up_starts, down_ends, up_ends}
use Rattle.sheet_laws.specs.Steps.{reduced, restored}
use Rattle.sheet_laws.proofs.Conversion.{row, unitriangular, reduced_down, restored_up}

module _ {A : Type 0} (ring : Operations A) (laws : Laws ring) (k m : ℕ) (some : 0 < k) where
  abbrev combined_at : List A → List ℕ → A
  combined_at c u = sum ring (k ^ m) (λ w. ring.times (at ring c w) (ring.image (P (spelled k m w) u)))

  sized : (s : List A) → length s ≡ k ^ m → Unitriangular ring (row ring k m) (length s)
  sized s n = subst (Unitriangular ring (row ring k m)) (sym n) (unitriangular ring laws k m some)

  -- what `into` leaves
  pub reduced_coordinates : (s : List A) → length s ≡ k ^ m → Coordinates ring k m s (reduced ring k m (k ^ m) s)
  reduced_coordinates s n =
      let c : List A = reduced ring k m (k ^ m) s in
      let d = reduced_down ring laws k m some (k ^ m) s n (omega arith) in
      (d.size ∙ n, sym (is_sheet k m (combined_at c) s ring.zero n (λ p h. sym (ap (λ j. column ring (row ring k m) j (at ring c) p) (sym n) ∙ down_ends laws.ring (row ring k m) s c (sized s n) (rw n d) p (rw n h)))))

  -- what `back` leaves
  pub restored_combined : (c : List A) → length c ≡ k ^ m → restored ring k m (k ^ m) c ≡ combined ring k m c
  restored_combined c n =
      let s : List A = restored ring k m (k ^ m) c in
      let start : Up ring (row ring k m) (k ^ m) c c = subst (λ j. Up ring (row ring k m) j c c) n (up_starts laws.ring (row ring k m) c) in
      let d = restored_up ring laws k m some (k ^ m) c c n (omega arith) start in
      is_sheet k m (combined_at c) s ring.zero (d.size ∙ n) (λ p h. up_ends laws.ring (row ring k m) c s (sized c n) d p (rw n h) ∙ ap (λ j. column ring (row ring k m) j (at ring c) p) n)

  same_columns : (c d : List A) → combined ring k m c ≡ combined ring k m d → (p : ℕ) → p < k ^ m → column ring (row ring k m) (k ^ m) (at ring c) p ≡ column ring (row ring k m) (k ^ m) (at ring d) p
  same_columns c d e p h =
      sym (sheet_at k m (combined_at c) p ring.zero h) ∙ ap (λ s. at ring s p) e ∙ sheet_at k m (combined_at d) p ring.zero h

  pub one_set : (s : List A) → length s ≡ k ^ m → OneSet ring k m s
  one_set s n =
      record {
        exists = (reduced ring k m (k ^ m) s, reduced_coordinates s n);
        only = λ c d hc hd.
            ext_get_or ring.zero c d (hc.0 ∙ sym hd.0)
            (λ p h. same_multiples laws.ring (row ring k m) (k ^ m) (unitriangular ring laws k m some) (at ring c) (at ring d) (same_columns c d (hc.1 ∙ sym hd.1)) p (rw hc.0 at h));
      }

pub every_sheet : {A : Type 0} (ring : Operations A) → Laws ring → EverySheet ring
unfolding EverySheet
every_sheet ring laws k m some short s n = one_set ring laws k m some s n
