-- An entry of a listing, by its number.
use Rattle.std.proofs.Common.{◌≡◌, ℕ, ◌^◌, ◌<◌, ◌≤◌, List, [], ◌∷◌, length, take, get_or, sym, subst, arith}
use Rattle.std.specs.List.{AllByRecursion}
use Rattle.std.proofs.ByRecursion.{All-get_or}
use Rattle.lyndon.specs.declared.entry.Entry.{Entry}
use Rattle.lyndon.specs.Entries.{listing, word, words, no_entry}
use Rattle.lyndon.specs.Listing.{OfShape}
use Rattle.lyndon.proofs.Codes.{length-spelled}
use Rattle.lyndon.proofs.Entries.{listing_coded, listing_first}

module _ (k n : ℕ) (some : 1 ≤ k) (es : List Entry) (listed : es ≡ take (length es) (listing k n)) (i : ℕ) (here : i < length es) where
  abbrev e : Entry
  e = get_or es i no_entry

  pub entry_coded : e.code < k ^ e.length
  entry_coded =
      All-get_or (λ d. d.code < k ^ d.length) es i no_entry here
      (subst (AllByRecursion (λ d. d.code < k ^ d.length)) (sym listed) (listing_coded k n some (length es)))

  pub entry_of_shape : OfShape k n (word k e)
  entry_of_shape = All-get_or (λ d. OfShape k n (word k d)) es i no_entry here (unmapped es all)
    where
      all : AllByRecursion (OfShape k n) (words k es)
      all = subst (λ z. AllByRecursion (OfShape k n) (words k z)) (sym listed) (listing_first k n some (length es)).lyndon

      unmapped : (ds : List Entry) → AllByRecursion (OfShape k n) (words k ds) → AllByRecursion (λ d. OfShape k n (word k d)) ds
      unmapped [] a = tt
      unmapped (d ∷ ds) a = (a.0, unmapped ds a.1)

  pub entry_some : 1 ≤ e.length
  entry_some = omega (arith, entry_of_shape.lyndon.some, length-spelled k e.length e.code)

  pub entry_short : e.length ≤ n
  entry_short = omega (arith, entry_of_shape.short, length-spelled k e.length e.code)
