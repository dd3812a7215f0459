-- Adding P of a word by its parts.
use Rattle.std.proofs.Common.{◌≡◌, ℕ, ◌+◌, ◌^◌, ◌<◌, ◌≤◌, Bool, true, false, List, [], ◌∷◌, ◌++◌, map, length, get_or, take, sym, ap, ap₂, ◌∙◌, subst, arith}
use Rattle.std.proofs.lemmas.List.{map_more, take_more, flat_map_more}
use Rattle.ring_laws.specs.Rings.{Operations, Laws}
use Rattle.coded_word.specs.declared.coded.CodedWord.{CodedWord}
use Rattle.coded_word.specs.Words.{word_of}
use Rattle.coded_word.specs.declared.shape.Shape.{Shape}
use Rattle.bracket.specs.Cuts.{SplitCut, FirstCut}
use Rattle.lyndon.specs.Codes.{Over, code}
use Rattle.lyndon.proofs.Codes.{length-spelled, spelled-over}
use Rattle.sheet_laws.specs.declared.term.Term.{Term}
use Rattle.sheet_laws.specs.Terms.{followed, products, added, raised, SumsTo}
use Rattle.sheet_laws.proofs.Added.{added-append, terms_raise}
use Rattle.sheet_laws.proofs.WordTerms.{single_sums, product_sums, bracket_sums}
use Rattle.sheet.specs.declared.sum.Sum.{Sum}
use Rattle.sheet.specs.Words.{InShape, Expands}

module _ (w : CodedWord) (u : List ℕ) (is : u ≡ word_of w) where
  letters : length u ≡ w.length
  letters = ap length is ∙ length-spelled w.shape.k w.length w.code

  pub letters_over : Over w.shape.k u
  letters_over = subst (Over w.shape.k) (sym is) (spelled-over w.shape.k w.length w.code w.shape.some w.coded)

  pub letters_short : length u ≤ w.shape.n
  letters_short = omega (arith, letters, w.short)

  pub letters_some : 0 < length u
  letters_some = omega (arith, letters, w.some)

  pub letters_size : (n : ℕ) → n ≡ w.shape.k ^ w.length → n ≡ w.shape.k ^ length u
  letters_size n e = e ∙ ap (λ m. w.shape.k ^ m) (sym letters)

  pub not_longer : 12 < length u → ⊥
  not_longer h = omega (arith, letters, w.short, w.shape.depth)

-- ---- the loops that add a product

module _ {A : Type 0} (ring : Operations A) (c : A) (n : ℕ) (o : Bool) where
  pub row_more : (x : Term) (ys : List Term) (i : ℕ) (d : Term) (init s : List A) → s ≡ added ring c (map (followed n o x) (take i ys)) init → i < length ys → added ring c (followed n o x (get_or ys i d) ∷ []) s ≡ added ring c (map (followed n o x) (take (i + 1) ys)) init
  row_more x ys i d init s e h =
      ap (added ring c (followed n o x (get_or ys i d) ∷ [])) e
      ∙ sym (added-append ring c (map (followed n o x) (take i ys)) (followed n o x (get_or ys i d) ∷ []) init)
      ∙ ap (λ ts. added ring c ts init) (sym (map_more (followed n o x) ys i d h))

  pub product_more : (xs ys : List Term) (i : ℕ) (d : Term) (init s : List A) → s ≡ added ring c (products n o (take i xs) ys) init → i < length xs → added ring c (map (followed n o (get_or xs i d)) ys) s ≡ added ring c (products n o (take (i + 1) xs) ys) init
  product_more xs ys i d init s e h =
      ap (added ring c (map (followed n o (get_or xs i d)) ys)) e
      ∙ sym (added-append ring c (products n o (take i xs) ys) (map (followed n o (get_or xs i d)) ys) init)
      ∙ ap (λ ts. added ring c ts init) (flat_map_more (λ x. map (followed n o x) ys) [] (take i xs) (get_or xs i d) ∙ ap (λ l. products n o l ys) (sym (take_more xs i d h)))

-- ---- P of a word

module _ {A : Type 0} (ring : Operations A) (laws : Laws ring) (s : Shape) (w : List ℕ) (c : A) (xs : List A) (h : InShape s w) (n : length xs ≡ s.k ^ length w) where
  few_letters : length w ≤ 12
  few_letters = omega (arith, h.1, s.depth)

  sum_raised : (z : List Term) → SumsTo s.k w z → added ring c z xs ≡ raised ring s.k w c xs
  sum_raised z sums = terms_raise ring laws s.k w z c xs s.some few_letters sums n

  pub letter_raised : (t : Term) (new : List A) → length w < 2 → t ≡ record { code = code s.k w; negative = false } → new ≡ added ring c (t ∷ []) xs → new ≡ raised ring s.k w c xs
  letter_raised t new l e f =
      f ∙ sum_raised (t ∷ []) (single_sums s.k w l s.some h.0 t (ap (λ u. u.code) e) (ap (λ u. u.negative) e))

  pub product_raised : (f r : List ℕ) (x y : Sum) (new : List A) → FirstCut w f r → Expands s.k f x → Expands s.k r y → new ≡ added ring c (products y.words false x.terms.now y.terms.now) xs → new ≡ raised ring s.k w c xs
  product_raised f r x y new C hx hy e =
      e ∙ ap (λ n. added ring c (products n false x.terms.now y.terms.now) xs) hy.0
      ∙ sum_raised (products (s.k ^ length r) false x.terms.now y.terms.now) (product_sums s.k w f r x.terms.now y.terms.now s.some hx.1 hy.1 C)

  pub bracket_raised : (l r : List ℕ) (x y : Sum) (mid new : List A) → SplitCut w l r → Expands s.k l x → Expands s.k r y → mid ≡ added ring c (products y.words false x.terms.now y.terms.now) xs → new ≡ added ring c (products x.words true y.terms.now x.terms.now) mid → new ≡ raised ring s.k w c xs
  bracket_raised l r x y mid new C hx hy e f =
      f ∙ ap (added ring c (products x.words true y.terms.now x.terms.now)) e
      ∙ sym (added-append ring c (products y.words false x.terms.now y.terms.now) (products x.words true y.terms.now x.terms.now) xs)
      ∙ ap₂ (λ n m. added ring c (products n false x.terms.now y.terms.now ++ products m true y.terms.now x.terms.now) xs) hy.0 hx.0
      ∙ sum_raised (products (s.k ^ length r) false x.terms.now y.terms.now ++ products (s.k ^ length l) true y.terms.now x.terms.now) (bracket_sums s.k w l r x.terms.now y.terms.now s.some hx.1 hy.1 C)
