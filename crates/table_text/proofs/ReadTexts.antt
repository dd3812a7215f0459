-- What reading the text of an entry comes to, over plain values.
use Rattle.std.proofs.Common.{◌≡◌, ℕ, ◌<◌, ◌≤◌, List, [], length, get_or, Some, None, Ok, Err, Option, Result, sym, refl, ap, ◌∙◌, subst, inl, inr, arith}
use Rattle.std.specs.Prelude.{◌≢◌}
use Rattle.std.proofs.ByRecursion.{All-weaker}
use Rattle.std.proofs.lemmas.Bool.{cases_order, ne_eqb, le-ltb}
use Rattle.std.proofs.lemmas.List.{length-map, get_or-map}
use Rattle.faults.specs.declared.Fault.{Fault}
use Rattle.faults.specs.declared.Layer.TheVariants as layer
use Rattle.faults.specs.Faults.{found, passed}
use Rattle.faults.specs.Outcome.{Outcome, told}
use Rattle.faults.specs.Outcome.Outcome.{answered, refused}
use Rattle.lyndon.specs.declared.entry.Entry.{Entry}
use Rattle.lyndon.specs.Codes.{Over, Listed}
use Rattle.lyndon.specs.Listing.{OfShape}
use Rattle.lyndon.specs.Theorems.{FirstEntries}
use Rattle.lyndon.specs.Entries.{word, words, no_entry}
use Rattle.lyndon.proofs.Missing.{not_itself}
use Rattle.lyndon.proofs.Rises.{rising_at}
use Rattle.coded_word.proofs.Passed.{below_passes}
use Rattle.coded_word.specs.declared.shape.Shape.{Shape}
use Rattle.word.specs.Faults.{letters_checked, length_checked}
use Rattle.bracket_text.specs.Brackets.{BracketOutcome}
use Rattle.bracket_text.specs.Brackets.BracketOutcome.{read}
use Rattle.bracket_text.proofs.Outcomes.{one_of}
use Rattle.bracket_table.specs.Calls.{found_from, find_outcome}
use Rattle.bracket_table.specs.Seen.{Sound}
use Rattle.bracket_table.specs.declared.fault.TableFault.{TableFault}
use Rattle.bracket_table.specs.Faults.{table_fault}
use Rattle.bracket_table.specs.Views.{View}
use Rattle.bracket_table.proofs.Named.{entry_of_shape}
use Rattle.table_text.specs.Lines.{text, text_of}
use Rattle.table_text.specs.Reads.{entry_text, TextOutcome, ReadOutcome, ReadBack, ReadsBack}
use Rattle.table_text.specs.Reads.TextOutcome.{no_text, foreign, unknown, known}
use Rattle.bracket_table.proofs.Found.{searched, searched_answers, names}
use Rattle.table_text.proofs.Lining.{rows_listed}
use Rattle.table_text.proofs.Texts.{formed, texts}

clash : {X Y : Type 0} (x : X) (f : Fault) → answered x ≡ refused f → Y
clash x f e = absurd (cc)

-- es are entries of the listing of k and n
module _ (k n : ℕ) (some : 1 ≤ k) (few : k ≤ 16) (short : n ≤ 12) (es : List Entry) (first : FirstEntries k n es) where
  abbrev at : ℕ → List ℕ
  at i = word k (get_or es i no_entry)

  module _ (i : ℕ) (here : i < length es) where
    pub of_shape : OfShape k n (at i)
    of_shape = entry_of_shape k n some es first.listed i here

    entry_reads : BracketOutcome (entry_text k es i) (answered (at i))
    entry_reads =
        let over : Over 16 (at i) = All-weaker (λ x. x < k) (λ x. x < 16) (λ x l. omega arith) (at i) of_shape.letters in
        let size = texts.size (at i) of_shape.lyndon.some in
        read (at i) (omega (arith, of_shape.short)) (formed (length (at i)) (at i) of_shape.lyndon.some (omega arith) over)

    letters_pass : letters_checked k (at i) ≡ answered tt
    letters_pass = below_passes k (at i) of_shape.letters

    length_passes : length_checked n (length (at i)) ≡ answered tt
    length_passes = rw (ne_eqb (length (at i)) 0 (omega (arith, of_shape.lyndon.some)), le-ltb n (length (at i)) of_shape.short) refl

  -- a text that an entry has means its word
  pub entry_word : (text w : List ℕ) (i : ℕ) → i < length es → text ≡ entry_text k es i → BracketOutcome text (answered w) → at i ≡ w
  entry_word text w i here e h =
      let same : answered (at i) ≡ answered w = one_of (entry_text k es i) (answered (at i)) (answered w) (entry_reads i here) (rw e at h) in
      cc

  later : (i j : ℕ) → i < j → j < length es → at i ≢ at j
  later i j less here e =
      let words_at : (a : ℕ) → a < length es → get_or (words k es) a [] ≡ at a = λ a h. get_or-map (word k) es a no_entry [] h in
      let size : length (words k es) ≡ length es = length-map es (word k) in
      let l : Listed (at i) (at j) = rw (words_at i (omega arith), words_at j here) at (rising_at Listed (words k es) i j [] first.first.rising less (omega (arith, size))) in
      not_itself (at j) (rw e at l)

  apart : (i j : ℕ) → i < length es → j < length es → entry_text k es i ≡ entry_text k es j → i ≡ j
  apart i j hi hj e =
      let same : at j ≡ at i = entry_word (entry_text k es i) (at i) j hj e (entry_reads i hi) in
      elim (cases_order i j) [
        | inl q ↦ q
        | inr (inl l) ↦ absurd (later i j l hj (sym same))
        | inr (inr l) ↦ absurd (later j i l hi same)
      ]

  module _ (text : List ℕ) where
    means : (u v : List ℕ) → BracketOutcome text (answered u) → BracketOutcome text (answered v) → u ≡ v
    means u v a b = let same : answered u ≡ answered v = one_of text (answered u) (answered v) a b in cc

    -- a text that an entry has is not refused
    not_refused : (i : ℕ) → i < length es → text ≡ entry_text k es i → (f : Fault) → TextOutcome k es text (refused f) → ⊥
    not_refused i here e f h = go (refused f) h refl
      where
        go : (o : Outcome ℕ) → TextOutcome k es text o → refused f ≡ o → ⊥
        go o (no_text g b) q = clash (at i) g (one_of text (answered (at i)) (refused g) (rw e (entry_reads i here)) b)
        go o (foreign w g b bad) q =
            clash tt g (sym (letters_pass i here) ∙ ap (letters_checked k) (entry_word text w i here e b) ∙ bad)
        go o (unknown w b ok none) q = none i here e
        go o (known j h k) q = clash j f (sym q)

    one : (o p : Outcome ℕ) → TextOutcome k es text o → TextOutcome k es text p → o ≡ p
    one o p (no_text f a) (no_text g b) = let same : refused f ≡ refused g = one_of text (refused f) (refused g) a b in cc
    one o p (no_text f a) (foreign v g b bad) = clash v f (one_of text (answered v) (refused f) b a)
    one o p (no_text f a) (unknown v b ok none) = clash v f (one_of text (answered v) (refused f) b a)
    one o p (no_text f a) (known j h e) = absurd (not_refused j h e (passed layer.Table f) (no_text f a))
    one o p (foreign u f a bad) (no_text g b) = clash u g (one_of text (answered u) (refused g) a b)
    one o p (foreign u f a bad) (foreign v g b worse) =
        let same : refused f ≡ refused g = sym bad ∙ ap (letters_checked k) (means u v a b) ∙ worse in
        cc
    one o p (foreign u f a bad) (unknown v b ok none) = clash tt f (sym ok ∙ ap (letters_checked k) (means v u b a) ∙ bad)
    one o p (foreign u f a bad) (known j h e) = absurd (not_refused j h e (passed layer.Table f) (foreign u f a bad))
    one o p (unknown u a ok none) (no_text g b) = clash u g (one_of text (answered u) (refused g) a b)
    one o p (unknown u a ok none) (foreign v g b bad) = clash tt g (sym ok ∙ ap (letters_checked k) (means u v a b) ∙ bad)
    one o p (unknown u a ok none) (unknown v b also empty) = refl
    one o p (unknown u a ok none) (known j h e) = absurd (none j h e)
    one o p (known i h e) (no_text g b) = absurd (not_refused i h e (passed layer.Table g) (no_text g b))
    one o p (known i h e) (foreign v g b bad) = absurd (not_refused i h e (passed layer.Table g) (foreign v g b bad))
    one o p (known i h e) (unknown v b ok none) = absurd (none i h e)
    one o p (known i h e) (known j m q) = ap answered (apart i j h m (sym e ∙ q))

  entry_of_text : (text : List ℕ) (o : Outcome ℕ) (i : ℕ) → TextOutcome k es text o → o ≡ answered i → (i < length es) × (text ≡ entry_text k es i)
  entry_of_text text o i (no_text f a) q = clash i (passed layer.Table f) (sym q)
  entry_of_text text o i (foreign w f a bad) q = clash i (passed layer.Table f) (sym q)
  entry_of_text text o i (unknown w a ok none) q = clash i (passed layer.Table (found 16 layer.Text 0 0)) (sym q)
  entry_of_text text o i (known j h e) q = let same : j ≡ i = cc in rw (← same) (h, e)

  read_back : ReadBack k es
  read_back = record {
    one = one;
    back = λ i h o outcome. one (entry_text k es i) o (answered i) outcome (known i h refl);
    accepted = λ text i outcome. entry_of_text text (answered i) i outcome refl;
    apart = apart;
  }

  -- a search for the word of a text, and the one entry that can have the text
  module _ (text w : List ℕ) (b : BracketOutcome text (answered w)) (ok : letters_checked k w ≡ answered tt) where
    abbrev search : Outcome (Option ℕ)
    search = searched k n es w

    found_word : (i : ℕ) → answered (Some i) ≡ search → (i < length es) × (at i ≡ w)
    found_word i e = names k es w (Some i) (searched_answers k n es w (Some i) e)

    -- where an entry has the text, the search finds its word
    found_there : (j : ℕ) → j < length es → text ≡ entry_text k es j → (i : ℕ) × (search ≡ answered (Some i)) × (at i ≡ w)
    found_there j here e = go (found_from 0 (words k es) w) refl
      where
        is : at j ≡ w
        is = entry_word text w j here e b

        passes_all : search ≡ answered (found_from 0 (words k es) w)
        passes_all = let size : length_checked n (length w) ≡ answered tt = rw is at (length_passes j here) in rw (size, ok) refl

        go : (o : Option ℕ) → o ≡ found_from 0 (words k es) w → (i : ℕ) × (search ≡ answered (Some i)) × (at i ≡ w)
        go None q = absurd (names k es w None q j here is)
        go (Some i) q = (i, passes_all ∙ ap answered (sym q), (names k es w (Some i) q).1)

    -- and so no entry has a text that the entry found has not
    none_found : (r : Result (Option ℕ) TableFault) → told (λ i. i) table_fault r ≡ search → ((i : ℕ) → r ≡ Ok (Some i) → text ≢ entry_text k es i) → (j : ℕ) → j < length es → text ≢ entry_text k es j
    none_found r found own j here e =
        go r found own
      where
        f : (i : ℕ) × (search ≡ answered (Some i)) × (at i ≡ w)
        f = found_there j here e

        go : (r : Result (Option ℕ) TableFault) → told (λ i. i) table_fault r ≡ search → ((i : ℕ) → r ≡ Ok (Some i) → text ≢ entry_text k es i) → ⊥
        go (Err x) q h = clash (Some f.0) (table_fault x) (sym (q ∙ f.1))
        go (Ok None) q h = (let z : answered None ≡ answered (Some f.0) = q ∙ f.1 in absurd (cc))
        go (Ok (Some i)) q h =
            let g = found_word i q in
            h i refl (e ∙ ap text_of (entry_word text w j here e b ∙ sym g.1))

pub closed_reads : (v : View) → v.shape ≡ None → ReadsBack v
unfolding ReadsBack
closed_reads v is s e = let clash : None ≡ Some s = sym is ∙ e in absurd (cc)

pub closed_comes : (v : View) (text : List ℕ) → v.shape ≡ None → ReadOutcome v text (refused (found 8 layer.Table 0 0))
unfolding ReadOutcome
closed_comes v text is = rw is refl

-- the table of a shape
module _ (v : View) (x : Shape) (is : v.shape ≡ Some (record { k = x.k; n = x.n })) (sound : Sound v) where
  first_of : FirstEntries x.k x.n v.entries
  first_of = sound (record { k = x.k; n = x.n }) is

  pub open_reads : ReadsBack v
  unfolding ReadsBack
  open_reads s e =
      let same : record { k = x.k; n = x.n } ≡ s = (let q : Some (record { k = x.k; n = x.n }) ≡ Some s = sym is ∙ e in cc) in
      subst (λ d. ReadBack d.k v.entries) same (read_back x.k x.n x.some x.letters x.depth v.entries first_of)

  comes_to : (text : List ℕ) (o : Outcome ℕ) → TextOutcome x.k v.entries text o → ReadOutcome v text o
  unfolding ReadOutcome
  comes_to text o h = rw is h

  pub no_text_comes : (text : List ℕ) (f : Fault) → BracketOutcome text (refused f) → ReadOutcome v text (refused (passed layer.Table f))
  no_text_comes text f b = comes_to text (refused (passed layer.Table f)) (no_text f b)

  pub known_comes : (text : List ℕ) (i : ℕ) → i < length v.entries → text ≡ entry_text x.k v.entries i → ReadOutcome v text (answered i)
  known_comes text i here e = comes_to text (answered i) (known i here e)

  -- the word of a text, as its letters stand
  module _ (text w letters : List ℕ) (b : BracketOutcome text (answered w)) (are : letters ≡ w) where
    pub foreign_comes : (f : Fault) → refused f ≡ letters_checked x.k letters → ReadOutcome v text (refused (passed layer.Table f))
    foreign_comes f bad = comes_to text (refused (passed layer.Table f)) (foreign w f b (sym (bad ∙ ap (letters_checked x.k) are)))

    module _ (ok : answered tt ≡ letters_checked x.k letters) where
      pass : letters_checked x.k w ≡ answered tt
      pass = sym (ok ∙ ap (letters_checked x.k) are)

      pub at_entry : (i : ℕ) → answered (Some i) ≡ find_outcome v letters → i < length v.entries
      at_entry i e = (found_word x.k x.n x.some x.letters x.depth v.entries first_of text w b pass i (rw (is, are) at e)).0

      unknown_comes : (r : Result (Option ℕ) TableFault) → told (λ i. i) table_fault r ≡ find_outcome v letters → ((i : ℕ) → r ≡ Ok (Some i) → text ≢ entry_text x.k v.entries i) → ReadOutcome v text (refused (passed layer.Table (found 16 layer.Text 0 0)))
      unknown_comes r e own =
          comes_to text _ (unknown w b pass (none_found x.k x.n x.some x.letters x.depth v.entries first_of text w b pass r (rw (is, are) at e) own))

      pub none_comes : answered None ≡ find_outcome v letters → ReadOutcome v text (refused (passed layer.Table (found 16 layer.Text 0 0)))
      none_comes e = unknown_comes (Ok None) e (λ i q. absurd (cc))

      pub long_comes : (f : TableFault) → refused (table_fault f) ≡ find_outcome v letters → ReadOutcome v text (refused (passed layer.Table (found 16 layer.Text 0 0)))
      long_comes f e = unknown_comes (Err f) e (λ i q. absurd (cc))

      pub other_comes : (i : ℕ) → answered (Some i) ≡ find_outcome v letters → text ≢ entry_text x.k v.entries i → ReadOutcome v text (refused (passed layer.Table (found 16 layer.Text 0 0)))
      other_comes i e own = unknown_comes (Ok (Some i)) e (λ j q. let same : i ≡ j = cc in rw (← same) own)

pub ruleset reads = (closed_reads, closed_comes, rows_listed, open_reads, no_text_comes, known_comes, foreign_comes, at_entry, none_comes, long_comes, other_comes)
