-- Lists of sets, and one turn of each loop of the elimination.
use Rattle.std.proofs.Common.{◌≡◌, ℕ, ◌+◌, ◌-◌, ◌<◌, ◌≤◌, Bool, true, false, cond, ◌&&◌, List, length, take, drop, set, replicate, sym, refl, ap, ◌∙◌, subst, ap₂, inl, inr, ⊎_elim, arith, rules, Option, MatchOption, None, Some, length-set, get_or-set_other, get_or-set_same}
use mathlib.Core.Bool.{xor, and-true, and-false}
use lib.ListN.{length-replicate, get_or-replicate}
use borrow.Rule.Slice.PartMut.{put_mid}
use Rattle.std.proofs.lemmas.List.{get_or_past, places}
use Rattle.std.proofs.lemmas.Bool.{cases_eq, cases_lt, cases_order, both_ways}
use Rattle.sets.specs.declared.set.SmallSet.{SmallSet}
use Rattle.sets.specs.Members.{has}
use Rattle.sets.specs.Steps.{Least, Without}
use Rattle.sets.specs.Sums.{total}
use Rattle.sets.proofs.Bits.{digit_none, xor_none, xor_self}
use Rattle.sets.proofs.Steps.{left_of, out_before}
use Rattle.sets.proofs.Sums.{unit_r}
use Rattle.cell.specs.Kinds.{Laws}
use Rattle.cell.proofs.Laws.{adds, total_none, total_alike, total_difference}
use Rattle.recovery.specs.Groups.{no_units, at}
use Rattle.recovery.specs.Rows.{RowWith, Cleared, Code, Leads, Pivots, Echelon}

-- ---- what stands at a place

pub none_past : (xs : List SmallSet) (k u : ℕ) → length xs ≤ k → has (at xs k) u ≡ false
none_past xs k u h = ap (λ (s : SmallSet). has s u) (get_or_past xs k _ h) ∙ digit_none u

-- the first place of a row that has u, among those from `from` on
pub first_row : (rows : List SmallSet) (from u : ℕ) (r : Option ℕ)
    → MatchOption r ((k : ℕ) → from ≤ k → k < length rows → has (at rows k) u ≡ false) (λ i. (from ≤ i) × (i < length rows) × (has (at rows i) u ≡ true) × ((k : ℕ) → from ≤ k → k < i → has (at rows k) u ≡ false))
    → RowWith rows from u r
first_row rows from u None none = λ k l. ⊎_elim (none k l) (none_past rows k u) (cases_lt k (length rows))
first_row rows from u (Some i) found = (found.0, found.1, found.2)

pub at_same : (xs : List SmallSet) (i : ℕ) (s : SmallSet) → i < length xs → at (set xs i s) i ≡ s
at_same xs i s h = get_or-set_same xs i s _ h

pub at_other : (xs : List SmallSet) (i k : ℕ) (s : SmallSet) → (k ≡ i → ⊥) → at (set xs i s) k ≡ at xs k
at_other xs i k s h = get_or-set_other xs i k s _ h

pub blank : (m : ℕ) (empty : SmallSet) → ((u : ℕ) → has empty u ≡ false) → (k u : ℕ) → has (at (replicate m empty) k) u ≡ false
blank m empty none k u = ⊎_elim
    (λ l. ap (λ (s : SmallSet). has s u) (get_or-replicate m k empty _ l) ∙ none u)
    (λ l. none_past (replicate m empty) k u (omega (arith, length-replicate m empty)))
    (cases_lt k m)

-- ---- clearing: the pivot was added to each of the first m rows that has the unit

pub record Clearing (pivot : SmallSet) (u m : ℕ) (before rows : List SmallSet) : Type 0 where
  pub added : (k : ℕ) → k < m → (j : ℕ) → has (at rows k) j ≡ xor (has (at before k) j) (has (at before k) u && has pivot j)
  pub rest : (k : ℕ) → m ≤ k → at rows k ≡ at before k
  pub wide : length rows ≡ length before

module _ (pivot : SmallSet) (u : ℕ) (before : List SmallSet) where
  module _ (m : ℕ) (rows : List SmallSet) (h : Clearing pivot u m before rows) where
    abbrev Done : SmallSet → Type 0
    Done s = (j : ℕ) → has s j ≡ xor (has (at before m) j) (has (at before m) u && has pivot j)

    one_more : (more : List SmallSet) → Done (at more m) → ((k : ℕ) → (k ≡ m → ⊥) → at more k ≡ at rows k) → length more ≡ length rows → Clearing pivot u (m + 1) before more
    one_more more here others wide = record {
      added = λ k b j. ⊎_elim
          (λ e. subst (λ n. has (at more n) j ≡ xor (has (at before n) j) (has (at before n) u && has pivot j)) (sym e) (here j))
          (λ ne. ap (λ (s : SmallSet). has s j) (others k ne) ∙ h.added k (omega arith) j)
          (cases_eq k m);
      rest = λ k l. others k (omega arith) ∙ h.rest k (omega arith);
      wide = wide ∙ h.wide;
    }

    -- a row that lacks the unit stays
    pub clearing_keeps : has (at rows m) u ≡ false → Clearing pivot u (m + 1) before rows
    clearing_keeps out = one_more rows here (λ k ne. refl) refl
      where
        here : Done (at rows m)
        here j =
            let same = h.rest m (omega arith) in
            let lacks : has (at before m) u ≡ false = ap (λ (s : SmallSet). has s u) (sym same) ∙ out in
            ap (λ (s : SmallSet). has s j) same ∙ sym (xor_none _) ∙ ap (λ b. xor (has (at before m) j) (b && has pivot j)) (sym lacks)

    -- to one that has it the pivot is added
    pub clearing_adds : has (at rows m) u ≡ true → m < length rows → (s : SmallSet) → ((j : ℕ) → has s j ≡ xor (has (at rows m) j) (has pivot j)) → Clearing pivot u (m + 1) before (set rows m s)
    clearing_adds in_it room s is = one_more (set rows m s) here (λ k ne. at_other rows m k s ne) (length-set rows m s)
      where
        here : Done (at (set rows m s) m)
        here j =
            let same = h.rest m (omega arith) in
            let holds : has (at before m) u ≡ true = ap (λ (s : SmallSet). has s u) (sym same) ∙ in_it in
            ap (λ (s : SmallSet). has s j) (at_same rows m s room) ∙ is j
            ∙ ap (λ (s : SmallSet). xor (has s j) (has pivot j)) same
            ∙ ap (λ b. xor (has (at before m) j) (b && has pivot j)) (sym holds)

-- the rows after the pivot at place i, cleared, are back in their place
module _ (i u m : ℕ) (before rest : List SmallSet) (inside : i < length before) (h : Clearing (at before i) u m (take (length before - (i + 1)) (drop (i + 1) before)) rest) (end : length before - (i + 1) ≤ m) where
  pub cleared : Cleared i u before (put_mid (i + 1) (length before - (i + 1)) before rest)
  cleared = record { kept = λ k l. grind (arith, places); added = after; wide = search (rules, places) }
    where
      rows : List SmallSet
      rows = put_mid (i + 1) (length before - (i + 1)) before rest

      after : (k : ℕ) → i < k → (j : ℕ) → has (at rows k) j ≡ xor (has (at before k) j) (has (at before k) u && has (at before i) j)
      after k l j = ⊎_elim
          (λ lt.
          let q = k - (i + 1) in
          let here : at rows k ≡ at rest q = grind (arith, places) in
          let there : at (take (length before - (i + 1)) (drop (i + 1) before)) q ≡ at before k = grind (arith, places) in
          ap (λ (s : SmallSet). has s j) here ∙ h.added q (omega arith) j ∙ ap (λ (s : SmallSet). xor (has s j) (has s u && has (at before i) j)) there)
          (λ past.
          none_past rows k j (grind (arith, places))
          ∙ sym (ap₂ (λ a b. xor a (b && has (at before i) j)) (none_past before k j past) (none_past before k u past) ∙ xor_none false))
          (cases_lt k (length before))

-- ---- elimination

-- the rows at the places a and b were exchanged
pub record Exchanged (a b : ℕ) (before rows : List SmallSet) : Type 0 where
  pub at_a : at rows a ≡ at before b
  pub at_b : at rows b ≡ at before a
  pub others : (k : ℕ) → (k ≡ a → ⊥) → (k ≡ b → ⊥) → at rows k ≡ at before k
  pub wide : length rows ≡ length before

-- each row from place n on stood from place n on
comes_from : (n a b : ℕ) (before rows : List SmallSet) → Exchanged a b before rows → n ≤ a → n ≤ b → (k : ℕ) → n ≤ k → (j : ℕ) × (n ≤ j) × (at rows k ≡ at before j)
comes_from n a b before rows x la lb k lk = ⊎_elim
    (λ e. (b, lb, ap (at rows) e ∙ x.at_a))
    (λ ne. ⊎_elim (λ e. (a, la, ap (at rows) e ∙ x.at_b)) (λ nf. (k, lk, x.others k ne nf)) (cases_eq k b))
    (cases_eq k a)

goes_back : (a b : ℕ) (before rows : List SmallSet) → Exchanged a b before rows → Exchanged a b rows before
goes_back a b before rows x = record { at_a = sym x.at_b; at_b = sym x.at_a; others = λ k p q. sym (x.others k p q); wide = sym x.wide }

module _ {C : Type 0} (o : C) (plus : C → C → C) (laws : Laws o plus) where
  exchanged_code : (a b m : ℕ) (f : ℕ → C) (before rows : List SmallSet) → Exchanged a b before rows → Code o plus m f before → Code o plus m f rows
  exchanged_code a b m f before rows x code k =
      let from = comes_from 0 a b before rows x (omega arith) (omega arith) k (omega arith) in
      ap (λ (s : SmallSet). total o plus m (has s) f) from.2 ∙ code from.0

  masked : (q : Bool) (m : ℕ) (s : ℕ → Bool) (f : ℕ → C) → total o plus m (λ j. q && s j) f ≡ cond q (total o plus m s f) o
  masked true m s f = refl
  masked false m s f = total_none o plus laws m (λ j. false) f (λ i l. refl)

  module _ (i u m : ℕ) (f : ℕ → C) (before rows : List SmallSet) (c : Cleared i u before rows) where
    cleared_total : (k : ℕ) → i < k → total o plus m (has (at rows k)) f ≡ plus (total o plus m (has (at before k)) f) (cond (has (at before k) u) (total o plus m (has (at before i)) f) o)
    cleared_total k l =
        total_alike o plus laws m (has (at rows k)) (λ j. xor (has (at before k) j) (has (at before k) u && has (at before i) j)) f (λ j _. c.added k l j)
        ∙ total_difference o plus laws m (has (at before k)) (λ j. has (at before k) u && has (at before i) j) f
        ∙ ap (plus (total o plus m (has (at before k)) f)) (masked (has (at before k) u) m (has (at before i)) f)

    cond_none : (q : Bool) (x : C) → x ≡ o → cond q x o ≡ o
    cond_none true x e = e
    cond_none false x e = refl

    cleared_alike : (k : ℕ) → total o plus m (has (at before i)) f ≡ o → total o plus m (has (at rows k)) f ≡ total o plus m (has (at before k)) f
    cleared_alike k zero = ⊎_elim
        (λ l. cleared_total k l ∙ ap (plus (total o plus m (has (at before k)) f)) (cond_none (has (at before k) u) _ zero) ∙ unit_r o plus (adds laws) _)
        (λ l. ap (λ (s : SmallSet). total o plus m (has s) f) (c.kept k l))
        (cases_lt i k)

    cleared_code : Code o plus m f before → Code o plus m f rows
    cleared_code code k = cleared_alike k (code i) ∙ code k

    cleared_back : Code o plus m f rows → Code o plus m f before
    cleared_back code k =
        let pivot : total o plus m (has (at before i)) f ≡ o = ap (λ (s : SmallSet). total o plus m (has s) f) (sym (c.kept i (omega arith))) ∙ code i in
        sym (cleared_alike k pivot) ∙ code k

  module _ (before : List SmallSet) (asked left rest : SmallSet) (rows : List SmallSet) (rank unit : ℕ) (h : Echelon o plus before asked left rows rank) (least : Least left unit) (without : Without left unit rest) where
    -- a row that has the unit becomes the next pivot, and the unit leaves the rows after it
    module _ (place : ℕ) (after : rank ≤ place) (room : place < length rows) (in_row : has (at rows place) unit ≡ true) (moved cleared : List SmallSet) (x : Exchanged rank place rows moved) (c : Cleared rank unit moved cleared) where
      pivot_is : at cleared rank ≡ at rows place
      pivot_is = c.kept rank (omega arith) ∙ x.at_a

      earlier : (k : ℕ) → k < rank → at cleared k ≡ at rows k
      earlier k l = c.kept k (omega arith) ∙ x.others k (omega arith) (omega arith)

      -- what the rows from place n on lack, they lack still
      lacking : (n u : ℕ) → n ≤ rank → ((k : ℕ) → n ≤ k → has (at rows k) u ≡ false) → (k : ℕ) → n ≤ k → has (at cleared k) u ≡ false
      lacking n u l none k lk = ⊎_elim
          (λ past. c.added k past u ∙ ap₂ (λ a b. xor a (has (at moved k) unit && b)) (lacked k lk) (lacked rank l) ∙ ap (xor false) (and-false _) ∙ xor_none false)
          (λ upto. ap (λ (s : SmallSet). has s u) (c.kept k upto) ∙ lacked k lk)
          (cases_lt rank k)
        where
          lacked : (k : ℕ) → n ≤ k → has (at moved k) u ≡ false
          lacked k lk =
              let from = comes_from n rank place rows moved x l (omega arith) k lk in
              ap (λ (s : SmallSet). has s u) from.2 ∙ none from.0 from.1

      gone : (k : ℕ) → rank < k → has (at cleared k) unit ≡ false
      gone k l =
          let pivot : has (at moved rank) unit ≡ true = ap (λ (s : SmallSet). has s unit) x.at_a ∙ in_row in
          c.added k l unit ∙ ap (λ b. xor (has (at moved k) unit) (has (at moved k) unit && b)) pivot
          ∙ ap (xor (has (at moved k) unit)) (and-true _) ∙ xor_self _

      lead : Leads asked (at cleared rank) unit
      lead = record {
        among = h.of_asked unit least.member;
        in_row = ap (λ (s : SmallSet). has s unit) pivot_is ∙ in_row;
        first = λ j l a. ap (λ (s : SmallSet). has s j) pivot_is ∙ h.clean place j after a (least.first j l);
      }

      one_lead : (u : ℕ) → Leads asked (at cleared rank) u → u ≡ unit
      one_lead u v = elim (cases_order u unit) [
        | inl e ↦ e
        | inr e ↦ elim e [
          | inl l ↦ absurd (both_ways (has (at cleared rank) u) (lead.first u l v.among) v.in_row)
          | inr l ↦ absurd (both_ways (has (at cleared rank) unit) (v.first unit l lead.among) lead.in_row)
        ]
      ]

      pivots : Pivots asked cleared (rank + 1)
      pivots = record {
        ranked = omega (arith, c.wide, x.wide);
        leads = λ k l. ⊎_elim
            (λ e. subst (λ n. (u : ℕ) × Leads asked (at cleared n) u) (sym e) (unit, lead))
            (λ ne. let old = h.pivots.leads k (omega arith) in (old.0, subst (λ (s : SmallSet). Leads asked s old.0) (sym (earlier k (omega arith))) old.1))
            (cases_eq k rank);
        upper = λ i k u l m v. ⊎_elim
            (λ e.
            let same = one_lead u (subst (λ n. Leads asked (at cleared n) u) e v) in
            ap (has (at cleared k)) same ∙ gone k (omega arith))
            (λ ne.
            let lt : i < rank = omega arith in
            let old : Leads asked (at rows i) u = subst (λ (s : SmallSet). Leads asked s u) (earlier i lt) v in
            lacking (i + 1) u (omega arith) (λ j lj. h.pivots.upper i j u (omega arith) lt old) k (omega arith))
            (cases_eq i rank);
      }

      pub elimination_adds : Echelon o plus before asked rest cleared (rank + 1)
      elimination_adds = record {
        code_to = λ m f z. cleared_code rank unit m f moved cleared c (exchanged_code rank place m f rows moved x (h.code_to m f z));
        code_from = λ m f z. h.code_from m f (exchanged_code rank place m f moved rows (goes_back rank place rows moved x) (cleared_back rank unit m f moved cleared c z));
        no_more = λ u z k. lacking 0 u (omega arith) (λ j _. h.no_more u z j) k (omega arith);
        wide = c.wide ∙ x.wide ∙ h.wide;
        pivots = pivots;
        of_asked = λ u e. h.of_asked u (left_of left rest unit without u e);
        clean = λ k u l a b. ⊎_elim
            (λ e. ap (has (at cleared k)) e ∙ gone k (omega arith))
            (λ ne. lacking rank u (omega arith) (λ j lj. h.clean j u lj a (out_before left rest unit without u ne b)) k (omega arith))
            (cases_eq u unit);
      }

  pub elimination_ends : (before : List SmallSet) (asked left : SmallSet) (rows : List SmallSet) (rank : ℕ) → ((u : ℕ) → has left u ≡ false)
      → Echelon o plus before asked left rows rank → Echelon o plus before asked no_units rows rank
  elimination_ends before asked left rows rank none h = record {
    code_to = h.code_to;
    code_from = h.code_from;
    no_more = h.no_more;
    wide = h.wide;
    pivots = h.pivots;
    of_asked = λ u e. absurd (both_ways (has no_units u) (digit_none u) e);
    clean = λ k u l a b. h.clean k u l a (none u);
  }
