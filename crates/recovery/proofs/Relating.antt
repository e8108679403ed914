-- The rows after the pivots are relations, and enough of them: cells of good units over which they sum to zero can be
-- filled up to what all units hold by a book.
use Rattle.std.proofs.Common.{◌≡◌, ℕ, zero, suc, ◌-◌, ◌<◌, ◌≤◌, Bool, true, false, cond, eqb, List, ◌++◌, length, take, drop, replicate, sym, refl, ap, ◌∙◌, subst, ap₂, ⊎_elim, arith}
use lib.ListN.{length-replicate}
use Rattle.std.proofs.lemmas.List.{get_or_append_left, get_or-append_right, get_or-drop, length-append, length-take-le}
use Rattle.std.proofs.lemmas.Bool.{cases_eq, cases_lt, both_ways, not-true, not_from_false, ne_eqb}
use Rattle.sets.specs.declared.set.SmallSet.{SmallSet}
use Rattle.sets.specs.Members.{has}
use Rattle.sets.specs.Sums.{total}
use Rattle.sets.proofs.Sums.{sum_same, sum_one, unit_r}
use Rattle.cell.specs.Kinds.{Laws}
use Rattle.cell.proofs.Laws.{adds, total_none, total_same, total_alike, total_linear}
use Rattle.table.specs.Contents.{Contents}
use Rattle.recovery.specs.Groups.{units, no_units, at, Grouped}
use Rattle.recovery.specs.Books.{held}
use Rattle.recovery.specs.Recipes.{Relation, Relations}
use Rattle.recovery.specs.Rows.{Pivots, Echelon}
use Rattle.recovery.specs.Answers.{but}
use Rattle.recovery.proofs.Elimination.{none_past, blank}
use Rattle.recovery.proofs.Books.{is_book, groups_code}
use Rattle.recovery.proofs.Solving.{of_units, row_zero, row_clean}

-- the rows from place `from` on stand in `sets`, and nothing else does
pub record Rest (from : ℕ) (rows sets : List SmallSet) : Type 0 where
  pub early : (k : ℕ) → k < from → (i : ℕ) → has (at sets k) i ≡ false
  pub late : (k : ℕ) → from ≤ k → (i : ℕ) → has (at sets k) i ≡ has (at rows k) i

module _ {C : Type 0} (o : C) (plus : C → C → C) (laws : Laws o plus) where
  -- the cells f with d added at the unit u
  abbrev put : (ℕ → C) → ℕ → C → ℕ → C
  put f u d i = plus (f i) (cond (eqb i u) d o)

  put_total : (m : ℕ) (s : ℕ → Bool) (f : ℕ → C) (u : ℕ) (d : C) → u < m → total o plus m s (put f u d) ≡ plus (total o plus m s f) (cond (s u) d o)
  put_total m s f u d l =
      total_linear o plus laws m s f (λ i. cond (eqb i u) d o)
      ∙ ap (plus (total o plus m s f))
      (sum_same o plus m (λ i. cond (s i) (cond (eqb i u) d o) o) (λ i. cond (eqb i u) (cond (s i) d o) o) (λ i _. swap (s i) (eqb i u)) ∙ sum_one o plus (adds laws) m u (λ i. cond (s i) d o) l)
    where
      swap : (a b : Bool) → cond a (cond b d o) o ≡ cond b (cond a d o) o
      swap true b = refl
      swap false true = refl
      swap false false = refl

  module _ (m : ℕ) (asked : SmallSet) (rows : List SmallSet) (rank : ℕ) (pivots : Pivots asked rows rank) (small : (k i : ℕ) → has (at rows k) i ≡ true → i < m) where
    -- cells g as f but for units asked for; if f sums to zero over the rows from place i on, g does over all
    record Filled (i : ℕ) (f : ℕ → C) : Type 0 where
      cells : ℕ → C
      kept : (u : ℕ) → has asked u ≡ false → cells u ≡ f u
      zeros : ((k : ℕ) → i ≤ k → total o plus m (has (at rows k)) f ≡ o) → (k : ℕ) → total o plus m (has (at rows k)) cells ≡ o

    fill : (i : ℕ) → i ≤ rank → (f : ℕ → C) → Filled i f
    fill zero l f = record { cells = f; kept = λ u e. refl; zeros = λ z k. z k (omega arith) }
    fill (suc j) l f =
        let lead = pivots.leads j (omega arith) in
        let u = lead.0 in
        let d = total o plus m (has (at rows j)) f in
        let lu : u < m = small j u lead.1.in_row in
        let rest = fill j (omega arith) (put f u d) in
        record {
          cells = rest.cells;
          kept = λ w e. rest.kept w e ∙ ap (λ b. plus (f w) (cond b d o)) (ne_eqb w u (λ same. both_ways (has asked u) (ap (has asked) (sym same) ∙ e) lead.1.among)) ∙ unit_r o plus (adds laws) (f w);
          zeros = λ z. rest.zeros (λ k lk. put_total m (has (at rows k)) f u d lu ∙ ⊎_elim
              (λ same. subst (λ n. plus (total o plus m (has (at rows n)) f) (cond (has (at rows n) u) d o) ≡ o) (sym same) (ap (λ b. plus d (cond b d o)) lead.1.in_row ∙ laws.self d))
              (λ ne. ap₂ plus (z k (omega arith)) (ap (λ b. cond b d o) (pivots.upper j k u (omega arith) (omega arith) lead.1)) ∙ laws.unit o)
              (cases_eq k j));
        }

  module _ (t : Contents) (missing : SmallSet) (before rows sets : List SmallSet) (rank : ℕ) (grouped : Grouped t before) (h : Echelon o plus before missing no_units rows rank) (rest : Rest rank rows sets) where
    late_only : (k i : ℕ) → has (at sets k) i ≡ true → rank ≤ k
    late_only k i e = ⊎_elim (λ l. absurd (both_ways (has (at sets k) i) (rest.early k l i) e)) (λ l. l) (cases_lt k rank)

    each : (k : ℕ) → Relation o plus t (but missing) (has (at sets k))
    each k = record {
      good_units = λ i e.
          let lk = late_only k i e in
          let in_row = sym (rest.late k lk i) ∙ e in
          (of_units o plus laws t before rows missing rank grouped h k i in_row, not_from_false (has missing i) (row_clean o plus laws t before rows missing rank grouped h k i lk in_row));
      sums = λ b r. ⊎_elim
          (λ l. total_none o plus laws (units t) (has (at sets k)) (λ i. held o plus t b i r) (λ i _. rest.early k l i))
          (λ l. total_alike o plus laws (units t) (has (at sets k)) (has (at rows k)) (λ i. held o plus t b i r) (λ i _. rest.late k l i) ∙ row_zero o plus laws t before rows missing rank grouped h k (λ d. b d r))
          (cases_lt k rank);
    }

    pub relations : Relations o plus t (but missing) sets
    relations = record {
      each = each;
      needed = λ cells r b match k.
          total_same o plus laws (units t) (has (at sets k)) (λ i. cells i r) (λ i. held o plus t b i r) (λ i li e. match i li ((each k).good_units i e).1)
          ∙ (each k).sums b r;
      enough = λ cells. (
        (λ d r. (filled (λ i. cells i r)).cells d),
        λ r zeros u lu good.
            let f : ℕ → C = λ i. cells i r in
            let full = filled f in
            let code = h.code_from (units t) full.cells (full.zeros (λ k lk. total_alike o plus laws (units t) (has (at rows k)) (has (at sets k)) f (λ i _. sym (rest.late k lk i)) ∙ zeros k)) in
            sym (is_book o plus laws t full.cells (λ p _. groups_code o plus laws t (units t) full.cells before grouped code p) u lu ∙ full.kept u (not-true (has missing u) good)),
      );
    }
      where
        filled : (f : ℕ → C) → Filled (units t) missing rows rank h.pivots (of_units o plus laws t before rows missing rank grouped h) rank f
        filled f = fill (units t) missing rows rank h.pivots (of_units o plus laws t before rows missing rank grouped h) rank (omega arith) f

-- where the first rows are emptied, and what follows the rows was empty, the others are left
pub emptied : (rows others blanks : List SmallSet) (rank : ℕ) (empty : SmallSet) → rank ≤ length rows → ((i : ℕ) → has empty i ≡ false) → ((k i : ℕ) → has (at others k) i ≡ false)
    → blanks ≡ replicate (length (take rank (rows ++ others))) empty → Rest rank rows (blanks ++ drop rank (rows ++ others))
emptied rows others blanks rank empty few none past is = record {
  early = λ k l i. ap (λ (s : SmallSet). has s i) (get_or_append_left blanks _ _ k (omega (arith, long))) ∙ ap (λ xs. has (at xs k) i) is ∙ blank _ empty none k i;
  late = λ k l i. ap (λ (s : SmallSet). has s i) (kept k l) ∙ ⊎_elim
      (λ lt. ap (λ (s : SmallSet). has s i) (get_or_append_left rows others _ k lt))
      (λ ge. ap (λ (s : SmallSet). has s i) (get_or-append_right rows others (length rows) k _ refl ge) ∙ past (k - length rows) i ∙ sym (none_past rows k i ge))
      (cases_lt k (length rows));
}
  where
    long : length blanks ≡ rank
    long = ap length is ∙ length-replicate _ empty ∙ length-take-le rank (rows ++ others) (omega (arith, few, length-append rows others))

    kept : (k : ℕ) → rank ≤ k → at (blanks ++ drop rank (rows ++ others)) k ≡ at (rows ++ others) k
    kept k l = get_or-append_right blanks (drop rank (rows ++ others)) rank k _ long l ∙ get_or-drop rank (rows ++ others) (k - rank) _ ∙ ap (at (rows ++ others)) (omega arith)
