-- From rows in echelon form to a recipe or a loss set.
use Rattle.std.proofs.Common.{◌≡◌, ℕ, ◌<◌, ◌≤◌, Bool, true, false, cond, not, ◌&&◌, eqb, List, sym, refl, ap, ◌∙◌, subst, ⊎_elim, arith}
use mathlib.Core.Bool.{and-true, and-false}
use Rattle.std.proofs.lemmas.Bool.{cases_lt, cases_Bool, both_ways, and_parts, not_from_true, not_from_false}
use Rattle.sets.specs.declared.set.SmallSet.{SmallSet}
use Rattle.sets.specs.Members.{has, odd}
use Rattle.sets.specs.Sums.{total, count}
use Rattle.sets.proofs.Bits.{digit_none}
use Rattle.sets.proofs.Sums.{sum_none, sum_one, count_past}
use Rattle.cell.specs.Kinds.{Laws}
use Rattle.cell.proofs.Laws.{adds, total_alike, total_split, total_flat}
use Rattle.table.specs.Contents.{Contents}
use Rattle.recovery.specs.Groups.{units, in_group, no_units, at, Grouped}
use Rattle.recovery.specs.Books.{holds, held}
use Rattle.recovery.specs.Recipes.{OfGood, RecipeFor, LossSetFor}
use Rattle.recovery.specs.Rows.{Echelon, Balanced}
use Rattle.recovery.specs.Answers.{but, ReadBack, Lost}
use Rattle.recovery.proofs.Books.{group_past, group_zero, same_if_zero, code_groups, groups_code}
use Rattle.recovery.proofs.Meaning.{determines, hides, never_both}

module _ {C : Type 0} (o : C) (plus : C → C → C) (laws : Laws o plus) (t : Contents) (before rows : List SmallSet) (others : SmallSet) (rank : ℕ) (grouped : Grouped t before) (h : Echelon o plus before others no_units rows rank) where
  -- every row has units only
  pub of_units : (k i : ℕ) → has (at rows k) i ≡ true → i < units t
  of_units k i e = ⊎_elim (λ l. l) (λ past. absurd (both_ways (has (at rows k) i) (h.no_more i (λ j. grouped j i ∙ group_past t j i past) k) e)) (cases_lt i (units t))

  -- what the units of a row hold by a book sums to zero
  pub row_zero : (k : ℕ) (x : ℕ → C) → total o plus (units t) (has (at rows k)) (holds o plus t x) ≡ o
  row_zero k x = h.code_to (units t) (holds o plus t x) (code_groups o plus laws t (units t) (holds o plus t x) before grouped (λ p l. group_zero o plus laws t x p l)) k

  -- a row after the pivots has none of the units that were asked for
  pub row_clean : (k i : ℕ) → rank ≤ k → has (at rows k) i ≡ true → has others i ≡ false
  row_clean k i l e = ⊎_elim (λ a. absurd (both_ways (has (at rows k) i) (h.clean k i l a (digit_none i)) e)) (λ e. e) (cases_Bool (has others i))

-- a good unit is a recipe for itself
pub itself : {C : Type 0} (o : C) (plus : C → C → C) → Laws o plus → (t : Contents) (good : ℕ → Bool) (unit : ℕ) (s : ℕ → Bool) → unit < units t → good unit ≡ true
    → ((i : ℕ) → i < units t → s i ≡ eqb i unit) → ((i : ℕ) → s i ≡ true → i ≡ unit) → RecipeFor o plus t good unit s
itself o plus laws t good unit s l is-good is only = record {
  good_units = λ i e. (subst (λ n. n < units t) (sym (only i e)) l, ap good (only i e) ∙ is-good);
  sums = λ b r.
      total_alike o plus laws (units t) s (λ i. eqb i unit) (λ i. held o plus t b i r) is
      ∙ sum_one o plus (adds laws) (units t) unit (λ i. held o plus t b i r) l;
}

module _ {C : Type 0} (o : C) (plus : C → C → C) (laws : Laws o plus) (t : Contents) (missing : SmallSet) (unit : ℕ) where
  pub read_back : (s : SmallSet) → unit < units t → RecipeFor o plus t (but missing) unit (has s) → ReadBack o plus t (but missing) unit (has s)
  read_back s l recipe = record {
    is_unit = l;
    recipe = recipe;
    determined = determines o plus laws t (but missing) unit (has s) recipe;
    no_loss = λ x loss. never_both o plus laws t (but missing) unit (has s) x recipe loss;
  }

  pub lost : (s : SmallSet) → LossSetFor t (but missing) unit (has s) → Lost o plus t (but missing) unit (has s)
  lost s loss = record {
    is_unit = (loss.missing_units unit loss.has_unit).0;
    loss = loss;
    hidden = hides o plus laws t (but missing) unit (has s) loss;
    no_recipe = λ x recipe. never_both o plus laws t (but missing) unit x (has s) recipe loss;
  }

  module _ (before rows : List SmallSet) (others : SmallSet) (rank : ℕ) (grouped : Grouped t before) (h : Echelon o plus before others no_units rows rank) (but-unit : (i : ℕ) → has others i ≡ (has missing i && not (eqb i unit))) where
    units_only : (k i : ℕ) → has (at rows k) i ≡ true → i < units t
    units_only = of_units o plus laws t before rows others rank grouped h

    -- a row after the pivots that has the unit: the others of its units are a recipe
    pub row_recipe : (k : ℕ) → rank ≤ k → has (at rows k) unit ≡ true → (s : SmallSet)
        → ((i : ℕ) → has s i ≡ (has (at rows k) i && not (eqb i unit))) → RecipeFor o plus t (but missing) unit (has s)
    row_recipe k l e s is = record { good_units = units_good; sums = λ b r. sums (λ d. b d r) }
      where
        units_good : OfGood t (but missing) (has s)
        units_good i m =
            let both = and_parts (has (at rows k) i) (not (eqb i unit)) (sym (is i) ∙ m) in
            let other : (has missing i && not (eqb i unit)) ≡ false = sym (but-unit i) ∙ row_clean o plus laws t before rows others rank grouped h k i l both.0 in
            (units_only k i both.0, not_from_false (has missing i) (sym (and-true (has missing i)) ∙ ap (λ b. has missing i && b) (sym both.1) ∙ other))

        sums : (x : ℕ → C) → total o plus (units t) (has s) (holds o plus t x) ≡ holds o plus t x unit
        sums x =
            total_alike o plus laws (units t) (has s) (λ i. has (at rows k) i && not (eqb i unit)) (holds o plus t x) (λ i _. is i)
            ∙ sym (same_if_zero o plus laws _ _ (sym (total_split o plus laws (units t) unit (has (at rows k)) (holds o plus t x) (units_only k unit e) e) ∙ row_zero o plus laws t before rows others rank grouped h k x))

    -- no such row: the balanced set is a loss set
    pub balanced_loss : has missing unit ≡ true → unit < units t → units t ≤ 64 → ((k : ℕ) → rank ≤ k → has (at rows k) unit ≡ false)
        → (s : SmallSet) → Balanced others rows rank unit 0 s → LossSetFor t (but missing) unit (has s)
    balanced_loss gone l small absent s balanced = record {
      missing_units = λ i e. ⊎_elim
          (λ same. (subst (λ n. n < units t) (sym same) l, not_from_true (has missing i) (ap (has missing) same ∙ gone)))
          (λ x.
          let both = and_parts (has missing i) (not (eqb i unit)) (sym (but-unit i) ∙ x.3.among) in
          (units_only x.0 i x.3.in_row, not_from_true (has missing i) both.0))
          (balanced.leading i e);
      has_unit = balanced.has_unit;
      even = λ p _. sym (ap odd (count_past (units t) 64 (λ i. has s i && in_group t p i) small (λ i past. ap (λ b. has s i && b) (group_past t p i past) ∙ and-false (has s i)))) ∙ even p;
    }
      where
        x : C
        x = laws.some.0

        -- a unit of the set is in no row after the pivots
        apart : (k i : ℕ) → rank ≤ k → has s i ≡ true → has (at rows k) i ≡ false
        apart k i lk e = ⊎_elim
            (λ same. ap (has (at rows k)) same ∙ absent k lk)
            (λ y. h.clean k i lk y.3.among (digit_none i))
            (balanced.leading i e)

        code : (k : ℕ) → total o plus 64 (has (at rows k)) (λ i. cond (has s i) x o) ≡ o
        code k = ⊎_elim
            (λ lk. total_flat o plus laws 64 (has (at rows k)) (has s) x ∙ ap (λ b. cond b x o) (balanced.even k (omega arith) lk))
            (λ lk. sum_none o plus (adds laws) 64 (λ i. cond (has (at rows k) i) (cond (has s i) x o) o) (λ i _. neither (has (at rows k) i) (has s i) (apart k i lk)))
            (cases_lt k rank)
          where
            neither : (a b : Bool) → (b ≡ true → a ≡ false) → cond a (cond b x o) o ≡ o
            neither a true e = ap (λ z. cond z x o) (e refl)
            neither true false e = refl
            neither false false e = refl

        zero_only : (b : Bool) → cond b x o ≡ o → b ≡ false
        zero_only true e = absurd (laws.some.1 e)
        zero_only false e = refl

        even : (p : ℕ) → odd (count 64 (λ i. has s i && in_group t p i)) ≡ false
        even p = zero_only _ (sym (total_flat o plus laws 64 (in_group t p) (has s) x) ∙ groups_code o plus laws t 64 (λ i. cond (has s i) x o) before grouped (h.code_from 64 (λ i. cond (has s i) x o) code) p)
