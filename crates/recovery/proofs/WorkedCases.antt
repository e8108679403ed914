-- The worked cases, by tests that compute.
use Rattle.std.proofs.Common.{◌≡◌, ℕ, ◌<◌, ◌≤◌, Bool, true, false, not, ◌&&◌, ◌||◌, eqb, ltb, leb, List, [], ◌∷◌, get_or, None, sym, refl, ap, ◌∙◌, subst, inl, inr, ⊎_elim}
use mathlib.Core.Bool.{xor}
use Rattle.std.proofs.lemmas.Bool.{false≢true, cases_lt, and_parts, or_cases, both_ways, eqb-true, leb-true, ltb-true, not-true, not_from_true}
use Rattle.sets.specs.Members.{odd}
use Rattle.sets.specs.Sums.{sum_below, total, count}
use Rattle.sets.proofs.Bits.{xor_none}
use Rattle.cell.specs.Kinds.{Laws}
use Rattle.cell.proofs.Laws.{total_none, total_difference, total_split}
use Rattle.table.specs.Ranges.{every, some, first}
use Rattle.table.specs.Contents.{Contents, has_point}
use Rattle.table.specs.Place.{contents_of, fits}
use Rattle.table.specs.Reading.{apart, together, joined, misfit, clash, fault}
use Rattle.table.proofs.Ranges.{every_below}
use Rattle.table.proofs.WorkedCases.{worked_tables}
use Rattle.recovery.specs.Groups.{units, in_group}
use Rattle.recovery.specs.Books.{holds}
use Rattle.recovery.specs.Recipes.{RecipeFor, LossSetFor}
use Rattle.recovery.specs.Worked.{bytes_f, bytes_a, table_f, table_a, one_of, all_but, missing_f, missing_a, WorkedCases}
use Rattle.recovery.proofs.Books.{group_past, no_group, group_zero, same_if_zero}
use Rattle.recovery.proofs.Meaning.{never_both}

-- unit i is in an odd number of the groups of the points: it is in their sum over GF(2)
abbrev in_sum : Contents → List ℕ → ℕ → Bool
in_sum t [] i = false
in_sum t (p ∷ ps) i = xor (in_group t p i) (in_sum t ps i)

sum_past : (t : Contents) (ps : List ℕ) (i : ℕ) → units t ≤ i → in_sum t ps i ≡ false
sum_past t [] i l = refl
sum_past t (p ∷ ps) i l = ap (λ b. xor b (in_sum t ps i)) (group_past t p i l) ∙ ap (xor false) (sum_past t ps i l) ∙ xor_none false

sum_zero : {C : Type 0} (o : C) (plus : C → C → C) → Laws o plus → (t : Contents) (ps : List ℕ) (x : ℕ → C) → total o plus (units t) (in_sum t ps) (holds o plus t x) ≡ o
sum_zero o plus laws t [] x = total_none o plus laws (units t) (λ i. false) (holds o plus t x) (λ i l. refl)
sum_zero o plus laws t (p ∷ ps) x =
    total_difference o plus laws (units t) (in_group t p) (in_sum t ps) (holds o plus t x)
    ∙ ap (λ y. plus y (total o plus (units t) (in_sum t ps) (holds o plus t x))) one
    ∙ laws.unit (total o plus (units t) (in_sum t ps) (holds o plus t x))
    ∙ sum_zero o plus laws t ps x
  where
    one : total o plus (units t) (in_group t p) (holds o plus t x) ≡ o
    one = ⊎_elim
        (λ l. group_zero o plus laws t x p l)
        (λ l. total_none o plus laws (units t) (in_group t p) (holds o plus t x) (λ i _. no_group t p i l))
        (cases_lt p t.v)

-- the points give a recipe for unit d: of the units in the sum of their groups, d is one, and the others are good
abbrev gives : Contents → (ℕ → Bool) → ℕ → List ℕ → Bool
gives t good d ps = in_sum t ps d && every (λ i. not (in_sum t ps i) || (eqb i d || good i)) (units t)

recipe_by : {C : Type 0} (o : C) (plus : C → C → C) → Laws o plus → (t : Contents) (good : ℕ → Bool) (d : ℕ) (ps : List ℕ) → gives t good d ps ≡ true
    → RecipeFor o plus t good d (λ i. in_sum t ps i && not (eqb i d))
recipe_by {C} o plus laws t good d ps test = record { good_units = units_good; sums = λ b r. sums (λ k. b k r) }
  where
    both : (in_sum t ps d ≡ true) × (every (λ i. not (in_sum t ps i) || (eqb i d || good i)) (units t) ≡ true)
    both = and_parts (in_sum t ps d) _ test

    within : (i : ℕ) → in_sum t ps i ≡ true → i < units t
    within i e = ⊎_elim (λ l. l) (λ l. absurd (both_ways (in_sum t ps i) (sum_past t ps i l) e)) (cases_lt i (units t))

    units_good : (i : ℕ) → (in_sum t ps i && not (eqb i d)) ≡ true → (i < units t) × (good i ≡ true)
    units_good i e =
        let here = and_parts (in_sum t ps i) (not (eqb i d)) e in
        let l = within i here.0 in
        let told = every_below (λ i. not (in_sum t ps i) || (eqb i d || good i)) (units t) both.1 i l in (
          l,
          ⊎_elim
              (λ f. absurd (both_ways (not (in_sum t ps i)) (not_from_true _ here.0) f))
              (λ f. ⊎_elim (λ g. absurd (both_ways (eqb i d) (not-true (eqb i d) here.1) g)) (λ g. g) (or_cases (eqb i d) (good i) f))
              (or_cases (not (in_sum t ps i)) (eqb i d || good i) told),
        )

    sums : (x : ℕ → C) → total o plus (units t) (λ i. in_sum t ps i && not (eqb i d)) (holds o plus t x) ≡ holds o plus t x d
    sums x = sym (same_if_zero o plus laws _ _ (sym (total_split o plus laws (units t) d (in_sum t ps) (holds o plus t x) (within d both.0) both.0) ∙ sum_zero o plus laws t ps x))

-- for each record unit of A that is missing, points whose groups give a recipe
abbrev points_a : List (List ℕ)
points_a =
    []
    ∷ (0 ∷ 1 ∷ 2 ∷ 3 ∷ 4 ∷ 5 ∷ [])
    ∷ (0 ∷ 1 ∷ 2 ∷ 6 ∷ 7 ∷ 8 ∷ [])
    ∷ []
    ∷ (0 ∷ 1 ∷ 3 ∷ 4 ∷ 6 ∷ 7 ∷ [])
    ∷ (0 ∷ 2 ∷ 3 ∷ 5 ∷ 6 ∷ 8 ∷ [])
    ∷ (0 ∷ 2 ∷ 3 ∷ 4 ∷ 7 ∷ 8 ∷ [])
    ∷ (1 ∷ 2 ∷ 3 ∷ 5 ∷ 6 ∷ 7 ∷ [])
    ∷ []
    ∷ (2 ∷ 3 ∷ 4 ∷ 7 ∷ 8 ∷ [])
    ∷ (0 ∷ 1 ∷ 2 ∷ 4 ∷ 5 ∷ [])
    ∷ (0 ∷ 3 ∷ 5 ∷ 6 ∷ 8 ∷ [])
    ∷ []

a_test : every (λ d. all_but missing_a d || gives table_a (all_but missing_a) d (get_or points_a d [])) 12 ≡ true
unfolding every some has_point contents_of in_group xor
a_test = refl

a_twice_test : every (λ p. leb 2 (count (units table_a) (λ i. one_of missing_a i && in_group table_a p i))) 9 ≡ true
unfolding every some has_point contents_of in_group sum_below
a_twice_test = refl

f_even_test : every (λ p. not (odd (count (units table_f) (λ i. one_of missing_f i && in_group table_f p i)))) 7 ≡ true
unfolding every some has_point contents_of in_group sum_below odd
f_even_test = refl

f_accepted : fault bytes_f ≡ None
unfolding sum_below every some first has_point contents_of fits apart together joined misfit clash fault
f_accepted = refl

a_accepted : fault bytes_a ≡ None
unfolding sum_below every some first has_point contents_of fits apart together joined misfit clash fault
a_accepted = refl

abbrev all_below : ℕ → List ℕ → Bool
all_below m [] = true
all_below m (x ∷ xs) = ltb x m && all_below m xs

one_below : (m : ℕ) (xs : List ℕ) → all_below m xs ≡ true → (i : ℕ) → one_of xs i ≡ true → i < m
one_below m [] h i e = absurd (false≢true e)
one_below m (x ∷ xs) h i e =
    let both = and_parts (ltb x m) (all_below m xs) h in
    ⊎_elim (λ f. subst (λ n. n < m) (sym (eqb-true i x f)) (ltb-true x m both.0)) (λ f. one_below m xs both.1 i f) (or_cases (eqb i x) (one_of xs i) e)

f_loss : LossSetFor table_f (all_but missing_f) 1 (one_of missing_f)
unfolding contents_of
f_loss = record {
  missing_units = λ i e. (one_below 14 missing_f refl i e, ap not e);
  has_unit = refl;
  even = λ p l. not-true _ (every_below (λ p. not (odd (count (units table_f) (λ i. one_of missing_f i && in_group table_f p i)))) 7 f_even_test p l);
}

pub worked_cases : {C : Type 0} (o : C) (plus : C → C → C) → Laws o plus → WorkedCases o plus
worked_cases o plus laws = record {
  tables = worked_tables;
  f_accepted = f_accepted;
  a_accepted = a_accepted;
  f_loss = f_loss;
  f_lost = λ s recipe. never_both o plus laws table_f (all_but missing_f) 1 s (one_of missing_f) recipe f_loss;
  a_twice = λ p l. leb-true 2 _ (every_below (λ p. leb 2 (count (units table_a) (λ i. one_of missing_a i && in_group table_a p i))) 9 a_twice_test p l);
  a_read = λ d l. ⊎_elim
      (λ e. inl e)
      (λ e. inr (_, recipe_by o plus laws table_a (all_but missing_a) d (get_or points_a d []) e))
      (or_cases (all_but missing_a d) _ (every_below (λ d. all_but missing_a d || gives table_a (all_but missing_a) d (get_or points_a d [])) 12 a_test d l));
}
