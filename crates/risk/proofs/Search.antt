-- The search for deadly sets, step by step.
use Rattle.std.proofs.Common.{◌≡◌, ℕ, suc, ◌+◌, ◌<◌, ◌≤◌, Bool, true, false, cond, not, ◌&&◌, ◌||◌, eqb, ltb, leb, ◌⊎◌, Decides, Option, None, Some, is_some, IfSome, sym, refl, ap, ◌∙◌, subst, inl, inr, ⊎_elim, arith}
use mir.Val.{bool_byte}
use Rattle.std.proofs.lemmas.Bool.{false≢true, cases_Bool, cases_lt, both_ways, not-true, not_from_false, leb-true, leb-false, eq-eqb, ne_eqb, lt-ltb, and_from, and_left, or_right}
use Rattle.sets.specs.declared.set.SmallSet.{SmallSet}
use Rattle.sets.specs.Members.{has}
use Rattle.sets.specs.Steps.{Empty}
use Rattle.sets.specs.Sums.{count}
use Rattle.sets.proofs.Bits.{same_set}
use Rattle.sets.proofs.Sums.{sum_start, sum_more, count_none, count_without, count_member}
use Rattle.cell.specs.Kinds.{Laws}
use Rattle.table.specs.Contents.{Contents}
use Rattle.recovery.specs.Groups.{units}
use Rattle.recovery.specs.Answers.{but, LostRecords}
use Rattle.recovery.proofs.Meaning.{never_both}
use Rattle.risk.specs.Deadly.{UnitsOf, Deadly, HowMany}
use Rattle.risk.specs.Extends.{ClearBelow, Extends, Found}
use Rattle.risk.specs.RiskOf.{Counted, limit}
use Rattle.risk.proofs.Lists.{list_none, list_one, list_like, list_both}

-- ---- whether a set is deadly

-- a set of missing units is deadly exactly if the set of the lost records is not empty
module _ {C : Type 0} (o : C) (plus : C → C → C) (laws : Laws o plus) (t : Contents) (m lost : SmallSet) (few : t.n ≤ 64) (records : LostRecords o plus t (but m) lost) where
  none_lost : count 64 (has lost) ≤ 0 → Empty lost
  none_lost none i = ⊎_elim
      (λ e. absurd (omega (arith, none, count_without 64 i (has lost) (omega (arith, few, (records.lost i e).0)) e)))
      (λ e. e)
      (cases_Bool (has lost i))

  pub told_deadly : (empty : Bool) → Decides empty (Empty lost) → Decides (not empty) (Deadly t m)
  told_deadly empty told = (
    (λ e. ⊎_elim
        (λ some. let d = count_member 64 (has lost) some in let x = records.lost d.0 d.2 in (d.0, x.0, x.1))
        (λ none. absurd (both_ways empty (not-true empty e) (told.1 (none_lost none))))
        (cases_lt 0 (count 64 (has lost)))),
    (λ x. ⊎_elim
        (λ e.
        let recipe = records.others x.0 x.1 (told.0 e x.0) in
        absurd (never_both o plus laws t (but m) x.0 recipe.0 x.2.0 recipe.1 x.2.1))
        (not_from_false empty)
        (cases_Bool empty)),
  )

-- ---- what a set counts

count_has : (b : ℕ) (s : ℕ → Bool) → s b ≡ true → count (suc b) s ≡ suc (count b s)
count_has b s e = sum_more 0 ◌+◌ b (λ i. cond (s i) 1 0) ∙ ap (λ (x : Bool). count b s + cond x 1 0) e ∙ omega arith

count_lacks : (b : ℕ) (s : ℕ → Bool) → s b ≡ false → count (suc b) s ≡ count b s
count_lacks b s e = sum_more 0 ◌+◌ b (λ i. cond (s i) 1 0) ∙ ap (λ (x : Bool). count b s + cond x 1 0) e ∙ omega arith

none_counted : (b : ℕ) (s : ℕ → Bool) → count b s ≡ 0 → (i : ℕ) → i < b → s i ≡ false
none_counted b s e i l = ⊎_elim (λ h. absurd (omega (arith, count_without b i s l h))) (λ h. h) (cases_Bool (s i))

-- ---- a set has the next number, or lacks it

from_next : (P : ℕ → Type 0) (b : ℕ) → P b → ((i : ℕ) → suc b ≤ i → P i) → (i : ℕ) → b ≤ i → P i
from_next P b here next i l = ⊎_elim (λ (h : b < i). next i h) (λ (h : i ≤ b). let e : b ≡ i = omega arith in subst P e here) (cases_lt b i)

or_none : (x y : Bool) → y ≡ false → (x || y) ≡ x
or_none true y e = refl
or_none false y e = e

-- of the other numbers a set with b has the same
beside : (m with-b : SmallSet) (b : ℕ) → ((i : ℕ) → has with-b i ≡ (has m i || (eqb i b && ltb i 64))) → (i : ℕ) → (i ≡ b → ⊥) → has with-b i ≡ has m i
beside m with-b b adds i other = adds i ∙ or_none (has m i) (eqb i b && ltb i 64) (and_left (eqb i b) (ltb i 64) (ne_eqb i b other))

-- b is added to m, which lacks it
module _ (m with-b : SmallSet) (b : ℕ) (small : b < 64) (lacks : has m b ≡ false) (adds : (i : ℕ) → has with-b i ≡ (has m i || (eqb i b && ltb i 64))) where
  added : has with-b b ≡ true
  added = adds b ∙ or_right (has m b) (eqb b b && ltb b 64) (and_from (eqb b b) (ltb b 64) (eq-eqb b b refl) (lt-ltb b 64 small))

  kept : (i : ℕ) → suc b ≤ i → has with-b i ≡ has m i
  kept i l = beside m with-b b adds i (λ e. omega arith)

  extends_with : (k : ℕ) (s : SmallSet) → Extends with-b b k s → Extends m (suc b) (suc k) s
  extends_with k s x = record {
    above = λ i l. x.above i (omega arith) ∙ kept i l;
    chosen = count_has b (has s) (x.above b (omega arith) ∙ added) ∙ ap suc x.chosen;
  }

  extends_without : (k : ℕ) (s : SmallSet) → Extends m b k s → Extends m (suc b) k s
  extends_without k s x = record {
    above = λ i l. x.above i (omega arith);
    chosen = count_lacks b (has s) (x.above b (omega arith) ∙ lacks) ∙ x.chosen;
  }

  extends_either : (k : ℕ) (s : SmallSet) → Extends m (suc b) (suc k) s → Extends m b (suc k) s ⊎ Extends with-b b k s
  extends_either k s x = ⊎_elim
      (λ e. inr (record {
        above = from_next (λ i. has s i ≡ has with-b i) b (e ∙ sym added) (λ i l. x.above i l ∙ sym (kept i l));
        chosen = omega (arith, count_has b (has s) e, x.chosen);
      }))
      (λ e. inl (record {
        above = from_next (λ i. has s i ≡ has m i) b (e ∙ sym lacks) x.above;
        chosen = sym (count_lacks b (has s) e) ∙ x.chosen;
      }))
      (cases_Bool (has s b))

  -- the deadly sets that lack b, and those that have it
  found_next : (t : Contents) (k x y : ℕ) → Found t m b (suc k) x → Found t with-b b k y → Found t m (suc b) (suc k) (x + y)
  found_next t k x y p q = list_like
      (λ s. (Extends m b (suc k) s × Deadly t s) ⊎ (Extends with-b b k s × Deadly t s))
      (λ s. Extends m (suc b) (suc k) s × Deadly t s)
      (x + y)
      (λ s. ⊎_elim (λ z. (extends_without (suc k) s z.0, z.1)) (λ z. (extends_with k s z.0, z.1)))
      (λ s z. ⊎_elim (λ w. inl (w, z.1)) (λ w. inr (w, z.1)) (extends_either k s z.0))
      (list_both (λ s. Extends m b (suc k) s × Deadly t s) (λ s. Extends with-b b k s × Deadly t s) x y p q (λ s z w. omega (arith, z.0.chosen, w.0.chosen)))

-- ---- the search

-- with no number to choose from
pub found_none : (t : Contents) (m : SmallSet) (k : ℕ) → 0 < k → Found t m 0 k 0
found_none t m k l = list_none (λ s. Extends m 0 k s × Deadly t s) (λ s z. omega (arith, z.0.chosen, sum_start 0 ◌+◌ (λ i. cond (has s i) 1 0)))

-- with one number more
pub found_more : (t : Contents) (m with-b : SmallSet) (b next k more x y : ℕ) → suc b ≡ next → suc k ≡ more → b < 64 → has m b ≡ false
    → ((i : ℕ) → has with-b i ≡ (has m i || (eqb i b && ltb i 64)))
    → Found t m b more x → Found t with-b b k y → Found t m next more (x + y)
found_more t m with-b b next k more x y en ek small lacks adds p q =
    subst (λ n. Found t m n more (x + y)) en
    (subst (λ j. Found t m (suc b) j (x + y)) ek
    (found_next m with-b b small lacks adds t k x y (subst (λ j. Found t m b j x) (sym ek) p) q))

-- the set that b is added to is clear below b
pub clear_with : (m with-b : SmallSet) (b : ℕ) → ClearBelow b m → ((i : ℕ) → has with-b i ≡ (has m i || (eqb i b && ltb i 64))) → ClearBelow b with-b
clear_with m with-b b clear adds i l = beside m with-b b adds i (λ e. omega arith) ∙ clear i l

-- with no choice left, the set itself is the only one
module _ (t : Contents) (m : SmallSet) (b : ℕ) (clear : ClearBelow b m) where
  extends_itself : Extends m b 0 m
  extends_itself = record { above = λ i l. refl; chosen = count_none b (has m) clear }

  itself_only : (s : SmallSet) → Extends m b 0 s → m ≡ s
  itself_only s x = same_set m s (λ i. ⊎_elim
      (λ l. clear i l ∙ sym (none_counted b (has s) x.chosen i l))
      (λ l. sym (x.above i l))
      (cases_lt i b))

  itself_found : (r : Bool) → Decides r (Deadly t m) → Found t m b 0 (bool_byte r)
  itself_found true told = list_one (λ s. Extends m b 0 s × Deadly t s) m (extends_itself, told.0 refl) (λ s z. itself_only s z.0)
  itself_found false told =
      list_none (λ s. Extends m b 0 s × Deadly t s)
      (λ s z. false≢true (told.1 (subst (Deadly t) (sym (itself_only s z.0)) z.1)))

  pub found_one : (r : Bool) (more x : ℕ) → 0 ≡ more → x ≡ bool_byte r → Decides r (Deadly t m) → Found t m b more x
  found_one r more x e is told = subst (λ k. Found t m b k x) e (subst (Found t m b 0) (sym is) (itself_found r told))

-- the sets of units are those that extend the empty set
pub found_units : (t : Contents) (none : SmallSet) (b more k n : ℕ) → Empty none → b ≡ units t → more ≡ k → Found t none b more n → HowMany (λ s. UnitsOf t k s × Deadly t s) n
found_units t none b more k n empty eb ek h = list_like
    (λ s. Extends none (units t) k s × Deadly t s)
    (λ s. UnitsOf t k s × Deadly t s)
    n
    (λ s z. (record { within = λ i m. ⊎_elim (λ l. l) (λ l. absurd (both_ways (has s i) (z.0.above i l ∙ empty i) m)) (cases_lt i (units t)); size = z.0.chosen }, z.1))
    (λ s z. (record { above = λ i l. ⊎_elim (λ m. absurd (omega (arith, z.0.within i m))) (λ m. m ∙ sym (empty i)) (cases_Bool (has s i)); chosen = z.0.size }, z.1))
    (subst (λ u. Found t none u k n) eb (subst (λ j. Found t none b j n) ek h))

-- a count that is made unless there are too many sets
pub counted : (t : Contents) (sets : ℕ) (r : Option ℕ) → is_some r ≡ leb sets limit → IfSome r (λ m. HowMany (λ s. UnitsOf t (t.k + 1) s × Deadly t s) m) → Counted t sets r
counted t sets None e h = leb-false sets limit (sym e)
counted t sets (Some m) e h = (leb-true sets limit (sym e), h)
