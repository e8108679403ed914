-- The groups of a table, in an array.
use Rattle.std.proofs.Common.{◌≡◌, ℕ, zero, suc, ◌+◌, ◌<◌, ◌≤◌, false, ◌&&◌, ◌||◌, eqb, ltb, rules, List, length, take, drop, get_or, sym, ap, ◌∙◌, subst, ⊎_elim, arith, length-take, get_or-take}
use Rattle.std.proofs.lemmas.List.{get_or-drop}
use denote.Param.Members.{Mut, Called}
use Rattle.std.specs.Array.{IsFromFnResultFrom}
use borrow.Author.Tests.{tests}
use Rattle.std.proofs.lemmas.Bool.{cases_eq, cases_lt}
use Rattle.sets.specs.declared.set.SmallSet.{SmallSet}
use Rattle.sets.specs.Members.{has}
use Rattle.table.specs.Contents.{Contents}
use Rattle.table.proofs.Validity.{valid_table}
use Rattle.recovery.specs.declared.layout.Layout.{Layout}
use Rattle.recovery.specs.Groups.{in_group, at, Grouped}
use Rattle.recovery.specs.Layouts.{laid_out}
use Rattle.recovery.proofs.Elimination.{none_past}
use Rattle.recovery.proofs.Books.{no_group, group_is}

-- what an array is filled with by calls that leave their closure as it was: at each place what the call for it answered
pub filled : {F B : Type 0} (g : Mut F (ℕ × Unit {0}) B) (R : ℕ → B → Type 0) (f : F) (ys : List B)
    → ((x : ℕ) (y : B) (q : F) → Called g f (x, tt) y q → (q ≡ f) × R x y)
    → (n i : ℕ) → IsFromFnResultFrom g f ys i n → (k : ℕ) (d : B) → i ≤ k → k < i + n → R k (get_or ys k d)
filled g R f ys calls zero i h k d l m = absurd (omega arith)
filled {F} g R f ys calls (suc n) i h k d l m =
    let told = calls i h.1 h.0 h.3 in
    ⊎_elim
    (λ e. subst (λ x. R x (get_or ys x d)) (sym e) (subst (R i) (sym (h.2.1 d)) told.1))
    (λ ne. filled g R f ys calls n (i + 1) (subst (λ (q : F). IsFromFnResultFrom g q ys (i + 1) n) told.0 h.4) k d (omega arith) (omega arith))
    (cases_eq k i)

module _ (t : Contents) where
  -- an array with the group of each number, and so with the empty set past the points
  pub groups_of_all : (groups : List SmallSet) → length groups ≡ 40 → t.v ≤ 40 → ((p : ℕ) → p < 40 → (u : ℕ) → has (at groups p) u ≡ in_group t p u) → Grouped t groups
  groups_of_all groups wide few is p u = ⊎_elim
      (λ l. is p l u)
      (λ l. none_past groups p u (omega arith) ∙ sym (no_group t p u (omega arith)))
      (cases_lt p 40)

  -- a group has no other units than its check unit and record units
  pub group_all : (p u : ℕ) → (in_group t p u && (ltb u t.n || eqb u (t.n + p))) ≡ in_group t p u
  group_all p u = ⊎_elim
      (λ l. let is = group_is t p u l in search (rules, tests))
      (λ l. let none = no_group t p u l in search (rules, tests))
      (cases_lt p t.v)

  -- the first v of the groups are all there are
  grouped_front : (groups : List SmallSet) (m : ℕ) → Grouped t groups → t.v ≤ length groups → m ≡ t.v → Grouped t (take m groups)
  grouped_front groups m grouped room is p u = ⊎_elim
      (λ l. ap (λ (s : SmallSet). has s u) (get_or-take m groups p _ (omega arith)) ∙ grouped p u)
      (λ l. none_past (take m groups) p u (omega (arith, length-take m groups)) ∙ sym (no_group t p u l))
      (cases_lt p t.v)

-- the rows that a layout begins with
pub layout_rows : (l : Layout) (m : ℕ) → m ≡ (laid_out l).v → Grouped (laid_out l) (take m l.groups)
layout_rows l m is = grouped_front (laid_out l) l.groups m l.grouped (omega (arith, (valid_table l.table).limits.v_high, l.room)) is

-- past them a layout has empty sets
pub layout_past : (l : Layout) (m : ℕ) → m ≡ (laid_out l).v → (k i : ℕ) → has (at (drop m l.groups) k) i ≡ false
layout_past l m is k i = ap (λ (s : SmallSet). has s i) (get_or-drop m l.groups k _) ∙ l.grouped (m + k) i ∙ no_group (laid_out l) (m + k) i (omega arith)
