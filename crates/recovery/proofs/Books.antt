-- What units hold by a book, and how books, groups and sums go together: the cells that sum to zero over every group
-- are those that the units hold by some book.
use Rattle.std.proofs.Common.{◌≡◌, ℕ, ◌+◌, ◌-◌, ◌<◌, ◌≤◌, Bool, true, false, cond, ◌&&◌, ◌||◌, eqb, ltb, List, sym, refl, ap, ◌∙◌, subst, ap₂, ⊎_elim, arith}
use Rattle.std.proofs.lemmas.Bool.{cases_lt, and_left, ltb-true, lt-ltb, le-ltb, ne_eqb}
use Rattle.sets.specs.declared.set.SmallSet.{SmallSet}
use Rattle.sets.specs.Members.{has}
use Rattle.sets.specs.Sums.{total}
use Rattle.sets.proofs.Sums.{sum_same, sum_plus, sum_one, sum_cut, unit_r}
use Rattle.cell.specs.Kinds.{Laws}
use Rattle.cell.proofs.Laws.{adds, total_none, total_alike, total_linear}
use Rattle.table.specs.Contents.{Contents, has_point}
use Rattle.recovery.specs.Groups.{units, in_group, at, Grouped}
use Rattle.recovery.specs.Books.{holds}
use Rattle.recovery.specs.Rows.{Code}

-- ---- groups

module _ (t : Contents) where
  -- in its group: a record unit behind the point, or the point's check unit, which is no record unit
  pub group_is : (p u : ℕ) → p < t.v → in_group t p u ≡ (eqb u (t.n + p) || (ltb u t.n && has_point t u p))
  unfolding in_group
  group_is p u l = ap (λ b. b && (eqb u (t.n + p) || (ltb u t.n && has_point t u p))) (lt-ltb p t.v l)

  pub no_group : (p u : ℕ) → t.v ≤ p → in_group t p u ≡ false
  unfolding in_group
  no_group p u l = and_left (ltb p t.v) _ (le-ltb p t.v l)

  -- past the units there is none
  pub group_past : (p u : ℕ) → units t ≤ u → in_group t p u ≡ false
  group_past p u l = ⊎_elim
      (λ lp. group_is p u lp ∙ ap₂ (λ a b. a || (b && has_point t u p)) (ne_eqb u (t.n + p) (omega arith)) (le-ltb u t.n (omega arith)))
      (λ lp. no_group p u lp)
      (cases_lt p t.v)

-- ---- what units hold

module _ {C : Type 0} (o : C) (plus : C → C → C) (laws : Laws o plus) where
  -- two cells that sum to zero are the same
  pub same_if_zero : (x y : C) → plus x y ≡ o → x ≡ y
  same_if_zero x y e =
      sym (unit_r o plus (adds laws) x) ∙ ap (plus x) (sym (laws.self y)) ∙ sym (laws.assoc x y y) ∙ ap (λ z. plus z y) e ∙ laws.unit y

  module _ (t : Contents) where
    pub record_holds : (x : ℕ → C) (u : ℕ) → u < t.n → holds o plus t x u ≡ x u
    unfolding holds
    record_holds x u l = ap (λ (b : Bool). cond b (x u) (total o plus t.n (λ d. has_point t d (u - t.n)) x)) (lt-ltb u t.n l)

    pub check_holds : (x : ℕ → C) (p : ℕ) → holds o plus t x (t.n + p) ≡ total o plus t.n (λ d. has_point t d p) x
    unfolding holds
    check_holds x p =
        let back : t.n + p - t.n ≡ p = omega arith in
        ap (λ (b : Bool). cond b (x (t.n + p)) (total o plus t.n (λ d. has_point t d (t.n + p - t.n)) x)) (le-ltb (t.n + p) t.n (omega arith))
        ∙ ap (λ q. total o plus t.n (λ d. has_point t d q) x) back

    -- by the sum of two books a unit holds the sum of what it holds by each
    pub holds_plus : (x y : ℕ → C) (u : ℕ) → holds o plus t (λ d. plus (x d) (y d)) u ≡ plus (holds o plus t x u) (holds o plus t y u)
    unfolding holds
    holds_plus x y u = both (ltb u t.n) (total_linear o plus laws t.n (λ d. has_point t d (u - t.n)) x y)
      where
        both : (b : Bool) {p q r : C} → p ≡ plus q r → cond b (plus (x u) (y u)) p ≡ plus (cond b (x u) q) (cond b (y u) r)
        both true e = refl
        both false e = e

    -- the cells of a group: those of the record units behind its point, and that of its check unit
    group_split : (f : ℕ → C) (p : ℕ) → p < t.v → total o plus (units t) (in_group t p) f ≡ plus (total o plus t.n (λ d. has_point t d p) f) (f (t.n + p))
    group_split f p l =
        sum_same o plus (units t) (λ u. cond (in_group t p u) (f u) o) (λ u. plus (cond (ltb u t.n) (cond (has_point t u p) (f u) o) o) (cond (eqb u (t.n + p)) (f u) o))
        (λ u _. ap (λ b. cond b (f u) o) (group_is t p u l) ∙ apart (eqb u (t.n + p)) (ltb u t.n) (has_point t u p) (f u) (λ e. let w = ltb-true u t.n e in ne_eqb u (t.n + p) (λ q. omega arith)))
        ∙ sum_plus o plus (adds laws) (units t) (λ u. cond (ltb u t.n) (cond (has_point t u p) (f u) o) o) (λ u. cond (eqb u (t.n + p)) (f u) o)
        ∙ ap₂ plus (sum_cut o plus (adds laws) t.n t.v (λ u. cond (has_point t u p) (f u) o)) (sum_one o plus (adds laws) (units t) (t.n + p) f (omega arith))
      where
        apart : (e a b : Bool) (x : C) → (a ≡ true → e ≡ false) → cond (e || (a && b)) x o ≡ plus (cond a (cond b x o) o) (cond e x o)
        apart e true b x h =
            ap (λ z. cond (z || b) x o) (h refl) ∙ sym (unit_r o plus (adds laws) (cond b x o)) ∙ ap (λ z. plus (cond b x o) (cond z x o)) (sym (h refl))
        apart true false b x h = sym (laws.unit x)
        apart false false b x h = sym (laws.unit o)

    -- what the units of a group hold by a book sums to zero
    pub group_zero : (x : ℕ → C) (p : ℕ) → p < t.v → total o plus (units t) (in_group t p) (holds o plus t x) ≡ o
    group_zero x p l =
        group_split (holds o plus t x) p l
        ∙ ap₂ plus (sum_same o plus t.n (λ u. cond (has_point t u p) (holds o plus t x u) o) (λ u. cond (has_point t u p) (x u) o) (λ u lu. ap (λ y. cond (has_point t u p) y o) (record_holds x u lu))) (check_holds x p)
        ∙ laws.self (total o plus t.n (λ d. has_point t d p) x)

    -- cells that sum to zero over each group are what the units hold by the book of the record units' cells
    pub is_book : (f : ℕ → C) → ((p : ℕ) → p < t.v → total o plus (units t) (in_group t p) f ≡ o) → (u : ℕ) → u < units t → holds o plus t f u ≡ f u
    is_book f zeros u l = ⊎_elim
        (λ lu. record_holds f u lu)
        (λ past.
        let p = u - t.n in
        let back : t.n + p ≡ u = omega arith in
        let lp : p < t.v = omega arith in
        subst (λ w. holds o plus t f w ≡ f w) back (check_holds f p ∙ same_if_zero _ _ (sym (group_split f p lp) ∙ zeros p lp)))
        (cases_lt u t.n)

    -- the same of the groups as sets, at any bound m on the units
    pub code_groups : (m : ℕ) (f : ℕ → C) (groups : List SmallSet) → Grouped t groups → ((p : ℕ) → p < t.v → total o plus m (in_group t p) f ≡ o) → Code o plus m f groups
    code_groups m f groups grouped zeros k = ⊎_elim
        (λ l. total_alike o plus laws m (has (at groups k)) (in_group t k) f (λ u _. grouped k u) ∙ zeros k l)
        (λ l. total_none o plus laws m (has (at groups k)) f (λ u _. grouped k u ∙ no_group t k u l))
        (cases_lt k t.v)

    pub groups_code : (m : ℕ) (f : ℕ → C) (groups : List SmallSet) → Grouped t groups → Code o plus m f groups → (p : ℕ) → total o plus m (in_group t p) f ≡ o
    groups_code m f groups grouped code p = total_alike o plus laws m (in_group t p) (has (at groups p)) f (λ u _. sym (grouped p u)) ∙ code p
