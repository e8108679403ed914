-- Why the block size is the figure: each point of a record unit's block asks for another unit of the loss set, and no
-- unit serves two of them.
use Rattle.std.proofs.Common.{◌≡◌, ℕ, suc, ◌+◌, ◌-◌, ◌<◌, ◌≤◌, Bool, true, false, cond, not, ◌&&◌, ◌||◌, eqb, ltb, sym, refl, ap, ◌∙◌, subst, ap₂, ⊎_elim, arith}
use mathlib.Core.Bool.{and-true, and-false, or-false}
use Rattle.std.proofs.lemmas.Bool.{false≢true, cases_lt, both_ways, and_parts, and_from, or_cases, or_left, or_right, not-true, not_from_false, eqb-true, eqb-false, eq-eqb, ne_eqb, lt-ltb, le-ltb, ltb-true, ltb-false}
use Rattle.sets.specs.Members.{odd}
use Rattle.sets.specs.Sums.{sum_below, count}
use Rattle.sets.proofs.Sums.{nat_adds, sum_same, sum_none, sum_swap, sum_le, count_same, count_none, count_one, count_with, count_without, count_le, count_member, count_few}
use Rattle.table.specs.Contents.{Contents, Valid, has_point}
use Rattle.recovery.specs.Groups.{units, in_group}
use Rattle.recovery.specs.Recipes.{LossSetFor}
use Rattle.recovery.specs.Figure.{Figure}
use Rattle.recovery.proofs.Books.{group_is}

-- ---- counts

not_odd_one : odd 1 ≡ false → ⊥
unfolding odd
not_odd_one e = false≢true (sym e)

-- an even number of members, of which b is one: there is another
another : (m b : ℕ) (s : ℕ → Bool) → b < m → s b ≡ true → odd (count m s) ≡ false → 0 < count m (λ i. s i && not (eqb i b))
another m b s l e even = ⊎_elim
    (λ (h : 0 < count m (λ i. s i && not (eqb i b))). h)
    (λ (h : count m (λ i. s i && not (eqb i b)) ≤ 0).
    let is : count m s ≡ 1 = omega (arith, count_without m b s l e) in
    absurd (not_odd_one (ap odd (sym is) ∙ even)))
    (cases_lt 0 (count m (λ i. s i && not (eqb i b))))

-- ---- a loss set has more units than a block has points

nest : (a b : Bool) → cond {A = ℕ} (a && b) 1 0 ≡ cond a (cond b 1 0) 0
nest true b = refl
nest false b = refl

flat : (a : Bool) → cond {A = ℕ} a 0 0 ≡ 0
flat true = refl
flat false = refl

module _ (t : Contents) (valid : Valid t) (good l : ℕ → Bool) (u : ℕ) (loss : LossSetFor t good u l) where
  -- in a group with unit i of the loss set there is another unit of it
  partner : (p i : ℕ) → p < t.v → i < units t → l i ≡ true → in_group t p i ≡ true → 0 < count (units t) (λ j. (l j && not (eqb j i)) && in_group t p j)
  partner p i lp li e g =
      subst (λ n. 0 < n) (count_same (units t) (λ j. (l j && in_group t p j) && not (eqb j i)) (λ j. (l j && not (eqb j i)) && in_group t p j) (λ j _. turn (l j) (in_group t p j) (not (eqb j i))))
      (another (units t) i (λ j. l j && in_group t p j) li (and_from (l i) (in_group t p i) e g) (loss.even p lp))
    where
      turn : (a b c : Bool) → ((a && b) && c) ≡ ((a && c) && b)
      turn true true true = refl
      turn true true false = refl
      turn true false true = refl
      turn true false false = refl
      turn false b c = refl

  module _ (d : ℕ) (ld : d < t.n) (in-loss : l d ≡ true) where
    abbrev others : ℕ → Bool
    others i = l i && not (eqb i d)

    -- unit i, other than d and in the loss set, and point p of d's block, whose group has i
    abbrev pair : ℕ → ℕ → ℕ
    pair p i = cond (has_point t d p) (cond (others i && in_group t p i) 1 0) 0

    -- a unit other than d is in at most one of the groups of d's points
    serves_once : (i : ℕ) → i < units t → (i ≡ d → ⊥) → count t.v (λ p. has_point t d p && in_group t p i) ≤ 1
    serves_once i li ne = ⊎_elim
        (λ (lt : i < t.n).
        subst (λ n. n ≤ 1)
        (count_same t.v (λ p. has_point t d p && has_point t i p) (λ p. has_point t d p && in_group t p i) (λ p lp. ap (λ b. has_point t d p && b) (sym (record_group p lp lt))))
        (valid.pairs d i ld lt (λ e. ne (sym e))))
        (λ (le : t.n ≤ i). count_few t.v (i - t.n) (λ p. has_point t d p && in_group t p i) (λ p lp e. check_group p lp le (and_parts (has_point t d p) (in_group t p i) e).1))
        (cases_lt i t.n)
      where
        record_group : (p : ℕ) → p < t.v → i < t.n → in_group t p i ≡ has_point t i p
        record_group p lp lt = group_is t p i lp ∙ ap₂ (λ a b. a || (b && has_point t i p)) (ne_eqb i (t.n + p) (omega arith)) (lt-ltb i t.n lt)

        check_group : (p : ℕ) → p < t.v → t.n ≤ i → in_group t p i ≡ true → p ≡ i - t.n
        check_group p lp le e =
            ⊎_elim
            (λ same. let is = eqb-true i (t.n + p) same in omega arith)
            (λ rec. absurd (both_ways (ltb i t.n) (le-ltb i t.n le) (and_parts (ltb i t.n) (has_point t i p) rec).0))
            (or_cases (eqb i (t.n + p)) (ltb i t.n && has_point t i p) (sym (group_is t p i lp) ∙ e))

    -- each point of d's block is served
    served : t.k ≤ sum_below 0 ◌+◌ t.v (λ p. sum_below 0 ◌+◌ (units t) (λ i. pair p i))
    served = subst (λ m. m ≤ sum_below 0 ◌+◌ t.v (λ p. sum_below 0 ◌+◌ (units t) (λ i. pair p i))) (valid.blocks d ld)
        (sum_le t.v (λ p. cond (has_point t d p) 1 0) (λ p. sum_below 0 ◌+◌ (units t) (λ i. pair p i)) (λ p lp. each p lp (has_point t d p) refl))
      where
        each : (p : ℕ) → p < t.v → (b : Bool) → has_point t d p ≡ b → ◌≤◌ (cond b 1 0) (sum_below 0 ◌+◌ (units t) (λ i. cond b (cond (others i && in_group t p i) 1 0) 0))
        each p lp true e =
            let in_it : in_group t p d ≡ true = group_is t p d lp ∙ or_right (eqb d (t.n + p)) _ (and_from (ltb d t.n) (has_point t d p) (lt-ltb d t.n ld) e) in
            partner p d lp (omega arith) in-loss in_it
        each p lp false e = omega arith

    -- no unit serves two points
    serving : sum_below 0 ◌+◌ (units t) (λ i. sum_below 0 ◌+◌ t.v (λ p. pair p i)) ≤ count (units t) others
    serving = sum_le (units t) (λ i. sum_below 0 ◌+◌ t.v (λ p. pair p i)) (λ i. cond (others i) 1 0) (λ i li. each i li (others i) refl)
      where
        each : (i : ℕ) → i < units t → (b : Bool) → others i ≡ b → ◌≤◌ (sum_below 0 ◌+◌ t.v (λ p. cond (has_point t d p) (cond (b && in_group t p i) 1 0) 0)) (cond b 1 0)
        each i li true e =
            let apart : i ≡ d → ⊥ = eqb-false i d (not-true (eqb i d) (and_parts (l i) (not (eqb i d)) e).1) in
            subst (λ m. m ≤ 1) (sum_same 0 ◌+◌ t.v (λ p. cond (has_point t d p && in_group t p i) 1 0) (λ p. cond (has_point t d p) (cond (in_group t p i) 1 0) 0) (λ p _. nest (has_point t d p) (in_group t p i))) (serves_once i li apart)
        each i li false e =
            let none : sum_below 0 ◌+◌ t.v (λ p. cond (has_point t d p) 0 0) ≡ 0 = sum_none 0 ◌+◌ nat_adds t.v (λ p. cond (has_point t d p) 0 0) (λ p _. flat (has_point t d p)) in
            omega arith

    large : t.k < count (units t) l
    large =
        let turned = sum_swap 0 ◌+◌ nat_adds t.v (units t) pair in
        let less = count_without (units t) d l (omega arith) in-loss in
        omega (arith, served, serving)

  -- some record unit is in the loss set, since a check unit alone makes its group odd
  some_record : (d : ℕ) × (d < t.n) × (l d ≡ true)
  some_record = ⊎_elim
      (λ (lt : u < t.n). (u, lt, loss.has_unit))
      (λ (le : t.n ≤ u).
      let lu = (loss.missing_units u loss.has_unit).0 in
      let p = u - t.n in
      let lp : p < t.v = omega arith in
      let own : in_group t p u ≡ true = group_is t p u lp ∙ or_left (eqb u (t.n + p)) _ (eq-eqb u (t.n + p) (omega arith)) in
      let other = count_member (units t) (λ j. (l j && not (eqb j u)) && in_group t p j) (partner p u lp lu loss.has_unit own) in
      let both = and_parts (l other.0 && not (eqb other.0 u)) (in_group t p other.0) other.2 in
      let inner = and_parts (l other.0) (not (eqb other.0 u)) both.0 in
      (other.0, behind other.0 p lp (omega arith) (eqb-false other.0 u (not-true _ inner.1)) both.1, inner.0))
      (cases_lt u t.n)
    where
      behind : (i p : ℕ) → p < t.v → u ≡ t.n + p → (i ≡ u → ⊥) → in_group t p i ≡ true → i < t.n
      behind i p lp is ne e =
          ⊎_elim
          (λ same. absurd (ne (eqb-true i (t.n + p) same ∙ sym is)))
          (λ rec. ltb-true i t.n (and_parts (ltb i t.n) (has_point t i p) rec).0)
          (or_cases (eqb i (t.n + p)) (ltb i t.n && has_point t i p) (sym (group_is t p i lp) ∙ e))

  pub many : t.k < count (units t) l
  many = let d = some_record in large d.0 d.1 d.2

-- ---- a record unit and its check units make a loss set

module _ (t : Contents) (d : ℕ) (ld : d < t.n) where
  -- unit i is d, or a check unit of d
  abbrev near : ℕ → Bool
  near i = eqb i d || (ltb i (units t) && (not (ltb i t.n) && has_point t d (i - t.n)))

  near_check : (p : ℕ) → p < t.v → near (t.n + p) ≡ has_point t d p
  near_check p lp =
      let back : t.n + p - t.n ≡ p = omega arith in
      ap₂ (λ a b. a || (b && (not (ltb (t.n + p) t.n) && has_point t d (t.n + p - t.n)))) (ne_eqb (t.n + p) d (omega arith)) (lt-ltb (t.n + p) (units t) (omega arith))
      ∙ ap₂ (λ a b. not a && has_point t d b) (le-ltb (t.n + p) t.n (omega arith)) back

  near_record : (i : ℕ) → i < t.n → near i ≡ eqb i d
  near_record i li = ap (λ a. eqb i d || (ltb i (units t) && (not a && has_point t d (i - t.n)))) (lt-ltb i t.n li) ∙ ap (λ b. eqb i d || b) (and-false (ltb i (units t))) ∙ or-false (eqb i d)

  -- in the group of p: d and the check unit of p, if p is a point of d's block, and nothing else
  near_group : (p i : ℕ) → p < t.v → i < units t → (near i && in_group t p i) ≡ (has_point t d p && (eqb i d || eqb i (t.n + p)))
  near_group p i lp li = ⊎_elim
      (λ (lt : i < t.n).
      ap₂ ◌&&◌ (near_record i lt) (group_is t p i lp ∙ ap₂ (λ a b. a || (b && has_point t i p)) (ne_eqb i (t.n + p) (omega arith)) (lt-ltb i t.n lt))
      ∙ here (eqb i d) (has_point t i p) (has_point t d p) (λ e. ap (λ k. has_point t k p) (eqb-true i d e))
      ∙ ap (λ b. has_point t d p && (eqb i d || b)) (sym (ne_eqb i (t.n + p) (omega arith))))
      (λ (le : t.n ≤ i).
      let q = i - t.n in
      let is : t.n + q ≡ i = omega arith in
      ap₂ ◌&&◌ (sym (ap near is) ∙ near_check q (omega arith)) (group_is t p i lp ∙ ap (λ b. eqb i (t.n + p) || (b && has_point t i p)) (le-ltb i t.n le) ∙ or-false (eqb i (t.n + p)))
      ∙ there (eqb i (t.n + p)) (has_point t d q) (has_point t d p) (λ e. let same = eqb-true i (t.n + p) e in ap (has_point t d) (omega arith))
      ∙ ap (λ b. has_point t d p && (b || eqb i (t.n + p))) (sym (ne_eqb i d (omega arith))))
      (cases_lt i t.n)
    where
      here : (e a b : Bool) → (e ≡ true → a ≡ b) → (e && a) ≡ (b && (e || false))
      here true a b h = h refl ∙ sym (and-true b)
      here false a b h = sym (and-false b)

      there : (e a b : Bool) → (e ≡ true → a ≡ b) → (a && e) ≡ (b && e)
      there true a b h = ap (λ z. z && true) (h refl)
      there false a b h = and-false a ∙ sym (and-false b)

  near_even : (p : ℕ) → p < t.v → odd (count (units t) (λ i. near i && in_group t p i)) ≡ false
  unfolding odd
  near_even p lp =
      ap odd (count_same (units t) (λ i. near i && in_group t p i) (λ i. has_point t d p && (eqb i d || eqb i (t.n + p))) (λ i li. near_group p i lp li))
      ∙ even (has_point t d p)
    where
      even : (b : Bool) → odd (count (units t) (λ i. b && (eqb i d || eqb i (t.n + p)))) ≡ false
      even true = ap odd (count_with (units t) (t.n + p) (λ i. eqb i d) (omega arith) (ne_eqb (t.n + p) d (omega arith))
          ∙ ap suc (count_one (units t) d (λ i. eqb i d) (omega arith) (eq-eqb d d refl) (λ i _ e. eqb-true i d e)))
      even false = ap odd (count_none (units t) (λ i. false) (λ i _. refl))

pub figure : (t : Contents) → Valid t → Figure t
figure t valid = record {
  enough = λ good few u l loss.
      let more = many t valid good l u loss in
      let within = count_le (units t) l (λ i. not (good i)) (λ i _ e. not_from_false (good i) (loss.missing_units i e).1) in
      omega arith;
  no_more = λ good d ld gone checks. (
    near t d ld,
    record {
      missing_units = λ i e. ⊎_elim
          (λ same. let is = eqb-true i d same in (omega arith, ap good is ∙ gone))
          (λ check.
          let outer = and_parts (ltb i (units t)) _ check in
          let inner = and_parts (not (ltb i t.n)) (has_point t d (i - t.n)) outer.1 in
          let past = ltb-false i t.n (not-true (ltb i t.n) inner.0) in
          let back : t.n + (i - t.n) ≡ i = omega arith in
          (ltb-true i (units t) outer.0, sym (ap good back) ∙ checks (i - t.n) inner.1))
          (or_cases (eqb i d) _ e);
      has_unit = or_left (eqb d d) _ (eq-eqb d d refl);
      even = near_even t d ld;
    },
  );
}
