-- A formed contents without clash is valid.
use Rattle.std.proofs.Common.{◌≡◌, ℕ, zero, suc, ◌+◌, ◌*◌, ◌%◌, ◌<◌, ◌≤◌, true, false, ◌&&◌, ◌||◌, leb, is_some, sym, refl, ap, subst, inl, inr, ⊎_elim, arith}
use mathlib.Core.Bool.{and_comm}
use Rattle.std.proofs.lemmas.Bool.{cases_lt, cases_order, leb-true, lt-leb, and_parts, or_cases, both_ways}
use Rattle.std.proofs.lemmas.Nat.{mod-mul-add}
use Rattle.sets.specs.Sums.{count}
use Rattle.sets.proofs.Sums.{count_same}
use Rattle.table.specs.Ranges.{every, first}
use Rattle.table.specs.Contents.{Contents, Valid, has_point, shared, Joined}
use Rattle.table.specs.Reading.{apart, together, joined, clash}
use Rattle.table.proofs.Ranges.{every_below, some_where, first_end, first_all}
use Rattle.table.proofs.Clashes.{clash_pair, clash_cover}
use Rattle.table.proofs.Counts.{count_ascending}
use Rattle.table.proofs.Sizes.{place_below}
use Rattle.table.proofs.Blocks.{within}
use Rattle.table.proofs.Formed.{Formed, formed}
use Rattle.table.specs.declared.table.Table.{Table}
use Rattle.table.specs.Held.{contents}

shared_swap : (t : Contents) (d e : ℕ) → shared t d e ≡ shared t e d
shared_swap t d e = count_same t.v (λ p. has_point t d p && has_point t e p) (λ p. has_point t e p && has_point t d p) (λ p _. and_comm (has_point t d p) (has_point t e p))

module _ (t : Contents) (f : Formed t) where
  step : (d j : ℕ) → d < t.n → suc j < t.k → t.point (d * t.k + j) < t.point (d * t.k + suc j)
  step d j a b =
      let i = d * t.k + j in
      let e : suc i ≡ d * t.k + suc j = omega arith in
      let m = mod-mul-add d t.k (suc j) b in
      subst (λ x. t.point i < t.point x) e (f.ascends i (omega (arith, place_below d t.n t.k (suc j) a b), λ z. let y = ap (λ x. x % t.k) e in omega arith))

  climb : (d i j : ℕ) → d < t.n → i < j → j < t.k → t.point (d * t.k + i) < t.point (d * t.k + j)
  climb d i zero a b c = absurd (omega arith)
  climb d i (suc j) a b c =
      ⊎_elim
      (λ (l : i < j). omega (arith, climb d i j a l (omega arith), step d j a c))
      (λ (l : j ≤ i). let e : i ≡ j = omega arith in subst (λ x. t.point (d * t.k + x) < t.point (d * t.k + suc j)) (sym e) (step d j a c))
      (cases_lt i j)

  blocks : (d : ℕ) → d < t.n → count t.v (has_point t d) ≡ t.k
  unfolding has_point
  blocks d a = count_ascending (λ j. t.point (d * t.k + j)) t.v t.k (λ j b. f.high (d * t.k + j)) (λ i j b c. climb d i j a b c)

  module _ (s : is_some (clash t) ≡ false) where
    all_apart : every (apart t) t.n ≡ true
    all_apart =
        first_end (apart t) t.n
        (⊎_elim (λ h. absurd (both_ways (is_some (clash t)) s (ap is_some (clash_pair t (first (apart t) t.n) refl h)))) (λ h. h) (cases_lt (first (apart t) t.n) t.n))

    lower : (d e : ℕ) → d < t.n → e < d → shared t d e ≤ 1
    unfolding apart
    lower d e a b =
        let x = every_below (apart t) t.n all_apart d a in
        leb-true (shared t d e) 1 (every_below (λ e. leb (shared t d e) 1) d x e b)

    pairs : (d e : ℕ) → d < t.n → e < t.n → (d ≡ e → ⊥) → shared t d e ≤ 1
    pairs d e a b ne = elim (cases_order d e) [
      | inl q ↦ absurd (ne q)
      | inr q ↦ elim q [ inl l ↦ rw (shared_swap t d e) (lower e d b l) | inr l ↦ lower d e a l ]
    ]

    all_joined : t.grade ≡ 2 → every (joined t) t.v ≡ true
    all_joined g =
        first_end (joined t) t.v
        (⊎_elim (λ h. absurd (both_ways (is_some (clash t)) s (ap is_some (clash_cover t (first (joined t) t.v) (first_all (apart t) t.n all_apart) g refl h)))) (λ h. h) (cases_lt (first (joined t) t.v) t.v))

    lies : t.grade ≡ 2 → (p q : ℕ) → p < q → q < t.v → together t p q ≡ true
    unfolding joined
    lies g p q a b =
        let x = every_below (joined t) t.v (all_joined g) p (omega arith) in
        let y = every_below (λ q. leb q p || together t p q) t.v x q b in
        ⊎_elim (λ z. absurd (both_ways (leb q p) (lt-leb q p a) z)) (λ z. z) (or_cases (leb q p) (together t p q) y)

    higher : t.grade ≡ 2 → (p q : ℕ) → p < q → q < t.v → Joined t p q
    unfolding together
    higher g p q a b =
        let w = some_where (λ d. has_point t d p && has_point t d q) t.n (lies g p q a b) in
        let h = and_parts (has_point t w.0 p) (has_point t w.0 q) w.2 in
        (w.0, w.1, h.0, h.1)

    covers : t.grade ≡ 2 → (p q : ℕ) → p < t.v → q < t.v → (p ≡ q → ⊥) → Joined t p q
    covers g p q a b ne = elim (cases_order p q) [
      | inl e ↦ absurd (ne e)
      | inr e ↦ elim e [ inl l ↦ higher g p q l b | inr l ↦ let w = higher g q p l a in (w.0, w.1, w.3, w.2) ]
    ]

    pub valid : Valid t
    valid = record {
      limits = f.limits;
      grades = f.grades;
      within = λ d p a h. within t f.high d p h;
      blocks = blocks;
      pairs = pairs;
      covers = covers;
    }

-- every table is valid
pub valid_table : (t : Table) → Valid (contents t)
valid_table t = valid (contents t) (formed t.draft) t.sound
