-- The fault of bytes tells what it says.
use Rattle.std.proofs.Common.{◌≡◌, ℕ, ◌+◌, ◌<◌, ◌≤◌, Bool, true, false, cond, ◌&&◌, ◌||◌, eqb, ltb, leb, ◌⊎◌, List, length, Some, None, Option, sym, ◌∙◌, subst, inl, inr, ⊎_elim, arith}
use Rattle.std.proofs.lemmas.Bool.{cases_lt, cases_Bool, lt-ltb, le-ltb, ltb-true, ltb-false, leb-true, leb-false, lt-leb, eqb-true, and_parts, and_cases, and_from, or_parts, or_cases, cond-true, cond-false, cond_both, both_ways}
use Rattle.table.specs.declared.fault.TableFault.{TableFault}
use Rattle.table.specs.declared.fault.TableFault.TheVariants.{Short, Size, Point, Tail, Pair, Cover}
use Rattle.table.specs.Ranges.{every, first}
use Rattle.table.specs.Contents.{Contents, has_point, shared, Joined}
use Rattle.table.specs.Place.{many, full, fits, contents_of}
use Rattle.table.specs.Reading.{apart, together, joined, misfit, clash, fault}
use Rattle.table.specs.Refusals.{Wrong, Whole, Apart, Clashing, Uncovered, Told}
use Rattle.table.proofs.Ranges.{every_below, every_where, some_at, some_where, first_most, first_end, first_fails}
use Rattle.table.proofs.Faults.{past_not}

module _ (t : Contents) where
  apart_below : (m : ℕ) → every (apart t) m ≡ true → Apart t m
  unfolding apart
  apart_below m h d e x y = leb-true (shared t d e) 1 (every_below (λ e. leb (shared t d e) 1) d (every_below (apart t) m h d x) e y)

  pair_told : first (apart t) t.n < t.n → Clashing t (first (apart t) t.n)
  unfolding apart
  pair_told l =
      let d : ℕ = first (apart t) t.n in
      let w = first_fails (apart t) t.n l in
      let e = every_where (λ e. leb (shared t d e) 1) d w.0 in
      record { block = l; twice = (e.0, e.1, omega (arith, leb-false (shared t d e.0) 1 e.2)); before = apart_below d w.1 }

  joined_so : (p q : ℕ) → p < q → q < t.v → joined t p ≡ true → Joined t p q
  unfolding joined together
  joined_so p q a b h =
      let s = or_cases (leb q p) (together t p q) (every_below (λ q. leb q p || together t p q) t.v h q b) in
      let y : together t p q ≡ true = ⊎_elim (λ z. absurd (both_ways (leb q p) (lt-leb q p a) z)) (λ z. z) s in
      let w = some_where (λ d. has_point t d p && has_point t d q) t.n y in
      let h = and_parts (has_point t w.0 p) (has_point t w.0 q) w.2 in
      (w.0, w.1, h.0, h.1)

  cover_told : t.grade ≡ 2 → first (joined t) t.v < t.v → Uncovered t (first (joined t) t.v)
  unfolding joined together
  cover_told g l =
      let p : ℕ = first (joined t) t.v in
      let w = first_fails (joined t) t.v l in
      let e = every_where (λ q. leb q p || together t p q) t.v w.0 in
      let q : ℕ = e.0 in
      let o = or_parts (leb q p) (together t p q) e.2 in
      record {
        grade_so = g;
        loose = (q, leb-false q p o.0, e.1, λ j. both_ways (together t p q) o.1 (some_at (λ d. has_point t d p && has_point t d q) t.n j.0 j.1 (and_from (has_point t j.0 p) (has_point t j.0 q) j.2 j.3)));
        before = λ a b x y z. joined_so a b y z (every_below (joined t) p w.1 a x);
      }

module _ (bs : List ℕ) where
  wrong_told : (i : ℕ) → Wrong bs i → Told bs (misfit bs i)
  unfolding misfit
  wrong_told i w =
      cond_both (ltb i (full bs)) (cond (ltb 4 i && ltb i (5 + many bs)) (Point i) (Size i)) (Tail i) (Told bs)
      (λ a. cond_both (ltb 4 i && ltb i (5 + many bs)) (Point i) (Size i) (Told bs) point (size (ltb-true i (full bs) a)))
      (λ e. (w, end (ltb-false i (full bs) e)))
    where
      point : (ltb 4 i && ltb i (5 + many bs)) ≡ true → Wrong bs i × (5 ≤ i) × (i < 5 + many bs)
      point e = let p = and_parts (ltb 4 i) (ltb i (5 + many bs)) e in (w, ltb-true 4 i p.0, ltb-true i (5 + many bs) p.1)

      size : i < full bs → (ltb 4 i && ltb i (5 + many bs)) ≡ false → Wrong bs i × ((i < 5) ⊎ (5 + many bs ≤ i)) × (i < full bs)
      size l e = (w, ⊎_elim (λ a. inl (omega (arith, ltb-false 4 i a))) (λ a. inr (ltb-false i (5 + many bs) a)) (and_cases (ltb 4 i) (ltb i (5 + many bs)) e), l)

      -- the byte after the last is wrong itself, so it is the first wrong one
      end : full bs ≤ i → i ≡ full bs
      end l = ⊎_elim
          (λ (g : full bs < i). absurd (both_ways (fits bs (full bs)) (past_not bs (full bs) (omega arith)) (w.before (full bs) g)))
          (λ (g : i ≤ full bs). omega arith)
          (cases_lt (full bs) i)

  clash_told : (f : TableFault) → Whole bs → clash (contents_of bs) ≡ Some f → Told bs f
  unfolding clash
  clash_told f whole e =
      let t : Contents = contents_of bs in
      let d : ℕ = first (apart t) t.n in
      let p : ℕ = first (joined t) t.v in
      let test : Bool = eqb t.grade 2 && ltb p t.v in
      let rest : Option TableFault = cond test (Some (Cover p)) None in
      ⊎_elim
      (λ (l : d < t.n).
      let q : Pair d ≡ f = cc (cond-true (ltb d t.n) (Some (Pair d)) rest (lt-ltb d t.n l)) in
      subst (Told bs) q (whole, pair_told t l))
      (λ (l : t.n ≤ d).
      let r : rest ≡ Some f = sym (cond-false (ltb d t.n) (Some (Pair d)) rest (le-ltb d t.n l)) ∙ e in
      ⊎_elim
      (λ (g : test ≡ true).
      let h = and_parts (eqb t.grade 2) (ltb p t.v) g in
      let q : Cover p ≡ f = cc (cond-true test (Some (Cover p)) None g) in
      subst (Told bs) q (whole, apart_below t t.n (first_end (apart t) t.n l), cover_told t (eqb-true t.grade 2 h.0) (ltb-true p t.v h.1)))
      (λ (g : test ≡ false). cc (cond-false test (Some (Cover p)) None g))
      (cases_Bool test))
      (cases_lt d t.n)

  -- bytes that are all right do not pass the end
  whole_so : every (fits bs) (length bs) ≡ true → full bs ≤ length bs → Whole bs
  whole_so all l =
      let fitting = every_below (fits bs) (length bs) all in
      record {
        length_so = ⊎_elim
            (λ (g : full bs < length bs). absurd (both_ways (fits bs (full bs)) (past_not bs (full bs) (omega arith)) (fitting (full bs) g)))
            (λ (g : length bs ≤ full bs). omega arith)
            (cases_lt (full bs) (length bs));
        passed = fitting;
      }

  pub told : (f : TableFault) → fault bs ≡ Some f → Told bs f
  unfolding fault
  told f e =
      let i : ℕ = first (fits bs) (length bs) in
      let rest : Option TableFault = cond (ltb i (full bs)) (Some (Short i)) (clash (contents_of bs)) in
      ⊎_elim
      (λ (l : i < length bs).
      let w = first_fails (fits bs) (length bs) l in
      let q : misfit bs i ≡ f = cc (cond-true (ltb i (length bs)) (Some (misfit bs i)) rest (lt-ltb i (length bs) l)) in
      subst (Told bs) q (wrong_told i (record { there = l; wrong = w.0; before = every_below (fits bs) i w.1 })))
      (λ (l : length bs ≤ i).
      let all = first_end (fits bs) (length bs) l in
      let same : i ≡ length bs = omega (arith, first_most (fits bs) (length bs)) in
      let r : rest ≡ Some f = sym (cond-false (ltb i (length bs)) (Some (misfit bs i)) rest (le-ltb i (length bs) l)) ∙ e in
      ⊎_elim
      (λ (g : i < full bs).
      let q : Short i ≡ f = cc (cond-true (ltb i (full bs)) (Some (Short i)) (clash (contents_of bs)) (lt-ltb i (full bs) g)) in
      subst (Told bs) q (same, g, record { there = omega arith; fitting = λ j h. every_below (fits bs) (length bs) all j (omega arith) }))
      (λ (g : full bs ≤ i). clash_told f (whole_so all (omega arith)) (sym (cond-false (ltb i (full bs)) (Some (Short i)) (clash (contents_of bs)) (le-ltb i (full bs) g)) ∙ r))
      (cases_lt i (full bs)))
      (cases_lt i (length bs))
