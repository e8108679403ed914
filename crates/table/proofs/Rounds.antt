-- Reading and writing undo one another.
use Rattle.std.proofs.Common.{◌≡◌, ℕ, zero, suc, ◌+◌, ◌*◌, ◌%◌, ◌<◌, ◌≤◌, true, false, cond, eqb, ltb, List, length, is_some, Some, None, Option, sym, refl, ap, ◌∙◌, subst, ap₂, ⊎_elim, zero-add, arith}
use native.Mathlib.Nat.{zero-mod}
use Rattle.std.proofs.lemmas.Bool.{cases_lt, cases_eq, lt-ltb, le-ltb, eq-eqb, ne_eqb, cond-true, cond-false, both_ways}
use Rattle.std.proofs.lemmas.List.{ext_get_or}
use Rattle.std.proofs.lemmas.List.FromFn.{length-map-range_with_len, get_or-map-range_with_len}
use Rattle.table.specs.Contents.{Contents, points, size, byte_of, bytes_of}
use Rattle.table.specs.Place.{byte, many, lowest, highest, full, fits, contents_of}
use Rattle.table.specs.Reading.{clash, fault}
use Rattle.table.specs.Refusals.{Passed}
use Rattle.table.proofs.Faults.{fits_parts, fits_from, sound_at}
use Rattle.table.proofs.Places.{five, low_point, high_point, high_count, high_grade, low_late}
use Rattle.table.proofs.Points.{low_first, low_next}
use Rattle.table.proofs.SameContents.{same_contents}
use Rattle.table.proofs.Formed.{Formed}

pub bytes_length : (t : Contents) → length (bytes_of t) ≡ size t
unfolding bytes_of
bytes_length t = length-map-range_with_len (byte_of t) 0 (size t)

pub bytes_at : (t : Contents) (i : ℕ) → i < size t → byte (bytes_of t) i ≡ byte_of t i
unfolding bytes_of
bytes_at t i h = get_or-map-range_with_len (byte_of t) 0 (size t) i i 0 h (zero-add i)

module _ (bs : List ℕ) (p : Passed bs (length bs)) (w : full bs ≡ length bs) where
  ok : (i : ℕ) → i < full bs → (lowest bs i ≤ byte bs i) × (byte bs i ≤ highest bs i)
  ok i h = let q = fits_parts bs i (p.fitting i (omega arith)) in (q.1, q.2)

  late : (j : ℕ) → 5 + j < full bs → byte_of (contents_of bs) (suc (suc (suc (suc (suc j))))) ≡ byte bs (5 + j)
  unfolding contents_of
  late j h =
      let m = many bs in
      let a : ℕ = cond (ltb j m) (byte bs (5 + j)) 0 in
      let b : ℕ = cond (eqb j m) 1 (byte bs (6 + m)) in
      ⊎_elim
      (λ (l : j < m). cond-true (ltb j m) a b (lt-ltb j m l) ∙ cond-true (ltb j m) (byte bs (5 + j)) 0 (lt-ltb j m l))
      (λ (l : m ≤ j).
      cond-false (ltb j m) a b (le-ltb j m l)
      ∙ ⊎_elim
      (λ (e : j ≡ m).
      let x = ok (5 + j) h in
      let lo = low_late bs (5 + j) j refl l in
      let hi = high_count bs (5 + j) (ap (λ y. 5 + y) e) in
      cond-true (eqb j m) 1 (byte bs (6 + m)) (eq-eqb j m e) ∙ omega arith)
      (λ (e : j ≡ m → ⊥).
      let g : j ≡ suc m = ⊎_elim (λ (q : j < suc m). absurd (e (omega arith))) (λ (q : suc m ≤ j). omega arith) (cases_lt j (suc m)) in
      cond-false (eqb j m) 1 (byte bs (6 + m)) (ne_eqb j m e) ∙ ap (byte bs) (omega arith))
      (cases_eq j m))
      (cases_lt j m)

  same : (i : ℕ) → i < full bs → byte_of (contents_of bs) i ≡ byte bs i
  unfolding contents_of
  same zero h = let x = ok 0 h in omega arith
  same (suc zero) h = refl
  same (suc (suc zero)) h = refl
  same (suc (suc (suc zero))) h = refl
  same (suc (suc (suc (suc zero)))) h = let x = ok 4 h in omega arith
  same (suc (suc (suc (suc (suc j))))) h = late j (omega arith) ∙ ap (byte bs) (five j)

  pub back : bytes_of (contents_of bs) ≡ bs
  unfolding contents_of
  back =
      let l = bytes_length (contents_of bs) in
      ext_get_or 0 (bytes_of (contents_of bs)) bs (l ∙ w) (λ i h. bytes_at (contents_of bs) i (omega arith) ∙ same i (omega arith))

none_so : {X : Type 0} (o : Option X) → is_some o ≡ false → o ≡ None
none_so None h = refl
none_so (Some x) h = absurd (both_ways true h refl)

module _ (t : Contents) (f : Formed t) where
  read_v : byte (bytes_of t) 1 ≡ t.v
  read_v = bytes_at t 1 (omega arith)

  read_n : byte (bytes_of t) 2 ≡ t.n
  read_n = bytes_at t 2 (omega arith)

  read_k : byte (bytes_of t) 3 ≡ t.k
  read_k = bytes_at t 3 (omega arith)

  many_so : many (bytes_of t) ≡ points t
  many_so = ap₂ (λ x y. x * y) read_n read_k

  pub whole : full (bytes_of t) ≡ length (bytes_of t)
  whole = ap (λ x. 7 + x) many_so ∙ sym (bytes_length t)

  read_point : (j : ℕ) → j < points t → byte (bytes_of t) (5 + j) ≡ t.point j
  read_point j h = bytes_at t (5 + j) (omega arith) ∙ ap (byte_of t) (five j) ∙ cond-true (ltb j (points t)) (t.point j) (cond (eqb j (points t)) 1 t.grade) (lt-ltb j (points t) h)

  read_late : (j : ℕ) → points t ≤ j → j < 2 + points t → byte (bytes_of t) (5 + j) ≡ cond (eqb j (points t)) 1 t.grade
  read_late j h g = bytes_at t (5 + j) (omega arith) ∙ ap (byte_of t) (five j) ∙ cond-false (ltb j (points t)) (t.point j) (cond (eqb j (points t)) 1 t.grade) (le-ltb j (points t) h)

  read_count : byte (bytes_of t) (5 + points t) ≡ 1
  read_count = read_late (points t) (omega arith) (omega arith) ∙ cond-true (eqb (points t) (points t)) 1 t.grade (eq-eqb (points t) (points t) refl)

  read_grade : byte (bytes_of t) (6 + points t) ≡ t.grade
  read_grade =
      let j = suc (points t) in
      ap (byte (bytes_of t)) (omega arith) ∙ read_late j (omega arith) (omega arith) ∙ cond-false (eqb j (points t)) 1 t.grade (ne_eqb j (points t) (λ q. omega arith))

  pub again : contents_of (bytes_of t) ≡ t
  unfolding contents_of
  again =
      same_contents (contents_of (bytes_of t)) t read_v read_n read_k (ap (λ x. byte (bytes_of t) (6 + x)) many_so ∙ read_grade)
      (λ i. ap (λ x. cond (ltb i x) (byte (bytes_of t) (5 + i)) 0) many_so ∙ ⊎_elim
      (λ (l : i < points t). cond-true (ltb i (points t)) (byte (bytes_of t) (5 + i)) 0 (lt-ltb i (points t) l) ∙ read_point i l)
      (λ (l : points t ≤ i). cond-false (ltb i (points t)) (byte (bytes_of t) (5 + i)) 0 (le-ltb i (points t) l) ∙ sym (f.blank i l))
      (cases_lt i (points t)))

  low_is : (j : ℕ) → j < points t → lowest (bytes_of t) (5 + j) ≡ cond (eqb (j % t.k) 0) 0 (byte (bytes_of t) (4 + j) + 1)
  low_is j h = let e = many_so in low_point (bytes_of t) j (omega arith) ∙ ap (λ x. cond (eqb (j % x) 0) 0 (byte (bytes_of t) (4 + j) + 1)) read_k

  low_so : (j : ℕ) → j < points t → lowest (bytes_of t) (5 + j) ≤ t.point j
  low_so zero h = let e = low_is 0 h ∙ low_first 0 t.k (byte (bytes_of t) 4 + 1) (zero-mod t.k) in omega arith
  low_so (suc i) h =
      let b : ℕ = byte (bytes_of t) (4 + suc i) + 1 in
      ⊎_elim
      (λ (z : suc i % t.k ≡ 0). let e = low_is (suc i) h ∙ low_first (suc i) t.k b z in omega arith)
      (λ (z : suc i % t.k ≡ 0 → ⊥).
      let e = low_is (suc i) h ∙ low_next (suc i) t.k b z in
      let a = f.ascends i (h, z) in
      let p = read_point i (omega arith) in
      let c : byte (bytes_of t) (4 + suc i) ≡ byte (bytes_of t) (5 + i) = ap (byte (bytes_of t)) (omega arith) in
      omega arith)
      (cases_eq (suc i % t.k) 0)

  fit_point : (j : ℕ) → j < points t → fits (bytes_of t) (5 + j) ≡ true
  fit_point j h =
      let e = many_so in
      let p = read_point j h in
      let hi = high_point (bytes_of t) j (omega arith) in
      let lo = low_so j h in
      let q = f.high j in
      let r = read_v in
      fits_from (bytes_of t) (5 + j) (omega arith) (omega arith) (omega arith)

  fit_late : (j : ℕ) → points t ≤ j → j < 2 + points t → fits (bytes_of t) (5 + j) ≡ true
  fit_late j h g =
      let e = many_so in
      let lo = low_late (bytes_of t) (5 + j) j refl (omega arith) in
      ⊎_elim
      (λ (q : j < suc (points t)).
      let s : j ≡ points t = omega arith in
      let hi = high_count (bytes_of t) (5 + j) (omega arith) in
      let r : byte (bytes_of t) (5 + j) ≡ 1 = ap (λ x. byte (bytes_of t) (5 + x)) s ∙ read_count in
      fits_from (bytes_of t) (5 + j) (omega arith) (omega arith) (omega arith))
      (λ (q : suc (points t) ≤ j).
      let hi = high_grade (bytes_of t) (5 + j) (omega arith) in
      let r : byte (bytes_of t) (5 + j) ≡ t.grade = ap (byte (bytes_of t)) (omega arith) ∙ read_grade in
      let a : (1 ≤ t.grade) × (t.grade ≤ 2) = ⊎_elim (λ x. (omega arith, omega arith)) (λ x. (omega arith, omega arith)) f.grades in
      fits_from (bytes_of t) (5 + j) (omega arith) (omega arith) (omega arith))
      (cases_lt j (suc (points t)))

  fit : (i : ℕ) → i < size t → fits (bytes_of t) i ≡ true
  fit zero h = let e = bytes_at t 0 h in fits_from (bytes_of t) 0 (omega arith) (omega arith) (omega arith)
  fit (suc zero) h = let e = read_v in let a = f.limits.v_low in let b = f.limits.v_high in fits_from (bytes_of t) 1 (omega arith) (omega arith) (omega arith)
  fit (suc (suc zero)) h =
      let e = read_n in let v = read_v in let a = f.limits.n_low in let b = f.limits.units in let c = f.limits.v_low in
      fits_from (bytes_of t) 2 (omega arith) (omega arith) (omega arith)
  fit (suc (suc (suc zero))) h =
      let e = read_k in let v = read_v in let a = f.limits.k_low in let b = f.limits.k_high in let c = f.limits.narrow in
      fits_from (bytes_of t) 3 (omega arith) (omega arith) (omega arith)
  fit (suc (suc (suc (suc zero)))) h = let e = bytes_at t 4 h in let g = read_n in fits_from (bytes_of t) 4 (omega arith) (omega arith) (omega arith)
  fit (suc (suc (suc (suc (suc j))))) h =
      subst (λ x. fits (bytes_of t) x ≡ true) (five j) (⊎_elim (λ l. fit_point j l) (λ l. fit_late j l (omega arith)) (cases_lt j (points t)))

  pub passed : Passed (bytes_of t) (length (bytes_of t))
  passed = let l = bytes_length t in record { there = omega arith; fitting = λ i h. fit i (omega arith) }

  pub accepted : is_some (clash t) ≡ false → fault (bytes_of t) ≡ None
  accepted s = let w = whole in sound_at (bytes_of t) passed (omega arith) ∙ ap clash again ∙ none_so (clash t) s
