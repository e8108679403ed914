-- The fault of bytes, from the first byte that is not what it must be.
use Rattle.std.proofs.Common.{◌≡◌, ℕ, ◌+◌, ◌<◌, ◌≤◌, true, false, cond, ◌&&◌, ltb, leb, List, length, Some, Option, sym, ap, ◌∙◌, subst, arith, below_more}
use Rattle.std.proofs.lemmas.Bool.{lt-ltb, le-ltb, le-leb, lt-leb, ltb-true, leb-true, cond-true, cond-false, and_right, and_left, and_from, and_parts}
use Rattle.table.specs.declared.fault.TableFault.{TableFault}
use Rattle.table.specs.declared.fault.TableFault.TheVariants.{Short}
use Rattle.table.specs.Place.{byte, lowest, highest, full, fits, contents_of}
use Rattle.table.specs.Reading.{misfit, clash, fault}
use Rattle.table.specs.Refusals.{Passed}
use Rattle.table.proofs.Ranges.{every_from, first_stop, first_all}

module _ (bs : List ℕ) where
  rest : ℕ → Option TableFault
  rest i = cond (ltb i (full bs)) (Some (Short i)) (clash (contents_of bs))

  pub misfit_at : (i : ℕ) → Passed bs i → i < length bs → fits bs i ≡ false → fault bs ≡ Some (misfit bs i)
  unfolding fault rest
  misfit_at i p h e =
      let f = first_stop (fits bs) (length bs) i h (every_from (fits bs) i p.fitting) e in
      ap (λ x. cond (ltb x (length bs)) (Some (misfit bs x)) (rest x)) f ∙ cond-true (ltb i (length bs)) (Some (misfit bs i)) (rest i) (lt-ltb i (length bs) h)

  all_there : Passed bs (length bs) → fault bs ≡ rest (length bs)
  unfolding fault rest
  all_there p =
      let f = first_all (fits bs) (length bs) (every_from (fits bs) (length bs) p.fitting) in
      ap (λ x. cond (ltb x (length bs)) (Some (misfit bs x)) (rest x)) f ∙ cond-false (ltb (length bs) (length bs)) (Some (misfit bs (length bs))) (rest (length bs)) (le-ltb (length bs) (length bs) (omega arith))

  pub short_at : (i : ℕ) → Passed bs i → length bs ≤ i → i < full bs → fault bs ≡ Some (Short i)
  unfolding rest
  short_at i p h b =
      let e : i ≡ length bs = omega (arith, p.there) in
      all_there (subst (λ x. Passed bs x) e p) ∙ ap rest (sym e) ∙ cond-true (ltb i (full bs)) (Some (Short i)) (clash (contents_of bs)) (lt-ltb i (full bs) b)

  pub sound_at : Passed bs (length bs) → full bs ≤ length bs → fault bs ≡ clash (contents_of bs)
  unfolding rest
  sound_at p h = all_there p ∙ cond-false (ltb (length bs) (full bs)) (Some (Short (length bs))) (clash (contents_of bs)) (le-ltb (length bs) (full bs) h)

  pub passed_more : (i : ℕ) → Passed bs i → i < length bs → fits bs i ≡ true → Passed bs (i + 1)
  passed_more i p h e = record { there = omega arith; fitting = below_more _ i p.fitting e }

  pub fits_from : (i : ℕ) → i < full bs → lowest bs i ≤ byte bs i → byte bs i ≤ highest bs i → fits bs i ≡ true
  unfolding fits
  fits_from i a b c = and_from (ltb i (full bs)) _ (lt-ltb i (full bs) a) (and_from (leb (lowest bs i) (byte bs i)) (leb (byte bs i) (highest bs i)) (le-leb (lowest bs i) (byte bs i) b) (le-leb (byte bs i) (highest bs i) c))

  pub low_not : (i : ℕ) → byte bs i < lowest bs i → fits bs i ≡ false
  unfolding fits
  low_not i a = and_right (ltb i (full bs)) _ (and_left (leb (lowest bs i) (byte bs i)) (leb (byte bs i) (highest bs i)) (lt-leb (lowest bs i) (byte bs i) a))

  pub high_not : (i : ℕ) → highest bs i < byte bs i → fits bs i ≡ false
  unfolding fits
  high_not i a = and_right (ltb i (full bs)) _ (and_right (leb (lowest bs i) (byte bs i)) (leb (byte bs i) (highest bs i)) (lt-leb (byte bs i) (highest bs i) a))

  pub past_not : (i : ℕ) → full bs ≤ i → fits bs i ≡ false
  unfolding fits
  past_not i a = and_left (ltb i (full bs)) _ (le-ltb i (full bs) a)

  pub fits_parts : (i : ℕ) → fits bs i ≡ true → (i < full bs) × (lowest bs i ≤ byte bs i) × (byte bs i ≤ highest bs i)
  unfolding fits
  fits_parts i e =
      let p = and_parts (ltb i (full bs)) (leb (lowest bs i) (byte bs i) && leb (byte bs i) (highest bs i)) e in
      let q = and_parts (leb (lowest bs i) (byte bs i)) (leb (byte bs i) (highest bs i)) p.1 in
      (ltb-true i (full bs) p.0, leb-true (lowest bs i) (byte bs i) q.0, leb-true (byte bs i) (highest bs i) q.1)
