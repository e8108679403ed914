-- What each byte must be, part by part.
use Rattle.std.proofs.Common.{◌≡◌, ℕ, suc, ◌+◌, ◌-◌, ◌%◌, ◌<◌, ◌≤◌, Bool, cond, ◌&&◌, eqb, ltb, List, refl, ap, ◌∙◌, arith}
use Rattle.std.proofs.lemmas.Bool.{lt-ltb, le-ltb, eq-eqb, ne_eqb, cond-true, cond-false, and_right, and_left, and_from}
use Rattle.table.specs.declared.fault.TableFault.TheVariants.{Size, Point, Tail}
use Rattle.table.specs.Place.{byte, many, lowest, highest, full}
use Rattle.table.specs.Reading.{misfit}

pub five : (j : ℕ) → 5 + j ≡ suc (suc (suc (suc (suc j))))
five j = omega arith

module _ (bs : List ℕ) where
  pub low_point : (j : ℕ) → j < many bs → lowest bs (5 + j) ≡ cond (eqb (j % byte bs 3) 0) 0 (byte bs (4 + j) + 1)
  low_point j h = ap (lowest bs) (five j) ∙ cond-true (ltb j (many bs)) _ 1 (lt-ltb j (many bs) h)

  pub high_point : (j : ℕ) → j < many bs → highest bs (5 + j) ≡ byte bs 1 - 1
  high_point j h = ap (highest bs) (five j) ∙ cond-true (ltb j (many bs)) _ _ (lt-ltb j (many bs) h)

  pub low_late : (i j : ℕ) → i ≡ 5 + j → many bs ≤ j → lowest bs i ≡ 1
  low_late i j e h = ap (lowest bs) (e ∙ five j) ∙ cond-false (ltb j (many bs)) _ 1 (le-ltb j (many bs) h)

  pub high_count : (i : ℕ) → i ≡ 5 + many bs → highest bs i ≡ 1
  high_count i e =
      let j = many bs in
      ap (highest bs) (e ∙ five j) ∙ cond-false (ltb j j) _ _ (le-ltb j j (omega arith)) ∙ cond-true (eqb j j) 1 2 (eq-eqb j j refl)

  pub high_grade : (i : ℕ) → i ≡ 6 + many bs → highest bs i ≡ 2
  high_grade i e =
      let m = many bs in
      let j = suc m in
      let g : i ≡ suc (suc (suc (suc (suc j)))) = omega arith in
      ap (highest bs) g ∙ cond-false (ltb j m) _ _ (le-ltb j m (omega arith)) ∙ cond-false (eqb j m) 1 2 (ne_eqb j m (λ q. omega arith))

  inside : ℕ → Bool
  inside i = ltb 4 i && ltb i (5 + many bs)

  pub misfit_early : (i : ℕ) → i < 5 → misfit bs i ≡ Size i
  unfolding misfit
  misfit_early i h =
      cond-true (ltb i (full bs)) (cond (ltb 4 i && ltb i (5 + many bs)) (Point i) (Size i)) (Tail i) (lt-ltb i (full bs) (omega arith))
      ∙ cond-false (ltb 4 i && ltb i (5 + many bs)) (Point i) (Size i) (and_left (ltb 4 i) (ltb i (5 + many bs)) (le-ltb 4 i (omega arith)))

  pub misfit_late : (i : ℕ) → i < full bs → 5 + many bs ≤ i → misfit bs i ≡ Size i
  unfolding misfit
  misfit_late i g h =
      cond-true (ltb i (full bs)) (cond (ltb 4 i && ltb i (5 + many bs)) (Point i) (Size i)) (Tail i) (lt-ltb i (full bs) g)
      ∙ cond-false (ltb 4 i && ltb i (5 + many bs)) (Point i) (Size i) (and_right (ltb 4 i) (ltb i (5 + many bs)) (le-ltb i (5 + many bs) h))

  pub misfit_point : (j : ℕ) → j < many bs → misfit bs (5 + j) ≡ Point (5 + j)
  unfolding misfit
  misfit_point j h =
      cond-true (ltb (5 + j) (full bs)) (cond (ltb 4 (5 + j) && ltb (5 + j) (5 + many bs)) (Point (5 + j)) (Size (5 + j))) (Tail (5 + j)) (lt-ltb (5 + j) (full bs) (omega arith))
      ∙ cond-true (ltb 4 (5 + j) && ltb (5 + j) (5 + many bs)) (Point (5 + j)) (Size (5 + j))
      (and_from (ltb 4 (5 + j)) (ltb (5 + j) (5 + many bs)) (lt-ltb 4 (5 + j) (omega arith)) (lt-ltb (5 + j) (5 + many bs) (omega arith)))

  pub misfit_tail : (i : ℕ) → full bs ≤ i → misfit bs i ≡ Tail i
  unfolding misfit
  misfit_tail i h = cond-false (ltb i (full bs)) (cond (ltb 4 i && ltb i (5 + many bs)) (Point i) (Size i)) (Tail i) (le-ltb i (full bs) h)
