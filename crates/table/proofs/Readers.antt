-- What the reader has taken, said of the bytes.
use Rattle.std.proofs.Common.{◌≡◌, ℕ, ◌+◌, ◌*◌, ◌<◌, ◌≤◌, List, length, Some, MatchResult, sym, refl, ap, ◌∙◌, subst, ap₂, ⊎_elim, arith}
use Rattle.std.specs.Prelude.{◌≢◌, false, ok_or, slice_get}
use Rattle.std.specs.Range.{range_inclusive_start, range_inclusive_end, range_inclusive_exhausted}
use Rattle.std.specs.declared.ops.RangeInclusive.{RangeInclusive}
use Rattle.std.proofs.lemmas.Bool.{cases_lt}
use Rattle.std.proofs.lemmas.Option.{slice_get-get_or, slice_get_past}
use Rattle.table.specs.declared.fault.TableFault.{TableFault}
use Rattle.table.specs.declared.fault.TableFault.TheVariants.{Short, Size}
use Rattle.table.specs.declared.grade.Grade.{Grade}
use Rattle.table.specs.declared.grade.Grade.TheVariants.{Packing, Steiner}
use Rattle.table.specs.declared.table.Sizes.{Sizes}
use Rattle.table.specs.declared.table.Reader.{Reader}
use Rattle.table.specs.Place.{many, lowest, highest, full}
use Rattle.table.specs.Reading.{misfit}
use Rattle.table.specs.Refusals.{Passed}
use Rattle.table.specs.Numbers.{grade_number}
use Rattle.table.specs.Stages.{Refuses, Asked, Next, On, SizesOf}
use Rattle.table.proofs.Faults.{short_at, misfit_at, passed_more, fits_from, low_not, high_not}
use Rattle.table.proofs.Places.{low_late, high_grade, misfit_late}

-- the sizes tell how many points follow
pub many_is : (bs : List ℕ) (z : Sizes) → SizesOf bs z → z.n * z.k ≡ many bs
many_is bs z s = ap₂ (λ x y. x * y) s.n_is s.k_is

-- the bytes up to place i are what they must be, where the reader has come from r to s
pub passed_on : (r s : Reader) (m i : ℕ) → On r s m → r.at + m ≡ i → Passed r.bytes.now i
passed_on r s m i o e = subst (λ x. Passed x i) o.same (subst (λ x. Passed s.bytes.now x) (o.place ∙ e) s.passed)

pub on_more : (r s t : Reader) (m n : ℕ) → On r s m → On s t n → On r t (m + n)
on_more r s t m n a b = record { same = b.same ∙ a.same; place = omega (arith, a.place, b.place) }

-- byte i may be asked for where it is the next, by what it must be
pub asked : (bs : List ℕ) (i : ℕ) (wrong : ℕ → TableFault) (r : Reader) (values : RangeInclusive ℕ) → r.bytes.now ≡ bs → r.at ≡ i → i < full bs → misfit bs i ≡ wrong i → lowest bs i ≡ range_inclusive_start values → highest bs i ≡ range_inclusive_end values → range_inclusive_exhausted values ≡ false → Asked r values (wrong r.at)
asked bs i wrong r values same place inside w low high unspent = record {
  low_is = ap₂ lowest same place ∙ low;
  high_is = ap₂ highest same place ∙ high;
  unspent = unspent;
  inside = subst (λ x. r.at < full x) (sym same) (omega arith);
  wrong_is = ap₂ misfit same place ∙ w ∙ ap wrong (sym place);
}

pub peeked : (r : Reader) → r.at < full r.bytes.now → MatchResult (ok_or (slice_get r.bytes.now r.at) (Short r.at)) (Next r) (Refuses r.bytes.now)
peeked r h =
    ⊎_elim
    (λ l. rw (slice_get-get_or r.bytes.now r.at 0 l) (record { there = l; is = refl }))
    (λ l. rw (slice_get_past r.bytes.now r.at l) (short_at r.bytes.now r.at r.passed l h))
    (cases_lt r.at (length r.bytes.now))

-- ---- the byte of the grade, which is the last

module _ (r : Reader) (n : ℕ) (next : Next r n) (last : r.at + 1 ≡ full r.bytes.now) where
  low_grade : lowest r.bytes.now r.at ≡ 1
  low_grade = low_late r.bytes.now r.at (1 + many r.bytes.now) (omega arith) (omega arith)

  top_grade : highest r.bytes.now r.at ≡ 2
  top_grade = high_grade r.bytes.now r.at (omega arith)

  pub grade_passed : 1 ≤ n → n ≤ 2 → Passed r.bytes.now (r.at + 1)
  grade_passed a b =
      passed_more r.bytes.now r.at r.passed next.there
      (fits_from r.bytes.now r.at (omega arith) (omega (arith, next.is, low_grade)) (omega (arith, next.is, top_grade)))

  pub grade_refused : ((g : Grade) → grade_number g ≢ n) → Refuses r.bytes.now (Size r.at)
  grade_refused none =
      misfit_at r.bytes.now r.at r.passed next.there
      (⊎_elim
      (λ (l : n < 1). low_not r.bytes.now r.at (omega (arith, next.is, low_grade)))
      (λ (l : 1 ≤ n). high_not r.bytes.now r.at (omega (arith, next.is, top_grade, none Packing, none Steiner)))
      (cases_lt n 1))
      ∙ ap Some (misfit_late r.bytes.now r.at (omega arith) (omega arith))
