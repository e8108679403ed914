use Rattle.std.proofs.Common.{◌≡◌, ℕ, ◌+◌, ◌≤◌, Some, Ok, Err, MatchResult, Result, sym, refl, ap, ◌∙◌, ⊎_elim, arith, rules}
use Rattle.std.specs.Prelude.{◌≢◌}
use Rattle.std.proofs.lemmas.Result.{err_from_is_err_and}
use Rattle.table.specs.declared.fault.TableFault.{TableFault}
use Rattle.table.specs.declared.fault.TableFault.TheVariants.{Size}
use Rattle.table.specs.declared.grade.Grade.{Grade}
use Rattle.table.specs.declared.grade.NoGrade.{NoGrade}
use Rattle.table.specs.Numbers.{grade_number, Grades}
use Rattle.table.specs.Place.{many, full}
use Rattle.table.specs.Reading.{fault}
use Rattle.table.proofs.Formed.{one_or_two}
use Rattle.table.proofs.Places.{low_late, high_count, misfit_late}
use Rattle.table.proofs.Readers.{asked, grade_passed, grade_refused}
use Rattle.table.proofs.table.Reader.grade.Goals as goal

-- what the number of a grade, or of none, was turned into
module _ (n at : ℕ) (s : Result Grade TableFault) where
  refused : (r : Result Grade NoGrade) (f : TableFault) → MatchResult r (λ g. s ≡ Ok g) (λ e. s ≡ Err (Size at)) → s ≡ Err f → Grades n r → (f ≡ Size at) × ((g : Grade) → grade_number g ≢ n)
  refused (Ok g) f h e d = cc
  refused (Err x) f h e d = (cc, d)

  accepted : (r : Result Grade NoGrade) (g : Grade) → MatchResult r (λ g. s ≡ Ok g) (λ e. s ≡ Err (Size at)) → s ≡ Ok g → Grades n r → grade_number g ≡ n
  accepted (Ok x) g h e d = let p : g ≡ x = cc in ap grade_number p ∙ d
  accepted (Err x) g h e d = cc

pub size-requires : goal.size-requires
size-requires c =
    let r = c.args.self.now in
    let bs = r.bytes.now in
    let range = c.new.ensures in
    let e : r.at ≡ 5 + many bs = omega (arith, c.requires) in
    asked bs r.at Size r c.new.result refl refl (omega arith) (misfit_late bs r.at (omega arith) (omega arith))
    (low_late bs r.at (many bs) e (omega arith) ∙ sym range.start) (high_count bs r.at e ∙ sym range.end) range.exhausted

pub returns-in_err-grade : goal.returns-in_err-grade
returns-in_err-grade c =
    let r = c.size.new.self in
    let on = c.in_ok-size.ensures.on in
    let h : MatchResult c.try_from.result (λ g. c.map_err.result ≡ Ok g) (λ e. c.map_err.result ≡ Err (Size r.at)) = search rules in
    let w = refused c.in_ok-number.number r.at c.map_err.result c.try_from.result c.in_err-grade.field-0.0 h c.in_err-grade.was c.try_from.ensures in
    let last : r.at + 1 ≡ full r.bytes.now = omega (arith, c.requires, on.place, ap full on.same) in
    let p = err_from_is_err_and c.from_residual-in_err-grade.result c.from_residual-in_err-grade.ensures.1 in
    rw (p.1, p.2) (ap fault (sym on.same) ∙ grade_refused r c.in_ok-number.number c.in_ok-number.ensures last w.1 ∙ ap Some (sym w.0))

pub invariant_of-self : goal.invariant_of-self
invariant_of-self c =
    let r = c.size.new.self in
    let on = c.in_ok-size.ensures.on in
    let n = c.in_ok-number.number in
    let g = c.in_ok-grade.grade in
    let h : MatchResult c.try_from.result (λ g. c.map_err.result ≡ Ok g) (λ e. c.map_err.result ≡ Err (Size r.at)) = search rules in
    let is = accepted n r.at c.map_err.result c.try_from.result g h c.in_ok-grade.was c.try_from.ensures in
    let last : r.at + 1 ≡ full r.bytes.now = omega (arith, c.requires, on.place, ap full on.same) in
    let two : (1 ≤ n) × (n ≤ 2) = ⊎_elim (λ e. (omega arith, omega arith)) (λ e. (omega arith, omega arith)) (one_or_two g) in
    record { passed = grade_passed r n c.in_ok-number.ensures last two.0 two.1 }
