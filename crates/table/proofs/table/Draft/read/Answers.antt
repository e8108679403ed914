use Rattle.std.proofs.Common.{◌≡◌, ℕ, ◌+◌, ◌*◌, cond, ltb, length, sym, ap, ◌∙◌, subst, ap₂, arith}
use Rattle.table.specs.Place.{byte, contents_of}
use Rattle.table.specs.Refusals.{Passed}
use Rattle.table.specs.Stages.{Filled}
use Rattle.table.proofs.SameContents.{same_contents}
use Rattle.table.proofs.Points.{high_so, ascend_so, filled_past}
use Rattle.table.proofs.Readers.{many_is, passed_on, on_more}
use Rattle.table.proofs.table.Draft.read.Goals as goal

pub invariant_of-result : goal.invariant_of-result
invariant_of-result c =
    let bs = c.args.bytes.now in
    let z = c.in_ok-sizes.sizes in
    let so = c.in_ok-sizes.ensures.0 in
    let on = c.in_ok-sizes.ensures.1 in
    let read = c.in_ok-points.ensures in
    let ps = c.in_ok-points.points in
    let n : ℕ = z.n * z.k in
    let m = many_is bs z so in
    let f : Filled bs n ps = subst (λ x. Filled x n ps) on.same read.filled in
    let p : Passed bs (5 + n) = passed_on _ c.points.new.self (5 + n) (5 + n) (on_more _ c.sizes.new.self c.points.new.self 5 n on read.on) (omega arith) in
    record {
      room = read.room;
      high = high_so bs ps n z.v f p m so.v_is z.checks.0;
      ascends = ascend_so bs ps n z.k f p m so.k_is;
      blank = λ i. filled_past bs ps n i f;
    }

pub returns : goal.returns
unfolding contents_of
returns c =
    let bs = c.args.bytes.now in
    let z = c.in_ok-sizes.sizes in
    let so = c.in_ok-sizes.ensures.0 in
    let on = c.in_ok-sizes.ensures.1 in
    let read = c.in_ok-points.ensures in
    let g = c.in_ok-grade.ensures in
    let n : ℕ = z.n * z.k in
    let m = many_is bs z so in
    let f : Filled bs n c.in_ok-points.points = subst (λ x. Filled x n c.in_ok-points.points) on.same read.filled in
    let to_grade = on_more _ c.sizes.new.self c.points.new.self 5 n on read.on in
    let to_end = on_more _ c.points.new.self c.grade.new.self (5 + n) 2 to_grade g.1 in
    let long : length bs ≡ 7 + n = ap length (sym to_end.same) ∙ c.in_ok-end.ensures ∙ omega (arith, to_end.place) in
    record {
      says = same_contents _ (contents_of bs) so.v_is so.n_is so.k_is (g.0 ∙ ap₂ byte to_grade.same (omega (arith, to_grade.place))) (λ i. f i ∙ ap (λ x. cond (ltb i x) (byte bs (5 + i)) 0) m);
      passed = passed_on _ c.grade.new.self (5 + n + 2) (length bs) to_end (omega arith);
      whole = omega arith;
    }
