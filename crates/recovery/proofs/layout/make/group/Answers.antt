use Rattle.std.proofs.Common.{◌≡◌, ◌+◌, ◌&&◌, ◌||◌, eqb, ltb, arith, rules, sym, ap, ◌∙◌, ⊎_elim}
use Rattle.std.proofs.lemmas.Bool.{cases_Bool, eqb-true, lt-ltb}
use borrow.Author.Tests.{tests}
use Rattle.sets.specs.Members.{has}
use Rattle.table.specs.Contents.{has_point}
use Rattle.table.specs.Held.{contents}
use Rattle.table.proofs.Validity.{valid_table}
use Rattle.recovery.proofs.Books.{no_group, group_is}
use Rattle.recovery.proofs.layout.make.group.Goals as goal

pub returns-then-point-v : goal.returns-then-point-v
returns-then-point-v c u = c.empty.ensures u ∙ sym (ap (λ b. b && (has c.args.records u || eqb u ((contents c.args.table.now).n + c.args.point))) (no_group (contents c.args.table.now) c.args.point u (omega arith)))

pub returns : goal.returns
returns c u =
    let t = contents c.args.table.now in
    let p = c.args.point in
    let behind : has c.filter-behind.result u ≡ (has c.args.records u && (ltb u t.n && has_point t u p)) = let k = c.filter-behind.ensures.passing u in let o = c.filter-behind.ensures.others u in search (rules, tests) in
    let room : eqb u (t.n + p) ≡ (eqb u (t.n + p) && ltb u 64) = ⊎_elim
    (λ e. let is = eqb-true u (t.n + p) e in sym (ap (λ b. eqb u (t.n + p) && b) (lt-ltb u 64 (omega (arith, (valid_table c.args.table.now).limits.units))) ∙ search (rules, tests)))
    (λ e. search (rules, tests))
    (cases_Bool (eqb u (t.n + p))) in
    let is = group_is t p u (omega arith) in
    let w = c.with.ensures u in
    search (rules, tests)
