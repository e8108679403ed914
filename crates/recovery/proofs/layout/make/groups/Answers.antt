use Rattle.std.proofs.Common.{◌≡◌, ℕ, ◌+◌, ◌&&◌, ◌||◌, eqb, ltb, arith, rules, sym, ap, ◌∙◌, ⊎_elim}
use Rattle.std.proofs.lemmas.Bool.{cases_lt, le-ltb}
use borrow.Author.Tests.{tests}
use Rattle.sets.specs.Members.{has}
use Rattle.table.specs.Held.{contents}
use Rattle.table.proofs.Validity.{valid_table}
use Rattle.recovery.specs.Groups.{no_units, in_group}
use Rattle.recovery.proofs.Making.{filled, groups_of_all, group_all}
use Rattle.recovery.proofs.layout.make.groups.Goals as goal

pub returns-clause-grouped : goal.returns-clause-grouped
returns-clause-grouped c =
    let t = contents c.args.table.now in
    let limits = (valid_table c.args.table.now).limits in
    let records = c.from_fn-records.result in
    let are : (u : ℕ) → has records u ≡ ltb u t.n = λ u. ⊎_elim
    (λ l. let k = c.from_fn-records.ensures.passing u l in search (rules, tests))
    (λ l. c.from_fn-records.ensures.past u l ∙ sym (le-ltb u t.n (omega (arith, limits.units))))
    (cases_lt u 64) in
    groups_of_all t c.from_fn.result c.from_fn.ensures.items.long limits.v_high
    (λ p l u. filled _ (λ p g. (u : ℕ) → has g u ≡ (in_group t p u && (has records u || eqb u (t.n + p)))) _ c.from_fn.result (λ x y q k. search (rules, tests)) 40 0 c.from_fn.ensures.items.each p no_units (omega arith) (omega arith) u
    ∙ ap (λ b. in_group t p u && (b || eqb u (t.n + p))) (are u) ∙ group_all t p u)
