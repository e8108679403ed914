use Rattle.std.proofs.Common.{◌≡◌, ap, ◌∙◌, subst}
use Rattle.sets.specs.declared.set.SmallSet.{SmallSet}
use Rattle.sets.specs.Steps.{to_come}
use Rattle.recovery.specs.Groups.{no_units}
use Rattle.recovery.specs.Rows.{Echelon}
use Rattle.recovery.proofs.Elimination.{elimination_adds, elimination_ends}
use Rattle.recovery.proofs.rows.eliminate.Goals as goal

pub loop-unit-preserved-in-Some-row_with : goal.loop-unit-preserved-in-Some-row_with
loop-unit-preserved-in-Some-row_with g c =
    let k = g.C.Cell in
    let step = c.in-Some.ensures.steps in
    let found = c.in-Some-row_with.ensures in
    let moved = c.swap.ensures.by_index in
    elimination_adds k.zero k.sum k.laws c.args.rows.now (to_come c.into_iter-unit-iterator.result) (to_come c.loop-unit.unit-iterator) (to_come c.next.new.self)
    c.loop-unit.rows c.loop-unit.rank c.in-Some.unit c.loop-unit.invariant step.0 step.1
    c.in-Some-row_with.place found.0 found.1 found.2 c.swap.new.self c.clear.new.rows
    (record { at_a = moved.0 no_units; at_b = moved.1 no_units; others = λ j p q. moved.2 j no_units p q; wide = c.swap.ensures.len })
    c.clear.ensures

pub returns : goal.returns
returns g c =
    let k = g.C.Cell in
    let all : to_come c.into_iter-unit-iterator.result ≡ c.args.asked = ap to_come c.into_iter-unit-iterator.ensures.into_iter_gives ∙ c.iter-unit-items.ensures in
    subst (λ (s : SmallSet). Echelon k.zero k.sum c.args.rows.now s no_units c.loop-unit.rows c.loop-unit.rank) all
    (elimination_ends k.zero k.sum k.laws c.args.rows.now (to_come c.into_iter-unit-iterator.result) (to_come c.loop-unit.unit-iterator)
    c.loop-unit.rows c.loop-unit.rank c.in-None.ensures.steps.0 c.loop-unit.invariant)
