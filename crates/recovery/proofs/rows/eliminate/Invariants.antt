use Rattle.sets.specs.Steps.{to_come}
use Rattle.recovery.specs.Rows.{Echelon}
use Rattle.recovery.proofs.rows.eliminate.Given as goal

abbrev pub invariant-loop-unit : goal.invariant-loop-unit
invariant-loop-unit g l =
    let k = g.C.Cell in
    Echelon k.zero k.sum l.initial.rows (to_come l.initial.unit-iterator) (to_come l.unit-iterator) l.rows l.rank
