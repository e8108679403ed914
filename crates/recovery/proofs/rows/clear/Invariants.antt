use Rattle.recovery.proofs.Elimination.{Clearing}
use Rattle.recovery.proofs.rows.clear.Given as goal

abbrev pub invariant-loop-other : goal.invariant-loop-other
invariant-loop-other l = Clearing l.row l.unit l.other-index l.initial.other-items l.other-items
