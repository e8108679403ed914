use Rattle.std.proofs.Common.{length}
use Rattle.recovery.specs.Rows.{Balanced}
use Rattle.recovery.proofs.Balancing.{Left}
use Rattle.recovery.proofs.rows.balance.Given as goal

abbrev pub invariant-loop-pivot : goal.invariant-loop-pivot
invariant-loop-pivot l = record {
  left : Left l.pivots l.pivot-iterator.iter.rest.now;
  balanced : Balanced l.asked l.pivots (length l.pivots) l.unit (length l.pivot-iterator.iter.rest.now) l.set;
}
