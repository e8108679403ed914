use Rattle.std.proofs.Common.{◌*◌}
use Rattle.table.specs.Stages.{PointsRead}
use Rattle.table.proofs.table.Reader.points.Given as goal

abbrev pub invariant-loop-d : goal.invariant-loop-d
invariant-loop-d l = PointsRead l.fn.self l.self (l.d * l.k) l.points
