use Rattle.std.proofs.Common.{◌≡◌}
use Rattle.risk.specs.Choose.{choose}
use Rattle.risk.proofs.choose.Given as goal

abbrev pub invariant-loop-chosen : goal.invariant-loop-chosen
invariant-loop-chosen l = l.sets ≡ choose l.units l.chosen
