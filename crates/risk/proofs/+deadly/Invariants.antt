use Rattle.std.proofs.Common.{◌≤◌}
use Rattle.recovery.specs.Layouts.{laid_out}
use Rattle.risk.specs.Choose.{choose}
use Rattle.risk.specs.Extends.{Found}
use Rattle.risk.proofs.+deadly.Given as goal

abbrev pub decreases-deadly : goal.decreases-deadly
decreases-deadly l = l.more

abbrev pub invariant-loop-highest : goal.invariant-loop-highest
invariant-loop-highest l = Found (laid_out l.layout) l.missing l.highest l.more l.sum × (l.sum ≤ choose l.highest l.more)
