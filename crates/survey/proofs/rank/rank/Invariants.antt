use Rattle.std.proofs.Common.{◌≤◌, ◌+◌, length}
use Rattle.survey.proofs.rank.rank.Given as goal

-- each vector that was passed adds at most one
abbrev pub invariant-loop-row : goal.invariant-loop-row
invariant-loop-row l = l.rank + length l.left ≤ length l.initial.left

abbrev pub decreases-loop-row : goal.decreases-loop-row
decreases-loop-row l = length l.left
