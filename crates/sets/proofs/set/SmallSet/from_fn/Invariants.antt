use Rattle.std.proofs.Common.{◌≡◌, ℕ, ◌<◌, ◌≤◌, false}
use Rattle.sets.specs.Members.{has}
use Rattle.sets.proofs.set.SmallSet.from_fn.Given as goal

-- the numbers below `number` are members as they passed the test, and the others are none
abbrev pub invariant-loop-number : goal.invariant-loop-number
invariant-loop-number g l = record {
  callable : goal.F-IsAlwaysCallable g l.test;
  asked : (i : ℕ) → i < l.number → goal.F-post g l.test i (has l.set i);
  ahead : (i : ℕ) → l.number ≤ i → has l.set i ≡ false;
}
