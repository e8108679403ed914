use Rattle.std.proofs.Common.{◌≡◌, ℕ, true, false}
use Rattle.sets.specs.Members.{has}
use Rattle.sets.specs.Steps.{to_come}
use Rattle.sets.proofs.set.SmallSet.filter.Given as goal

-- the members that came were kept as they passed the test; no other number is kept
abbrev pub invariant-loop-number : goal.invariant-loop-number
invariant-loop-number g l = record {
  callable : goal.F-IsAlwaysCallable g l.test;
  asked : (i : ℕ) → has (to_come l.initial.number-iterator) i ≡ true → has (to_come l.number-iterator) i ≡ false → goal.F-post g l.test i (has l.kept i);
  ahead : (i : ℕ) → has (to_come l.number-iterator) i ≡ true → has l.kept i ≡ false;
  within : (i : ℕ) → has (to_come l.initial.number-iterator) i ≡ false → (has l.kept i ≡ false) × (has (to_come l.number-iterator) i ≡ false);
}
