-- Going through a set in ascending order.
use Rattle.std.specs.Prelude.{◌≡◌, ℕ, ◌<◌, true, false, not, ◌&&◌, Some, None, Option, ◌==◌}
use Rattle.sets.specs.declared.set.SmallSet.{SmallSet}
use Rattle.sets.specs.declared.members.Members.{Members}
use Rattle.sets.specs.Members.{has}

-- i is the least member of s
pub record Least (s : SmallSet) (i : ℕ) : Type 0 where
  pub small : i < 64
  pub member : has s i ≡ true
  pub first : (j : ℕ) → j < i → has s j ≡ false

-- s has no member
abbrev pub Empty : SmallSet → Type 0
Empty s = (i : ℕ) → has s i ≡ false

-- t is s without i
abbrev pub Without : SmallSet → ℕ → SmallSet → Type 0
Without s i t = (j : ℕ) → has t j ≡ (has s j && not (j == i))

-- one step: the least member comes and leaves the rest, or none is there
abbrev pub Step : SmallSet → Option ℕ → SmallSet → Type 0
Step s None t = Empty s × (t ≡ s)
Step s (Some i) t = Least s i × Without s i t

-- the members that an iterator over a set has still to give
abbrev pub to_come : Members → SmallSet
to_come m = m.rest
