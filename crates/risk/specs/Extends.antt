-- The sets that are tried, where the highest units are chosen first. Nobody above `Risk::of` needs these.
use Rattle.std.specs.Prelude.{◌≡◌, ℕ, ◌<◌, ◌≤◌, false}
use Rattle.sets.specs.declared.set.SmallSet.{SmallSet}
use Rattle.sets.specs.Members.{has}
use Rattle.sets.specs.Sums.{count}
use Rattle.table.specs.Contents.{Contents}
use Rattle.risk.specs.Deadly.{Deadly, HowMany}

-- m has no member below b
abbrev pub ClearBelow : ℕ → SmallSet → Type 0
ClearBelow b m = (i : ℕ) → i < b → has m i ≡ false

-- s has k numbers below b, and from b on the members of m
pub record Extends (m : SmallSet) (b k : ℕ) (s : SmallSet) : Type 0 where
  pub above : (i : ℕ) → b ≤ i → has s i ≡ has m i
  pub chosen : count b (has s) ≡ k

-- n of these sets lose a record
abbrev pub Found : Contents → SmallSet → ℕ → ℕ → ℕ → Type 0
Found t m b k n = HowMany (λ s. Extends m b k s × Deadly t s) n
