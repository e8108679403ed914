-- What the risk of a table says.
use Rattle.std.specs.Prelude.{◌≡◌, ℕ, ◌+◌, ◌<◌, ◌≤◌, Some, None, Option}
use Rattle.table.specs.Contents.{Contents}
use Rattle.recovery.specs.Groups.{units}
use Rattle.risk.specs.declared.Risk.{Risk}
use Rattle.risk.specs.Choose.{choose}
use Rattle.risk.specs.Deadly.{UnitsOf, Deadly, HowMany}

-- the most sets that are tried
abbrev pub limit : ℕ
limit = 10000000

-- m of the sets of k + 1 units lose a record, or there are too many sets to try
abbrev pub Counted : Contents → ℕ → Option ℕ → Type 0
Counted t sets None = limit < sets
Counted t sets (Some m) = (sets ≤ limit) × HowMany (λ s. UnitsOf t (t.k + 1) s × Deadly t s) m

-- r is the risk of the table t
pub record RiskOf (t : Contents) (r : Risk) : Type 0 where
  pub size : r.size ≡ t.k + 1
  pub sets : r.sets ≡ choose (units t) (t.k + 1)
  pub deadly : Counted t r.sets r.deadly
