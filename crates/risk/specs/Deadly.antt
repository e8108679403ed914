-- Sets of missing units that lose a record, and how many there are.
use Rattle.std.specs.Prelude.{◌≡◌, ℕ, ◌<◌, true, List, length}
use Rattle.sets.specs.declared.set.SmallSet.{SmallSet}
use Rattle.sets.specs.Members.{has}
use Rattle.sets.specs.Sums.{count}
use Rattle.table.specs.Contents.{Contents}
use Rattle.recovery.specs.Groups.{units, at}
use Rattle.recovery.specs.Answers.{but, HasLoss}

-- s is a set of m units
pub record UnitsOf (t : Contents) (m : ℕ) (s : SmallSet) : Type 0 where
  pub within : (i : ℕ) → has s i ≡ true → i < units t
  pub size : count (units t) (has s) ≡ m

-- some record is lost where the units of s are missing
abbrev pub Deadly : Contents → SmallSet → Type 0
Deadly t s = (d : ℕ) × (d < t.n) × HasLoss t (but s) d

-- m sets have the property P: they can be listed, each once
pub record HowMany (P : SmallSet → Type 0) (m : ℕ) : Type 0 where
  pub list : List SmallSet
  pub number : length list ≡ m
  pub each : (i : ℕ) → i < length list → P (at list i)
  pub all : (s : SmallSet) → P s → (i : ℕ) × (i < length list) × (at list i ≡ s)
  pub once : (i j : ℕ) → i < length list → j < length list → at list i ≡ at list j → i ≡ j
