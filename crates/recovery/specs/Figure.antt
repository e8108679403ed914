-- The figure that a rack is sold by: the block size k.
use Rattle.std.specs.Prelude.{◌≡◌, ℕ, ◌+◌, ◌<◌, ◌≤◌, Bool, true, false, not}
use Rattle.sets.specs.Sums.{count}
use Rattle.table.specs.Contents.{Contents, has_point}
use Rattle.recovery.specs.Groups.{units}
use Rattle.recovery.specs.Recipes.{LossSetFor}
use Rattle.recovery.specs.Answers.{HasLoss}

-- how many units of the table are missing
abbrev pub missing_count : Contents → (ℕ → Bool) → ℕ
missing_count t good = count (units t) (λ u. not (good u))

-- k is how many units may be missing, whichever they are; with one more a record can be lost
pub record Figure (t : Contents) : Type 0 where
  -- while no more units are missing than a block has points, no unit has a loss set
  pub enough : (good : ℕ → Bool) → missing_count t good ≤ t.k → (u : ℕ) (l : ℕ → Bool) → LossSetFor t good u l → ⊥
  -- a record unit that is missing with all its check units is lost, whatever else is missing
  pub no_more : (good : ℕ → Bool) (d : ℕ) → d < t.n → good d ≡ false → ((p : ℕ) → has_point t d p ≡ true → good (t.n + p) ≡ false) → HasLoss t good d
