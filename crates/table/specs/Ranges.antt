-- Tests over the numbers below a bound. Assumes nothing.
use Rattle.std.specs.Prelude.{◌≡◌, ℕ, zero, suc, ◌<◌, Bool, true, false, cond, ◌&&◌, ◌||◌, Some, None, Option}

-- every number below n passes
unfoldable pub every : (ℕ → Bool) → ℕ → Bool
every test zero = true
every test (suc n) = every test n && test n

-- some number below n passes
unfoldable pub some : (ℕ → Bool) → ℕ → Bool
some test zero = false
some test (suc n) = some test n || test n

-- the first number below n that fails, or n if none does
unfoldable pub first : (ℕ → Bool) → ℕ → ℕ
first test zero = 0
first test (suc n) = cond (every test n) (cond (test n) (suc n) n) (first test n)

-- r is the first number below n that fails, if one does
abbrev pub FirstFailing : (ℕ → Bool) → ℕ → Option ℕ → Type 0
FirstFailing test n None = first test n ≡ n
FirstFailing test n (Some i) = (first test n ≡ i) × (i < n)
