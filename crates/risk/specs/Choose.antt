-- Binomial coefficients, by Pascal's triangle.
use Rattle.std.specs.Prelude.{ℕ, zero, suc, ◌+◌}

-- how many sets of k there are among n things
unfoldable pub choose : ℕ → ℕ → ℕ
choose n zero = 1
choose zero (suc k) = 0
choose (suc n) (suc k) = choose n (suc k) + choose n k
