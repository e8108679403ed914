-- The parity of what two sets have in common: the inner product of their words over GF(2).
use Rattle.std.specs.Prelude.{Bool, ◌&&◌}
use Rattle.sets.specs.declared.set.SmallSet.{SmallSet}
use Rattle.sets.specs.Members.{has, odd}
use Rattle.sets.specs.Sums.{count}

-- a and b have an odd number of members in common
abbrev pub oddly : SmallSet → SmallSet → Bool
oddly a b = odd (count 64 (λ i. has a i && has b i))
