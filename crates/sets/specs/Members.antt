-- What the members of a set are.
use Rattle.std.specs.Prelude.{ℕ, ◌/◌, ◌%◌, ◌^◌, Bool, ◌==◌, nat_eq}
use Rattle.std.specs.Ordering.{on}
use Rattle.sets.specs.declared.set.SmallSet.{SmallSet}

-- n is odd
unfoldable pub odd : ℕ → Bool
odd n = n % 2 == 1

-- the binary digit i of the number n is 1
unfoldable pub digit : ℕ → ℕ → Bool
digit n i = odd (n / 2 ^ i)

-- the number i is a member of the set s
abbrev pub has : SmallSet → ℕ → Bool
has s i = digit s.bits i

-- s and t have the same word; the contract of `==` says that this is so exactly if they have the same members
abbrev pub same_word : SmallSet → SmallSet → Bool
same_word = on (λ s. s.bits) nat_eq
