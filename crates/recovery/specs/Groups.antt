-- The units of a table and its groups.
use Rattle.std.specs.Prelude.{◌≡◌, ℕ, ◌+◌, Bool, ◌&&◌, ◌||◌, List, ◌==◌, nat_lt, slice_index_or}
use Rattle.sets.specs.declared.set.SmallSet.{SmallSet}
use Rattle.sets.specs.Members.{has}
use Rattle.table.specs.Contents.{Contents, has_point}

-- how many units the table has: n record units, numbered from 0, and v check units after them
abbrev pub units : Contents → ℕ
units t = t.n + t.v

-- unit u is in the group of point p: it is the check unit n + p, or a record unit whose block has p
unfoldable pub in_group : Contents → ℕ → ℕ → Bool
in_group t p u = nat_lt p t.v && (u == t.n + p || (nat_lt u t.n && has_point t u p))

-- the set with no unit
abbrev pub no_units : SmallSet
no_units = record { bits = 0 }

-- the set at place k, and the empty set past the end
abbrev pub at : List SmallSet → ℕ → SmallSet
at sets k = slice_index_or sets k no_units

-- the set at each place p is the group of point p
abbrev pub Grouped : Contents → List SmallSet → Type 0
Grouped t groups = (p u : ℕ) → has (at groups p) u ≡ in_group t p u

-- s is the set of the table's units
abbrev pub AllUnits : Contents → SmallSet → Type 0
AllUnits t s = (u : ℕ) → has s u ≡ nat_lt u (units t)
