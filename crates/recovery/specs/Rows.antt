-- Elimination over sets of units, the rows of a matrix over GF(2). Nobody above the solver needs these.
use Rattle.std.specs.Prelude.{◌≡◌, ℕ, ◌<◌, ◌≤◌, true, false, ◌&&◌, ◌⊎◌, List, length, Option, MatchOption}
use Rattle.std.specs.Bool.{xor}
use Rattle.sets.specs.declared.set.SmallSet.{SmallSet}
use Rattle.sets.specs.Members.{has}
use Rattle.sets.specs.Parity.{oddly}
use Rattle.sets.specs.Sums.{total}
use Rattle.recovery.specs.Groups.{at}

-- of the rows from place `from` on, r is the place of one that has the unit u, if there is one
abbrev pub RowWith : List SmallSet → ℕ → ℕ → Option ℕ → Type 0
RowWith rows from u r = MatchOption r ((k : ℕ) → from ≤ k → has (at rows k) u ≡ false) (λ k. (from ≤ k) × (k < length rows) × (has (at rows k) u ≡ true))

-- the row at place i, the pivot, was added to each row after it that has the unit u
pub record Cleared (i u : ℕ) (before rows : List SmallSet) : Type 0 where
  pub kept : (k : ℕ) → k ≤ i → at rows k ≡ at before k
  pub added : (k : ℕ) → i < k → (j : ℕ) → has (at rows k) j ≡ xor (has (at before k) j) (has (at before k) u && has (at before i) j)
  pub wide : length rows ≡ length before

-- the cells f of the units below m sum to zero over each row
abbrev pub Code : {C : Type 0} → C → (C → C → C) → ℕ → (ℕ → C) → List SmallSet → Type 0
Code o plus m f rows = (k : ℕ) → total o plus m (has (at rows k)) f ≡ o

-- u is the least unit of the row that is among the units asked for
pub record Leads (asked row : SmallSet) (u : ℕ) : Type 0 where
  pub among : has asked u ≡ true
  pub in_row : has row u ≡ true
  pub first : (j : ℕ) → j < u → has asked j ≡ true → has row j ≡ false

-- The first `rank` rows, the pivots, have a leading unit each, which no row after it has.
pub record Pivots (asked : SmallSet) (rows : List SmallSet) (rank : ℕ) : Type 0 where
  pub ranked : rank ≤ length rows
  pub leads : (k : ℕ) → k < rank → (u : ℕ) × Leads asked (at rows k) u
  pub upper : (i k u : ℕ) → i < k → i < rank → Leads asked (at rows i) u → has (at rows k) u ≡ false

-- The rows are made from those before, and are in echelon form for the units asked for, but for those that are left.
pub record Echelon {C : Type 0} (o : C) (plus : C → C → C) (before : List SmallSet) (asked left : SmallSet) (rows : List SmallSet) (rank : ℕ) : Type 0 where
  -- the same cells sum to zero over all rows as before
  pub code_to : (m : ℕ) (f : ℕ → C) → Code o plus m f before → Code o plus m f rows
  pub code_from : (m : ℕ) (f : ℕ → C) → Code o plus m f rows → Code o plus m f before
  -- a unit that no row had, none has
  pub no_more : (u : ℕ) → ((k : ℕ) → has (at before k) u ≡ false) → (k : ℕ) → has (at rows k) u ≡ false
  pub wide : length rows ≡ length before
  pub pivots : Pivots asked rows rank
  pub of_asked : (u : ℕ) → has left u ≡ true → has asked u ≡ true
  -- the rows after the pivots have none of the units asked for, but for those that are left
  pub clean : (k u : ℕ) → rank ≤ k → has asked u ≡ true → has left u ≡ false → has (at rows k) u ≡ false

-- s has the unit and leading units of the pivots from place i on, and an even number of units of each of these pivots
pub record Balanced (asked : SmallSet) (rows : List SmallSet) (rank unit i : ℕ) (s : SmallSet) : Type 0 where
  pub has_unit : has s unit ≡ true
  pub leading : (u : ℕ) → has s u ≡ true → (u ≡ unit) ⊎ ((k : ℕ) × (i ≤ k) × (k < rank) × Leads asked (at rows k) u)
  pub even : (k : ℕ) → i ≤ k → k < rank → oddly s (at rows k) ≡ false
