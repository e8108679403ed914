-- Books: what records there are, and so what every unit holds.
use Rattle.std.specs.Prelude.{◌≡◌, ℕ, ◌-◌, ◌<◌, Bool, true, cond, nat_lt}
use Rattle.sets.specs.Sums.{total}
use Rattle.table.specs.Contents.{Contents, has_point}
use Rattle.recovery.specs.Groups.{units}

-- a cell for every record, that is, for every record unit and row
abbrev pub Book : Type 0 → Type 0
Book C = ℕ → ℕ → C

-- what unit u holds in a row where record unit d has the cell x d: a record unit that cell, a check unit the sum of the
-- cells of the record units whose blocks have its point
unfoldable pub holds : {C : Type 0} → C → (C → C → C) → Contents → (ℕ → C) → ℕ → C
holds o plus t x u = cond (nat_lt u t.n) (x u) (total o plus t.n (λ d. has_point t d (u - t.n)) x)

-- what unit u holds in row r by the book b
abbrev pub held : {C : Type 0} → C → (C → C → C) → Contents → Book C → ℕ → ℕ → C
held o plus t b u r = holds o plus t (λ d. b d r) u

-- the book matches the units of the set s in row r: their cells are what they hold by the book
abbrev pub MatchesRow : {C : Type 0} → C → (C → C → C) → Contents → (ℕ → Bool) → (ℕ → ℕ → C) → ℕ → Book C → Type 0
MatchesRow o plus t s cells r b = (u : ℕ) → u < units t → s u ≡ true → cells u r ≡ held o plus t b u r

-- the book matches them in each of the first so many rows
abbrev pub Matches : {C : Type 0} → C → (C → C → C) → Contents → (ℕ → Bool) → (ℕ → ℕ → C) → ℕ → Book C → Type 0
Matches o plus t s cells rows b = (r : ℕ) → r < rows → MatchesRow o plus t s cells r b

-- by the books a and b the units of the set s hold the same in row r
abbrev pub Alike : {C : Type 0} → C → (C → C → C) → Contents → (ℕ → Bool) → ℕ → Book C → Book C → Type 0
Alike o plus t s r a b = (u : ℕ) → u < units t → s u ≡ true → held o plus t a u r ≡ held o plus t b u r
