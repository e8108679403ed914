-- What each refusal says of the bytes.
use Rattle.std.specs.Prelude.{◌≡◌, ℕ, ◌+◌, ◌<◌, ◌≤◌, true, false, ◌⊎◌, List, length}
use Rattle.table.specs.declared.fault.TableFault.{TableFault}
use Rattle.table.specs.declared.fault.TableFault.TheVariants.{Short, Size, Point, Tail, Pair, Cover}
use Rattle.table.specs.Contents.{Contents, shared, Joined}
use Rattle.table.specs.Place.{many, full, fits, contents_of}

-- the first i bytes are there and are what they must be
pub record Passed (bs : List ℕ) (i : ℕ) : Type 0 where
  pub there : i ≤ length bs
  pub fitting : (j : ℕ) → j < i → fits bs j ≡ true

-- byte i is there, and is the first that is not what it must be
pub record Wrong (bs : List ℕ) (i : ℕ) : Type 0 where
  pub there : i < length bs
  pub wrong : fits bs i ≡ false
  pub before : (j : ℕ) → j < i → fits bs j ≡ true

-- the bytes are those of a table, but for what its blocks share and cover
pub record Whole (bs : List ℕ) : Type 0 where
  pub length_so : length bs ≡ full bs
  pub passed : (j : ℕ) → j < length bs → fits bs j ≡ true

-- no two of the first m blocks share two points
abbrev pub Apart : Contents → ℕ → Type 0
Apart t m = (d e : ℕ) → d < m → e < d → shared t d e ≤ 1

-- d is the lowest block that shares two points with an earlier one
pub record Clashing (t : Contents) (d : ℕ) : Type 0 where
  pub block : d < t.n
  pub twice : (e : ℕ) × (e < d) × (2 ≤ shared t d e)
  pub before : Apart t d

-- p is the lower point of the first two that lie in no block together, by lower point, then higher
pub record Uncovered (t : Contents) (p : ℕ) : Type 0 where
  pub grade_so : t.grade ≡ 2
  pub loose : (q : ℕ) × (p < q) × (q < t.v) × (Joined t p q → ⊥)
  pub before : (a b : ℕ) → a < p → a < b → b < t.v → Joined t a b

-- the refusal f is what is wrong with the bytes
abbrev pub Told : List ℕ → TableFault → Type 0
Told bs (Short i) = (i ≡ length bs) × (i < full bs) × Passed bs i
Told bs (Size i) = Wrong bs i × ((i < 5) ⊎ (5 + many bs ≤ i)) × (i < full bs)
Told bs (Point i) = Wrong bs i × (5 ≤ i) × (i < 5 + many bs)
Told bs (Tail i) = Wrong bs i × (i ≡ full bs)
Told bs (Pair d) = Whole bs × Clashing (contents_of bs) d
Told bs (Cover p) = Whole bs × Apart (contents_of bs) (contents_of bs).n × Uncovered (contents_of bs) p
