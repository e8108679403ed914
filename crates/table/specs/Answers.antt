-- What the public calls answer.
use Rattle.std.specs.Prelude.{◌≡◌, ℕ, ◌<◌, ◌≤◌, List, length, take, Some, None, Ok, Err, Option, Result, slice_index}
use Rattle.sets.specs.declared.set.SmallSet.{SmallSet}
use Rattle.sets.specs.Members.{has}
use Rattle.table.specs.declared.fault.TableFault.{TableFault}
use Rattle.table.specs.declared.fault.Narrow.{Narrow}
use Rattle.table.specs.declared.table.Table.{Table}
use Rattle.table.specs.Contents.{Contents, Valid, has_point, bytes_of}
use Rattle.table.specs.Place.{contents_of}
use Rattle.table.specs.Reading.{fault}
use Rattle.table.specs.Refusals.{Told}
use Rattle.table.specs.Held.{contents}

-- ---- reading

-- the bytes are those of the table t: it says what they say and is valid, writing it gives them back, and no other table says the same
pub record Accepted (bs : List ℕ) (t : Table) : Type 0 where
  pub no_fault : fault bs ≡ None
  pub says : contents t ≡ contents_of bs
  pub valid : Valid (contents t)
  pub back : bytes_of (contents t) ≡ bs
  pub only : (u : Table) → contents u ≡ contents t → u ≡ t

-- the bytes are no table, by the fault f
pub record Refused (bs : List ℕ) (f : TableFault) : Type 0 where
  pub is : fault bs ≡ Some f
  pub told : Told bs f

abbrev pub Read : List ℕ → Result Table TableFault → Type 0
Read bs (Ok t) = Accepted bs t
Read bs (Err f) = Refused bs f

-- no other answer fits the bytes
abbrev pub OneAnswer : List ℕ → Result Table TableFault → Type 0
OneAnswer bs r = (s : Result Table TableFault) → Read bs s → s ≡ r

-- ---- writing, where the output held `old` before and holds `new` after

-- the first m bytes are the table's and read as that very table, and the others are as they were
pub record Written (t : Table) (old new : List ℕ) (m : ℕ) : Type 0 where
  pub all : m ≡ length (bytes_of (contents t))
  pub room : m ≤ length old
  pub front : take m new ≡ bytes_of (contents t)
  pub rest : (i : ℕ) → m ≤ i → slice_index new i ≡ slice_index old i
  pub length_so : length new ≡ length old
  pub again : (r : Result Table TableFault) → Read (take m new) r → r ≡ Ok t

-- the output is too short for the table, which it never is with 503 bytes, and as it was
pub record TooNarrow (t : Table) (old new : List ℕ) : Type 0 where
  pub short : length old < length (bytes_of (contents t))
  pub limit : length old < 503
  pub kept : new ≡ old

abbrev pub Wrote : Table → List ℕ → List ℕ → Result ℕ Narrow → Type 0
Wrote t old new (Ok m) = Written t old new m
Wrote t old new (Err e) = TooNarrow t old new

-- ---- blocks

-- b has the points of block d
abbrev pub PointsOf : Contents → ℕ → SmallSet → Type 0
PointsOf t d b = (p : ℕ) → has b p ≡ has_point t d p

-- the points of block d, if there is such a block
abbrev pub BlockOf : Contents → ℕ → Option SmallSet → Type 0
BlockOf t d None = t.n ≤ d
BlockOf t d (Some b) = (d < t.n) × PointsOf t d b
