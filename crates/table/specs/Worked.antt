-- Worked cases of reading: the small table D, and what becomes of it when bytes change.
use Rattle.std.specs.Prelude.{◌≡◌, ℕ, List, [], ◌∷◌, ◌++◌, take, Some, None, slice_set}
use Rattle.table.specs.declared.fault.TableFault.TheVariants.{Short, Point, Tail, Pair, Cover}
use Rattle.table.specs.Contents.{load}
use Rattle.table.specs.Place.{contents_of}
use Rattle.table.specs.Reading.{fault}

-- table D: v 3, n 3, k 2, grade 2, blocks 01 02 12
abbrev pub D : List ℕ
D = 3 ∷ 3 ∷ 3 ∷ 2 ∷ 3 ∷ 0 ∷ 1 ∷ 0 ∷ 2 ∷ 1 ∷ 2 ∷ 1 ∷ 2 ∷ []

pub record WorkedTables : Type 0 where
  pub accepted : fault D ≡ None
  pub loaded : load (contents_of D) ≡ 2
  -- without its last byte
  pub short : fault (take 12 D) ≡ Some (Short 12)
  -- with a byte 0 more
  pub tail : fault (D ++ 0 ∷ []) ≡ Some (Tail 13)
  -- with byte 10 set to 1, or to 3
  pub repeated : fault (slice_set D 10 1) ≡ Some (Point 10)
  pub beyond : fault (slice_set D 10 3) ≡ Some (Point 10)
  -- with bytes 9 and 10 set to 0, 1
  pub pair : fault (slice_set (slice_set D 9 0) 10 1) ≡ Some (Pair 2)
  -- with v = 4, and with v = 4 and grade 1
  pub cover : fault (slice_set D 1 4) ≡ Some (Cover 0)
  pub packing : fault (slice_set (slice_set D 1 4) 12 1) ≡ None
