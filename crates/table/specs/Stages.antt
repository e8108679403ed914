-- What the reader knows after each part of the bytes.
use Rattle.std.specs.Prelude.{◌≡◌, ℕ, ◌+◌, ◌*◌, ◌<◌, ◌≤◌, false, cond, List, length, Some, nat_lt, slice_index}
use Rattle.std.specs.Range.{range_inclusive_start, range_inclusive_end, range_inclusive_exhausted}
use Rattle.std.specs.declared.ops.RangeInclusive.{RangeInclusive}
use Rattle.table.specs.declared.fault.TableFault.{TableFault}
use Rattle.table.specs.declared.grade.Grade.{Grade}
use Rattle.table.specs.declared.table.Sizes.{Sizes}
use Rattle.table.specs.declared.table.Reader.{Reader}
use Rattle.table.specs.declared.table.Draft.{Draft}
use Rattle.table.specs.Numbers.{grade_number}
use Rattle.table.specs.Place.{byte, lowest, highest, full, contents_of}
use Rattle.table.specs.Reading.{misfit, fault}
use Rattle.table.specs.Refusals.{Passed}
use Rattle.table.specs.Held.{draft_contents}

-- the bytes are no table, by the fault f
abbrev pub Refuses : List ℕ → TableFault → Type 0
Refuses bs f = fault bs ≡ Some f

-- what is asked of the next byte, and the fault if it is not so
pub record Asked (r : Reader) (values : RangeInclusive ℕ) (wrong : TableFault) : Type 0 where
  pub low_is : lowest r.bytes.now r.at ≡ range_inclusive_start values
  pub high_is : highest r.bytes.now r.at ≡ range_inclusive_end values
  pub unspent : range_inclusive_exhausted values ≡ false
  pub inside : r.at < full r.bytes.now
  pub wrong_is : misfit r.bytes.now r.at ≡ wrong

-- the next byte is b
pub record Next (r : Reader) (b : ℕ) : Type 0 where
  pub there : r.at < length r.bytes.now
  pub is : b ≡ byte r.bytes.now r.at

-- the reader has gone on by m bytes, from r to s
pub record On (r s : Reader) (m : ℕ) : Type 0 where
  pub same : s.bytes.now ≡ r.bytes.now
  pub place : s.at ≡ r.at + m

-- the byte b was taken, which is one of the values
pub record Got (r s : Reader) (values : RangeInclusive ℕ) (b : ℕ) : Type 0 where
  pub is : b ≡ byte r.bytes.now r.at
  pub low_so : range_inclusive_start values ≤ b
  pub high_so : b ≤ range_inclusive_end values
  pub on : On r s 1

-- z is what the bytes have as sizes
pub record SizesOf (bs : List ℕ) (z : Sizes) : Type 0 where
  pub v_is : z.v ≡ byte bs 1
  pub n_is : z.n ≡ byte bs 2
  pub k_is : z.k ≡ byte bs 3

-- the sizes z were taken
abbrev pub Sized : Reader → Reader → Sizes → Type 0
Sized r s z = SizesOf r.bytes.now z × On r s 5

-- the next byte is the first of a block of k points, which are below v
pub record BlockNext (r : Reader) (k v : ℕ) : Type 0 where
  pub v_is : v ≡ byte r.bytes.now 1
  pub k_is : k ≡ byte r.bytes.now 3
  pub place : (d : ℕ) × (d < byte r.bytes.now 2) × (r.at ≡ 5 + d * byte r.bytes.now 3)

-- the points ps were taken
pub record BlockRead (r s : Reader) (ps : List ℕ) : Type 0 where
  pub are : (i : ℕ) → i < length ps → slice_index ps i ≡ byte r.bytes.now (r.at + i)
  pub on : On r s (length ps)

-- ps has the first m points of the bytes, and 0 from there on
abbrev pub Filled : List ℕ → ℕ → List ℕ → Type 0
Filled bs m ps = (i : ℕ) → slice_index ps i ≡ cond (nat_lt i m) (byte bs (5 + i)) 0

-- the m points ps were taken
pub record PointsRead (r s : Reader) (m : ℕ) (ps : List ℕ) : Type 0 where
  pub filled : Filled r.bytes.now m ps
  pub room : length ps ≡ 496
  pub on : On r s m

-- the grade was taken
abbrev pub Graded : Reader → Reader → Grade → Type 0
Graded r s g = (grade_number g ≡ byte r.bytes.now (r.at + 1)) × On r s 2

-- the bytes spell the draft t, and nothing more
pub record Spelt (bs : List ℕ) (t : Draft) : Type 0 where
  pub says : draft_contents t ≡ contents_of bs
  pub passed : Passed bs (length bs)
  pub whole : full bs ≡ length bs
