-- What a byte of a table stands for.
use Rattle.std.specs.Prelude.{◌≡◌, ℕ, ◌+◌, ◌*◌, ◌<◌}
use Rattle.planner.specs.declared.place.Field.{Field}
use Rattle.planner.specs.declared.place.Field.TheVariants.{SizesCount, CheckUnits, RecordUnits, BlockSize, BlocksCount, Point, GradeCount, Grade}
use Rattle.planner.specs.declared.reading.Sizes.{Sizes}

-- byte i of a table of the sizes s is this field
abbrev pub Stands : Sizes → ℕ → Field → Type 0
Stands s i SizesCount = i ≡ 0
Stands s i CheckUnits = i ≡ 1
Stands s i RecordUnits = i ≡ 2
Stands s i BlockSize = i ≡ 3
Stands s i BlocksCount = i ≡ 4
Stands s i (Point block index) = (block < s.n) × (index < s.k) × (i ≡ 5 + (block * s.k + index))
Stands s i GradeCount = i ≡ 5 + s.n * s.k
Stands s i Grade = 5 + s.n * s.k < i
