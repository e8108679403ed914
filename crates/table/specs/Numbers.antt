-- The number, the place and the text of each refusal, and the number of each grade.
use Rattle.std.specs.Prelude.{◌≡◌, ℕ, List, ◌++◌, ◌≢◌, Ok, Err, Result, codes}
use Rattle.std.specs.Fmt.{decimal}
use Rattle.table.specs.declared.fault.TableFault.{TableFault}
use Rattle.table.specs.declared.fault.TableFault.TheVariants.{Short, Size, Point, Tail, Pair, Cover}
use Rattle.table.specs.declared.grade.Grade.{Grade}
use Rattle.table.specs.declared.grade.Grade.TheVariants.{Packing, Steiner}
use Rattle.table.specs.declared.grade.NoGrade.{NoGrade}

abbrev pub number_of : TableFault → ℕ
number_of (Short i) = 1
number_of (Size i) = 2
number_of (Point i) = 3
number_of (Tail i) = 4
number_of (Pair d) = 5
number_of (Cover p) = 6

abbrev pub place_of : TableFault → ℕ
place_of (Short i) = i
place_of (Size i) = i
place_of (Point i) = i
place_of (Tail i) = i
place_of (Pair d) = d
place_of (Cover p) = p

-- the number of the refusal NARROW
abbrev pub narrow_number : ℕ
narrow_number = 21

abbrev pub name_of : TableFault → List ℕ
name_of (Short i) = codes "SHORT"
name_of (Size i) = codes "SIZE"
name_of (Point i) = codes "POINT"
name_of (Tail i) = codes "TAIL"
name_of (Pair d) = codes "PAIR"
name_of (Cover p) = codes "COVER"

-- a refusal as it is printed, as in `SHORT, number 1, place 12`
abbrev pub fault_text : TableFault → List ℕ
fault_text f = name_of f ++ codes ", number " ++ decimal (number_of f) ++ codes ", place " ++ decimal (place_of f)

-- the refusal NARROW as it is printed
abbrev pub narrow_text : List ℕ
narrow_text = codes "NARROW, number " ++ decimal narrow_number

abbrev pub grade_number : Grade → ℕ
grade_number Packing = 1
grade_number Steiner = 2

-- the grade that has the number, or none where no grade has it
abbrev pub Grades : ℕ → Result Grade NoGrade → Type 0
Grades number (Ok grade) = grade_number grade ≡ number
Grades number (Err e) = (grade : Grade) → grade_number grade ≢ number
