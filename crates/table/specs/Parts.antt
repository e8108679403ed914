-- The contents of a table from the fields that the program holds, and what its ghost fields say of the points.
use Rattle.std.specs.Prelude.{◌≡◌, ℕ, suc, ◌%◌, ◌<◌, ◌≤◌, List, ◌≢◌, slice_index}
use Rattle.table.specs.declared.grade.Grade.{Grade}
use Rattle.table.specs.Numbers.{grade_number}
use Rattle.table.specs.Contents.{Contents}

abbrev pub from_parts : ℕ → ℕ → ℕ → Grade → List ℕ → Contents
from_parts v n k g ps = record { v = v; n = n; k = k; grade = grade_number g; point = λ i. slice_index ps i }

-- every point is below v
abbrev pub High : ℕ → List ℕ → Type 0
High v ps = (i : ℕ) → slice_index ps i < v

-- of the first m points, those of a block ascend
abbrev pub Ascends : ℕ → ℕ → List ℕ → Type 0
Ascends m k ps = (i : ℕ) → (suc i < m) × (suc i % k ≢ 0) → slice_index ps i < slice_index ps (suc i)

-- from m on there is 0
abbrev pub Blank : ℕ → List ℕ → Type 0
Blank m ps = (i : ℕ) → m ≤ i → slice_index ps i ≡ 0
