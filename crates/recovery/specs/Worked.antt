-- Worked cases: three small tables, and what some missing units do to them.
use Rattle.std.specs.Prelude.{◌≡◌, ℕ, ◌<◌, ◌≤◌, Bool, true, false, not, ◌&&◌, ◌||◌, ◌⊎◌, List, [], ◌∷◌, None, ◌==◌}
use Rattle.sets.specs.Sums.{count}
use Rattle.table.specs.Contents.{Contents}
use Rattle.table.specs.Place.{contents_of}
use Rattle.table.specs.Reading.{fault}
use Rattle.table.specs.Worked.{WorkedTables}
use Rattle.recovery.specs.Groups.{units, in_group}
use Rattle.recovery.specs.Recipes.{RecipeFor, LossSetFor}
use Rattle.recovery.specs.Answers.{HasRecipe}

-- table F: v 7, n 7, k 3, grade 2, block i = {i, i + 1, i + 3} mod 7 (the projective plane of order 2)
abbrev pub bytes_f : List ℕ
bytes_f =
    3 ∷ 7 ∷ 7 ∷ 3 ∷ 7
    ∷ 0 ∷ 1 ∷ 3 ∷ 1 ∷ 2 ∷ 4 ∷ 2 ∷ 3 ∷ 5 ∷ 3 ∷ 4 ∷ 6 ∷ 0 ∷ 4 ∷ 5 ∷ 1 ∷ 5 ∷ 6 ∷ 0 ∷ 2 ∷ 6
    ∷ 1 ∷ 2 ∷ []

-- table A: v 9, n 12, k 3, grade 2 (the affine plane of order 3)
abbrev pub bytes_a : List ℕ
bytes_a =
    3 ∷ 9 ∷ 12 ∷ 3 ∷ 12
    ∷ 0 ∷ 1 ∷ 2 ∷ 3 ∷ 4 ∷ 5 ∷ 6 ∷ 7 ∷ 8 ∷ 0 ∷ 3 ∷ 6 ∷ 1 ∷ 4 ∷ 7 ∷ 2 ∷ 5 ∷ 8
    ∷ 0 ∷ 4 ∷ 8 ∷ 1 ∷ 5 ∷ 6 ∷ 2 ∷ 3 ∷ 7 ∷ 0 ∷ 5 ∷ 7 ∷ 1 ∷ 3 ∷ 8 ∷ 2 ∷ 4 ∷ 6
    ∷ 1 ∷ 2 ∷ []

abbrev pub table_f : Contents
table_f = contents_of bytes_f

abbrev pub table_a : Contents
table_a = contents_of bytes_a

-- i is one of the numbers
abbrev pub one_of : List ℕ → ℕ → Bool
one_of [] i = false
one_of (x ∷ xs) i = i == x || one_of xs i

-- the good units, where the numbers are those of the missing units
abbrev pub all_but : List ℕ → ℕ → Bool
all_but xs i = not (one_of xs i)

abbrev pub missing_f : List ℕ
missing_f = 1 ∷ 2 ∷ 3 ∷ 5 ∷ []

abbrev pub missing_a : List ℕ
missing_a = 1 ∷ 2 ∷ 4 ∷ 5 ∷ 6 ∷ 7 ∷ 9 ∷ 10 ∷ 11 ∷ []

pub record WorkedCases {C : Type 0} (o : C) (plus : C → C → C) : Type 0 where
  -- reading table D, and what becomes of it when bytes change
  pub tables : WorkedTables
  pub f_accepted : fault bytes_f ≡ None
  pub a_accepted : fault bytes_a ≡ None
  -- F without four record units, all check units being good: record unit 1 is lost, by the four themselves
  pub f_loss : LossSetFor table_f (all_but missing_f) 1 (one_of missing_f)
  pub f_lost : (s : ℕ → Bool) → RecipeFor o plus table_f (all_but missing_f) 1 s → ⊥
  -- A without nine record units, of which every group has at least two: every record unit is good or has a recipe
  pub a_twice : (p : ℕ) → p < 9 → 2 ≤ count (units table_a) (λ i. one_of missing_a i && in_group table_a p i)
  pub a_read : (d : ℕ) → d < 12 → (all_but missing_a d ≡ true) ⊎ HasRecipe o plus table_a (all_but missing_a) d
