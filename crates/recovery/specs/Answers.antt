-- What the public calls answer.
use Rattle.std.specs.Prelude.{◌≡◌, ℕ, ◌<◌, ◌≤◌, Bool, true, false, not, Some, None, Option, Ok, Err, Result}
use Rattle.sets.specs.declared.set.SmallSet.{SmallSet}
use Rattle.sets.specs.Members.{has}
use Rattle.table.specs.Contents.{Contents}
use Rattle.recovery.specs.declared.unreadable.Unreadable.{Unreadable}
use Rattle.recovery.specs.declared.unreadable.Unreadable.TheVariants as why
use Rattle.recovery.specs.Groups.{units, in_group}
use Rattle.recovery.specs.Recipes.{RecipeFor, LossSetFor, Determined, Hidden}

-- what is good where the set m is missing: every unit that is not in it
abbrev pub but : SmallSet → ℕ → Bool
but m u = not (has m u)

-- the group of point p, if there is such a point
abbrev pub GroupOf : Contents → ℕ → Option SmallSet → Type 0
GroupOf t p None = t.v ≤ p
GroupOf t p (Some g) = (p < t.v) × ((u : ℕ) → has g u ≡ in_group t p u)

-- unit u can be read back by the recipe s, and so it has no loss set
pub record ReadBack {C : Type 0} (o : C) (plus : C → C → C) (t : Contents) (good : ℕ → Bool) (u : ℕ) (s : ℕ → Bool) : Type 0 where
  pub is_unit : u < units t
  pub recipe : RecipeFor o plus t good u s
  pub determined : Determined o plus t good u
  pub no_loss : (l : ℕ → Bool) → LossSetFor t good u l → ⊥

-- unit u is lost by the loss set l, and so it has no recipe
pub record Lost {C : Type 0} (o : C) (plus : C → C → C) (t : Contents) (good : ℕ → Bool) (u : ℕ) (l : ℕ → Bool) : Type 0 where
  pub is_unit : u < units t
  pub loss : LossSetFor t good u l
  pub hidden : Hidden o plus t good u
  pub no_recipe : (s : ℕ → Bool) → RecipeFor o plus t good u s → ⊥

-- the answer for unit u: a recipe, or why there is none
abbrev pub Solved : {C : Type 0} → C → (C → C → C) → Contents → (ℕ → Bool) → ℕ → Result SmallSet Unreadable → Type 0
Solved o plus t good u (Ok s) = ReadBack o plus t good u (has s)
Solved o plus t good u (Err (why.Lost l)) = Lost o plus t good u (has l)
Solved o plus t good u (Err why.NoUnit) = units t ≤ u

-- some set is a loss set for unit u
abbrev pub HasLoss : Contents → (ℕ → Bool) → ℕ → Type 0
HasLoss t good u = (l : ℕ → Bool) × LossSetFor t good u l

-- some set is a recipe for unit u
abbrev pub HasRecipe : {C : Type 0} → C → (C → C → C) → Contents → (ℕ → Bool) → ℕ → Type 0
HasRecipe o plus t good u = (s : ℕ → Bool) × RecipeFor o plus t good u s

-- s is the set of the record units that are lost, and every other record unit can be read back
pub record LostRecords {C : Type 0} (o : C) (plus : C → C → C) (t : Contents) (good : ℕ → Bool) (s : SmallSet) : Type 0 where
  pub lost : (d : ℕ) → has s d ≡ true → (d < t.n) × HasLoss t good d
  pub others : (d : ℕ) → d < t.n → has s d ≡ false → HasRecipe o plus t good d
