-- Recipes, loss sets and relations. A set of units is given by its test; `good` is the set of the good units, and every
-- other unit of the table is missing.
use Rattle.std.specs.Prelude.{◌≡◌, ℕ, ◌<◌, Bool, true, false, ◌&&◌, List, ◌≢◌}
use Rattle.sets.specs.declared.set.SmallSet.{SmallSet}
use Rattle.sets.specs.Members.{has, odd}
use Rattle.sets.specs.Sums.{total, count}
use Rattle.table.specs.Contents.{Contents}
use Rattle.recovery.specs.Groups.{units, in_group, at}
use Rattle.recovery.specs.Books.{Book, held, MatchesRow, Alike}

-- s is a set of good units
abbrev pub OfGood : Contents → (ℕ → Bool) → (ℕ → Bool) → Type 0
OfGood t good s = (i : ℕ) → s i ≡ true → (i < units t) × (good i ≡ true)

-- s is a recipe for unit u: a set of good units whose cells sum to u's cell in every book
pub record RecipeFor {C : Type 0} (o : C) (plus : C → C → C) (t : Contents) (good : ℕ → Bool) (u : ℕ) (s : ℕ → Bool) : Type 0 where
  pub good_units : OfGood t good s
  pub sums : (b : Book C) (r : ℕ) → total o plus (units t) s (λ i. held o plus t b i r) ≡ held o plus t b u r

-- l is a loss set for unit u: a set of missing units with u among them, an even number of them in each group
pub record LossSetFor (t : Contents) (good : ℕ → Bool) (u : ℕ) (l : ℕ → Bool) : Type 0 where
  pub missing_units : (i : ℕ) → l i ≡ true → (i < units t) × (good i ≡ false)
  pub has_unit : l u ≡ true
  pub even : (p : ℕ) → p < t.v → odd (count (units t) (λ i. l i && in_group t p i)) ≡ false

-- the good units determine what unit u holds: where they hold the same by two books, so does u
abbrev pub Determined : {C : Type 0} → C → (C → C → C) → Contents → (ℕ → Bool) → ℕ → Type 0
Determined {C} o plus t good u = (a b : Book C) (r : ℕ) → Alike o plus t good r a b → held o plus t a u r ≡ held o plus t b u r

-- they do not: beside each book there is one by which every good unit holds the same, and u another cell in each row
abbrev pub Hidden : {C : Type 0} → C → (C → C → C) → Contents → (ℕ → Bool) → ℕ → Type 0
Hidden {C} o plus t good u = (a : Book C)
    → (b : Book C) × ((r : ℕ) → Alike o plus t good r a b) × ((r : ℕ) → held o plus t a u r ≢ held o plus t b u r)

-- s is a relation: a set of good units whose cells sum to zero in every book
pub record Relation {C : Type 0} (o : C) (plus : C → C → C) (t : Contents) (good : ℕ → Bool) (s : ℕ → Bool) : Type 0 where
  pub good_units : OfGood t good s
  pub sums : (b : Book C) (r : ℕ) → total o plus (units t) s (λ i. held o plus t b i r) ≡ o

-- in row r the cells of each of the sets sum to zero
abbrev pub SumsToZero : {C : Type 0} → C → (C → C → C) → Contents → List SmallSet → (ℕ → ℕ → C) → ℕ → Type 0
SumsToZero o plus t sets cells r = (k : ℕ) → total o plus (units t) (has (at sets k)) (λ i. cells i r) ≡ o

-- the sets are relations, and enough of them: in a row some book matches the good units exactly if each sums to zero there
pub record Relations {C : Type 0} (o : C) (plus : C → C → C) (t : Contents) (good : ℕ → Bool) (sets : List SmallSet) : Type 0 where
  pub each : (k : ℕ) → Relation o plus t good (has (at sets k))
  pub needed : (cells : ℕ → ℕ → C) (r : ℕ) (b : Book C) → MatchesRow o plus t good cells r b → SumsToZero o plus t sets cells r
  -- one book will do for all such rows
  pub enough : (cells : ℕ → ℕ → C) → (b : Book C) × ((r : ℕ) → SumsToZero o plus t sets cells r → MatchesRow o plus t good cells r b)
