-- What a kind of cells is.
use Rattle.std.specs.Prelude.{◌≡◌, ◌≢◌}

-- a zero cell and a sum make a kind of cells: a commutative group of more than one cell, each its own inverse
pub record Laws {C : Type 0} (zero : C) (sum : C → C → C) : Type 0 where
  -- a sum does not depend on how its terms are grouped
  pub assoc : (x y z : C) → sum (sum x y) z ≡ sum x (sum y z)
  -- nor on their order
  pub comm : (x y : C) → sum x y ≡ sum y x
  -- the zero cell alters nothing
  pub unit : (x : C) → sum zero x ≡ x
  -- a cell plus itself is zero
  pub self : (x : C) → sum x x ≡ zero
  -- some cell differs from zero
  pub some : (x : C) × (x ≢ zero)
