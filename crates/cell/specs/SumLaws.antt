-- What holds of the sums of any kind of cells.
use Rattle.std.specs.Prelude.{◌≡◌, ℕ, ◌<◌, Bool, true, false, not, ◌&&◌, ◌||◌, ◌==◌}
use Rattle.std.specs.Bool.{xor}
use Rattle.sets.specs.Sums.{total}

-- the laws of sums over the places below a bound m: a set s of places is given by its test, and f i is the cell at the place i
pub record SumLaws {C : Type 0} (zero : C) (sum : C → C → C) : Type 0 where
  -- a set with no place: zero
  pub none : (m : ℕ) (s : ℕ → Bool) (f : ℕ → C) → ((i : ℕ) → i < m → s i ≡ false) → total zero sum m s f ≡ zero
  -- cells that are the same at each place of the set: the same sum
  pub same : (m : ℕ) (s : ℕ → Bool) (f g : ℕ → C) → ((i : ℕ) → i < m → s i ≡ true → f i ≡ g i) → total zero sum m s f ≡ total zero sum m s g
  -- sets with the same places: the same sum
  pub alike : (m : ℕ) (s t : ℕ → Bool) (f : ℕ → C) → ((i : ℕ) → i < m → s i ≡ t i) → total zero sum m s f ≡ total zero sum m t f
  -- a place b of the set apart: its cell, plus the sum over the others
  pub split : (m b : ℕ) (s : ℕ → Bool) (f : ℕ → C) → b < m → s b ≡ true
      → total zero sum m s f ≡ sum (f b) (total zero sum m (λ i. s i && not (i == b)) f)
  -- a place b more: its cell, plus the sum so far
  pub more : (m b : ℕ) (s : ℕ → Bool) (f : ℕ → C) → b < m → s b ≡ false
      → total zero sum m (λ i. s i || i == b) f ≡ sum (f b) (total zero sum m s f)
  -- the places of one of two sets and not of both: the two sums, summed
  pub difference : (m : ℕ) (s t : ℕ → Bool) (f : ℕ → C)
      → total zero sum m (λ i. xor (s i) (t i)) f ≡ sum (total zero sum m s f) (total zero sum m t f)
  -- cells that are sums, place by place: the two sums, summed
  pub linear : (m : ℕ) (s : ℕ → Bool) (f g : ℕ → C)
      → total zero sum m s (λ i. sum (f i) (g i)) ≡ sum (total zero sum m s f) (total zero sum m s g)
  -- a table of cells: summed by rows or by columns
  pub swap : (m n : ℕ) (s t : ℕ → Bool) (f : ℕ → ℕ → C)
      → total zero sum m s (λ i. total zero sum n t (λ j. f i j)) ≡ total zero sum n t (λ j. total zero sum m s (λ i. f i j))
