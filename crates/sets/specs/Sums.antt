-- Finite sums over the numbers below a bound. A set of numbers is given by its test, as `has s` is.
use Rattle.std.specs.Prelude.{◌≡◌, ℕ, zero, suc, ◌+◌, Bool, cond}

-- f 0, f 1, .. up to f (m - 1), added to o
unfoldable pub sum_below : {C : Type 0} → C → (C → C → C) → ℕ → (ℕ → C) → C
sum_below o plus zero f = o
sum_below o plus (suc m) f = plus (sum_below o plus m f) (f m)

-- the same of those f i only whose number i the set s has
abbrev pub total : {C : Type 0} → C → (C → C → C) → ℕ → (ℕ → Bool) → (ℕ → C) → C
total o plus m s f = sum_below o plus m (λ i. cond (s i) (f i) o)

-- how many numbers below m the set s has
abbrev pub count : ℕ → (ℕ → Bool) → ℕ
count m s = total 0 ◌+◌ m s (λ i. 1)

-- a commutative monoid: sums in it do not depend on the order of their terms
pub record Adds {C : Type 0} (o : C) (plus : C → C → C) : Type 0 where
  pub assoc : (x y z : C) → plus (plus x y) z ≡ plus x (plus y z)
  pub comm : (x y : C) → plus x y ≡ plus y x
  pub unit : (x : C) → plus o x ≡ x
