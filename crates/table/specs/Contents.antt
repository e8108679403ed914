-- What a unit table says, and when it is valid.
use Rattle.std.specs.Prelude.{◌≡◌, ℕ, zero, suc, ◌+◌, ◌-◌, ◌*◌, ◌/◌, ◌<◌, ◌≤◌, Bool, true, cond, ◌&&◌, ◌⊎◌, List, map, ◌==◌, ◌≢◌, nat_eq, nat_lt}
use Rattle.std.specs.List.{range_with_len}
use Rattle.sets.specs.Sums.{count}
use Rattle.table.specs.Ranges.{some}

-- v check units, n record units, blocks of k points, the grade, and the points of all blocks, one block after the other
pub record Contents : Type 0 where
  pub v : ℕ
  pub n : ℕ
  pub k : ℕ
  pub grade : ℕ
  pub point : ℕ → ℕ

-- how many points the blocks have together
abbrev pub points : Contents → ℕ
points t = t.n * t.k

-- block d has point p: record unit d stands behind check unit n + p
unfoldable pub has_point : Contents → ℕ → ℕ → Bool
has_point t d p = some (λ j. nat_eq p (t.point (d * t.k + j))) t.k

-- how many points the blocks d and e share
abbrev pub shared : Contents → ℕ → ℕ → ℕ
shared t d e = count t.v (λ p. has_point t d p && has_point t e p)

-- some block has both p and q
abbrev pub Joined : Contents → ℕ → ℕ → Type 0
Joined t p q = (d : ℕ) × (d < t.n) × (has_point t d p ≡ true) × (has_point t d q ≡ true)

-- the sizes are within their limits
pub record Limits (v n k : ℕ) : Type 0 where
  pub v_low : 2 ≤ v
  pub v_high : v ≤ 40
  pub n_low : 1 ≤ n
  pub n_high : n ≤ 62
  pub k_low : 2 ≤ k
  pub k_high : k ≤ 8
  pub units : n + v ≤ 64
  pub narrow : k ≤ v

-- the table is one that a rack can have
pub record Valid (t : Contents) : Type 0 where
  pub limits : Limits t.v t.n t.k
  pub grades : (t.grade ≡ 1) ⊎ (t.grade ≡ 2)
  -- each block has k points, all below v
  pub within : (d p : ℕ) → d < t.n → has_point t d p ≡ true → p < t.v
  pub blocks : (d : ℕ) → d < t.n → count t.v (has_point t d) ≡ t.k
  -- blocks with different numbers share at most one point
  pub pairs : (d e : ℕ) → d < t.n → e < t.n → (d ≢ e) → shared t d e ≤ 1
  -- in grade 2 every two points lie together in a block
  pub covers : t.grade ≡ 2 → (p q : ℕ) → p < t.v → q < t.v → (p ≢ q) → Joined t p q

-- in grade 2, how many record units stand behind each check unit; in grade 1, 0
abbrev pub load : Contents → ℕ
load t = cond (t.grade == 2) ((t.v - 1) / (t.k - 1)) 0

-- m record units stand behind each check unit
abbrev pub BehindEach : Contents → ℕ → Type 0
BehindEach t m = (p : ℕ) → p < t.v → count t.n (λ d. has_point t d p) ≡ m

-- byte i of the table: 3, v, n, k; n, then the points; 1, then the grade
abbrev pub byte_of : Contents → ℕ → ℕ
byte_of t zero = 3
byte_of t (suc zero) = t.v
byte_of t (suc (suc zero)) = t.n
byte_of t (suc (suc (suc zero))) = t.k
byte_of t (suc (suc (suc (suc zero)))) = t.n
byte_of t (suc (suc (suc (suc (suc i))))) = cond (nat_lt i (points t)) (t.point i) (cond (i == points t) 1 t.grade)

-- how many bytes the table has
abbrev pub size : Contents → ℕ
size t = 7 + points t

-- the table's bytes
unfoldable pub bytes_of : Contents → List ℕ
bytes_of t = map (byte_of t) (range_with_len 0 (size t))
