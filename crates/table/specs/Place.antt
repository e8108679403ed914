-- What each byte of a table must be, given the bytes before it.
use Rattle.std.specs.Prelude.{ℕ, zero, suc, ◌+◌, ◌-◌, ◌*◌, ◌%◌, min, Bool, cond, ◌&&◌, List, ◌==◌, nat_le, nat_lt, slice_index}
use Rattle.table.specs.Contents.{Contents}

-- byte i, or 0 past the end
abbrev pub byte : List ℕ → ℕ → ℕ
byte bs i = slice_index bs i

-- how many points follow the sizes: n blocks of k
abbrev pub many : List ℕ → ℕ
many bs = byte bs 2 * byte bs 3

-- what the bytes say as a table, whether or not they are one
unfoldable pub contents_of : List ℕ → Contents
contents_of bs = record {
  v = byte bs 1;
  n = byte bs 2;
  k = byte bs 3;
  grade = byte bs (6 + many bs);
  point = λ i. cond (nat_lt i (many bs)) (byte bs (5 + i)) 0;
}

-- the least that byte i may be; a point is above the one before it in its block
abbrev pub lowest : List ℕ → ℕ → ℕ
lowest bs zero = 3
lowest bs (suc zero) = 2
lowest bs (suc (suc zero)) = 1
lowest bs (suc (suc (suc zero))) = 2
lowest bs (suc (suc (suc (suc zero)))) = byte bs 2
lowest bs (suc (suc (suc (suc (suc i))))) = cond (nat_lt i (many bs)) (cond (i % byte bs 3 == 0) 0 (byte bs (4 + i) + 1)) 1

-- the most that byte i may be: n is at most 62 and 64 - v, k at most 8 and v, and a point is below v
abbrev pub highest : List ℕ → ℕ → ℕ
highest bs zero = 3
highest bs (suc zero) = 40
highest bs (suc (suc zero)) = min (64 - byte bs 1) 62
highest bs (suc (suc (suc zero))) = min (byte bs 1) 8
highest bs (suc (suc (suc (suc zero)))) = byte bs 2
highest bs (suc (suc (suc (suc (suc i))))) = cond (nat_lt i (many bs)) (byte bs 1 - 1) (cond (i == many bs) 1 2)

-- how many bytes the table has, by its sizes
abbrev pub full : List ℕ → ℕ
full bs = 7 + many bs

-- byte i is within the table and is what it must be
unfoldable pub fits : List ℕ → ℕ → Bool
fits bs i = nat_lt i (full bs) && (nat_le (lowest bs i) (byte bs i) && nat_le (byte bs i) (highest bs i))
