-- The one answer to every string of bytes.
use Rattle.std.specs.Prelude.{ℕ, ◌+◌, Bool, cond, ◌&&◌, ◌||◌, List, length, Some, None, Option, ◌==◌, nat_le, nat_lt}
use Rattle.table.specs.declared.fault.TableFault.{TableFault}
use Rattle.table.specs.declared.fault.TableFault.TheVariants.{Short, Size, Point, Tail, Pair, Cover}
use Rattle.table.specs.Ranges.{every, some, first}
use Rattle.table.specs.Contents.{Contents, has_point, shared}
use Rattle.table.specs.Place.{many, full, fits, contents_of}

-- block d shares at most one point with each block before it
unfoldable pub apart : Contents → ℕ → Bool
apart t d = every (λ e. nat_le (shared t d e) 1) d

-- p and q lie together in a block
unfoldable pub together : Contents → ℕ → ℕ → Bool
together t p q = some (λ d. has_point t d p && has_point t d q) t.n

-- p lies together with each point above it
unfoldable pub joined : Contents → ℕ → Bool
joined t p = every (λ q. nat_le q p || together t p q) t.v

-- the fault of byte i where it is not what it must be
unfoldable pub misfit : List ℕ → ℕ → TableFault
misfit bs i = cond (nat_lt i (full bs)) (cond (nat_lt 4 i && nat_lt i (5 + many bs)) (Point i) (Size i)) (Tail i)

-- the fault of a table whose bytes are all there and what they must be, if its blocks clash
unfoldable pub clash : Contents → Option TableFault
clash t =
    let d : ℕ = first (apart t) t.n in
    let p : ℕ = first (joined t) t.v in
    cond (nat_lt d t.n) (Some (Pair d)) (cond (t.grade == 2 && nat_lt p t.v) (Some (Cover p)) None)

-- the fault of a string of bytes, if it is no table: of the first byte that is not what it must be, else of the end, else of the blocks
unfoldable pub fault : List ℕ → Option TableFault
fault bs =
    let i : ℕ = first (fits bs) (length bs) in
    cond (nat_lt i (length bs)) (Some (misfit bs i)) (cond (nat_lt i (full bs)) (Some (Short i)) (clash (contents_of bs)))
