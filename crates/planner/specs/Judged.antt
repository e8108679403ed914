-- What becomes of a line.
use Rattle.std.specs.Prelude.{◌≡◌, ℕ, true, List, length, Some, None, Ok, Err, Result}
use Rattle.table.specs.Contents.{load}
use Rattle.table.specs.Numbers.{grade_number}
use Rattle.table.specs.Place.{contents_of}
use Rattle.table.specs.Reading.{fault}
use Rattle.planner.specs.declared.rejection.Rejection.{Rejection}
use Rattle.planner.specs.declared.rejection.Rejection.TheVariants.{Refused, NoBytes}
use Rattle.planner.specs.declared.summary.Summary.{Summary}
use Rattle.planner.specs.Listed.{BytesOf, FirstBad}

-- s says what the bytes bs say as a table, and that they were written again
pub record SumsUp (bs : List ℕ) (s : Summary) : Type 0 where
  pub v_is : s.v ≡ (contents_of bs).v
  pub n_is : s.n ≡ (contents_of bs).n
  pub k_is : s.k ≡ (contents_of bs).k
  pub grade_is : grade_number s.grade ≡ (contents_of bs).grade
  pub load_is : s.load ≡ load (contents_of bs)
  pub size_is : s.size ≡ length bs
  pub same_is : s.same ≡ true

-- the bytes bs are a table and are summed up, or are none and their fault is told
abbrev pub Judged : List ℕ → Result Summary Rejection → Type 0
Judged bs (Ok s) = (fault bs ≡ None) × SumsUp bs s
Judged bs (Err (Refused size f advice)) = (fault bs ≡ Some f) × (size ≡ length bs)
Judged bs (Err (NoBytes bad)) = ⊥

-- the line lists bytes, which are judged, or its first bad word is told
abbrev pub Became : List ℕ → Result Summary Rejection → Type 0
Became line (Ok s) = (bs : List ℕ) × BytesOf line bs × Judged bs (Ok s)
Became line (Err (Refused size f advice)) = (bs : List ℕ) × BytesOf line bs × Judged bs (Err (Refused size f advice))
Became line (Err (NoBytes bad)) = FirstBad line bad
