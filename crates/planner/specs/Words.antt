-- The words of a line.
use Rattle.std.specs.Prelude.{◌≡◌, ℕ, ◌<◌, List, [], ◌∷◌, ◌++◌, length}
use Rattle.std.specs.Char.{is_whitespace, is_not_whitespace}
use Rattle.std.specs.Str.{NoCharPasses, EmptyOrStartsWithPassing}

-- bs is white space, the word w, and rest, which is empty or begins with white space
pub record First (bs w rest : List ℕ) : Type 0 where
  pub gap : List ℕ
  pub cut : bs ≡ gap ++ (w ++ rest)
  pub some : 0 < length w
  pub blank : NoCharPasses is_not_whitespace gap
  pub solid : NoCharPasses is_whitespace w
  pub ends : (more : List ℕ) × EmptyOrStartsWithPassing is_whitespace rest more

-- bs begins with the words ws, and rest follows them
abbrev pub Begins : List ℕ → List (List ℕ) → List ℕ → Type 0
Begins bs [] rest = bs ≡ rest
Begins bs (w ∷ ws) rest = (mid : List ℕ) × First bs w mid × Begins mid ws rest

-- ws are the words of bs, all of them
abbrev pub Words : List ℕ → List (List ℕ) → Type 0
Words bs ws = (rest : List ℕ) × Begins bs ws rest × NoCharPasses is_not_whitespace rest
