-- What a line lists.
use Rattle.std.specs.Prelude.{◌≡◌, ℕ, ◌+◌, List, [], ◌∷◌, ◌++◌, length, Ok, Err, Result, Vec, vec_items, string_bytes}
use Rattle.std.specs.declared.alloc.Global.{Global}
use Rattle.planner.specs.declared.listing.BadWord.{BadWord}
use Rattle.planner.specs.Numerals.{ByteOf}
use Rattle.planner.specs.Words.{Begins, Words}

-- the words ws write the bytes bs, one each
abbrev pub Spell : List (List ℕ) → List ℕ → Type 0
Spell [] [] = Unit {0}
Spell [] (b ∷ bs) = ⊥
Spell (w ∷ ws) [] = ⊥
Spell (w ∷ ws) (b ∷ bs) = ByteOf w (Ok b) × Spell ws bs

-- bs are the bytes that the words of the line write
abbrev pub BytesOf : List ℕ → List ℕ → Type 0
BytesOf line bs = (ws : List (List ℕ)) × Words line ws × Spell ws bs

-- after words that write bytes, the line has a word that writes none, which bad tells
pub record FirstBad (line : List ℕ) (bad : BadWord) : Type 0 where
  pub before : List (List ℕ)
  pub bytes : List ℕ
  pub rest : List ℕ
  pub begins : Begins line (before ++ (string_bytes bad.word ∷ [])) rest
  pub spell : Spell before bytes
  pub place : bad.number ≡ length before + 1
  pub why : ByteOf (string_bytes bad.word) (Err bad.fault)

-- all words of the line write bytes, or bad is the first that does not
abbrev pub Lists : List ℕ → Result (Vec ℕ Global) BadWord → Type 0
Lists line (Ok v) = BytesOf line (vec_items v)
Lists line (Err bad) = FirstBad line bad
