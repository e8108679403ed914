-- What a word stands for.
use Rattle.std.specs.Prelude.{◌≡◌, ℕ, ◌<◌, List, length, Ok, Err, Result, slice_index}
use Rattle.std.specs.Str.Parse.{digits_value}
use Rattle.std.specs.Int.{IsInRange}
use Rattle.planner.specs.declared.word.WordFault.{WordFault}
use Rattle.planner.specs.declared.word.WordFault.TheVariants.{NoNumber, TooLarge}

-- every character is a decimal digit
abbrev pub AllDigits : List ℕ → Type 0
AllDigits w = (i : ℕ) → i < length w → IsInRange 48 57 (slice_index w i)

-- one decimal digit or more, and nothing else
abbrev pub Numeral : List ℕ → Type 0
Numeral w = (0 < length w) × AllDigits w

-- r is the byte that the word w writes in decimal digits, or says why it writes none
abbrev pub ByteOf : List ℕ → Result ℕ WordFault → Type 0
ByteOf w (Ok b) = Numeral w × (digits_value 10 w ≡ b) × (b < 256)
ByteOf w (Err NoNumber) = Numeral w → ⊥
ByteOf w (Err TooLarge) = Numeral w × (255 < digits_value 10 w)
