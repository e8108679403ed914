-- `parse` refuses digits only where their number does not fit.
use Rattle.std.proofs.Common.{arith}
use Rattle.std.specs.Str.Parse.{digits_value}
use Rattle.std.proofs.lemmas.Str.Parse.{IsNumeralModel, numerals_by_value, tells_by_index, parse_digits}
use Rattle.planner.specs.Numerals.{AllDigits}
use Rattle.planner.proofs.word.byte_of.Goals as goal

own : IsNumeralModel AllDigits (digits_value 10)
own = numerals_by_value AllDigits tells_by_index

pub returns : goal.returns
returns c =
    let digits : AllDigits c.args.word.now = rw c.as_bytes.ensures.value at (c.all_digits.ensures.0 c.if-not-all_digits.false) in
    grind (arith, parse_digits own 8 _ _ c.parse.ensures.value.0 digits)
