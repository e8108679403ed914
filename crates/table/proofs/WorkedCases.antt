-- The worked cases, by computation.
use Rattle.std.proofs.Common.{refl}
use Rattle.sets.specs.Sums.{sum_below}
use Rattle.table.specs.Ranges.{every, some, first}
use Rattle.table.specs.Contents.{has_point}
use Rattle.table.specs.Place.{contents_of, fits}
use Rattle.table.specs.Reading.{apart, together, joined, misfit, clash, fault}
use Rattle.table.specs.Worked.{WorkedTables}

pub worked_tables : WorkedTables
unfolding sum_below every some first has_point contents_of fits apart together joined misfit clash fault
worked_tables = record { accepted = refl; loaded = refl; short = refl; tail = refl; repeated = refl; beyond = refl; pair = refl; cover = refl; packing = refl }
