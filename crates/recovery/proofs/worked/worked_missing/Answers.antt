use Rattle.std.proofs.Common.{refl}
use Rattle.recovery.proofs.WorkedCases.{worked_cases}
use Rattle.recovery.proofs.worked.worked_missing.Goals as goal

pub returns : goal.returns
returns g c = let k = g.C.Cell in record { of_f = refl; of_a = refl; worked = worked_cases k.zero k.sum k.laws }
