use Rattle.table.proofs.WorkedCases.{worked_tables}
use Rattle.table.proofs.worked.table_d.Goals as goal

pub returns-clause-worked : goal.returns-clause-worked
returns-clause-worked c = worked_tables
