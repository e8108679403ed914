use Rattle.std.proofs.Common.{arith}
use lib.Bits.{bit_xor}
use Rattle.cell.specs.Bytes.{byte_laws}
use Rattle.table.proofs.Validity.{valid_table}
use Rattle.recovery.specs.Layouts.{table_of, laid_out}
use Rattle.risk.proofs.Search.{told_deadly}
use Rattle.risk.proofs.loses.Goals as goal

pub returns : goal.returns
returns c =
    let layout = c.args.layout.now in
    told_deadly 0 bit_xor byte_laws (laid_out layout) c.args.missing c.lost.result (omega (arith, (valid_table (table_of layout)).limits.n_high)) c.lost.ensures.records c.is_empty.result c.is_empty.ensures
