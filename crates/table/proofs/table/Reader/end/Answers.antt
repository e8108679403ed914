use Rattle.std.proofs.Common.{Some, ap, ◌∙◌, arith}
use Rattle.table.proofs.Faults.{misfit_at, past_not}
use Rattle.table.proofs.Places.{misfit_tail}
use Rattle.table.proofs.table.Reader.end.Goals as goal

pub returns-then-self : goal.returns-then-self
returns-then-self c =
    let r = c.args.self.now in
    let bs = r.bytes.now in
    misfit_at bs r.at r.passed c.if-self.true (past_not bs r.at (omega (arith, c.requires))) ∙ ap Some (misfit_tail bs r.at (omega (arith, c.requires)))
