use Rattle.std.proofs.Common.{take, drop}
use Rattle.recovery.specs.Layouts.{laid_out}
use Rattle.recovery.proofs.Making.{layout_rows, layout_past}
use Rattle.recovery.proofs.Relating.{emptied, relations}
use Rattle.recovery.proofs.layout.Layout.relations.Goals as goal

pub returns : goal.returns
returns g c =
    let k = g.C.Cell in
    let layout = c.args.self.now in
    let rows = c.eliminate-rank.new.rows in
    let rank = c.eliminate-rank.result in
    relations k.zero k.sum k.laws (laid_out layout) c.args.missing (take c.v.result layout.groups) rows _ rank (layout_rows layout c.v.result c.v.ensures) c.eliminate-rank.ensures
    (emptied rows (drop c.v.result layout.groups) c.fill.new.self rank c.empty.result c.eliminate-rank.ensures.pivots.ranked c.empty.ensures (layout_past layout c.v.result c.v.ensures) (c.fill.ensures.after (λ y e. e)))
