use Rattle.std.proofs.Common.{◌≡◌, ◌-◌, ◌/◌, subst, rules}
use Rattle.table.specs.Contents.{load, BehindEach}
use Rattle.table.specs.Held.{contents}
use Rattle.table.proofs.Validity.{valid_table}
use Rattle.table.proofs.Load.{behind_each}
use Rattle.table.proofs.table.Table.load.Goals as goal

pub returns-in-Steiner-clause-counts : goal.returns-in-Steiner-clause-counts
returns-in-Steiner-clause-counts c g =
    let t = contents c.args.self.now in
    let e : load t ≡ (c.v.result - 1) / (c.k.result - 1) = search rules in
    subst (BehindEach t) e (behind_each t (valid_table c.args.self.now) g)
