use Rattle.std.proofs.Common.{◌≡◌, ℕ, true, rules}
use borrow.Author.Tests.{tests}
use Rattle.sets.specs.Members.{has}
use Rattle.table.proofs.Validity.{valid_table}
use Rattle.recovery.specs.Layouts.{laid_out}
use Rattle.recovery.proofs.Figures.{figure}
use Rattle.recovery.proofs.Losing.{Told, lost_records}
use Rattle.recovery.proofs.layout.Layout.lost.Goals as goal

pub returns : goal.returns
returns g c =
    let k = g.C.Cell in
    let t = laid_out c.args.self.now in
    let told : (d : ℕ) → has c.args.missing d ≡ true → Told k.zero k.sum t c.args.missing d (has c.filter.result d) = λ d m. let asked = c.filter.ensures.passing d m in search (rules, tests) in
    record {
      figure = figure t (valid_table c.args.self.now.table);
      records = lost_records k.zero k.sum k.laws t c.args.missing c.filter.result told c.filter.ensures.others;
    }
