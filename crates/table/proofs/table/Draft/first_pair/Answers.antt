use Rattle.std.proofs.Common.{◌≡◌, true, false, rules}
use borrow.Author.Tests.{tests}
use Rattle.std.proofs.lemmas.Iterator.{first_from_Range}
use Rattle.table.specs.Reading.{apart}
use Rattle.table.specs.Held.{draft_contents}
use Rattle.table.proofs.Ranges.{first_found}
use Rattle.table.proofs.table.Draft.first_pair.Goals as goal

pub returns : goal.returns
returns c =
    let t = draft_contents c.args.self.now in
    first_found (apart t) t.n c.find.result
    (first_from_Range _ _ _ _ (λ x. apart t x ≡ false) (λ x. apart t x ≡ true) c.find.ensures.ran (λ x q k. search (rules, tests)) (λ x q k. search (rules, tests)))
