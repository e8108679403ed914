use Rattle.std.proofs.Common.{◌≡◌, true, false, rules}
use borrow.Author.Tests.{tests}
use Rattle.std.proofs.lemmas.Iterator.{first_from_Range}
use Rattle.table.specs.Reading.{joined}
use Rattle.table.specs.Held.{draft_contents}
use Rattle.table.proofs.Ranges.{first_found}
use Rattle.table.proofs.table.Draft.first_loose.Goals as goal

pub returns : goal.returns
returns c =
    let t = draft_contents c.args.self.now in
    first_found (joined t) t.v c.find.result
    (first_from_Range _ _ _ _ (λ x. joined t x ≡ false) (λ x. joined t x ≡ true) c.find.ensures.ran (λ x q k. search (rules, tests)) (λ x q k. search (rules, tests)))
