use Rattle.std.proofs.Common.{◌&&◌, refl, ◌∙◌, arith, rules}
use borrow.Author.Tests.{tests}
use Rattle.std.proofs.lemmas.Iterator.{YieldsList-from_range}
use Rattle.std.proofs.lemmas.Iterator.Search.{any_from_yields_List}
use Rattle.table.specs.Contents.{has_point}
use Rattle.table.specs.Reading.{together}
use Rattle.table.specs.Held.{draft_contents}
use Rattle.table.proofs.Ranges.{some_range}
use Rattle.table.proofs.table.Draft.together.Goals as goal

pub returns : goal.returns
unfolding together
returns c =
    let t = draft_contents c.args.self.now in
    any_from_yields_List (λ d. has_point t d c.args.p && has_point t d c.args.q) _ _ _ c.any.ensures.ran (YieldsList-from_range 0 t.n t.n refl (omega arith)) (λ x b q k. search (rules, tests))
    ∙ some_range (λ d. has_point t d c.args.p && has_point t d c.args.q) t.n
