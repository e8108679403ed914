use Rattle.std.proofs.Common.{leb, refl, ◌∙◌, arith, rules}
use borrow.Author.Tests.{tests}
use Rattle.std.proofs.lemmas.Iterator.{YieldsList-from_range}
use Rattle.std.proofs.lemmas.Iterator.Search.{all_from_yields_List}
use Rattle.table.specs.Contents.{shared}
use Rattle.table.proofs.Blocks.{apart_is}
use Rattle.table.specs.Reading.{apart}
use Rattle.table.specs.Held.{draft_contents}
use Rattle.table.proofs.Ranges.{every_range}
use Rattle.table.proofs.table.Draft.apart.Goals as goal

pub returns : goal.returns
unfolding apart
returns c =
    let t = draft_contents c.args.self.now in
    let d = c.args.d in
    let once = apart_is t c.args.self.now.high d c.block-block.result (omega (arith, c.args.self.now.sizes.checks)) c.block-block.ensures in
    all_from_yields_List (λ e. leb (shared t d e) 1) _ _ _ c.all.ensures.ran (YieldsList-from_range 0 d d refl (omega arith)) (λ x b q k. (search rules, search (rules, tests, once) parts 8))
    ∙ every_range (λ e. leb (shared t d e) 1) (λ e. leb (shared t d e) 1) 0 d d (λ i h. absurd (omega arith)) (λ i h. refl) (omega arith)
