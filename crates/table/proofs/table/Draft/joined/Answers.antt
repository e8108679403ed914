use Rattle.std.proofs.Common.{◌+◌, ◌-◌, ◌||◌, leb, refl, ap, ◌∙◌, arith, rules}
use borrow.Author.Tests.{tests}
use Rattle.std.proofs.lemmas.Bool.{or_left, le-leb, lt-leb}
use Rattle.std.proofs.lemmas.Iterator.{YieldsList-from_range}
use Rattle.std.proofs.lemmas.Iterator.Search.{all_from_yields_List}
use Rattle.table.specs.Reading.{together, joined}
use Rattle.table.specs.Held.{draft_contents}
use Rattle.table.proofs.Ranges.{every_range}
use Rattle.table.proofs.table.Draft.joined.Goals as goal

pub returns : goal.returns
unfolding joined
returns c =
    let t = draft_contents c.args.self.now in
    let p = c.args.p in
    let n = t.v - (p + 1) in
    all_from_yields_List (together t p) _ _ _ c.all.ensures.ran (YieldsList-from_range (p + 1) t.v n refl refl) (λ x b q k. search (rules, tests))
    ∙ every_range (together t p) (λ q. leb q p || together t p q) (p + 1) n t.v
    (λ q h. or_left (leb q p) (together t p q) (le-leb q p (omega arith)))
    (λ q h. ap (λ z. z || together t p q) (lt-leb q p (omega arith)))
    (omega arith)
