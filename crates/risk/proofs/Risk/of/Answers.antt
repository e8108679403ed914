use Rattle.std.proofs.Common.{◌≡◌, ◌+◌, rules}
use borrow.Author.Tests.{tests}
use Rattle.std.proofs.lemmas.Option.{IfSome_then}
use Rattle.sets.specs.declared.set.SmallSet.{SmallSet}
use Rattle.sets.specs.Steps.{Empty}
use Rattle.recovery.specs.Layouts.{laid_out}
use Rattle.recovery.specs.Groups.{units}
use Rattle.risk.specs.Extends.{Found}
use Rattle.risk.proofs.Search.{found_units, counted}
use Rattle.risk.proofs.Risk.of.Goals as goal

pub returns : goal.returns
returns c =
    let t = laid_out c.args.layout.now in
    let all : c.n.result + c.v.result ≡ units t = search rules in
    let size : c.k.result + 1 ≡ t.k + 1 = search rules in
    record {
      size = size;
      sets = search rules;
      deadly = counted t c.choose-sets.result c.then-deadly.result c.then-deadly.ensures.variant
          (IfSome_then c.then-deadly.result c.then-deadly.ensures.some
          (λ x k.
          let found : (e : SmallSet) × Empty e × Found t e (c.n.result + c.v.result) (c.k.result + 1) x = search (rules, tests) in
          found_units t found.0 (c.n.result + c.v.result) (c.k.result + 1) (t.k + 1) x found.1 all size found.2));
    }
