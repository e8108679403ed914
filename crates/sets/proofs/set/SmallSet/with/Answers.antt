use Rattle.std.proofs.Common.{◌||◌, ap, ◌∙◌}
use Rattle.sets.specs.Members.{has}
use Rattle.sets.proofs.Bits.{digit_or}
use Rattle.sets.proofs.set.SmallSet.with.Goals as goal

pub returns : goal.returns
returns c i =
    let s = c.args.self in
    digit_or s.bits c.of.result.bits i ∙ ap (λ b. has s i || b) (c.of.ensures i)
