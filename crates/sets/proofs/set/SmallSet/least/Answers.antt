use Rattle.std.proofs.Common.{ap, ◌∙◌, arith}
use Rattle.sets.specs.Members.{digit}
use Rattle.sets.proofs.Bits.{digit_none, least_digit}
use Rattle.sets.proofs.set.SmallSet.least.Goals as goal

pub returns-then-self-eq0 : goal.returns-then-self-eq0
returns-then-self-eq0 c i = ap (λ n. digit n i) c.if-self-eq0.true ∙ digit_none i

pub returns : goal.returns
returns c =
    let l = least_digit 64 c.args.self.bits (omega arith) (omega arith) in
    record { small = l.inside; member = l.here; first = l.below }
