use Rattle.std.proofs.Common.{ap, ◌∙◌}
use Rattle.std.proofs.lemmas.Nat.{one_shl}
use Rattle.sets.specs.Members.{digit}
use Rattle.sets.proofs.Bits.{digit_one, eq_below}
use Rattle.sets.proofs.set.SmallSet.of.Goals as goal

pub returns-then-number-lt-LIMIT : goal.returns-then-number-lt-LIMIT
returns-then-number-lt-LIMIT c i =
    let t = c.args.number in
    ap (λ n. digit n i) (one_shl t 64 c.if-number-lt-LIMIT.true) ∙ digit_one t i ∙ eq_below i t 64 c.if-number-lt-LIMIT.true
