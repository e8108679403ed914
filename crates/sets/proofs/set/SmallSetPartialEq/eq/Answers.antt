use Rattle.std.proofs.Common.{ap}
use Rattle.std.proofs.lemmas.Bool.{eqb-true, eq-eqb}
use Rattle.sets.specs.Members.{digit}
use Rattle.sets.proofs.Bits.{same_number}
use Rattle.sets.proofs.set.SmallSetPartialEq.eq.Goals as goal

pub returns-clause-members : goal.returns-clause-members
returns-clause-members c =
    let a = c.args.self.now.bits in
    let b = c.args.other.now.bits in
    (λ e i. ap (λ n. digit n i) (eqb-true a b e), λ h. eq-eqb a b (same_number a b h))
