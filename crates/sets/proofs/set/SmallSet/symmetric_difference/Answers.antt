use Rattle.sets.proofs.Bits.{digit_xor, oddly_xor}
use Rattle.sets.proofs.set.SmallSet.symmetric_difference.Goals as goal

pub returns : goal.returns
returns c =
    let members = digit_xor c.args.self.bits c.args.other.bits in
    record { members = members; parity = λ t. oddly_xor t c.args.self c.args.other _ members }
