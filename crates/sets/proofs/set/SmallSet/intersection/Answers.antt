use Rattle.sets.proofs.Bits.{digit_and}
use Rattle.sets.proofs.set.SmallSet.intersection.Goals as goal

pub returns : goal.returns
returns c = digit_and c.args.self.bits c.args.other.bits
