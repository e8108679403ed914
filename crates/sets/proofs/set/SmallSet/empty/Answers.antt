use Rattle.sets.proofs.Bits.{digit_none}
use Rattle.sets.proofs.set.SmallSet.empty.Goals as goal

pub returns : goal.returns
returns c = digit_none
