use Rattle.std.proofs.Common.{arith}
use Rattle.sets.proofs.Bits.{ones_count}
use Rattle.sets.proofs.set.SmallSet.len.Goals as goal

pub returns : goal.returns
returns c = ones_count 64 c.args.self.bits (omega arith)
