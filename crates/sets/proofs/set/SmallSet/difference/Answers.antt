use Rattle.std.proofs.Common.{◌^◌, ◌<◌, arith}
use Rattle.sets.proofs.Bits.{digit_minus}
use Rattle.sets.proofs.set.SmallSet.difference.Goals as goal

pub returns : goal.returns
returns c i =
    let s = c.args.self in
    let o = c.args.other in
    let fits : s.bits < 2 ^ 64 = omega arith in
    let fits_other : o.bits < 2 ^ 64 = omega arith in
    digit_minus 64 s.bits o.bits i fits fits_other
