use Rattle.std.proofs.Common.{◌^◌, ◌<◌, not, ◌&&◌, ap, ◌∙◌, arith}
use Rattle.sets.specs.Members.{has}
use Rattle.sets.proofs.Bits.{digit_minus, minus_one}
use Rattle.sets.proofs.set.SmallSet.without.Goals as goal

pub returns : goal.returns
returns c i =
    let s = c.args.self in
    let o = c.of.result in
    let fits : s.bits < 2 ^ 64 = omega arith in
    let fits_one : o.bits < 2 ^ 64 = omega arith in
    digit_minus 64 s.bits o.bits i fits fits_one ∙ ap (λ b. has s i && not b) (c.of.ensures i) ∙ minus_one 64 s.bits c.args.number i fits
