use Rattle.std.proofs.Common.{◌/◌, ◌^◌, ◌<◌, eqb, sym, ap, ◌∙◌, arith}
use lib.Bits.{and_mask}
use Rattle.std.proofs.lemmas.Bool.{le-ltb}
use Rattle.sets.specs.Members.{digit, odd}
use Rattle.sets.proofs.Bits.{digit_past}
use Rattle.sets.proofs.set.SmallSet.contains.Goals as goal

pub returns-then-number-lt-LIMIT : goal.returns-then-number-lt-LIMIT
unfolding digit odd
returns-then-number-lt-LIMIT c = record {
  member = ap (λ n. eqb n 1) (and_mask (c.args.self.bits / 2 ^ c.args.number) 1);
  past = λ h. absurd (omega arith);
}

pub returns-else-number-lt-LIMIT : goal.returns-else-number-lt-LIMIT
returns-else-number-lt-LIMIT c =
    let m = c.args.self.bits in
    let fits : m < 2 ^ 64 = omega arith in
    let no = le-ltb c.args.number 64 (omega arith) in
    record { member = no ∙ sym (digit_past 64 m c.args.number fits (omega arith)); past = λ h. no }
