-- Passages of lift gates as cells.
use Rattle.std.specs.Prelude.{bit_xor}
use Rattle.std.proofs.Common.{ap, arith}
use Rattle.std.specs.Int.Bits.{xor_assoc, xor_zero_l, xor_self}
use Rattle.std.proofs.lemmas.Nat.{xor_comm}
use Rattle.cell.specs.Kinds.{Laws}
use Rattle.cell.specs.declared.passage.Passage.{Passage}

-- the passage whose every field is 0
abbrev pub no_passage : Passage
no_passage = record { gate = 0; pass = 0; stamp = 0; fare = 0 }

-- the exclusive or of two passages, field by field
abbrev pub passage_sum : Passage → Passage → Passage
passage_sum x y = record {
  gate = bit_xor x.gate y.gate;
  pass = bit_xor x.pass y.pass;
  stamp = bit_xor x.stamp y.stamp;
  fare = bit_xor x.fare y.fare;
}

-- passages are a kind of cells under that sum
pub passage_laws : Laws no_passage passage_sum
passage_laws = record {
  assoc = λ x y z. simp xor_assoc;
  comm = λ x y. cc (xor_comm x.gate y.gate, xor_comm x.pass y.pass, xor_comm x.stamp y.stamp, xor_comm x.fare y.fare);
  unit = λ x. simp xor_zero_l;
  self = λ x. simp xor_self;
  some = (record { gate = 1; pass = 0; stamp = 0; fare = 0 }, λ e. let z = ap (λ (p : Passage). p.gate) e in omega arith);
}
