-- Bytes as cells.
use Rattle.std.specs.Prelude.{bit_xor}
use Rattle.std.proofs.Common.{arith}
use Rattle.std.specs.Int.Bits.{xor_assoc, xor_zero_l, xor_self}
use Rattle.std.proofs.lemmas.Nat.{xor_comm}
use Rattle.cell.specs.Kinds.{Laws}

-- bytes, and all numbers, are a kind of cells under exclusive or
pub byte_laws : Laws 0 bit_xor
byte_laws = record { assoc = xor_assoc; comm = xor_comm; unit = xor_zero_l; self = xor_self; some = (1, λ e. omega arith) }
