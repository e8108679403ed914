use Rattle.std.proofs.Common.{◌≡◌, ◌+◌, ◌<◌, length, get_or, ℕ}
use Rattle.table.specs.Place.{byte, lowest}
use Rattle.table.specs.Stages.{On}
use Rattle.table.proofs.table.Reader.block.Given as goal

abbrev pub invariant-loop-point : goal.invariant-loop-point
invariant-loop-point l = record {
  reads : (j : ℕ) → j < l.point-index → get_or l.block j 0 ≡ byte l.fn.self.bytes.now (l.fn.self.at + j);
  low_so : l.point-index < length l.block → l.low ≡ lowest l.fn.self.bytes.now (l.fn.self.at + l.point-index);
  on : On l.fn.self l.self l.point-index;
}
