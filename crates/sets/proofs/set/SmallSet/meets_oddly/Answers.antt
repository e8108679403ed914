use Rattle.std.proofs.Common.{ap, ◌∙◌}
use Rattle.sets.specs.Members.{odd}
use Rattle.sets.proofs.Sums.{count_same}
use Rattle.sets.proofs.set.SmallSet.meets_oddly.Goals as goal

pub returns : goal.returns
unfolding odd
returns c = ap odd (c.len.ensures ∙ count_same 64 _ _ (λ i _. c.intersection.ensures i))
