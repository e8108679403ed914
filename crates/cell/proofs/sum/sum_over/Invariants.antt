use Rattle.std.proofs.Common.{◌≡◌, get_or}
use Rattle.sets.specs.declared.set.SmallSet.{SmallSet}
use Rattle.sets.specs.Members.{has}
use Rattle.sets.specs.Steps.{to_come}
use Rattle.sets.specs.Sums.{total}
use Rattle.cell.proofs.sum.sum_over.Given as goal

-- the sum so far, plus the sum over the places that are still to come, is the sum over all
abbrev pub invariant-loop-place : goal.invariant-loop-place
invariant-loop-place g l =
    let k = g.C.Cell in
    let over : SmallSet → g.row.C.Denot = λ s. total k.zero k.sum 64 (has s) (λ i. get_or l.cells i k.zero) in
    k.sum l.sum (over (to_come l.place-iterator)) ≡ over (to_come l.initial.place-iterator)
