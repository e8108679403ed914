use Rattle.std.proofs.Common.{arith}
use Rattle.planner.proofs.Lines.{first_of, one_more, first_bad}
use Rattle.planner.proofs.listing.bytes_of.Goals as goal

pub loop-word-preserved : goal.loop-word-preserved
loop-word-preserved c =
    let first = first_of _ c.in-Some.word.now _ c.in-Some.ensures.steps in
    let byte = rw c.in-Some.word-is at c.in-Ok.ensures in
    one_more c.loop-word.invariant first byte c.in_ok-push-in-Ok.ensures.items

pub returns-in-Err : goal.returns-in-Err
returns-in-Err c =
    let first = first_of _ c.in-Some.word.now _ c.in-Some.ensures.steps in
    first_bad c.loop-word.invariant _ c.in_ok-word-in-Err.ensures.ok first c.in-Err.ensures (omega (arith, c.len-number.ensures, c.loop-word.bytes.ok.0))
