use Rattle.std.proofs.Common.{◌+◌, ◌-◌, arith}
use Rattle.std.proofs.num.Orders.{Bool-small}
use Rattle.recovery.specs.Layouts.{laid_out}
use Rattle.risk.proofs.Binomials.{choose_zero, choose_next, choose_part, choose_grows}
use Rattle.risk.proofs.Search.{found_none, found_more, found_one, clear_with}
use Rattle.risk.proofs.+deadly.Goals as goal

pub returns-then-more-eq0 : goal.returns-then-more-eq0
returns-then-more-eq0 t c = record {
  found = found_one (laid_out c.args.layout.now) c.args.missing c.args.below c.requires.clear c.loses.result c.args.more c.from.result (omega arith) c.from.ensures c.loses.ensures;
  few = omega (arith, c.from.ensures, Bool-small c.loses.result, choose_zero c.args.below c.args.more (omega arith));
}

pub loop-highest-init : goal.loop-highest-init
loop-highest-init t c = (found_none (laid_out c.args.layout.now) c.args.missing c.args.more (omega arith), omega arith)

pub deadly-sum-requires : goal.deadly-sum-requires
deadly-sum-requires t c = (
  omega arith,
  (
    omega arith,
    (
      clear_with c.args.missing c.with.result c.loop-highest.highest (λ i l. c.requires.clear i (omega arith)) c.with.ensures,
      omega (arith, choose_part c.loop-highest.highest c.args.below (c.args.more - 1) c.args.more (omega arith) (omega arith)),
    ),
  ),
)

pub overflow_add-sum : goal.overflow_add-sum
overflow_add-sum t c =
    let next = choose_next c.loop-highest.highest (c.loop-highest.highest + 1) (c.args.more - 1) c.args.more (omega arith) (omega arith) in
    omega (arith, c.deadly-sum.ensures.few, choose_grows (c.loop-highest.highest + 1) c.args.below c.args.more (omega arith))

pub loop-highest-preserved : goal.loop-highest-preserved
loop-highest-preserved t c =
    let next = choose_next c.loop-highest.highest (c.loop-highest.highest + 1) (c.args.more - 1) c.args.more (omega arith) (omega arith) in (
      found_more (laid_out c.args.layout.now) c.args.missing c.with.result c.loop-highest.highest (c.loop-highest.highest + 1) (c.args.more - 1) c.args.more c.loop-highest.sum c.deadly-sum.result
          (omega arith) (omega arith) (omega arith) (c.requires.clear c.loop-highest.highest (omega arith)) c.with.ensures c.loop-highest.invariant.0 c.deadly-sum.ensures.found,
      omega (arith, c.deadly-sum.ensures.few),
    )
