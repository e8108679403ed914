use Rattle.std.proofs.Common.{length, sym, ap, ◌∙◌, subst}
use Rattle.sets.specs.Parity.{oddly}
use Rattle.recovery.specs.Rows.{Leads}
use Rattle.recovery.proofs.Balancing.{balance_stays, balance_adds, least_leads, shares_one, turn}
use Rattle.recovery.proofs.rows.balance.Goals as goal

pub loop-pivot-preserved : goal.loop-pivot-preserved
loop-pivot-preserved c =
    let left = c.loop-pivot.pivot-iterator.iter.rest.now in
    let t = turn c.args.pivots.now left _ _ c.loop-pivot.invariant.left c.in-Some.ensures.steps in
    record {
      left = t.1.then;
      balanced = balance_stays _ _ _ _ (length left) _ t.0 _ c.loop-pivot.invariant.balanced (ap (oddly c.loop-pivot.set) t.1.here ∙ sym c.if-meets_oddly.ensures);
    }

pub loop-pivot-preserved-in-Some-least : goal.loop-pivot-preserved-in-Some-least
loop-pivot-preserved-in-Some-least c =
    let left = c.loop-pivot.pivot-iterator.iter.rest.now in
    let t = turn c.args.pivots.now left _ _ c.loop-pivot.invariant.left c.in-Some.ensures.steps in
    let least = c.in-Some-least.ensures in
    let lead = least_leads c.args.asked c.in-Some.pivot.now c.intersection.result c.in-Some-least.lead c.intersection.ensures least in
    record {
      left = t.1.then;
      balanced = balance_adds _ _ _ _ (length left) _ t.0 _ c.loop-pivot.invariant.balanced c.requires.shape c.requires.unit.1 t.1.inside
          (ap (oddly c.loop-pivot.set) t.1.here ∙ sym c.if-meets_oddly.ensures) c.in-Some-least.lead least.small
          (subst (λ p. Leads c.args.asked p c.in-Some-least.lead) (sym t.1.here) lead) c.with-set.result c.with-set.ensures;
    }

pub loop-pivot-preserved-in_default : goal.loop-pivot-preserved-in_default
loop-pivot-preserved-in_default c =
    let t = turn c.args.pivots.now c.loop-pivot.pivot-iterator.iter.rest.now _ _ c.loop-pivot.invariant.left c.in-Some.ensures.steps in
    let lead = c.requires.shape.leads _ t.1.inside in
    absurd (shares_one c.args.asked c.in-Some.pivot.now c.intersection.result lead.0 c.intersection.ensures (subst (λ p. Leads c.args.asked p lead.0) t.1.here lead.1) c.in_default.ensures)
