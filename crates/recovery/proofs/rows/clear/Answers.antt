use Rattle.std.proofs.Common.{◌∙◌, sym, subst, arith}
use Rattle.std.proofs.lemmas.List.{places, set-get_or}
use Rattle.recovery.proofs.Elimination.{Clearing, clearing_keeps, clearing_adds, cleared}
use Rattle.recovery.proofs.rows.clear.Goals as goal
use Rattle.recovery.proofs.rows.clear.Goals.{then-contains, else-contains}

pub loop-other-preserved : goal.loop-other-preserved
loop-other-preserved c = elim c.if-contains.branch [
  | then-contains w ↦ subst (Clearing _ _ _ _) (sym w.other-items-is)
      (clearing_adds _ _ _ _ _ c.loop-other.invariant (sym w.if-contains.ensures.member) (omega arith) w.symmetric_difference.result w.symmetric_difference.ensures.members)
  | else-contains w ↦ subst (Clearing _ _ _ _) (sym (w.other-items-is ∙ set-get_or _ _ _))
      (clearing_keeps _ _ _ _ _ c.loop-other.invariant (sym w.if-contains.ensures.member))
]

pub returns : goal.returns
returns c = cleared c.args.pivot c.args.unit c.loop-other.other-index c.args.rows.now c.loop-other.other-items c.requires c.loop-other.invariant (grind (arith, places))
