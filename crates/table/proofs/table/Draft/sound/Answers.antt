use Rattle.std.proofs.Common.{◌≡◌, sym, rules}
use Rattle.table.specs.Numbers.{grade_number}
use Rattle.table.specs.Held.{draft_contents}
use Rattle.table.proofs.Clashes.{clash_pair, clash_near, clash_cover, clash_none}
use Rattle.table.proofs.table.Draft.sound.Goals as goal
use Rattle.table.proofs.table.Draft.sound.Goals.{else-eq-via-else-eq, else-eq-via-then-eq+in-None-1}

pub returns-in-Some : goal.returns-in-Some
returns-in-Some c = let e = c.in-Some.ensures in sym (clash_pair (draft_contents c.args.self.now) c.in-Some.block e.0 e.1)

pub returns : goal.returns
returns c =
    let e = c.in-Some-first_loose.ensures in
    let two : grade_number c.args.self.now.grade ≡ 2 = search rules in
    sym (clash_cover (draft_contents c.args.self.now) c.in-Some-first_loose.point c.in_default.ensures two e.0 e.1)

pub returns-2 : goal.returns-2
returns-2 c =
    let t = draft_contents c.args.self.now in
    elim c.else-eq.branch [
      | else-eq-via-else-eq w ↦ let one : grade_number c.args.self.now.grade ≡ 1 = search rules in sym (clash_near t c.in_default.ensures one)
      | else-eq-via-then-eq+in-None-1 w ↦ sym (clash_none t c.in_default.ensures (search rules))
    ]
