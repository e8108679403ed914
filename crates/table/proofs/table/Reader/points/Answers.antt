use Rattle.std.proofs.Common.{◌≡◌, ◌+◌, ◌-◌, ◌*◌, ◌≤◌, length, refl, ◌∙◌, ap₂, arith, rules}
use Rattle.std.proofs.lemmas.Slice.{overwrites}
use Rattle.table.specs.Place.{byte}
use Rattle.table.proofs.Sizes.{next_block, block_end, few_points}
use Rattle.table.proofs.Formed.{limits_of}
use Rattle.table.proofs.Points.{filled_none, filled_more}
use Rattle.table.proofs.Readers.{on_more}
use Rattle.table.proofs.table.Reader.points.Goals as goal

pub loop-d-init : goal.loop-d-init
loop-d-init c = record { filled = filled_none _ 496 _ (omega arith); room = refl; on = record { same = refl; place = omega arith } }

pub loop-d-preserved : goal.loop-d-preserved
loop-d-preserved c =
    let r = c.args.self.now in
    let k = c.args.sizes.k in
    let d = c.loop-d.d in
    let l = c.loop-d.invariant in
    let b = c.in_ok-block.ensures in
    let ps = c.block.new.block in
    let next = next_block d k in
    let last = block_end d c.args.sizes.n k c.loop-d-test.true in
    let room : (d + 1) * k ≤ length c.loop-d.points = omega (arith, last, l.room, few_points (limits_of c.args.sizes)) in
    let on = on_more r c.loop-d.self c.block.new.self (d * k) (length ps) l.on b.on in
    let long : length ps ≡ (d + 1) * k - d * k = search rules in
    record {
      filled = filled_more r.bytes.now c.loop-d.points ps (d * k) ((d + 1) * k) l.filled (omega arith) room long
          (λ j h. b.are j h ∙ ap₂ byte l.on.same (omega (arith, l.on.place, c.requires.place)));
      room = search (rules, overwrites);
      on = record { same = on.same; place = omega (arith, on.place) };
    }
