use Rattle.std.proofs.Common.{◌≡◌, ℕ, List, [], ◌∷◌, ◌++◌, length, take, drop, sym, refl, ap, ◌∙◌, ap₂, arith, rules, length-take-le, get_or-take}
use Rattle.table.specs.Contents.{points}
use Rattle.table.specs.Held.{contents}
use Rattle.table.proofs.Rounds.{bytes_length}
use Rattle.table.proofs.Writes.{copies, sections, written}
use Rattle.table.proofs.Sizes.{few_points}
use Rattle.table.proofs.Formed.{limits_of}
use Rattle.table.proofs.table.Table.write.Goals as goal

pub returns-then-out-size : goal.returns-then-out-size
returns-then-out-size c =
    let l = bytes_length (contents c.args.self.now) in
    let t = c.args.self.now.draft in
    let most = few_points (limits_of t.sizes) in
    record { short = omega (arith, c.size-size.ensures); limit = omega (arith, c.size-size.ensures); kept = refl }

pub returns : goal.returns
returns c =
    let self = c.args.self.now in
    let d = self.draft in
    let t = contents self in
    let z = d.sizes in
    let old = c.args.out.now in
    let m = c.points-points.result in
    let s = c.size-size.result in
    let ps : List ℕ = take m d.points in
    let most = few_points (limits_of z) in
    let long : length ps ≡ points t = length-take-le m d.points (omega (arith, d.room)) ∙ c.points-points.ensures in
    let head : c.copy_from_slice.new.self ≡ 3 ∷ z.v ∷ z.n ∷ z.k ∷ z.n ∷ [] = search rules in
    let mid : c.copy_from_slice-2.new.self ≡ ps = search rules in
    let tail : c.copy_from_slice-3.new.self ≡ 1 ∷ t.grade ∷ [] = search rules in
    let bytes = sections t ps long (λ i h. get_or-take m d.points i 0 (omega arith)) in
    let new = copies old c.copy_from_slice.new.self c.copy_from_slice-2.new.self c.copy_from_slice-3.new.self m s (ap length head) (ap length mid ∙ long ∙ sym c.points-points.ensures) (ap length tail) (omega arith) c.if-out-size.false in
    written self old _ s (new ∙ ap (λ x. x ++ drop s old) (ap₂ (λ x y. x ++ y) (ap₂ (λ x y. x ++ y) head mid) tail ∙ bytes)) c.size-size.ensures c.if-out-size.false
