use Rattle.std.proofs.Common.{◌≡◌, ◌-◌, min, sym, refl, ap, ◌∙◌, ap₂, arith}
use Rattle.table.specs.declared.fault.TableFault.TheVariants.{Size}
use Rattle.table.specs.Place.{byte}
use Rattle.table.proofs.Places.{misfit_early}
use Rattle.table.proofs.Readers.{asked}
use Rattle.table.proofs.table.Reader.sizes.Goals as goal

pub size-requires : goal.size-requires
size-requires c =
    let bs = c.args.self.now.bytes.now in
    let range = c.new.ensures in
    asked bs 0 Size c.args.self.now c.new.result refl c.requires (omega arith) (misfit_early bs 0 (omega arith)) (sym range.start) (sym range.end) range.exhausted

pub size-requires-2 : goal.size-requires-2
size-requires-2 c =
    let bs = c.args.self.now.bytes.now in
    let range = c.new-2.ensures in
    let on = c.in_ok-size.ensures.on in
    asked bs 1 Size c.size.new.self c.new-2.result on.same (omega arith) (omega arith) (misfit_early bs 1 (omega arith)) (sym range.start) (sym range.end) range.exhausted

pub size-requires-3 : goal.size-requires-3
size-requires-3 c =
    let bs = c.args.self.now.bytes.now in
    let range = c.new-3.ensures in
    let first = c.in_ok-size.ensures in
    let v = c.in_ok-v.ensures in
    let v_is : c.in_ok-v.v ≡ byte bs 1 = v.is ∙ ap₂ byte first.on.same (omega arith) in
    asked bs 2 Size c.size-2.new.self c.new-3.result (v.on.same ∙ first.on.same) (omega arith) (omega arith) (misfit_early bs 2 (omega arith))
    (sym range.start) (ap (λ x. min (64 - x) 62) (sym v_is) ∙ sym c.min.ensures ∙ sym range.end) range.exhausted

pub size-requires-4 : goal.size-requires-4
size-requires-4 c =
    let bs = c.args.self.now.bytes.now in
    let range = c.new-4.ensures in
    let first = c.in_ok-size.ensures in
    let v = c.in_ok-v.ensures in
    let n = c.in_ok-n.ensures in
    let v_is : c.in_ok-v.v ≡ byte bs 1 = v.is ∙ ap₂ byte first.on.same (omega arith) in
    asked bs 3 Size c.size-3.new.self c.new-4.result (n.on.same ∙ v.on.same ∙ first.on.same) (omega arith) (omega arith) (misfit_early bs 3 (omega arith))
    (sym range.start) (ap (λ x. min x 8) (sym v_is) ∙ sym c.min-2.ensures ∙ sym range.end) range.exhausted

pub size-requires-5 : goal.size-requires-5
size-requires-5 c =
    let bs = c.args.self.now.bytes.now in
    let range = c.new-5.ensures in
    let first = c.in_ok-size.ensures in
    let v = c.in_ok-v.ensures in
    let n = c.in_ok-n.ensures in
    let k = c.in_ok-k.ensures in
    let n_is : c.in_ok-n.n ≡ byte bs 2 = n.is ∙ ap₂ byte (v.on.same ∙ first.on.same) (omega arith) in
    asked bs 4 Size c.size-4.new.self c.new-5.result (k.on.same ∙ n.on.same ∙ v.on.same ∙ first.on.same) (omega arith) (omega arith) (misfit_early bs 4 (omega arith))
    (sym n_is ∙ sym range.start) (sym n_is ∙ sym range.end) range.exhausted
