use Rattle.std.proofs.Common.{◌≡◌, ℕ, ◌+◌, ◌-◌, ◌*◌, ◌<◌, ◌≤◌, sym, refl, ap, ◌∙◌, ap₂, ⊎_elim, arith}
use Rattle.std.proofs.lemmas.Bool.{cases_lt}
use Rattle.std.proofs.lemmas.Grind.{get_or-set_at}
use Rattle.std.proofs.lemmas.List.{get_or-set_other, length-set}
use Rattle.table.specs.declared.fault.TableFault.TheVariants.{Point}
use Rattle.table.specs.Place.{byte, many, lowest}
use Rattle.table.proofs.Faults.{fits_parts}
use Rattle.table.proofs.Sizes.{place_below}
use Rattle.table.proofs.Points.{low_block, low_further}
use Rattle.table.proofs.Places.{high_point, misfit_point}
use Rattle.table.proofs.Readers.{asked, on_more}
use Rattle.table.proofs.table.Reader.block.Goals as goal

pub loop-point-init : goal.loop-point-init
loop-point-init c =
    let r = c.args.self.now in
    let bs = r.bytes.now in
    let p = c.requires.place in
    record {
      reads = λ j h. absurd (omega arith);
      low_so = λ h. sym (low_block bs p.0 p.1 (omega (arith, c.requires.k_is))) ∙ ap (lowest bs) (omega (arith, p.2));
      on = record { same = refl; place = omega arith };
    }

pub overflow_sub-v : goal.overflow_sub-v
overflow_sub-v c =
    let r = c.args.self.now in
    let two = (fits_parts r.bytes.now 1 (r.passed.fitting 1 (omega (arith, c.requires.place.2)))).1 in
    omega (arith, two, c.requires.v_is)

pub take-requires : goal.take-requires
take-requires c =
    let r = c.args.self.now in
    let bs = r.bytes.now in
    let p = c.requires.place in
    let i = c.loop-point.point-index in
    let l = c.loop-point.invariant in
    let range = c.new.ensures in
    let j : ℕ = p.0 * byte bs 3 + i in
    let h : j < many bs = place_below p.0 (byte bs 2) (byte bs 3) i p.1 (omega (arith, c.requires.k_is, c.loop-point-test.true)) in
    asked bs (5 + j) Point c.loop-point.self c.new.result l.on.same (omega (arith, l.on.place, p.2)) (omega arith) (misfit_point bs j h)
    (ap (lowest bs) (omega (arith, p.2)) ∙ sym (l.low_so (omega (arith, c.loop-point-test.true, c.loop-point.auto.block))) ∙ sym range.start)
    (high_point bs j h ∙ ap (λ x. x - 1) (sym c.requires.v_is) ∙ sym range.end)
    range.exhausted

pub loop-point-preserved : goal.loop-point-preserved
loop-point-preserved c =
    let r = c.args.self.now in
    let bs = r.bytes.now in
    let p = c.requires.place in
    let i = c.loop-point.point-index in
    let l = c.loop-point.invariant in
    let g = c.in_ok-point.ensures in
    let b = c.in_ok-point.field-0 in
    let long = c.loop-point.auto.block in
    let is : b ≡ byte bs (r.at + i) = g.is ∙ ap₂ byte l.on.same l.on.place in
    record {
      reads = λ j h.
          ⊎_elim
          (λ (q : j < i). get_or-set_other c.loop-point.block i j b 0 (λ e. absurd (omega arith)) ∙ l.reads j q)
          (λ (q : i ≤ j). get_or-set_at c.loop-point.block i j b 0 (omega arith) (omega (arith, long, c.loop-point-test.true)) ∙ is ∙ ap (λ x. byte bs (r.at + x)) (omega arith))
          (cases_lt j i);
      low_so = λ h.
          ap (λ x. x + 1) is ∙ ap (λ x. byte bs x + 1) (omega (arith, p.2))
          ∙ sym (low_further bs p.0 i p.1 (omega (arith, h, long, c.requires.k_is, length-set c.loop-point.block i b)))
          ∙ ap (lowest bs) (omega (arith, p.2));
      on = on_more r c.loop-point.self c.take.new.self i 1 l.on g.on;
    }
