use Rattle.std.proofs.Common.{◌≡◌, suc, ◌+◌, ◌-◌, ◌*◌, ◌/◌, ◌^◌, ◌<◌, sym, ap, ◌∙◌, subst, arith}
use Rattle.risk.specs.Choose.{choose}
use Rattle.risk.proofs.Binomials.{choose_none, choose_quotient, product_fits}
use Rattle.risk.proofs.choose.Goals as goal

pub loop-chosen-init : goal.loop-chosen-init
loop-chosen-init c = sym (choose_none c.args.units)

pub overflow_mul-sets : goal.overflow_mul-sets
overflow_mul-sets c =
    let n = c.args.units in
    let k = c.loop-chosen.chosen in
    let fits : choose n k * (n - k) < 2 ^ 64 = product_fits n k (omega arith) (omega arith) in
    let e : c.loop-chosen.sets * (n - k) ≡ choose n k * (n - k) = ap (λ x. x * (n - k)) c.loop-chosen.invariant in
    omega arith

pub loop-chosen-preserved : goal.loop-chosen-preserved
loop-chosen-preserved c =
    let n = c.args.units in
    let k = c.loop-chosen.chosen in
    let next : suc k ≡ k + 1 = omega arith in
    ap (λ x. x * (n - k) / (k + 1)) c.loop-chosen.invariant
    ∙ subst (λ m. choose n k * (n - k) / m ≡ choose n m) next (choose_quotient n k (omega arith))
