use Rattle.std.proofs.Common.{◌≡◌, ℕ, ◌<◌, ltb, sym, ◌∙◌, ⊎_elim, arith, rules}
use Rattle.std.proofs.lemmas.Bool.{cases_lt, le-ltb}
use borrow.Author.Tests.{tests}
use Rattle.sets.specs.Members.{has}
use Rattle.table.specs.Held.{contents}
use Rattle.table.proofs.Validity.{valid_table}
use Rattle.recovery.specs.Groups.{units}
use Rattle.recovery.proofs.layout.Layout.new.Goals as goal

pub invariant_of-result : goal.invariant_of-result
invariant_of-result c =
    let table = c.args.table in
    let asked : (u : ℕ) → u < 64 → has c.from_fn.result u ≡ ltb u (units (contents table)) = λ u l. let k = c.from_fn.ensures.passing u l in search (rules, tests) in
    record {
      room = c.groups.ensures.wide;
      all = λ u. ⊎_elim
          (asked u)
          (λ past. c.from_fn.ensures.past u past ∙ sym (le-ltb u (units (contents table)) (omega (arith, (valid_table table).limits.units))))
          (cases_lt u 64);
      grouped = c.groups.ensures.grouped;
    }
