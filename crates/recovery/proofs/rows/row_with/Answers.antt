use Rattle.std.proofs.Common.{◌≡◌, ℕ, Bool, true, false, rules}
use borrow.Author.Tests.{tests}
use Rattle.std.proofs.lemmas.Iterator.{first_from_Range}
use Rattle.sets.specs.Members.{has}
use Rattle.recovery.specs.Groups.{at}
use Rattle.recovery.proofs.Elimination.{first_row}
use Rattle.recovery.proofs.rows.row_with.Goals as goal

pub returns : goal.returns
returns c =
    let has_unit : ℕ → Bool = λ k. has (at c.args.rows.now k) c.args.unit in
    first_row c.args.rows.now c.args.from c.args.unit c.find.result
    (first_from_Range _ _ _ _ (λ k. has_unit k ≡ true) (λ k. has_unit k ≡ false) c.find.ensures.ran (λ x q k. search (rules, tests)) (λ x q k. search (rules, tests)))
