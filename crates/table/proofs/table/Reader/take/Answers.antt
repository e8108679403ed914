use Rattle.std.proofs.Common.{◌≡◌, ◌<◌, ◌≤◌, ◌⊎◌, false, Some, ap, ◌∙◌, ⊎_elim, arith, rules}
use borrow.Author.Tests.{tests}
use Rattle.std.specs.Range.{range_inclusive_start, range_inclusive_end}
use Rattle.table.specs.Place.{fits}
use Rattle.table.proofs.Faults.{misfit_at, passed_more, fits_from, low_not, high_not}
use Rattle.table.proofs.table.Reader.take.Goals as goal

pub returns-then-not-contains : goal.returns-then-not-contains
returns-then-not-contains c =
    let r = c.args.self.now in
    let bs = r.bytes.now in
    let n = c.in_ok-byte.ensures in
    let b = c.in_ok-byte.byte in
    let out : (b < range_inclusive_start c.args.values) ⊎ (range_inclusive_end c.args.values < b) = search (rules, tests) in
    let no_fit : fits bs r.at ≡ false =
    ⊎_elim (λ h. low_not bs r.at (omega (arith, c.requires.low_is, n.is))) (λ h. high_not bs r.at (omega (arith, c.requires.high_is, n.is))) out in
    misfit_at bs r.at r.passed n.there no_fit ∙ ap Some c.requires.wrong_is

pub invariant_of-self : goal.invariant_of-self
invariant_of-self c =
    let r = c.args.self.now in
    let bs = r.bytes.now in
    let n = c.in_ok-byte.ensures in
    let b = c.in_ok-byte.byte in
    let low : range_inclusive_start c.args.values ≤ b = search (rules, tests) in
    let high : b ≤ range_inclusive_end c.args.values = search (rules, tests) in
    record { passed = passed_more bs r.at r.passed n.there (fits_from bs r.at c.requires.inside (omega (arith, n.is)) (omega (arith, n.is))) }
