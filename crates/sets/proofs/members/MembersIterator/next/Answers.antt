use Rattle.std.proofs.Common.{◌≡◌, ℕ, suc, ◌<◌, not, ◌&&◌, eqb, sym, ap, ◌∙◌, arith, rules}
use Rattle.sets.specs.declared.set.SmallSet.{SmallSet}
use Rattle.sets.specs.Members.{has}
use Rattle.sets.specs.Sums.{count}
use Rattle.sets.proofs.Sums.{count_without, count_same}
use Rattle.sets.proofs.members.MembersIterator.next.Goals as goal
use Rattle.std.proofs.iter.Next.{firm}

less : (m n : ℕ) → m ≡ suc n → n < m
less m n e = omega arith

pub returns-clause-goes : goal.returns-clause-goes
returns-clause-goes c =
    let left : SmallSet → ℕ = λ s. count 64 (has s) in
    let s = c.args.self.now.rest in
    let t = c.without-self.result in
    let i = c.in_ok-least.least in
    let l = c.in_ok-least.ensures in
    let e : left s ≡ suc (left t) =
    count_without 64 i (has s) l.small l.member ∙ sym (ap suc (count_same 64 (has t) (λ j. has s j && not (eqb j i)) (λ j _. c.without-self.ensures j))) in
    firm (tt, tt, less (left s) (left t) e) (λ h. search rules)
