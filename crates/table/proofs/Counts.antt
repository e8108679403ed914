-- How many points an ascending block has.
use Rattle.std.proofs.Common.{◌≡◌, ℕ, zero, suc, ◌<◌, Bool, false, eqb, refl, ap, ◌∙◌, arith}
use Rattle.std.proofs.lemmas.Bool.{ne_eqb, or_from}
use Rattle.sets.specs.Sums.{count}
use Rattle.sets.proofs.Sums.{count_none, count_with}
use Rattle.table.specs.Ranges.{some}

pub some_not : (t : ℕ → Bool) (n : ℕ) → ((j : ℕ) → j < n → t j ≡ false) → some t n ≡ false
unfolding some
some_not t zero h = refl
some_not t (suc n) h = or_from (some t n) (t n) (some_not t n (λ j b. h j (omega arith))) (h n (omega arith))

-- k ascending numbers below v are k numbers
pub count_ascending : (a : ℕ → ℕ) (v k : ℕ) → ((j : ℕ) → j < k → a j < v) → ((i j : ℕ) → i < j → j < k → a i < a j) → count v (λ p. some (λ j. eqb p (a j)) k) ≡ k
unfolding some
count_ascending a v zero h g = count_none v (λ p. false) (λ p _. refl)
count_ascending a v (suc k) h g =
    let out = some_not (λ j. eqb (a k) (a j)) k (λ j b. let l = g j k b (omega arith) in ne_eqb (a k) (a j) (λ q. omega arith)) in
    count_with v (a k) (λ p. some (λ j. eqb p (a j)) k) (h k (omega arith)) out
    ∙ ap suc (count_ascending a v k (λ j b. h j (omega arith)) (λ i j x y. g i j x (omega arith)))
