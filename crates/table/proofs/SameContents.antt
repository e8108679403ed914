-- When two plans are the same.
use Rattle.std.proofs.Common.{◌≡◌, ℕ}
use Rattle.table.specs.Contents.{Contents}

pub same_contents : (a b : Contents) → a.v ≡ b.v → a.n ≡ b.n → a.k ≡ b.k → a.grade ≡ b.grade → ((i : ℕ) → a.point i ≡ b.point i) → a ≡ b
same_contents a b p q r s f = λ i. record { v = p i; n = q i; k = r i; grade = s i; point = λ j. f j i }
