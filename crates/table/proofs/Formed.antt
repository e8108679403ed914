-- What a draft's ghost fields say of its contents.
use Rattle.std.proofs.Common.{◌≡◌, ℕ, suc, ◌%◌, ◌<◌, ◌≤◌, ◌⊎◌, refl, inl, inr, arith}
use Rattle.table.specs.declared.grade.Grade.{Grade}
use Rattle.table.specs.declared.grade.Grade.TheVariants.{Packing, Steiner}
use Rattle.table.specs.declared.table.Draft.{Draft}
use Rattle.table.specs.declared.table.Sizes.{Sizes}
use Rattle.table.specs.Contents.{Contents, Limits, points}
use Rattle.table.specs.Numbers.{grade_number}
use Rattle.table.specs.Held.{draft_contents}

pub record Formed (t : Contents) : Type 0 where
  pub limits : Limits t.v t.n t.k
  pub grades : (t.grade ≡ 1) ⊎ (t.grade ≡ 2)
  pub high : (i : ℕ) → t.point i < t.v
  pub ascends : (i : ℕ) → (suc i < points t) × (suc i % t.k ≡ 0 → ⊥) → t.point i < t.point (suc i)
  pub blank : (i : ℕ) → points t ≤ i → t.point i ≡ 0

pub one_or_two : (g : Grade) → (grade_number g ≡ 1) ⊎ (grade_number g ≡ 2)
one_or_two Packing = inl refl
one_or_two Steiner = inr refl

pub limits_of : (s : Sizes) → Limits s.v s.n s.k
limits_of s = record {
  v_low = s.checks.0;
  v_high = s.checks.1;
  n_low = s.records.0;
  n_high = omega (arith, s.records, s.checks);
  k_low = s.width.0;
  k_high = s.width.1;
  units = s.records.1;
  narrow = s.width.2;
}

pub formed : (d : Draft) → Formed (draft_contents d)
formed d = record {
  limits = limits_of d.sizes;
  grades = one_or_two d.grade;
  high = d.high;
  ascends = d.ascends;
  blank = d.blank;
}
