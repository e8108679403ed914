-- Going through a set: one step leaves the other members.
use Rattle.std.proofs.Common.{◌≡◌, ℕ, true, false, not, ◌&&◌, eqb, sym, ap, ◌∙◌}
use mathlib.Core.Bool.{and-true}
use Rattle.std.proofs.lemmas.Bool.{and_parts, ne_eqb}
use Rattle.sets.specs.declared.set.SmallSet.{SmallSet}
use Rattle.sets.specs.Members.{has}
use Rattle.sets.specs.Steps.{Without}

module _ (s t : SmallSet) (i : ℕ) (without : Without s i t) where
  -- what is left was there before
  pub left_of : (j : ℕ) → has t j ≡ true → has s j ≡ true
  left_of j e = (and_parts (has s j) (not (eqb j i)) (sym (without j) ∙ e)).0

  -- what is not left, but for the one that came, was not there before
  pub out_before : (j : ℕ) → (j ≡ i → ⊥) → has t j ≡ false → has s j ≡ false
  out_before j ne e = sym (and-true (has s j)) ∙ ap (λ b. has s j && not b) (sym (ne_eqb j i ne)) ∙ sym (without j) ∙ e
