-- The points of a contents's blocks.
use Rattle.std.proofs.Common.{◌≡◌, ℕ, ◌+◌, ◌*◌, ◌<◌, ◌≤◌, Bool, true, false, ◌&&◌, eqb, ltb, leb, List, length, slice_index, sym, ap, ◌∙◌, ap₂, ⊎_elim, arith}
use Rattle.std.specs.List.{list_any, between}
use Rattle.std.proofs.lemmas.List.Edits.{length-between, get_or-between}
use Rattle.std.proofs.lemmas.Bool.{cases_Bool, eqb-true, and_left}
use Rattle.sets.specs.Members.{has}
use Rattle.sets.specs.Sums.{count}
use Rattle.sets.proofs.Bits.{eq_below}
use Rattle.table.specs.Ranges.{some}
use Rattle.table.specs.Parts.{High}
use Rattle.table.specs.Contents.{Contents, has_point, shared}
use Rattle.sets.proofs.Sums.{count_same, count_past}
use Rattle.sets.specs.declared.set.SmallSet.{SmallSet}
use Rattle.table.specs.Answers.{PointsOf}
use Rattle.table.proofs.Sizes.{next_block, block_end}
use Rattle.table.proofs.Ranges.{some_where, some_list}

module _ (t : Contents) (high : (i : ℕ) → t.point i < t.v) where
  pub within : (d p : ℕ) → has_point t d p ≡ true → p < t.v
  unfolding has_point
  within d p h =
      let w = some_where (λ j. eqb p (t.point (d * t.k + j))) t.k h in
      omega (arith, eqb-true p (t.point (d * t.k + w.0)) w.2, high (d * t.k + w.0))

  beyond : (d p : ℕ) → t.v ≤ p → has_point t d p ≡ false
  beyond d p l = ⊎_elim (λ h. let w = within d p h in absurd (omega arith)) (λ h. h) (cases_Bool (has_point t d p))

  -- sets with the points of two blocks have at most one point in common exactly if the blocks share at most one
  pub apart_is : (d : ℕ) (a : SmallSet) → t.v ≤ 64 → PointsOf t d a → (e m : ℕ) (b i : SmallSet) (r : Bool) → r ≡ leb m 1 → m ≡ count 64 (has i) → ((p : ℕ) → has i p ≡ (has a p && has b p)) → PointsOf t e b → r ≡ leb (shared t d e) 1
  apart_is d a l f e m b i r q c h g =
      q
      ∙ ap (λ x. leb x 1)
      (c
      ∙ count_same 64 (has i) (λ p. has_point t d p && has_point t e p) (λ p _. h p ∙ ap₂ (λ x y. x && y) (f p) (g p))
      ∙ count_past t.v 64 (λ p. has_point t d p && has_point t e p) l (λ p q. and_left (has_point t d p) (has_point t e p) (beyond d p q)))

-- a point is in the list of block d's points exactly if the block has it
pub in_block : (ps : List ℕ) (v d n k p : ℕ) → High v ps → v ≤ 64 → d < n → n * k ≤ length ps → list_any (λ x. eqb p x && ltb p 64) (between (d * k) ((d + 1) * k) ps) ≡ some (λ j. eqb p (slice_index ps (d * k + j))) k
in_block ps v d n k p high small below room =
    let ys : List ℕ = between (d * k) ((d + 1) * k) ps in
    let next = next_block d k in
    let most = block_end d n k below in
    let long : length ys ≡ k = length-between ps (d * k) ((d + 1) * k) (omega arith) ∙ omega arith in
    some_list (λ x. eqb p x && ltb p 64) (λ j. eqb p (slice_index ps (d * k + j))) ys
    (λ j l. eq_below p (slice_index ps (d * k + j)) 64 (omega (arith, high (d * k + j))) ∙ ap (λ x. eqb p x && ltb p 64) (sym (get_or-between ps (d * k) ((d + 1) * k) j 0 (omega arith))))
    ∙ ap (some (λ j. eqb p (slice_index ps (d * k + j)))) long
