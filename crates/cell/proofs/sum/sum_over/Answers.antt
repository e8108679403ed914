use Rattle.std.proofs.Common.{◌≡◌, ℕ, List, get_or, sym, ap, ◌∙◌, ap₂}
use Rattle.sets.specs.declared.set.SmallSet.{SmallSet}
use Rattle.sets.specs.Members.{has}
use Rattle.sets.specs.Steps.{Empty, Least, Without, to_come}
use Rattle.sets.specs.Sums.{total}
use Rattle.sets.proofs.Sums.{unit_r}
use Rattle.cell.specs.Kinds.{Laws}
use Rattle.cell.proofs.Laws.{adds, total_none, total_alike, total_split, sum_laws}
use Rattle.cell.proofs.sum.sum_over.Goals as goal

-- the sum of the cells xs at the places of s
abbrev over : {C : Type 0} → C → (C → C → C) → List C → SmallSet → C
over o plus xs s = total o plus 64 (has s) (λ i. get_or xs i o)

-- x is the sum so far, and s the places that are still to come
module _ {C : Type 0} (o : C) (plus : C → C → C) (l : Laws o plus) (xs : List C) (x : C) (s : SmallSet) where
  -- the least place b comes and leaves the places t; with its cell v the sum is y
  taken : (t : SmallSet) (b : ℕ) (v y : C) → Least s b → Without s b t → v ≡ get_or xs b o → y ≡ plus x v → plus y (over o plus xs t) ≡ plus x (over o plus xs s)
  taken t b v y least without read e = ap (λ z. plus z (over o plus xs t)) e ∙ l.assoc x v (over o plus xs t) ∙ ap (plus x) whole
    where
      whole : plus v (over o plus xs t) ≡ over o plus xs s
      whole =
          ap₂ plus read (total_alike o plus l 64 (has t) _ (λ i. get_or xs i o) (λ i _. without i))
          ∙ sym (total_split o plus l 64 b (has s) (λ i. get_or xs i o) least.small least.member)

  -- no place is left of the places t
  ended : (t : SmallSet) → Empty s → plus x (over o plus xs s) ≡ over o plus xs t → x ≡ over o plus xs t
  ended t none inv = sym (ap (plus x) nothing ∙ unit_r o plus (adds l) x) ∙ inv
    where
      nothing : over o plus xs s ≡ o
      nothing = total_none o plus l 64 (has s) (λ i. get_or xs i o) (λ i _. none i)

pub loop-place-preserved-in-Some-get : goal.loop-place-preserved-in-Some-get
loop-place-preserved-in-Some-get g c =
    let k = g.C.Cell in
    let rest = to_come c.loop-place.place-iterator in
    let step = c.in-Some.ensures.steps in
    let read = c.in-Some-get.ensures.lookup.3.1 k.zero in
    taken k.zero k.sum k.laws c.args.cells.now c.loop-place.sum rest (to_come c.next.new.self) _ _ _ step.0 step.1 read c.plus-sum.ensures ∙ c.loop-place.invariant

pub returns : goal.returns
returns g c =
    let k = g.C.Cell in
    let xs = c.args.cells.now in
    let rest = to_come c.loop-place.place-iterator in
    let none = c.in-None.ensures.steps.0 in
    let all : to_come c.into_iter-place-iterator.result ≡ c.args.places = ap to_come c.into_iter-place-iterator.ensures.into_iter_gives ∙ c.iter-place-items.ensures in
    let value = ended k.zero k.sum k.laws xs c.loop-place.sum rest _ none c.loop-place.invariant ∙ ap (over k.zero k.sum xs) all in
    record { value = value; laws = sum_laws k.zero k.sum k.laws }
