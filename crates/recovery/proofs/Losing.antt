-- The record units that are lost, among the missing units.
use Rattle.std.proofs.Common.{◌≡◌, ℕ, ◌<◌, Bool, true, false, eqb, refl, ⊎_elim, arith}
use Rattle.std.proofs.lemmas.Bool.{cases_Bool, both_ways, not_from_false, eqb-true}
use Rattle.sets.specs.declared.set.SmallSet.{SmallSet}
use Rattle.sets.specs.Members.{has}
use Rattle.cell.specs.Kinds.{Laws}
use Rattle.table.specs.Contents.{Contents}
use Rattle.recovery.specs.Answers.{but, HasLoss, HasRecipe, LostRecords}
use Rattle.recovery.proofs.Solving.{itself}

-- b says whether unit d is a record unit that is lost
abbrev pub Told : {C : Type 0} → C → (C → C → C) → Contents → SmallSet → ℕ → Bool → Type 0
Told o plus t missing d b = (b ≡ true → (d < t.n) × HasLoss t (but missing) d) × (b ≡ false → d < t.n → HasRecipe o plus t (but missing) d)

pub lost_records : {C : Type 0} (o : C) (plus : C → C → C) → Laws o plus → (t : Contents) (missing lost : SmallSet)
    → ((d : ℕ) → has missing d ≡ true → Told o plus t missing d (has lost d)) → ((d : ℕ) → has missing d ≡ false → has lost d ≡ false) → LostRecords o plus t (but missing) lost
lost_records o plus laws t missing lost told good = record {
  lost = λ d e. ⊎_elim (λ m. (told d m).0 e) (λ m. absurd (both_ways (has lost d) (good d m) e)) (cases_Bool (has missing d));
  others = λ d l e. ⊎_elim
      (λ m. (told d m).1 e l)
      (λ m. (_, itself o plus laws t (but missing) d (λ i. eqb i d) (omega arith) (not_from_false (has missing d) m) (λ i _. refl) (λ i f. eqb-true i d f)))
      (cases_Bool (has missing d));
}
