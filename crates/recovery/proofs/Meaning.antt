-- What a recipe and a loss set mean for books, and that there are never both.
use Rattle.std.proofs.Common.{◌≡◌, ℕ, ◌<◌, Bool, true, cond, sym, ap, ◌∙◌, ⊎_elim}
use Rattle.std.proofs.lemmas.Bool.{cases_Bool, both_ways}
use Rattle.sets.proofs.Sums.{unit_r}
use Rattle.cell.specs.Kinds.{Laws}
use Rattle.cell.proofs.Laws.{adds, total_same, total_flat}
use Rattle.table.specs.Contents.{Contents}
use Rattle.recovery.specs.Groups.{units, in_group}
use Rattle.recovery.specs.Books.{Book, holds, held}
use Rattle.recovery.specs.Recipes.{RecipeFor, LossSetFor, Determined, Hidden}
use Rattle.recovery.proofs.Books.{holds_plus, is_book}

module _ {C : Type 0} (o : C) (plus : C → C → C) (laws : Laws o plus) (t : Contents) (good : ℕ → Bool) (u : ℕ) where
  -- a recipe determines the unit's cell
  pub determines : (s : ℕ → Bool) → RecipeFor o plus t good u s → Determined o plus t good u
  determines s recipe a b r alike =
      sym (recipe.sums a r)
      ∙ total_same o plus laws (units t) s (λ i. held o plus t a i r) (λ i. held o plus t b i r) (λ i l e. alike i l (recipe.good_units i e).1)
      ∙ recipe.sums b r

  module _ (l : ℕ → Bool) (loss : LossSetFor t good u l) where
    -- some cell that is not zero
    abbrev x : C
    x = laws.some.0

    -- the change: x in each unit of the loss set
    abbrev change : ℕ → C
    change i = cond (l i) x o

    -- it is what the units hold by a book
    change_held : (i : ℕ) → i < units t → holds o plus t change i ≡ change i
    change_held i li = is_book o plus laws t change (λ p lp. total_flat o plus laws (units t) (in_group t p) l x ∙ ap (λ b. cond b x o) (loss.even p lp)) i li

    is_unit : u < units t
    is_unit = (loss.missing_units u loss.has_unit).0

    -- no good unit changes
    unchanged : (i : ℕ) → good i ≡ true → change i ≡ o
    unchanged i g = ap (λ b. cond b x o) (⊎_elim (λ e. absurd (both_ways (good i) (loss.missing_units i e).1 g)) (λ e. e) (cases_Bool (l i)))

    -- and so the good units do not determine the unit's cell
    pub hides : Hidden o plus t good u
    hides a = (
      (λ d r. plus (a d r) (change d)),
      (λ r i li g. sym (unit_r o plus (adds laws) _) ∙ ap (plus (held o plus t a i r)) (sym (change_held i li ∙ unchanged i g)) ∙ sym (holds_plus o plus laws t (λ d. a d r) change i)),
      (λ r e. laws.some.1 (moved (held o plus t a u r) (e ∙ holds_plus o plus laws t (λ d. a d r) change u ∙ ap (plus (held o plus t a u r)) (change_held u is_unit ∙ ap (λ b. cond b x o) loss.has_unit)))),
    )
      where
        moved : (y : C) → y ≡ plus y x → x ≡ o
        moved y e = sym (laws.unit x) ∙ ap (λ z. plus z x) (sym (laws.self y)) ∙ laws.assoc y y x ∙ ap (plus y) (sym e) ∙ laws.self y

  pub never_both : (s l : ℕ → Bool) → RecipeFor o plus t good u s → LossSetFor t good u l → ⊥
  never_both s l recipe loss =
      let zero : Book C = λ d r. o in
      let other = hides l loss zero in
      other.2 0 (determines s recipe zero other.0 0 (other.1 0))
