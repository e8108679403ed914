-- The laws of sums of cells over sets of places, as SumLaws has them. Assumes nothing.
use Rattle.std.proofs.Common.{◌≡◌, ℕ, zero, suc, ◌<◌, Bool, true, false, cond, not, ◌&&◌, ◌||◌, eqb, sym, refl, ap, ◌∙◌, ap₂, true≢false}
use mathlib.Core.Bool.{xor}
use Rattle.std.proofs.lemmas.Bool.{eqb-true}
use Rattle.sets.specs.Members.{odd}
use Rattle.sets.specs.Sums.{sum_below, total, count, Adds}
use Rattle.sets.proofs.Bits.{odd_add}
use Rattle.sets.proofs.Sums.{sum_same, sum_none, sum_plus, sum_one, sum_swap, unit_r}
use Rattle.sets.proofs.Sums as sums
use Rattle.cell.specs.Kinds.{Laws}
use Rattle.cell.specs.SumLaws.{SumLaws}

-- sums of cells are sums in a commutative monoid
pub adds : {C : Type 0} {o : C} {plus : C → C → C} → Laws o plus → Adds o plus
adds l = record { assoc = l.assoc; comm = l.comm; unit = l.unit }

module _ {C : Type 0} (o : C) (plus : C → C → C) (l : Laws o plus) where
  pub total_none : (m : ℕ) (s : ℕ → Bool) (f : ℕ → C) → ((i : ℕ) → i < m → s i ≡ false) → total o plus m s f ≡ o
  total_none m s f h = sum_none o plus (adds l) m (λ i. cond (s i) (f i) o) (λ i lt. ap (λ b. cond b (f i) o) (h i lt))

  pub total_same : (m : ℕ) (s : ℕ → Bool) (f g : ℕ → C) → ((i : ℕ) → i < m → s i ≡ true → f i ≡ g i) → total o plus m s f ≡ total o plus m s g
  total_same m s f g h = sum_same o plus m (λ i. cond (s i) (f i) o) (λ i. cond (s i) (g i) o) (λ i lt. either (s i) i (h i lt))
    where
      either : (b : Bool) (i : ℕ) → (b ≡ true → f i ≡ g i) → cond b (f i) o ≡ cond b (g i) o
      either true i e = e refl
      either false i e = refl

  pub total_alike : (m : ℕ) (s t : ℕ → Bool) (f : ℕ → C) → ((i : ℕ) → i < m → s i ≡ t i) → total o plus m s f ≡ total o plus m t f
  total_alike m s t f h = sum_same o plus m (λ i. cond (s i) (f i) o) (λ i. cond (t i) (f i) o) (λ i lt. ap (λ b. cond b (f i) o) (h i lt))

  pub total_split : (m b : ℕ) (s : ℕ → Bool) (f : ℕ → C) → b < m → s b ≡ true
      → total o plus m s f ≡ plus (f b) (total o plus m (λ i. s i && not (eqb i b)) f)
  total_split = sums.total_split o plus (adds l)

  pub total_linear : (m : ℕ) (s : ℕ → Bool) (f g : ℕ → C)
      → total o plus m s (λ i. plus (f i) (g i)) ≡ plus (total o plus m s f) (total o plus m s g)
  total_linear m s f g =
      sum_same o plus m (λ i. cond (s i) (plus (f i) (g i)) o) (λ i. plus (cond (s i) (f i) o) (cond (s i) (g i) o)) (λ i lt. either (s i) (f i) (g i))
      ∙ sum_plus o plus (adds l) m (λ i. cond (s i) (f i) o) (λ i. cond (s i) (g i) o)
    where
      either : (b : Bool) (x y : C) → cond b (plus x y) o ≡ plus (cond b x o) (cond b y o)
      either true x y = refl
      either false x y = sym (l.unit o)

  pub total_difference : (m : ℕ) (s t : ℕ → Bool) (f : ℕ → C)
      → total o plus m (λ i. xor (s i) (t i)) f ≡ plus (total o plus m s f) (total o plus m t f)
  unfolding xor
  total_difference m s t f =
      sum_same o plus m (λ i. cond (xor (s i) (t i)) (f i) o) (λ i. plus (cond (s i) (f i) o) (cond (t i) (f i) o)) (λ i lt. either (s i) (t i) (f i))
      ∙ sum_plus o plus (adds l) m (λ i. cond (s i) (f i) o) (λ i. cond (t i) (f i) o)
    where
      either : (b c : Bool) (x : C) → cond (xor b c) x o ≡ plus (cond b x o) (cond c x o)
      either true true x = sym (l.self x)
      either true false x = sym (unit_r o plus (adds l) x)
      either false true x = sym (l.unit x)
      either false false x = sym (l.unit o)

  pub total_more : (m b : ℕ) (s : ℕ → Bool) (f : ℕ → C) → b < m → s b ≡ false
      → total o plus m (λ i. s i || eqb i b) f ≡ plus (f b) (total o plus m s f)
  unfolding xor
  total_more m b s f lt h =
      total_alike m (λ i. s i || eqb i b) (λ i. xor (eqb i b) (s i)) f (λ i _. either (s i) (eqb i b) (λ e. ap s (eqb-true i b e) ∙ h))
      ∙ total_difference m (λ i. eqb i b) s f
      ∙ ap (λ x. plus x (total o plus m s f)) (sum_one o plus (adds l) m b f lt)
    where
      either : (x e : Bool) → (e ≡ true → x ≡ false) → (x || e) ≡ xor e x
      either true true g = absurd (true≢false (g refl))
      either true false g = refl
      either false true g = refl
      either false false g = refl

  pub total_swap : (m n : ℕ) (s t : ℕ → Bool) (f : ℕ → ℕ → C)
      → total o plus m s (λ i. total o plus n t (λ j. f i j)) ≡ total o plus n t (λ j. total o plus m s (λ i. f i j))
  total_swap m n s t f =
      sum_same o plus m _ (λ i. sum_below o plus n (λ j. both i j)) rows
      ∙ sum_swap o plus (adds l) m n both
      ∙ sum_same o plus n (λ j. sum_below o plus m (λ i. both i j)) _ columns
    where
      -- the cell of row i and column j, if both are in the sets
      both : ℕ → ℕ → C
      both i j = cond (s i) (cond (t j) (f i j) o) o

      inside : (k : ℕ) (b : Bool) (g : ℕ → C) → cond b (sum_below o plus k g) o ≡ sum_below o plus k (λ j. cond b (g j) o)
      inside k true g = refl
      inside k false g = sym (sum_none o plus (adds l) k (λ j. o) (λ _ _. refl))

      either : (b c : Bool) (x : C) → cond b (cond c x o) o ≡ cond c (cond b x o) o
      either true c x = refl
      either false true x = refl
      either false false x = refl

      rows : (i : ℕ) → i < m → cond (s i) (total o plus n t (f i)) o ≡ sum_below o plus n (λ j. both i j)
      rows i _ = inside n (s i) (λ j. cond (t j) (f i j) o)

      columns : (j : ℕ) → j < n → sum_below o plus m (λ i. both i j) ≡ cond (t j) (total o plus m s (λ i. f i j)) o
      columns j _ =
          sum_same o plus m (λ i. both i j) (λ i. cond (t j) (cond (s i) (f i j) o) o) (λ i _. either (s i) (t j) (f i j))
          ∙ sym (inside m (t j) (λ i. cond (s i) (f i j) o))

  pub sum_laws : SumLaws o plus
  sum_laws = record {
    none = total_none;
    same = total_same;
    alike = total_alike;
    split = total_split;
    more = total_more;
    difference = total_difference;
    linear = total_linear;
    swap = total_swap;
  }

-- cells that are x at the places of l: over s their sum is x if l and s share an odd number of places
pub total_flat : {C : Type 0} (o : C) (plus : C → C → C) → Laws o plus → (m : ℕ) (s l : ℕ → Bool) (x : C)
    → total o plus m s (λ i. cond (l i) x o) ≡ cond (odd (count m (λ i. l i && s i))) x o
unfolding sum_below odd xor
total_flat o plus laws zero s l x = refl
total_flat {C} o plus laws (suc m) s l x =
    ap₂ plus (total_flat o plus laws m s l x) (one (s m) (l m))
    ∙ join (odd (count m (λ i. l i && s i))) (odd (cond (l m && s m) 1 0))
    ∙ ap (λ b. cond b x o) (sym (odd_add (count m (λ i. l i && s i)) (cond (l m && s m) 1 0)))
  where
    one : (a b : Bool) → cond a (cond b x o) o ≡ cond (odd (cond (b && a) 1 0)) x o
    one true true = refl
    one true false = refl
    one false true = refl
    one false false = refl

    join : (a b : Bool) → plus (cond a x o) (cond b x o) ≡ cond (xor a b) x o
    join true true = laws.self x
    join true false = unit_r o plus (adds laws) x
    join false true = laws.unit x
    join false false = laws.unit o
