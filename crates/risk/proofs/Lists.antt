-- Listing sets with a property, each once.
use Rattle.std.proofs.Common.{◌≡◌, ℕ, ◌+◌, ◌-◌, ◌<◌, ◌≤◌, ◌⊎◌, List, [], ◌∷◌, ◌++◌, length, sym, refl, ◌∙◌, subst, inl, inr, ⊎_elim, arith}
use Rattle.std.proofs.lemmas.List.{length-append, get_or_append_left, get_or-append_right, get_or-append-add}
use Rattle.std.proofs.lemmas.Bool.{cases_lt}
use Rattle.sets.specs.declared.set.SmallSet.{SmallSet}
use Rattle.recovery.specs.Groups.{at}
use Rattle.risk.specs.Deadly.{HowMany}

-- a property that no set has
pub list_none : (P : SmallSet → Type 0) → ((s : SmallSet) → P s → ⊥) → HowMany P 0
list_none P none = record {
  list = [];
  number = refl;
  each = λ i l. absurd (omega arith);
  all = λ s p. absurd (none s p);
  once = λ i j l. absurd (omega arith);
}

-- a property that one set has
pub list_one : (P : SmallSet → Type 0) (m : SmallSet) → P m → ((s : SmallSet) → P s → m ≡ s) → HowMany P 1
list_one P m here only = record {
  list = m ∷ [];
  number = refl;
  each = λ i l. let e : 0 ≡ i = omega arith in subst (λ k. P (at (m ∷ []) k)) e here;
  all = λ s p. (0, omega arith, only s p);
  once = λ i j li lj e. omega arith;
}

-- the same number of sets have a property that says the same
pub list_like : (P Q : SmallSet → Type 0) (a : ℕ) → ((s : SmallSet) → P s → Q s) → ((s : SmallSet) → Q s → P s) → HowMany P a → HowMany Q a
list_like P Q a to from h = record {
  list = h.list;
  number = h.number;
  each = λ i l. to (at h.list i) (h.each i l);
  all = λ s q. h.all s (from s q);
  once = h.once;
}

-- two properties that no set has both
module _ (P Q : SmallSet → Type 0) (a b : ℕ) (p : HowMany P a) (q : HowMany Q b) (apart : (s : SmallSet) → P s → Q s → ⊥) where
  abbrev whole : List SmallSet
  whole = p.list ++ q.list

  -- how many come first
  abbrev first : ℕ
  first = length p.list

  size : length whole ≡ first + length q.list
  size = length-append p.list q.list

  left : (i : ℕ) → i < first → at whole i ≡ at p.list i
  left i l = get_or_append_left p.list q.list _ i l

  right : (i : ℕ) → first ≤ i → at whole i ≡ at q.list (i - first)
  right i l = get_or-append_right p.list q.list first i _ refl l

  -- what stands among the first is none of the others
  unlike : (i j : ℕ) → i < first → first ≤ j → j < length whole → at whole i ≡ at whole j → ⊥
  unlike i j li lj l e = apart (at p.list i) (p.each i li)
      (subst Q (sym (sym (left i li) ∙ e ∙ right j lj)) (q.each (j - first) (omega (arith, size))))

  alone : (i j : ℕ) → i < length whole → j < length whole → at whole i ≡ at whole j → (i < first) ⊎ (first ≤ i) → (j < first) ⊎ (first ≤ j) → i ≡ j
  alone i j li lj e (inl x) (inl y) = p.once i j x y (sym (left i x) ∙ e ∙ left j y)
  alone i j li lj e (inl x) (inr y) = absurd (unlike i j x y lj e)
  alone i j li lj e (inr x) (inl y) = absurd (unlike j i y x li (sym e))
  alone i j li lj e (inr x) (inr y) =
      let same = q.once (i - first) (j - first) (omega (arith, size)) (omega (arith, size)) (sym (right i x) ∙ e ∙ right j y) in
      omega arith

  pub list_both : HowMany (λ s. P s ⊎ Q s) (a + b)
  list_both = record {
    list = whole;
    number = omega (arith, size, p.number, q.number);
    each = λ i l. ⊎_elim
        (λ x. inl (subst P (sym (left i x)) (p.each i x)))
        (λ x. inr (subst Q (sym (right i x)) (q.each (i - first) (omega (arith, size)))))
        (cases_lt i first);
    all = λ s. ⊎_elim
        (λ x. let w = p.all s x in (w.0, omega (arith, size, w.1), left w.0 w.1 ∙ w.2))
        (λ x. let w = q.all s x in (first + w.0, omega (arith, size, w.1), get_or-append-add p.list q.list w.0 _ ∙ w.2));
    once = λ i j li lj e. alone i j li lj e (cases_lt i first) (cases_lt j first);
  }
