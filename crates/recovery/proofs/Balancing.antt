-- Back substitution: one turn of the loop.
use Rattle.std.proofs.Common.{◌≡◌, ℕ, ◌+◌, ◌<◌, ◌≤◌, true, false, ◌&&◌, ◌||◌, eqb, ltb, List, [], ◌∷◌, ◌++◌, length, take, sym, refl, ap, ◌∙◌, subst, inl, inr, ⊎_elim, arith}
use mathlib.Core.Bool.{xor, and-true}
use Rattle.std.proofs.lemmas.Bool.{cases_eq, cases_lt, cases_Bool, both_ways, and_parts, and_from, or_cases, or_left, eqb-true, lt-ltb}
use Rattle.std.proofs.lemmas.List.{take_at, take-take, length-take-le, get_or-take, get_or_at, length-append}
use Rattle.sets.specs.declared.set.SmallSet.{SmallSet}
use Rattle.sets.specs.Members.{has}
use Rattle.sets.specs.Parity.{oddly}
use Rattle.sets.specs.Steps.{Least}
use Rattle.sets.proofs.Bits.{parity_with, xor_none, xor_self}
use Rattle.recovery.specs.Groups.{at}
use Rattle.recovery.specs.Rows.{Leads, Pivots, Balanced}
use Rattle.recovery.proofs.Elimination.{none_past}

module _ (asked : SmallSet) (rows : List SmallSet) (rank unit : ℕ) where
  module _ (i j : ℕ) (next : i ≡ j + 1) (s : SmallSet) (h : Balanced asked rows rank unit i s) where
    pub balance_stays : oddly s (at rows j) ≡ false → Balanced asked rows rank unit j s
    balance_stays e = record {
      has_unit = h.has_unit;
      leading = λ u v. ⊎_elim inl (λ w. inr (w.0, omega (arith, w.1), w.2, w.3)) (h.leading u v);
      even = λ k l m. ⊎_elim (λ same. ap (λ n. oddly s (at rows n)) same ∙ e) (λ ne. h.even k (omega arith) m) (cases_eq k j);
    }

    -- the leading unit of pivot j makes it even, and alters no later pivot
    pub balance_adds : Pivots asked rows rank → has asked unit ≡ false → j < rank → oddly s (at rows j) ≡ true
        → (u : ℕ) → u < 64 → Leads asked (at rows j) u → (more : SmallSet) → ((i : ℕ) → has more i ≡ (has s i || (eqb i u && ltb i 64))) → Balanced asked rows rank unit j more
    balance_adds pivots apart inside is_odd u lt lead more is = record {
      has_unit = is unit ∙ or_left (has s unit) (eqb unit u && ltb unit 64) h.has_unit;
      leading = λ w e. ⊎_elim
          (λ old. ⊎_elim inl (λ x. inr (x.0, omega (arith, x.1), x.2, x.3)) (h.leading w old))
          (λ new. inr (j, omega arith, inside, subst (Leads asked (at rows j)) (sym (eqb-true w u (and_parts (eqb w u) (ltb w 64) new).0)) lead))
          (or_cases (has s w) (eqb w u && ltb w 64) (sym (is w) ∙ e));
      even = λ k l m. parity_with 64 u (has s) (has more) (has (at rows k)) lt out below ∙ ⊎_elim
          (λ same. subst (λ n. xor (oddly s (at rows n)) (has (at rows n) u) ≡ false) (sym same) here)
          (λ ne. ap (λ b. xor (oddly s (at rows k)) b) (pivots.upper j k u (omega arith) inside lead) ∙ xor_none _ ∙ h.even k (omega arith) m)
          (cases_eq k j);
    }
      where
        out : has s u ≡ false
        out = ⊎_elim
            (λ e. ⊎_elim
            (λ same. absurd (both_ways (has asked unit) apart (ap (has asked) (sym same) ∙ lead.among)))
            (λ x. absurd (both_ways (has (at rows x.0) u) (pivots.upper j x.0 u (omega (arith, x.1)) inside lead) x.3.in_row))
            (h.leading u e))
            (λ e. e)
            (cases_Bool (has s u))

        below : (i : ℕ) → i < 64 → has more i ≡ (has s i || eqb i u)
        below i l = is i ∙ ap (λ b. has s i || (eqb i u && b)) (lt-ltb i 64 l) ∙ ap (λ b. has s i || b) (and-true (eqb i u))

        here : xor (oddly s (at rows j)) (has (at rows j) u) ≡ false
        here = ap (λ b. xor b (has (at rows j) u)) is_odd ∙ ap (xor true) lead.in_row ∙ xor_self true

-- the least unit that a row shares with the units asked for leads it
pub least_leads : (asked row both : SmallSet) (u : ℕ) → ((i : ℕ) → has both i ≡ (has row i && has asked i)) → Least both u → Leads asked row u
least_leads asked row both u is least =
    let here = and_parts (has row u) (has asked u) (sym (is u) ∙ least.member) in
    record {
      among = here.1;
      in_row = here.0;
      first = λ j l a. sym (and-true (has row j)) ∙ ap (λ b. has row j && b) (sym a) ∙ sym (is j) ∙ least.first j l;
    }

-- a pivot shares a unit with those asked for
pub shares_one : (asked row both : SmallSet) (u : ℕ) → ((i : ℕ) → has both i ≡ (has row i && has asked i)) → Leads asked row u → ((i : ℕ) → has both i ≡ false) → ⊥
shares_one asked row both u is lead none = both_ways (has both u) (none u) (is u ∙ and_from (has row u) (has asked u) lead.in_row lead.among)

-- ---- from the last pivot to the first: the pivots left, a front of all

pub record Left (pivots left : List SmallSet) : Type 0 where
  pub few : length left ≤ length pivots
  pub front : left ≡ take (length left) pivots

pub record Turn (pivots left : List SmallSet) (pivot : SmallSet) : Type 0 where
  pub inside : length left < length pivots
  pub here : at pivots (length left) ≡ pivot
  pub then : Left pivots left

-- the last of them comes
pub turn : (pivots left rest : List SmallSet) (pivot : SmallSet) → Left pivots left → left ≡ rest ++ pivot ∷ [] → (length left ≡ length rest + 1) × Turn pivots rest pivot
turn pivots left rest pivot h e = (
  long,
  record {
    inside = omega (arith, long, h.few);
    here = sym (get_or-take (length left) pivots (length rest) _ (omega (arith, long))) ∙ ap (λ xs. at xs (length rest)) (sym h.front ∙ e) ∙ get_or_at rest pivot [] _ (length rest) refl;
    then = record {
      few = omega (arith, long, h.few);
      front = sym (take_at rest (pivot ∷ []) (length rest) refl) ∙ ap (take (length rest)) (sym e ∙ h.front) ∙ take-take (length rest) (length left) pivots (omega (arith, long));
    };
  },
)
  where
    long : length left ≡ length rest + 1
    long = ap length e ∙ length-append rest (pivot ∷ [])

-- ---- the pivots alone, a front of the rows

module _ (asked : SmallSet) (rows : List SmallSet) (rank : ℕ) (pivots : Pivots asked rows rank) where
  front : List SmallSet
  front = take rank rows

  long : length front ≡ rank
  unfolding front
  long = length-take-le rank rows pivots.ranked

  same : (k : ℕ) → k < rank → at front k ≡ at rows k
  unfolding front
  same k l = get_or-take rank rows k _ l

  leads_in : (k : ℕ) → k < rank → (u : ℕ) → Leads asked (at front k) u → Leads asked (at rows k) u
  leads_in k l u = subst (λ (s : SmallSet). Leads asked s u) (same k l)

  pub front_pivots : Pivots asked (take rank rows) (length (take rank rows))
  unfolding front
  front_pivots = record {
    ranked = omega arith;
    leads = λ k l. let lead = pivots.leads k (omega (arith, long)) in (lead.0, subst (λ (s : SmallSet). Leads asked s lead.0) (sym (same k (omega (arith, long)))) lead.1);
    upper = λ i k u l m lead. ⊎_elim
        (λ lk. ap (λ (s : SmallSet). has s u) (same k lk) ∙ pivots.upper i k u l (omega (arith, long)) (leads_in i (omega (arith, long)) u lead))
        (λ past. none_past front k u (omega (arith, long)))
        (cases_lt k rank);
  }

  pub balanced_rows : (unit : ℕ) (s : SmallSet) → Balanced asked (take rank rows) (length (take rank rows)) unit 0 s → Balanced asked rows rank unit 0 s
  unfolding front
  balanced_rows unit s h = record {
    has_unit = h.has_unit;
    leading = λ u e. ⊎_elim inl (λ w. inr (w.0, w.1, omega (arith, w.2, long), leads_in w.0 (omega (arith, w.2, long)) u w.3)) (h.leading u e);
    even = λ k l m. ap (oddly s) (sym (same k m)) ∙ h.even k l (omega (arith, long));
  }
