-- Laws of finite sums.
use Rattle.std.proofs.Common.{◌≡◌, ℕ, zero, suc, ◌+◌, ◌*◌, ◌<◌, ◌≤◌, Bool, true, false, cond, not, ◌&&◌, ◌||◌, eqb, ltb, sym, refl, ap, ◌∙◌, ap₂, inl, inr, ⊎_elim, add-zero, add_assoc, add-suc, add-mul, add_comm, zero-add, arith}
use mathlib.Core.Bool.{false≢true}
use Rattle.std.proofs.lemmas.Bool.Decides.{eqb_tells, leb_tells}
use Rattle.std.proofs.lemmas.Bool.{cases_lt, cases_Bool, eqb-true, eq-eqb, ne_eqb, lt-ltb, le-ltb, and_from, or_right}
use Rattle.sets.specs.Sums.{sum_below, total, count, Adds}

pub nat_adds : Adds 0 ◌+◌
nat_adds = record { assoc = add_assoc; comm = λ x y. add_comm x y; unit = zero-add }

-- sums that agree term by term
pub sum_same : {C : Type 0} (o : C) (plus : C → C → C) (m : ℕ) (f g : ℕ → C) → ((i : ℕ) → i < m → f i ≡ g i) → sum_below o plus m f ≡ sum_below o plus m g
unfolding sum_below
sum_same o plus zero f g h = refl
sum_same o plus (suc m) f g h = ap₂ plus (sum_same o plus m f g (λ i lt. h i (omega arith))) (h m (omega arith))

pub sum_start : {C : Type 0} (o : C) (plus : C → C → C) (f : ℕ → C) → sum_below o plus 0 f ≡ o
unfolding sum_below
sum_start o plus f = refl

-- one term more
pub sum_more : {C : Type 0} (o : C) (plus : C → C → C) (m : ℕ) (f : ℕ → C) → sum_below o plus (suc m) f ≡ plus (sum_below o plus m f) (f m)
unfolding sum_below
sum_more o plus m f = refl

module _ {C : Type 0} (o : C) (plus : C → C → C) (a : Adds o plus) where
  pub unit_r : (x : C) → plus x o ≡ x
  unit_r x = a.comm x o ∙ a.unit x

  pub exchange : (x y z w : C) → plus (plus x y) (plus z w) ≡ plus (plus x z) (plus y w)
  exchange x y z w =
      a.assoc x y (plus z w)
      ∙ ap (plus x) (sym (a.assoc y z w) ∙ ap (λ u. plus u w) (a.comm y z) ∙ a.assoc z y w)
      ∙ sym (a.assoc x z (plus y w))

  -- terms that are all the unit
  pub sum_none : (m : ℕ) (f : ℕ → C) → ((i : ℕ) → i < m → f i ≡ o) → sum_below o plus m f ≡ o
  unfolding sum_below
  sum_none zero f h = refl
  sum_none (suc m) f h = ap₂ plus (sum_none m f (λ i lt. h i (omega arith))) (h m (omega arith)) ∙ a.unit o

  pub sum_plus : (m : ℕ) (f g : ℕ → C) → sum_below o plus m (λ i. plus (f i) (g i)) ≡ plus (sum_below o plus m f) (sum_below o plus m g)
  unfolding sum_below
  sum_plus zero f g = sym (a.unit o)
  sum_plus (suc m) f g = ap (λ u. plus u (plus (f m) (g m))) (sum_plus m f g) ∙ exchange (sum_below o plus m f) (sum_below o plus m g) (f m) (g m)

  -- the two sums of a table of terms, by rows and by columns
  pub sum_swap : (m n : ℕ) (f : ℕ → ℕ → C) → sum_below o plus m (λ i. sum_below o plus n (λ j. f i j)) ≡ sum_below o plus n (λ j. sum_below o plus m (λ i. f i j))
  unfolding sum_below
  sum_swap zero n f = sym (sum_none n (λ j. o) (λ i lt. refl))
  sum_swap (suc m) n f = ap (λ u. plus u (sum_below o plus n (λ j. f m j))) (sum_swap m n f) ∙ sym (sum_plus n (λ j. sum_below o plus m (λ i. f i j)) (λ j. f m j))

  -- the first term apart
  pub sum_first : (m : ℕ) (f : ℕ → C) → sum_below o plus (suc m) f ≡ plus (f 0) (sum_below o plus m (λ i. f (suc i)))
  unfolding sum_below
  sum_first zero f = a.comm o (f 0)
  sum_first (suc m) f = ap (λ u. plus u (f (suc m))) (sum_first m f) ∙ a.assoc (f 0) (sum_below o plus m (λ i. f (suc i))) (f (suc m))

  -- one term alone
  pub sum_one : (m b : ℕ) (f : ℕ → C) → b < m → sum_below o plus m (λ i. cond (eqb i b) (f i) o) ≡ f b
  unfolding sum_below
  sum_one zero b f lt = absurd (omega arith)
  sum_one (suc m) b f lt = elim (eqb_tells m b) [
    | inl e ↦
        let rest : sum_below o plus m (λ i. cond (eqb i b) (f i) o) ≡ o =
        sum_none m (λ i. cond (eqb i b) (f i) o) (λ i l. ap (λ (t : Bool). cond t (f i) o) (ne_eqb i b (λ q. omega arith))) in
        let top : cond (eqb m b) (f m) o ≡ f b = ap (λ (t : Bool). cond t (f m) o) e.0 ∙ ap f e.1 in
        ap₂ plus rest top ∙ a.unit (f b)
    | inr e ↦
        let lt' : b < m = elim (leb_tells (suc b) m) [ inl g ↦ g.1 | inr g ↦ absurd (e.1 (omega arith)) ] in
        let top : cond (eqb m b) (f m) o ≡ o = ap (λ (t : Bool). cond t (f m) o) e.0 in
        ap₂ plus (sum_one m b f lt') top ∙ unit_r (f b)
  ]

  -- the terms below n alone
  pub sum_cut : (n v : ℕ) (f : ℕ → C) → sum_below o plus (n + v) (λ i. cond (ltb i n) (f i) o) ≡ sum_below o plus n f
  unfolding sum_below
  sum_cut n zero f = ap (λ k. sum_below o plus k (λ i. cond (ltb i n) (f i) o)) (add-zero n)
      ∙ sum_same o plus n (λ i. cond (ltb i n) (f i) o) f (λ i l. ap (λ (t : Bool). cond t (f i) o) (lt-ltb i n l))
  sum_cut n (suc v) f =
      let top : cond (ltb (n + v) n) (f (n + v)) o ≡ o = ap (λ (t : Bool). cond t (f (n + v)) o) (le-ltb (n + v) n (omega arith)) in
      ap (λ k. sum_below o plus k (λ i. cond (ltb i n) (f i) o)) (add-suc n v)
      ∙ ap₂ plus (sum_cut n v f) top ∙ unit_r (sum_below o plus n f)

  -- a set that has b: the term of b, and the terms of the others
  pub total_split : (m b : ℕ) (s : ℕ → Bool) (f : ℕ → C) → b < m → s b ≡ true → total o plus m s f ≡ plus (f b) (total o plus m (λ i. s i && not (eqb i b)) f)
  total_split m b s f lt h =
      sum_same o plus m (λ i. cond (s i) (f i) o) (λ i. plus (cond (eqb i b) (f i) o) (cond (s i && not (eqb i b)) (f i) o)) (λ i l. apart i (s i) (eqb i b) (λ e. ap s (eqb-true i b e) ∙ h))
      ∙ sum_plus m (λ i. cond (eqb i b) (f i) o) (λ i. cond (s i && not (eqb i b)) (f i) o)
      ∙ ap (λ x. plus x (total o plus m (λ i. s i && not (eqb i b)) f)) (sum_one m b f lt)
    where
      apart : (i : ℕ) (x e : Bool) → (e ≡ true → x ≡ true) → cond x (f i) o ≡ plus (cond e (f i) o) (cond (x && not e) (f i) o)
      apart i true true g = sym (unit_r (f i))
      apart i true false g = sym (a.unit (f i))
      apart i false true g = absurd (false≢true (g refl))
      apart i false false g = sym (a.unit o)

-- ---- counts

pub count_same : (m : ℕ) (s t : ℕ → Bool) → ((i : ℕ) → i < m → s i ≡ t i) → count m s ≡ count m t
count_same m s t h = sum_same 0 ◌+◌ m (λ i. cond (s i) 1 0) (λ i. cond (t i) 1 0) (λ i l. ap (λ (b : Bool). cond {A = ℕ} b 1 0) (h i l))

pub count_first : (m : ℕ) (s : ℕ → Bool) → count (suc m) s ≡ cond (s 0) 1 0 + count m (λ i. s (suc i))
count_first m s = sum_first 0 ◌+◌ nat_adds m (λ i. cond (s i) 1 0)

pub count_none : (m : ℕ) (s : ℕ → Bool) → ((i : ℕ) → i < m → s i ≡ false) → count m s ≡ 0
count_none m s h = sum_none 0 ◌+◌ nat_adds m (λ i. cond (s i) 1 0) (λ i l. ap (λ (b : Bool). cond {A = ℕ} b 1 0) (h i l))

pub count_all : (m : ℕ) → count m (λ i. true) ≡ m
unfolding sum_below
count_all zero = refl
count_all (suc m) = let h = count_all m in omega arith

-- a set that has b, and the same set without b
pub count_without : (m b : ℕ) (s : ℕ → Bool) → b < m → s b ≡ true → count m s ≡ suc (count m (λ i. s i && not (eqb i b)))
count_without m b s lt h = total_split 0 ◌+◌ nat_adds m b s (λ i. 1) lt h ∙ omega arith

-- a set that lacks b, and the same set with b
pub count_with : (m b : ℕ) (s : ℕ → Bool) → b < m → s b ≡ false → count m (λ i. s i || eqb i b) ≡ suc (count m s)
count_with m b s lt h =
    count_without m b (λ i. s i || eqb i b) lt (or_right (s b) (eqb b b) (eq-eqb b b refl))
    ∙ ap suc (count_same m (λ i. (s i || eqb i b) && not (eqb i b)) s (λ i _. back (s i) (eqb i b) (λ e. ap s (eqb-true i b e) ∙ h)))
  where
    back : (x e : Bool) → (e ≡ true → x ≡ false) → ((x || e) && not e) ≡ x
    back true true g = sym (g refl)
    back true false g = refl
    back false true g = refl
    back false false g = refl

-- a set with one member
pub count_one : (m b : ℕ) (s : ℕ → Bool) → b < m → s b ≡ true → ((i : ℕ) → i < m → s i ≡ true → i ≡ b) → count m s ≡ 1
count_one m b s lt h only = count_without m b s lt h ∙ ap suc (count_none m (λ i. s i && not (eqb i b)) (λ i l. alone i l (s i) refl))
  where
    alone : (i : ℕ) → i < m → (x : Bool) → s i ≡ x → (x && not (eqb i b)) ≡ false
    alone i l true e = ap not (eq-eqb i b (only i l e))
    alone i l false e = refl

-- a set with two members at least
pub count_two : (m a b : ℕ) (s : ℕ → Bool) → a < m → b < m → (a ≡ b → ⊥) → s a ≡ true → s b ≡ true → 2 ≤ count m s
count_two m a b s la lb ne ea eb =
    let one = count_without m a s la ea in
    let two = count_without m b (λ i. s i && not (eqb i a)) lb (and_from (s b) (not (eqb b a)) eb (ap not (ne_eqb b a (λ q. ne (sym q))))) in
    omega arith

-- a set that has no member from m on
pub count_past : (m n : ℕ) (s : ℕ → Bool) → m ≤ n → ((i : ℕ) → m ≤ i → s i ≡ false) → count n s ≡ count m s
unfolding sum_below
count_past m zero s l h = let e : 0 ≡ m = omega arith in ap (λ x. count x s) e
count_past m (suc n) s l h = elim (leb_tells (suc m) (suc n)) [
  | inl g ↦
      let ih = count_past m n s (omega (arith, g.1)) h in
      let top : ◌≡◌ {A = ℕ} (cond (s n) 1 0) 0 = ap (λ (b : Bool). cond {A = ℕ} b 1 0) (h n (omega (arith, g.1))) in
      omega arith
  | inr g ↦ let e : suc n ≡ m = omega (arith, g.1) in ap (λ x. count x s) e
]

-- the same term c for each member
pub total_const : (m c : ℕ) (s : ℕ → Bool) → total 0 ◌+◌ m s (λ i. c) ≡ count m s * c
unfolding sum_below
total_const zero c s = omega arith
total_const (suc m) c s = ap (λ k. k + cond (s m) c 0) (total_const m c s) ∙ go (s m)
  where
    go : (q : Bool) → count m s * c + cond q c 0 ≡ (count m s + cond q 1 0) * c
    go true = omega (arith, add-mul (count m s) 1 c)
    go false = omega (arith, add-mul (count m s) 0 c)

-- ---- orders

pub sum_le : (m : ℕ) (f g : ℕ → ℕ) → ((i : ℕ) → i < m → f i ≤ g i) → sum_below 0 ◌+◌ m f ≤ sum_below 0 ◌+◌ m g
unfolding sum_below
sum_le zero f g h = omega arith
sum_le (suc m) f g h =
    let below = sum_le m f g (λ i l. h i (omega arith)) in
    let top = h m (omega arith) in
    omega arith

pub count_le : (m : ℕ) (s t : ℕ → Bool) → ((i : ℕ) → i < m → s i ≡ true → t i ≡ true) → count m s ≤ count m t
count_le m s t h = sum_le m (λ i. cond (s i) 1 0) (λ i. cond (t i) 1 0) (λ i l. either (s i) (t i) (h i l))
  where
    either : (a b : Bool) → (a ≡ true → b ≡ true) → ◌≤◌ (cond a 1 0) (cond b 1 0)
    either true true e = omega arith
    either true false e = absurd (false≢true (e refl))
    either false true e = omega arith
    either false false e = omega arith

-- a set that is not empty has a member
pub count_member : (m : ℕ) (s : ℕ → Bool) → 0 < count m s → (i : ℕ) × (i < m) × (s i ≡ true)
unfolding sum_below
count_member zero s h = absurd (omega arith)
count_member (suc m) s h = ⊎_elim
    (λ e. (m, omega arith, e))
    (λ e.
    let top : ◌≡◌ {A = ℕ} (cond (s m) 1 0) 0 = ap (λ (z : Bool). cond {A = ℕ} z 1 0) e in
    let below = count_member m s (omega arith) in
    (below.0, omega (arith, below.1), below.2))
    (cases_Bool (s m))

-- a set of one member at most
pub count_few : (m q : ℕ) (s : ℕ → Bool) → ((i : ℕ) → i < m → s i ≡ true → i ≡ q) → count m s ≤ 1
count_few m q s only = ⊎_elim
    (λ (h : 0 < count m s).
    let one = count_member m s h in
    let same = only one.0 one.1 one.2 in
    let is : count m s ≡ 1 = count_one m one.0 s one.1 one.2 (λ i l e. only i l e ∙ sym same) in
    omega arith)
    (λ (h : count m s ≤ 0). omega arith)
    (cases_lt 0 (count m s))
