-- The binary digits of numbers, and so the members of sets: the one place for lemmas on bits. Assumes nothing.
use Rattle.std.proofs.Common.{◌≡◌, ℕ, zero, suc, ◌+◌, ◌-◌, ◌*◌, ◌/◌, ◌%◌, ◌^◌, ◌<◌, ◌≤◌, Bool, true, false, cond, not, ◌&&◌, ◌||◌, eqb, ltb, sym, refl, ap, ◌∙◌, subst, ap₂, ⊎_elim, pow-suc, arith}
use mathlib.Core.Bool.{xor, and-true}
use lib.Bits.{bit_and, bit_or, bit_xor, and_shr, or_shr, xor_shr, and_mod, or_mod, xor_mod}
use lib.Count.{ones, ones_step, count_trailing_zeros, under}
use lib.Dec.{eqb-suc-suc, eqb-zero-suc, eqb-suc-zero}
use Rattle.std.proofs.lemmas.Nat.{shr-shr}
use Rattle.std.proofs.lemmas.Bool.{cases_lt, cases_Bool, eqb-true, and_left, and_right, and_from, le-ltb, lt-ltb}
use Rattle.sets.specs.declared.set.SmallSet.{SmallSet}
use Rattle.sets.specs.Members.{odd, digit, has}
use Rattle.sets.specs.Sums.{sum_below, count}
use Rattle.sets.specs.Parity.{oddly}
use Rattle.sets.proofs.Sums.{count_same, count_first, count_with}

-- ---- one digit

low : (n : ℕ) → n % 2 < 2
low n = omega arith

not_digit : {A : Type 0} {x : ℕ} → suc (suc x) < 2 → A
not_digit h = absurd (omega arith)

-- an operation on digits that agrees with a test on them at 0 and 1
by_digits : (f : ℕ → ℕ → ℕ) (g : Bool → Bool → Bool)
    → eqb (f 0 0) 1 ≡ g false false → eqb (f 0 1) 1 ≡ g false true → eqb (f 1 0) 1 ≡ g true false → eqb (f 1 1) 1 ≡ g true true
    → (x y : ℕ) → x < 2 → y < 2 → eqb (f x y) 1 ≡ g (eqb x 1) (eqb y 1)
by_digits f g a b c d zero zero p q = a
by_digits f g a b c d zero (suc zero) p q = b
by_digits f g a b c d (suc zero) zero p q = c
by_digits f g a b c d (suc zero) (suc zero) p q = d
by_digits f g a b c d zero (suc (suc y)) p q = not_digit q
by_digits f g a b c d (suc zero) (suc (suc y)) p q = not_digit q
by_digits f g a b c d (suc (suc x)) y p q = not_digit p

pub odd_xor : (a b : ℕ) → odd (bit_xor a b) ≡ xor (odd a) (odd b)
unfolding odd xor
odd_xor a b = ap (λ n. eqb n 1) (xor_mod a b 1) ∙ by_digits bit_xor xor refl refl refl refl (a % 2) (b % 2) (low a) (low b)

pub odd_and : (a b : ℕ) → odd (bit_and a b) ≡ (odd a && odd b)
unfolding odd
odd_and a b = ap (λ n. eqb n 1) (and_mod a b 1) ∙ by_digits bit_and ◌&&◌ refl refl refl refl (a % 2) (b % 2) (low a) (low b)

pub odd_or : (a b : ℕ) → odd (bit_or a b) ≡ (odd a || odd b)
unfolding odd
odd_or a b = ap (λ n. eqb n 1) (or_mod a b 1) ∙ by_digits bit_or ◌||◌ refl refl refl refl (a % 2) (b % 2) (low a) (low b)

pub odd_add : (a b : ℕ) → odd (a + b) ≡ xor (odd a) (odd b)
unfolding odd xor
odd_add a b = ap (λ n. eqb n 1) (omega arith) ∙ by_digits (λ x y. (x + y) % 2) xor refl refl refl refl (a % 2) (b % 2) (low a) (low b)

odd_is : (n x : ℕ) → n % 2 ≡ x → odd n ≡ eqb x 1
unfolding odd
odd_is n x e = ap (λ y. eqb y 1) e

odd_double : (n : ℕ) → odd (n * 2) ≡ false
odd_double n = odd_is (n * 2) 0 (omega arith)

low_digit : (m : ℕ) → m % 2 ≡ cond (odd m) 1 0
unfolding odd
low_digit m = go (m % 2) (low m)
  where
    go : (x : ℕ) → x < 2 → x ≡ cond (eqb x 1) 1 0
    go zero p = refl
    go (suc zero) p = refl
    go (suc (suc x)) p = not_digit p

-- ---- sums of tests

pub xor_none : (b : Bool) → xor b false ≡ b
unfolding xor
xor_none true = refl
xor_none false = refl

pub xor_self : (b : Bool) → xor b b ≡ false
unfolding xor
xor_self true = refl
xor_self false = refl

-- ---- the digits of a number, lowest first

pub digit_zero : (m : ℕ) → digit m zero ≡ odd m
unfolding digit
digit_zero m = ap odd (omega arith)

pub digit_suc : (m i : ℕ) → digit m (suc i) ≡ digit (m / 2) i
unfolding digit
digit_suc m i = ap odd (ap (λ k. m / 2 ^ k) (omega arith) ∙ sym (shr-shr m 1 i))

-- ---- members of a sum, a meet, a union

pub digit_xor : (a b i : ℕ) → digit (bit_xor a b) i ≡ xor (digit a i) (digit b i)
unfolding digit
digit_xor a b i = ap odd (xor_shr a b i) ∙ odd_xor (a / 2 ^ i) (b / 2 ^ i)

pub digit_and : (a b i : ℕ) → digit (bit_and a b) i ≡ (digit a i && digit b i)
unfolding digit
digit_and a b i = ap odd (and_shr a b i) ∙ odd_and (a / 2 ^ i) (b / 2 ^ i)

pub digit_or : (a b i : ℕ) → digit (bit_or a b) i ≡ (digit a i || digit b i)
unfolding digit
digit_or a b i = ap odd (or_shr a b i) ∙ odd_or (a / 2 ^ i) (b / 2 ^ i)

-- ---- members of the empty set, a single set, all but those of a set

pub digit_none : (i : ℕ) → digit 0 i ≡ false
digit_none zero = digit_zero 0 ∙ odd_is 0 0 refl
digit_none (suc i) = digit_suc 0 i ∙ digit_none i

pub digit_one : (t i : ℕ) → digit (2 ^ t) i ≡ eqb i t
digit_one zero zero = digit_zero 1 ∙ odd_is 1 1 refl
digit_one zero (suc i) = digit_suc 1 i ∙ digit_none i ∙ sym (eqb-suc-zero i)
digit_one (suc t) zero = digit_zero (2 ^ suc t) ∙ ap odd (pow-suc 2 t) ∙ odd_double (2 ^ t) ∙ sym (eqb-zero-suc t)
digit_one (suc t) (suc i) = digit_suc (2 ^ suc t) i ∙ ap (λ n. digit n i) (omega (arith, pow-suc 2 t)) ∙ digit_one t i ∙ sym (eqb-suc-suc i t)

-- a number of k digits has none from k on
pub digit_past : (k m i : ℕ) → m < 2 ^ k → k ≤ i → digit m i ≡ false
digit_past zero m i p q = ap (λ n. digit n i) (omega arith) ∙ digit_none i
digit_past (suc k) m zero p q = absurd (omega arith)
digit_past (suc k) m (suc i) p q = digit_suc m i ∙ digit_past k (m / 2) i (omega (arith, pow-suc 2 k)) (omega arith)

odd_not : (m n : ℕ) → m % 2 + n % 2 ≡ 1 → odd n ≡ not (odd m)
unfolding odd
odd_not m n e = go (m % 2) (n % 2) e
  where
    go : (x y : ℕ) → x + y ≡ 1 → eqb y 1 ≡ not (eqb x 1)
    go zero y e = let d : y ≡ 1 = omega arith in ap (λ z. eqb z 1) d
    go (suc zero) y e = let d : y ≡ 0 = omega arith in ap (λ z. eqb z 1) d
    go (suc (suc x)) y e = absurd (omega arith)

pub digit_not : (k m i : ℕ) → m < 2 ^ k → i < k → digit (2 ^ k - 1 - m) i ≡ not (digit m i)
digit_not zero m i p q = absurd (omega arith)
digit_not (suc k) m zero p q =
    digit_zero (2 ^ suc k - 1 - m) ∙ odd_not m (2 ^ suc k - 1 - m) (omega (arith, pow-suc 2 k)) ∙ ap not (sym (digit_zero m))
digit_not (suc k) m (suc i) p q =
    digit_suc (2 ^ suc k - 1 - m) i ∙ ap (λ n. digit n i) (omega (arith, pow-suc 2 k))
    ∙ digit_not k (m / 2) i (omega (arith, pow-suc 2 k)) (omega arith) ∙ ap not (sym (digit_suc m i))

-- the members of a that are not in m
pub digit_minus : (k a m i : ℕ) → a < 2 ^ k → m < 2 ^ k → digit (bit_and a (2 ^ k - 1 - m)) i ≡ (digit a i && not (digit m i))
digit_minus k a m i p q = digit_and a (2 ^ k - 1 - m) i ∙ ⊎_elim inside outside (cases_lt i k)
  where
    inside : i < k → (digit a i && digit (2 ^ k - 1 - m) i) ≡ (digit a i && not (digit m i))
    inside h = ap (λ b. digit a i && b) (digit_not k m i q h)

    outside : k ≤ i → (digit a i && digit (2 ^ k - 1 - m) i) ≡ (digit a i && not (digit m i))
    outside h = let e = digit_past k a i p h in rw e

-- a test for one number, under a bound
pub eq_below : (i t k : ℕ) → t < k → eqb i t ≡ (eqb i t && ltb i k)
eq_below i t k h = ⊎_elim
    (λ e. let s = eqb-true i t e in let b : (eqb i t && ltb i k) ≡ true = and_from (eqb i t) (ltb i k) e (lt-ltb i k (omega arith)) in e ∙ sym b)
    (λ e. e ∙ sym (and_left (eqb i t) (ltb i k) e))
    (cases_Bool (eqb i t))

pub eq_past : (i t k : ℕ) → k ≤ t → (eqb i t && ltb i k) ≡ false
eq_past i t k h = ⊎_elim
    (λ e. let s = eqb-true i t e in and_right (eqb i t) (ltb i k) (le-ltb i k (omega arith)))
    (λ e. and_left (eqb i t) (ltb i k) e)
    (cases_Bool (eqb i t))

-- a member that is taken out only if it is below the bound
pub minus_one : (k m t i : ℕ) → m < 2 ^ k → (digit m i && not (eqb i t && ltb i k)) ≡ (digit m i && not (eqb i t))
minus_one k m t i p = ⊎_elim
    (λ h. ap (λ b. digit m i && not b) (ap (λ b. eqb i t && b) (lt-ltb i k h) ∙ and-true (eqb i t)))
    (λ h. let e = digit_past k m i p h in and_left (digit m i) _ e ∙ sym (and_left (digit m i) _ e))
    (cases_lt i k)

-- ---- a set is determined by its members

odd_mod : (a b : ℕ) → odd a ≡ odd b → a % 2 ≡ b % 2
odd_mod a b e = low_digit a ∙ ap (λ x. cond x 1 0) e ∙ sym (low_digit b)

same_below : (k a b : ℕ) → a < 2 ^ k → b < 2 ^ k → ((i : ℕ) → digit a i ≡ digit b i) → a ≡ b
same_below zero a b p q h = omega arith
same_below (suc k) a b p q h =
    let l = odd_mod a b (sym (digit_zero a) ∙ h 0 ∙ digit_zero b) in
    let u = same_below k (a / 2) (b / 2) (omega (arith, pow-suc 2 k)) (omega (arith, pow-suc 2 k)) (λ i. sym (digit_suc a i) ∙ h (suc i) ∙ digit_suc b i) in
    omega arith

below_pow : (n : ℕ) → n < 2 ^ n
below_pow zero = omega arith
below_pow (suc n) = omega (arith, pow-suc 2 n, below_pow n)

pub same_number : (a b : ℕ) → ((i : ℕ) → digit a i ≡ digit b i) → a ≡ b
same_number a b h = same_below (a + b) a b (below a b) (subst (λ n. b < 2 ^ n) (omega arith) (below b a)) h
  where
    below : (a b : ℕ) → a < 2 ^ (a + b)
    below a b = omega (arith, below_pow (a + b))

pub same_set : (s t : SmallSet) → ((i : ℕ) → has s i ≡ has t i) → s ≡ t
same_set s t h = ap (λ n. record { bits = n }) (same_number s.bits t.bits h)

-- ---- length and least member, by members

nothing : ones 0 ≡ 0
unfolding ones
nothing = refl

-- digit t of m is 1, and it is the lowest
pub record Lowest (m t k : ℕ) : Type 0 where
  pub inside : t < k
  pub here : digit m t ≡ true
  pub below : (j : ℕ) → j < t → digit m j ≡ false

pub ones_count : (k m : ℕ) → m < 2 ^ k → ones m ≡ count k (digit m)
unfolding sum_below
ones_count zero m h = let e : m ≡ 0 = omega arith in ap ones e ∙ nothing
ones_count (suc k) m h =
    ones_step m ∙ ap₂ (λ x y. x + y) (low_digit m ∙ ap (λ b. cond b 1 0) (sym (digit_zero m))) (ones_count k (m / 2) (omega (arith, pow-suc 2 k)))
    ∙ ap (λ x. cond (digit m 0) 1 0 + x) (count_same k (digit (m / 2)) (λ i. digit m (suc i)) (λ i _. sym (digit_suc m i)))
    ∙ sym (count_first k (digit m))

-- a number with its lowest digit 0, from its half
lowest_double : (m t k : ℕ) → m % 2 ≡ 0 → Lowest (m / 2) t k → Lowest m (suc t) (suc k)
lowest_double m t k e l = record { inside = omega (arith, l.inside); here = digit_suc m t ∙ l.here; below = clear }
  where
    clear : (j : ℕ) → j < suc t → digit m j ≡ false
    clear zero h = digit_zero m ∙ odd_is m 0 e
    clear (suc j) h = digit_suc m j ∙ l.below j (omega arith)

-- the trailing zeros of a number lead to its lowest digit that is 1
pub least_digit : (k m : ℕ) → m < 2 ^ k → 0 < m → Lowest m (count_trailing_zeros k m) k
unfolding count_trailing_zeros
least_digit zero m h p = absurd (omega arith)
least_digit (suc k) m h p = go (m % 2) refl (λ e. least_digit k (m / 2) (omega (arith, pow-suc 2 k)) (omega arith))
  where
    go : (x : ℕ) → m % 2 ≡ x → (m % 2 ≡ 0 → Lowest (m / 2) (count_trailing_zeros k (m / 2)) k) → Lowest m (under x (count_trailing_zeros k (m / 2))) (suc k)
    go zero e f = lowest_double m (count_trailing_zeros k (m / 2)) k e (f e)
    go (suc x) e f = record { inside = omega arith; here = digit_zero m ∙ odd_is m 1 (omega arith); below = λ j l. absurd (omega arith) }

-- ---- parity, by members

-- the parity of a sum is the sum of the parities
pub odd_count_xor : (m : ℕ) (s t : ℕ → Bool) → odd (count m (λ i. xor (s i) (t i))) ≡ xor (odd (count m s)) (odd (count m t))
unfolding sum_below xor
odd_count_xor zero s t = odd_is 0 0 refl ∙ sym (ap₂ xor (odd_is 0 0 refl) (odd_is 0 0 refl))
odd_count_xor (suc m) s t =
    odd_add (count m (λ i. xor (s i) (t i))) (cond (xor (s m) (t m)) 1 0)
    ∙ ap₂ xor (odd_count_xor m s t) (odd_flag (xor (s m) (t m)))
    ∙ exchange (odd (count m s)) (odd (count m t)) (s m) (t m)
    ∙ sym (ap₂ xor (odd_add (count m s) (cond (s m) 1 0) ∙ ap (xor (odd (count m s))) (odd_flag (s m))) (odd_add (count m t) (cond (t m) 1 0) ∙ ap (xor (odd (count m t))) (odd_flag (t m))))
  where
    odd_flag : (b : Bool) → odd (cond b 1 0) ≡ b
    odd_flag true = odd_is 1 1 refl
    odd_flag false = odd_is 0 0 refl

    exchange : (a b x y : Bool) → xor (xor a b) (xor x y) ≡ xor (xor a x) (xor b y)
    exchange true true true true = refl
    exchange true true true false = refl
    exchange true true false true = refl
    exchange true true false false = refl
    exchange true false true true = refl
    exchange true false true false = refl
    exchange true false false true = refl
    exchange true false false false = refl
    exchange false true true true = refl
    exchange false true true false = refl
    exchange false true false true = refl
    exchange false true false false = refl
    exchange false false true true = refl
    exchange false false true false = refl
    exchange false false false true = refl
    exchange false false false false = refl

pub oddly_xor : (l a b c : SmallSet) → ((i : ℕ) → has c i ≡ xor (has a i) (has b i)) → oddly l c ≡ xor (oddly l a) (oddly l b)
unfolding xor
oddly_xor l a b c h =
    ap odd (count_same 64 (λ i. has l i && has c i) (λ i. xor (has l i && has a i) (has l i && has b i)) (λ i _. ap (λ x. has l i && x) (h i) ∙ spread (has l i) (has a i) (has b i)))
    ∙ odd_count_xor 64 (λ i. has l i && has a i) (λ i. has l i && has b i)
  where
    spread : (x y z : Bool) → (x && xor y z) ≡ xor (x && y) (x && z)
    spread true y z = refl
    spread false y z = refl

odd_suc : (n : ℕ) → odd (suc n) ≡ xor (odd n) true
unfolding odd
odd_suc n = ap odd (omega arith) ∙ odd_add n 1

-- with a member u more, a set s shares one place more with a set t that has u
pub parity_with : (m u : ℕ) (s more t : ℕ → Bool) → u < m → s u ≡ false → ((i : ℕ) → i < m → more i ≡ (s i || eqb i u))
    → odd (count m (λ i. more i && t i)) ≡ xor (odd (count m (λ i. s i && t i))) (t u)
parity_with m u s more t lt out is = ⊎_elim
    (λ yes.
    ap odd
    (count_same m (λ i. more i && t i) (λ i. (s i && t i) || eqb i u) (λ i l. ap (λ b. b && t i) (is i l) ∙ meets (s i) (eqb i u) (t i) (λ e. ap t (eqb-true i u e) ∙ yes))
    ∙ count_with m u (λ i. s i && t i) lt (ap (λ b. b && t u) out))
    ∙ odd_suc (count m (λ i. s i && t i)) ∙ ap (xor (odd (count m (λ i. s i && t i)))) (sym yes))
    (λ no.
    ap odd (count_same m (λ i. more i && t i) (λ i. s i && t i) (λ i l. ap (λ b. b && t i) (is i l) ∙ misses (s i) (eqb i u) (t i) (λ e. ap t (eqb-true i u e) ∙ no)))
    ∙ sym (xor_none _) ∙ ap (xor (odd (count m (λ i. s i && t i)))) (sym no))
    (cases_Bool (t u))
  where
    meets : (a e r : Bool) → (e ≡ true → r ≡ true) → ((a || e) && r) ≡ ((a && r) || e)
    meets true true true h = refl
    meets true true false h = h refl
    meets true false true h = refl
    meets true false false h = refl
    meets false true r h = h refl
    meets false false r h = refl

    misses : (a e r : Bool) → (e ≡ true → r ≡ false) → ((a || e) && r) ≡ (a && r)
    misses true e r h = refl
    misses false true r h = h refl
    misses false false r h = refl
