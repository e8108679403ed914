-- Laws of binomial coefficients.
use Rattle.std.proofs.Common.{◌≡◌, ℕ, zero, suc, ◌+◌, ◌-◌, ◌*◌, ◌/◌, ◌^◌, ◌<◌, ◌≤◌, sym, refl, ap, ◌∙◌, subst, le_trans, mul-le-mul_right, add-mul, mul-le-mul, pow-suc, zero-mul, mul-suc, mul-add, le-mul_of_pos_right, mul-div_cancel, arith}
use native.Mathlib.Nat.{pow-zero, pow-le-pow_left, pow-le-pow_right}
use Rattle.risk.specs.Choose.{choose}

-- there is one set of none
pub choose_none : (n : ℕ) → choose n 0 ≡ 1
unfolding choose
choose_none zero = refl
choose_none (suc n) = refl

-- the same, where 0 has a name
pub choose_zero : (n k : ℕ) → 0 ≡ k → choose n k ≡ 1
choose_zero n k e = ap (choose n) (sym e) ∙ choose_none n

-- and no other set of no things
choose_nothing : (k : ℕ) → choose 0 (suc k) ≡ 0
unfolding choose
choose_nothing k = refl

-- the sets that lack the last thing, and those that have it
choose_more : (n k : ℕ) → choose (suc n) (suc k) ≡ choose n (suc k) + choose n k
unfolding choose
choose_more n k = refl

-- the same, where the numbers one higher have names
pub choose_next : (n next k more : ℕ) → suc n ≡ next → suc k ≡ more → choose next more ≡ choose n more + choose n k
choose_next n next k more en ek =
    subst (λ a. choose a more ≡ choose n more + choose n k) en (subst (λ b. choose (suc n) b ≡ choose n b + choose n k) ek (choose_more n k))

-- more things, more sets
pub choose_grows : (m n k : ℕ) → m ≤ n → choose m k ≤ choose n k
choose_grows m n zero l = omega (arith, choose_none m, choose_none n)
choose_grows zero n (suc k) l = omega (arith, choose_nothing k)
choose_grows (suc m) zero (suc k) l = absurd (omega arith)
choose_grows (suc m) (suc n) (suc k) l =
    omega (arith, choose_more m k, choose_more n k, choose_grows m n (suc k) (omega arith), choose_grows m n k (omega arith))

-- the sets below a thing, each with it, are some of the sets
pub choose_part : (m n k more : ℕ) → m < n → suc k ≡ more → choose m k ≤ choose n more
choose_part m n k more l e = omega (arith, choose_next m (suc m) k more (omega arith) e, choose_grows (suc m) n more l)

-- the step of the law below
law_more : (a b c n k : ℕ) → b * suc k + a * k ≡ a * n → c * suc (suc k) + b * suc k ≡ b * n → (c + b) * suc (suc k) + (b + a) * suc k ≡ (b + a) * suc n
law_more a b c n k p q =
    omega (arith, add-mul c b (suc (suc k)), add-mul b a (suc k), add-mul b a (suc n), mul-suc b (suc k), mul-suc a k, mul-suc b n, mul-suc a n)

-- a set of k + 1 things comes from k + 1 sets of k, and each set of k goes on to n - k sets of k + 1
choose_law : (n k : ℕ) → choose n (suc k) * suc k + choose n k * k ≡ choose n k * n
choose_law zero zero = omega (arith, choose_nothing 0)
choose_law zero (suc k) = rw (choose_nothing k, choose_nothing (suc k)) (omega (arith, zero-mul (suc k), zero-mul (suc (suc k))))
choose_law (suc n) zero = rw (choose_more n 0, choose_none n, choose_none (suc n)) (omega (arith, choose_law n zero, ap (λ x. x * n) (choose_none n)))
choose_law (suc n) (suc k) = rw (choose_more n (suc k), choose_more n k) (law_more (choose n k) (choose n (suc k)) (choose n (suc (suc k))) n k (choose_law n k) (choose_law n (suc k)))

-- one step of the product that gives the number of sets
choose_product : (n k : ℕ) → k ≤ n → choose n k * (n - k) ≡ choose n (suc k) * suc k
choose_product n k l =
    let e : choose n k * (n - k + k) ≡ choose n k * n = ap (λ x. choose n k * x) (omega arith) in
    omega (arith, mul-add (choose n k) (n - k) k, choose_law n k)

pub choose_quotient : (n k : ℕ) → k ≤ n → choose n k * (n - k) / suc k ≡ choose n (suc k)
choose_quotient n k l = ap (λ x. x / suc k) (choose_product n k l) ∙ mul-div_cancel (choose n (suc k)) (omega arith)

-- a bound, so that the numbers fit a word
choose_power : (n k : ℕ) → choose n k ≤ n ^ k
choose_power n zero = omega (arith, choose_none n, pow-zero n)
choose_power n (suc k) =
    omega (arith, le-mul_of_pos_right {m = suc k} (choose n (suc k)) (omega arith), choose_law n k, mul-le-mul_right n (choose_power n k), pow-suc n k)

product_below : (top n k : ℕ) → 0 < top → n ≤ top → k ≤ 8 → choose n k * (n - k) ≤ top ^ 9
product_below top n k positive ln lk =
    let power : choose n k ≤ top ^ k = le_trans (choose_power n k) (pow-le-pow_left ln k) in
    let left : n - k ≤ top = omega arith in
    let more : top ^ suc k ≤ top ^ 9 = pow-le-pow_right positive (omega arith) in
    omega (arith, mul-le-mul power left, pow-suc top k)

pub product_fits : (n k : ℕ) → n ≤ 64 → k ≤ 8 → choose n k * (n - k) < 2 ^ 64
product_fits n k ln lk = omega (arith, product_below 64 n k (omega arith) ln lk)
