-- The points that the reader has taken so far.
use Rattle.std.proofs.Common.{◌≡◌, ℕ, zero, suc, ◌+◌, ◌*◌, ◌-◌, ◌%◌, ◌<◌, ◌≤◌, cond, eqb, ltb, List, length, get_or, replicate, sym, refl, ap, ◌∙◌, ⊎_elim, arith, rules}
use Rattle.std.proofs.lemmas.List.{places}
use Rattle.std.proofs.lemmas.Bool.{cases_lt, lt-ltb, le-ltb, eq-eqb, ne_eqb, cond-true, cond-false}
use Rattle.std.proofs.Math.Nat.{mul-mod_left}
use Rattle.std.proofs.lemmas.Nat.{mod-mul-add}
use borrow.Rule.Slice.PartMut.{put_mid}
use Rattle.table.specs.Place.{byte, many, lowest}
use Rattle.table.specs.Refusals.{Passed}
use Rattle.table.specs.Stages.{Filled}
use Rattle.table.proofs.Sizes.{place_below}
use Rattle.table.proofs.Faults.{fits_parts}
use Rattle.table.proofs.Places.{low_point, high_point}

pub zeros : (n i : ℕ) → ◌≡◌ {A = ℕ} (get_or (replicate n 0) i 0) 0
zeros zero i = refl
zeros (suc n) zero = refl
zeros (suc n) (suc i) = zeros n i

pub filled_at : (bs ps : List ℕ) (m i : ℕ) → Filled bs m ps → i < m → get_or ps i 0 ≡ byte bs (5 + i)
filled_at bs ps m i f h = f i ∙ cond-true (ltb i m) (byte bs (5 + i)) 0 (lt-ltb i m h)

pub filled_past : (bs ps : List ℕ) (m i : ℕ) → Filled bs m ps → m ≤ i → get_or ps i 0 ≡ 0
filled_past bs ps m i f h = f i ∙ cond-false (ltb i m) (byte bs (5 + i)) 0 (le-ltb i m h)

-- no point yet
pub filled_none : (bs : List ℕ) (n m : ℕ) → m ≡ 0 → Filled bs m (replicate n 0)
filled_none bs n m e i = zeros n i ∙ sym (cond-false (ltb i m) (byte bs (5 + i)) 0 (le-ltb i m (omega arith)))

-- more points, from place m to place e
pub filled_more : (bs ps qs : List ℕ) (m e : ℕ) → Filled bs m ps → m ≤ e → e ≤ length ps → length qs ≡ e - m → ((j : ℕ) → j < length qs → get_or qs j 0 ≡ byte bs (5 + m + j)) → Filled bs e (put_mid m (e - m) ps qs)
filled_more bs ps qs m e f up room long new i =
    ⊎_elim
    (λ (l : i < m).
    let kept : get_or (put_mid m (e - m) ps qs) i 0 ≡ get_or ps i 0 = search (rules, places) in
    kept ∙ filled_at bs ps m i f l ∙ sym (cond-true (ltb i e) (byte bs (5 + i)) 0 (lt-ltb i e (omega arith))))
    (λ (l : m ≤ i).
    ⊎_elim
    (λ (g : i < e).
    let put : get_or (put_mid m (e - m) ps qs) i 0 ≡ get_or qs (i - m) 0 = search (rules, places) in
    put ∙ new (i - m) (omega arith) ∙ ap (byte bs) (omega arith) ∙ sym (cond-true (ltb i e) (byte bs (5 + i)) 0 (lt-ltb i e g)))
    (λ (g : e ≤ i).
    let kept : get_or (put_mid m (e - m) ps qs) i 0 ≡ get_or ps i 0 = search (rules, places) in
    kept ∙ filled_past bs ps m i f l ∙ sym (cond-false (ltb i e) (byte bs (5 + i)) 0 (le-ltb i e g)))
    (cases_lt i e))
    (cases_lt i m)

pub point_high : (bs : List ℕ) (m j : ℕ) → Passed bs (5 + m) → j < m → m ≤ many bs → byte bs (5 + j) ≤ byte bs 1 - 1
point_high bs m j p h g =
    let e = high_point bs j (omega arith) in
    let f = fits_parts bs (5 + j) (p.fitting (5 + j) (omega arith)) in
    omega (arith, f.2)

pub low_first : (i k x : ℕ) → i % k ≡ 0 → cond (eqb (i % k) 0) 0 x ≡ 0
low_first i k x e = cond-true (eqb (i % k) 0) 0 x (eq-eqb (i % k) 0 e)

pub low_next : (i k x : ℕ) → (i % k ≡ 0 → ⊥) → cond (eqb (i % k) 0) 0 x ≡ x
low_next i k x e = cond-false (eqb (i % k) 0) 0 x (ne_eqb (i % k) 0 e)

-- the first point of block d may be 0
pub low_block : (bs : List ℕ) (d : ℕ) → d < byte bs 2 → 0 < byte bs 3 → lowest bs (5 + d * byte bs 3) ≡ 0
low_block bs d g h =
    let k = byte bs 3 in
    low_point bs (d * k) (omega (arith, place_below d (byte bs 2) k 0 g h)) ∙ low_first (d * k) k (byte bs (4 + d * k) + 1) (mul-mod_left d k)

-- a further point of block d is above the one before it
pub low_further : (bs : List ℕ) (d j : ℕ) → d < byte bs 2 → suc j < byte bs 3 → lowest bs (5 + (d * byte bs 3 + suc j)) ≡ byte bs (5 + (d * byte bs 3 + j)) + 1
low_further bs d j g h =
    let k = byte bs 3 in
    let i = d * k + suc j in
    low_point bs i (place_below d (byte bs 2) k (suc j) g h)
    ∙ low_next i k (byte bs (4 + i) + 1) (λ e. absurd (omega (arith, mod-mul-add d k (suc j) h)))
    ∙ ap (λ x. byte bs x + 1) (omega arith)

pub high_so : (bs ps : List ℕ) (m v : ℕ) → Filled bs m ps → Passed bs (5 + m) → m ≡ many bs → v ≡ byte bs 1 → 2 ≤ v → (i : ℕ) → get_or ps i 0 < v
high_so bs ps m v f p e q h i =
    ⊎_elim
    (λ (l : i < m). let a = filled_at bs ps m i f l in let b = point_high bs m i p l (omega arith) in omega arith)
    (λ (l : m ≤ i). let a = filled_past bs ps m i f l in omega arith)
    (cases_lt i m)

pub ascend_so : (bs ps : List ℕ) (m k : ℕ) → Filled bs m ps → Passed bs (5 + m) → m ≡ many bs → k ≡ byte bs 3 → (i : ℕ) → (suc i < m) × (suc i % k ≡ 0 → ⊥) → get_or ps i 0 < get_or ps (suc i) 0
ascend_so bs ps m k f p e q i h =
    let l = h.0 in
    let a = filled_at bs ps m i f (omega arith) in
    let b = filled_at bs ps m (suc i) f l in
    let low = low_point bs (suc i) (omega arith) ∙ ap (λ x. cond (eqb (suc i % x) 0) 0 (byte bs (4 + suc i) + 1)) (sym q) ∙ low_next (suc i) k (byte bs (4 + suc i) + 1) h.1 in
    let r = (fits_parts bs (5 + suc i) (p.fitting (5 + suc i) (omega arith))).1 in
    let s : byte bs (4 + suc i) ≡ byte bs (5 + i) = ap (byte bs) (omega arith) in
    omega arith
