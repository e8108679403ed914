-- The load of a table in grade 2: the pairs of a point p with another point are counted twice, by blocks and by the other point.
use Rattle.std.proofs.Common.{◌≡◌, ℕ, suc, ◌+◌, ◌-◌, ◌*◌, ◌/◌, ◌<◌, ◌≤◌, Bool, true, false, cond, not, ◌&&◌, eqb, sym, refl, ap, ◌∙◌, inl, inr, mul-div_cancel, arith}
use Rattle.std.proofs.lemmas.Bool.Decides.{eqb_tells}
use Rattle.std.proofs.lemmas.Bool.{eq-eqb, and_from, and_parts}
use Rattle.sets.specs.Sums.{sum_below, count}
use Rattle.sets.proofs.Sums.{nat_adds, sum_same, sum_none, sum_swap, total_const, count_all, count_one, count_two, count_without}
use Rattle.table.specs.Contents.{Contents, Valid, has_point, load, BehindEach}

module _ (t : Contents) (valid : Valid t) (two : t.grade ≡ 2) (p : ℕ) (lp : p < t.v) where
  -- two points stand together in one block alone
  together : (q : ℕ) → q < t.v → (q ≡ p → ⊥) → count t.n (λ d. has_point t d p && has_point t d q) ≡ 1
  together q lq ne =
      let c = valid.covers two p q lp lq (λ e. ne (sym e)) in
      count_one t.n c.0 (λ d. has_point t d p && has_point t d q) c.1 (and_from (has_point t c.0 p) (has_point t c.0 q) c.2 c.3) (λ d ld h. only c.0 c.1 c.2 c.3 d ld (and_parts (has_point t d p) (has_point t d q) h).0 (and_parts (has_point t d p) (has_point t d q) h).1)
    where
      only : (a : ℕ) → a < t.n → has_point t a p ≡ true → has_point t a q ≡ true → (d : ℕ) → d < t.n → has_point t d p ≡ true → has_point t d q ≡ true → d ≡ a
      only a la pa qa d ld pd qd = elim (eqb_tells d a) [
        | inl e ↦ e.1
        | inr e ↦
            let few = valid.pairs d a ld la e.1 in
            let many = count_two t.v q p (λ r. has_point t d r && has_point t a r) lq lp ne (and_from (has_point t d q) (has_point t a q) qd qa) (and_from (has_point t d p) (has_point t a p) pd pa) in
            absurd (omega arith)
      ]

  pairs_by_blocks : sum_below 0 ◌+◌ t.n (λ d. cond (has_point t d p) (count t.v (λ q. has_point t d q && not (eqb q p))) 0) ≡ count t.n (λ d. has_point t d p) * (t.k - 1)
  pairs_by_blocks =
      sum_same 0 ◌+◌ t.n (λ d. cond (has_point t d p) (count t.v (λ q. has_point t d q && not (eqb q p))) 0) (λ d. cond (has_point t d p) (t.k - 1) 0) (λ d ld. at (has_point t d p) d ld refl)
      ∙ total_const t.n (t.k - 1) (λ d. has_point t d p)
    where
      at : (z : Bool) (d : ℕ) → d < t.n → has_point t d p ≡ z → cond z (count t.v (λ q. has_point t d q && not (eqb q p))) 0 ≡ cond z (t.k - 1) 0
      at true d ld e = let w = count_without t.v p (λ q. has_point t d q) lp e in let k = valid.blocks d ld in omega arith
      at false d ld e = refl

  turn : sum_below 0 ◌+◌ t.n (λ d. cond (has_point t d p) (count t.v (λ q. has_point t d q && not (eqb q p))) 0) ≡ count t.v (λ q. true && not (eqb q p))
  turn =
      sum_same 0 ◌+◌ t.n (λ d. cond (has_point t d p) (count t.v (λ q. has_point t d q && not (eqb q p))) 0) (λ d. sum_below 0 ◌+◌ t.v (λ q. cond (has_point t d p && (has_point t d q && not (eqb q p))) 1 0)) (λ d ld. inner (has_point t d p) d)
      ∙ sum_swap 0 ◌+◌ nat_adds t.n t.v (λ d q. cond (has_point t d p && (has_point t d q && not (eqb q p))) 1 0)
      ∙ sum_same 0 ◌+◌ t.v (λ q. sum_below 0 ◌+◌ t.n (λ d. cond (has_point t d p && (has_point t d q && not (eqb q p))) 1 0)) (λ q. cond (true && not (eqb q p)) 1 0) (λ q lq. outer q lq)
    where
      inner : (z : Bool) (d : ℕ) → cond z (count t.v (λ q. has_point t d q && not (eqb q p))) 0 ≡ sum_below 0 ◌+◌ t.v (λ q. cond (z && (has_point t d q && not (eqb q p))) 1 0)
      inner true d = refl
      inner false d = sym (sum_none 0 ◌+◌ nat_adds t.v (λ q. 0) (λ q l. refl))

      and_on : (x y : Bool) → (x && (y && true)) ≡ (x && y)
      and_on true true = refl
      and_on true false = refl
      and_on false y = refl

      and_off : (x y : Bool) → (x && (y && false)) ≡ false
      and_off true true = refl
      and_off true false = refl
      and_off false y = refl

      outer : (q : ℕ) → q < t.v → sum_below 0 ◌+◌ t.n (λ d. cond (has_point t d p && (has_point t d q && not (eqb q p))) 1 0) ≡ cond (true && not (eqb q p)) 1 0
      outer q lq = elim (eqb_tells q p) [
        | inl e ↦ sum_none 0 ◌+◌ nat_adds t.n (λ d. cond (has_point t d p && (has_point t d q && not (eqb q p))) 1 0) (λ d l. ap (λ (z : Bool). cond {A = ℕ} (has_point t d p && (has_point t d q && not z)) 1 0) e.0 ∙ ap (λ (z : Bool). cond {A = ℕ} z 1 0) (and_off (has_point t d p) (has_point t d q)))
            ∙ sym (ap (λ (z : Bool). cond {A = ℕ} (not z) 1 0) e.0)
        | inr e ↦ sum_same 0 ◌+◌ t.n (λ d. cond (has_point t d p && (has_point t d q && not (eqb q p))) 1 0) (λ d. cond (has_point t d p && has_point t d q) 1 0) (λ d l. ap (λ (z : Bool). cond {A = ℕ} (has_point t d p && (has_point t d q && not z)) 1 0) e.0 ∙ ap (λ (z : Bool). cond {A = ℕ} z 1 0) (and_on (has_point t d p) (has_point t d q)))
            ∙ together q lq e.1
            ∙ sym (ap (λ (z : Bool). cond {A = ℕ} (not z) 1 0) e.0)
      ]

  load_is : count t.n (λ d. has_point t d p) ≡ load t
  load_is =
      let most : suc (count t.v (λ q. true && not (eqb q p))) ≡ t.v = sym (count_without t.v p (λ q. true) lp refl) ∙ count_all t.v in
      let prod : count t.n (λ d. has_point t d p) * (t.k - 1) ≡ t.v - 1 = sym pairs_by_blocks ∙ turn ∙ sym (ap (λ k. k - 1) (sym most) ∙ less (count t.v (λ q. true && not (eqb q p)))) in
      let wide : 2 ≤ t.k = valid.limits.k_low in
      let pos : 0 < t.k - 1 = omega arith in
      sym (mul-div_cancel (count t.n (λ d. has_point t d p)) pos) ∙ ap (λ x. x / (t.k - 1)) prod ∙ sym (ap (λ (z : Bool). cond z ((t.v - 1) / (t.k - 1)) 0) (eq-eqb t.grade 2 two))
    where
      less : (x : ℕ) → suc x - 1 ≡ x
      less x = omega arith

pub behind_each : (t : Contents) → Valid t → t.grade ≡ 2 → BehindEach t (load t)
behind_each t valid two p lp = load_is t valid two p lp
