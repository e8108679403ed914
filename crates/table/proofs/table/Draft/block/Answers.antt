use Rattle.std.proofs.Common.{◌≡◌, ℕ, ◌+◌, ◌*◌, ◌≤◌, ◌&&◌, ◌||◌, List, [], ◌∷◌, ◌++◌, eqb, ltb, length, take, sym, ap, ◌∙◌, arith, rules}
use Rattle.std.specs.List.{list_any, between}
use Rattle.std.proofs.lemmas.Fn.{fold_over, fronts}
use Rattle.std.specs.Iterator.Adapters.{take_steps}
use Rattle.std.proofs.lemmas.List.{take_all}
use Rattle.std.proofs.lemmas.List.Edits.{length-between}
use Rattle.std.proofs.lemmas.Iterator.{YieldsList-from_take, YieldsList-from_slice}
use Rattle.std.proofs.lemmas.List.Folds.{list_any-append}
use mathlib.Core.Bool.{or-false}
use Rattle.sets.specs.declared.set.SmallSet.{SmallSet}
use Rattle.sets.specs.Members.{has}
use Rattle.table.specs.Contents.{has_point}
use Rattle.table.proofs.Sizes.{few_points, block_end}
use Rattle.table.proofs.Formed.{limits_of}
use Rattle.table.proofs.Blocks.{in_block}
use Rattle.table.proofs.table.Draft.block.Goals as goal

-- a has those of ys that are below 64
Gathers : List ℕ → SmallSet → Type 0
Gathers ys a = (p : ℕ) → has a p ≡ list_any (λ x. eqb p x && ltb p 64) ys

more : (ys : List ℕ) (x : ℕ) (a b : SmallSet) → Gathers ys a → ((i : ℕ) → has b i ≡ (has a i || (eqb i x && ltb i 64))) → Gathers (ys ++ x ∷ []) b
unfolding Gathers
more ys x a b g e p =
    e p ∙ ap (λ z. z || (eqb p x && ltb p 64)) (g p) ∙ ap (λ z. list_any (λ x. eqb p x && ltb p 64) ys || z) (sym (or-false (eqb p x && ltb p 64)))
    ∙ sym (list_any-append (λ x. eqb p x && ltb p 64) ys (x ∷ []))

pub returns : goal.returns
unfolding has_point Gathers
returns c p =
    let t = c.args.self.now in
    let k = t.sizes.k in
    let ys = c.iter.result.rest.now in
    let e : ys ≡ between (c.args.d * k) ((c.args.d + 1) * k) t.points = search rules in
    let few : length ys ≤ 8 = let wide = ap length e ∙ length-between t.points (c.args.d * k) ((c.args.d + 1) * k) (omega (arith, few_points (limits_of t.sizes), t.room, block_end c.args.d t.sizes.n k c.requires)) in omega (arith, t.sizes.width) in
    fold_over (take_steps fronts) (λ y. y.now) _ Gathers _ (λ ys a x b f' j k. let e : (i : ℕ) → has b i ≡ (has a i || (eqb i x.now && ltb i 64)) = search rules in (more ys x.now a b j e, search rules)) c.take.result (take 8 ys) _ _ (YieldsList-from_take {s = c.take.result} 8 (YieldsList-from_slice {A = ℕ} ys (search rules)) (search rules)).runs (λ p. c.empty.ensures p) c.fold.ensures.ran p
    ∙ ap (list_any (λ x. eqb p x && ltb p 64)) (take_all 8 ys few)
    ∙ ap (list_any (λ x. eqb p x && ltb p 64)) e
    ∙ in_block t.points t.sizes.v c.args.d t.sizes.n k p t.high (omega (arith, t.sizes.checks)) c.requires (omega (arith, few_points (limits_of t.sizes), t.room))
