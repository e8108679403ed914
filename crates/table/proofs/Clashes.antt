-- What clashes a contents has, from the first failures of its two tests.
use Rattle.std.proofs.Common.{◌≡◌, ℕ, ◌<◌, cond, ◌&&◌, eqb, ltb, Some, None, Option, ap, ◌∙◌, ap₂, arith}
use Rattle.std.proofs.lemmas.Bool.{lt-ltb, le-ltb, cond-true, cond-false, and_right, and_left}
use Rattle.table.specs.declared.fault.TableFault.{TableFault}
use Rattle.table.specs.declared.fault.TableFault.TheVariants.{Pair, Cover}
use Rattle.table.specs.Ranges.{first}
use Rattle.table.specs.Contents.{Contents}
use Rattle.table.specs.Reading.{apart, joined, clash}

loose : Contents → Option TableFault
loose t = cond (eqb t.grade 2 && ltb (first (joined t) t.v) t.v) (Some (Cover (first (joined t) t.v))) None

pub clash_pair : (t : Contents) (d : ℕ) → first (apart t) t.n ≡ d → d < t.n → clash t ≡ Some (Pair d)
unfolding clash
clash_pair t d e h =
    cond-true (ltb (first (apart t) t.n) t.n) (Some (Pair (first (apart t) t.n))) _ (ap (λ x. ltb x t.n) e ∙ lt-ltb d t.n h)
    ∙ ap (λ x. Some (Pair x)) e

apart_so : (t : Contents) → first (apart t) t.n ≡ t.n → clash t ≡ loose t
unfolding clash loose
apart_so t e = cond-false (ltb (first (apart t) t.n) t.n) (Some (Pair (first (apart t) t.n))) (loose t) (ap (λ x. ltb x t.n) e ∙ le-ltb t.n t.n (omega arith))

pub clash_near : (t : Contents) → first (apart t) t.n ≡ t.n → t.grade ≡ 1 → clash t ≡ None
unfolding loose
clash_near t e g = apart_so t e ∙ cond-false _ _ _ (and_left (eqb t.grade 2) (ltb (first (joined t) t.v) t.v) (ap (λ x. eqb x 2) g))

pub clash_cover : (t : Contents) (p : ℕ) → first (apart t) t.n ≡ t.n → t.grade ≡ 2 → first (joined t) t.v ≡ p → p < t.v → clash t ≡ Some (Cover p)
unfolding loose
clash_cover t p e g f h =
    apart_so t e ∙ cond-true _ _ _ (ap₂ (λ x y. eqb x 2 && ltb y t.v) g f ∙ lt-ltb p t.v h) ∙ ap (λ x. Some (Cover x)) f

pub clash_none : (t : Contents) → first (apart t) t.n ≡ t.n → first (joined t) t.v ≡ t.v → clash t ≡ None
unfolding loose
clash_none t e f =
    apart_so t e ∙ cond-false _ _ _ (and_right (eqb t.grade 2) (ltb (first (joined t) t.v) t.v) (ap (λ x. ltb x t.v) f ∙ le-ltb t.v t.v (omega arith)))
