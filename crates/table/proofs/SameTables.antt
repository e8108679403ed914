-- Tables that say the same are the same.
use Rattle.std.proofs.Common.{◌≡◌, ◌+◌, ◌*◌, ◌≤◌, false, length, is_some, sym, refl, ap, ◌∙◌, arith}
use mathlib.Core.HLevel.{is_prop→PathP}
use denote.Struct.Props.{props}
use Rattle.std.proofs.lemmas.List.{ext_get_or}
use Rattle.table.specs.declared.grade.Grade.{Grade}
use Rattle.table.specs.declared.grade.Grade.TheVariants.{Packing, Steiner}
use Rattle.table.specs.declared.table.Draft.{Draft}
use Rattle.table.specs.declared.table.Sizes.{Sizes}
use Rattle.table.specs.declared.table.Table.{Table}
use Rattle.table.specs.Contents.{Contents}
use Rattle.table.specs.Reading.{clash}
use Rattle.table.specs.Numbers.{grade_number}
use Rattle.table.specs.Parts.{High, Ascends, Blank}
use Rattle.table.specs.Held.{draft_contents, contents}

same_grade : (g h : Grade) → grade_number g ≡ grade_number h → g ≡ h
same_grade Packing Packing e = refl
same_grade Packing Steiner e = absurd (omega arith)
same_grade Steiner Packing e = absurd (omega arith)
same_grade Steiner Steiner e = refl

same_points : (s t : Draft) → draft_contents s ≡ draft_contents t → s.points ≡ t.points
same_points s t e = ext_get_or 0 s.points t.points (s.room ∙ sym t.room) (λ i _. ap (λ (p : Contents). p.point i) e)

same_sizes : (s t : Sizes) → s.v ≡ t.v → s.n ≡ t.n → s.k ≡ t.k → s ≡ t
same_sizes s t pv pn pk = λ i. record {
  v = pv i;
  n = pn i;
  k = pk i;
  checks = is_prop→PathP (λ j. (2 ≤ pv j) × (pv j ≤ 40)) (λ j. hlevel props) s.checks t.checks i;
  records = is_prop→PathP (λ j. (1 ≤ pn j) × (pn j + pv j ≤ 64)) (λ j. hlevel props) s.records t.records i;
  width = is_prop→PathP (λ j. (2 ≤ pk j) × (pk j ≤ 8) × (pk j ≤ pv j)) (λ j. hlevel props) s.width t.width i;
}

pub same_draft : (s t : Draft) → draft_contents s ≡ draft_contents t → s ≡ t
same_draft s t e =
    let ps : s.sizes ≡ t.sizes = same_sizes s.sizes t.sizes (ap (λ (p : Contents). p.v) e) (ap (λ (p : Contents). p.n) e) (ap (λ (p : Contents). p.k) e) in
    let pg : s.grade ≡ t.grade = same_grade s.grade t.grade (ap (λ (p : Contents). p.grade) e) in
    let pp : s.points ≡ t.points = same_points s t e in
    λ i. record {
      sizes = ps i;
      grade = pg i;
      points = pp i;
      room = is_prop→PathP (λ j. length (pp j) ≡ 496) (λ j. hlevel props) s.room t.room i;
      high = is_prop→PathP (λ j. High (ps j).v (pp j)) (λ j. hlevel props) s.high t.high i;
      ascends = is_prop→PathP (λ j. Ascends ((ps j).n * (ps j).k) (ps j).k (pp j)) (λ j. hlevel props) s.ascends t.ascends i;
      blank = is_prop→PathP (λ j. Blank ((ps j).n * (ps j).k) (pp j)) (λ j. hlevel props) s.blank t.blank i;
    }

pub same_table : (s t : Table) → contents s ≡ contents t → s ≡ t
same_table s t e =
    let p = same_draft s.draft t.draft e in
    λ i. record { draft = p i; sound = is_prop→PathP (λ j. is_some (clash (draft_contents (p j))) ≡ false) (λ j. hlevel props) s.sound t.sound i }
