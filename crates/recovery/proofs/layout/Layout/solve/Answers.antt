use Rattle.std.proofs.Common.{◌≡◌, ℕ, ◌<◌, true, not, ◌&&◌, eqb, ltb, take, sym, refl, ap, ◌∙◌, arith}
use mathlib.Core.Bool.{and-true}
use Rattle.std.proofs.lemmas.Bool.{ltb-true, lt-ltb, and_parts, and_right, not_from_true, not_from_false, eq-eqb, eqb-true}
use Rattle.sets.specs.Members.{has}
use Rattle.table.proofs.Validity.{valid_table}
use Rattle.recovery.specs.declared.layout.Layout.{Layout}
use Rattle.recovery.specs.Groups.{units}
use Rattle.recovery.specs.Layouts.{laid_out}
use Rattle.recovery.specs.Answers.{but}
use Rattle.recovery.proofs.Balancing.{front_pivots, balanced_rows}
use Rattle.recovery.proofs.Making.{layout_rows}
use Rattle.recovery.proofs.Solving.{itself, read_back, lost, row_recipe, balanced_loss}
use Rattle.recovery.proofs.layout.Layout.solve.Goals as goal

-- a unit of the layout
inside : (l : Layout) (unit : ℕ) → true ≡ has l.units unit → unit < units (laid_out l)
inside l unit e = ltb-true unit (units (laid_out l)) (sym (l.all unit) ∙ sym e)

pub returns-then-not-contains-2 : goal.returns-then-not-contains-2
returns-then-not-contains-2 g c =
    let k = g.C.Cell in
    let layout = c.args.self.now in
    let t = laid_out layout in
    let limits = (valid_table layout.table).limits in
    let unit : c.args.unit < units t = inside layout c.args.unit c.if-not-contains.ensures.member in
    read_back k.zero k.sum k.laws t c.args.missing c.args.unit c.of.result unit
    (itself k.zero k.sum k.laws t (but c.args.missing) c.args.unit (has c.of.result) unit (not_from_false (has c.args.missing c.args.unit) (sym c.if-not-contains-2.ensures.member))
    (λ i l. c.of.ensures i ∙ ap (λ b. eqb i c.args.unit && b) (lt-ltb i 64 (omega (arith, limits.units))) ∙ and-true (eqb i c.args.unit))
    (λ i e. eqb-true i c.args.unit (and_parts (eqb i c.args.unit) (ltb i 64) (sym (c.of.ensures i) ∙ e)).0))

pub balance-requires : goal.balance-requires
balance-requires g c =
    let layout = c.args.self.now in
    let limits = (valid_table layout.table).limits in
    let unit : c.args.unit < units (laid_out layout) = inside layout c.args.unit c.if-not-contains.ensures.member in
    record {
      shape = front_pivots c.without-others.result c.eliminate-rank.new.rows c.eliminate-rank.result c.eliminate-rank.ensures.pivots;
      unit = (
        omega (arith, limits.units),
        c.without-others.ensures c.args.unit
            ∙ and_right (has c.args.missing c.args.unit) (not (eqb c.args.unit c.args.unit)) (not_from_true (eqb c.args.unit c.args.unit) (eq-eqb c.args.unit c.args.unit refl)),
      );
    }

pub returns-in-Some : goal.returns-in-Some
returns-in-Some g c =
    let k = g.C.Cell in
    let layout = c.args.self.now in
    let t = laid_out layout in
    let unit : c.args.unit < units t = inside layout c.args.unit c.if-not-contains.ensures.member in
    let found = c.in-Some.ensures in
    read_back k.zero k.sum k.laws t c.args.missing c.args.unit c.without.result unit
    (row_recipe k.zero k.sum k.laws t c.args.missing c.args.unit (take c.v.result layout.groups) c.eliminate-rank.new.rows c.without-others.result c.eliminate-rank.result
    (layout_rows layout c.v.result c.v.ensures)
    c.eliminate-rank.ensures c.without-others.ensures c.in-Some.place found.0 found.2 c.without.result c.without.ensures)

pub returns-in-None : goal.returns-in-None
returns-in-None g c =
    let k = g.C.Cell in
    let layout = c.args.self.now in
    let t = laid_out layout in
    let limits = (valid_table layout.table).limits in
    let unit : c.args.unit < units t = inside layout c.args.unit c.if-not-contains.ensures.member in
    lost k.zero k.sum k.laws t c.args.missing c.args.unit c.balance.result
    (balanced_loss k.zero k.sum k.laws t c.args.missing c.args.unit (take c.v.result layout.groups) c.eliminate-rank.new.rows c.without-others.result c.eliminate-rank.result
    (layout_rows layout c.v.result c.v.ensures)
    c.eliminate-rank.ensures c.without-others.ensures (sym c.if-not-contains-2.ensures.member) unit limits.units c.in-None.ensures c.balance.result
    (balanced_rows c.without-others.result c.eliminate-rank.new.rows c.eliminate-rank.result c.eliminate-rank.ensures.pivots c.args.unit c.balance.result c.balance.ensures))
