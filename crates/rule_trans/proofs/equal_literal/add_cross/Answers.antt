use Rattle.std.proofs.Common.{◌∙◌, ◌+◌, ap, arith, map, sym}
use Rattle.std.proofs.lemmas.Grind.{common_steps}
use Rattle.qgm_terms.specs.Shown.{cond}
use Rattle.rule_trans.specs.Equalities.{is_some}
use Rattle.rule_trans.specs.Literals.{numbered, shown_conjunct}
use Rattle.rule_trans.proofs.FixedPlaces.{row_told}
use Rattle.rule_trans.proofs.LiteralRows.{cross_more, cross_skip}
use Rattle.rule_trans.proofs.equal_literal.add_cross.Goals as goal
use Rattle.rule_trans.proofs.equal_literal.add_cross.Goals.{in-Some+in_ok-add_row, in_default}

pub loop-i-preserved : goal.loop-i-preserved
loop-i-preserved c = elim c.match-equated.branch [
  | in-Some+in_ok-add_row w ↦ (
      let more = cross_more c.args.graph.now c.args.node.now c.args.node.now.parts.conds.items c.args.b (c.loop-i.i + 1) c.as_slice-list.result.now c.loop-i.i c.index-list-i.result c.loop-i-test.true c.index-list-i.is in
      let told = row_told c.args.graph.now c.args.node.now (map shown_conjunct c.in_ok-all.all.items) (c.in_ok-all.ensures ∙ ap (numbered 1) c.as_slice-list.ensures) (cond c.index-list-i.result) w.in-Some.e w.in-Some.ensures (c.loop-i.i + 1) in
      grind (arith, common_steps, more, told))
  | in_default w ↦ (
      let skip = cross_skip c.args.graph.now c.args.node.now c.args.node.now.parts.conds.items c.args.b (c.loop-i.i + 1) c.as_slice-list.result.now c.loop-i.i c.index-list-i.result c.loop-i-test.true c.index-list-i.is (ap is_some (sym w.in_default.ensures)) in
      grind (arith, common_steps, skip))
]
