use Rattle.std.proofs.Common.{◌∙◌, ap, arith}
use Rattle.std.proofs.lemmas.Grind.{common_steps}
use Rattle.rule_trans.specs.ColumnPairs.{has}
use Rattle.rule_trans.specs.Equalities.{is_there}
use Rattle.rule_trans.proofs.JointRows.{grid_told}
use Rattle.rule_trans.proofs.equal_columns.add_places.Goals as goal

pub returns : goal.returns
returns c =
    let told = grid_told c.args.graph.now c.args.node.now (has c.in_ok-pairs.pairs) (λ a z. c.in_ok-pairs.ensures a z ∙ ap (is_there a z) c.as_slice.ensures) c.in_ok-joints.joints.items c.in_ok-joints.ensures in
    grind (arith, common_steps, told)
