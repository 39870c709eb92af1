use Rattle.std.proofs.Common.{◌∙◌}
use Rattle.qgm_wellformed.proofs.Tables.{agree-is}
use Rattle.qgm_check.proofs.check.keeps.Goals as goal

pub returns-in-I5 : goal.returns-in-I5
returns-in-I5 c =
    rw c.in-I5.is (c.types_agree.ensures ∙ agree-is c.args.nodes.now c.args.survey.now.types.places c.requires.survey.types.1 c.args.survey.now.types.table.items c.requires.survey.types.0 c.args.node.now)
