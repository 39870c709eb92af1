use Rattle.std.proofs.Common.{◌≡◌, Some, None, ◌∙◌, arith}
use Rattle.std.proofs.lemmas.Grind.{common_steps}
use Rattle.qgm_core.specs.Boxes.{owns, range_in}
use Rattle.list_laws.specs.Lists.{first}
use Rattle.qgm_props.specs.Table.{facts_of}
use Rattle.rule_trans.proofs.Rows.{free_none, free_some}
use Rattle.rule_trans.proofs.known.infers_free.Goals as goal

pub returns-in-Some : goal.returns-in-Some
returns-in-Some c =
    let e : Some c.in-Some.range ≡ range_in c.args.b.quant (first (owns c.args.b.quant) c.args.graph.now.boxes) = grind (arith, common_steps) in
    c.error_free.ensures ∙ free_some c.args.graph.now (facts_of c.args.known.now) c.requires c.args.b c.in-Some.range e

pub returns-in-None : goal.returns-in-None
returns-in-None c =
    let e : None ≡ range_in c.args.b.quant (first (owns c.args.b.quant) c.args.graph.now.boxes) = grind (arith, common_steps) in free_none c.args.graph.now (facts_of c.args.known.now) c.requires c.args.b e
