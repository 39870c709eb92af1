use Rattle.std.proofs.Common.{arith}
use Rattle.std.proofs.lemmas.Grind.{common_steps}
use Rattle.rule_distinct.proofs.DropsDistinctEdits.{key_acts, key_held, key_preserves}
use Rattle.rule_distinct.proofs.drop_key_distinct.dropped.Goals as goal

pub put_distinct-requires : goal.put_distinct-requires
put_distinct-requires c = key_held c.args.graph.now c.args.place c.requires.given

pub returns-clause-acts : goal.returns-clause-acts
returns-clause-acts c = grind (arith, common_steps, key_acts)

pub returns-clause-preserves : goal.returns-clause-preserves
returns-clause-preserves c = grind (arith, common_steps, key_preserves)
