use Rattle.std.proofs.Common.{arith}
use Rattle.std.proofs.lemmas.Grind.{common_steps}
use Rattle.rule_facts.proofs.MarksBefore.{put_kept}
use Rattle.rule_distinct.proofs.parts.put_distinct.Goals as goal

pub returns-clause-ok : goal.returns-clause-ok
returns-clause-ok c = grind (arith, common_steps, put_kept)
