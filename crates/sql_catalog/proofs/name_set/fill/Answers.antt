use Rattle.std.proofs.Common.{arith, ◌∙◌, ◌≡◌, ◌++◌, ◌∷◌, List, ℕ}
use Rattle.std.proofs.lemmas.Grind.{common_steps}
use Rattle.sql_ast.specs.Names.{contains}
use Rattle.sql_catalog.proofs.NameLaws.{added}
use Rattle.sql_catalog.proofs.name_set.fill.Goals as goal

pub loop-name-preserved : goal.loop-name-preserved
loop-name-preserved c = λ m. rw (c.in_ok-insert_copy.ensures.names) (added c.loop-name.set _ _ m ∙ grind (arith, common_steps, c.loop-name.invariant m))

pub loop-name-init : goal.loop-name-init
loop-name-init c = λ m. rw (c.requires) (grind (arith, common_steps))
