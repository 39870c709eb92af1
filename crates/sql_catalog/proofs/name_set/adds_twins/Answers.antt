use Rattle.std.proofs.Common.{arith, ap, ◌≡◌, ◌||◌, ◌++◌, ◌∷◌, List, ℕ}
use Rattle.std.proofs.lemmas.Grind.{common_steps}
use Rattle.sql_ast.specs.Names.{contains, has_twins}
use Rattle.sql_catalog.proofs.NameLaws.{none_seen, twins_more}
use Rattle.sql_catalog.proofs.name_set.adds_twins.Goals as goal

pub loop-name-init : goal.loop-name-init
loop-name-init c = rw (c.requires) (ap (λ b. b || has_twins c.args.names.now) (none_seen c.args.names.now))

pub loop-name-preserved : goal.loop-name-preserved
loop-name-preserved c = grind (arith, common_steps, twins_more)

pub returns-then-not-branch : goal.returns-then-not-branch
returns-then-not-branch c = grind (arith, common_steps)
