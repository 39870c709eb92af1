use Rattle.csv_tables.proofs.SeenSteps.{seen-none}
use Rattle.csv_tables.proofs.table.repeats_key.Goals as goal

pub returns-clause-found : goal.returns-clause-found
returns-clause-found c = rw (← seen-none c.args.table.now.keys c.args.before.now c.args.contents.now, ← c.requires) c.repeats.ensures.found
