use Rattle.std.proofs.Common.{arith}
use Rattle.std.proofs.lemmas.Grind.{common_steps}
use Rattle.csv_tables.proofs.Fits.{answer-fits}
use Rattle.csv_tables.proofs.loading.load_table.Goals as goal

pub returns-clause-fits : goal.returns-clause-fits
returns-clause-fits g c = answer-fits c.args.decl.now _ c.table_from.result c.table_from.ensures

pub returns-in_err-bytes-clause-later : goal.returns-in_err-bytes-clause-later
returns-in_err-bytes-clause-later g c = grind (arith, common_steps)

pub returns-in_err-bytes-clause-fits : goal.returns-in_err-bytes-clause-fits
returns-in_err-bytes-clause-fits g c = grind (arith, common_steps)

pub returns-clause-failed : goal.returns-clause-failed
returns-clause-failed g c = grind (arith, common_steps)

pub returns-in_err-bytes-clause-failed : goal.returns-in_err-bytes-clause-failed
returns-in_err-bytes-clause-failed g c = grind (arith, common_steps)

pub returns-clause-later : goal.returns-clause-later
returns-clause-later g c = grind (arith, common_steps)

pub returns-in_err-path-clause-comes : goal.returns-in_err-path-clause-comes
returns-in_err-path-clause-comes g c = grind (arith, common_steps)
