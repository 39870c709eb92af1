use Rattle.std.proofs.Common.{arith}
use Rattle.std.proofs.lemmas.Grind.{common_steps}
use Rattle.sql_ast.specs.Shown as shown
use Rattle.sql_catalog.specs.Shown as catalogs
use Rattle.command_input.proofs.Asking.{query-asked, query-refused}
use Rattle.command_input.proofs.Fixed.{fits-of}
use Rattle.command_input.proofs.generating.question.Goals as goal

pub returns-in-Ok-clause-found : goal.returns-in-Ok-clause-found
returns-in-Ok-clause-found c =
    query-asked c.args.seed c.args.rows (catalogs.catalog c.args.catalog) c.in_ok-text.text (shown.query_text c.in-Ok.valid.query) c.in_ok-made-in-Ok.field-0
    c.in_ok-text.ensures c.in-Ok.ensures.gives c.in_ok-made-in-Ok.ensures

pub returns-in-Ok-clause-ready : goal.returns-in-Ok-clause-ready
returns-in-Ok-clause-ready c = record {
  views = c.requires.ready;
  checked = c.in-Ok.ensures.checked;
  tables = fits-of (catalogs.catalog c.args.catalog) c.in_ok-made-in-Ok.field-0 c.args.seed c.args.rows c.requires.rows c.requires.fixed c.in_ok-made-in-Ok.ensures;
}

pub returns-in-Err-Number-clause-found : goal.returns-in-Err-Number-clause-found
returns-in-Err-Number-clause-found c =
    rw c.in-Err-Number.field-0-is
    (query-refused c.args.seed c.args.rows (catalogs.catalog c.args.catalog) c.in_ok-text.text c.in-Err-Number.number
    c.in_ok-text.ensures (rw c.in-Err-Number.field-0-is at c.in-Err-Number.ensures.gives))

pub returns-in-Err-Number-clause-line : goal.returns-in-Err-Number-clause-line
returns-in-Err-Number-clause-line c = grind (arith, common_steps)

pub returns-clause-line : goal.returns-clause-line
returns-clause-line c = grind (arith, common_steps)

pub returns-clause-found : goal.returns-clause-found
returns-clause-found c = grind (arith, common_steps)

pub returns-clause-ready : goal.returns-clause-ready
returns-clause-ready c = grind (arith, common_steps)

pub returns-in-Err-Number-clause-ready : goal.returns-in-Err-Number-clause-ready
returns-in-Err-Number-clause-ready c = grind (arith, common_steps)

pub returns-in-Ok-clause-line : goal.returns-in-Ok-clause-line
returns-in-Ok-clause-line c = grind (arith, common_steps)

pub made-requires-clause-seed : goal.made-requires-clause-seed
made-requires-clause-seed c = grind (arith, common_steps)

pub made-requires-clause-rows : goal.made-requires-clause-rows
made-requires-clause-rows c = grind (arith, common_steps)
