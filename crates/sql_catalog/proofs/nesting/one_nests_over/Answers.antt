use Rattle.std.proofs.Common.{◌≡◌, subst, sym, filter, List, [], IsTrue, ◌↔◌}
use Rattle.sql_catalog.specs.declared.reader.Reader.{Reader}
use Rattle.sql_catalog.specs.Nesting.{reader_names, nests_over}
use Rattle.sql_catalog.proofs.NestingLaws.{found}
use Rattle.sql_catalog.proofs.nesting.one_nests_over.Goals as goal

pub returns : goal.returns
returns c = found (nests_over c.args.views.now c.args.depth) c.args.views.now c.is_empty.result (rw (← c.in_ok-over.ensures) c.is_empty.ensures)
