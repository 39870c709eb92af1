use Rattle.std.proofs.Common.{◌≡◌, subst, filter, List, ℕ, IfOk}
use Rattle.std.specs.List.{list_any}
use Rattle.sql_catalog.specs.declared.reader.Reader.{Reader}
use Rattle.sql_ast.specs.Names.{contains}
use Rattle.sql_catalog.specs.Nesting.{reader_names}
use Rattle.sql_catalog.proofs.NameLaws.{any_same}
use Rattle.sql_catalog.proofs.NestingLaws.{filter_same}
use Rattle.sql_catalog.proofs.nesting.one_deeper.Goals as goal

pub returns : goal.returns
returns c =
    subst (λ (views : List Reader). IfOk c.names_that_read.result (λ names. names ≡ reader_names views))
    (filter_same (λ (v : Reader). list_any (contains c.in_ok-read.read) v.reads) (λ (v : Reader). list_any (contains c.args.over.now) v.reads)
    (λ v. any_same (contains c.in_ok-read.read) (contains c.args.over.now) c.in_ok-read.ensures v.reads) c.args.views.now)
    c.names_that_read.ensures
