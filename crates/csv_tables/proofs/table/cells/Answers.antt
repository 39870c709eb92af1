use Rattle.std.proofs.Common.{rules, ◌≡◌, true}
use Rattle.std.proofs.lemmas.List.{append-nil}
use Rattle.std.specs.Result.{is_ok}
use Rattle.csv_tables.specs.Tables.{cells_of}
use Rattle.csv_tables.proofs.Walks.{cells-append, cells-skip}
use Rattle.csv_tables.proofs.table.cells.Goals as goal

pub loop-content-preserved-in-Continue-branch-2 : goal.loop-content-preserved-in-Continue-branch-2
loop-content-preserved-in-Continue-branch-2 c =
    let good : is_ok c.push.result ≡ true = search rules in
    let items = rw good at c.push.ensures.items in
    rw (cells-append c.loop-content.yielded c.in-Some.content, c.in-Holds.is, items, c.loop-content.invariant)

pub loop-content-preserved : goal.loop-content-preserved
loop-content-preserved c =
    rw (cells-append c.loop-content.yielded c.in-Some.content, cells-skip c.in-Some.content c.in-BadInteger.is, append-nil (cells_of c.loop-content.yielded)) c.loop-content.invariant
