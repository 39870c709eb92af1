use Rattle.row_bag.specs.Verdict.{those_there}
use Rattle.row_bag.proofs.Agreement.{alike-same, alike-trans}
use Rattle.group_states.proofs.Entries.{groups-made}
use Rattle.group_states.proofs.table.GroupTable.into_rows.Goals as goal

pub returns : goal.returns
returns c = λ n folds rows so.
    alike-trans (alike-same (c.in_ok-group_rows.ensures n folds (those_there rows) so.groups.own)) (groups-made n folds rows c.args.self.groups.items so.groups)
