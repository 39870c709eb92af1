use Rattle.std.proofs.Common.{◌≡◌, true, false, rules, refl}
use Rattle.row_bag.specs.Verdict.{is_there}
use Rattle.group_states.proofs.Entries.{table-absent, table-more}
use Rattle.group_states.proofs.table.GroupTable.taken.Goals as goal

pub returns-then-not-is_there : goal.returns-then-not-is_there
returns-then-not-is_there c = λ n folds rows so.
    let none : is_there c.args.row.now ≡ false = search rules in
    table-absent n folds rows c.args.self c.args.row.now none so

pub returns : goal.returns
returns c = λ n folds rows so.
    let some : is_there c.args.row.now ≡ true = search rules in
    table-more n folds c.deref.result.now rows c.args.self _ c.args.row.now some c.deref.ensures.value refl refl (λ rs before. c.in_ok-enter.ensures.groups rs before) so
