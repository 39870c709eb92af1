use Rattle.std.proofs.Common.{◌≡◌, ◌++◌, take}
use Rattle.std.specs.List.{flat_map}
use Rattle.graph_sql.specs.Settings.{made_at, setting_in}
use Rattle.graph_sql.specs.StatementText.{next_entry}
use Rattle.graph_sql.proofs.root.put_more_entries.Given as goal

abbrev pub invariant-loop-b : goal.invariant-loop-b
invariant-loop-b l = l.out ≡ l.initial.out ++ flat_map (next_entry (setting_in l.sheet) (made_at l.made)) (take l.b-index l.list)
