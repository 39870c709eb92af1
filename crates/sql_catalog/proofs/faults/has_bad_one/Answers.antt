use Rattle.std.proofs.Common.{◌≡◌, subst, Bool, IfOk}
use Rattle.std.specs.List.{list_any}
use Rattle.sql_catalog.specs.Catalog as catalog
use Rattle.sql_catalog.proofs.FaultLaws.{bad_keys_same}
use Rattle.sql_catalog.proofs.faults.has_bad_one.Goals as goal

pub returns : goal.returns
returns c = subst (λ (b : Bool). IfOk c.one_is_bad.result (λ bad. bad ≡ b)) (bad_keys_same c.in_ok-columns.columns c.args.columns.now c.in_ok-columns.ensures c.args.keys.now) c.one_is_bad.ensures
