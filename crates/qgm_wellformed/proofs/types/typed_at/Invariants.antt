use Rattle.std.proofs.Common.{◌≡◌, drop}
use Rattle.list_laws.specs.Lists.{first}
use Rattle.qgm_wellformed.specs.Types.{is_typed}
use Rattle.qgm_wellformed.proofs.types.typed_at.Given as goal

-- what is left decides
abbrev pub invariant-loop-typed : goal.invariant-loop-typed
invariant-loop-typed l = first (is_typed l.b) l.table ≡ first (is_typed l.b) (drop l.typed-index l.table)
