use Rattle.std.proofs.Common.{◌≡◌, ◌&&◌, drop}
use Rattle.std.specs.List.{list_any}
use Rattle.qgm_props.specs.Keys.{among}
use Rattle.qgm_props.proofs.keys.has_base_key.Given as goal

-- what is left decides
abbrev pub invariant-loop-key : goal.invariant-loop-key
invariant-loop-key l = list_any (λ key. among key l.base.not_null && among key l.columns) l.keys ≡ list_any (λ key. among key l.base.not_null && among key l.columns) (drop l.key-index l.keys)
