use Rattle.std.proofs.Common.{◌≡◌, ◌+◌, ◌-◌, ◌++◌, length, map}
use Rattle.rule_api.specs.Picks.{picks}
use Rattle.rule_api.specs.Rules.{place_at}
use Rattle.rule_prune.specs.DropColumn.{columns_from, may_drop_column}
use Rattle.rule_prune.proofs.drop_column.DropColumnRule.places.Given as goal

-- what is left adds the rest
abbrev pub invariant-loop-k : goal.invariant-loop-k
invariant-loop-k l =
    l.out.items ++ map (place_at l.b) (picks (may_drop_column l.graph l.node) (l.k + 1) (columns_from (l.k + 1) (length l.node.parts.head - l.k)))
    ≡ map (place_at l.b) (picks (may_drop_column l.graph l.node) 1 (columns_from 1 (length l.node.parts.head)))
