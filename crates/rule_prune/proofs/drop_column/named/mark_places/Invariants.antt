use Rattle.std.proofs.Common.{◌≡◌, ◌++◌, drop}
use Rattle.rule_prune.specs.NamedColumns.{places_of}
use Rattle.rule_prune.proofs.drop_column.named.mark_places.Given as goal

-- what is left adds the rest
abbrev pub invariant-loop-c : goal.invariant-loop-c
invariant-loop-c l = l.named ++ places_of l.quants (drop l.c-index l.columns) ≡ l.initial.named ++ places_of l.quants l.columns
