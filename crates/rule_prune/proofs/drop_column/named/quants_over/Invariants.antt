use Rattle.std.proofs.Common.{ℕ, ◌≡◌, ◌++◌, true, drop}
use Rattle.list_laws.specs.Lists.{holds}
use Rattle.qgm_core.specs.Edits.{quants_over}
use Rattle.rule_prune.specs.NamedColumns.{named_of}
use Rattle.rule_prune.proofs.drop_column.named.quants_over.Given as goal

-- what is left adds the rest, and what is marked is named
abbrev pub invariant-loop-node : goal.invariant-loop-node
invariant-loop-node l = record {
  rest : l.quants ++ quants_over l.b (drop l.node-index l.nodes) ≡ quants_over l.b l.nodes;
  named : (k : ℕ) → holds k l.named ≡ true → holds k (named_of l.b l.nodes) ≡ true;
}
