use Rattle.std.proofs.Common.{ℕ, ◌≡◌, drop}
use Rattle.qgm_core.specs.Boxes.{HasQuant}
use Rattle.list_laws.specs.Lists.{EachOnce, In}
use Rattle.rule_prune.specs.Unnamed.{dropped_all}
use Rattle.rule_prune.proofs.drop_column.action.drop_all.Given as goal

-- what is left stands yet, and does the rest
abbrev pub invariant-loop-q : goal.invariant-loop-q
invariant-loop-q l = record {
  rest : dropped_all (drop l.q-index l.list) l.graph ≡ dropped_all l.list l.initial.graph;
  held : (q : ℕ) → In q (drop l.q-index l.list) → HasQuant q l.graph;
  once : EachOnce (drop l.q-index l.list);
}
