use Rattle.std.proofs.Common.{◌≡◌, ◌++◌, drop}
use Rattle.qgm_terms.specs.Shown.{conds}
use Rattle.rule_feed.proofs.feed.named.add_all.Given as goal

-- what is left completes them
abbrev pub invariant-loop-c : goal.invariant-loop-c
invariant-loop-c l = record {
  so_far : l.all.items ++ conds (drop l.c-index l.list) ≡ l.initial.all.items ++ conds l.list;
  spare : l.all.spare ≡ l.initial.all.spare;
}
