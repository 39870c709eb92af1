use Rattle.std.proofs.Common.{◌≡◌, drop}
use Rattle.qgm_terms.specs.Shown.{cond, conds}
use Rattle.rule_feed.specs.Feed as feed
use Rattle.rule_feed.proofs.feed.named.all_of.Given as goal

-- what is left completes it
abbrev pub invariant-loop-c : goal.invariant-loop-c
invariant-loop-c l = feed.conj (cond l.total) (conds (drop l.c-index l.rest)) ≡ feed.all_of (conds l.list)
