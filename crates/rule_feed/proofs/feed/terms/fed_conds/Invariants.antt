use Rattle.std.proofs.Common.{◌≡◌, map, take}
use Rattle.qgm_terms.specs.Shown.{cond, conds}
use Rattle.rule_feed.specs.Feed.{fed_cond}
use Rattle.rule_feed.proofs.feed.terms.fed_conds.Given as goal

abbrev pub invariant-loop-c : goal.invariant-loop-c
invariant-loop-c l = record {
  so_far : l.all.items ≡ map (fed_cond l.i l.n (cond l.k)) (conds (take l.c-index l.c-items));
  none_spare : l.all.spare ≡ 0;
}
