use Rattle.std.proofs.Common.{◌≡◌, map, take}
use Rattle.qgm_terms.specs.Shown.{cond, terms}
use Rattle.rule_feed.specs.Feed.{fed_term}
use Rattle.rule_feed.proofs.feed.terms.fed_head.Given as goal

abbrev pub invariant-loop-x : goal.invariant-loop-x
invariant-loop-x l = l.all ≡ map (fed_term l.i l.n (cond l.k)) (terms (take l.x-index l.x-items))
