use Rattle.std.proofs.Common.{◌≡◌, ◌++◌, length, map, take, drop}
use Rattle.qgm_terms.specs.Shown.{choices, cond, conds, links}
use Rattle.rule_feed.specs.Feed.{fed_cond}
use Rattle.rule_feed.specs.FeedTerms.{fed_choices, fed_links}
use Rattle.rule_feed.proofs.feed.terms.+feed.Given as goal

abbrev pub invariant-feed_links-loop-at : goal.invariant-feed_links-loop-at
invariant-feed_links-loop-at l =
    let cs = links l.initial.list in
    record {
      so_far : links l.list ≡ fed_links l.i l.n (cond l.k) (take l.at cs) ++ drop l.at cs;
      same : length l.list ≡ length cs;
      rest : goal.unvisited-feed_links-loop-at l;
    }

abbrev pub invariant-feed_arms-loop-at : goal.invariant-feed_arms-loop-at
invariant-feed_arms-loop-at l =
    let cs = choices l.initial.list in
    record {
      so_far : choices l.list ≡ fed_choices l.i l.n (cond l.k) (take l.at cs) ++ drop l.at cs;
      same : length l.list ≡ length cs;
      rest : goal.unvisited-feed_arms-loop-at l;
    }

abbrev pub invariant-feed_conds-loop-at : goal.invariant-feed_conds-loop-at
invariant-feed_conds-loop-at l =
    let cs = conds l.initial.list in
    record {
      so_far : conds l.list ≡ map (fed_cond l.i l.n (cond l.k)) (take l.at cs) ++ drop l.at cs;
      same : length l.list ≡ length cs;
      rest : goal.unvisited-feed_conds-loop-at l;
    }
