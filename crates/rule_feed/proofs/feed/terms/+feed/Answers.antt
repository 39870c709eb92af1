use Rattle.std.proofs.Common.{◌<◌, ◌∙◌, ap, length, get_or, arith}
use Rattle.std.proofs.Math.ListN.{length-set}
use Rattle.std.proofs.lemmas.Grind.{common_steps}
use Rattle.qgm_terms.proofs.InPlace.{map_view_more, unvisited_more}
use Rattle.qgm_terms.proofs.Lists.{links_hidden, choices_hidden, conds_hidden}
use Rattle.qgm_terms.specs.Shown.{choice, choices, cond, conds, link, links, term}
use Rattle.qgm_terms.specs.Terms.{Term, linked, armed, anded, ored, choose}
use Rattle.qgm_terms.specs.declared.tree.Gc.TheViews.{roll-Arm, roll-Link}
use Rattle.rule_feed.specs.Feed.{fed_cond}
use Rattle.rule_feed.specs.FeedTerms.{fed_choice, fed_link}
use Rattle.rule_feed.proofs.FeedTermsSteps as chains
use Rattle.rule_feed.proofs.feed.terms.+feed.Goals as goal

pub feed_links-loop-at-preserved : goal.feed_links-loop-at-preserved
feed_links-loop-at-preserved t c =
    let op = (get_or c.loop-at.list c.loop-at.at c.index-list-at.result).op in
    let y = roll-Link record { op = op; right = c.feed.new.x } in
    let in_range : c.loop-at.at < length c.loop-at.list = omega arith in
    record {
      so_far = map_view_more link (fed_link c.args.i c.args.n (cond c.args.k.now)) (links c.args.list.now) c.loop-at.list c.loop-at.at y c.index-list-at.result in_range c.loop-at.invariant.so_far c.loop-at.invariant.same
          (ap (λ (x : Term). record { op = op; right = x }) c.in_ok-feed.ensures);
      same = simp length-set c.loop-at.invariant.same;
      rest = unvisited_more c.args.list.now c.loop-at.list c.loop-at.at y c.loop-at.invariant.rest;
    }

pub feed_arms-loop-at-preserved : goal.feed_arms-loop-at-preserved
feed_arms-loop-at-preserved t c =
    let y = roll-Arm record { when = c.feed_cond.new.c; then = c.feed.new.x } in
    let in_range : c.loop-at.at < length c.loop-at.list = omega arith in
    record {
      so_far = map_view_more choice (fed_choice c.args.i c.args.n (cond c.args.k.now)) (choices c.args.list.now) c.loop-at.list c.loop-at.at y c.index-list-at.result in_range c.loop-at.invariant.so_far c.loop-at.invariant.same
          (cc (c.in_ok-feed_cond.ensures, c.in_ok-feed.ensures));
      same = simp length-set c.loop-at.invariant.same;
      rest = unvisited_more c.args.list.now c.loop-at.list c.loop-at.at y c.loop-at.invariant.rest;
    }

pub feed_conds-loop-at-preserved : goal.feed_conds-loop-at-preserved
feed_conds-loop-at-preserved t c =
    let in_range : c.loop-at.at < length c.loop-at.list = omega arith in
    record {
      so_far = map_view_more cond (fed_cond c.args.i c.args.n (cond c.args.k.now)) (conds c.args.list.now) c.loop-at.list c.loop-at.at c.feed_cond.new.c c.index-list-at.result in_range c.loop-at.invariant.so_far c.loop-at.invariant.same c.in_ok-feed_cond.ensures;
      same = simp length-set c.loop-at.invariant.same;
      rest = unvisited_more c.args.list.now c.loop-at.list c.loop-at.at c.feed_cond.new.c c.loop-at.invariant.rest;
    }

pub feed-returns-in_ok-feed_links-in-Chain : goal.feed-returns-in_ok-feed_links-in-Chain
feed-returns-in_ok-feed_links-in-Chain t c =
    ap (linked (term c.feed.new.x)) (links_hidden _)
    ∙ (rw (c.in-Chain.is, links_hidden c.in-Chain.list, chains.fed_linked c.args.i c.args.n (cond c.args.k.now) (term c.in-Chain.a.value) (links c.in-Chain.list.items)) (grind (arith, common_steps)))

pub feed-returns-in_ok-feed-in-Case : goal.feed-returns-in_ok-feed-in-Case
feed-returns-in_ok-feed-in-Case t c =
    ap (λ s. choose (armed s) (term c.feed-in-Case.new.x)) (choices_hidden _)
    ∙ (rw (c.in-Case.is, choices_hidden c.in-Case.list, chains.fed_armed c.args.i c.args.n (cond c.args.k.now) (choices c.in-Case.list.items)) (grind (arith, common_steps)))

pub feed_cond-returns-in_ok-feed_conds-in-All : goal.feed_cond-returns-in_ok-feed_conds-in-All
feed_cond-returns-in_ok-feed_conds-in-All t c =
    ap (anded (cond c.feed_cond.new.c)) (conds_hidden _)
    ∙ (rw (c.in-All.is, conds_hidden c.in-All.list, chains.fed_anded c.args.i c.args.n (cond c.args.k.now) (cond c.in-All.a.value) (conds c.in-All.list.items)) (grind (arith, common_steps)))

pub feed_cond-returns-in_ok-feed_conds-in-Any : goal.feed_cond-returns-in_ok-feed_conds-in-Any
feed_cond-returns-in_ok-feed_conds-in-Any t c =
    ap (ored (cond c.feed_cond-in-Any.new.c)) (conds_hidden _)
    ∙ (rw (c.in-Any.is, conds_hidden c.in-Any.list, chains.fed_ored c.args.i c.args.n (cond c.args.k.now) (cond c.in-Any.a.value) (conds c.in-Any.list.items)) (grind (arith, common_steps)))
