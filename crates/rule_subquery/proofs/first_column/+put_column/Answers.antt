use Rattle.std.proofs.Common.{◌<◌, ◌∙◌, ap, length, get_or, arith}
use Rattle.std.proofs.Math.ListN.{length-set}
use Rattle.std.proofs.lemmas.Grind.{common_steps}
use Rattle.qgm_terms.proofs.InPlace.{map_view_more, unvisited_more}
use Rattle.qgm_terms.proofs.Lists.{links_hidden, choices_hidden, conds_hidden}
use Rattle.qgm_terms.specs.Shown.{choice, choices, cond, conds, link, links, term}
use Rattle.qgm_terms.specs.Terms.{Term, linked, armed, anded, ored, choose}
use Rattle.qgm_terms.specs.declared.tree.Gc.TheViews.{roll-Arm, roll-Link}
use Rattle.qgm_meaning.specs.Searches.{as_column_cond}
use Rattle.rule_subquery.specs.FirstColumn.{column_choice, column_link}
use Rattle.rule_subquery.proofs.FirstColumnSteps as chains
use Rattle.rule_subquery.proofs.first_column.+put_column.Goals as goal

pub put_column-returns-in-Chain : goal.put_column-returns-in-Chain
put_column-returns-in-Chain t c =
    ap (linked (term c.put_column.new.x)) (links_hidden _)
    ∙ (rw (c.in-Chain.is, links_hidden c.in-Chain.list, chains.column_linked c.args.q (term c.in-Chain.a.value) (links c.in-Chain.list.items)) (grind (arith, common_steps)))

pub put_column-returns-in-Case : goal.put_column-returns-in-Case
put_column-returns-in-Case t c =
    ap (λ s. choose (armed s) (term c.put_column-in-Case.new.x)) (choices_hidden _)
    ∙ (rw (c.in-Case.is, choices_hidden c.in-Case.list, chains.column_armed c.args.q (choices c.in-Case.list.items)) (grind (arith, common_steps)))

pub put_column_of_arms-loop-i-preserved : goal.put_column_of_arms-loop-i-preserved
put_column_of_arms-loop-i-preserved t c =
    let y = roll-Arm record { when = c.put_column_of_cond.new.c; then = c.put_column.new.x } in
    let in_range : c.loop-i.i < length c.loop-i.list = omega arith in
    record {
      so_far = map_view_more choice (column_choice c.args.q) (choices c.args.list.now) c.loop-i.list c.loop-i.i y c.index-list-i.result in_range c.loop-i.invariant.so_far c.loop-i.invariant.same
          (cc (c.put_column_of_cond.ensures, c.put_column.ensures));
      same = simp length-set c.loop-i.invariant.same;
      rest = unvisited_more c.args.list.now c.loop-i.list c.loop-i.i y c.loop-i.invariant.rest;
    }

pub put_column_of_cond-returns-in-All : goal.put_column_of_cond-returns-in-All
put_column_of_cond-returns-in-All t c =
    ap (anded (cond c.put_column_of_cond.new.c)) (conds_hidden _)
    ∙ (rw (c.in-All.is, conds_hidden c.in-All.list, chains.column_anded c.args.q (cond c.in-All.a.value) (conds c.in-All.list.items)) (grind (arith, common_steps)))

pub put_column_of_cond-returns-in-Any : goal.put_column_of_cond-returns-in-Any
put_column_of_cond-returns-in-Any t c =
    ap (ored (cond c.put_column_of_cond-in-Any.new.c)) (conds_hidden _)
    ∙ (rw (c.in-Any.is, conds_hidden c.in-Any.list, chains.column_ored c.args.q (cond c.in-Any.a.value) (conds c.in-Any.list.items)) (grind (arith, common_steps)))

pub put_column_of_conds-loop-i-preserved : goal.put_column_of_conds-loop-i-preserved
put_column_of_conds-loop-i-preserved t c =
    let in_range : c.loop-i.i < length c.loop-i.list = omega arith in
    record {
      so_far = map_view_more cond (as_column_cond c.args.q) (conds c.args.list.now) c.loop-i.list c.loop-i.i c.put_column_of_cond.new.c c.index-list-i.result in_range c.loop-i.invariant.so_far c.loop-i.invariant.same c.put_column_of_cond.ensures;
      same = simp length-set c.loop-i.invariant.same;
      rest = unvisited_more c.args.list.now c.loop-i.list c.loop-i.i c.put_column_of_cond.new.c c.loop-i.invariant.rest;
    }

pub put_column_of_links-loop-i-preserved : goal.put_column_of_links-loop-i-preserved
put_column_of_links-loop-i-preserved t c =
    let op = (get_or c.loop-i.list c.loop-i.i c.index-list-i.result).op in
    let y = roll-Link record { op = op; right = c.put_column.new.x } in
    let in_range : c.loop-i.i < length c.loop-i.list = omega arith in
    record {
      so_far = map_view_more link (column_link c.args.q) (links c.args.list.now) c.loop-i.list c.loop-i.i y c.index-list-i.result in_range c.loop-i.invariant.so_far c.loop-i.invariant.same
          (ap (λ (x : Term). record { op = op; right = x }) c.put_column.ensures);
      same = simp length-set c.loop-i.invariant.same;
      rest = unvisited_more c.args.list.now c.loop-i.list c.loop-i.i y c.loop-i.invariant.rest;
    }
