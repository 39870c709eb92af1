use Rattle.std.proofs.Common.{ℕ, List, ◌+◌, ◌<◌, ◌∙◌, ap, length, get_or, max, arith}
use Rattle.std.proofs.Math.ListN.{length-set}
use Rattle.std.proofs.lemmas.Grind.{common_steps}
use Rattle.qgm_terms.proofs.InPlace.{map_view_kept, map_view_more, unvisited_more}
use Rattle.qgm_terms.proofs.Shifted as chains
use Rattle.qgm_terms.specs.declared.tree.Gc.TheViews.{roll-Arm, roll-Link}
use Rattle.qgm_terms.specs.Depth.{depth, depth_cond, most}
use Rattle.qgm_terms.specs.Shift.{shifted_choice, shifted_cond, shifted_link}
use Rattle.qgm_terms.proofs.Levels.{arm_depths_hidden, cond_depths_hidden, link_depths_hidden}
use Rattle.qgm_terms.proofs.Lists.{links_hidden, choices_hidden, conds_hidden}
use Rattle.qgm_terms.specs.Shown.{choice, choices, cond, conds, link, links, term}
use Rattle.qgm_terms.specs.Terms.{Term, linked, armed, anded, ored, choose}
use Rattle.qgm_terms.proofs.shifts.+shift.Goals as goal

pub shift-returns-in-Chain : goal.shift-returns-in-Chain
shift-returns-in-Chain t c = record {
  tree =
      ap (linked (term c.shift.new.x)) (links_hidden _)
      ∙ (rw (c.in-Chain.is, links_hidden c.in-Chain.list, chains.shifted_linked c.args.q c.args.k (term c.in-Chain.a.value) (links c.in-Chain.list.items)) (grind (arith, common_steps)));
  depth =
      ap (λ (ns : List ℕ). 1 + max (depth c.shift.new.x) (most ns)) (link_depths_hidden _)
      ∙ (rw (c.in-Chain.is, link_depths_hidden c.in-Chain.list) (grind (arith, common_steps)));
}

pub shift-returns-in-Case : goal.shift-returns-in-Case
shift-returns-in-Case t c = record {
  tree =
      ap (λ s. choose (armed s) (term c.shift-in-Case.new.x)) (choices_hidden _)
      ∙ (rw (c.in-Case.is, choices_hidden c.in-Case.list, chains.shifted_armed c.args.q c.args.k (choices c.in-Case.list.items)) (grind (arith, common_steps)));
  depth =
      ap (λ (ns : List ℕ). 1 + max (most ns) (depth c.shift-in-Case.new.x)) (arm_depths_hidden _)
      ∙ (rw (c.in-Case.is, arm_depths_hidden c.in-Case.list) (grind (arith, common_steps)));
}

pub shift_arms-loop-i-preserved : goal.shift_arms-loop-i-preserved
shift_arms-loop-i-preserved t c =
    let f = shifted_choice c.args.q c.args.k in
    let y = roll-Arm record { when = c.shift_cond.new.c; then = c.shift.new.x } in
    let in_range : c.loop-i.i < length c.loop-i.list = omega arith in
    record {
      so_far = map_view_more choice f (choices c.args.list.now) c.loop-i.list c.loop-i.i y c.index-list-i.result in_range c.loop-i.invariant.so_far c.loop-i.invariant.same
          (cc (c.shift_cond.ensures.tree, c.shift.ensures.tree));
      same = simp length-set c.loop-i.invariant.same;
      rest = unvisited_more c.args.list.now c.loop-i.list c.loop-i.i y c.loop-i.invariant.rest;
      depths = map_view_kept (λ a. max (depth_cond a.when) (depth a.then)) c.loop-i.list c.loop-i.i y c.index-list-i.result in_range (cc (c.shift_cond.ensures.depth, c.shift.ensures.depth)) ∙ c.loop-i.invariant.depths;
    }

pub shift_cond-returns-in-All : goal.shift_cond-returns-in-All
shift_cond-returns-in-All t c = record {
  tree =
      ap (anded (cond c.shift_cond.new.c)) (conds_hidden _)
      ∙ (rw (c.in-All.is, conds_hidden c.in-All.list, chains.shifted_anded c.args.q c.args.k (cond c.in-All.a.value) (conds c.in-All.list.items)) (grind (arith, common_steps)));
  depth =
      ap (λ (ns : List ℕ). 1 + max (depth_cond c.shift_cond.new.c) (most ns)) (cond_depths_hidden _)
      ∙ (rw (c.in-All.is, cond_depths_hidden c.in-All.list) (grind (arith, common_steps)));
}

pub shift_cond-returns-in-Any : goal.shift_cond-returns-in-Any
shift_cond-returns-in-Any t c = record {
  tree =
      ap (ored (cond c.shift_cond-in-Any.new.c)) (conds_hidden _)
      ∙ (rw (c.in-Any.is, conds_hidden c.in-Any.list, chains.shifted_ored c.args.q c.args.k (cond c.in-Any.a.value) (conds c.in-Any.list.items)) (grind (arith, common_steps)));
  depth =
      ap (λ (ns : List ℕ). 1 + max (depth_cond c.shift_cond-in-Any.new.c) (most ns)) (cond_depths_hidden _)
      ∙ (rw (c.in-Any.is, cond_depths_hidden c.in-Any.list) (grind (arith, common_steps)));
}

pub shift_conds-loop-i-preserved : goal.shift_conds-loop-i-preserved
shift_conds-loop-i-preserved t c =
    let f = shifted_cond c.args.q c.args.k in
    let in_range : c.loop-i.i < length c.loop-i.list = omega arith in
    record {
      so_far = map_view_more cond f (conds c.args.list.now) c.loop-i.list c.loop-i.i c.shift_cond.new.c c.index-list-i.result in_range c.loop-i.invariant.so_far c.loop-i.invariant.same c.shift_cond.ensures.tree;
      same = simp length-set c.loop-i.invariant.same;
      rest = unvisited_more c.args.list.now c.loop-i.list c.loop-i.i c.shift_cond.new.c c.loop-i.invariant.rest;
      depths = map_view_kept depth_cond c.loop-i.list c.loop-i.i c.shift_cond.new.c c.index-list-i.result in_range c.shift_cond.ensures.depth ∙ c.loop-i.invariant.depths;
    }

pub shift_links-loop-i-preserved : goal.shift_links-loop-i-preserved
shift_links-loop-i-preserved t c =
    let f = shifted_link c.args.q c.args.k in
    let op = (get_or c.loop-i.list c.loop-i.i c.index-list-i.result).op in
    let y = roll-Link record { op = op; right = c.shift.new.x } in
    let in_range : c.loop-i.i < length c.loop-i.list = omega arith in
    record {
      so_far = map_view_more link f (links c.args.list.now) c.loop-i.list c.loop-i.i y c.index-list-i.result in_range c.loop-i.invariant.so_far c.loop-i.invariant.same
          (ap (λ (x : Term). record { op = op; right = x }) c.shift.ensures.tree);
      same = simp length-set c.loop-i.invariant.same;
      rest = unvisited_more c.args.list.now c.loop-i.list c.loop-i.i y c.loop-i.invariant.rest;
      depths = map_view_kept (λ l. depth l.right) c.loop-i.list c.loop-i.i y c.index-list-i.result in_range c.shift.ensures.depth ∙ c.loop-i.invariant.depths;
    }

pub shift-returns-in-Neg : goal.shift-returns-in-Neg
shift-returns-in-Neg t c = record { tree = grind (arith, common_steps); depth = grind (arith, common_steps) }

pub shift_cond-returns-in-IsNull : goal.shift_cond-returns-in-IsNull
shift_cond-returns-in-IsNull t c = record { tree = grind (arith, common_steps); depth = grind (arith, common_steps) }

pub shift_cond-returns-in-Not : goal.shift_cond-returns-in-Not
shift_cond-returns-in-Not t c = record { tree = grind (arith, common_steps); depth = grind (arith, common_steps) }

pub shift-returns-then-k-place-clause-depth : goal.shift-returns-then-k-place-clause-depth
shift-returns-then-k-place-clause-depth t c = grind (arith, common_steps)

pub shift_conds-loop-i-init : goal.shift_conds-loop-i-init
shift_conds-loop-i-init t c = grind (arith, common_steps)

pub shift-overflow_sub-place : goal.shift-overflow_sub-place
shift-overflow_sub-place t c = grind (arith, common_steps)

pub shift_links-loop-i-init : goal.shift_links-loop-i-init
shift_links-loop-i-init t c = grind (arith, common_steps)

pub shift-returns-2-clause-tree : goal.shift-returns-2-clause-tree
shift-returns-2-clause-tree t c = grind (arith, common_steps)

pub shift_arms-loop-i-init : goal.shift_arms-loop-i-init
shift_arms-loop-i-init t c = grind (arith, common_steps)

pub shift-returns-then-k-place-clause-tree : goal.shift-returns-then-k-place-clause-tree
shift-returns-then-k-place-clause-tree t c = grind (arith, common_steps)

pub shift_links-returns-clause-trees : goal.shift_links-returns-clause-trees
shift_links-returns-clause-trees t c = grind (arith, common_steps)

pub shift-returns-5-clause-tree : goal.shift-returns-5-clause-tree
shift-returns-5-clause-tree t c = grind (arith, common_steps)

pub shift-returns-6-clause-tree : goal.shift-returns-6-clause-tree
shift-returns-6-clause-tree t c = grind (arith, common_steps)

pub shift-returns-else-r-q-clause-tree : goal.shift-returns-else-r-q-clause-tree
shift-returns-else-r-q-clause-tree t c = grind (arith, common_steps)

pub shift_conds-returns-clause-trees : goal.shift_conds-returns-clause-trees
shift_conds-returns-clause-trees t c = grind (arith, common_steps)

pub shift-returns-clause-tree : goal.shift-returns-clause-tree
shift-returns-clause-tree t c = grind (arith, common_steps)

pub shift-returns-else-r-q-clause-depth : goal.shift-returns-else-r-q-clause-depth
shift-returns-else-r-q-clause-depth t c = grind (arith, common_steps)

pub shift-returns-4-clause-tree : goal.shift-returns-4-clause-tree
shift-returns-4-clause-tree t c = grind (arith, common_steps)

pub shift-returns-3-clause-tree : goal.shift-returns-3-clause-tree
shift-returns-3-clause-tree t c = grind (arith, common_steps)

pub shift_cond-returns-in-True-clause-tree : goal.shift_cond-returns-in-True-clause-tree
shift_cond-returns-in-True-clause-tree t c = grind (arith, common_steps)

pub shift_arms-returns-clause-trees : goal.shift_arms-returns-clause-trees
shift_arms-returns-clause-trees t c = grind (arith, common_steps)
