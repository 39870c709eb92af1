use Rattle.std.proofs.Common.{◌≡◌, ◌-◌, drop, length}
use Rattle.qgm_terms.specs.Shown.{choices, cond, conds, links}
use Rattle.qgm_terms.specs.Terms.{armed}
use Rattle.row_index.specs.Ways.{StandsFrom, place}
use Rattle.sql_value.specs.declared.cell.Cell.{Cell}
use Rattle.box_exec.specs.Bound.{env_of}
use Rattle.box_exec.specs.Sources.{held_by}
use Rattle.box_exec.specs.Lists as lists
use Rattle.box_exec.specs.Idle.{joined, quantified}
use Rattle.qgm_meaning.specs.Values as m
use Rattle.box_exec.proofs.evaluation.+value.Given as goal

abbrev pub invariant-chain-loop-link : goal.invariant-chain-loop-link
invariant-chain-loop-link l =
    lists.chained (held_by l.subs) l.total (links (drop l.link-index l.list)) (env_of l.env)
    ≡ lists.chained (held_by l.subs) l.fn.first (links l.list) (env_of l.env)

abbrev pub invariant-first_true-loop-arm : goal.invariant-first_true-loop-arm
invariant-first_true-loop-arm l =
    (last : Cell) → m.first_true (held_by l.subs) (armed (choices (drop l.arm-index l.list))) last (env_of l.env)
    ≡ m.first_true (held_by l.subs) (armed (choices l.list)) last (env_of l.env)

abbrev pub invariant-all_of-loop-p : goal.invariant-all_of-loop-p
invariant-all_of-loop-p l =
    lists.all_of (held_by l.subs) l.total (conds (drop l.p-index l.list)) (env_of l.env)
    ≡ lists.all_of (held_by l.subs) l.fn.first (conds l.list) (env_of l.env)

abbrev pub invariant-any_of-loop-p : goal.invariant-any_of-loop-p
invariant-any_of-loop-p l =
    lists.any_of (held_by l.subs) l.total (conds (drop l.p-index l.list)) (env_of l.env)
    ≡ lists.any_of (held_by l.subs) l.fn.first (conds l.list) (env_of l.env)

abbrev pub invariant-quantified-loop-i : goal.invariant-quantified-loop-i
invariant-quantified-loop-i l = record {
  whole : joined l.holds l.truth (quantified l.holds (λ cells. m.truth (held_by l.subs) (cond l.p) (m.bound l.q cells (env_of l.env))) (drop l.i l.rows))
      ≡ quantified l.holds (λ cells. m.truth (held_by l.subs) (cond l.p) (m.bound l.q cells (env_of l.env))) l.rows;
  stands : StandsFrom l.way (place l.c) l.c;
  at : l.i ≡ place l.c;
}

abbrev pub decreases-quantified-loop-i : goal.decreases-quantified-loop-i
decreases-quantified-loop-i l = length l.rows - l.i
