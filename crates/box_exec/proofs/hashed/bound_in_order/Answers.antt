use Rattle.qgm_core.specs.Kinds.{is_enforce}
use Rattle.box_exec.specs.Bound.{env_of}
use Rattle.box_exec.specs.Plans.{left_at}
use Rattle.box_exec.proofs.Loops.{rows-once}
use Rattle.box_exec.proofs.Parts.{of_part}
use Rattle.box_exec.proofs.hashed.bound_in_order.Goals as goal

pub over_kept-added-requires : goal.over_kept-added-requires
over_kept-added-requires c = record {
  bound = c.requires.bound;
  fit = c.requires.fit;
  kept = c.requires.kept;
  subs = c.requires.subs;
}

pub returns-clause-rows : goal.returns-clause-rows
returns-clause-rows c =
    let at = c.args.at.now in
    of_part c.once_added.result c.over_kept-added.result _ _ _ c.once_added.ensures c.over_kept-added.ensures.rows
    (λ bag _ h added. rows-once (is_enforce at.node.now.parts.distinct) c.new-out.result c.over_kept-added.new.out (left_at at 0 (env_of c.args.env.now)) bag c.new-out.ensures added h)

pub returns-clause-took : goal.returns-clause-took
returns-clause-took c = λ closed sought.
    of_part c.once_added.result c.over_kept-added.result _ _ _ c.once_added.ensures (c.over_kept-added.ensures.took closed sought) (λ bag _ h took. took)
