use Rattle.std.proofs.Common.{◌∙◌, arith}
use Rattle.sql_catalog.specs.Shown as declared
use Rattle.sql_faults.proofs.Nested.{refused_step}
use Rattle.std.proofs.lemmas.Grind.{common_steps}
use Rattle.sql_faults.proofs.depth.refused_view.Goals as goal

pub loop-depth-preserved : goal.loop-depth-preserved
loop-depth-preserved c =
    let next = c.in_ok-next.ensures c.loop-depth._depth (c.as_slice.ensures ∙ c.loop-depth.invariant.marks) in
    record {
      marks = next;
      found =
          c.in_ok-found.ensures
          ∙ refused_step (declared.catalog c.args.known.now.catalog.now) c.loop-depth._depth c.args.known.now.views.now c.args.all.now _ _ _ c.requires.views c.requires.readers c.loop-depth.invariant.found
          (c.as_slice-in-loop-depth.ensures ∙ c.loop-depth.invariant.marks) (c.as_slice-in-loop-depth-2.ensures ∙ next);
    }

pub returns : goal.returns
returns c = grind (arith, common_steps)
