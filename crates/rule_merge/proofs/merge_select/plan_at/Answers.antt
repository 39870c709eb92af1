use Rattle.std.proofs.lemmas.Grind.{common_steps}
use Rattle.std.proofs.Common.{◌-◌, ◌∙◌, sym, ap, slice_index_or, arith}
use Rattle.qgm_core.specs.Boxes.{is_box}
use Rattle.list_laws.specs.Lists.{first}
use Rattle.qgm_core.specs.declared.kinds.QuantKind.TheVariants.{F}
use Rattle.rule_merge.proofs.MergeSelectPlaced.{get-at}
use Rattle.rule_merge.proofs.merge_select.plan_at.Goals as goal

pub returns : goal.returns
returns c =
    let found = sym (c.in-Some.ensures ∙ ap (first (is_box c.args.place.at)) c.nodes.ensures) in
    record {
      b = c.in-Some.b.now;
      r = slice_index_or c.as_slice.result.now (c.args.place.i - 1) (record { id = 0; kind = F; over = 0 });
      c = c.in-Some-box_at.c.now;
      found = found;
      nth = get-at c.args.graph.now c.args.place c.requires.given c.in-Some.b.now found c.as_slice.result.now c.as_slice.ensures (record { id = 0; kind = F; over = 0 });
      under = sym (c.in-Some-box_at.ensures ∙ ap (first (is_box (slice_index_or c.as_slice.result.now (c.args.place.i - 1) (record { id = 0; kind = F; over = 0 })).over)) c.nodes-2.ensures);
      plans = c.in_ok-steps.ensures;
    }

pub offset_bounds-as_slice-place : goal.offset_bounds-as_slice-place
offset_bounds-as_slice-place c = grind (arith, common_steps)

pub unreachable-requires-in_default-box_at : goal.unreachable-requires-in_default-box_at
unreachable-requires-in_default-box_at c = grind (arith, common_steps)

pub bounds-as_slice-place : goal.bounds-as_slice-place
bounds-as_slice-place c = grind (arith, common_steps)
