use Rattle.std.proofs.Common.{◌&&◌, ◌∙◌, ap₂, sym}
use Rattle.qgm_props.specs.Table.{facts_of}
use Rattle.rule_merge.specs.MergeSelectExact.{clean-same, told-clean}
use Rattle.rule_merge.proofs.merge_select.condition.are_clean.Goals as goal

pub returns : goal.returns
returns c =
    let g = c.args.graph.now in
    let known = facts_of c.in_ok-known.known in
    let tells = c.in_ok-known.ensures.exact in
    c.both.ensures ∙ ap₂ (λ x y. x && y) (c.clean.ensures ∙ told-clean g known c.args.b.now.id tells) (c.clean-2.ensures ∙ told-clean g known c.args.c.now.id tells ∙ sym (clean-same g c.args.c.now.id))
