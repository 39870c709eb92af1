use Rattle.std.proofs.Common.{◌∙◌, ◌≤◌, ◌-◌, ap, length, slice_get, subst, sym}
use Rattle.qgm_core.specs.Boxes.{is_box}
use Rattle.list_laws.specs.Lists.{first}
use Rattle.rule_feed.proofs.FeedFires.{first-there, found, place-there, within-there}
use Rattle.rule_feed.proofs.feed.action.found_at.Goals as goal

pub unreachable-requires : goal.unreachable-requires
unreachable-requires c = found c.args.graph.now c.args.place c.requires (sym (c.in_default.ensures ∙ ap (first (is_box c.args.place.at)) c.nodes.ensures))

pub quant_at-r-requires-clause-from_one : goal.quant_at-r-requires-clause-from_one
quant_at-r-requires-clause-from_one c = first-there c.args.graph.now c.args.place c.requires

pub quant_at-r-requires-clause-within : goal.quant_at-r-requires-clause-within
quant_at-r-requires-clause-within c =
    subst (λ z. c.args.place.i ≤ length z) (sym c.as_slice.ensures) (within-there c.args.graph.now c.args.place c.requires c.in-Some.b.now (sym (c.in-Some.ensures ∙ ap (first (is_box c.args.place.at)) c.nodes.ensures)))

pub returns : goal.returns
returns c =
    place-there c.args.graph.now c.args.place c.requires c.in-Some.b.now (sym (c.in-Some.ensures ∙ ap (first (is_box c.args.place.at)) c.nodes.ensures))
    c.quant_at-r.result (c.quant_at-r.ensures ∙ ap (λ z. slice_get z (c.args.place.i - 1)) c.as_slice.ensures)
