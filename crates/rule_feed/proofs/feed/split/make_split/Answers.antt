use Rattle.std.proofs.Common.{◌≡◌, ap, length, ◌∙◌, arith}
use Rattle.qgm_core.specs.Boxes.{QueryGraph, quants_of}
use Rattle.rule_feed.proofs.FeedEditSteps.{quants-below}
use Rattle.rule_feed.proofs.feed.split.make_split.Goals as goal

pub add_quant-requires-clause-within : goal.add_quant-requires-clause-within
add_quant-requires-clause-within c =
    let e : length (quants_of c.args.b c.add_box.new.self) ≡ length (quants_of c.args.b c.args.graph.now) = ap (λ (g : QueryGraph). length (quants_of c.args.b g)) c.in_ok-s.ensures.ok ∙ ap length (quants-below c.args.b _ c.args.graph.now c.requires.held) in
    omega (arith, e, c.requires.within, c.in-Some.ensures)
