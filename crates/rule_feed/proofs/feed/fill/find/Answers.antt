use Rattle.std.proofs.Common.{ℕ, ◌≡◌, ◌==◌, ◌&&◌, not, List, [], ◌∷◌, filter, ap, ap₂, ◌∙◌}
use Rattle.qgm_core.specs.Boxes.{box_of, numbers}
use Rattle.qgm_core.specs.Free.{reached}
use Rattle.list_laws.specs.Lists.{holds}
use Rattle.qgm_core.specs.declared.node.Node.{Node}
use Rattle.rule_feed.specs.Feed.{unpermitted}
use Rattle.rule_feed.specs.FeedCode.{named_among}
use Rattle.rule_feed.specs.FeedMay.{width_of}
use Rattle.rule_feed.specs.FillSteps.{named}
use Rattle.rule_feed.specs.NamedColumns.{count, flags}
use Rattle.rule_feed.proofs.FillFound.{distinct-is}
use Rattle.rule_feed.proofs.feed.fill.find.Goals as goal

pub returns : goal.returns
returns c =
    let bs : List Node = c.args.graph.now.boxes in
    let over : ℕ = c.args.i.over in
    let n : c.nodes-nodes.result.now ≡ bs = c.nodes-nodes.ensures in
    let m : c.in_ok-marks.marks ≡ reached (over ∷ []) bs = c.in_ok-marks.ensures ∙ ap (reached (over ∷ [])) n in
    let f : c.in_ok-flags.flags.items ≡ flags (named c.args.graph.now c.args.b c.args.split.s c.args.split.q c.args.i) 1 (width_of bs c.args.split.s) = c.in_ok-flags.ensures
    ∙ ap₂ (λ (v : List ℕ) (l : List Node). flags (λ k. named_among v c.args.split.q k l) 1 c.width_of-w.result) m n
    ∙ ap (flags (named c.args.graph.now c.args.b c.args.split.s c.args.split.q c.args.i) 1) (c.width_of-w.ensures ∙ ap (λ (l : List Node). width_of l c.args.split.s) n) in (
      f,
      (
        c.count-many.ensures ∙ ap count (c.deref.ensures.value ∙ f),
        (
          c.in_ok-reached.ensures ∙ ap₂ (λ (v : List ℕ) (l : List Node). filter (λ z. holds z v) (numbers l)) m n,
          (
            c.in_ok-beside.ensures ∙ ap₂ (λ (v : List ℕ) (l : List Node). filter (λ z. not (z == c.args.b) && not (holds z v)) (numbers l)) m n,
            (c.width_of.ensures ∙ ap (λ (l : List Node). width_of l over) n, c.unpermitted.ensures ∙ ap unpermitted (distinct-is c.parts.result.now (box_of over c.args.graph.now) c.parts.ensures)),
          ),
        ),
      ),
    )
