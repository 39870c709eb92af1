use Rattle.std.proofs.Common.{ℕ, List, ap, ap₂, sym, ◌∙◌}
use Rattle.qgm_props.specs.Table.{facts_of}
use Rattle.qgm_props.specs.Under.{all_places}
use Rattle.rule_feed.specs.Feed.{named_below}
use Rattle.rule_feed.specs.FeedCode.{column_ready}
use Rattle.rule_feed.specs.FeedMay.{is_column_ready}
use Rattle.rule_feed.proofs.FeedConditionSteps.{all-free}
use Rattle.rule_feed.proofs.feed.condition.are_all_ready.Goals as goal

pub returns : goal.returns
returns c = c.are_columns_ready.ensures ∙ ap₂ (λ (ms : List ℕ) (w : ℕ). all_places w (column_ready ms c.args.nodes.now (facts_of c.args.facts.now) c.args.q)) c.in_ok-marks.ensures c.width_of-w.ensures

pub returns-then-are_error_free : goal.returns-then-are_error_free
returns-then-are_error_free c = sym (
    ap (λ w. all_places w (is_column_ready c.args.nodes.now (facts_of c.args.facts.now) c.args.c c.args.q)) (sym c.width_of-w.ensures)
    ∙ all-free c.width_of-w.result ((facts_of c.args.facts.now).error_free c.args.q.over) (named_below c.args.nodes.now c.args.c c.args.q.id) (sym c.are_error_free.ensures ∙ c.if-are_error_free.true))
