use Rattle.std.proofs.Common.{◌&&◌, [], ap, ◌∙◌}
use Rattle.qgm_props.specs.Inferred.{Facts}
use Rattle.qgm_props.specs.Table.{facts_of}
use Rattle.rule_feed.specs.FeedCode.{all_ready}
use Rattle.rule_feed.specs.FeedMay.{is_single}
use Rattle.rule_feed.specs.Knowing.{facts-are}
use Rattle.rule_feed.proofs.feed.condition.told.Goals as goal

pub returns-clause-test : goal.returns-clause-test
returns-clause-test c = c.in_ok-passes.ensures
    ∙ ap (λ (k : Facts). is_single [] k c.args.r.over c.args.r && all_ready c.args.graph.now.boxes k c.args.r.over c.args.free.now c.args.fs.now) (facts-are c.args.graph.now.boxes (facts_of c.in_ok-facts.facts) c.in_ok-facts.ensures.told)
