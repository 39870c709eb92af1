use Rattle.std.proofs.Common.{◌∙◌, subst, sym}
use Rattle.std.proofs.lemmas.Result.{on_ok_weaker}
use Rattle.qgm_core.specs.Boxes.{QueryGraph}
use Rattle.rule_feed.specs.FeedCode.{AreReaders}
use Rattle.rule_feed.proofs.PutReaders.{others-stay, readers-stay}
use Rattle.rule_feed.proofs.feed.edits.put_one.Goals as goal

pub returns-then-not-has-clause-ok : goal.returns-then-not-has-clause-ok
returns-then-not-has-clause-ok c = others-stay c.args.q c.args.readers.now c.args.b c.args.cells.now c.args.graph.now c.requires.readers (sym c.has.ensures ∙ c.if-not-has.true)

pub returns-clause-readers : goal.returns-clause-readers
returns-clause-readers c = on_ok_weaker c.substitute.result
    (λ e. subst (λ (g : QueryGraph). AreReaders c.args.readers.now c.args.q g.boxes) (sym e) (readers-stay c.args.q c.args.readers.now c.args.b c.args.cells.now c.args.graph.now c.requires.readers (sym c.has.ensures ∙ c.if-not-has.false)))
    c.substitute.ensures.ok
