use Rattle.list_laws.proofs.Indexed.{get-in, index-get}
use Rattle.rule_feed.proofs.feed.edits.move_all.Goals as goal

pub places_for-last-requires-clause-quant : goal.places_for-last-requires-clause-quant
places_for-last-requires-clause-quant c = c.loop-r.invariant.owned _ (get-in c.loop-r.r-index c.args.list.now _ (index-get c.loop-r.r-index c.args.list.now _ c.loop-r-test.true))

pub move_quant-requires-clause-quant : goal.move_quant-requires-clause-quant
move_quant-requires-clause-quant c = c.loop-r.invariant.owned _ (get-in c.loop-r.r-index c.args.list.now _ (index-get c.loop-r.r-index c.args.list.now _ c.loop-r-test.true))
