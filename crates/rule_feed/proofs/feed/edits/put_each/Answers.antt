use Rattle.std.proofs.Common.{◌∙◌, List, ℕ, ap, refl, subst, sym}
use Rattle.list_laws.proofs.Indexed.{get-in, index-get}
use Rattle.rule_feed.specs.FeedCode.{AreReaders, readers}
use Rattle.rule_feed.proofs.PutReaders.{all-found}
use Rattle.rule_feed.proofs.feed.edits.put_each.Goals as goal

pub loop-b-init : goal.loop-b-init
loop-b-init c = record {
  so_far = refl;
  held = c.requires.held;
  kept = (λ b h. h, λ q h. h);
  readers = subst (λ (ids : List ℕ). AreReaders ids c.args.q c.args.graph.now.boxes) (sym (c.in_ok-readers.ensures ∙ ap (readers c.args.q) c.nodes.ensures)) (all-found c.args.q c.args.graph.now.boxes);
}

pub put_one-requires-clause-held : goal.put_one-requires-clause-held
put_one-requires-clause-held c = c.loop-b.invariant.held _ (get-in c.loop-b.b-index c.args.ids.now _ (index-get c.loop-b.b-index c.args.ids.now 0 c.loop-b-test.true))
