use Rattle.std.proofs.Common.{arith}
use Rattle.group_states.specs.declared.index.Link.{Link}
use Rattle.row_bag.proofs.Indexed.{long, other-hash, stands}
use Rattle.std.proofs.lemmas.Grind.{common_steps}
use Rattle.group_states.proofs.index.is_it.Goals as goal

pub returns-then-links-at : goal.returns-then-links-at
returns-then-links-at g c =
    let size = long (λ (l : Link). l.hash) g.T.HasTuple.tuple c.args.links.now c.args.items.now c.requires.hashes in
    let within = c.requires.within in
    stands g.T.HasTuple.tuple c.args.items.now c.args.at c.index-items-at.result c.tuple.result.now c.args.cells.now c.same_cells.result (omega (arith, size, within)) c.index-items-at.is c.tuple.ensures c.same_cells.ensures

pub returns-else-links-at : goal.returns-else-links-at
returns-else-links-at g c =
    other-hash (λ (l : Link). l.hash) g.T.HasTuple.tuple c.args.links.now c.args.items.now c.args.at (record { hash = 0; before = 0 }) c.args.hash c.args.cells.now c.requires.within c.requires.hashes c.requires.hash c.if-links-at.false

pub bounds-items-at : goal.bounds-items-at
bounds-items-at c = grind (arith, common_steps)

pub offset_bounds-items-at : goal.offset_bounds-items-at
offset_bounds-items-at g c = grind (arith, common_steps)
