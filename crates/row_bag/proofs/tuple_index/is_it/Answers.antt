use Rattle.std.proofs.Common.{arith}
use Rattle.row_bag.specs.declared.tuple_index.Link.{Link}
use Rattle.row_bag.proofs.Indexed.{as-many, is-there, not-there}
use Rattle.row_bag.proofs.tuple_index.is_it.Goals as goal

pub tuple-requires : goal.tuple-requires
tuple-requires g c =
    let size = as-many (λ (l : Link). l.hash) c.args.links.now (g.T.HasTuples.tuples c.args.items.now) c.requires.hashes in
    let within = c.requires.within in
    omega (arith, size, within)

pub returns-then-links-at : goal.returns-then-links-at
returns-then-links-at g c = is-there (g.T.HasTuples.tuples c.args.items.now) c.args.at c.tuple.result.now c.args.cells.now c.same_cells.result c.tuple.ensures c.same_cells.ensures

pub returns-else-links-at : goal.returns-else-links-at
returns-else-links-at g c =
    not-there (λ (l : Link). l.hash) c.args.links.now (g.T.HasTuples.tuples c.args.items.now) c.args.at (record { hash = 0; before = 0 }) c.args.hash c.args.cells.now c.requires.within c.requires.hashes c.requires.hash c.if-links-at.false
