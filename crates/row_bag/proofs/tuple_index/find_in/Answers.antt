use Rattle.std.proofs.Common.{◌∙◌, ◌-◌, arith, get_or, length, map, refl, sym}
use Rattle.std.proofs.lemmas.Bool.{false≢true}
use Rattle.std.proofs.lemmas.List.{get_or-map, length-map}
use Rattle.row_bag.specs.declared.tuple_index.Link.{Link}
use Rattle.row_bag.proofs.Indexed.{walk-begins, walk-ends, walk-goes}
use Rattle.std.proofs.lemmas.Grind.{common_steps}
use Rattle.row_bag.proofs.tuple_index.find_in.Goals as goal

pub loop-place-init : goal.loop-place-init
loop-place-init g c =
    walk-begins c.args.heads.now (map (λ (l : Link). l.before) c.args.links.now) (map (λ (l : Link). l.hash) c.args.links.now) (g.T.HasTuples.tuples c.args.items.now) c.args.cells.now c.args.hash c.chain_of.result
    (get_or c.args.heads.now c.chain_of.result 0) c.requires.hashes c.requires.hash c.chain_of.ensures.within c.chain_of.ensures.chain refl c.requires.chained

pub loop-place-preserved : goal.loop-place-preserved
loop-place-preserved g c =
    let top = c.loop-place.invariant.within in
    let size = length-map c.args.links.now (λ (l : Link). l.hash) in
    let some = c.loop-place-test.true in
    let read = get_or-map (λ (l : Link). l.before) c.args.links.now (c.loop-place.place - 1) (record { hash = 0; before = 0 }) 0 (omega (arith, top, size, some)) in
    walk-goes c.args.heads.now (map (λ (l : Link). l.before) c.args.links.now) (map (λ (l : Link). l.hash) c.args.links.now) (g.T.HasTuples.tuples c.args.items.now) c.args.cells.now c.loop-place.place _ c.requires.hashes
    (omega (arith, some)) (sym read) c.requires.chained c.loop-place.invariant (λ found. false≢true (sym c.if-is_it.false ∙ c.is_it.ensures.1 found))

pub returns-clause-none : goal.returns-clause-none
returns-clause-none g c = λ same.
    let over = c.loop-place-test.false in
    walk-ends (length c.args.heads.now) (map (λ (l : Link). l.hash) c.args.links.now) (g.T.HasTuples.tuples c.args.items.now) c.args.cells.now c.loop-place.place c.requires.hashes (omega (arith, over)) c.loop-place.invariant

pub bounds-links-place : goal.bounds-links-place
bounds-links-place c = grind (arith, common_steps)

pub is_it-requires-clause-within : goal.is_it-requires-clause-within
is_it-requires-clause-within c = grind (arith, common_steps)

pub loop-place-smaller : goal.loop-place-smaller
loop-place-smaller c = grind (arith, common_steps)

pub offset_bounds-links-place : goal.offset_bounds-links-place
offset_bounds-links-place c = grind (arith, common_steps)

pub returns-then-is_it-clause-none : goal.returns-then-is_it-clause-none
returns-then-is_it-clause-none g c = grind (arith, common_steps)
