use Rattle.std.proofs.Common.{◌+◌, ◌∙◌, List, add-zero, ap, arith, drop, map, sym, zero-add}
use Rattle.std.proofs.lemmas.List.{drop_all}
use Rattle.sql_value.specs.declared.cell.Cell.{Cell}
use Rattle.row_bag.specs.Bags.{count}
use Rattle.row_bag.specs.Hashes.{hashes_of}
use Rattle.row_bag.specs.Matched.{left_of}
use Rattle.row_bag.specs.Sets.{same_cells}
use Rattle.row_bag.specs.declared.matched.Left.{Left}
use Rattle.row_bag.proofs.Matching.{at_end, here, turn}
use Rattle.row_bag.proofs.matched.parted.Goals as goal

pub loop-cells-init : goal.loop-cells-init
loop-cells-init c =
    rw c.new-kept.ensures (record {
      index = c.requires.index;
      once = c.requires.once;
      counts = λ t m. zero-add _;
    })

pub loop-cells-preserved : goal.loop-cells-preserved
loop-cells-preserved c =
    let left = λ (t : List Cell). left_of (λ (y : Left). y.cells.now) (λ (y : Left). y.count) t c.loop-cells.items.items in
    let after = λ (t : List Cell). left_of (λ (y : Left). y.cells.now) (λ (y : Left). y.count) t c.take.new.items.items in
    let first = ap (map (λ x. x.now)) (here c.args.xs.now c.loop-cells.cells-index c.cells-item.result c.cells-item.is c.loop-cells-test.true) in
    record {
      index = c.loop-cells.invariant.index ∙ ap hashes_of (sym c.take.ensures.tuples);
      once = rw c.take.ensures.tuples c.loop-cells.invariant.once;
      counts = λ t m. turn c.args.matched c.take.result c.cells-item.result.now (map (λ x. x.now) (drop c.loop-cells.cells-index c.args.xs.now)) (map (λ x. x.now) (drop (c.loop-cells.cells-index + 1) c.args.xs.now)) left after c.loop-cells.kept c.keep_copy.new.kept first c.take.ensures.rest c.take.ensures.none c.in_ok-keep_copy.ensures t m ∙ c.loop-cells.invariant.counts t m;
    }

pub returns : goal.returns
returns c = λ t m.
    let e = at_end c.args.matched t m (map (λ x. x.now) (drop c.loop-cells.cells-index c.args.xs.now)) (left_of (λ (x : Left). x.cells.now) (λ (x : Left). x.count) t c.loop-cells.items.items) (ap (map (λ x. x.now)) (drop_all c.loop-cells.cells-index c.args.xs.now (omega (arith, c.loop-cells-test.false)))) in
    sym (add-zero _) ∙ ap (λ n. count same_cells t m c.loop-cells.kept + n) (sym e) ∙ c.loop-cells.invariant.counts t m

pub take-requires-clause-once : goal.take-requires-clause-once
take-requires-clause-once c = c.loop-cells.invariant.once
