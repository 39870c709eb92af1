use Rattle.std.proofs.Common.{◌≡◌, arith, map, true}
use Rattle.std.proofs.lemmas.Grind.{common_steps}
use Rattle.qgm_wellformed.specs.Types.{same_tables, type_at, typed_by}
use Rattle.qgm_wellformed.proofs.Tables.{round-is, stays}
use Rattle.qgm_wellformed.proofs.types.types_in_rounds.Goals as goal

pub returns-then-same_tables : goal.returns-then-same_tables
returns-then-same_tables c =
    let f : c.in_ok-next.next.items ≡ map (typed_by (type_at c.loop-round.table.items c.args.places.now)) c.args.nodes.now = grind (arith, common_steps, c.in_ok-next.ensures) in
    let s : same_tables c.loop-round.table.items c.in_ok-next.next.items ≡ true = grind (arith, common_steps, c.same_tables.ensures, c.if-same_tables.true) in
    stays c.args.nodes.now c.args.places.now c.requires c.loop-round._round c.loop-round.table.items c.in_ok-next.next.items c.loop-round.invariant f s (grind (arith, common_steps, c.loop-round-test.true))

pub loop-round-preserved : goal.loop-round-preserved
loop-round-preserved c =
    let f : c.in_ok-next.next.items ≡ map (typed_by (type_at c.loop-round.table.items c.args.places.now)) c.args.nodes.now = grind (arith, common_steps, c.in_ok-next.ensures) in
    round-is c.args.nodes.now c.args.places.now c.requires c.loop-round._round c.loop-round.table.items c.in_ok-next.next.items c.loop-round.invariant f
