use Rattle.std.proofs.Common.{◌≡◌, ◌∙◌, arith, map, sym, true}
use Rattle.std.proofs.lemmas.Grind.{common_steps}
use Rattle.qgm_wellformed.specs.Types.{all_read_behind, same_tables, type_at, typed_by}
use Rattle.qgm_wellformed.proofs.Tables.{same-tables}
use Rattle.qgm_wellformed.proofs.Upward.{upward-is}
use Rattle.qgm_wellformed.proofs.types.types_of.Goals as goal

pub returns-then-same_tables : goal.returns-then-same_tables
returns-then-same_tables c =
    let n : c.in_ok-next.next.items ≡ map (typed_by (type_at c.in_ok-guess.guess.items c.args.places.now)) c.args.nodes.now = grind (arith, common_steps, c.in_ok-next.ensures) in
    let s : same_tables c.in_ok-guess.guess.items c.in_ok-next.next.items ≡ true = grind (arith, common_steps, c.same_tables.ensures, c.if-same_tables.true) in
    let e : c.in_ok-guess.guess.items ≡ c.in_ok-next.next.items = same-tables c.in_ok-guess.guess.items c.in_ok-next.next.items s in
    let b : all_read_behind c.args.places.now 0 c.args.nodes.now ≡ true = grind (arith, common_steps) in
    sym e ∙ upward-is c.args.nodes.now c.args.places.now c.requires c.in_ok-guess.guess.items (e ∙ n) b
