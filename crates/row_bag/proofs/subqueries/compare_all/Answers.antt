use Rattle.std.proofs.Common.{◌≡◌, ◌+◌, ◌∷◌, ◌∙◌, List, drop, ap, sym, arith}
use Rattle.std.proofs.lemmas.Grind.{common_steps}
use Rattle.row_bag.specs.declared.row.Row.{Row}
use Rattle.row_bag.specs.Subqueries as u
use Rattle.sql_value.specs.Truths.{and}
use Rattle.sql_value.specs.declared.cell.Cell.{Cell}
use Rattle.sql_value.specs.declared.truth.Truth.{Truth}
use Rattle.row_bag.proofs.Chains.{and_joins}
use Rattle.row_bag.specs.RowRefs.{lent}
use Rattle.row_bag.proofs.Places.{from-place}
use Rattle.row_bag.proofs.subqueries.compare_all.Goals as goal

pub loop-i-preserved : goal.loop-i-preserved
loop-i-preserved c =
    let rest = drop (c.loop-i.i + 1) c.args.rows.now in
    let step : drop c.loop-i.i c.args.rows.now ≡ lent c.at.result ∷ rest = from-place c.args.rows.now c.loop-i.i (lent c.at.result) c.at.ensures in
    ap (λ (p : Truth). and p (u.compare_all c.args.op c.args.x.now rest)) c.and-truth.ensures
    ∙ and_joins c.loop-i.truth c.all_one.result (u.compare_all c.args.op c.args.x.now rest)
    ∙ ap (λ (p : Truth). and c.loop-i.truth (and p (u.compare_all c.args.op c.args.x.now rest))) c.all_one.ensures
    ∙ ap (λ (rows : List (Row (List Cell))). and c.loop-i.truth (u.compare_all c.args.op c.args.x.now rows)) (sym step)
    ∙ c.loop-i.invariant

pub returns : goal.returns
returns c = grind (arith, common_steps)
