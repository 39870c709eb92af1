use Rattle.std.proofs.Common.{◌≡◌, ◌+◌, ◌∷◌, ◌∙◌, List, drop, ap, sym, arith}
use Rattle.std.proofs.lemmas.Grind.{common_steps}
use Rattle.row_bag.specs.declared.row.Row.{Row}
use Rattle.row_bag.specs.Subqueries as u
use Rattle.sql_value.specs.Truths.{or}
use Rattle.sql_value.specs.declared.cell.Cell.{Cell}
use Rattle.sql_value.specs.declared.truth.Truth.{Truth}
use Rattle.row_bag.proofs.Chains.{or_joins}
use Rattle.row_bag.specs.RowRefs.{lent}
use Rattle.row_bag.proofs.Places.{from-place}
use Rattle.row_bag.proofs.subqueries.compare_any.Goals as goal

pub loop-i-preserved : goal.loop-i-preserved
loop-i-preserved c =
    let rest = drop (c.loop-i.i + 1) c.args.rows.now in
    let step : drop c.loop-i.i c.args.rows.now ≡ lent c.at.result ∷ rest = from-place c.args.rows.now c.loop-i.i (lent c.at.result) c.at.ensures in
    ap (λ (p : Truth). or p (u.compare_any c.args.op c.args.x.now rest)) c.or-truth.ensures
    ∙ or_joins c.loop-i.truth c.any_one.result (u.compare_any c.args.op c.args.x.now rest)
    ∙ ap (λ (p : Truth). or c.loop-i.truth (or p (u.compare_any c.args.op c.args.x.now rest))) c.any_one.ensures
    ∙ ap (λ (rows : List (Row (List Cell))). or c.loop-i.truth (u.compare_any c.args.op c.args.x.now rows)) (sym step)
    ∙ c.loop-i.invariant

pub returns : goal.returns
returns c = grind (arith, common_steps)
