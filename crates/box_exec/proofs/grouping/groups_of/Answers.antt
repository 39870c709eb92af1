use Rattle.std.proofs.Common.{◌≡◌, ◌∙◌, ◌+◌, [], ◌∷◌, ◌++◌, ap, ap₂, arith, length, map, take, subst, sym}
use Rattle.std.proofs.lemmas.Grind.{common_steps}
use Rattle.group_states.specs.Groups.{HasRows}
use Rattle.row_bag.specs.Groups.{key_error}
use Rattle.row_bag.proofs.Grouping.{key_error-push}
use Rattle.sql_value.specs.Cells.{worst_of}
use Rattle.row_bag.specs.RowRefs.{lent}
use Rattle.row_bag.proofs.Places.{read-at}
use Rattle.qgm_meaning.specs.Values.{Bag}
use Rattle.qgm_terms.specs.Shown.{terms}
use Rattle.box_exec.specs.Bound.{env_of}
use Rattle.box_exec.specs.Groups.{asked, fold_of}
use Rattle.box_exec.proofs.grouping.groups_of.Goals as goal

pub loop-i-preserved : goal.loop-i-preserved
loop-i-preserved c =
    let n = length c.args.keys.now in
    let rows = map (asked (terms c.args.keys.now) (terms c.args.folds.now) c.args.quant (env_of c.args.env.now)) (take c.loop-i.i c.args.rows.now) in
    let more : map (asked (terms c.args.keys.now) (terms c.args.folds.now) c.args.quant (env_of c.args.env.now)) (take (c.loop-i.i + 1) c.args.rows.now) ≡ rows ++ c.in_ok-made.made ∷ [] = grind (arith, common_steps, c.in_ok-made.ensures, read-at c.args.rows.now c.loop-i.i (lent c.at.result) c.at.ensures) in
    record {
      table = subst (λ (rs : Bag). HasRows n (map fold_of (terms c.args.folds.now)) rs c.in_ok-table-2.table) (sym more) (c.in_ok-table-2.ensures n (map fold_of (terms c.args.folds.now)) rows c.loop-i.invariant.table);
      error = c.worst_of-error.ensures ∙ ap₂ worst_of c.loop-i.invariant.error c.key_error_of.ensures ∙ sym (key_error-push n rows c.in_ok-made.made) ∙ ap (key_error n) (sym more);
    }
