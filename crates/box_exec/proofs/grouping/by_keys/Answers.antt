use Rattle.std.proofs.Common.{◌∙◌, sym, length, map}
use Rattle.std.proofs.lemmas.List.{length-map}
use Rattle.std.proofs.lemmas.Result.{IfOk-weaker}
use Rattle.row_bag.proofs.Agreement.{alike-same}
use Rattle.qgm_terms.specs.Shown.{term, terms}
use Rattle.box_exec.specs.Bound.{env_of}
use Rattle.box_exec.specs.Groups.{asked, fold_of}
use Rattle.box_exec.proofs.Keys.{keys-failed, keys-made}
use Rattle.box_exec.proofs.grouping.by_keys.Goals as goal

pub returns-in-Some : goal.returns-in-Some
returns-in-Some c =
    IfOk-weaker c.failed_row.result _ _
    (λ made h. alike-same (h ∙ keys-failed (terms c.args.keys.now) (terms c.args.folds.now) c.args.quant (env_of c.args.env.now) c.args.rows.now (length c.args.keys.now) (sym (length-map c.args.keys.now term)) (length c.args.folds.now) c.in-Some.kind (sym (length-map c.args.folds.now term)) (sym c.in_ok-table.ensures.error ∙ c.in-Some.is)))
    c.failed_row.ensures

pub returns-in-None : goal.returns-in-None
returns-in-None c =
    IfOk-weaker c.into_rows.result _ _
    (λ made h. keys-made (terms c.args.keys.now) (terms c.args.folds.now) c.args.quant (env_of c.args.env.now) c.args.rows.now (length c.args.keys.now) (sym (length-map c.args.keys.now term)) made (sym c.in_ok-table.ensures.error ∙ c.in-None.is)
    (h (length c.args.keys.now) (map fold_of (terms c.args.folds.now)) (map (asked (terms c.args.keys.now) (terms c.args.folds.now) c.args.quant (env_of c.args.env.now)) c.args.rows.now) c.in_ok-table.ensures.table))
    c.into_rows.ensures
