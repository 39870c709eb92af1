use Rattle.std.proofs.Common.{◌∙◌, ap, ap₂, sym, List}
use Rattle.qgm_terms.specs.Shown.{terms}
use Rattle.qgm_terms.specs.declared.tree.Gx.{Gx}
use Rattle.box_exec.specs.Groups.{by_keys}
use Rattle.std.proofs.lemmas.Result.{IfOk-weaker}
use Rattle.row_bag.proofs.Agreement.{alike-same, alike-trans}
use Rattle.box_exec.specs.Bound.{env_of}
use Rattle.box_exec.proofs.Keys.{head-split}
use Rattle.qgm_meaning.specs.Meaning.{grouped_rows}
use Rattle.box_exec.proofs.grouping.in_groups.Goals as goal

pub returns : goal.returns
returns c =
    let q = c.args.quant in
    let env = env_of c.args.env.now in
    let rows = c.args.rows.now in
    IfOk-weaker c.by_keys.result _ _
    (λ made h. alike-trans h (alike-same (ap₂ (λ (xs ys : List Gx). by_keys (terms xs) (terms ys) q env rows) c.first_cells-first.ensures c.last_cells-last.ensures
    ∙ head-split c.args.keys c.min-n.result c.args.head.now q env rows c.if-keys-eq0.false c.min-n.ensures)))
    c.by_keys.ensures

pub returns-then-keys-eq0 : goal.returns-then-keys-eq0
returns-then-keys-eq0 c =
    let env = env_of c.args.env.now in
    IfOk-weaker c.whole.result _ _ (λ made h. alike-same (h ∙ ap (λ keys. grouped_rows keys (terms c.args.head.now) c.args.quant env c.args.rows.now) (sym c.if-keys-eq0.true))) c.whole.ensures
