use Rattle.std.proofs.Common.{◌≡◌, ◌++◌, ◌∙◌, Option, Some, ap, sym, subst, option_map, arith}
use Rattle.std.specs.Prelude.{OnOk}
use Rattle.std.proofs.lemmas.Grind.{common_steps}
use Rattle.qgm_terms.specs.Terms.{Term}
use Rattle.qgm_props.specs.Keys as spec
use Rattle.qgm_props.proofs.Places.{cell-is}
use Rattle.qgm_props.proofs.keys.add_column_at.Goals as goal

pub returns-in-Some : goal.returns-in-Some
returns-in-Some c =
    subst (λ (o : Option Term). OnOk c.add_column_of.result (c.add_column_of.new.out.items ≡ c.args.out.now.items ++ spec.column_of c.args.q o))
    (sym (cell-is c.args.head.now c.args.k (Some c.in-Some.x.now) (sym c.cell_at.ensures ∙ ap (option_map (λ x. x.now)) c.in-Some.is))) c.add_column_of.ensures

pub returns-in-None : goal.returns-in-None
returns-in-None c =
    let e = cell-is c.args.head.now c.args.k _ (sym c.cell_at.ensures ∙ ap (option_map (λ x. x.now)) c.in-None.is) in grind (arith, common_steps, e)
