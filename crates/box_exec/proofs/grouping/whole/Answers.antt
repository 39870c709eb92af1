use Rattle.std.proofs.lemmas.Grind.{common_steps}
use Rattle.std.proofs.Common.{List, ◌++◌, ◌∷◌, [], ◌≡◌, ◌∙◌, ap₂, None, rules, arith}
use Rattle.row_bag.specs.Bags.{row}
use Rattle.row_bag.specs.Errors.{error_among, error_in}
use Rattle.sql_value.specs.declared.cell.Cell.{Cell}
use Rattle.sql_value.specs.declared.level.Level.TheVariants.{Yes}
use Rattle.qgm_meaning.specs.Values.{Bag}
use Rattle.qgm_terms.specs.Shown.{terms}
use Rattle.box_exec.specs.Bound.{env_of}
use Rattle.box_exec.proofs.Keys.{whole-group}
use Rattle.box_exec.proofs.grouping.whole.Goals as goal

pub returns : goal.returns
returns c =
    let none : error_among (λ cells. error_in []) c.args.rows.now ≡ None = search rules in
    c.in_ok-push.ensures.ok
    ∙ ap₂ (λ (b : Bag) (cells : List Cell). b ++ row cells Yes ∷ []) c.new-made.ensures (c.from_vec.ensures ∙ c.in_ok-cells.ensures)
    ∙ whole-group (terms c.args.folds.now) c.args.quant (env_of c.args.env.now) c.args.rows.now none

pub returns-in-Some : goal.returns-in-Some
returns-in-Some c = grind (arith, common_steps)
