use Rattle.std.proofs.Common.{◌≡◌, ◌∙◌, ◌+◌, [], ◌∷◌, ◌++◌, List, ap₂, arith, map, take, subst, sym}
use Rattle.std.proofs.lemmas.Grind.{common_steps}
use Rattle.group_states.specs.Groups.{AreAfter, cells_from}
use Rattle.group_states.specs.declared.fold.Fold.{Fold}
use Rattle.sql_value.specs.declared.cell.Cell.{Cell}
use Rattle.row_bag.specs.RowRefs.{lent}
use Rattle.row_bag.proofs.Places.{read-at}
use Rattle.qgm_meaning.specs.Values.{Bag}
use Rattle.qgm_terms.specs.Shown.{terms}
use Rattle.box_exec.specs.Bound.{env_of}
use Rattle.box_exec.specs.Groups.{asked}
use Rattle.box_exec.proofs.Keys.{whole-asked}
use Rattle.box_exec.proofs.grouping.whole_cells.Goals as goal

pub loop-i-preserved : goal.loop-i-preserved
loop-i-preserved c =
    let rows = map (asked [] (terms c.args.folds.now) c.args.quant (env_of c.args.env.now)) (take c.loop-i.i c.args.rows.now) in
    let more : map (asked [] (terms c.args.folds.now) c.args.quant (env_of c.args.env.now)) (take (c.loop-i.i + 1) c.args.rows.now) ≡ rows ++ c.in_ok-made.made ∷ [] = grind (arith, common_steps, c.in_ok-made.ensures, read-at c.args.rows.now c.loop-i.i (lent c.at.result) c.at.ensures) in
    record {
      folds = c.in_ok-take_row.ensures.folds ∙ c.loop-i.invariant.folds;
      after = subst (λ (rs : Bag). AreAfter 0 rs c.take_row.new.states.items) (sym more) (c.in_ok-take_row.ensures.after rows c.loop-i.invariant.after);
    }

pub loop-i-init : goal.loop-i-init
loop-i-init c = record {
  folds = c.in_ok-states.ensures.folds ∙ c.deref.ensures.value ∙ c.in_ok-asked_for.ensures;
  after = c.in_ok-states.ensures.after 0;
}

pub returns : goal.returns
returns c =
    let rows = map (asked [] (terms c.args.folds.now) c.args.quant (env_of c.args.env.now)) c.args.rows.now in
    let all : take c.loop-i.i c.args.rows.now ≡ c.args.rows.now = grind (arith, common_steps) in
    let after : AreAfter 0 rows c.loop-i.states.items =
    subst (λ (rs : Bag). AreAfter 0 (map (asked [] (terms c.args.folds.now) c.args.quant (env_of c.args.env.now)) rs) c.loop-i.states.items) all c.loop-i.invariant.after in
    c.in_ok-append_values.ensures 0 rows after
    ∙ ap₂ (λ (xs : List Cell) (fs : List Fold). xs ++ cells_from 0 fs rows) c.in_ok-cells.ensures.items c.loop-i.invariant.folds
    ∙ whole-asked (terms c.args.folds.now) c.args.quant (env_of c.args.env.now) c.args.rows.now
