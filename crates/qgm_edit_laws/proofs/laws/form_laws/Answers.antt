use Rattle.qgm_edit_laws.proofs.AddedForms.{add-box-formed, added-formed}
use Rattle.qgm_edit_laws.proofs.Asked.{shortened-example}
use Rattle.qgm_edit_laws.proofs.BelowForms.{move-below-formed}
use Rattle.qgm_edit_laws.proofs.BoxForms.{boxes-formed}
use Rattle.qgm_edit_laws.proofs.ColumnForms.{drop-column-formed}
use Rattle.qgm_edit_laws.proofs.ColumnTypes.{drop-column-typed}
use Rattle.qgm_edit_laws.proofs.DistinctForms.{reserve-formed, set-distinct-formed}
use Rattle.qgm_edit_laws.proofs.EditForms.{add-quant-formed, drop-quant-formed, put-quant-formed, redirect-formed}
use Rattle.qgm_edit_laws.proofs.InterposedForms.{interposed-formed}
use Rattle.qgm_edit_laws.proofs.MoveForms.{conjunct-formed}
use Rattle.qgm_edit_laws.proofs.MoveQuantForms.{quant-formed}
use Rattle.qgm_edit_laws.proofs.Reformed.{reformed}
use Rattle.qgm_edit_laws.proofs.SubstituteForms.{substitute-formed}
use Rattle.qgm_edit_laws.proofs.laws.form_laws.Goals as goal

pub returns-clause-reformed : goal.returns-clause-reformed
returns-clause-reformed c = reformed

pub returns-clause-boxes : goal.returns-clause-boxes
returns-clause-boxes c = boxes-formed

pub returns-clause-edits : goal.returns-clause-edits
returns-clause-edits c = λ g u f. record {
  set_distinct = set-distinct-formed g u f;
  reserve = λ n k i. reserve-formed g u f n k i;
  move_conjunct = conjunct-formed g u f;
  put_quant = put-quant-formed g u f;
  add_quant = add-quant-formed g u f;
  drop_quant = drop-quant-formed g u f;
  redirect = redirect-formed g u f;
  move_quant = quant-formed g u f;
  substitute = substitute-formed g u f;
  move_below = move-below-formed g u f;
}

pub returns-clause-interposed : goal.returns-clause-interposed
returns-clause-interposed c = interposed-formed

pub returns-clause-add_box : goal.returns-clause-add_box
returns-clause-add_box c = add-box-formed

pub returns-clause-drop_column_typed : goal.returns-clause-drop_column_typed
returns-clause-drop_column_typed c = drop-column-typed

pub returns-clause-drop_column_formed : goal.returns-clause-drop_column_formed
returns-clause-drop_column_formed c = drop-column-formed

pub returns-clause-added : goal.returns-clause-added
returns-clause-added c = added-formed

pub returns-clause-shortened : goal.returns-clause-shortened
returns-clause-shortened c = shortened-example
