use Rattle.qgm_edit_laws.proofs.PlacedEdits.{add-quant, drop-quant, put-box, put-cells, put-cond, put-quant, redirected, set-distinct, take-cond, with-room}
use Rattle.qgm_edit_laws.proofs.PlacedLists.{add-box, box-moved, boxes-dropped, column-dropped, conjunct-moved, new-placed, quant-moved}
use Rattle.qgm_edit_laws.proofs.laws.edit_laws.Goals as goal

pub returns-clause-new : goal.returns-clause-new
returns-clause-new c = new-placed

pub returns-clause-placed : goal.returns-clause-placed
returns-clause-placed c = record {
  add_box = add-box;
  put_box = put-box;
  set_distinct = set-distinct;
  reserve = with-room;
  take_cond = take-cond;
  put_cond = put-cond;
  move_conjunct = conjunct-moved;
  substitute = put-cells;
  add_quant = add-quant;
  drop_quant = drop-quant;
  put_quant = put-quant;
  redirect = redirected;
  move_quant = quant-moved;
  drop_column = column-dropped;
  move_below = box-moved;
  compact = boxes-dropped;
}
