use Rattle.qgm_edit_laws.proofs.AddConjunctForms.{added-formed}
use Rattle.qgm_edit_laws.proofs.ColumnBag.{drop-column-bag}
use Rattle.qgm_edit_laws.proofs.DropConjunctForms.{dropped-formed}
use Rattle.qgm_edit_laws.proofs.DropQuants.{those-bag, those-formed, those-sound}
use Rattle.qgm_edit_laws.proofs.ImpliedEquality.{eq-through, equal-agree}
use Rattle.qgm_edit_laws.proofs.PutConjunct.{put-may}
use Rattle.qgm_edit_laws.proofs.RowlessQuants.{rowless-unread}
use Rattle.qgm_edit_laws.proofs.SiftedBags.{sifted-agree}
use Rattle.qgm_core.specs.Boxes.{is_quant}
use Rattle.qgm_edit_laws.proofs.laws.part_laws.Goals as goal
use Rattle.list_laws.proofs.Membership.{any-from, eq-itself}

pub returns-clause-add_conjunct : goal.returns-clause-add_conjunct
returns-clause-add_conjunct c = added-formed

pub returns-clause-put_conjunct : goal.returns-clause-put_conjunct
returns-clause-put_conjunct c = λ g u f n q p m. put-may g u f n m.within m.select m.not_fed q p m.node_free m.own m.typed m.unfolded m.cells

pub returns-clause-drop_conjunct : goal.returns-clause-drop_conjunct
returns-clause-drop_conjunct c = dropped-formed

pub returns-clause-sifted : goal.returns-clause-sifted
returns-clause-sifted c = λ bs root w tables t g id quants after free back. sifted-agree bs root w tables t g id quants after free back

pub returns-clause-equal_through : goal.returns-clause-equal_through
returns-clause-equal_through c = eq-through

pub returns-clause-equal : goal.returns-clause-equal
returns-clause-equal c = λ g w n x q k z d e m after tables none. equal-agree g.boxes g.root w n x q k z d e m tables none after

pub returns-clause-drop_column : goal.returns-clause-drop_column
returns-clause-drop_column c = drop-column-bag

pub returns-clause-drop_quants : goal.returns-clause-drop_quants
returns-clause-drop_quants c = record {
  sound = λ g w o keep m. those-sound g.boxes g.root w o keep m;
  formed = those-formed;
  bag = λ g w o keep m f tables. those-bag g.boxes g.root w o keep m f tables;
}

pub returns-clause-rowless : goal.returns-clause-rowless
returns-clause-rowless c = λ bs root w o i select r j row. rowless-unread bs root w o i select r j row (any-from (is_quant r.id) r o.quants j (eq-itself r.id))
