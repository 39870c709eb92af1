-- U2 may fire on a small graph.
use Rattle.std.proofs.Common.{◌≤◌, List, Option, Some, None, refl, inl, inr, arith}
use Rattle.sql_value.specs.declared.cell.Cell.{Cell}
use Rattle.sql_value.specs.declared.cell.Kind.{Kind}
use Rattle.sql_value.specs.declared.cell.Kind.TheVariants as kind
use Rattle.row_bag.specs.Bags.{unit}
use Rattle.row_bag.specs.Joins.{how_many}
use Rattle.row_bag.specs.Sets.{error_or_bag, failed_cells}
use Rattle.rule_subquery.specs.ScalarToGroupExample.{Singled, scalars}
use Rattle.qgm_edit_laws.proofs.Formed.{sound-checked}

one-row : (o : Option Kind) (cells : List Cell) → how_many (error_or_bag (failed_cells 1) o (unit cells)) ≤ 1
one-row None cells = omega arith
one-row (Some kind.Cardinality) cells = omega arith
one-row (Some kind.Division) cells = omega arith
one-row (Some kind.Overflow) cells = omega arith

pub singled-example : Singled
singled-example = record {
  checked = refl;
  sound = ((sound-checked scalars (refl, (refl, (refl, tt)))).0 refl).0;
  may = record {
    in_o = inl refl;
    in_c = inl refl;
    a_select = refl;
    owned = inr (inl refl);
    is_s = refl;
    over_c = refl;
    column = omega arith;
    not_root = refl;
    new_box = refl;
    new_quant = refl;
    scalars = refl;
    scalars_conds = refl;
  };
  after = refl;
  same = refl;
}
