use Rattle.std.proofs.Common.{ℕ, ◌≡◌, true, length, sym, ◌∙◌, ap, ap₂}
use Rattle.box_exec.specs.HandedOn.{is_wide}
use Rattle.qgm_meaning.specs.Meaning.{rows_or_none}
use Rattle.row_bag.specs.Tables.{bag_named}
use Rattle.box_exec.proofs.HandedOn.{handed-table}
use Rattle.box_exec.proofs.handed_on.table_handed_on.Goals as goal

pub returns-then-is_wide : goal.returns-then-is_wide
returns-then-is_wide c =
    let n = c.args.node.now in
    let tables = c.args.tables.now in
    let name = c.in-Some-base_name.name.now in
    let wide : is_wide (length n.parts.head) (rows_or_none (bag_named tables name)) ≡ true = sym (c.is_wide.ensures ∙ ap₂ is_wide c.len.ensures c.table_rows.ensures) ∙ c.if-is_wide.true in
    handed-table tables n c.args.below.now c.in-Some.r c.in-Some-place_of.i c.index-below-i.result name c.in-Some.ensures (sym c.place_of.ensures ∙ c.in-Some-place_of.is) c.index-below-i.is c.in-Some-base_name.ensures wide
