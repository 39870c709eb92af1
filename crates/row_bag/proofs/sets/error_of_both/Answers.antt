use Rattle.std.proofs.Common.{◌∙◌, sym, ap₂}
use Rattle.sql_value.specs.Cells.{worst_of}
use Rattle.row_bag.proofs.Copies.{errors-append}
use Rattle.row_bag.proofs.sets.error_of_both.Goals as goal

pub returns : goal.returns
returns c = c.worst_of.ensures ∙ ap₂ worst_of c.error_among.ensures c.error_among-2.ensures ∙ sym (errors-append c.args.a.now c.args.b.now)
