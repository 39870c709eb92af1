use Rattle.std.proofs.Common.{◌∙◌, ap, sym}
use Rattle.sql_value.specs.declared.cell.Cell.{Cell}
use Rattle.box_exec.specs.Equalities.{is_nowhere}
use Rattle.box_exec.proofs.Lookups.{in-at}
use Rattle.box_exec.proofs.lookup.aim_of.Goals as goal

pub returns-then-is_nowhere : goal.returns-then-is_nowhere
returns-then-is_nowhere c =
    let key = c.key-item.result in (
      key,
      (
        in-at c.args.keys.now c.loop-key.key-index key c.loop-key-test.true c.key-item.is,
        ap (λ (x : Cell). is_nowhere key.by x) (sym c.in_ok-other.ensures ∙ sym c.cell-cell.ensures) ∙ sym c.is_nowhere.ensures ∙ c.if-is_nowhere.true,
      ),
    )
