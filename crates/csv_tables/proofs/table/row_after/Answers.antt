use Rattle.std.proofs.Common.{◌∙◌, sym, None, Some}
use Rattle.csv.specs.Records.{fields_of}
use Rattle.csv_tables.proofs.Rows.{Unbroken, row-count, row-of, seen-more, unbroken-of}
use Rattle.csv_tables.proofs.table.row_after.Goals as goal

pub returns-then-len-clause-row : goal.returns-then-len-clause-row
returns-then-len-clause-row c = rw (c.refusal.ensures, c.len-then-len.ensures) (row-count c.args.table.now c.args.before.now (fields_of c.args.fields.now) (λ e. c.if-len.true (c.len.ensures ∙ e ∙ sym c.len-2.ensures)))

pub returns-in-Some-clause-row : goal.returns-in-Some-clause-row
returns-in-Some-clause-row c =
    rw (c.refusal-in-Some.ensures, c.len-in-Some.ensures) (row-of c.args.table.now c.args.before.now (fields_of c.args.fields.now) c.in_ok-contents.contents.items (Some c.in-Some.rule) (sym c.len.ensures ∙ c.if-len.false ∙ c.len-2.ensures)
    (rw c.as_slice.ensures at c.in_ok-contents.ensures) (rw c.deref.ensures.value at (sym c.in_ok-rule.ensures.rule ∙ c.in-Some.is)))

pub returns-in_ok-cells-in-None-clause-row : goal.returns-in_ok-cells-in-None-clause-row
returns-in_ok-cells-in-None-clause-row c =
    rw c.in_ok-cells-in-None.ensures (row-of c.args.table.now c.args.before.now (fields_of c.args.fields.now) c.in_ok-contents.contents.items None (sym c.len.ensures ∙ c.if-len.false ∙ c.len-2.ensures)
    (rw c.as_slice.ensures at c.in_ok-contents.ensures) (rw c.deref.ensures.value at (sym c.in_ok-rule.ensures.rule ∙ c.in-None.is)))

pub returns-in_ok-cells-in-None-clause-few : goal.returns-in_ok-cells-in-None-clause-few
returns-in_ok-cells-in-None-clause-few c = Unbroken.few (unbroken-of c.args.table.now c.args.before.now c.deref.result.now (sym c.in_ok-rule.ensures.rule ∙ c.in-None.is))

pub returns-in_ok-cells-in-None-clause-seen : goal.returns-in_ok-cells-in-None-clause-seen
returns-in_ok-cells-in-None-clause-seen c =
    rw (c.in_ok-cells-in-None.ensures, ← c.deref.ensures.value) (seen-more c.args.table.now c.args.before.now c.deref.result.now c.broken_by.new.seen.items (sym c.in_ok-rule.ensures.rule ∙ c.in-None.is) (c.in_ok-rule.ensures.after c.in-None.is))
