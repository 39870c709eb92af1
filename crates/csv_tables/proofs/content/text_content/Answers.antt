use Rattle.std.proofs.Common.{◌∙◌, sym, ap, true, false, w64}
use Rattle.std.proofs.lemmas.Int.{to_z-of_z}
use Rattle.csv_tables.specs.Contents.{is_longer}
use Rattle.csv_tables.proofs.Texts.{text-invalid, text-null, text-within}
use Rattle.csv_tables.proofs.content.text_content.Goals as goal

pub returns-then-is_null_text : goal.returns-then-is_null_text
returns-then-is_null_text c = text-null c.args.limit c.args.field.now (sym c.is_null_text.ensures ∙ c.if-is_null_text.true)

pub returns-in_default : goal.returns-in_default
returns-in_default c = text-invalid c.args.limit c.args.field.now (sym c.is_null_text.ensures ∙ c.if-is_null_text.false) c.in_default.ensures.cases.0

pub returns-then-is_longer : goal.returns-then-is_longer
returns-then-is_longer c =
    text-within c.args.limit c.args.field.now c.in_ok-from_utf8.field-0 c.in_ok-text.text true (sym c.is_null_text.ensures ∙ c.if-is_null_text.false) c.in-Ok.ensures.cases.1
    (c.in_ok-from_utf8.ensures ∙ c.in-Ok.ensures.cases.0) c.in_ok-text.ensures (ap (λ z. is_longer c.in_ok-text.text z) (sym (to_z-of_z w64 c.args.limit c.ranges.limit)) ∙ sym c.is_longer.ensures ∙ c.if-is_longer.true)

pub returns : goal.returns
returns c =
    text-within c.args.limit c.args.field.now c.in_ok-from_utf8.field-0 c.in_ok-text.text false (sym c.is_null_text.ensures ∙ c.if-is_null_text.false) c.in-Ok.ensures.cases.1
    (c.in_ok-from_utf8.ensures ∙ c.in-Ok.ensures.cases.0) c.in_ok-text.ensures (ap (λ z. is_longer c.in_ok-text.text z) (sym (to_z-of_z w64 c.args.limit c.ranges.limit)) ∙ sym c.is_longer.ensures ∙ c.if-is_longer.false)
