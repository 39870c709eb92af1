use Rattle.std.proofs.Common.{◌∙◌, sym, arith}
use Rattle.csv.specs.Records.{fields_of}
use Rattle.csv_tables.proofs.Walks.{at-none, header-agrees, header-differs}
use Rattle.csv_tables.proofs.header.fits_header.Goals as goal

pub returns-in_default : goal.returns-in_default
returns-in_default c = absurd (at-none (fields_of c.args.fields.now) c.loop-i.i (omega (arith, c.len.ensures, c.if-len-columns.false)) (sym c.in_default.ensures.value))

pub returns-then-not-branch : goal.returns-then-not-branch
returns-then-not-branch c = header-differs c.args.columns.now (fields_of c.args.fields.now) c.loop-i.i c.in-Some.field.now c.index-columns-i.result _ c.loop-i-test.true (sym c.in-Some.ensures.value)
    (sym c.in_ok-fits_name.ensures ∙ c.if-not-branch.true) c.loop-i.invariant

pub loop-i-preserved : goal.loop-i-preserved
loop-i-preserved c = header-agrees c.args.columns.now (fields_of c.args.fields.now) c.loop-i.i c.in-Some.field.now c.index-columns-i.result _ c.loop-i-test.true (sym c.in-Some.ensures.value)
    (sym c.in_ok-fits_name.ensures ∙ c.if-not-branch.false) c.loop-i.invariant
