use Rattle.std.proofs.lemmas.Grind.{common_steps}
use Rattle.std.proofs.Common.{arith}
use Rattle.std.proofs.lemmas.Result.{err_from_is_err_and}
use Rattle.csv_tables.proofs.Fits.{fits-more}
use Rattle.csv_tables.proofs.Loads.{carries-all, carries-more, carries-starves, carries-stops}
use Rattle.csv_tables.proofs.loading.load.Goals as goal

pub returns-in_err-table-clause-comes : goal.returns-in_err-table-clause-comes
returns-in_err-table-clause-comes g c =
    let p = err_from_is_err_and c.from_residual.result c.from_residual.ensures.1 in
    let whole = carries-stops _ _ _ c.as_slice-decl-items.result.now c.loop-decl.decl-index c.args.dir.now c.loop-decl.tables c.decl-item.result c.in_err-table.field-0.0 c.loop-decl-test.true c.decl-item.is c.in_err-table.ensures.comes c.loop-decl.invariant.comes in
    rw (p.1, p.2, ← c.tables.ensures, ← c.as_slice-decl-items.ensures) whole

pub returns-in_err-push-clause-comes : goal.returns-in_err-push-clause-comes
returns-in_err-push-clause-comes g c =
    let p = err_from_is_err_and c.from_residual-in_err-push.result c.from_residual-in_err-push.ensures.1 in
    let whole = carries-starves _ _ _ c.as_slice-decl-items.result.now c.loop-decl.decl-index c.args.dir.now c.loop-decl.tables c.decl-item.result c.in_ok-table.table c.loop-decl-test.true c.decl-item.is c.in_ok-table.ensures.comes c.loop-decl.invariant.comes in
    rw (p.1, p.2, ← c.tables.ensures, ← c.as_slice-decl-items.ensures) whole

pub loop-decl-preserved : goal.loop-decl-preserved
loop-decl-preserved g c = record {
  comes = rw c.in_ok-push.ensures.ok (carries-more _ _ _ c.as_slice-decl-items.result.now c.loop-decl.decl-index c.args.dir.now c.loop-decl.tables c.decl-item.result c.in_ok-table.table c.loop-decl-test.true c.decl-item.is c.in_ok-table.ensures.comes c.loop-decl.invariant.comes);
  later = let before = c.loop-decl.invariant.later in let then = c.in_ok-table.ensures.later in omega (arith, before, then);
  fits = rw c.in_ok-push.ensures.ok (fits-more c.as_slice-decl-items.result.now c.loop-decl.decl-index c.loop-decl.tables c.decl-item.result c.in_ok-table.table c.loop-decl-test.true c.decl-item.is c.loop-decl.invariant.fits c.in_ok-table.ensures.fits);
}

pub returns-clause-comes : goal.returns-clause-comes
returns-clause-comes g c =
    let whole = carries-all _ _ c.as_slice-decl-items.result.now c.loop-decl.decl-index c.args.dir.now c.loop-decl.tables c.loop-decl-test.false c.loop-decl.invariant.comes in
    rw (← c.tables.ensures, ← c.as_slice-decl-items.ensures) whole

pub returns-in_err-table-clause-fits : goal.returns-in_err-table-clause-fits
returns-in_err-table-clause-fits g c = grind (arith, common_steps)

pub returns-in_err-push-clause-fits : goal.returns-in_err-push-clause-fits
returns-in_err-push-clause-fits g c = grind (arith, common_steps)

pub returns-in_err-push-clause-failed : goal.returns-in_err-push-clause-failed
returns-in_err-push-clause-failed g c = grind (arith, common_steps)

pub returns-in_err-table-clause-later : goal.returns-in_err-table-clause-later
returns-in_err-table-clause-later g c = grind (arith, common_steps)

pub loop-decl-init : goal.loop-decl-init
loop-decl-init g c = grind (arith, common_steps)

pub returns-clause-fits : goal.returns-clause-fits
returns-clause-fits g c = grind (arith, common_steps)

pub returns-in_err-table-clause-failed : goal.returns-in_err-table-clause-failed
returns-in_err-table-clause-failed g c = grind (arith, common_steps)

pub returns-in_err-push-clause-later : goal.returns-in_err-push-clause-later
returns-in_err-push-clause-later g c = grind (arith, common_steps)
