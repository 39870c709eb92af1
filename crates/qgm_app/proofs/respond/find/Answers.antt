use Rattle.std.proofs.Common.{arith}
use Rattle.std.proofs.lemmas.Grind.{common_steps}
use Rattle.qgm_app.proofs.InRange.{rows-in, seed-in}
use Rattle.qgm_app.proofs.Made.{made-asked}
use Rattle.qgm_app.proofs.Steps.{found-done}
use Rattle.qgm_app.proofs.respond.find.Goals as goal

pub generated-requires : goal.generated-requires
generated-requires g c =
    let t = rw c.in-Gen.is at c.requires.taken in
    record { seed = seed-in c.in-Gen.seed c.in-Gen.rows t; rows = rows-in c.in-Gen.seed c.in-Gen.rows t }

pub returns-in_ok-generated-in-Gen-clause-comes : goal.returns-in_ok-generated-in-Gen-clause-comes
returns-in_ok-generated-in-Gen-clause-comes g c = rw c.in-Gen.is (found-done _ _ _ c.in_ok-generated-in-Gen.ensures.found)

pub returns-in_err-generated-in-Gen-clause-comes : goal.returns-in_err-generated-in-Gen-clause-comes
returns-in_err-generated-in-Gen-clause-comes g c = grind (arith, common_steps)

pub returns-in_ok-generated-in-Gen-clause-ready : goal.returns-in_ok-generated-in-Gen-clause-ready
returns-in_ok-generated-in-Gen-clause-ready g c = rw c.in-Gen.is c.in_ok-generated-in-Gen.ensures.ready

pub returns-in_ok-generated-in-Gen-clause-line : goal.returns-in_ok-generated-in-Gen-clause-line
returns-in_ok-generated-in-Gen-clause-line g c = grind (arith, common_steps)

pub returns-in_ok-generated-in-Gen-clause-unread : goal.returns-in_ok-generated-in-Gen-clause-unread
returns-in_ok-generated-in-Gen-clause-unread g c = grind (arith, common_steps)

pub returns-in_ok-generated-in-Gen-clause-failed : goal.returns-in_ok-generated-in-Gen-clause-failed
returns-in_ok-generated-in-Gen-clause-failed g c = grind (arith, common_steps)

pub returns-in_ok-generated-in-Gen-clause-made : goal.returns-in_ok-generated-in-Gen-clause-made
returns-in_ok-generated-in-Gen-clause-made g c = λ is. made-asked _ _ _ c.in_ok-generated-in-Gen.ensures.found

pub returns-in-Run-clause-comes : goal.returns-in-Run-clause-comes
returns-in-Run-clause-comes g c = rw c.in-Run.is c.find_question.ensures.comes

pub returns-in-Run-clause-ready : goal.returns-in-Run-clause-ready
returns-in-Run-clause-ready g c = rw c.in-Run.is c.find_question.ensures.ready

pub returns-in-Run-clause-failed : goal.returns-in-Run-clause-failed
returns-in-Run-clause-failed g c = grind (arith, common_steps)

pub returns-in-Run-clause-line : goal.returns-in-Run-clause-line
returns-in-Run-clause-line g c = grind (arith, common_steps)

pub returns-in-Run-clause-unread : goal.returns-in-Run-clause-unread
returns-in-Run-clause-unread g c = grind (arith, common_steps)

pub returns-in-Run-clause-later : goal.returns-in-Run-clause-later
returns-in-Run-clause-later g c = grind (arith, common_steps)

pub returns-in-Explain-clause-comes : goal.returns-in-Explain-clause-comes
returns-in-Explain-clause-comes g c = rw c.in-Explain.is c.find_question-in-Explain.ensures.comes

pub returns-in-Explain-clause-ready : goal.returns-in-Explain-clause-ready
returns-in-Explain-clause-ready g c = rw c.in-Explain.is c.find_question-in-Explain.ensures.ready

pub returns-in-Explain-clause-failed : goal.returns-in-Explain-clause-failed
returns-in-Explain-clause-failed g c = grind (arith, common_steps)

pub returns-in-Explain-clause-line : goal.returns-in-Explain-clause-line
returns-in-Explain-clause-line g c = grind (arith, common_steps)

pub returns-in-Explain-clause-unread : goal.returns-in-Explain-clause-unread
returns-in-Explain-clause-unread g c = grind (arith, common_steps)

pub returns-in-Explain-clause-later : goal.returns-in-Explain-clause-later
returns-in-Explain-clause-later g c = grind (arith, common_steps)

pub returns-in-Sql-clause-comes : goal.returns-in-Sql-clause-comes
returns-in-Sql-clause-comes g c = rw c.in-Sql.is c.find_question-in-Sql.ensures.comes

pub returns-in-Sql-clause-ready : goal.returns-in-Sql-clause-ready
returns-in-Sql-clause-ready g c = rw c.in-Sql.is c.find_question-in-Sql.ensures.ready

pub returns-in-Sql-clause-failed : goal.returns-in-Sql-clause-failed
returns-in-Sql-clause-failed g c = grind (arith, common_steps)

pub returns-in-Sql-clause-line : goal.returns-in-Sql-clause-line
returns-in-Sql-clause-line g c = grind (arith, common_steps)

pub returns-in-Sql-clause-unread : goal.returns-in-Sql-clause-unread
returns-in-Sql-clause-unread g c = grind (arith, common_steps)

pub returns-in-Sql-clause-later : goal.returns-in-Sql-clause-later
returns-in-Sql-clause-later g c = grind (arith, common_steps)
