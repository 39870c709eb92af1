use Rattle.std.proofs.Common.{◌≡◌, ◌∙◌, ◌≤◌, Bool, false, arith}
use Rattle.std.specs.List.{list_any}
use Rattle.std.proofs.lemmas.Grind.{common_steps}
use Rattle.sql_catalog.specs.Shown as declared
use Rattle.sql_faults.proofs.Catalogs.{marks_settled}
use Rattle.sql_faults.proofs.Nested.{views_more}
use Rattle.sql_faults.proofs.view.view_heads.Goals as goal

pub returns-then-not-any_marked : goal.returns-then-not-any_marked
returns-then-not-any_marked c =
    let low : c.loop-depth._depth ≤ 16 = omega (arith, c.loop-depth-test.true) in
    let none : list_any (λ (mark : Bool). mark) c.as_slice.result.now ≡ false = grind (arith, common_steps) in
    marks_settled (declared.catalog c.args.catalog.now) c.loop-depth._depth c.args.all.now c.loop-depth.heads c.as_slice.result.now low c.requires.readers c.loop-depth.invariant.heads (c.as_slice.ensures ∙ c.loop-depth.invariant.marks) none

pub loop-depth-preserved : goal.loop-depth-preserved
loop-depth-preserved c =
    record {
      heads = c.in_ok-heads.ensures ∙ views_more (declared.catalog c.args.catalog.now) c.loop-depth._depth c.as_slice-in-loop-depth.result.now (c.as_slice-in-loop-depth.ensures ∙ c.loop-depth.invariant.heads);
      marks = c.in_ok-marks-2.ensures c.loop-depth._depth (c.as_slice-in-loop-depth-2.ensures ∙ c.loop-depth.invariant.marks);
    }
