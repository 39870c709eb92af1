use Rattle.std.proofs.Common.{◌∙◌, Bool, List, ap, map}
use Rattle.std.proofs.lemmas.Result.{IfOk-weaker}
use Rattle.sql_catalog.specs.declared.reader.Reader.{Reader}
use Rattle.sql_faults.specs.Depths as spec
use Rattle.sql_faults.proofs.Nested.{over_more}
use Rattle.sql_faults.proofs.depth.deeper.Goals as goal

pub returns : goal.returns
returns c depth e =
    IfOk-weaker c.next_marks.result _ _ (λ next h. h ∙ ap (λ (marks : List Bool). map (λ (v : Reader). spec.reads_marked v.reads c.args.views.now marks) c.args.views.now) e ∙ over_more c.args.views.now depth) c.next_marks.ensures
