use Rattle.std.proofs.Common.{◌≡◌, subst, Bool, IfOk}
use Rattle.sql_catalog.proofs.RecursionLaws.{recursion}
use Rattle.sql_catalog.proofs.nesting.is_recursive.Goals as goal

pub returns : goal.returns
returns c = subst (λ (b : Bool). IfOk c.one_nests_over.result (λ found. found ≡ b)) (recursion c.args.views.now) c.one_nests_over.ensures
