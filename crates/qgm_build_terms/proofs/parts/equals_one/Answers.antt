use Rattle.std.proofs.Common.{◌∙◌, ap, map}
use Rattle.std.proofs.lemmas.Result.{IfOk-weaker}
use Rattle.qgm_terms.specs.Shown.{term, terms}
use Rattle.qgm_terms.specs.Terms as t
use Rattle.qgm_terms.specs.declared.tree.Gx.{Gx}
use Rattle.qgm_build_terms.specs.Parts as spec
use Rattle.qgm_build_terms.proofs.Steps.{is_there}
use Rattle.qgm_build_terms.proofs.parts.equals_one.Goals as goal

pub returns : goal.returns
returns c =
    rw (c.in_ok-x.ensures.0, c.in_ok-x.ensures.1)
    (IfOk-weaker c.any_of.result _ _ (λ p h. is_there c.equal_each.result _ _ _ _ h c.equal_each.ensures c.equal_each.ensures (λ v made each same. made ∙ ap spec.any_of (each ∙ ap (λ (x : Gx). map (t.compare t.equal (term x)) (terms c.in_ok-x.list.items)) c.deref.ensures))) c.any_of.ensures)
