use Rattle.std.proofs.Common.{◌≡◌, map}
use Rattle.qgm_terms.specs.Shown.{conds, term, terms}
use Rattle.qgm_terms.specs.Terms as t
use Rattle.qgm_build_terms.proofs.parts.equal_each.Given as goal

abbrev pub invariant-loop-y : goal.invariant-loop-y
invariant-loop-y l = conds l.all.items ≡ map (t.compare t.equal (term l.x)) (terms l.yielded)
