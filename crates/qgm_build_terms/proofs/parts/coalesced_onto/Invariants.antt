use Rattle.std.proofs.Common.{◌≡◌, IfOk, IsOkAnd, length}
use Rattle.qgm_terms.specs.Shown.{term, terms}
use Rattle.qgm_build_terms.specs.Parts as spec
use Rattle.qgm_build_terms.proofs.parts.coalesced_onto.Given as goal

abbrev pub invariant-loop-x : goal.invariant-loop-x
invariant-loop-x l = IfOk l.total (λ y. IsOkAnd l.fn.last (λ z. spec.coalesced_onto (terms l.rest.items) (term y.value) ≡ spec.coalesced_onto (terms l.fn.list.items) (term z.value)))

abbrev pub decreases-loop-x : goal.decreases-loop-x
decreases-loop-x l = length l.rest.items
