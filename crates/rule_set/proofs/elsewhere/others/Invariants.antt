use Rattle.std.proofs.Common.{◌≡◌, filter, not, take}
use Rattle.rule_set.specs.Elsewhere.{feeds_asked}
use Rattle.rule_set.proofs.elsewhere.others.Given as goal

abbrev pub invariant-loop-place : goal.invariant-loop-place
invariant-loop-place l = l.out.items ≡ filter (λ p. not (feeds_asked l.rule l.graph p)) (take l.place-index l.places)
