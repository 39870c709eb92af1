use Rattle.std.proofs.Common.{◌≡◌, drop}
use Rattle.sql_faults.specs.Rules.{places_differ}
use Rattle.sql_faults.proofs.operands.places_differ.Given as goal

abbrev pub invariant-loop-x : goal.invariant-loop-x
invariant-loop-x l = places_differ (drop l.x-index l.a) l.rest ≡ places_differ l.a l.b
