-- The examples compute.
use Rattle.std.proofs.Common.{refl}
use Rattle.rule_engine.specs.Control.{earliest, rules_of}
use Rattle.rule_engine.specs.Examples.{DrawsOfSeven, MagicFirst, SecondIsEarliest}

pub draws-of-seven : DrawsOfSeven
draws-of-seven = (refl, refl)

pub magic-first : MagicFirst
unfolding rules_of
magic-first = refl

pub second-is-earliest : SecondIsEarliest
unfolding earliest
second-is-earliest = refl
