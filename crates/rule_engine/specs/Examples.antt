-- The words of control, by example.
use Rattle.std.specs.Prelude.{◌≡◌, [], ◌∷◌, Some}
use Rattle.rule_plan.specs.declared.classes.Class.TheVariants.{Magic, Subquery}
use Rattle.rule_api.specs.Rules.{place_at}
use Rattle.rule_api.specs.declared.rule_id.RuleId.TheVariants.{G1, G2, G3, G4, G5, M1, M2, U1, U2, U3, U4}
use Rattle.rule_engine.specs.Control.{draw, earliest, enabled, firing}

-- the first two draws of the seed 7
abbrev pub DrawsOfSeven : Type 0
DrawsOfSeven = (draw 7 0 ≡ 19564) × (draw 7 1 ≡ 9806)

-- U2 stands where the first of its classes does
abbrev pub MagicFirst : Type 0
MagicFirst = enabled (Magic ∷ Subquery ∷ []) ≡ U2 ∷ G1 ∷ G2 ∷ G3 ∷ G4 ∷ G5 ∷ U1 ∷ U3 ∷ U4 ∷ []

-- of M2 at box 1 and M1 at the boxes 2 and 3 the second is the earliest
abbrev pub SecondIsEarliest : Type 0
SecondIsEarliest =
    earliest (firing M2 (place_at 1 (0, 0)) ∷ firing M1 (place_at 2 (1, 0)) ∷ firing M1 (place_at 3 (1, 0)) ∷ []) ≡ Some (firing M1 (place_at 2 (1, 0)))
