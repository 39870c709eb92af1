-- The rules by name: the word, the class and the rank of each.
use Rattle.std.specs.Prelude.{ℕ, ◌||◌, ◌&&◌, ◌==◌, Bool, List, [], ◌∷◌, codes}
use Rattle.rule_plan.specs.Standing.{same_class}
use Rattle.rule_plan.specs.declared.classes.Class.{Class}
use Rattle.rule_plan.specs.declared.classes.Class.TheVariants.{Merge, Subquery, Distinct, Push, Trans, Prune, Magic}
use Rattle.rule_api.specs.declared.rule_id.RuleId.{RuleId}
use Rattle.rule_api.specs.declared.rule_id.RuleId.TheVariants.{M1, M2, U1, U2, U3, U4, L1, L2, L3, P1, P2, P3, P4, J1, J2, N1, N2, G1, G2, G3, G4, G5}

-- what is known of a rule: its name as it is printed, the class that it is of, and its place among all
pub record Entry : Type 0 where
  pub word : List ℕ
  pub class : Class
  pub rank : ℕ

abbrev pub entry_of : RuleId → Entry
entry_of M1 = record { word = codes "M1"; class = Merge; rank = 0 }
entry_of M2 = record { word = codes "M2"; class = Merge; rank = 1 }
entry_of U1 = record { word = codes "U1"; class = Subquery; rank = 2 }
entry_of U2 = record { word = codes "U2"; class = Subquery; rank = 3 }
entry_of U3 = record { word = codes "U3"; class = Subquery; rank = 4 }
entry_of U4 = record { word = codes "U4"; class = Subquery; rank = 5 }
entry_of L1 = record { word = codes "L1"; class = Distinct; rank = 6 }
entry_of L2 = record { word = codes "L2"; class = Distinct; rank = 7 }
entry_of L3 = record { word = codes "L3"; class = Distinct; rank = 8 }
entry_of P1 = record { word = codes "P1"; class = Push; rank = 9 }
entry_of P2 = record { word = codes "P2"; class = Push; rank = 10 }
entry_of P3 = record { word = codes "P3"; class = Push; rank = 11 }
entry_of P4 = record { word = codes "P4"; class = Push; rank = 12 }
entry_of J1 = record { word = codes "J1"; class = Trans; rank = 13 }
entry_of J2 = record { word = codes "J2"; class = Trans; rank = 14 }
entry_of N1 = record { word = codes "N1"; class = Prune; rank = 15 }
entry_of N2 = record { word = codes "N2"; class = Prune; rank = 16 }
entry_of G1 = record { word = codes "G1"; class = Magic; rank = 17 }
entry_of G2 = record { word = codes "G2"; class = Magic; rank = 18 }
entry_of G3 = record { word = codes "G3"; class = Magic; rank = 19 }
entry_of G4 = record { word = codes "G4"; class = Magic; rank = 20 }
entry_of G5 = record { word = codes "G5"; class = Magic; rank = 21 }

-- all rules, by rank
abbrev pub all_rules : List RuleId
all_rules = M1 ∷ M2 ∷ U1 ∷ U2 ∷ U3 ∷ U4 ∷ L1 ∷ L2 ∷ L3 ∷ P1 ∷ P2 ∷ P3 ∷ P4 ∷ J1 ∷ J2 ∷ N1 ∷ N2 ∷ G1 ∷ G2 ∷ G3 ∷ G4 ∷ G5 ∷ []

-- the place of a rule among all
abbrev pub rank_of : RuleId → ℕ
rank_of r = (entry_of r).rank

abbrev pub is_rule : RuleId → RuleId → Bool
is_rule r s = rank_of s == rank_of r

-- a rule is of a class; U2 is of the class magic, too
abbrev pub is_of : Class → RuleId → Bool
is_of class r = same_class class (entry_of r).class || (same_class Magic class && is_rule U2 r)
