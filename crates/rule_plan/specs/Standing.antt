-- Whether a class stands in a list of classes.
use Rattle.std.specs.Prelude.{ℕ, Bool, List, ◌==◌}
use Rattle.std.specs.List.{list_any}
use Rattle.rule_plan.specs.declared.classes.Class.{Class}
use Rattle.rule_plan.specs.declared.classes.Class.TheVariants.{Merge, Subquery, Distinct, Push, Trans, Prune, Magic}

-- the place of a class among all
abbrev pub class_place : Class → ℕ
class_place Merge = 0
class_place Subquery = 1
class_place Distinct = 2
class_place Push = 3
class_place Trans = 4
class_place Prune = 5
class_place Magic = 6

abbrev pub same_class : Class → Class → Bool
same_class a b = class_place a == class_place b

-- one of the classes is this one
abbrev pub has_class : Class → List Class → Bool
has_class class classes = list_any (same_class class) classes
