-- The classes that a text names.
use Rattle.std.specs.Prelude.{List, [], ◌∷◌, ◌++◌, Option, Some, None, ◌==◌, codes, if◌then◌else◌}
use Rattle.std.specs.List.{slice_split}
use Rattle.std.specs.Str.{bytes_eq}
use Rattle.clap.specs.Words.{Text}
use Rattle.rule_plan.specs.Standing.{has_class}
use Rattle.rule_plan.specs.declared.classes.Class.{Class}
use Rattle.rule_plan.specs.declared.classes.Class.TheVariants.{Merge, Subquery, Distinct, Push, Trans, Prune, Magic}
use Rattle.command_line.specs.Named.{◌>>=◌, named}

abbrev pub class_named : Text → Option Class
class_named = named ((codes "merge", Merge) ∷ (codes "subquery", Subquery) ∷ (codes "distinct", Distinct)
    ∷ (codes "push", Push) ∷ (codes "trans", Trans) ∷ (codes "prune", Prune) ∷ (codes "magic", Magic) ∷ [])

-- the classes and, after them, the one of this name, which must not stand yet
abbrev pub with_class : List Class → Text → Option (List Class)
with_class classes name = do
  class ← class_named name
  if has_class class classes then None else Some (classes ++ class ∷ [])

-- the classes and, after them, those of these names, each once
abbrev pub classes_with : List Class → List Text → Option (List Class)
classes_with classes [] = Some classes
classes_with classes (name ∷ names) = do
  more ← with_class classes name
  classes_with more names

-- `none`, or names between commas (44)
abbrev pub classes_named : Text → Option (List Class)
classes_named text = if bytes_eq text (codes "none") then Some []
    else classes_with [] (slice_split (λ b. b == 44) text)
