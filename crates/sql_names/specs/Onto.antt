-- Lists of the program before the rest of a list of a tree.
use Rattle.std.specs.Prelude.{List, [], ◌∷◌}
use Rattle.sql_meaning.specs.declared.resolved.Arm.{Arm}
use Rattle.sql_meaning.specs.declared.resolved.Choice.{Choice}
use Rattle.sql_meaning.specs.declared.resolved.From.{From}
use Rattle.sql_meaning.specs.declared.resolved.Value.{Value}
use Rattle.sql_meaning.specs.ResolvedShown as shown
use Rattle.sql_meaning.specs.ResolvedTrees as q

abbrev pub values_onto : List Value → q.Values → q.Values
values_onto [] rest = rest
values_onto (x ∷ xs) rest = q.one_value (shown.value x) (values_onto xs rest)

abbrev pub arms_onto : List Arm → q.Arms → q.Arms
arms_onto [] rest = rest
arms_onto (x ∷ xs) rest = q.one_arm (shown.test x.when) (shown.value x.then) (arms_onto xs rest)

abbrev pub choices_onto : List Choice → q.Choices → q.Choices
choices_onto [] rest = rest
choices_onto (x ∷ xs) rest = q.one_choice (shown.value x.when) (shown.value x.then) (choices_onto xs rest)

abbrev pub froms_onto : List From → q.Froms → q.Froms
froms_onto [] rest = rest
froms_onto (x ∷ xs) rest = q.one_from (shown.from x) (froms_onto xs rest)
