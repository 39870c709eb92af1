-- What a block sees as it is written: what names stand for, the types of columns, and where its own columns and those of the blocks round it are seen.
use Rattle.std.specs.Prelude.{ℕ, List, [], ◌∷◌, Option, Some, None, get_or, map, if◌then◌else◌}
use Rattle.sql_ast.specs.Names.{same_name}
use Rattle.sql_value.specs.declared.order_key.SqlType.{SqlType}
use Rattle.sql_value.specs.declared.order_key.SqlType.TheVariants.{Integer}
use Rattle.qgm_translation.specs.Lay.{SharedBox, box_named}
use Rattle.qgm_terms.specs.Terms.{Term}
use Rattle.qgm_translation.specs.Maps.{Frame, Map, nothing, ref_term}
use Rattle.qgm_translation.specs.Sources.{Sources}
use Rattle.sql_meaning.specs.ResolvedTrees.{Value}
use Rattle.qgm_translation.specs.Leaves.{Slots}
use Rattle.qgm_translation.specs.Terms.{term}
use Rattle.qgm_build_terms.specs.Parts.{open_term}
use Rattle.qgm_translation.specs.Typing.{typed_by}
use Rattle.qgm_build_terms.specs.Written.{frame_of, map_of}
use Rattle.qgm_build_terms.specs.declared.setting.Named.{Named}
use Rattle.qgm_build_terms.specs.declared.setting.Known.{Known}
use Rattle.qgm_build_terms.specs.declared.setting.Names.{Names}
use Rattle.qgm_build_terms.specs.declared.made.Shared.{Shared}
use Rattle.qgm_build_terms.specs.declared.setting.Setting.{Setting}

-- the first of a name
abbrev pub named_in : List Named → List ℕ → Option Named
named_in [] name = None
named_in (x ∷ xs) name = if same_name x.name name then Some x else named_in xs name

abbrev pub columns_of : Option Named → ℕ
columns_of None = 0
columns_of (Some x) = x.columns

-- what a schema says of names; their boxes and the types of expressions come with the boxes so far
abbrev pub told_by : List Named → Sources
told_by named = record {
  columns = λ name. columns_of (named_in named name);
  body = λ name. None;
  stored = λ name. record { name = name; types = []; keys = []; not_null = [] };
  shared = λ name. 0;
  typed = λ x. Integer;
}

abbrev pub told : Names → Sources
told names = told_by names.named.now

abbrev pub shared_box : Shared → SharedBox
shared_box x = record { name = x.name; box = x.number }

-- what names stand for, where quantifiers have columns of these types
abbrev pub known_with : Known → List (List SqlType) → Sources
known_with known rows = record (told known.names) { shared = box_named (map shared_box known.shared.now); typed = typed_by rows }

abbrev pub sources_in : Setting → Sources
sources_in g = known_with g.known g.rows.now

abbrev pub frame_in : Setting → Frame
frame_in g = frame_of g.frame.now

abbrev pub outer_in : Setting → Map
outer_in g = map_of g.outer.now

-- a column of a scope, by its place from 0
abbrev pub column_in : Setting → ℕ → ℕ → Term
column_in g scope place = ref_term (get_or (get_or (frame_in g ∷ outer_in g) scope []) place nothing)

-- a result of a CASE; none for a NULL without a type of its own
abbrev pub outcome_in : Setting → Slots → Value → Option Term
outcome_in g s x = open_term x (term (sources_in g) (frame_in g) (outer_in g) s x)
