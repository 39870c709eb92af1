-- Where the types that sources tell come from: the columns of quantifiers.
use Rattle.std.specs.Prelude.{◌≡◌, ℕ, List, Some}
use Rattle.sql_value.specs.declared.order_key.SqlType.{SqlType}
use Rattle.qgm_core.specs.declared.node.Node.{Node}
use Rattle.qgm_terms.specs.Terms.{Term}
use Rattle.qgm_wellformed.specs.Columns.{box_under}
use Rattle.qgm_wellformed.specs.Types.{Lookup, term_type, type_in, types_by}
use Rattle.qgm_wellformed.specs.declared.types.Typed.{Typed}
use Rattle.qgm_translation.specs.Sources.{Sources}
use Rattle.qgm_translation_laws.specs.Formed.{Told}

-- the types of a box's columns, by these types of the columns of quantifiers
abbrev pub columns_by : Lookup → Node → Typed
columns_by at n = record { id = n.id; types = types_by at n.parts.kind n.parts.head }

-- a column of a quantifier has the type that the box under it gives it
abbrev pub GivesBack : Lookup → List Node → Type 0
GivesBack at boxes = (q k : ℕ) (n : Node) (t : SqlType) → box_under boxes q ≡ Some n → type_in k (Some (columns_by at n)) ≡ Some t → at q k ≡ Some t

-- the sources tell the types that expressions have so
abbrev pub TellsBy : Lookup → Sources → Type 0
TellsBy at sources = (x : Term) (t : SqlType) → term_type at x ≡ Some t → sources.typed x ≡ t

-- they tell what is found in the boxes
abbrev pub ToldByColumns : Type 0
ToldByColumns = (at : Lookup) (sources : Sources) (boxes : List Node) → GivesBack at boxes → TellsBy at sources → Told sources boxes
