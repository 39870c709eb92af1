-- The text of a graph: lines, each with a line feed at its end.
use Rattle.std.specs.Prelude.{ℕ, ◌++◌, if◌then◌else◌, Bool, true, false, List, [], Option, Some, None, codes, decimal, map}
use Rattle.std.specs.List.{flat_map}
use Rattle.sql_value.specs.declared.order_key.OrderKey.{OrderKey}
use Rattle.sql_value.specs.declared.order_key.SqlType.{SqlType}
use Rattle.sql_value.specs.declared.order_key.SqlType.TheVariants.{Integer, Varchar}
use Rattle.qgm_core.specs.Boxes.{QueryGraph, box_of, quants_of}
use Rattle.qgm_core.specs.Free.{free}
use Rattle.qgm_core.specs.Walk.{walk}
use Rattle.qgm_core.specs.declared.kinds.BoxKind.{BoxKind}
use Rattle.qgm_core.specs.declared.kinds.BoxKind.TheVariants.{Base, Select, Group, SetOp, OuterJoin}
use Rattle.qgm_core.specs.declared.kinds.Distinct.{Distinct}
use Rattle.qgm_core.specs.declared.kinds.Distinct.TheVariants.{Enforce, Preserve, Permit}
use Rattle.qgm_core.specs.declared.kinds.QuantKind.{QuantKind}
use Rattle.qgm_core.specs.declared.kinds.QuantKind.TheVariants.{F, E, A, S}
use Rattle.qgm_core.specs.declared.kinds.Role.{Role}
use Rattle.qgm_core.specs.declared.kinds.Role.TheVariants.{Plain, Magic, Fed}
use Rattle.qgm_core.specs.declared.kinds.SetOperator.{SetOperator}
use Rattle.qgm_core.specs.declared.kinds.SetOperator.TheVariants.{Union, UnionAll, Intersect, IntersectAll, Except, ExceptAll}
use Rattle.qgm_core.specs.declared.node.Node.{Node}
use Rattle.qgm_core.specs.declared.owned.OwnedQuant.{OwnedQuant}
use Rattle.qgm_wellformed.specs.Types.{Lookup, lookup_of, term_type}
use Rattle.qgm_wellformed.specs.WellFormed.{is_empty}
use Rattle.qgm_terms.specs.Terms.{Cond, Term}
use Rattle.shared_types.specs.declared.walk.Walk.TheVariants.{Depth}
use Rattle.graph_print.specs.Places.{place_in}
use Rattle.graph_print.specs.TermText.{cond_text, doubled, term_text}

-- ---- numbers, which are places in these lists

-- boxes in the order of the depth walk
abbrev pub box_order : QueryGraph → List ℕ
box_order g = walk Depth g

-- quantifiers by their owners in that order, and then by place
abbrev pub quant_order : QueryGraph → List ℕ
quant_order g = flat_map (λ b. map (λ r. r.id) (quants_of b g)) (box_order g)

-- ---- words

abbrev pub kind_word : QuantKind → List ℕ
kind_word F = codes " F "
kind_word E = codes " E "
kind_word A = codes " A "
kind_word S = codes " S "

abbrev pub distinct_word : Distinct → List ℕ
distinct_word Enforce = codes " enforce"
distinct_word Preserve = codes " preserve"
distinct_word Permit = codes " permit"

abbrev pub role_word : Role → List ℕ
role_word Plain = codes " plain"
role_word Magic = codes " magic"
role_word Fed = codes " fed"

abbrev pub operator_word : SetOperator → List ℕ
operator_word Union = codes " union"
operator_word UnionAll = codes " union-all"
operator_word Intersect = codes " intersect"
operator_word IntersectAll = codes " intersect-all"
operator_word Except = codes " except"
operator_word ExceptAll = codes " except-all"

-- no type where types disagree, which they do in no well-formed graph
abbrev pub type_word : Option SqlType → List ℕ
type_word (Some Integer) = codes "int"
type_word (Some Varchar) = codes "text"
type_word None = codes "none"

-- a box is closed where nothing is free in it
abbrev pub closed_word : Bool → List ℕ
closed_word true = codes " closed"
closed_word false = codes " open"

-- conditions of an outer join stand in its ON
abbrev pub cond_word : BoxKind → List ℕ
cond_word (Base table) = codes "where "
cond_word Select = codes "where "
cond_word (Group keys) = codes "where "
cond_word (SetOp operator types) = codes "where "
cond_word OuterJoin = codes "on "

-- ---- the first two lines

abbrev pub quoted : List ℕ → List ℕ
quoted name = codes "\"" ++ doubled 34 name ++ codes "\""

unfoldable pub name_text : Option (List ℕ) → List ℕ
name_text None = codes " -"
name_text (Some name) = codes " " ++ quoted name

abbrev pub out_line : List (Option (List ℕ)) → List ℕ
out_line names = codes "out" ++ flat_map name_text names ++ codes "\n"

unfoldable pub key_text : OrderKey → List ℕ
key_text key = codes " " ++ decimal key.column ++ (if key.descending then codes " desc" else codes " asc")

abbrev pub order_line : List OrderKey → List ℕ
order_line keys = codes "order" ++ flat_map key_text keys ++ codes "\n"

-- ---- the lines of a box

unfoldable pub kind_text : BoxKind → Distinct → Role → List ℕ
kind_text (Base table) distinct role = codes " base " ++ quoted table.name
kind_text Select distinct role = codes " select" ++ distinct_word distinct ++ role_word role
kind_text (Group keys) distinct role = codes " group " ++ decimal keys
kind_text (SetOp operator types) distinct role = codes " setop" ++ operator_word operator
kind_text OuterJoin distinct role = codes " outerjoin"

-- a box, by its number, and whether it is closed
unfoldable pub box_line : ℕ → Bool → Node → List ℕ
box_line b closed n = codes "box " ++ decimal b ++ kind_text n.parts.kind n.parts.distinct n.parts.role ++ closed_word closed ++ codes "\n"

-- a quantifier, its kind, and the box that it ranges over
unfoldable pub quant_line : List ℕ → List ℕ → OwnedQuant → List ℕ
quant_line boxes quants r = codes "quant " ++ decimal (place_in quants r.id) ++ kind_word r.kind ++ decimal (place_in boxes r.over) ++ codes "\n"

unfoldable pub cond_line : List ℕ → BoxKind → Cond → List ℕ
cond_line quants kind c = cond_word kind ++ cond_text (place_in quants) c ++ codes "\n"

-- a column by its type alone
unfoldable pub type_line : SqlType → List ℕ
type_line t = codes "head " ++ type_word (Some t) ++ codes "\n"

-- a column by its type and its cell
unfoldable pub cell_line : Lookup → List ℕ → Term → List ℕ
cell_line types quants x = codes "head " ++ type_word (term_type types x) ++ codes " " ++ term_text (place_in quants) x ++ codes "\n"

abbrev pub head_lines : Lookup → List ℕ → BoxKind → List Term → List ℕ
head_lines types quants (Base table) head = flat_map type_line table.types
head_lines types quants Select head = flat_map (cell_line types quants) head
head_lines types quants (Group keys) head = flat_map (cell_line types quants) head
head_lines types quants (SetOp operator columns) head = flat_map type_line columns
head_lines types quants OuterJoin head = flat_map (cell_line types quants) head

-- quantifiers, conditions and columns, by the types of columns, the order of boxes and that of quantifiers
unfoldable pub part_lines : Lookup → List ℕ → List ℕ → Node → List ℕ
part_lines types boxes quants n =
    flat_map (quant_line boxes quants) n.quants ++ flat_map (cond_line quants n.parts.kind) n.parts.conds.items ++ head_lines types quants n.parts.kind n.parts.head

-- the lines of a box that is found
abbrev pub lines_of : QueryGraph → ℕ → Option Node → List ℕ
lines_of g b None = []
lines_of g b (Some n) = box_line (place_in (box_order g) b) (is_empty (free b g)) n ++ part_lines (lookup_of g.boxes) (box_order g) (quant_order g) n

-- the lines of a box
unfoldable pub box_lines : QueryGraph → ℕ → List ℕ
box_lines g b = lines_of g b (box_of b g)

-- ---- all lines

-- names and order, and then the boxes in the order of the depth walk
abbrev pub text_of : QueryGraph → List ℕ
text_of g = out_line g.names ++ order_line g.order ++ flat_map (box_lines g) (box_order g)
