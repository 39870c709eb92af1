-- Types told of boxes: what the types of columns are by them, and whether a box agrees with them.
use Rattle.std.specs.Prelude.{ℕ, ◌==◌, ◌-◌, ◌&&◌, if◌then◌else◌, Bool, true, List, Option, Some, None, slice_get}
use Rattle.std.specs.List.{list_all}
use Rattle.sql_value.specs.declared.order_key.SqlType.{SqlType}
use Rattle.qgm_core.specs.declared.kinds.BoxKind.{BoxKind}
use Rattle.qgm_core.specs.declared.kinds.BoxKind.TheVariants.{Base, Select, Group, SetOp, OuterJoin}
use Rattle.qgm_core.specs.declared.node.Node.{Node}
use Rattle.qgm_core.specs.declared.owned.OwnedQuant.{OwnedQuant}
use Rattle.qgm_wellformed.specs.Columns.{box_under}
use Rattle.qgm_wellformed.specs.Types.{Lookup, all_agree, cond_fits, is_known, joined_column, known, term_type}

-- the types of each box's columns
abbrev pub Types : Type 0
Types = ℕ → List (Option SqlType)

-- the type of column k of a box, where boxes have these types
abbrev pub found_by : Types → ℕ → Option Node → Option SqlType
found_by T k None = None
found_by T k (Some n) = if k == 0 then None else joined_column (slice_get (T n.id) (k - 1))

-- and that of column k of a quantifier
abbrev pub via : Types → List Node → Lookup
via T bs q k = found_by T k (box_under bs q)

-- arms of a set operation have its types
abbrev pub arms_by : Types → BoxKind → List OwnedQuant → Bool
arms_by T (Base t) rs = true
arms_by T Select rs = true
arms_by T (Group keys) rs = true
arms_by T (SetOp operator types) rs = list_all (λ r. all_agree (T r.over) (known types)) rs
arms_by T OuterJoin rs = true

-- cells have types, conditions compare such as go together, and arms fit
abbrev pub agrees_by : Lookup → Types → Node → Bool
agrees_by at T n = list_all (λ x. is_known (term_type at x)) n.parts.head && (list_all (cond_fits at) n.parts.conds.items && arms_by T n.parts.kind n.quants)
