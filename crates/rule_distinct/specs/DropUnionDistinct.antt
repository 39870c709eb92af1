-- L3, DISTINCT under UNION goes: its condition and its places. Its action is DropsDistinct.
use Rattle.std.specs.Prelude.{ℕ, ◌≡◌, true, false, List, ◌==◌, ◌&&◌, Bool, Option, Some, None}
use Rattle.std.specs.List.{list_any}
use Rattle.sql_value.specs.declared.order_key.SqlType.{SqlType}
use Rattle.qgm_core.specs.Boxes.{QueryGraph, overs_in}
use Rattle.list_laws.specs.Lists.{In, times}
use Rattle.qgm_core.specs.declared.kinds.BoxKind.TheVariants.{SetOp}
use Rattle.qgm_core.specs.declared.kinds.SetOperator.TheVariants.{Union, UnionAll, IntersectAll, Intersect, ExceptAll, Except}
use Rattle.qgm_core.specs.declared.kinds.Distinct.TheVariants.{Enforce}
use Rattle.qgm_core.specs.declared.node.Node.{Node}
use Rattle.qgm_core.specs.declared.owned.OwnedQuant.{OwnedQuant}
use Rattle.qgm_core.specs.Kinds.{is_enforce}
use Rattle.qgm_core.specs.declared.kinds.SetOperator.{SetOperator}
use Rattle.rule_api.specs.declared.place.Place.{Place}
use Rattle.rule_api.specs.Rules.{Pair}
use Rattle.rule_facts.specs.Places.{box_pairs, is_plain_select, of_set}
use Rattle.rule_distinct.specs.PlainAt.{PlainAt}

-- ---- the condition

-- b, a plain select, is ENFORCE, and the one quantifier over it is one of a union
pub record MayDropUnionDistinctAt (p : Place) (g : QueryGraph) (b : Node) : Type 0 where
  pub box : PlainAt p g b
  pub enforced : b.parts.distinct ≡ Enforce
  pub owner : Node
  pub over : OwnedQuant
  pub types : List SqlType
  pub in_owner : In owner g.boxes
  pub owned : In over owner.quants
  pub over_b : over.over ≡ b.id
  pub union : owner.parts.kind ≡ SetOp Union types
  pub one_use : times b.id (overs_in g.boxes) ≡ 1

unfoldable pub MayDropUnionDistinct : Place → QueryGraph → Type 0
MayDropUnionDistinct p g = (b : Node) × MayDropUnionDistinctAt p g b

-- ---- the places

abbrev pub is_union : SetOperator → Bool
is_union UnionAll = false
is_union Union = true
is_union IntersectAll = false
is_union Intersect = false
is_union ExceptAll = false
is_union Except = false

-- it ranges over b
abbrev pub ranges_over : ℕ → Node → Bool
ranges_over b y = list_any (λ (r : OwnedQuant). r.over == b) y.quants

-- it is a union over b
abbrev pub unites : ℕ → Node → Bool
unites b y = of_set (λ form types. is_union form) y.parts.kind && ranges_over b y

-- a box that is found is a union
abbrev pub is_union_found : Option Node → Bool
is_union_found None = false
is_union_found (Some y) = of_set (λ form types. is_union form) y.parts.kind

-- one quantifier ranges over it, and that is one of a union
abbrev pub is_under_union : QueryGraph → Node → Bool
is_under_union g n = (times n.id (overs_in g.boxes) == 1) && list_any (unites n.id) g.boxes

abbrev pub may_drop_union_distinct : QueryGraph → Node → Bool
may_drop_union_distinct g n = is_plain_select n && (is_enforce n.parts.distinct && is_under_union g n)

-- the places of L3 at b
unfoldable pub drop_union_distinct_pairs : QueryGraph → ℕ → List Pair
drop_union_distinct_pairs g b = box_pairs (may_drop_union_distinct g) g b
