-- U2, a scalar subquery becomes a group that tells whether there is one row: its condition, its places and its action.
use Rattle.std.specs.Prelude.{ℕ, suc, ◌≡◌, ◌≤◌, ◌++◌, ◌⊎◌, false, List, ◌∷◌, length, Some, ◌&&◌, ◌||◌, nat_le, not, Bool}
use Rattle.std.specs.List.{list_any}
use Rattle.qgm_core.specs.Boxes.{QueryGraph, box_of, has_box, owns}
use Rattle.qgm_core.specs.Edits.{compact}
use Rattle.list_laws.specs.Lists.{In}
use Rattle.qgm_core.specs.declared.kinds.BoxKind.TheVariants.{Select}
use Rattle.qgm_core.specs.declared.kinds.QuantKind.TheVariants.{S}
use Rattle.qgm_core.specs.declared.kinds.Role.TheVariants.{Plain}
use Rattle.qgm_core.specs.declared.node.Node.{Node}
use Rattle.qgm_core.specs.declared.owned.OwnedQuant.{OwnedQuant}
use Rattle.qgm_core.specs.Kinds.{is_S}
use Rattle.qgm_props.specs.Inferred.{Inferred, at_most_one, error_free, exactly_one}
use Rattle.rule_subquery.specs.ScalarToGroupLaws.{singled}
use Rattle.rule_api.specs.declared.place.Place.{Place}
use Rattle.rule_api.specs.Rules.{Pair}
use Rattle.rule_facts.specs.Told.{infers}
use Rattle.rule_facts.specs.Places.{quant_pairs, is_plain_select}

-- ---- the condition

-- b, a plain select, has the S quantifier r, over c, which isn't inferred to have exactly one row; column 1 of c is inferred error-free, or c to have at most one row; there are few boxes
pub record MayScalarToGroupAt (p : Place) (g : QueryGraph) (b : Node) (us : List OwnedQuant) (r : OwnedQuant) (vs : List OwnedQuant) : Type 0 where
  pub no_second : p.j ≡ 0
  pub at : box_of p.at g ≡ Some b
  pub nth : p.i ≡ suc (length us)
  pub select : b.parts.kind ≡ Select
  pub plain : b.parts.role ≡ Plain
  pub split : b.quants ≡ us ++ r ∷ vs
  pub is_s : r.kind ≡ S
  pub not_one : Inferred g.boxes (exactly_one r.over) → ⊥
  pub safe : Inferred g.boxes (error_free r.over 1) ⊎ Inferred g.boxes (at_most_one r.over)
  pub few : length g.boxes ≤ 65530

unfoldable pub MayScalarToGroup : Place → QueryGraph → Type 0
MayScalarToGroup p g = (b : Node) × ((us : List OwnedQuant) × ((r : OwnedQuant) × ((vs : List OwnedQuant) × MayScalarToGroupAt p g b us r vs)))

-- ---- the places

abbrev pub are_few : List Node → Bool
are_few bs = nat_le (length bs) 65530

abbrev pub is_safe : List Node → ℕ → Bool
is_safe bs b = infers bs (error_free b 1) || infers bs (at_most_one b)

abbrev pub may_scalar_to_group : List Node → Node → OwnedQuant → Bool
may_scalar_to_group bs n r = is_plain_select n && (is_S r.kind && (not (infers bs (exactly_one r.over)) && (is_safe bs r.over && are_few bs)))

-- one of these is an S quantifier
abbrev pub any_scalar : List OwnedQuant → Bool
any_scalar rs = list_any (λ r. is_S r.kind) rs

-- a plain select with an S quantifier, among few boxes
abbrev pub may_have : List Node → Node → Bool
may_have bs n = is_plain_select n && (any_scalar n.quants && are_few bs)

-- the places of U2 at b
unfoldable pub scalar_to_group_pairs : QueryGraph → ℕ → List Pair
scalar_to_group_pairs g b = quant_pairs (may_scalar_to_group g.boxes) g b

-- ---- the action

-- among the boxes, behind b and before r's box, stands a group of r's box without keys, whose one cell is its single first cell, and r ranges over it; the numbers of the group and of its quantifier are new
pub record GroupsBox (g h : QueryGraph) (b : Node) (r : OwnedQuant) : Type 0 where
  pub c : Node
  pub xs : List Node
  pub ys : List Node
  pub group : ℕ
  pub quant : ℕ
  pub under : box_of r.over g ≡ Some c
  pub parted : g.boxes ≡ xs ++ ys
  pub before : In b xs
  pub behind : In c ys
  pub new_box : has_box g.boxes group ≡ false
  pub new_quant : list_any (owns quant) g.boxes ≡ false
  pub after : h ≡ compact (singled xs ys group quant b c r g)

unfoldable pub GroupsScalar : Place → QueryGraph → QueryGraph → Type 0
GroupsScalar p g h = (b : Node) × ((us : List OwnedQuant) × ((r : OwnedQuant) × ((vs : List OwnedQuant) × (MayScalarToGroupAt p g b us r vs × GroupsBox g h b r))))
