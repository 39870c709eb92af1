-- N2: an F quantifier over exactly one row, which nothing names, goes: its condition, its action and its places.
use Rattle.std.specs.Prelude.{ℕ, suc, ◌≡◌, ◌==◌, ◌++◌, ◌&&◌, ◌||◌, not, nat_le, Bool, true, false, List, ◌∷◌, filter, length, Some}
use Rattle.std.specs.List.{list_any}
use Rattle.qgm_core.specs.Boxes.{QueryGraph, box_of}
use Rattle.qgm_core.specs.Kinds.{is_F}
use Rattle.list_laws.specs.Lists.{In}
use Rattle.qgm_core.specs.declared.kinds.BoxKind.TheVariants.{Select}
use Rattle.qgm_core.specs.declared.kinds.Role.TheVariants.{Plain}
use Rattle.qgm_core.specs.declared.node.Node.{Node}
use Rattle.qgm_core.specs.declared.owned.OwnedQuant.{OwnedQuant}
use Rattle.qgm_edit_laws.specs.DropQuants.{without_those}
use Rattle.qgm_edit_laws.specs.FedOpen.{FedOpen}
use Rattle.qgm_meaning.specs.Scope.{read_by}
use Rattle.qgm_props.specs.Inferred.{Inferred, clean, exactly_one}
use Rattle.rule_api.specs.Rules.{Pair}
use Rattle.rule_api.specs.declared.place.Place.{Place}
use Rattle.rule_facts.specs.FedClosed.{any_fed_closed}
use Rattle.rule_facts.specs.Places.{is_plain_select, quant_pairs}
use Rattle.rule_facts.specs.Told.{infers}

-- all but q
abbrev pub others : ℕ → ℕ → Bool
others q x = not (x == q)

-- r, an F quantifier of the plain select b, may go: its box is inferred clean and of exactly one row, no box reads it, and no fed box is left over a closed box
pub record IsUnreadRow (g : QueryGraph) (b : Node) (us : List OwnedQuant) (r : OwnedQuant) (vs : List OwnedQuant) : Type 0 where
  pub within : In b g.boxes
  pub select : b.parts.kind ≡ Select
  pub plain : b.parts.role ≡ Plain
  pub split : b.quants ≡ us ++ r ∷ vs
  pub is_f : is_F r.kind ≡ true
  pub unread : (n : Node) → In n g.boxes → read_by n r.id ≡ false
  pub clean : Inferred g.boxes (clean r.over)
  pub one : Inferred g.boxes (exactly_one r.over)
  pub last : FedOpen (without_those b (others r.id) g).boxes

-- N2 may fire: another F quantifier is left
pub record MayDropQuantifier (at : Place) (g : QueryGraph) : Type 0 where
  pub b : Node
  pub us : List OwnedQuant
  pub r : OwnedQuant
  pub vs : List OwnedQuant
  pub no_second : at.j ≡ 0
  pub found : box_of at.at g ≡ Some b
  pub nth : at.i ≡ suc (length us)
  pub unread : IsUnreadRow g b us r vs
  pub another : list_any (λ x. is_F x.kind) (us ++ vs) ≡ true

-- the quantifier has gone, and the boxes that the root then doesn't reach; all else is as in g
pub record DropsQuantifier (at : Place) (g h : QueryGraph) : Type 0 where
  pub may : MayDropQuantifier at g
  pub after : h ≡ without_those may.b (others may.r.id) g

-- q is the quantifier that goes at a place
abbrev pub GoesAt : Place → QueryGraph → ℕ → Type 0
GoesAt at g q = (m : MayDropQuantifier at g) → q ≡ m.r.id

-- ---- the places

-- two F quantifiers or more are among these
abbrev pub many_F : List OwnedQuant → Bool
many_F rs = nat_le 2 (length (filter (λ r. is_F r.kind) rs))

-- a plain select with two F quantifiers or more
abbrev pub may_have : Node → Bool
may_have n = is_plain_select n && many_F n.quants

-- r is an F over a box that is inferred clean and of exactly one row
abbrev pub is_one_row : List Node → OwnedQuant → Bool
is_one_row bs r = is_F r.kind && (infers bs (clean r.over) && infers bs (exactly_one r.over))

-- n or another box reads q
abbrev pub is_read : List Node → Node → ℕ → Bool
is_read bs n q = read_by n q || list_any (λ y. read_by y q) bs

-- N2 has a place at quantifier r of n
abbrev pub may_drop_quantifier : QueryGraph → Node → OwnedQuant → Bool
may_drop_quantifier g n r = may_have n && (is_one_row g.boxes r && (not (is_read g.boxes n r.id) && not (any_fed_closed (without_those n (others r.id) g))))

-- the places of N2 at b
unfoldable pub drop_quantifier_pairs : QueryGraph → ℕ → List Pair
drop_quantifier_pairs g b = quant_pairs (may_drop_quantifier g) g b
