-- N1: a column that nothing names goes, and with it the quantifiers of its box that nothing names then: its condition, its action and its places.
use Rattle.std.specs.Prelude.{ℕ, zero, suc, ◌+◌, ◌≡◌, ◌&&◌, ◌==◌, ◌<◌, ◌≤◌, ◌⊎◌, ◌||◌, nat_le, nat_lt, not, Bool, true, false, List, [], ◌∷◌, length, Option, None, Some}
use Rattle.std.specs.List.{list_any}
use Rattle.qgm_core.specs.Boxes.{QueryGraph, box_of, is_quant}
use Rattle.qgm_core.specs.Edits.{drop_column, head_in}
use Rattle.qgm_core.specs.Kinds.{is_F, is_enforce, is_plain}
use Rattle.list_laws.specs.Lists.{holds}
use Rattle.qgm_core.specs.declared.kinds.BoxKind.{BoxKind}
use Rattle.qgm_core.specs.declared.kinds.BoxKind.TheVariants.{Base, Group, OuterJoin, Select, SetOp}
use Rattle.qgm_core.specs.declared.kinds.Distinct.{Distinct}
use Rattle.qgm_core.specs.declared.kinds.Role.TheVariants.{Plain}
use Rattle.qgm_core.specs.declared.node.Node.{Node}
use Rattle.qgm_edit_laws.specs.Changes.{LosesColumn}
use Rattle.qgm_edit_laws.specs.DropQuants.{without_those}
use Rattle.qgm_edit_laws.specs.FormedColumn.{Unasked}
use Rattle.qgm_edit_laws.specs.Graph.{nodes_in}
use Rattle.qgm_edit_laws.specs.FedOpen.{FedOpen}
use Rattle.rule_api.specs.Picks.{picks}
use Rattle.rule_api.specs.Rules.{Pair}
use Rattle.rule_api.specs.declared.place.Place.{Place}
use Rattle.rule_facts.specs.FedClosed.{any_fed_closed}
use Rattle.rule_prune.specs.NamedColumns.{is_operand, named_of}

-- q is an F quantifier of b, or a node of it stands in b
abbrev pub stays : Node → ℕ → Bool
stays b q = list_any (λ r. is_F r.kind && is_quant q r) b.quants || nodes_in q b

-- a select that isn't ENFORCE, an outer join, or a group of whose cells the k-th is an aggregate
abbrev pub MayLoseCell : Node → ℕ → Type 0
MayLoseCell b k = ((b.parts.kind ≡ Select) × (is_enforce b.parts.distinct ≡ false)) ⊎ ((b.parts.kind ≡ OuterJoin) ⊎ ((n : ℕ) × ((b.parts.kind ≡ Group n) × (n < k))))

-- column k of b, which isn't the root and has two columns or more, may go, and b' is left of b: no cell or condition names the column, a scalar naming column 1, and no set operation ranges over b (nor does a fed box, which names all columns); no fed box is left over a closed box, where the column has gone and where the quantifiers have too
pub record IsUnnamedColumn (g : QueryGraph) (b : Node) (k : ℕ) (b' : Node) : Type 0 where
  pub not_root : (g.root == b.id) ≡ false
  pub plain : b.parts.role ≡ Plain
  pub two : 2 ≤ length b.parts.head
  pub kind : MayLoseCell b k
  pub loses : LosesColumn g.boxes b k
  pub unasked : Unasked g.boxes b.id k
  pub after : box_of b.id (drop_column b.id k g) ≡ Some b'
  pub middle : FedOpen (drop_column b.id k g).boxes
  pub last : FedOpen (without_those b' (stays b') (drop_column b.id k g)).boxes

-- where N1 may fire
pub record MayDropColumn (at : Place) (g : QueryGraph) : Type 0 where
  pub b : Node
  pub left : Node
  pub no_second : at.j ≡ 0
  pub found : box_of at.at g ≡ Some b
  pub unnamed : IsUnnamedColumn g b at.i left

-- the column has gone, then the quantifiers of its box that aren't F and of which no node stands in it, and then the boxes that the root doesn't reach; all else is as in g
pub record DropsColumn (at : Place) (g h : QueryGraph) : Type 0 where
  pub may : MayDropColumn at g
  pub after : h ≡ without_those may.left (stays may.left) (drop_column may.b.id at.i g)

-- ---- the places

-- cell k of a box of this kind may go
abbrev pub may_lose_cell : BoxKind → Distinct → ℕ → Bool
may_lose_cell (Base table) d k = false
may_lose_cell Select d k = not (is_enforce d)
may_lose_cell (Group keys) d k = nat_lt keys k
may_lose_cell (SetOp operator types) d k = false
may_lose_cell OuterJoin d k = true

abbrev pub may_lose : Node → ℕ → Bool
may_lose n k = may_lose_cell n.parts.kind n.parts.distinct k

-- a plain box, not the root, of two columns or more, of which the last may go at least, and over which no set operation ranges
abbrev pub may_have : QueryGraph → Node → Bool
may_have g n = not (g.root == n.id) && (is_plain n.parts.role && (nat_le 2 (length n.parts.head) && (may_lose n (length n.parts.head) && not (is_operand n.id g.boxes))))

-- the columns that may go are all named
abbrev pub AllNamed : List Node → Node → Type 0
AllNamed boxes n = (k : ℕ) → 1 ≤ k → k ≤ length n.parts.head → may_lose n k ≡ true → holds k (named_of n.id boxes) ≡ true

-- no fed box ranges over a closed one, neither in h nor where the quantifiers of the box that is found have gone
abbrev pub stay_open : QueryGraph → Option Node → Bool
stay_open h None = false
stay_open h (Some n) = not (any_fed_closed h) && not (any_fed_closed (without_those n (stays n) h))

-- so it is where column k of b has gone
abbrev pub leaves_open : QueryGraph → ℕ → ℕ → Bool
leaves_open g b k = stay_open (drop_column b k g) (box_of b (drop_column b k g))

-- N1 has a place at column k of n
abbrev pub may_drop_column : QueryGraph → Node → ℕ → Bool
may_drop_column g n k = may_have g n && (may_lose n k && (not (holds k (named_of n.id g.boxes)) && leaves_open g n.id k))

-- so many columns, from k on
abbrev pub columns_from : ℕ → ℕ → List ℕ
columns_from k zero = []
columns_from k (suc n) = k ∷ columns_from (k + 1) n

-- a test of a column of the box that is found
abbrev pub in_column : (Node → ℕ → Bool) → Option Node → ℕ → Bool
in_column t None k = false
in_column t (Some n) k = t n k

-- the places of N1 at b
unfoldable pub drop_column_pairs : QueryGraph → ℕ → List Pair
drop_column_pairs g b = picks (in_column (may_drop_column g) (box_of b g)) 1 (columns_from 1 (length (head_in (box_of b g))))
