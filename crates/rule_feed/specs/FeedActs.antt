-- G1, FEED: its action.
use Rattle.std.specs.Prelude.{ℕ, ◌≡◌, ◌==◌, ◌&&◌, ◌++◌, if◌then◌else◌, not, Bool, false, List, [], ◌∷◌, filter, map, Some}
use Rattle.std.specs.List.{list_all, list_any}
use Rattle.qgm_terms.specs.Named.{columns_in_cond}
use Rattle.qgm_terms.specs.Terms.{Cond}
use Rattle.qgm_terms.specs.Wanted.{node_free_cond}
use Rattle.qgm_terms.specs.declared.named.Column.{Column}
use Rattle.qgm_core.specs.Boxes.{QueryGraph, box_of, has_box, is_quant, owns}
use Rattle.qgm_core.specs.Edits.{compact, on_boxes, range}
use Rattle.qgm_core.specs.Kinds.{is_S}
use Rattle.qgm_core.specs.declared.kinds.QuantKind.TheVariants.{F}
use Rattle.qgm_core.specs.declared.node.Node.{Node}
use Rattle.qgm_core.specs.declared.owned.OwnedQuant.{OwnedQuant}
use Rattle.qgm_meaning.specs.Rules.{as_F}
use Rattle.qgm_wellformed.specs.Shapes.{is_none}
use Rattle.qgm_props.specs.Inferred.{Facts, cond_free}
use Rattle.rule_api.specs.declared.place.Place.{Place}
use Rattle.rule_feed.specs.Feed.{Numbers, fed_boxes}
use Rattle.rule_feed.specs.FeedMay.{MayFeedAt, feeders, feeds, width_of}
use Rattle.rule_feed.specs.Knowing.{facts_in}
use Rattle.rule_feed.specs.Split.{sizes_of, split_box, split_boxes, split_node}
use Rattle.rule_feed.specs.Turn.{before_first, failing, from_first}
use Rattle.rule_subquery.specs.ScalarToJoin.{column_box}

-- an S becomes an F behind all others, and its scalars are its first column
abbrev pub settled_node : List OwnedQuant → OwnedQuant → List OwnedQuant → Node → Node
settled_node us r vs n = if is_S r.kind then column_box us r vs n else n

abbrev pub settled_quant : OwnedQuant → OwnedQuant
settled_quant r = if is_S r.kind then as_F r.id r.over else r

-- those that feed go along with the conditions that hold no node, are error-free, and name columns of theirs and nothing else
abbrev pub takes : List Node → Facts → List OwnedQuant → Cond → Bool
takes bs known ps c =
    node_free_cond c && (not (is_none (columns_in_cond c)) && (list_all (λ (x : Column). list_any (is_quant x.quant) ps) (columns_in_cond c) && cond_free bs known false c))

-- of the boxes bs, b with its S settled, c the box that is fed, q and s new
module _ (bs : List Node) (b : Node) (c : ℕ) (q s : ℕ) where
  abbrev pub feeding : List OwnedQuant
  feeding = feeders bs c b.quants

  abbrev pub sizes : List (ℕ × ℕ)
  sizes = sizes_of (λ p. width_of bs p.over) feeding

  abbrev pub goes : Cond → Bool
  goes = takes bs (facts_in bs) feeding

  abbrev pub taken : List Cond
  taken = filter goes b.parts.conds.items

  abbrev pub staying : List Cond
  staying = failing goes b.parts.conds.items

  abbrev pub before : List OwnedQuant
  before = before_first (feeds bs c) b.quants

  abbrev pub behind : List OwnedQuant
  behind = failing (feeds bs c) (from_first (feeds bs c) b.quants)

  -- the new select, and what becomes of another box
  abbrev pub new_select : Node
  new_select = split_box s sizes feeding taken

  abbrev pub after_split : Node → Node
  after_split = split_node sizes b.id q before (range q F s ∷ behind) staying

  -- above and below b stand these
  module _ (above below : List Node) where
    abbrev pub split_up : List Node
    split_up = split_boxes (above ++ b ∷ []) below sizes b.id q s before feeding behind staying taken

    -- and then i, over box n, is fed
    abbrev pub fed_up : Node → OwnedQuant → Numbers → List Node
    fed_up n i x = fed_boxes (map after_split (above ++ b ∷ [])) (new_select ∷ map after_split below) (after_split b) new_select (after_split n) (range q F s) i x

-- an S is settled; those that feed go into a select of their own, under a new quantifier; then the box under r is fed; boxes that the root doesn't reach are gone
pub record FeedsAt (p : Place) (g h : QueryGraph) (b : Node) (us : List OwnedQuant) (r : OwnedQuant) (vs : List OwnedQuant) : Type 0 where
  pub may : MayFeedAt p g b us r vs
  pub above : List Node
  pub below : List Node
  pub stands : g.boxes ≡ above ++ b ∷ below
  pub c : Node
  pub under : box_of r.over g ≡ Some c
  -- new numbers: the select and the quantifier over it, the fed box, the magic box, and their quantifiers
  pub q : ℕ
  pub s : ℕ
  pub x : Numbers
  pub new_q : list_any (owns q) g.boxes ≡ false
  pub new_s : has_box g.boxes s ≡ false
  pub new_d : has_box (split_up g.boxes (settled_node us r vs b) r.over q s above below) x.d ≡ false
  pub new_m : has_box (split_up g.boxes (settled_node us r vs b) r.over q s above below) x.m ≡ false
  pub apart : (x.m == x.d) ≡ false
  pub new_dm : list_any (owns x.dm) (split_up g.boxes (settled_node us r vs b) r.over q s above below) ≡ false
  pub new_dc : list_any (owns x.dc) (split_up g.boxes (settled_node us r vs b) r.over q s above below) ≡ false
  pub new_mq : list_any (owns x.mq) (split_up g.boxes (settled_node us r vs b) r.over q s above below) ≡ false
  pub apart_dc : (x.dc == x.dm) ≡ false
  pub apart_mq : (x.mq == x.dm) ≡ false
  pub apart_both : (x.mq == x.dc) ≡ false
  pub after : h ≡ compact (on_boxes (λ bs. fed_up g.boxes (settled_node us r vs b) r.over q s above below c (settled_quant r) x) g)

unfoldable pub Feeds : Place → QueryGraph → QueryGraph → Type 0
Feeds p g h = (b : Node) × ((us : List OwnedQuant) × ((r : OwnedQuant) × ((vs : List OwnedQuant) × FeedsAt p g h b us r vs)))
