-- G1, FEED: where it may fire.
use Rattle.std.specs.Prelude.{ℕ, suc, ◌≡◌, ◌≤◌, ◌&&◌, ◌||◌, ◌++◌, nat_le, not, Bool, true, false, List, ◌∷◌, length, filter, Some}
use Rattle.std.specs.List.{list_all}
use Rattle.qgm_core.specs.Boxes.{QueryGraph, box_of, is_box, width}
use Rattle.qgm_core.specs.Free.{free_in}
use Rattle.qgm_core.specs.Kinds.{is_F, is_S}
use Rattle.list_laws.specs.Lists.{In, first, holds}
use Rattle.qgm_core.specs.declared.kinds.BoxKind.TheVariants.{Select}
use Rattle.qgm_core.specs.declared.kinds.Role.TheVariants.{Plain}
use Rattle.qgm_core.specs.declared.node.Node.{Node}
use Rattle.qgm_core.specs.declared.owned.OwnedQuant.{OwnedQuant}
use Rattle.qgm_wellformed.specs.WellFormed.{is_empty}
use Rattle.qgm_props.specs.Inferred.{Facts, Inferred, clean, error_free, exactly_one}
use Rattle.qgm_props.specs.Under.{all_places, of_box}
use Rattle.rule_api.specs.declared.place.Place.{Place}
use Rattle.rule_api.specs.Rules.{Pair}
use Rattle.rule_facts.specs.Places.{is_plain_select, quant_pairs}
use Rattle.rule_feed.specs.Feed.{named_below}
use Rattle.rule_feed.specs.Knowing.{facts_in}

-- P, those that feed box c: the F quantifiers that it names, itself or in a box below it
abbrev pub feeds : List Node → ℕ → OwnedQuant → Bool
feeds bs c r = is_F r.kind && holds r.id (free_in bs c)

abbrev pub feeders : List Node → ℕ → List OwnedQuant → List OwnedQuant
feeders bs c rs = filter (feeds bs c) rs

-- how many columns box b has
abbrev pub width_of : List Node → ℕ → ℕ
width_of bs b = of_box 0 width (first (is_box b) bs)

-- new boxes may be added
abbrev pub most_boxes : ℕ
most_boxes = 65530

-- ---- the condition

-- b, a closed plain select, has quantifier r between us and vs, over an open box; where r is S its box is clean and has exactly one row
-- the boxes of those that feed it are closed and clean, and their columns that are named there or below are error-free
pub record MayFeedAt (p : Place) (g : QueryGraph) (b : Node) (us : List OwnedQuant) (r : OwnedQuant) (vs : List OwnedQuant) : Type 0 where
  pub no_second : p.j ≡ 0
  pub at : box_of p.at g ≡ Some b
  pub nth : p.i ≡ suc (length us)
  pub select : b.parts.kind ≡ Select
  pub plain : b.parts.role ≡ Plain
  pub split : b.quants ≡ us ++ r ∷ vs
  pub few : length g.boxes ≤ most_boxes
  pub closed : is_empty (free_in g.boxes b.id) ≡ true
  pub opened : is_empty (free_in g.boxes r.over) ≡ false
  pub scalar : is_S r.kind ≡ true → Inferred g.boxes (clean r.over) × Inferred g.boxes (exactly_one r.over)
  pub fed : (q : OwnedQuant) → In q (feeders g.boxes r.over b.quants) → (is_empty (free_in g.boxes q.over) ≡ true) × Inferred g.boxes (clean q.over)
  pub named : (q : OwnedQuant) → In q (feeders g.boxes r.over b.quants) → (k : ℕ) → named_below g.boxes r.over q.id k ≡ true → Inferred g.boxes (error_free q.over k)

unfoldable pub MayFeed : Place → QueryGraph → Type 0
MayFeed p g = (b : Node) × ((us : List OwnedQuant) × ((r : OwnedQuant) × ((vs : List OwnedQuant) × MayFeedAt p g b us r vs)))

-- ---- the places

module _ (bs : List Node) (known : Facts) (c : ℕ) where
  abbrev pub is_column_ready : OwnedQuant → ℕ → Bool
  is_column_ready q k = not (named_below bs c q.id k) || known.error_free q.over k

  -- one that feeds c may do so
  abbrev pub is_ready : OwnedQuant → Bool
  is_ready q = is_empty (free_in bs q.over) && (known.clean q.over && all_places (width_of bs q.over) (is_column_ready q))

  -- what is asked of an S over c
  abbrev pub is_single : OwnedQuant → Bool
  is_single r = not (is_S r.kind) || (known.clean c && known.exactly_one c)

-- a plain closed select
abbrev pub may_own : List Node → Node → Bool
may_own bs n = is_plain_select n && (nat_le (length bs) most_boxes && is_empty (free_in bs n.id))

-- G1 may feed the open box under r
abbrev pub may_feed : List Node → Facts → Node → OwnedQuant → Bool
may_feed bs known n r = not (is_empty (free_in bs r.over)) && (is_single bs known r.over r && list_all (is_ready bs known r.over) (feeders bs r.over n.quants))

abbrev pub may_fire : List Node → Node → OwnedQuant → Bool
may_fire bs n r = may_own bs n && may_feed bs (facts_in bs) n r

-- the places of G1 at b
unfoldable pub feed_pairs : QueryGraph → ℕ → List Pair
feed_pairs g b = quant_pairs (may_fire g.boxes) g b
