-- The edits of G1's last step: the box under a quantifier is fed.
use Rattle.std.specs.Prelude.{ℕ, suc, ◌≡◌, ◌==◌, ◌++◌, ◌&&◌, if◌then◌else◌, not, Bool, false, List, [], ◌∷◌, Option, None, Some, filter, map}
use Rattle.std.specs.List.{list_any}
use Rattle.qgm_terms.specs.Conjuncts.{Conjuncts}
use Rattle.qgm_terms.specs.Terms.{Cond, Term}
use Rattle.qgm_core.specs.Boxes.{QueryGraph, bare_box, box_of, has_box, numbers, owns}
use Rattle.qgm_core.specs.Edits.{conds_in, head_in, put_terms, range, redirect, set_distinct, spare_in, with_box, with_quant}
use Rattle.qgm_core.specs.Kinds.{is_F}
use Rattle.list_laws.specs.Lists.{EachOnce}
use Rattle.qgm_core.specs.declared.kinds.Distinct.{Distinct}
use Rattle.qgm_core.specs.declared.kinds.Distinct.TheVariants.{Enforce, Preserve}
use Rattle.qgm_core.specs.declared.kinds.QuantKind.TheVariants.{F}
use Rattle.qgm_core.specs.declared.kinds.Role.TheVariants.{Fed, Magic}
use Rattle.qgm_core.specs.declared.node.Node.{Node}
use Rattle.qgm_core.specs.declared.owned.OwnedQuant.{OwnedQuant}
use Rattle.qgm_meaning.specs.Tags.{columns_from}
use Rattle.qgm_wellformed.specs.WellFormed.{fault}
use Rattle.rule_api.specs.declared.place.Place.{Place}
use Rattle.rule_feed.specs.Feed.{Numbers, all_of, fed_cond, fed_term, how_many, inside, joins, named_below, picked, put_cells, unpermitted}
use Rattle.rule_feed.specs.FeedActs as act
use Rattle.rule_feed.specs.FeedActs.{settled_node, settled_quant}
use Rattle.rule_feed.specs.FeedMay.{MayFeedAt, width_of}
use Rattle.rule_feed.specs.FeedSteps.{put_each, select_parts}
use Rattle.rule_feed.specs.declared.feed.fill.Filled.{Filled}

-- what is new, as the action says it
abbrev pub as_numbers : Filled → Numbers
as_numbers x = record { d = x.d; m = x.m; dm = x.dm; dc = x.dc; mq = x.mq }

-- these numbers are new in the graph, and no two are the same
pub record AreNew (g : QueryGraph) (x : Numbers) : Type 0 where
  pub new_d : has_box g.boxes x.d ≡ false
  pub new_m : has_box g.boxes x.m ≡ false
  pub apart : (x.m == x.d) ≡ false
  pub new_dm : list_any (owns x.dm) g.boxes ≡ false
  pub new_dc : list_any (owns x.dc) g.boxes ≡ false
  pub new_mq : list_any (owns x.mq) g.boxes ≡ false
  pub apart_dc : (x.dc == x.dm) ≡ false
  pub apart_mq : (x.mq == x.dm) ≡ false
  pub apart_both : (x.mq == x.dc) ≡ false

-- no condition
abbrev pub no_conds : Conjuncts
no_conds = record { items = []; spare = 0 }

-- the magic box m just below b, with these cells, over s
abbrev pub with_magic : ℕ → ℕ → ℕ → ℕ → List Term → QueryGraph → QueryGraph
with_magic b s m mq cells g = put_terms m no_conds cells (with_quant m 0 (range mq F s) (with_box (Some b) (bare_box m (select_parts Enforce Magic [] [])) g))

-- the fed box just below b, with these cells, over the magic box and c
abbrev pub with_fed : ℕ → ℕ → Numbers → List Term → QueryGraph → QueryGraph
with_fed b c x cells g = put_terms x.d no_conds cells (with_quant x.d 0 (range x.dm F x.m) (with_quant x.d 0 (range x.dc F c) (with_box (Some b) (bare_box x.d (select_parts Preserve Fed [] [])) g)))

abbrev pub distinct_in : Option Node → Distinct
distinct_in None = Preserve
distinct_in (Some n) = n.parts.distinct

-- of the boxes of a graph those that c reaches, and those that it doesn't, but b
abbrev pub reached_ids : List Node → ℕ → List ℕ
reached_ids ns c = filter (inside ns c) (numbers ns)

abbrev pub is_beside : List Node → ℕ → ℕ → ℕ → Bool
is_beside ns c b z = not (z == b) && not (inside ns c z)

abbrev pub beside_ids : List Node → ℕ → ℕ → List ℕ
beside_ids ns c b = filter (is_beside ns c b) (numbers ns)

-- cells over the fed box under i, which has so many more columns, and these conditions as its join
abbrev pub fed_cells : OwnedQuant → ℕ → List Cond → List Term → List Term
fed_cells i many joined cells = map (fed_term i.id many (all_of joined)) cells

-- conditions; those of the join are more where i is F
abbrev pub fed_conjuncts : OwnedQuant → ℕ → List Cond → Conjuncts → Conjuncts
fed_conjuncts i many joined conds = record conds { items = map (fed_cond i.id many (all_of joined)) conds.items ++ (if is_F i.kind then joined else []) }

-- in graph g the box under quantifier i of b, which names columns of q over s alone
module _ (g : QueryGraph) (b s q : ℕ) (i : OwnedQuant) where
  abbrev pub named : ℕ → Bool
  named = named_below g.boxes i.over q

  -- how many columns q and i have, and how many of q's are named
  abbrev pub wide : ℕ
  wide = width_of g.boxes s

  abbrev pub deep : ℕ
  deep = width_of g.boxes i.over

  abbrev pub many : ℕ
  many = how_many named 1 wide

  abbrev pub joined : List Cond
  joined = joins named q i.id 1 1 wide

  -- b's own cells and conditions
  abbrev pub own_head : List Term
  own_head = fed_cells i many joined (head_in (box_of b g))

  abbrev pub own_conds : Conjuncts
  own_conds = fed_conjuncts i many joined (record { items = conds_in (box_of b g); spare = spare_in (box_of b g) })

  -- the two new boxes
  abbrev pub boxes_put : Numbers → QueryGraph
  boxes_put x = with_fed b i.over x (columns_from x.dm 1 many ++ columns_from x.dc 1 deep) (with_magic b s x.m x.mq (picked named x.mq 1 wide) g)

  -- names in the other boxes
  abbrev pub names_put : Numbers → QueryGraph
  names_put x = put_each (beside_ids g.boxes i.over b) i.id (columns_from i.id (suc many) deep) (put_each (reached_ids g.boxes i.over) q (put_cells named x.dm 1 1 wide) (boxes_put x))

  -- the box is fed
  abbrev pub fill_edits : Numbers → QueryGraph
  fill_edits x = redirect i.id x.d (put_terms b own_conds own_head (set_distinct i.over (unpermitted (distinct_in (box_of i.over g))) (names_put x)))

-- where G1 may fire, with its S settled and those that feed in a select of their own, these edits come to its action
abbrev pub FillComes : Type 0
FillComes =
    (g : QueryGraph) → EachOnce (numbers g.boxes) → fault g ≡ None → (p : Place) (b : Node) (us : List OwnedQuant) (r : OwnedQuant) (vs : List OwnedQuant) → MayFeedAt p g b us r vs
    → (above below : List Node) → g.boxes ≡ above ++ b ∷ below → (c : Node) → box_of r.over g ≡ Some c → (q s : ℕ) → has_box g.boxes s ≡ false → list_any (owns q) g.boxes ≡ false
    → (x : Numbers) → AreNew (record g { boxes = act.split_up g.boxes (settled_node us r vs b) r.over q s above below }) x
    → fill_edits (record g { boxes = act.split_up g.boxes (settled_node us r vs b) r.over q s above below }) (settled_node us r vs b).id s q (settled_quant r) x
    ≡ record g { boxes = act.fed_up g.boxes (settled_node us r vs b) r.over q s above below c (settled_quant r) x }
