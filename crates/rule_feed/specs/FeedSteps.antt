-- The edits of G1's action.
use Rattle.std.specs.Prelude.{ℕ, suc, ◌+◌, if◌then◌else◌, List, [], ◌∷◌, Some, length, map, filter}
use Rattle.qgm_terms.specs.Conjuncts.{Conjuncts}
use Rattle.qgm_terms.specs.Terms.{Cond, Term}
use Rattle.qgm_core.specs.Boxes.{QueryGraph, bare_box, quants_of}
use Rattle.qgm_core.specs.Edits.{drop_quant, move_quant, on_boxes, put_cells, put_quant, put_terms, range, substitute, with_box, with_quant}
use Rattle.qgm_core.specs.Kinds.{is_S}
use Rattle.list_laws.specs.Lists.{holds}
use Rattle.qgm_core.specs.declared.kinds.BoxKind.TheVariants.{Select}
use Rattle.qgm_core.specs.declared.kinds.Distinct.{Distinct}
use Rattle.qgm_core.specs.declared.kinds.Distinct.TheVariants.{Preserve}
use Rattle.qgm_core.specs.declared.kinds.QuantKind.TheVariants.{F}
use Rattle.qgm_core.specs.declared.kinds.Role.{Role}
use Rattle.qgm_core.specs.declared.kinds.Role.TheVariants.{Plain}
use Rattle.qgm_core.specs.declared.node.Node.{Node}
use Rattle.qgm_core.specs.declared.owned.OwnedQuant.{OwnedQuant}
use Rattle.qgm_core.specs.declared.parts.BoxParts.{BoxParts}
use Rattle.qgm_meaning.specs.Searches.{as_column, as_column_cond}
use Rattle.qgm_meaning.specs.Tags.{columns_from}
use Rattle.rule_feed.specs.FeedActs.{takes}
use Rattle.rule_feed.specs.FeedMay.{feeders, feeds, width_of}
use Rattle.rule_feed.specs.Knowing.{facts_in}
use Rattle.rule_feed.specs.Turn.{before_first, failing}
use Rattle.rule_feed.specs.Split.{heads, sizes_of}

-- a select with these
abbrev pub select_parts : Distinct → Role → List Cond → List Term → BoxParts
select_parts distinct role conds head = record { kind = Select; distinct = distinct; role = role; conds = record { items = conds; spare = 0 }; head = head }

-- each of these quantifiers goes to the end of box s
abbrev pub moved_all : ℕ → List OwnedQuant → QueryGraph → QueryGraph
moved_all s [] g = g
moved_all s (r ∷ rs) g = moved_all s rs (move_quant r.id s (length (quants_of s (drop_quant r.id g))) g)

-- cells for columns of q, in the boxes of these numbers
abbrev pub put_in : List ℕ → ℕ → List Term → Node → Node
put_in ids q cells y = if holds y.id ids then put_cells q cells y else y

abbrev pub put_in_all : List ℕ → ℕ → List Term → QueryGraph → QueryGraph
put_in_all ids q cells g = on_boxes (map (put_in ids q cells)) g

-- the same, one after the other
abbrev pub put_each : List ℕ → ℕ → List Term → QueryGraph → QueryGraph
put_each [] q cells g = g
put_each (b ∷ ids) q cells g = put_each ids q cells (substitute b q cells g)

-- columns of these, with their widths, become columns of q, from one after start on
abbrev pub renamed_all : List ℕ → ℕ → ℕ → List (ℕ × ℕ) → QueryGraph → QueryGraph
renamed_all ids q start [] g = g
renamed_all ids q start (w ∷ ws) g = renamed_all ids q (start + w.1) ws (put_each ids w.0 (columns_from q (suc start) w.1) g)

-- these quantifiers with the widths of their boxes
abbrev pub sizes_in : List Node → List OwnedQuant → List (ℕ × ℕ)
sizes_in ns rs = sizes_of (λ r. width_of ns r.over) rs

-- ---- an S that is settled

-- an S of b goes behind the others and is an F, and its scalars are its first column
abbrev pub settle_edits : Node → OwnedQuant → QueryGraph → QueryGraph
settle_edits b r g =
    if is_S r.kind
    then put_terms b.id (record b.parts.conds { items = map (as_column_cond r.id) b.parts.conds.items }) (map (as_column r.id) b.parts.head) (put_quant r.id F (move_quant r.id b.id (length (quants_of b.id (drop_quant r.id g))) g))
    else g

-- ---- the split

-- what is made of b: the place of the new quantifier, those that feed, and the terms of both selects
pub record Parted : Type 0 where
  pub place : ℕ
  pub feeders : List OwnedQuant
  pub taken : Conjuncts
  pub head : List Term
  pub staying : Conjuncts
  pub own : List Term

-- box s under quantifier q of b takes those that feed, and in the boxes of these numbers their columns become columns of q
abbrev pub split_edits : List ℕ → List Node → ℕ → Parted → ℕ → ℕ → QueryGraph → QueryGraph
split_edits ids ns b x s q g =
    renamed_all ids q 0 (sizes_in ns x.feeders)
    (moved_all s x.feeders
    (put_terms b x.staying x.own
    (with_quant b x.place (range q F s)
    (with_box (Some b) (bare_box s (record (select_parts Preserve Plain [] x.head) { conds = x.taken })) g))))

-- of the boxes ns, b with its S settled, over box c
abbrev pub parted : List Node → Node → ℕ → Parted
parted ns b c = record {
  place = length (before_first (feeds ns c) b.quants);
  feeders = feeders ns c b.quants;
  taken = record { items = filter (takes ns (facts_in ns) (feeders ns c b.quants)) b.parts.conds.items; spare = 0 };
  head = heads (sizes_in ns (feeders ns c b.quants));
  staying = record b.parts.conds { items = failing (takes ns (facts_in ns) (feeders ns c b.quants)) b.parts.conds.items };
  own = b.parts.head;
}
