-- The edits that settle an S come to G1's action.
use Rattle.std.proofs.Common.{◌≡◌, cond, true, false, List, ◌∷◌, ◌++◌, length, map, None, refl, ap, subst, ◌∙◌}
use Rattle.qgm_terms.specs.Conjuncts.{Conjuncts}
use Rattle.qgm_terms.specs.Terms.{Term}
use Rattle.qgm_core.specs.Boxes.{Ordered, QueryGraph, is_box, numbers, quants_of}
use Rattle.qgm_core.specs.Edits.{drop_quant, move_quant, put_quant, put_terms}
use Rattle.qgm_core.specs.Kinds.{is_S}
use Rattle.list_laws.specs.Lists.{EachOnce, change}
use Rattle.qgm_core.specs.declared.kinds.QuantKind.TheVariants.{F}
use Rattle.qgm_core.specs.declared.node.Node.{Node}
use Rattle.qgm_core.specs.declared.owned.OwnedQuant.{OwnedQuant}
use Rattle.qgm_meaning.specs.Searches.{as_column, as_column_cond}
use Rattle.qgm_wellformed.specs.WellFormed.{fault}
use Rattle.qgm_edit_laws.specs.Graph.{Sound}
use Rattle.qgm_edit_laws.proofs.CheckedParts.{sound}
use Rattle.rule_api.specs.declared.place.Place.{Place}
use Rattle.rule_facts.proofs.FactsThere.{here-at}
use Rattle.rule_feed.specs.FeedCode.{SettleComes}
use Rattle.rule_feed.specs.FeedMay.{MayFeedAt}
use Rattle.rule_feed.proofs.FeedSettled.{once-above}
use Rattle.rule_feed.proofs.SplitEdits.{change-here}
use Rattle.rule_subquery.specs.ScalarToJoin.{column_box}
use Rattle.rule_subquery.proofs.LastAsF.{places-left}
use Rattle.rule_subquery.proofs.ScalarToJoinEdits.{scalar-to-join-edits}
use Rattle.list_laws.proofs.Membership.{eq-itself}

module _ (g : QueryGraph) (u : EachOnce (numbers g.boxes)) (f : fault g ≡ None) (p : Place) (b : Node) (us : List OwnedQuant) (r : OwnedQuant) (vs : List OwnedQuant) (m : MayFeedAt p g b us r vs)
    (above below : List Node) (stands : g.boxes ≡ above ++ b ∷ below) where
  abbrev conds : Conjuncts
  conds = record b.parts.conds { items = map (as_column_cond r.id) b.parts.conds.items }

  abbrev head : List Term
  head = map (as_column r.id) b.parts.head

  w : Sound g.boxes g.root
  w = sound g u f

  abbrev edits : QueryGraph
  edits = put_terms b.id conds head (put_quant r.id F (move_quant r.id b.id (length (quants_of b.id (drop_quant r.id g))) g))

  of-an-S : edits ≡ record g { boxes = above ++ column_box us r vs b ∷ below }
  of-an-S =
      ap (λ n. put_terms b.id conds head (put_quant r.id F (move_quant r.id b.id n g))) (places-left g w b (here-at g u f b p.at m.at) us r vs m.split)
      ∙ scalar-to-join-edits g w b (here-at g u f b p.at m.at) us r vs m.split conds head (column_box us r vs) refl
      ∙ ap (λ (z : List Node). record g { boxes = z }) (
      ap (change (is_box b.id) (column_box us r vs)) stands
      ∙ change-here (is_box b.id) (column_box us r vs) above b below (once-above above b below (subst Ordered stands w.ordered)).0 (eq-itself b.id))

  settles : cond (is_S r.kind) edits g ≡ record g { boxes = above ++ cond (is_S r.kind) (column_box us r vs b) b ∷ below }
  settles = elim (is_S r.kind) as (λ c. cond c edits g ≡ record g { boxes = above ++ cond c (column_box us r vs b) b ∷ below }) [
    | true ↦ of-an-S
    | false ↦ ap (λ (z : List Node). record g { boxes = z }) stands
  ]

pub settle-comes : SettleComes
settle-comes = λ g u f p b us r vs m above below stands. settles g u f p b us r vs m above below stands
