-- What the code of G1 asks, step by step.
use Rattle.std.proofs.Common.{ℕ, ◌≡◌, ◌&&◌, ◌||◌, nat_le, not, Bool, true, false, List, [], ◌∷◌, ◌++◌, filter, length, None, refl}
use Rattle.std.specs.List.{list_any}
use Rattle.qgm_terms.specs.Terms.{Cond}
use Rattle.qgm_core.specs.Boxes.{QueryGraph, has_box, numbers, owns}
use Rattle.qgm_core.specs.Free.{free_in}
use Rattle.qgm_core.specs.Kinds.{is_F}
use Rattle.list_laws.specs.Lists.{EachOnce, In, holds}
use Rattle.qgm_core.specs.declared.node.Node.{Node}
use Rattle.qgm_core.specs.declared.owned.OwnedQuant.{OwnedQuant}
use Rattle.qgm_edit_laws.specs.Graph.{reads_in}
use Rattle.qgm_props.specs.Inferred.{Facts}
use Rattle.qgm_wellformed.specs.WellFormed.{fault, is_empty}
use Rattle.rule_api.specs.declared.place.Place.{Place}
use Rattle.rule_facts.specs.Places.{is_plain_select}
use Rattle.rule_merge.specs.MergeSelectSteps.{reads_any}
use Rattle.rule_feed.specs.FeedActs as act
use Rattle.rule_feed.specs.FeedActs.{settled_node, takes}
use Rattle.rule_feed.specs.FeedMay as may
use Rattle.rule_feed.specs.FeedMay.{is_ready, most_boxes}
use Rattle.rule_feed.specs.FeedSteps as steps
use Rattle.rule_feed.specs.Knowing.{facts_in}
use Rattle.rule_feed.specs.Turn.{failing}
use Rattle.rule_feed.specs.declared.feed.split.Parts.{Parts}

-- a plain select, of a graph to which boxes may be added
abbrev pub may_grow : List Node → Node → Bool
may_grow ns n = is_plain_select n && nat_le (length ns) most_boxes

-- an F of which the number is among those that are free
abbrev pub feeds_by : List ℕ → OwnedQuant → Bool
feeds_by free r = is_F r.kind && holds r.id free

-- a marked box reads column k of q
abbrev pub named_among : List ℕ → ℕ → ℕ → List Node → Bool
named_among marks q k ns = list_any (λ y. holds y.id marks && reads_in q k y) ns

abbrev pub column_ready : List ℕ → List Node → Facts → OwnedQuant → ℕ → Bool
column_ready marks ns known q k = not (named_among marks q.id k ns) || known.error_free q.over k

-- each that feeds box c may do so
abbrev pub all_ready : List Node → Facts → ℕ → List ℕ → List OwnedQuant → Bool
all_ready ns known c free [] = true
all_ready ns known c free (q ∷ qs) = (not (feeds_by free q) || is_ready ns known c q) && all_ready ns known c free qs

-- the F of these
abbrev pub fs : List OwnedQuant → List OwnedQuant
fs rs = filter (λ r. is_F r.kind) rs

-- the box under r, in which these are free, may be fed by the quantifiers qs, by what is inferred
abbrev pub told : List Node → List OwnedQuant → OwnedQuant → List ℕ → Bool
told ns qs r free = may.is_single [] (facts_in ns) r.over r && all_ready ns (facts_in ns) r.over free qs

-- and something is free in it
abbrev pub told_if : Bool → Bool → Bool
told_if true passes = false
told_if false passes = passes

abbrev pub may_feed : List Node → List OwnedQuant → OwnedQuant → Bool
may_feed ns qs r = told_if (is_empty (free_in ns r.over)) (told ns qs r (free_in ns r.over))

-- the boxes that read a column of q
abbrev pub readers : ℕ → List Node → List ℕ
readers q ns = numbers (filter (λ n. reads_any q n.parts) ns)

-- each box that does is one of these
abbrev pub AreReaders : List ℕ → ℕ → List Node → Type 0
AreReaders ids q ns = (n : Node) → In n ns → holds n.id ids ≡ false → reads_any q n.parts ≡ false

-- these are the parts of b, over box c
abbrev pub IsParted : List Node → Node → ℕ → Parts → Type 0
IsParted ns b c x =
    let p : steps.Parted = steps.parted ns b c in
    (x.place ≡ p.place) × ((x.feeders.items ≡ p.feeders) × ((x.taken ≡ p.taken) × ((x.head ≡ p.head) × ((x.staying ≡ p.staying) × (x.own ≡ p.own)))))

abbrev pub as_parted : Parts → steps.Parted
as_parted x = record { place = x.place; feeders = x.feeders.items; taken = x.taken; head = x.head; staying = x.staying; own = x.own }

-- a condition doesn't go along
unfoldable pub stays_by : List Node → Facts → List OwnedQuant → Cond → Bool
stays_by ns known ps c = not (takes ns known ps c)

pub stays-is : (ns : List Node) (known : Facts) (ps : List OwnedQuant) (cs : List Cond) → filter (stays_by ns known ps) cs ≡ failing (takes ns known ps) cs
unfolding stays_by
stays-is ns known ps cs = refl

-- b and its quantifier r are those of a place where G1 may fire
abbrev pub IsPlace : Place → QueryGraph → Node → OwnedQuant → Type 0
IsPlace p g b r = (us : List OwnedQuant) × ((vs : List OwnedQuant) × may.MayFeedAt p g b us r vs)

-- where G1 may fire, the edits that settle an S come to its action
abbrev pub SettleComes : Type 0
SettleComes =
    (g : QueryGraph) → EachOnce (numbers g.boxes) → fault g ≡ None → (p : Place) (b : Node) (us : List OwnedQuant) (r : OwnedQuant) (vs : List OwnedQuant) → may.MayFeedAt p g b us r vs
    → (above below : List Node) → g.boxes ≡ above ++ b ∷ below → steps.settle_edits b r g ≡ record g { boxes = above ++ settled_node us r vs b ∷ below }

-- where G1 may fire, with its S settled, the edits of the split come to its action
abbrev pub SplitComes : Type 0
SplitComes =
    (g : QueryGraph) → EachOnce (numbers g.boxes) → fault g ≡ None → (p : Place) (b : Node) (us : List OwnedQuant) (r : OwnedQuant) (vs : List OwnedQuant) → may.MayFeedAt p g b us r vs
    → (above below : List Node) → g.boxes ≡ above ++ b ∷ below → (q s : ℕ) → has_box g.boxes s ≡ false → list_any (owns q) g.boxes ≡ false
    → steps.split_edits (numbers g.boxes) g.boxes (settled_node us r vs b).id (steps.parted g.boxes (settled_node us r vs b) r.over) s q (record g { boxes = above ++ settled_node us r vs b ∷ below })
    ≡ record g { boxes = act.split_up g.boxes (settled_node us r vs b) r.over q s above below }
