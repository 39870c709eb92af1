-- What feeding and splitting do to the parts of the measure.
use Rattle.std.specs.Prelude.{ℕ, ◌≡◌, ◌++◌, suc, List}
use Rattle.qgm_terms.specs.Terms.{Cond}
use Rattle.qgm_core.specs.declared.node.Node.{Node}
use Rattle.qgm_core.specs.declared.owned.OwnedQuant.{OwnedQuant}
use Rattle.qgm_props.specs.Measure.{Lowers, fed_in, loose_scalars_in, open_in}
use Rattle.qgm_edit_laws.specs.Graph.{Sound}
use Rattle.rule_feed.specs.Feed.{Numbers, fed_boxes}
use Rattle.rule_feed.specs.FeedLaws.{FeedsOne}
use Rattle.rule_feed.specs.Split.{MaySplitSound, sizes_of, split_boxes}

-- feeding opens no box and closes none, and there is one more fed box
abbrev pub FeedMeasured : Type 0
FeedMeasured =
    (xs ys : List Node) (root : ℕ) → Sound (xs ++ ys) root → (b s c : Node) (p i : OwnedQuant) (x : Numbers) → FeedsOne xs ys root b s c p i x
    → (open_in (fed_boxes xs ys b s c p i x) ≡ open_in (xs ++ ys)) × ((fed_in (fed_boxes xs ys b s c p i x) ≡ suc (fed_in (xs ++ ys))) × (loose_scalars_in (fed_boxes xs ys b s c p i x) ≡ loose_scalars_in (xs ++ ys)))

-- so the measure falls
abbrev pub FeedingLowers : Type 0
FeedingLowers =
    (xs ys : List Node) (root : ℕ) → Sound (xs ++ ys) root → (b s c : Node) (p i : OwnedQuant) (x : Numbers) → FeedsOne xs ys root b s c p i x → Lowers (xs ++ ys) (fed_boxes xs ys b s c p i x)

-- a split opens no box and closes none, and makes no fed box
abbrev pub SplitMeasured : Type 0
SplitMeasured =
    (xs ys : List Node) (root : ℕ) (b : Node) (wide : OwnedQuant → ℕ) (q s : ℕ) (us ps vs : List OwnedQuant) (rest taken : List Cond) → Sound (xs ++ ys) root → MaySplitSound xs ys b wide q s us ps vs rest taken
    → (open_in (split_boxes xs ys (sizes_of wide ps) b.id q s us ps vs rest taken) ≡ open_in (xs ++ ys)) × ((fed_in (split_boxes xs ys (sizes_of wide ps) b.id q s us ps vs rest taken) ≡ fed_in (xs ++ ys)) × (loose_scalars_in (split_boxes xs ys (sizes_of wide ps) b.id q s us ps vs rest taken) ≡ loose_scalars_in (xs ++ ys)))
