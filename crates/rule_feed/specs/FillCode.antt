-- What the code of G1's last step reads of a graph.
use Rattle.std.specs.Prelude.{ℕ, ◌≡◌}
use Rattle.qgm_core.specs.Boxes.{QueryGraph, box_of}
use Rattle.qgm_core.specs.declared.owned.OwnedQuant.{OwnedQuant}
use Rattle.rule_feed.specs.Feed.{unpermitted}
use Rattle.rule_feed.specs.FillSteps.{beside_ids, deep, distinct_in, named, reached_ids, wide}
use Rattle.rule_feed.specs.NamedColumns.{count, flags}
use Rattle.rule_feed.specs.declared.feed.fill.Gathered.{Gathered}

-- it is what is needed to feed the box under i
abbrev pub IsGathered : QueryGraph → ℕ → ℕ → ℕ → OwnedQuant → Gathered → Type 0
IsGathered g b s q i x =
    (x.flags.items ≡ flags (named g b s q i) 1 (wide g b s q i)) × ((x.many ≡ count (flags (named g b s q i) 1 (wide g b s q i))) × ((x.reached.items ≡ reached_ids g.boxes i.over)
    × ((x.beside.items ≡ beside_ids g.boxes i.over b) × ((x.deep ≡ deep g b s q i) × (x.distinct ≡ unpermitted (distinct_in (box_of i.over g)))))))
