-- L1, DISTINCT over a key goes: its condition and its places. Its action is DropsDistinct.
use Rattle.std.specs.Prelude.{ℕ, ◌≡◌, List, ◌&&◌, Bool}
use Rattle.qgm_core.specs.Boxes.{QueryGraph, width}
use Rattle.qgm_core.specs.Edits.{set_distinct}
use Rattle.qgm_core.specs.declared.kinds.Distinct.TheVariants.{Enforce, Preserve}
use Rattle.qgm_core.specs.declared.node.Node.{Node}
use Rattle.qgm_core.specs.Kinds.{is_enforce}
use Rattle.qgm_props.specs.InferredKeys.{places_to}
use Rattle.qgm_props.specs.Laws.{KeyInferred}
use Rattle.rule_api.specs.declared.place.Place.{Place}
use Rattle.rule_api.specs.Rules.{Pair}
use Rattle.rule_facts.specs.Told.{infers_key}
use Rattle.rule_facts.specs.Places.{box_pairs, is_plain_select}
use Rattle.rule_distinct.specs.PlainAt.{PlainAt}

-- ---- the condition

-- b, a plain select, is ENFORCE, and in the graph in which it is PRESERVE it has an inferred key
pub record MayDropKeyDistinctAt (p : Place) (g : QueryGraph) (b : Node) : Type 0 where
  pub box : PlainAt p g b
  pub enforced : b.parts.distinct ≡ Enforce
  pub key : KeyInferred (set_distinct b.id Preserve g).boxes b.id (places_to (width b))

unfoldable pub MayDropKeyDistinct : Place → QueryGraph → Type 0
MayDropKeyDistinct p g = (b : Node) × MayDropKeyDistinctAt p g b

-- ---- the places

-- in the graph in which it is PRESERVE it has an inferred key
abbrev pub is_keyed_preserve : QueryGraph → Node → Bool
is_keyed_preserve g n = infers_key (set_distinct n.id Preserve g).boxes n.id (places_to (width n))

abbrev pub may_drop_key_distinct : QueryGraph → Node → Bool
may_drop_key_distinct g n = is_plain_select n && (is_enforce n.parts.distinct && is_keyed_preserve g n)

-- the places of L1 at b
unfoldable pub drop_key_distinct_pairs : QueryGraph → ℕ → List Pair
drop_key_distinct_pairs g b = box_pairs (may_drop_key_distinct g) g b
