-- The edits in place of L1 and L3 come to their action.
use Rattle.std.proofs.Common.{ℕ, ◌≡◌, Some, sym, ap, subst, ◌∙◌, eqb-true}
use Rattle.qgm_core.specs.Boxes.{HasBox, QueryGraph, box_of, is_box, numbers}
use Rattle.qgm_core.specs.Edits.{compact, set_distinct}
use Rattle.list_laws.specs.Lists.{EachOnce}
use Rattle.qgm_core.specs.declared.kinds.Distinct.TheVariants.{Preserve}
use Rattle.qgm_core.specs.declared.node.Node.{Node}
use Rattle.qgm_wellformed.specs.Sentences.{WellFormed}
use Rattle.qgm_edit_laws.proofs.Levels.{some-in}
use Rattle.rule_api.specs.Rules.{Preserves}
use Rattle.rule_api.specs.declared.place.Place.{Place}
use Rattle.rule_distinct.specs.DropKeyDistinct.{MayDropKeyDistinct}
use Rattle.rule_distinct.specs.DropUnionDistinct.{MayDropUnionDistinct}
use Rattle.rule_distinct.specs.PlainAt.{DropsDistinct}
use Rattle.rule_distinct.proofs.DropKeyDistinctKeeps.{drop-key-distinct-preserves}
use Rattle.rule_distinct.proofs.DropUnionDistinctKeeps.{drop-union-distinct-preserves}
use Rattle.list_laws.proofs.Membership.{any-from}

-- a box that is found is held
pub box_held : (g : QueryGraph) (x : ℕ) (b : Node) → box_of x g ≡ Some b → HasBox x g
box_held g x b e = let i = some-in (is_box x) g.boxes b e in any-from (is_box x) b g.boxes i.0 i.1

pub found_has : (g : QueryGraph) (x : ℕ) (b : Node) → box_of x g ≡ Some b → HasBox b.id g
found_has g x b e = let i = some-in (is_box x) g.boxes b e in subst (λ y. HasBox y g) (sym (eqb-true b.id x i.1)) (box_held g x b e)

drops : (g h : QueryGraph) (p : Place) (b : Node) → box_of p.at g ≡ Some b → h ≡ compact (set_distinct p.at Preserve g) → DropsDistinct p g h
unfolding DropsDistinct
drops g h p b e made = (b, (e, made ∙ ap (λ x. compact (set_distinct x Preserve g)) (sym (eqb-true b.id p.at (some-in (is_box p.at) g.boxes b e).1))))

-- ---- L1

module _ (g : QueryGraph) (p : Place) (m : MayDropKeyDistinct p g) where
  pub key_held : HasBox p.at g
  unfolding MayDropKeyDistinct
  key_held = box_held g p.at m.0 m.1.box.at

  module _ (h : QueryGraph) (made : h ≡ compact (set_distinct p.at Preserve g)) where
    pub key_acts : DropsDistinct p g h
    unfolding MayDropKeyDistinct
    key_acts = drops g h p m.0 m.1.box.at made

    pub key_preserves : EachOnce (numbers g.boxes) → WellFormed g → Preserves g h
    key_preserves u w = drop-key-distinct-preserves g h u w p m key_acts

-- ---- L3

module _ (g : QueryGraph) (p : Place) (m : MayDropUnionDistinct p g) where
  pub union_held : HasBox p.at g
  unfolding MayDropUnionDistinct
  union_held = box_held g p.at m.0 m.1.box.at

  module _ (h : QueryGraph) (made : h ≡ compact (set_distinct p.at Preserve g)) where
    pub union_acts : DropsDistinct p g h
    unfolding MayDropUnionDistinct
    union_acts = drops g h p m.0 m.1.box.at made

    pub union_preserves : EachOnce (numbers g.boxes) → WellFormed g → Preserves g h
    union_preserves u w = drop-union-distinct-preserves g h u w p m union_acts
