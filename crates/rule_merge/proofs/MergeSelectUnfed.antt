-- Where no box is fed, none is after M1.
use Rattle.std.proofs.Common.{ℕ, ◌==◌, ◌≡◌, cond, true, false, List, [], ◌∷◌, map, refl, sym, ap, ◌∙◌}
use Rattle.qgm_core.specs.Boxes.{QueryGraph, is_box}
use Rattle.qgm_core.specs.Free.{reached}
use Rattle.qgm_core.specs.Kinds.{is_fed}
use Rattle.list_laws.specs.Lists.{In, holds, without}
use Rattle.qgm_core.specs.declared.node.Node.{Node}
use Rattle.qgm_core.specs.declared.owned.OwnedQuant.{OwnedQuant}
use Rattle.rule_merge.specs.Merged.{merge_node, merged}
use Rattle.qgm_edit_laws.proofs.Compact.{in-kept}
use Rattle.qgm_edit_laws.proofs.PlacedOne.{in-less}
use Rattle.qgm_meaning.specs.Scope.{put_node}
use Rattle.rule_facts.proofs.FedClosed.{unfed-open}
use Rattle.rule_facts.specs.FedClosed.{any_fed, any_fed_closed}
use Rattle.rule_merge.specs.MergeSelect.{merged_with, spliced}
use Rattle.list_laws.proofs.Membership.{any-none, in-map}

-- M1 keeps the role of a box
role-kept : (b q : ℕ) (c : Node) (rs : List OwnedQuant) (n : Node) → (merge_node b q c rs n).parts.role ≡ n.parts.role
role-kept b q c rs n = elim (n.id == b) as (λ t. (λ (z : Node). z.parts.role) (cond t (merged q c rs n) (put_node q c.parts.head n)) ≡ n.parts.role) [ true ↦ refl | false ↦ refl ]

module _ (g : QueryGraph) (b c : Node) (q : ℕ) (none : any_fed g.boxes ≡ false) where
  abbrev change : Node → Node
  change = merge_node b.id q c (spliced q c.quants b.quants)

  abbrev changed : List Node
  changed = map change (without (is_box c.id) g.boxes)

  unfed : (n : Node) → In n (merged_with g b c q).boxes → is_fed n.parts.role ≡ false
  unfed n i =
      let x = in-map change n (without (is_box c.id) g.boxes) (in-kept (λ k. holds k (reached (g.root ∷ []) changed)) n changed i).0 in
      ap (λ (z : Node). is_fed z.parts.role) (sym x.1.1)
      ∙ ap is_fed (role-kept b.id q c (spliced q c.quants b.quants) x.0)
      ∙ any-none (λ (z : Node). is_fed z.parts.role) x.0 g.boxes none (in-less (is_box c.id) g.boxes x.0 x.1.0)

  pub merged_unfed : any_fed_closed (merged_with g b c q) ≡ false
  merged_unfed = unfed-open (merged_with g b c q) unfed
