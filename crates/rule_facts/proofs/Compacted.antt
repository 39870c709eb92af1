-- What an action owes the law of a rule, where boxes change and then those go that the root doesn't reach.
use Rattle.std.proofs.Common.{ℕ, ◌≡◌, List, [], ◌∷◌, map, None, refl, ap₂, sym, subst, ◌∙◌}
use Rattle.row_bag.specs.Bags.{Agree}
use Rattle.row_bag.specs.Sets.{same_cells}
use Rattle.row_bag.specs.declared.tables.Table.{Table}
use Rattle.qgm_core.specs.Boxes.{QueryGraph, numbers}
use Rattle.qgm_core.specs.Edits.{compact, on_boxes}
use Rattle.qgm_core.specs.Free.{reached}
use Rattle.list_laws.specs.Lists.{EachOnce, holds}
use Rattle.qgm_core.specs.declared.node.Node.{Node}
use Rattle.qgm_wellformed.specs.WellFormed.{fault}
use Rattle.qgm_wellformed.proofs.Faults.{finds-none}
use Rattle.qgm_meaning.specs.Meaning.{bag_in, root_bag}
use Rattle.qgm_meaning.specs.Satisfies.{Satisfies}
use Rattle.qgm_edit_laws.specs.Graph.{Sound}
use Rattle.qgm_edit_laws.proofs.Compact.{compact-bag}
use Rattle.qgm_edit_laws.proofs.Formed.{sound-checked}
use Rattle.qgm_edit_laws.proofs.Rules.{compact-keeps}
use Rattle.qgm_edit_laws.proofs.WellFormedKept.{compact-formed, numbers-once}
use Rattle.rule_api.specs.Rules.{Preserves}
use Rattle.rule_facts.proofs.Preserved.{satisfies-kept, satisfies-map}

-- numbers stay
pub numbers-map : (a : Node → Node) → ((y : Node) → (a y).id ≡ y.id) → (ns : List Node) → map (λ (n : Node). n.id) (map a ns) ≡ map (λ (n : Node). n.id) ns
numbers-map a h [] = refl
numbers-map a h (n ∷ ns) = ap₂ (λ (x : ℕ) (xs : List ℕ). x ∷ xs) (h n) (numbers-map a h ns)

pub compact-preserves : (g h : QueryGraph) → Sound h.boxes h.root → EachOnce (numbers h.boxes) → fault h ≡ None → h.names ≡ g.names → h.order ≡ g.order
    → ((tables : List Table) → Satisfies tables g.boxes → Agree same_cells (root_bag tables h) (root_bag tables g))
    → ((tables : List Table) → Satisfies tables g.boxes → Satisfies tables h.boxes) → Preserves g (compact h)
compact-preserves g h w u f names order bag bases =
    let k = compact-keeps h w in
    record {
      formed = (finds-none (compact h) (numbers-once (compact h).boxes k.well.ordered)).0 (compact-formed h u f);
      bag = λ tables s. subst (λ z. Agree same_cells z (root_bag tables g)) (sym (compact-bag h.boxes h.root w tables [])) (bag tables s);
      bases = λ tables s. satisfies-kept tables (λ b. holds b (reached (h.root ∷ []) h.boxes)) h.boxes (bases tables s);
      names = k.names ∙ names;
      order = k.order ∙ order;
    }

-- where each box becomes one of its number and kind
pub mapped-preserves : (g : QueryGraph) → EachOnce (numbers g.boxes) → (h : Node → Node) → ((y : Node) → (h y).id ≡ y.id) → ((y : Node) → (h y).parts.kind ≡ y.parts.kind) → fault (on_boxes (map h) g) ≡ None
    → ((tables : List Table) → Satisfies tables g.boxes → Agree same_cells (bag_in tables (map h g.boxes) g.root []) (bag_in tables g.boxes g.root [])) → Preserves g (compact (on_boxes (map h) g))
mapped-preserves g u h id kind f bag =
    let once : EachOnce (numbers (map h g.boxes)) = subst (λ z. EachOnce z) (sym (numbers-map h id g.boxes)) u in
    compact-preserves g (on_boxes (map h) g) ((sound-checked (on_boxes (map h) g) once).0 f).0 once f refl refl bag (λ tables s. satisfies-map tables h kind g.boxes s)
