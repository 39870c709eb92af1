-- What actions preserve: a select put in the place of a box, an edit of one box, and then what the root doesn't reach goes.
use Rattle.std.proofs.Common.{ℕ, ◌==◌, ◌≡◌, cond, true, false, List, [], ◌∷◌, map, None, refl, sym, ap, subst, ◌∙◌, ap₂}
use Rattle.row_bag.specs.Bags.{Agree}
use Rattle.row_bag.specs.Sets.{same_cells}
use Rattle.row_bag.specs.declared.tables.Table.{Table}
use Rattle.qgm_core.specs.Boxes.{QueryGraph, numbers}
use Rattle.qgm_core.specs.Edits.{compact, on_boxes, on_box, set_distinct, with_distinct}
use Rattle.qgm_core.specs.Free.{reached}
use Rattle.list_laws.specs.Lists.{EachOnce, holds}
use Rattle.qgm_core.specs.declared.node.Node.{Node}
use Rattle.qgm_core.specs.declared.kinds.Distinct.{Distinct}
use Rattle.qgm_wellformed.specs.WellFormed.{fault}
use Rattle.qgm_wellformed.proofs.Faults.{finds-none}
use Rattle.qgm_meaning.specs.Meaning.{bag_in, Family}
use Rattle.qgm_meaning.specs.Satisfies.{Satisfies}
use Rattle.qgm_edit_laws.specs.Adds.{at}
use Rattle.qgm_edit_laws.specs.Graph.{Sound}
use Rattle.qgm_edit_laws.proofs.Compact.{compact-bag, compact-sound}
use Rattle.qgm_edit_laws.proofs.Rules.{same-agree}
use Rattle.qgm_edit_laws.proofs.WellFormedKept.{compact-formed, numbers-once}
use Rattle.qgm_edit_laws.specs.PutsBox.{PutsBox}
use Rattle.qgm_edit_laws.proofs.PutsBox.{put-formed, once-put, bases-put}
use Rattle.qgm_edit_laws.proofs.Edits.{once-each}
use Rattle.qgm_edit_laws.proofs.OneBox.{change-at}
use Rattle.qgm_edit_laws.specs.PermitToPreserve.{PermitToPreserveKeeps, permit_to_preserve}
use Rattle.qgm_edit_laws.proofs.CheckedParts.{sound}
use Rattle.rule_api.specs.Rules.{Preserves}
use Rattle.rule_api.proofs.Chained.{preserves-chained}
use Rattle.rule_facts.proofs.Preserved.{satisfies-kept}

-- a select in the place of a box, whose rows leave the root's bag as it was
module _ (g : QueryGraph) (u : EachOnce (numbers g.boxes)) (c : fault g ≡ None) (o : Node) (f : Node → Node) (m : PutsBox g.boxes g.root o f) where
  pub preserves-put : ((tables : List Table) → Satisfies tables g.boxes → Agree same_cells (bag_in tables (on_boxes (map (at o.id f)) g).boxes g.root []) (bag_in tables g.boxes g.root [])) → Preserves g (on_boxes (map (at o.id f)) g)
  preserves-put bag = record {
    formed = (finds-none (on_boxes (map (at o.id f)) g) (once-put g u c o f m)).0 (put-formed g u c o f m);
    bag = bag;
    bases = bases-put g u c o f m;
    names = refl;
    order = refl;
  }

module _ (g : QueryGraph) (u : EachOnce (numbers g.boxes)) (c : fault g ≡ None) where
  -- without what the root doesn't reach
  pub preserves-compact : Preserves g (compact g)
  preserves-compact = record {
    formed = (finds-none (compact g) once).0 now;
    bag = λ tables s. same-agree (compact-bag g.boxes g.root (sound g u c) tables []);
    bases = λ tables s. satisfies-kept tables (λ x. holds x (reached (g.root ∷ []) g.boxes)) g.boxes s;
    names = refl;
    order = refl;
  }
    where
      now : fault (compact g) ≡ None
      now = compact-formed g u c

      once : EachOnce (numbers (compact g).boxes)
      once = numbers-once (compact g).boxes (compact-sound g.boxes g.root (sound g u c)).ordered

-- a PERMIT box becomes PRESERVE
pub permit-to-preserve-preserves : (g : QueryGraph) → (b : ℕ) → PermitToPreserveKeeps b g → Preserves g (permit_to_preserve b g)
permit-to-preserve-preserves g b k = record {
  formed = (finds-none (permit_to_preserve b g) k.once).0 k.formed;
  bag = λ tables s. same-agree (ap (λ (f : Family). f (permit_to_preserve b g).root []) (k.bag tables) ∙ ap (λ r. bag_in tables g.boxes r []) k.root);
  bases = k.bases;
  names = k.names;
  order = k.order;
}

-- a firing, and then what the root doesn't reach goes
pub then-compact : (g h : QueryGraph) → EachOnce (numbers h.boxes) → Preserves g h → Preserves g (compact h)
then-compact g h u p = preserves-chained g h (compact h) p (preserves-compact h u ((finds-none h u).1 p.formed))

-- ---- an edit of one box, and then what the root doesn't reach goes

module _ (g : QueryGraph) (u : EachOnce (numbers g.boxes)) (f : fault g ≡ None) where
  w : Sound g.boxes g.root
  w = sound g u f

  -- an edit of one box by its number is one where it stands
  pub on-is : (b : ℕ) (k : Node → Node) → on_box b k g ≡ on_boxes (map (at b k)) g
  on-is b k = ap (λ z. record g { boxes = z }) (change-at b k g.boxes (once-each g.boxes w.ordered))

  pub same-numbers : (b : ℕ) (k : Node → Node) → ((y : Node) → (k y).id ≡ y.id) → (ns : List Node) → numbers (map (at b k) ns) ≡ numbers ns
  same-numbers b k same [] = refl
  same-numbers b k same (n ∷ ns) = ap₂ (λ x xs. x ∷ xs) (elim (n.id == b) as (λ t. (λ (z : Node). z.id) (cond t (k n) n) ≡ n.id) [ true ↦ same n | false ↦ refl ]) (same-numbers b k same ns)

  pub once-on : (b : ℕ) (k : Node → Node) → ((y : Node) → (k y).id ≡ y.id) → EachOnce (numbers (on_boxes (map (at b k)) g).boxes)
  once-on b k same = subst EachOnce (sym (same-numbers b k same g.boxes)) u

  -- what such an edit preserves, with what isn't reached gone
  pub finish : (b : ℕ) (k : Node → Node) → ((y : Node) → (k y).id ≡ y.id) → Preserves g (on_boxes (map (at b k)) g) → Preserves g (compact (on_box b k g))
  finish b k same p = subst (λ (z : QueryGraph). Preserves g (compact z)) (sym (on-is b k)) (then-compact g (on_boxes (map (at b k)) g) (once-on b k same) p)

  -- another distinctness, and then what isn't reached goes
  pub finish-set : (b : ℕ) (d : Distinct) → Preserves g (set_distinct b d g) → Preserves g (compact (set_distinct b d g))
  finish-set b d p = then-compact g (set_distinct b d g) (subst (λ (z : QueryGraph). EachOnce (numbers z.boxes)) (sym (on-is b (with_distinct d))) (once-on b (with_distinct d) (λ y. refl))) p
