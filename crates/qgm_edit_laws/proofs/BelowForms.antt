-- Boxes that stay keep types and shapes: the check finds nothing more where a box moves below another one.
use Rattle.std.proofs.Common.{ℕ, ◌≡◌, true, List, None, refl, sym, subst, inl, inr}
use Rattle.std.proofs.lemmas.Bool.{cases_Bool}
use Rattle.qgm_core.specs.Boxes.{QueryGraph, has_box, numbers}
use Rattle.qgm_core.specs.Edits.{move_below, moved_below}
use Rattle.qgm_core.specs.Kinds.{is_permit}
use Rattle.list_laws.specs.Lists.{EachOnce, In}
use Rattle.qgm_core.specs.declared.node.Node.{Node}
use Rattle.qgm_wellformed.specs.WellFormed.{fault}
use Rattle.qgm_meaning.specs.Scope.{loose}
use Rattle.qgm_edit_laws.specs.FormedEdits.{MayMoveBelow}
use Rattle.qgm_edit_laws.specs.Graph.{Sound}
use Rattle.qgm_edit_laws.specs.Reforms.{Reforms}
use Rattle.qgm_edit_laws.specs.Shaped.{Shaped, Typed}
use Rattle.qgm_edit_laws.proofs.BoxForms.{alone-by, counted-seen, looks-over, scalar-column, stands}
use Rattle.qgm_edit_laws.proofs.Formed.{sound-checked}
use Rattle.qgm_edit_laws.proofs.Order.{moved-is, order-sound}
use Rattle.qgm_edit_laws.proofs.PlacedLists.{moved-in}
use Rattle.qgm_edit_laws.proofs.Reformed.{shaped-after, typed-after}
use Rattle.qgm_edit_laws.proofs.Scoped.{bounded, scoped-of}
use Rattle.qgm_edit_laws.proofs.WellFormedKept.{numbers-once}
use Rattle.qgm_core.proofs.Reaching.{overs-held}

-- boxes of a graph that are a sound graph
module _ (bs hs : List Node) (root : ℕ) (w : Sound bs root) (t : Typed bs) (s : Shaped bs root) (v : Sound hs root) (sub : (n : Node) → In n hs → In n bs) where
  less : (b q : ℕ) → loose hs b q ≡ true → loose bs b q ≡ true
  less = bounded (loose bs) hs v.once (λ n i. scoped-of bs root w n (sub n i))

  more : (b q : ℕ) → has_box hs b ≡ true → loose bs b q ≡ true → loose hs b q ≡ true
  more = looks-over bs hs root w v (λ n i. (n, (sub n i, (refl, λ q l o a. (o, a)))))

  pub stays-reformed : Reforms bs hs root (λ n. n)
  stays-reformed = record {
    from = λ n i. (n, (sub n i, refl));
    id = λ y. refl;
    stay = λ y i. refl;
    magic = λ y i. refl;
    stood = λ y z r i j k h. stands bs root t s y r i j;
    types = t;
    columns = s.columns;
    shapes = s.shapes;
    scalars = λ y z r i j k l e. scalar-column bs root t s y z r i j k l e;
    unseen = λ y z r i j k l e. counted-seen bs root t s y z r i j k l e;
    root_seen = λ y i e. elim (cases_Bool (is_permit y.parts.distinct)) [ inr f ↦ f | inl p ↦ absurd ((s.unseen y i p).0 e) ];
    fed = alone-by bs hs root w (λ n i. s.shapes n (sub n i)) less (λ n a d i f e t. (a.id, more d.over a.id (overs-held hs n d v.ordered i (subst (λ z. In d z) (sym e) (inr (inl refl)))) t));
  }

pub move-below-formed : (g : QueryGraph) → EachOnce (numbers g.boxes) → fault g ≡ None → (c : Node) (d : ℕ) → MayMoveBelow g c d → fault (move_below c.id d g) ≡ None
move-below-formed g u f c d m =
    let p = (sound-checked g u).0 f in
    let hs : List Node = moved_below c.id d g.boxes in
    let v : Sound hs g.root = order-sound g.boxes g.root p.0 c m.within d m.below m.owners in
    let r = stays-reformed g.boxes hs g.root p.0 p.1 p.2 v (λ n i. moved-in c d g.boxes m.within n (subst (λ z. In n z) (moved-is g.boxes g.root p.0 c m.within d) i)) in
    (sound-checked (move_below c.id d g) (numbers-once hs v.ordered)).1 (v, typed-after g.boxes hs g.root (λ n. n) p.0 v r, shaped-after g.boxes hs g.root (λ n. n) p.0 v r)
