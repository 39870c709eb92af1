-- A box moved below another one stays what it was, and so do all bags.
use Rattle.std.proofs.Common.{ℕ, ◌≡◌, ◌≤◌, true, List, sym, ap, subst, ◌∙◌, arith}
use Rattle.row_bag.specs.declared.tables.Table.{Table}
use Rattle.qgm_core.specs.declared.node.Node.{Node}
use Rattle.qgm_core.specs.declared.owned.OwnedQuant.{OwnedQuant}
use Rattle.qgm_core.specs.Boxes.{Ordered, has_box, ids_of, is_box, overs_of}
use Rattle.qgm_core.specs.Edits.{moved_below, put_found}
use Rattle.list_laws.specs.Lists.{In, without}
use Rattle.qgm_meaning.specs.Meaning.{bag_in}
use Rattle.qgm_meaning.specs.Scope.{loose}
use Rattle.qgm_meaning.specs.Values.{Environment}
use Rattle.qgm_edit_laws.specs.Graph.{Sound}
use Rattle.qgm_edit_laws.specs.Placed.{Below, place}
use Rattle.qgm_edit_laws.proofs.PlacedLists.{moved, moved-any, moved-in, moved-ordered, moved-times}
use Rattle.qgm_edit_laws.proofs.Scope.{in-first, only-bag, unfold-bag}
use Rattle.qgm_edit_laws.proofs.Scoped.{scoped-of, sound-by}

module _ (bs : List Node) (root : ℕ) (w : Sound bs root) (nc : Node) (i : In nc bs) (d : ℕ) (below : Below bs d nc.id)
    (owners : (n : Node) (r : OwnedQuant) → In n bs → In r n.quants → r.over ≡ nc.id → place bs n.id ≤ place bs d) where
  abbrev hs : List Node
  hs = moved nc d bs

  ordered : Ordered hs
  ordered = moved-ordered nc d bs w.ordered i below owners

  moved-sound : Sound hs root
  moved-sound = sound-by (loose bs) hs root (record {
    ordered = ordered;
    rooted = moved-any nc d (is_box root) bs w.ordered i ∙ w.rooted;
    once = λ q. (let a = moved-times nc d ids_of q bs w.ordered i in let b = w.once q in omega arith);
    top = moved-times nc d overs_of root bs w.ordered i ∙ w.top;
    fits = λ n j q k t. (λ a r c ia ir e ic v. w.fits n (moved-in nc d bs i n j) q k t a r c (moved-in nc d bs i a ia) ir e (moved-in nc d bs i c ic) v);
    own_nodes = λ n j. w.own_nodes n (moved-in nc d bs i n j);
    bare = λ n j. w.bare n (moved-in nc d bs i n j);
    arms = λ n m r j k l. w.arms n m r (moved-in nc d bs i n j) k (moved-in nc d bs i m l);
  }) (λ n j. scoped-of bs root w n (moved-in nc d bs i n j)) (λ n j. w.settled n (moved-in nc d bs i n j)) (λ b q t. moved-times nc d overs_of b bs w.ordered i ∙ w.used b q t)

  moved-bags : (tables : List Table) (b : ℕ) → has_box bs b ≡ true → (e : Environment) → bag_in tables hs b e ≡ bag_in tables bs b e
  moved-bags tables b h e = only-bag tables (bag_in tables bs) hs ordered (λ n j e. sym (unfold-bag tables bs n w.ordered (moved-in nc d bs i n j) e)) b (moved-any nc d (is_box b) bs w.ordered i ∙ h) e

-- by the edit's equation
module _ (bs : List Node) (root : ℕ) (w : Sound bs root) (nc : Node) (i : In nc bs) (d : ℕ) where
  pub moved-is : moved_below nc.id d bs ≡ moved nc d bs
  moved-is = ap (λ o. put_found d o (without (is_box nc.id) bs)) (in-first nc bs w.ordered i)

  pub order-sound : Below bs d nc.id → ((n : Node) (r : OwnedQuant) → In n bs → In r n.quants → r.over ≡ nc.id → place bs n.id ≤ place bs d) → Sound (moved_below nc.id d bs) root
  order-sound b o = subst (λ z. Sound z root) (sym moved-is) (moved-sound bs root w nc i d b o)

  pub order-bags : Below bs d nc.id → ((n : Node) (r : OwnedQuant) → In n bs → In r n.quants → r.over ≡ nc.id → place bs n.id ≤ place bs d) → (tables : List Table) (b : ℕ) → has_box bs b ≡ true → (e : Environment) → bag_in tables (moved_below nc.id d bs) b e ≡ bag_in tables bs b e
  order-bags b o tables x h e = ap (λ z. bag_in tables z x e) moved-is ∙ moved-bags bs root w nc i d b o tables x h e
