-- Boxes changed where they stand stay sound.
use Rattle.std.proofs.Common.{ℕ, ◌≡◌, ◌||◌, ◌≤◌, Bool, true, false, List, map, take, refl, sym, ap, subst, ◌∙◌, arith}
use Rattle.std.specs.List.{list_any}
use Rattle.row_bag.specs.declared.tables.Table.{Table}
use Rattle.qgm_core.specs.declared.node.Node.{Node}
use Rattle.qgm_core.specs.declared.owned.OwnedQuant.{OwnedQuant}
use Rattle.qgm_core.specs.declared.kinds.BoxKind.{BoxKind}
use Rattle.qgm_core.specs.declared.kinds.BoxKind.TheVariants.{Base, Select, Group, SetOp, OuterJoin}
use Rattle.qgm_core.specs.Boxes.{Ordered, has_box, ids_of, is_quant, overs_in, overs_of, owns, width}
use Rattle.list_laws.specs.Lists.{In, times}
use Rattle.qgm_meaning.specs.Meaning.{bag_in, rows_of}
use Rattle.qgm_meaning.specs.Scope.{loose}
use Rattle.qgm_meaning.specs.Values.{Environment}
use Rattle.qgm_edit_laws.specs.Changes.{Changes, Reparts}
use Rattle.qgm_edit_laws.specs.Checked.{own_seen}
use Rattle.qgm_edit_laws.specs.Graph.{ArmsBy, BareBy, Sound, binds_row, nodes_in, reads_in}
use Rattle.qgm_edit_laws.specs.Scoped.{Local, NearlySound, Scoped, shows_by}
use Rattle.qgm_edit_laws.proofs.Edits.{times-same}
use Rattle.qgm_edit_laws.proofs.OneBox.{has-map, ordered-map, ranked}
use Rattle.qgm_edit_laws.proofs.Scope.{only-bag, unfold-bag}
use Rattle.qgm_edit_laws.proofs.Scoped.{nearly-by, scoped-of, sound-by}
use Rattle.list_laws.proofs.Membership.{in-map}

-- what is sound of boxes but for scope
pub local-after : (bs : List Node) (root : ℕ) (g : Node → Node) → Ordered bs → has_box bs root ≡ true → Changes bs root g → Local (map g bs) root
local-after bs root g o rooted m = record {
  ordered = ordered-map g m.id bs o (λ y r i j. m.over y r i j);
  rooted = has-map g m.id bs root ∙ rooted;
  once = m.once;
  top = m.top;
  fits = λ n i q k t. (let x = in-map g n bs i in let f = m.fits x.0 x.1.0 q k (subst (λ (z : Node). reads_in q k z ≡ true) (sym x.1.1) t) in
      λ a r c ia ir e ic v. (
      let y = in-map g a bs ia in let z = in-map g c bs ic in
      let h = f y.0 z.0 r y.1.0 (subst (λ (z : Node). In r z.quants) (sym y.1.1) ir) e z.1.0 (sym (m.id z.0) ∙ ap (λ (z : Node). z.id) z.1.1 ∙ v) in
      (h.0, subst (λ (s : Node). k ≤ width s) z.1.1 h.1)));
  own_nodes = λ n i q t. (let x = in-map g n bs i in subst (λ (z : Node). (owns q z ≡ true) × (binds_row q z.quants ≡ false)) x.1.1 (m.own_nodes x.0 x.1.0 q (subst (λ (z : Node). nodes_in q z ≡ true) (sym x.1.1) t)));
  bare = λ n i. (let x = in-map g n bs i in subst (λ (z : Node). BareBy z.parts.kind z) x.1.1 (m.bare x.0 x.1.0));
  arms = λ n c r i j ic v. (
      let x = in-map g n bs i in let z = in-map g c bs ic in
      let a = m.arms x.0 z.0 r x.1.0 (subst (λ (z : Node). In r z.quants) (sym x.1.1) j) z.1.0 (sym (m.id z.0) ∙ ap (λ (z : Node). z.id) z.1.1 ∙ v) in
      subst (λ (n : Node). ArmsBy n.parts.kind (width c) (width n)) x.1.1 (subst (λ (u : Node). ArmsBy (g x.0).parts.kind (width u) (width (g x.0))) z.1.1 a));
}

-- within any bound of what is looked up
pub changed-sound : (bs : List Node) (root : ℕ) (g : Node → Node) → Ordered bs → has_box bs root ≡ true → Changes bs root g → (look : ℕ → ℕ → Bool)
    → ((y : Node) → In y bs → Scoped look (g y)) → ((y : Node) → In y bs → (q : ℕ) → owns q (g y) ≡ true → look y.id q ≡ false) → ((b q : ℕ) → look b q ≡ true → times b (overs_in (map g bs)) ≡ 1) → Sound (map g bs) root
changed-sound bs root g o rooted m look s settled used = sound-by look (map g bs) root (local-after bs root g o rooted m)
    (λ n i. (let x = in-map g n bs i in subst (λ z. Scoped look z) x.1.1 (s x.0 x.1.0)))
    (λ n i q t. (let x = in-map g n bs i in subst (λ z. look z q ≡ false) (sym (m.id x.0) ∙ ap (λ (z : Node). z.id) x.1.1) (settled x.0 x.1.0 q (subst (λ z. owns q z ≡ true) (sym x.1.1) t)))) used

pub changed-nearly : (bs : List Node) (root : ℕ) (g : Node → Node) → Ordered bs → has_box bs root ≡ true → Changes bs root g → (look : ℕ → ℕ → Bool)
    → ((y : Node) → In y bs → Scoped look (g y)) → ((y : Node) → In y bs → (q : ℕ) → owns q (g y) ≡ true → look y.id q ≡ false) → ((b q : ℕ) → look b q ≡ true → times b (overs_in (map g bs)) ≤ 1)
    → ((q : ℕ) → look root q ≡ false) → NearlySound (map g bs) root
changed-nearly bs root g o rooted m look s settled few none = nearly-by look (map g bs) root (local-after bs root g o rooted m) (record {
  scoped = λ n i. (let x = in-map g n bs i in subst (λ z. Scoped look z) x.1.1 (s x.0 x.1.0));
  settled = λ n i q t. (let x = in-map g n bs i in subst (λ z. look z q ≡ false) (sym (m.id x.0) ∙ ap (λ (z : Node). z.id) x.1.1) (settled x.0 x.1.0 q (subst (λ z. owns q z ≡ true) (sym x.1.1) t)));
  few = few;
  none_at_root = none;
})

-- ---- parts

pub own-same : (k : BoxKind) (n m : Node) (q : ℕ) → n.quants ≡ m.quants → own_seen k n q ≡ own_seen k m q
own-same (Base t) n m q e = refl
own-same Select n m q e = ap (λ rs. binds_row q rs) e
own-same (Group k) n m q e = ap (λ rs. list_any (is_quant q) (take 1 rs)) e
own-same (SetOp form w) n m q e = refl
own-same OuterJoin n m q e = ap (λ rs. list_any (is_quant q) (take 2 rs)) e

module _ (bs : List Node) (root : ℕ) (w : Sound bs root) (g : Node → Node) (m : Reparts bs g) where
  changes : Changes bs root g
  changes = record {
    id = m.id;
    over = λ y r i j. ranked bs w.ordered y r i (subst (λ z. In r z) (m.quants y i) j);
    once = λ q. (let a = times-same ids_of g q bs (λ y i. ap (map (λ (r : OwnedQuant). r.id)) (m.quants y i)) in let b = w.once q in omega arith);
    top = times-same overs_of g root bs (λ y i. ap (map (λ (r : OwnedQuant). r.over)) (m.quants y i)) ∙ w.top;
    fits = λ n i q k t. (λ y z r iy j e iz v. (let h = m.fits n i q k t y r z iy (subst (λ z. In r z) (m.quants y iy) j) e iz v in (h.0, subst (λ u. k ≤ u) (sym (m.wide z iz)) h.1)));
    own_nodes = λ y i q t. subst (λ rs. (list_any (is_quant q) rs ≡ true) × (binds_row q rs ≡ false)) (sym (m.quants y i)) (m.own_nodes y i q t);
    bare = λ y i. subst (λ k. BareBy k (g y)) (sym (m.kind y i)) (m.bare y i);
    arms = λ y z r i j iz v. subst (λ u. ArmsBy (g y).parts.kind u (width (g y))) (sym (m.wide z iz)) (subst (λ u. ArmsBy (g y).parts.kind (width z) u) (sym (m.wide y i)) (subst (λ k. ArmsBy k (width z) (width y)) (sym (m.kind y i)) (w.arms y z r i (subst (λ z. In r z) (m.quants y i) j) iz v)));
  }

  pub parts-scoped : (y : Node) → In y bs → Scoped (loose bs) (g y)
  parts-scoped y i = record {
    under = λ done r rest e q t.
        subst (λ k. (shows_by k (g y).quants done r q || loose bs (g y).id q) ≡ true) (sym (m.kind y i))
        (subst (λ rs. (shows_by y.parts.kind rs done r q || loose bs (g y).id q) ≡ true) (sym (m.quants y i))
        (subst (λ b. (shows_by y.parts.kind y.quants done r q || loose bs b q) ≡ true) (sym (m.id y)) ((scoped-of bs root w y i).under done r rest (sym (m.quants y i) ∙ e) q t)));
    own = λ q t.
        subst (λ k. (own_seen k (g y) q || loose bs (g y).id q) ≡ true) (sym (m.kind y i))
        (subst (λ z. (z || loose bs (g y).id q) ≡ true) (sym (own-same y.parts.kind (g y) y q (m.quants y i)))
        (subst (λ b. (own_seen y.parts.kind y q || loose bs b q) ≡ true) (sym (m.id y)) (m.reads y i q t)));
  }

  pub parts-sound : Sound (map g bs) root
  parts-sound = changed-sound bs root g w.ordered w.rooted changes (loose bs) parts-scoped
      (λ y i q t. w.settled y i q (subst (λ rs. list_any (is_quant q) rs ≡ true) (m.quants y i) t))
      (λ b q t. times-same overs_of g b bs (λ y i. ap (map (λ (r : OwnedQuant). r.over)) (m.quants y i)) ∙ w.used b q t)

-- ---- bags: where each changed box gives the same rows over the old bags
pub same-bags : (tables : List Table) (bs : List Node) (g : Node → Node) → ((y : Node) → (g y).id ≡ y.id) → Ordered bs → Ordered (map g bs)
    → ((y : Node) → In y bs → (e : Environment) → rows_of tables (g y) (bag_in tables bs) e ≡ rows_of tables y (bag_in tables bs) e) → (b : ℕ) → has_box bs b ≡ true → (e : Environment) → bag_in tables (map g bs) b e ≡ bag_in tables bs b e
same-bags tables bs g id o oh h b held e = only-bag tables (bag_in tables bs) (map g bs) oh (λ n i e. (
    let y = in-map g n bs i in
    subst (λ (z : Node). rows_of tables z (bag_in tables bs) e ≡ bag_in tables bs z.id e) y.1.1
    (h y.0 y.1.0 e ∙ sym (unfold-bag tables bs y.0 o y.1.0 e) ∙ ap (λ b. bag_in tables bs b e) (sym (id y.0))))) b (has-map g id bs b ∙ held) e
