-- M1 at an ENFORCE select keeps the shapes of boxes.
use Rattle.std.proofs.Common.{ℕ, ◌==◌, ◌≡◌, ◌&&◌, ◌||◌, cond, nat_lt, not, Bool, true, false, List, [], ◌∷◌, ◌++◌, filter, map, Option, Some, None, refl, sym, ap, ap₂, subst, ◌∙◌, eqb-true, inl, inr}
use Rattle.std.specs.List.{flat_map, list_all, list_any}
use Rattle.std.proofs.lemmas.Bool.{and_from, and_parts, cases_Bool}
use mathlib.Core.Path.{fun_ext}
use Rattle.qgm_core.specs.Boxes.{QueryGraph, is_box, is_quant, owns, range_in, width}
use Rattle.qgm_core.specs.Edits.{compact, on_boxes, with_distinct}
use Rattle.qgm_core.specs.Free.{free_among, free_in, is_owned, marked, named_by, named_where, put_each, reached}
use Rattle.qgm_core.specs.Kinds.{is_F, is_magic, is_permit, is_plain, is_preserve}
use Rattle.list_laws.specs.Lists.{In, first, holds}
use Rattle.qgm_core.specs.declared.kinds.BoxKind.{BoxKind}
use Rattle.qgm_core.specs.declared.kinds.BoxKind.TheVariants.{Base, Group, OuterJoin, Select, SetOp}
use Rattle.qgm_core.specs.declared.kinds.Distinct.TheVariants.{Preserve}
use Rattle.qgm_core.specs.declared.kinds.Role.{Role}
use Rattle.qgm_core.specs.declared.kinds.Role.TheVariants.{Fed, Magic, Plain}
use Rattle.qgm_core.specs.declared.node.Node.{Node}
use Rattle.qgm_core.specs.declared.owned.OwnedQuant.{OwnedQuant}
use Rattle.qgm_terms.specs.Terms.{Term}
use Rattle.qgm_terms.specs.declared.named.Column.{Column}
use Rattle.qgm_wellformed.specs.Columns.{box_under, columns_fit, columns_of, fits, over_box, places_fit, within}
use Rattle.qgm_wellformed.specs.Shapes.{arm_fits, columns_from, columns_placed, fed_by, heads_are, is_none, is_scalar, is_scalar_in, is_unfolded, kind_fits, magic_found, node_fits, nodes_of, only, role_fits, shape_fits, width_found}
use Rattle.qgm_wellformed.specs.Shapes as shapes
use Rattle.qgm_edit_laws.specs.Graph.{Sound}
use Rattle.rule_merge.specs.Merged.{merge_node, merged_in}
use Rattle.rule_merge.specs.MergesDistinct.{MergesDistinct}
use Rattle.rule_merge.specs.MergesPermit.{MergesAny}
use Rattle.qgm_edit_laws.specs.FedOpen.{FedOpen}
use Rattle.rule_merge.specs.MergeShapes.{MergeFits}
use Rattle.qgm_edit_laws.specs.Shaped.{Shaped}
use Rattle.rule_merge.proofs.MergeSelectOfDistinct.{any-of, by-all, loosened, merges, sound, without-map}
use Rattle.qgm_edit_laws.proofs.Ranks.{same-box}
use Rattle.rule_merge.proofs.MergeSelectShaped.{merge-shaped}
use Rattle.list_laws.proofs.Membership.{in-map}

-- ---- a shape sees of other boxes their numbers, quantifiers, names, widths and whether they are magic

module _ (g : Node → Node) (id : (y : Node) → (g y).id ≡ y.id) (quants : (y : Node) → (g y).quants ≡ y.quants) (named : (y : Node) → named_by (g y) ≡ named_by y) (wide : (y : Node) → width (g y) ≡ width y) (magic : (y : Node) → is_magic (g y).parts.role ≡ is_magic y.parts.role) where
  reached-alike : (marks : List ℕ) (ns : List Node) → reached marks (map g ns) ≡ reached marks ns
  reached-alike marks [] = refl
  reached-alike marks (n ∷ ns) = ap (λ z. reached z (map g ns)) (ap₂ (λ (x : ℕ) (rs : List OwnedQuant). cond (holds x marks) (marks ++ map (λ (r : OwnedQuant). r.over) rs) marks) (id n) (quants n)) ∙ reached-alike (marked marks n) ns

  named-alike : (marks : List ℕ) (ns : List Node) → flat_map (named_where marks) (map g ns) ≡ flat_map (named_where marks) ns
  named-alike marks [] = refl
  named-alike marks (n ∷ ns) = ap₂ (λ (x : List ℕ) (z : List ℕ). x ++ z) (ap₂ (λ (x : ℕ) (z : List ℕ). cond (holds x marks) z []) (id n) (named n)) (named-alike marks ns)

  owned-alike : (marks : List ℕ) (q : ℕ) (ns : List Node) → is_owned marks (map g ns) q ≡ is_owned marks ns q
  owned-alike marks q [] = refl
  owned-alike marks q (n ∷ ns) = ap₂ (λ (x z : Bool). x || z) (ap₂ (λ (x : ℕ) (rs : List OwnedQuant). holds x marks && list_any (is_quant q) rs) (id n) (quants n)) (owned-alike marks q ns)

  pub free-alike : (b : ℕ) (ns : List Node) → free_in (map g ns) b ≡ free_in ns b
  free-alike b ns =
      ap (λ z. free_among z (map g ns)) (reached-alike (b ∷ []) ns)
      ∙ ap₂ (λ (p : ℕ → Bool) (z : List ℕ). put_each [] (filter (λ q. not (p q)) z)) (fun_ext (λ q. owned-alike (reached (b ∷ []) ns) q ns)) (named-alike (reached (b ∷ []) ns) ns)

  range-alike : (q : ℕ) (ns : List Node) → range_in q (first (owns q) (map g ns)) ≡ range_in q (first (owns q) ns)
  range-alike q [] = refl
  range-alike q (n ∷ ns) = ap (λ z. range_in q (cond z (Some (g n)) (first (owns q) (map g ns)))) (ap (λ (rs : List OwnedQuant). list_any (is_quant q) rs) (quants n)) ∙ (elim (owns q n) as (λ t. range_in q (cond t (Some (g n)) (first (owns q) (map g ns))) ≡ range_in q (cond t (Some n) (first (owns q) ns))) [
    | true ↦ ap (first (is_quant q)) (quants n)
    | false ↦ range-alike q ns
  ])

  -- the box of this number
  found-alike : {X : Type 0} (f : Option Node → X) → ((y : Node) → f (Some (g y)) ≡ f (Some y)) → (b : ℕ) (ns : List Node) → f (first (is_box b) (map g ns)) ≡ f (first (is_box b) ns)
  found-alike f h b [] = refl
  found-alike f h b (n ∷ ns) = ap (λ z. f (cond (z == b) (Some (g n)) (first (is_box b) (map g ns)))) (id n) ∙ (elim (n.id == b) as (λ t. f (cond t (Some (g n)) (first (is_box b) (map g ns))) ≡ f (cond t (Some n) (first (is_box b) ns))) [
    | true ↦ h n
    | false ↦ found-alike f h b ns
  ])

  wide-alike : (b : ℕ) (ns : List Node) → width_found (first (is_box b) (map g ns)) ≡ width_found (first (is_box b) ns)
  wide-alike = found-alike width_found wide

  fits-alike : (k q : ℕ) (ns : List Node) → fits k (box_under (map g ns) q) ≡ fits k (box_under ns q)
  fits-alike k q ns = ap (λ o. fits k (over_box (map g ns) o)) (range-alike q ns) ∙ by (range_in q (first (owns q) ns))
    where
      by : (o : Option OwnedQuant) → fits k (over_box (map g ns) o) ≡ fits k (over_box ns o)
      by None = refl
      by (Some r) = found-alike (fits k) (λ y. ap (λ z. within z k) (wide y)) r.over ns

  pub columns-alike : (n : Node) (ns : List Node) → columns_fit (map g ns) n ≡ columns_fit ns n
  columns-alike n ns = ap (λ z. places_fit n.parts.kind && z) (each (columns_of n))
    where
      each : (cs : List Column) → list_all (λ (c : Column). fits c.place (box_under (map g ns) c.quant)) cs ≡ list_all (λ (c : Column). fits c.place (box_under ns c.quant)) cs
      each [] = refl
      each (c ∷ cs) = ap₂ (λ (x z : Bool). x && z) (fits-alike c.place c.quant ns) (each cs)

  scalar-alike : (b : ℕ) (ns : List Node) → is_scalar (map g ns) b ≡ is_scalar ns b
  scalar-alike b [] = refl
  scalar-alike b (n ∷ ns) = ap₂ (λ (x z : Bool). x || z) (ap (λ (rs : List OwnedQuant). is_scalar_in rs b) (quants n)) (scalar-alike b ns)

  fed-alike : (head : List Term) (rs : List OwnedQuant) (ns : List Node) → fed_by (map g ns) head rs ≡ fed_by ns head rs
  fed-alike head [] ns = refl
  fed-alike head (a ∷ []) ns = refl
  fed-alike head (a ∷ (d ∷ [])) ns =
      ap₂ (λ (x : Bool) (z : List ℕ). is_F a.kind && is_F d.kind && x && only a.id z && heads_are head (columns_from a.id 1 (width_found (first (is_box a.over) (map g ns))) ++ columns_from d.id 1 (width_found (first (is_box d.over) (map g ns))))) (found-alike magic_found magic a.over ns) (free-alike d.over ns)
      ∙ ap₂ (λ (u v : ℕ). is_F a.kind && is_F d.kind && magic_found (first (is_box a.over) ns) && only a.id (free_in ns d.over) && heads_are head (columns_from a.id 1 u ++ columns_from d.id 1 v)) (wide-alike a.over ns) (wide-alike d.over ns)
  fed-alike head (a ∷ (d ∷ (e ∷ rs))) ns = refl

  role-alike : (root : ℕ) (n : Node) (k : Role) (ns : List Node) → role_fits root (map g ns) n k ≡ role_fits root ns n k
  role-alike root n Plain ns = refl
  role-alike root n Magic ns = refl
  role-alike root n Fed ns = ap (λ z. not (n.id == root) && is_preserve n.parts.distinct && is_none n.parts.conds.items && z) (fed-alike n.parts.head n.quants ns)

  kind-alike : (root : ℕ) (n : Node) (k : BoxKind) (ns : List Node) → kind_fits root (map g ns) n k ≡ kind_fits root ns n k
  kind-alike root n (Base t) ns = refl
  kind-alike root n Select ns = ap (λ z. is_unfolded n && z) (role-alike root n n.parts.role ns)
  kind-alike root n (Group k) ns = refl
  kind-alike root n (SetOp form types) ns = ap (λ z. shapes.are_F 2 n.quants && z && nat_lt 0 (width n) && is_none n.parts.conds.items && is_none n.parts.head && is_plain n.parts.role) (each n.quants)
    where
      each : (rs : List OwnedQuant) → list_all (arm_fits (map g ns) (width n)) rs ≡ list_all (arm_fits ns (width n)) rs
      each [] = refl
      each (r ∷ rs) = ap₂ (λ (x : ℕ) (z : Bool). (x == width n) && z) (wide-alike r.over ns) (each rs)
  kind-alike root n OuterJoin ns = refl

  pub shape-alike : (root : ℕ) (n : Node) (ns : List Node) → shape_fits root (map g ns) n ≡ shape_fits root ns n
  shape-alike root n ns = ap₂ (λ (x z : Bool). x && list_all (node_fits n.quants) (nodes_of n) && columns_placed n && (not z || nat_lt 0 (width n))) (kind-alike root n n.parts.kind ns) (scalar-alike n.id ns)

-- ---- c as PRESERVE

module _ (bs : List Node) (root : ℕ) (w : Sound bs root) (s : Shaped bs root) (c : Node) (i : In c bs) (select : c.parts.kind ≡ Select) (not_magic : is_magic c.parts.role ≡ false) where
  abbrev f : Node → Node
  f = loosened c.id

  role-loosened : (k : Role) → is_magic k ≡ false → role_fits root bs c k ≡ true → role_fits root bs (with_distinct Preserve c) k ≡ true
  role-loosened Plain n h = refl
  role-loosened Magic n h = absurd (let z : ⊥ = cc in z)
  role-loosened Fed n h =
      let a = and_parts (not (c.id == root) && is_preserve c.parts.distinct && is_none c.parts.conds.items) (fed_by bs c.parts.head c.quants) h in
      let d = and_parts (not (c.id == root) && is_preserve c.parts.distinct) (is_none c.parts.conds.items) a.0 in
      let e = and_parts (not (c.id == root)) (is_preserve c.parts.distinct) d.0 in
      and_from (not (c.id == root) && true && is_none c.parts.conds.items) (fed_by bs c.parts.head c.quants) (and_from (not (c.id == root) && true) (is_none c.parts.conds.items) (and_from (not (c.id == root)) true e.0 refl) d.1) a.1

  -- its shape stays
  c-shape : shape_fits root bs (with_distinct Preserve c) ≡ true
  c-shape =
      let h = s.shapes c i in
      let a = and_parts ((kind_fits root bs c c.parts.kind && list_all (node_fits c.quants) (nodes_of c)) && columns_placed c) (not (is_scalar bs c.id) || nat_lt 0 (width c)) h in
      let d = and_parts (kind_fits root bs c c.parts.kind && list_all (node_fits c.quants) (nodes_of c)) (columns_placed c) a.0 in
      let e = and_parts (kind_fits root bs c c.parts.kind) (list_all (node_fits c.quants) (nodes_of c)) d.0 in
      let k = and_parts (is_unfolded c) (role_fits root bs c c.parts.role) (subst (λ k. kind_fits root bs c k ≡ true) select e.0) in
      and_from ((kind_fits root bs (with_distinct Preserve c) c.parts.kind && list_all (node_fits c.quants) (nodes_of c)) && columns_placed c) (not (is_scalar bs c.id) || nat_lt 0 (width c))
      (and_from (kind_fits root bs (with_distinct Preserve c) c.parts.kind && list_all (node_fits c.quants) (nodes_of c)) (columns_placed c)
      (and_from (kind_fits root bs (with_distinct Preserve c) c.parts.kind) (list_all (node_fits c.quants) (nodes_of c))
      (subst (λ k. kind_fits root bs (with_distinct Preserve c) k ≡ true) (sym select) (and_from (is_unfolded c) (role_fits root bs (with_distinct Preserve c) c.parts.role) k.0 (role-loosened c.parts.role not_magic k.1))) e.1) d.1) a.1

  shape-loosened : (y : Node) → In y bs → shape_fits root bs (f y) ≡ true
  shape-loosened y j = elim (cases_Bool (y.id == c.id)) [
    | inl t ↦ (
        let same : y ≡ c = same-box bs y c w.ordered j i (eqb-true y.id c.id t) in
        ap (λ t. shape_fits root bs (cond t (with_distinct Preserve y) y)) t ∙ ap (λ z. shape_fits root bs (with_distinct Preserve z)) same ∙ c-shape)
    | inr n ↦ ap (λ t. shape_fits root bs (cond t (with_distinct Preserve y) y)) n ∙ s.shapes y j
  ]

  permit-was : (y : Node) → is_permit (f y).parts.distinct ≡ true → is_permit y.parts.distinct ≡ true
  permit-was y h = elim (y.id == c.id) as (λ t. is_permit (cond t (with_distinct Preserve y) y).parts.distinct ≡ true → is_permit y.parts.distinct ≡ true) [ true ↦ λ h. absurd (let z : ⊥ = cc in z) | false ↦ λ h. h ] h

  same-id : (y : Node) → (f y).id ≡ y.id
  same-id = by-all c.id (λ n. n.id) (λ y. refl)

  same-quants : (y : Node) → (f y).quants ≡ y.quants
  same-quants = by-all c.id (λ n. n.quants) (λ y. refl)

  same-named : (y : Node) → named_by (f y) ≡ named_by y
  same-named = by-all c.id named_by (λ y. refl)

  same-width : (y : Node) → width (f y) ≡ width y
  same-width = by-all c.id width (λ y. refl)

  same-magic : (y : Node) → is_magic (f y).parts.role ≡ is_magic y.parts.role
  same-magic = by-all c.id (λ n. is_magic n.parts.role) (λ y. refl)

  pub shaped-loosened : Shaped (map f bs) root
  shaped-loosened = record {
    columns = λ n j. (
        let y = in-map f n bs j in
        columns-alike f same-id same-quants same-named same-width same-magic n bs ∙ ap (columns_fit bs) (sym y.1.1) ∙ by-all c.id (columns_fit bs) (λ y. refl) y.0 ∙ s.columns y.0 y.1.0);
    unseen = λ n j p. (
        let y = in-map f n bs j in
        let h = s.unseen y.0 y.1.0 (permit-was y.0 (ap (λ (z : Node). is_permit z.parts.distinct) y.1.1 ∙ p)) in
        let e : n.id ≡ y.0.id = ap (λ (z : Node). z.id) (sym y.1.1) ∙ same-id y.0 in (
          (λ k. h.0 (sym e ∙ k)),
          (λ o t l k x. (let v = in-map f o bs l in h.1 v.0 t v.1.0 (subst (λ rs. In t rs) (ap (λ (z : Node). z.quants) (sym v.1.1) ∙ same-quants v.0) k) (x ∙ e))),
        ));
    shapes = λ n j. (
        let y = in-map f n bs j in
        shape-alike f same-id same-quants same-named same-width same-magic root n bs ∙ ap (shape_fits root bs) (sym y.1.1) ∙ shape-loosened y.0 y.1.0);
  }

pub merge-any-shaped : (h : QueryGraph) → Sound h.boxes h.root → Shaped h.boxes h.root → (b c : Node) (us : List OwnedQuant) (rq : OwnedQuant) (vs : List OwnedQuant)
    → MergesAny h.boxes b c us rq vs → MergeFits h b c us rq vs → Shaped (merged_in b c us rq vs h).boxes h.root
merge-any-shaped h w s b c us rq vs m k =
    let same = without-map c.id h.boxes w.ordered in
    subst (λ z. Shaped (compact (on_boxes (λ bs. map (merge_node b.id rq.id c (us ++ (c.quants ++ vs))) z) h)).boxes h.root) same
    (merge-shaped (on_boxes (map (loosened c.id)) h) (sound h.boxes h.root w b c us rq vs m) (shaped-loosened h.boxes h.root w s c m.in_c m.select_c k.not_magic) b (with_distinct Preserve c) us rq vs (merges h.boxes h.root w b c us rq vs m) (record {
      not_fed = k.not_fed;
      not_magic = k.not_magic;
      rows_alone = k.rows_alone;
      fed_open = subst (λ z. FedOpen (compact (on_boxes (λ bs. map (merge_node b.id rq.id c (us ++ (c.quants ++ vs))) z) h)).boxes) (sym same) k.fed_open;
    }))

pub merge-distinct-shaped : (h : QueryGraph) → Sound h.boxes h.root → Shaped h.boxes h.root → (b c : Node) (us : List OwnedQuant) (rq : OwnedQuant) (vs : List OwnedQuant)
    → MergesDistinct h.boxes b c us rq vs → MergeFits h b c us rq vs → Shaped (merged_in b c us rq vs h).boxes h.root
merge-distinct-shaped h w s b c us rq vs m k = merge-any-shaped h w s b c us rq vs (any-of h.boxes b c us rq vs m) k
