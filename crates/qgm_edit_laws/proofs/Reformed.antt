-- Boxes that change and keep numbers and the types of their columns keep types and shapes.
use Rattle.std.proofs.Common.{ℕ, ◌==◌, ◌≡◌, ◌&&◌, ◌-◌, nat_lt, cond, true, false, List, length, Some, None, sym, ap, subst, ◌∙◌, eqb-true, inl, inr}
use Rattle.std.specs.Prelude.{slice_get}
use Rattle.std.specs.List.{list_all}
use Rattle.std.proofs.lemmas.Bool.{and_from, and_parts, cases_Bool}
use Rattle.qgm_core.specs.Boxes.{is_box, width}
use Rattle.qgm_core.specs.Free.{named_by}
use Rattle.qgm_core.specs.Kinds.{is_F_or_S, is_S, is_permit}
use Rattle.list_laws.specs.Lists.{In, first, holds}
use Rattle.qgm_core.specs.declared.node.Node.{Node}
use Rattle.qgm_core.specs.declared.owned.OwnedQuant.{OwnedQuant}
use Rattle.qgm_terms.specs.declared.named.Column.{Column}
use Rattle.qgm_wellformed.specs.Columns.{box_under, columns_fit, columns_of, fits, places_fit, within}
use Rattle.qgm_wellformed.specs.Shapes.{is_scalar, is_scalar_in, magic_found, shape_fits, width_found}
use Rattle.qgm_wellformed.specs.Types.{joined_column, lookup_of, types_by}
use Rattle.qgm_edit_laws.specs.Graph.{Sound}
use Rattle.qgm_edit_laws.specs.Reforms.{Reforms, Reformed}
use Rattle.qgm_edit_laws.specs.Shaped.{Shaped, Typed}
use Rattle.qgm_edit_laws.proofs.Follow.{settled-types, types_at}
use Rattle.qgm_edit_laws.proofs.FreeLoose.{alone-from}
use Rattle.qgm_edit_laws.proofs.Ranks.{has-in}
use Rattle.qgm_edit_laws.proofs.Read.{column-named, is_at}
use Rattle.qgm_edit_laws.proofs.Scope.{in-first}
use Rattle.qgm_edit_laws.proofs.ShapeParts.{shape-moved}
use Rattle.qgm_edit_laws.proofs.TypedKept.{Ranging, found, found-under}
use Rattle.qgm_edit_laws.proofs.HeadTypes.{types-width}
use Rattle.qgm_edit_laws.proofs.TypesBy.{agrees-alike, agrees-as, agrees_by, found_by, head-alike, looked, typed-by, via}
use Rattle.qgm_core.proofs.Reaching.{overs-held}
use Rattle.list_laws.proofs.Membership.{all-from, all-in, any-from, any-in, eq-itself}
use Rattle.list_laws.proofs.Booleans.{clash}

-- a box has as many types as columns
pub wide-types : (bs : List Node) (root : ℕ) → Sound bs root → (n : Node) → In n bs → length (types_at bs n.id) ≡ width n
wide-types bs root w n i = ap length (settled-types bs root w n i) ∙ types-width (lookup_of bs) n.parts.kind n.parts.head

-- columns that fit do where each is looked for in a box of the same width
pub columns-moved : (bs hs : List Node) (n : Node)
    → ((q : ℕ) → holds q (named_by n) ≡ true → (u : Node) × ((x : Node) × ((box_under bs q ≡ Some u) × ((box_under hs q ≡ Some x) × (width x ≡ width u)))))
    → columns_fit bs n ≡ true → columns_fit hs n ≡ true
columns-moved bs hs n under h =
    let f = and_parts (places_fit n.parts.kind) (list_all (λ (d : Column). fits d.place (box_under bs d.quant)) (columns_of n)) h in
    and_from (places_fit n.parts.kind) (list_all (λ (d : Column). fits d.place (box_under hs d.quant)) (columns_of n)) f.0 (all-from (λ (d : Column). fits d.place (box_under hs d.quant)) (columns_of n) (λ d j. one d
    (column-named d.quant d.place n (any-from (is_at d.quant d.place) d (columns_of n) j (and_from (d.quant == d.quant) (d.place == d.place) (eq-itself d.quant) (eq-itself d.place))))
    (all-in (λ (d : Column). fits d.place (box_under bs d.quant)) d (columns_of n) f.1 j)))
  where
    one : (d : Column) → holds d.quant (named_by n) ≡ true → fits d.place (box_under bs d.quant) ≡ true → fits d.place (box_under hs d.quant) ≡ true
    one d k t = let u = under d.quant k in ap (fits d.place) u.1.1.1.0 ∙ ap (λ z. within z d.place) u.1.1.1.1 ∙ sym (ap (fits d.place) u.1.1.0) ∙ t

module _ (bs hs : List Node) (root : ℕ) (g : Node → Node) (w : Sound bs root) (v : Sound hs root) (m : Reforms bs hs root g) where
  width-g : (y : Node) → In y bs → width (g y) ≡ width y
  width-g y i = sym (types-width (lookup_of bs) (g y).parts.kind (g y).parts.head) ∙ ap length (m.stay y i) ∙ types-width (lookup_of bs) y.parts.kind y.parts.head

  -- the box under a quantifier that a box names, before and after
  under : (n : Node) → In n hs → (q : ℕ) → holds q (named_by n) ≡ true
      → (u : Node) × ((x : Node) × ((box_under bs q ≡ Some u) × ((box_under hs q ≡ Some x) × ((width x ≡ width u) × (types_at bs x.id ≡ types_at bs u.id)))))
  under n i q h =
      let f = found hs root v n i q h in
      let o = m.from f.owner f.owner_in in
      let z = m.from n i in
      let x = m.from f.box f.box_in in
      let named : holds f.quant.id (named_by (g z.0)) ≡ true = subst (λ k. holds k (named_by (g z.0)) ≡ true) (sym f.is_q) (subst (λ (y : Node). holds q (named_by y) ≡ true) (sym z.1.1) h) in
      let s = m.stood o.0 z.0 f.quant o.1.0 (subst (λ (y : Node). In f.quant y.quants) (sym o.1.1) f.quant_in) z.1.0 named in
      let u = has-in s.1.1.0.over bs (overs-held bs s.0 s.1.1.0 w.ordered s.1.0 s.1.1.1.0) in
      let was : Ranging bs q = record { owner = s.0; quant = s.1.1.0; box = u.0; owner_in = s.1.0; quant_in = s.1.1.1.0; is_q = s.1.1.1.1.0 ∙ f.is_q; box_in = u.1.0; is_over = u.1.1 } in
      let types : types_at bs f.box.id ≡ types_at bs u.0.id = ap (types_at bs) f.is_over ∙ sym s.1.1.1.1.1 ∙ ap (types_at bs) (sym u.1.1) in
      let id : x.0.id ≡ f.box.id = sym (m.id x.0) ∙ ap (λ (y : Node). y.id) x.1.1 in
      let wide : width f.box ≡ width u.0 = sym (ap width x.1.1) ∙ width-g x.0 x.1.0 ∙ sym (wide-types bs root w x.0 x.1.0) ∙ ap (λ k. length (types_at bs k)) id ∙ ap length types ∙ wide-types bs root w u.0 u.1.0 in
      (u.0, (f.box, (found-under bs root w q was, (found-under hs root v q f, (wide, types)))))

  -- ---- types

  looks : (n : Node) → In n hs → (q : ℕ) → holds q (named_by n) ≡ true → (k : ℕ) → via (types_at bs) hs q k ≡ lookup_of bs q k
  looks n i q h k =
      let u = under n i q h in
      ap (found_by (types_at bs) k) u.1.1.1.0 ∙ ap (λ z. cond (k == 0) None (joined_column (slice_get z (k - 1)))) u.1.1.1.1.1 ∙ sym (ap (found_by (types_at bs) k) u.1.1.0) ∙ sym (looked bs q k)

  own : (n : Node) → In n hs → types_at bs n.id ≡ types_by (via (types_at bs) hs) n.parts.kind n.parts.head
  own n i =
      let y = m.from n i in
      let same : types_by (lookup_of bs) y.0.parts.kind y.0.parts.head ≡ types_by (lookup_of bs) n.parts.kind n.parts.head =
      sym (m.stay y.0 y.1.0) ∙ ap (λ (z : Node). types_by (lookup_of bs) z.parts.kind z.parts.head) y.1.1 in
      ap (types_at bs) (sym (ap (λ (z : Node). z.id) y.1.1) ∙ m.id y.0) ∙ settled-types bs root w y.0 y.1.0 ∙ same ∙ sym (head-alike (via (types_at bs) hs) (lookup_of bs) n (looks n i))

  pub typed-after : Typed hs
  typed-after = typed-by hs root v (types_at bs) own (λ n i. (
      let y = m.from n i in
      agrees-alike (via (types_at bs) hs) (lookup_of bs) n (looks n i) (types_at bs)
      ∙ ap (agrees_by (lookup_of bs) (types_at bs)) (sym y.1.1) ∙ sym (agrees-as bs (g y.0)) ∙ m.types y.0 y.1.0))

  -- ---- shapes

  -- the box of a number, before and after
  boxes : (n : Node) (r : OwnedQuant) → In n hs → In r n.quants → (y : Node) × (In y bs × ((y.id ≡ r.over) × ((first (is_box r.over) bs ≡ Some y) × (first (is_box r.over) hs ≡ Some (g y)))))
  boxes n r i j =
      let x = has-in r.over hs (overs-held hs n r v.ordered i j) in
      let y = m.from x.0 x.1.0 in
      let id : y.0.id ≡ r.over = sym (m.id y.0) ∙ ap (λ (z : Node). z.id) y.1.1 ∙ x.1.1 in (
        y.0,
        (
          y.1.0,
          (
            id,
            (
              subst (λ b. first (is_box b) bs ≡ Some y.0) id (in-first y.0 bs w.ordered y.1.0),
              ap (λ b. first (is_box b) hs) (sym x.1.1) ∙ in-first x.0 hs v.ordered x.1.0 ∙ ap (λ (z : Node). Some z) (sym y.1.1),
            ),
          ),
        ),
      )

  scalar-wide : (n : Node) → In n hs → is_scalar hs n.id ≡ true → nat_lt 0 (width n) ≡ true
  scalar-wide n i h =
      let x = any-in (λ (o : Node). is_scalar_in o.quants n.id) hs h in
      let r = any-in (λ (r : OwnedQuant). (r.over == n.id) && is_S r.kind) x.0.quants x.1.1 in
      let t = and_parts (r.0.over == n.id) (is_S r.0.kind) r.1.1 in
      let o = m.from x.0 x.1.0 in
      let y = m.from n i in
      let id : y.0.id ≡ n.id = sym (m.id y.0) ∙ ap (λ (z : Node). z.id) y.1.1 in
      let wide = m.scalars o.0 y.0 r.0 o.1.0 (subst (λ (z : Node). In r.0 z.quants) (sym o.1.1) r.1.0) t.1 y.1.0 (id ∙ sym (eqb-true r.0.over n.id t.0)) in
      ap (λ (z : Node). nat_lt 0 (width z)) (sym y.1.1) ∙ ap (nat_lt 0) (width-g y.0 y.1.0) ∙ wide

  unseen-after : (n : Node) → In n hs → is_permit n.parts.distinct ≡ true → (n.id ≡ root → ⊥) × ((o : Node) (r : OwnedQuant) → In o hs → In r o.quants → r.over ≡ n.id → is_F_or_S r.kind ≡ false)
  unseen-after n i p =
      let y = m.from n i in
      let id : y.0.id ≡ n.id = sym (m.id y.0) ∙ ap (λ (z : Node). z.id) y.1.1 in
      let q : is_permit (g y.0).parts.distinct ≡ true = subst (λ (z : Node). is_permit z.parts.distinct ≡ true) (sym y.1.1) p in (
        λ e. clash (is_permit (g y.0).parts.distinct) q (m.root_seen y.0 y.1.0 (id ∙ e)),
        λ o r j k e. elim (cases_Bool (is_F_or_S r.kind)) [
          | inr f ↦ f
          | inl t ↦ absurd (
              let x = m.from o j in
              clash (is_permit (g y.0).parts.distinct) q (m.unseen x.0 y.0 r x.1.0 (subst (λ (z : Node). In r z.quants) (sym x.1.1) k) t y.1.0 (id ∙ sym e)))
        ],
      )

  pub shaped-after : Shaped hs root
  shaped-after = record {
    columns = λ n i. (let y = m.from n i in columns-moved bs hs n (λ q h. (let u = under n i q h in (u.0, (u.1.0, (u.1.1.0, (u.1.1.1.0, u.1.1.1.1.0)))))) (subst (λ z. columns_fit bs z ≡ true) y.1.1 (m.columns y.0 y.1.0)));
    unseen = unseen-after;
    shapes = λ n i. (
        let y = m.from n i in
        shape-moved root bs hs n
        (λ r j c. (let b = boxes n r i j in ap width_found b.1.1.1.1 ∙ width-g b.0 b.1.0 ∙ sym (ap width_found b.1.1.1.0)))
        (λ r j. (let b = boxes n r i j in ap magic_found b.1.1.1.1 ∙ m.magic b.0 b.1.0 ∙ sym (ap magic_found b.1.1.1.0)))
        (λ f a d e. (let x = m.fed n i f a d e in alone-from hs root v d.over a.id x.0 x.1))
        (scalar-wide n i) (subst (λ z. shape_fits root bs z ≡ true) y.1.1 (m.shapes y.0 y.1.0)));
  }

pub reformed : Reformed
reformed bs hs root g w v m = (typed-after bs hs root g w v m, shaped-after bs hs root g w v m)
