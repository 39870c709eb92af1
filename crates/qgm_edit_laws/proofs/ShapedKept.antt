-- Boxes that the root doesn't reach go, and the others keep their shapes.
use Rattle.std.proofs.Common.{ℕ, ◌==◌, ◌≡◌, ◌&&◌, ◌||◌, cond, nat_lt, not, Bool, true, false, List, [], ◌∷◌, ◌++◌, filter, Option, Some, None, refl, sym, ap, ap₂, subst, ◌∙◌, eqb-true, inl, inr}
use Rattle.std.specs.List.{list_all, list_any, flat_map}
use Rattle.std.proofs.lemmas.Bool.{and_from, and_parts, cases_Bool, not-true, or_cases, or_left, or_right}
use mathlib.Core.Path.{fun_ext}
use Rattle.qgm_core.specs.Boxes.{is_box, is_quant, overs_of, owns, range_in, width}
use Rattle.qgm_core.specs.Free.{free_among, free_in, is_owned, marked, named_by, named_where, put_each, reached}
use Rattle.qgm_core.specs.Kinds.{is_F, is_F_or_S, is_permit, is_plain, is_preserve}
use Rattle.list_laws.specs.Lists.{In, first, holds}
use Rattle.qgm_core.specs.declared.kinds.BoxKind.{BoxKind}
use Rattle.qgm_core.specs.declared.kinds.BoxKind.TheVariants.{Base, Group, OuterJoin, Select, SetOp}
use Rattle.qgm_core.specs.declared.kinds.Role.{Role}
use Rattle.qgm_core.specs.declared.kinds.Role.TheVariants.{Fed, Magic, Plain}
use Rattle.qgm_core.specs.declared.node.Node.{Node}
use Rattle.qgm_core.specs.declared.owned.OwnedQuant.{OwnedQuant}
use Rattle.qgm_terms.specs.declared.named.Column.{Column}
use Rattle.qgm_wellformed.specs.Columns.{box_under, columns_fit, columns_of, fits, over_box, places_fit}
use Rattle.qgm_wellformed.specs.Shapes.{arm_fits, columns_placed, columns_through, fed_by, heads_are, is_scalar, is_scalar_in, kind_fits, magic_found, node_fits, nodes_of, only, role_fits, shape_fits, width_found}
use Rattle.qgm_wellformed.specs.Shapes as shapes
use Rattle.qgm_edit_laws.specs.Graph.{Sound, nodes_in}
use Rattle.qgm_edit_laws.specs.Shaped.{Shaped}
use Rattle.qgm_meaning.specs.Scope.{read_by}
use Rattle.qgm_edit_laws.proofs.Adds.{read-owned}
use Rattle.qgm_edit_laws.proofs.Compact.{compact-sound, in-kept, kept, reached_boxes, reaches}
use Rattle.qgm_edit_laws.proofs.PlacedLists.{first-in}
use Rattle.qgm_edit_laws.proofs.Read.{column-named, is_at, named-split}
use Rattle.qgm_edit_laws.proofs.Scope.{one-owner}
use Rattle.list_laws.proofs.Membership.{all-from, all-in, any-from, any-in, eq-itself, holds-in, in-append, in-map}
use Rattle.list_laws.proofs.Booleans.{clash}

-- ---- what is found among the boxes that are kept

module _ (keep : ℕ → Bool) where
  first-kept : (b : ℕ) → keep b ≡ true → (ns : List Node) → first (is_box b) (kept keep ns) ≡ first (is_box b) ns
  first-kept b k [] = refl
  first-kept b k (n ∷ ns) = elim (cases_Bool (keep n.id)) [
    | inl t ↦ ap (λ (z : Bool). first (is_box b) (cond z (n ∷ kept keep ns) (kept keep ns))) t ∙ ap (λ z. cond (n.id == b) (Some n) z) (first-kept b k ns)
    | inr f ↦ (
        let e : (n.id == b) ≡ false = (elim (cases_Bool (n.id == b)) [ inr g ↦ g | inl t ↦ absurd (clash (keep b) k (subst (λ z. keep z ≡ false) (eqb-true n.id b t) f)) ]) in
        ap (λ (z : Bool). first (is_box b) (cond z (n ∷ kept keep ns) (kept keep ns))) f ∙ first-kept b k ns ∙ sym (ap (λ (z : Bool). cond z (Some n) (first (is_box b) ns)) e))
  ]

  -- marks stay among what is kept
  reached-kept : (marks : List ℕ) (ns : List Node) → ((m : ℕ) → In m marks → keep m ≡ true) → ((n : Node) (r : OwnedQuant) → In n ns → keep n.id ≡ true → In r n.quants → keep r.over ≡ true)
      → (reached marks (kept keep ns) ≡ reached marks ns) × ((m : ℕ) → In m (reached marks ns) → keep m ≡ true)
  reached-kept marks [] h c = (refl, h)
  reached-kept marks (n ∷ ns) h c = elim (cases_Bool (keep n.id)) [
    | inl t ↦ (
        let more : (m : ℕ) → In m (marked marks n) → keep m ≡ true = (λ m i. elim (holds n.id marks) as (λ z. In m (cond z (marks ++ overs_of n) marks) → keep m ≡ true) [
          | true ↦ λ i. elim (in-append m marks (overs_of n) i) [ inl a ↦ h m a | inr a ↦ (let x = in-map (λ (r : OwnedQuant). r.over) m n.quants a in subst (λ z. keep z ≡ true) x.1.1 (c n x.0 (inl refl) t x.1.0)) ]
          | false ↦ λ i. h m i
        ] i) in
        let rest = reached-kept (marked marks n) ns more (λ m r i. c m r (inr i)) in
        (ap (λ (z : Bool). reached marks (cond z (n ∷ kept keep ns) (kept keep ns))) t ∙ rest.0, rest.1))
    | inr f ↦ (
        let off : holds n.id marks ≡ false = (elim (cases_Bool (holds n.id marks)) [ inr g ↦ g | inl u ↦ absurd (clash (keep n.id) (h n.id (holds-in n.id marks u)) f) ]) in
        let same : marked marks n ≡ marks = ap (λ (z : Bool). cond z (marks ++ overs_of n) marks) off in
        let rest = reached-kept marks ns h (λ m r i. c m r (inr i)) in
        (ap (λ (z : Bool). reached marks (cond z (n ∷ kept keep ns) (kept keep ns))) f ∙ rest.0 ∙ ap (λ z. reached z ns) (sym same), λ m i. rest.1 m (subst (λ z. In m (reached z ns)) same i)))
  ]

  module _ (marks : List ℕ) (h : (m : ℕ) → In m marks → keep m ≡ true) where
    unmarked : (n : Node) → keep n.id ≡ false → holds n.id marks ≡ false
    unmarked n f = elim (cases_Bool (holds n.id marks)) [ inr g ↦ g | inl u ↦ absurd (clash (keep n.id) (h n.id (holds-in n.id marks u)) f) ]

    named-kept : (ns : List Node) → flat_map (named_where marks) (kept keep ns) ≡ flat_map (named_where marks) ns
    named-kept [] = refl
    named-kept (n ∷ ns) = elim (cases_Bool (keep n.id)) [
      | inl t ↦ ap (λ (z : Bool). flat_map (named_where marks) (cond z (n ∷ kept keep ns) (kept keep ns))) t ∙ ap (λ z. named_where marks n ++ z) (named-kept ns)
      | inr f ↦ ap (λ (z : Bool). flat_map (named_where marks) (cond z (n ∷ kept keep ns) (kept keep ns))) f ∙ named-kept ns ∙ sym (ap (λ (z : Bool). cond z (named_by n) [] ++ flat_map (named_where marks) ns) (unmarked n f))
    ]

    owned-kept : (q : ℕ) (ns : List Node) → is_owned marks (kept keep ns) q ≡ is_owned marks ns q
    owned-kept q [] = refl
    owned-kept q (n ∷ ns) = elim (cases_Bool (keep n.id)) [
      | inl t ↦ ap (λ (z : Bool). is_owned marks (cond z (n ∷ kept keep ns) (kept keep ns)) q) t ∙ ap (λ z. (holds n.id marks && owns q n) || z) (owned-kept q ns)
      | inr f ↦ ap (λ (z : Bool). is_owned marks (cond z (n ∷ kept keep ns) (kept keep ns)) q) f ∙ owned-kept q ns ∙ sym (ap (λ (z : Bool). (z && owns q n) || is_owned marks ns q) (unmarked n f))
    ]

    among-kept : (ns : List Node) → free_among marks (kept keep ns) ≡ free_among marks ns
    among-kept ns = ap₂ (λ (p : ℕ → Bool) (z : List ℕ). put_each [] (filter (λ q. not (p q)) z)) (fun_ext (λ q. owned-kept q ns)) (named-kept ns)

  free-kept : (b : ℕ) (ns : List Node) → keep b ≡ true → ((n : Node) (r : OwnedQuant) → In n ns → keep n.id ≡ true → In r n.quants → keep r.over ≡ true) → free_in (kept keep ns) b ≡ free_in ns b
  free-kept b ns k c =
      let r = reached-kept (b ∷ []) ns (λ m i. elim i [ inl e ↦ subst (λ z. keep z ≡ true) e k | inr z ↦ elim z [ ] ]) c in
      ap (λ z. free_among z (kept keep ns)) r.0 ∙ among-kept (reached (b ∷ []) ns) r.1 ns

-- these of the boxes are shaped
pub record ShapedOn (on bs : List Node) (root : ℕ) : Type 0 where
  pub columns : (n : Node) → In n on → columns_fit bs n ≡ true
  pub unseen : (n : Node) → In n on → is_permit n.parts.distinct ≡ true → (n.id ≡ root → ⊥) × ((m : Node) (r : OwnedQuant) → In m bs → In r m.quants → r.over ≡ n.id → is_F_or_S r.kind ≡ false)
  pub shapes : (n : Node) → In n on → shape_fits root bs n ≡ true

module _ (bs : List Node) (root : ℕ) (w : Sound bs root) where
  abbrev keep : ℕ → Bool
  keep b = holds b (reached (root ∷ []) bs)

  abbrev ks : List Node
  ks = reached_boxes root bs

  closed : (n : Node) (r : OwnedQuant) → In n bs → keep n.id ≡ true → In r n.quants → keep r.over ≡ true
  closed = (reaches bs root w.ordered).closed

  sound : Sound ks root
  sound = compact-sound bs root w

  under-kept : (o : Node) → In o ks → (r : OwnedQuant) → In r o.quants → first (is_box r.over) ks ≡ first (is_box r.over) bs
  under-kept o i r j = let x = in-kept keep o bs i in first-kept keep r.over (closed o r x.0 x.1 j) bs

  -- the owner of what a kept box names is kept
  named-owner : (n : Node) → In n ks → (q : ℕ) → holds q (named_by n) ≡ true → list_any (owns q) ks ≡ true
  named-owner n i q h = elim (or_cases (read_by n q) (nodes_in q n) (named-split q n h)) [
    | inl a ↦ read-owned ks root sound n q i a
    | inr a ↦ any-from (owns q) n ks i (sound.own_nodes n i q a).0
  ]

  range-in : (q : ℕ) (o : Node) (r : OwnedQuant) → range_in q (Some o) ≡ Some r → In r o.quants
  range-in q o r e = found o.quants e
    where
      found : (rs : List OwnedQuant) → first (is_quant q) rs ≡ Some r → In r rs
      found [] e = absurd (let z : ⊥ = cc in z)
      found (x ∷ rs) e = elim (x.id == q) as (λ t. ◌≡◌ {A = Option OwnedQuant} (cond t (Some x) (first (is_quant q) rs)) (Some r) → In r (x ∷ rs)) [ true ↦ λ e. inl (cc) | false ↦ λ e. inr (found rs e) ] e

  box-kept : (n : Node) → In n ks → (q : ℕ) → holds q (named_by n) ≡ true → box_under ks q ≡ box_under bs q
  box-kept n i q h =
      let x = first-in (owns q) ks (named-owner n i q h) in
      let xb = in-kept keep x.0 bs x.1.1.0 in
      let y = first-in (owns q) bs (any-from (owns q) x.0 bs xb.0 x.1.1.1) in
      let same : y.0 ≡ x.0 = one-owner bs root w q y.0 x.0 y.1.1.0 xb.0 y.1.1.1 x.1.1.1 in
      ap (λ o. over_box ks (range_in q o)) x.1.0 ∙ by x.0 x.1.1.0 (range_in q (Some x.0)) refl ∙ sym (ap (λ o. over_box bs (range_in q o)) (y.1.0 ∙ ap (λ (z : Node). Some z) same))
    where
      by : (o : Node) → In o ks → (z : Option OwnedQuant) → range_in q (Some o) ≡ z → over_box ks (range_in q (Some o)) ≡ over_box bs (range_in q (Some o))
      by o j None e = ap (over_box ks) e ∙ sym (ap (over_box bs) e)
      by o j (Some r) e = ap (over_box ks) e ∙ under-kept o j r (range-in q o r e) ∙ sym (ap (over_box bs) e)

  -- the box under the second quantifier of a box that is kept is open by the same
  pub free-same : (n : Node) → In n ks → (d : OwnedQuant) → In d n.quants → free_in ks d.over ≡ free_in bs d.over
  free-same n i d j = let x = in-kept keep n bs i in free-kept keep d.over bs (closed n d x.0 x.1 j) closed

  fed-kept : (n : Node) → In n ks → (rs : List OwnedQuant) → ((r : OwnedQuant) → In r rs → In r n.quants) → fed_by ks n.parts.head rs ≡ fed_by bs n.parts.head rs
  fed-kept n i [] sub = refl
  fed-kept n i (a ∷ []) sub = refl
  fed-kept n i (a ∷ (d ∷ [])) sub =
      let ea = under-kept n i a (sub a (inl refl)) in
      let ed = under-kept n i d (sub d (inr (inl refl))) in
      let ef = free-same n i d (sub d (inr (inl refl))) in
      ap₂ (λ (u v : Option Node). is_F a.kind && is_F d.kind && magic_found u && only a.id (free_in ks d.over) && heads_are n.parts.head (shapes.columns_from a.id 1 (width_found u) ++ shapes.columns_from d.id 1 (width_found v))) ea ed
      ∙ ap (λ z. is_F a.kind && is_F d.kind && magic_found (first (is_box a.over) bs) && only a.id z && heads_are n.parts.head (columns_through bs a ++ columns_through bs d)) ef
  fed-kept n i (a ∷ (d ∷ (e ∷ rs))) sub = refl

  role-kept : (n : Node) → In n ks → (k : Role) → role_fits root bs n k ≡ true → role_fits root ks n k ≡ true
  role-kept n i Plain h = refl
  role-kept n i Magic h = h
  role-kept n i Fed h = ap (λ z. not (n.id == root) && is_preserve n.parts.distinct && shapes.is_none n.parts.conds.items && z) (fed-kept n i n.quants (λ r j. j)) ∙ h

  kind-kept : (n : Node) → In n ks → (k : BoxKind) → kind_fits root bs n k ≡ true → kind_fits root ks n k ≡ true
  kind-kept n i (Base t) h = h
  kind-kept n i Select h = let x = and_parts (shapes.is_unfolded n) (role_fits root bs n n.parts.role) h in and_from (shapes.is_unfolded n) (role_fits root ks n n.parts.role) x.0 (role-kept n i n.parts.role x.1)
  kind-kept n i (Group k) h = h
  kind-kept n i (SetOp form types) h = ap (λ z. shapes.are_F 2 n.quants && z && nat_lt 0 (width n) && shapes.is_none n.parts.conds.items && shapes.is_none n.parts.head && is_plain n.parts.role) (arms-same n.quants (λ r j. j)) ∙ h
    where
      arms-same : (rs : List OwnedQuant) → ((r : OwnedQuant) → In r rs → In r n.quants) → list_all (arm_fits ks (width n)) rs ≡ list_all (arm_fits bs (width n)) rs
      arms-same [] sub = refl
      arms-same (r ∷ rs) sub = ap₂ (λ (o : Option Node) (z : Bool). (width_found o == width n) && z) (under-kept n i r (sub r (inl refl))) (arms-same rs (λ x j. sub x (inr j)))
  kind-kept n i OuterJoin h = h

  scalar-was : (b : ℕ) → is_scalar ks b ≡ true → is_scalar bs b ≡ true
  scalar-was b h = let x = any-in (λ (n : Node). is_scalar_in n.quants b) ks h in any-from (λ (n : Node). is_scalar_in n.quants b) x.0 bs (in-kept keep x.0 bs x.1.0).0 x.1.1

  module _ (s : ShapedOn ks bs root) where
    columns-kept : (n : Node) → In n ks → columns_fit ks n ≡ true
    columns-kept n i =
        let x = in-kept keep n bs i in
        let f = and_parts (places_fit n.parts.kind) (list_all (λ (c : Column). fits c.place (box_under bs c.quant)) (columns_of n)) (s.columns n i) in
        and_from (places_fit n.parts.kind) (list_all (λ (c : Column). fits c.place (box_under ks c.quant)) (columns_of n)) f.0 (all-from (λ (c : Column). fits c.place (box_under ks c.quant)) (columns_of n) (λ c j.
        ap (fits c.place) (box-kept n i c.quant (column-named c.quant c.place n (any-from (is_at c.quant c.place) c (columns_of n) j (and_from (c.quant == c.quant) (c.place == c.place) (eq-itself c.quant) (eq-itself c.place)))))
        ∙ all-in (λ (c : Column). fits c.place (box_under bs c.quant)) c (columns_of n) f.1 j))

    shape-kept : (n : Node) → In n ks → shape_fits root ks n ≡ true
    shape-kept n i =
        let h = s.shapes n i in
        let a = and_parts ((kind_fits root bs n n.parts.kind && list_all (node_fits n.quants) (nodes_of n)) && columns_placed n) (not (is_scalar bs n.id) || nat_lt 0 (width n)) h in
        let d = and_parts (kind_fits root bs n n.parts.kind && list_all (node_fits n.quants) (nodes_of n)) (columns_placed n) a.0 in
        let e = and_parts (kind_fits root bs n n.parts.kind) (list_all (node_fits n.quants) (nodes_of n)) d.0 in
        and_from ((kind_fits root ks n n.parts.kind && list_all (node_fits n.quants) (nodes_of n)) && columns_placed n) (not (is_scalar ks n.id) || nat_lt 0 (width n))
        (and_from (kind_fits root ks n n.parts.kind && list_all (node_fits n.quants) (nodes_of n)) (columns_placed n) (and_from (kind_fits root ks n n.parts.kind) (list_all (node_fits n.quants) (nodes_of n)) (kind-kept n i n.parts.kind e.0) e.1) d.1)
        (elim (cases_Bool (is_scalar ks n.id)) [
          | inr f ↦ or_left (not (is_scalar ks n.id)) (nat_lt 0 (width n)) (ap not f)
          | inl t ↦ or_right (not (is_scalar ks n.id)) (nat_lt 0 (width n)) (elim (or_cases (not (is_scalar bs n.id)) (nat_lt 0 (width n)) a.1) [ inl y ↦ absurd (clash (is_scalar bs n.id) (scalar-was n.id t) (not-true (is_scalar bs n.id) y)) | inr y ↦ y ])
        ])

    pub shaped-on : Shaped ks root
    shaped-on = record {
      columns = columns-kept;
      unseen = λ n i p. (let x = s.unseen n i p in (x.0, λ m r j l e. x.1 m r (in-kept keep m bs j).0 l e));
      shapes = shape-kept;
    }

  pub shaped-compact : Shaped bs root → Shaped ks root
  shaped-compact s = shaped-on (record {
    columns = λ n i. s.columns n (in-kept keep n bs i).0;
    unseen = λ n i p. s.unseen n (in-kept keep n bs i).0 p;
    shapes = λ n i. s.shapes n (in-kept keep n bs i).0;
  })
