-- What rules need of a graph is what its check finds.
use Rattle.std.proofs.Common.{ℕ, ◌==◌, ◌≡◌, ◌&&◌, ◌||◌, ◌≤◌, ◌↔◌, nat_le, nat_lt, cond, not, Bool, true, false, List, [], ◌∷◌, ◌++◌, take, length, Some, None, refl, sym, ap, ap₂, subst, ◌∙◌, eqb-true, ◌⊎◌, inl, inr, arith}
use Rattle.std.specs.List.{list_any, list_all}
use Rattle.std.proofs.lemmas.Bool.{and_from, and_parts, cases_Bool, eq-eqb, leb-true, ltb-true, not-true, or_cases, or_left, or_right}
use Rattle.qgm_core.specs.declared.node.Node.{Node}
use Rattle.qgm_core.specs.declared.owned.OwnedQuant.{OwnedQuant}
use Rattle.qgm_core.specs.declared.kinds.BoxKind.{BoxKind}
use Rattle.qgm_core.specs.declared.kinds.BoxKind.TheVariants.{Base, Select, Group, SetOp, OuterJoin}
use Rattle.qgm_core.specs.declared.kinds.QuantKind.{QuantKind}
use Rattle.qgm_core.specs.declared.kinds.QuantKind.TheVariants.{F, E, A, S}
use Rattle.qgm_core.specs.Boxes.{HasBox, HasQuant, Ordered, QueryGraph, has_box, ids_in, ids_of, is_box, is_quant, numbers, overs_in, overs_of, owns, range_in, width}
use Rattle.qgm_core.specs.Free.{IsFree, Reaches, itself, named_by, reached, through}
use Rattle.qgm_core.specs.Kinds.{is_A, is_E, is_F, is_S, is_plain, is_select}
use Rattle.list_laws.specs.Lists.{EachOnce, In, first, holds, times}
use Rattle.qgm_meaning.specs.Scope.{read_by}
use Rattle.qgm_terms.specs.declared.named.Column.{Column}
use Rattle.qgm_terms.specs.declared.named.QuantNode.{QuantNode}
use Rattle.qgm_terms.specs.declared.named.QuantNode.TheVariants as node
use Rattle.qgm_wellformed.specs.Columns.{box_under, columns_fit, columns_of, fits, over_box, places_fit}
use Rattle.qgm_wellformed.specs.Sentences.{IsKept, WellFormed}
use Rattle.qgm_wellformed.specs.Shapes.{arm_fits, are_F, columns_placed, is_among, is_none, is_scalar, is_set_op, kind_fits, node_fits, nodes_of, shape_fits, width_found}
use Rattle.qgm_wellformed.specs.Shapes as shapes
use Rattle.qgm_wellformed.specs.View as view
use Rattle.qgm_wellformed.specs.View.{is_row}
use Rattle.qgm_wellformed.specs.WellFormed.{fault}
use Rattle.qgm_wellformed.specs.declared.clause.Clause.{Clause}
use Rattle.qgm_wellformed.specs.declared.clause.Clause.TheVariants.{I1, I2, I3, I4, I5, I6, I7, I8, I9}
use Rattle.qgm_core.proofs.Reaching.{in-has, overs-held, reached-reaches}
use Rattle.qgm_wellformed.proofs.Faults.{finds-none}
use Rattle.qgm_wellformed.proofs.Seen.{viewers-see}
use Rattle.qgm_edit_laws.specs.Checked.{Checked, own_seen, read_free, scoped, scoped_by, shown, viewers}
use Rattle.qgm_edit_laws.specs.Graph.{ArmsBy, BareBy, Fits, Sound, binds_row, nodes_in, reads_in}
use Rattle.qgm_edit_laws.specs.Placed.{Placed}
use Rattle.qgm_edit_laws.specs.Shaped.{Shaped, Typed}
use Rattle.qgm_edit_laws.proofs.Adds.{read-owned, seen-owned}
use Rattle.qgm_edit_laws.proofs.Checked.{free-loose, settled-from, to-checked, used-from}
use Rattle.qgm_edit_laws.proofs.PlacedLists.{first-in}
use Rattle.qgm_edit_laws.proofs.PlacedOne.{owned-in, unowned-times}
use Rattle.qgm_edit_laws.proofs.Ranks.{has-in}
use Rattle.qgm_edit_laws.proofs.Read.{columns-listed, is_at, is_of, named-split, nodes-listed, read-named}
use Rattle.qgm_edit_laws.proofs.Scope.{in-first, owned-times}
use Rattle.qgm_edit_laws.proofs.Scoped.{few-ids}
use Rattle.qgm_edit_laws.proofs.Turns.{first-own}
use Rattle.list_laws.proofs.Counting.{times-once}
use Rattle.list_laws.proofs.Membership.{all-from, all-in, any-from, any-in, any-not, eq-itself, in-right}
use Rattle.list_laws.proofs.Booleans.{clash}

-- ---- the pass that finds who sees a quantifier

and-swap : (a b : Bool) → (a && b) ≡ (b && a)
and-swap true true = refl
and-swap true false = refl
and-swap false true = refl
and-swap false false = refl

row-is : (q : ℕ) (rs : List OwnedQuant) → is_row q rs ≡ binds_row q rs
row-is q [] = refl
row-is q (r ∷ rs) = ap₂ (λ a b. a || b) (and-swap (is_quant q r) (is_F r.kind)) (row-is q rs)

scoped-is : (q : ℕ) (own met : Bool) (rs : List OwnedQuant) → view.scoped q own met rs ≡ scoped q own met rs
scoped-is q own met [] = refl
scoped-is q own met (r ∷ rs) = ap (λ (t : Bool). cond (cond (is_F r.kind) met own) (r.over ∷ []) [] ++ view.scoped q own (met || t) rs) (and-swap (is_quant q r) (is_F r.kind)) ∙ ap (λ x. cond (cond (is_F r.kind) met own) (r.over ∷ []) [] ++ x) (scoped-is q own (met || (is_F r.kind && is_quant q r)) rs)

shown-is : (q : ℕ) (marks : List ℕ) (n : Node) → view.shown_by q marks n ≡ shown q marks n
shown-is q marks n = ap (λ x. cond (holds n.id marks) (overs_of n) x) (by n.parts.kind)
  where
    by : (k : BoxKind) → cond (is_select k) (view.scoped q (is_row q n.quants) false n.quants) [] ≡ scoped_by k q n.quants
    by (Base t) = refl
    by Select = ap (λ b. view.scoped q b false n.quants) (row-is q n.quants) ∙ scoped-is q (binds_row q n.quants) false n.quants
    by (Group k) = refl
    by (SetOp form w) = refl
    by OuterJoin = refl

viewers-is : (q : ℕ) (marks : List ℕ) (ns : List Node) → view.viewers q marks ns ≡ viewers q marks ns
viewers-is q marks [] = refl
viewers-is q marks (n ∷ ns) = ap (λ x. view.viewers q (marks ++ x) ns) (shown-is q marks n) ∙ viewers-is q (marks ++ shown q marks n) ns

-- ---- lists

take-all : {X : Type 0} (rs : List X) → take (length rs) rs ≡ rs
take-all [] = refl
take-all (r ∷ rs) = ap (λ z. r ∷ z) (take-all rs)

none-empty : {X : Type 0} (xs : List X) → is_none xs ≡ true → xs ≡ []
none-empty [] h = refl
none-empty (x ∷ xs) h = absurd (let z : ⊥ = cc in z)

module _ (bs : List Node) (o : Ordered bs) (once : (q : ℕ) → times q (ids_in bs) ≤ 1) where
  one-owner : (q : ℕ) (n m : Node) → In n bs → In m bs → owns q n ≡ true → owns q m ≡ true → n ≡ m
  one-owner q n m i j h k = times-once ids_of q n m bs (once q) i j (owned-times q n h) (owned-times q m k)

  pub under-is : (n : Node) (r : OwnedQuant) (m : Node) → In n bs → In r n.quants → In m bs → m.id ≡ r.over → box_under bs r.id ≡ Some m
  under-is n r m i j k e =
      let own : owns r.id n ≡ true = any-from (is_quant r.id) r n.quants j (eq-itself r.id) in
      let x = first-in (owns r.id) bs (any-from (owns r.id) n bs i own) in
      let same : x.0 ≡ n = one-owner r.id x.0 n x.1.1.0 i x.1.1.1 own in
      ap (λ z. over_box bs (range_in r.id z)) (x.1.0 ∙ ap (λ (z : Node). Some z) same)
      ∙ ap (over_box bs) (first-own r n.quants (few-ids bs n r.id (once r.id) i) j) ∙ ap (λ z. first (is_box z) bs) (sym e) ∙ in-first m bs o k

  -- I4 of what is read
  pub fits-of : (n : Node) → columns_fit bs n ≡ true → (q k : ℕ) → reads_in q k n ≡ true → Fits bs q k
  fits-of n h q k t a r c ia ir e ic v =
      let ps = and_parts (places_fit n.parts.kind) (list_all (λ (c : Column). fits c.place (box_under bs c.quant)) (columns_of n)) h in
      let x = any-in (is_at q k) (columns_of n) (columns-listed q k n t) in
      let f = all-in (λ (c : Column). fits c.place (box_under bs c.quant)) x.0 (columns_of n) ps.1 x.1.0 in
      let y = and_parts (x.0.quant == q) (x.0.place == k) x.1.1 in
      let g : fits k (Some c) ≡ true = ap (fits k) (sym (ap (λ z. box_under bs z) (eqb-true x.0.quant q y.0 ∙ sym e) ∙ under-is a r c ia ir ic v)) ∙ ap (λ z. fits z (box_under bs x.0.quant)) (sym (eqb-true x.0.place k y.1)) ∙ f in
      let w = and_parts (nat_lt 0 k) (nat_le k (width c)) g in
      let l = ltb-true 0 k w.0 in
      (omega arith, leb-true k (width c) w.1)

  -- nodes of the box's own quantifiers
  module _ (n : Node) (i : In n bs) where
    pub same-quant : (r s : OwnedQuant) → In r n.quants → In s n.quants → r.id ≡ s.id → r ≡ s
    same-quant r s j k e =
        let few = few-ids bs n r.id (once r.id) i in
        let a = first-own r n.quants few j in
        let b = first-own s n.quants (subst (λ z. times z (ids_of n) ≤ 1) e few) k in
        let c : Some r ≡ Some s = sym a ∙ ap (λ z. first (is_quant z) n.quants) e ∙ b in cc

    of-kind : (p : QuantKind → Bool) → ((k : QuantKind) → p k ≡ true → is_F k ≡ false) → (q : ℕ) → is_among p q n.quants ≡ true → (owns q n ≡ true) × (binds_row q n.quants ≡ false)
    of-kind p apart q h =
        let x = any-in (λ (r : OwnedQuant). is_quant q r && p r.kind) n.quants h in
        let y = and_parts (is_quant q x.0) (p x.0.kind) x.1.1 in (
          any-from (is_quant q) x.0 n.quants x.1.0 y.0,
          any-not (λ (r : OwnedQuant). is_F r.kind && is_quant q r) n.quants (λ s j. elim (cases_Bool (is_F s.kind && is_quant q s)) [
            | inr f ↦ f
            | inl t ↦ (
                let z = and_parts (is_F s.kind) (is_quant q s) t in
                let e : s ≡ x.0 = same-quant s x.0 j x.1.0 (eqb-true s.id q z.1 ∙ sym (eqb-true x.0.id q y.0)) in
                absurd (clash (is_F s.kind) z.0 (subst (λ (u : OwnedQuant). is_F u.kind ≡ false) (sym e) (apart x.0.kind y.1))))
          ]),
        )

    pub nodes-own : list_all (node_fits n.quants) (nodes_of n) ≡ true → (q : ℕ) → nodes_in q n ≡ true → (owns q n ≡ true) × (binds_row q n.quants ≡ false)
    nodes-own h q t =
        let x = any-in (is_of q) (nodes_of n) (nodes-listed q n ∙ t) in
        by x.0 (all-in (node_fits n.quants) x.0 (nodes_of n) h x.1.0) x.1.1
      where
        by : (x : QuantNode) → node_fits n.quants x ≡ true → is_of q x ≡ true → (owns q n ≡ true) × (binds_row q n.quants ≡ false)
        by (node.Scalar r) f e = of-kind is_S (λ k h. scalar k h) q (subst (λ z. is_among is_S z n.quants ≡ true) (eqb-true r q e) f)
          where
            scalar : (k : QuantKind) → is_S k ≡ true → is_F k ≡ false
            scalar F h = absurd (let z : ⊥ = cc in z)
            scalar E h = refl
            scalar A h = refl
            scalar S h = refl
        by (node.Some r) f e = of-kind is_E (λ k h. exists k h) q (subst (λ z. is_among is_E z n.quants ≡ true) (eqb-true r q e) f)
          where
            exists : (k : QuantKind) → is_E k ≡ true → is_F k ≡ false
            exists F h = absurd (let z : ⊥ = cc in z)
            exists E h = refl
            exists A h = refl
            exists S h = refl
        by (node.Every r) f e = of-kind is_A (λ k h. all k h) q (subst (λ z. is_among is_A z n.quants ≡ true) (eqb-true r q e) f)
          where
            all : (k : QuantKind) → is_A k ≡ true → is_F k ≡ false
            all F h = absurd (let z : ⊥ = cc in z)
            all E h = refl
            all A h = refl
            all S h = refl

  -- ---- shapes
  module _ (root : ℕ) (n : Node) (i : In n bs) (h : shape_fits root bs n ≡ true) where
    abbrev kindly : Bool
    kindly = kind_fits root bs n n.parts.kind

    abbrev nodely : Bool
    nodely = list_all (node_fits n.quants) (nodes_of n)

    abbrev placed : Bool
    placed = columns_placed n

    parts-of : ((kindly ≡ true) × (nodely ≡ true)) × (placed ≡ true)
    parts-of =
        let a = and_parts ((kindly && nodely) && placed) (not (is_scalar bs n.id) || nat_lt 0 (width n)) h in
        let b = and_parts (kindly && nodely) placed a.0 in
        (and_parts kindly nodely b.0, b.1)

    set-parts : is_set_op bs n ≡ true → ((are_F 2 n.quants ≡ true) × (list_all (arm_fits bs (width n)) n.quants ≡ true)) × ((n.parts.conds.items ≡ []) × (n.parts.head ≡ []))
    set-parts f =
        let a = and_parts ((((are_F 2 n.quants && list_all (arm_fits bs (width n)) n.quants) && nat_lt 0 (width n)) && is_none n.parts.conds.items) && is_none n.parts.head) (is_plain n.parts.role) f in
        let b = and_parts (((are_F 2 n.quants && list_all (arm_fits bs (width n)) n.quants) && nat_lt 0 (width n)) && is_none n.parts.conds.items) (is_none n.parts.head) a.0 in
        let c = and_parts ((are_F 2 n.quants && list_all (arm_fits bs (width n)) n.quants) && nat_lt 0 (width n)) (is_none n.parts.conds.items) b.0 in
        let d = and_parts (are_F 2 n.quants && list_all (arm_fits bs (width n)) n.quants) (nat_lt 0 (width n)) c.0 in
        (and_parts (are_F 2 n.quants) (list_all (arm_fits bs (width n)) n.quants) d.0, (none-empty n.parts.conds.items c.1, none-empty n.parts.head b.1))

    pub bare-by : (k : BoxKind) → kind_fits root bs n k ≡ true → BareBy k n
    bare-by (Base t) f =
        let a = and_parts ((is_none n.quants && is_none n.parts.conds.items) && is_none n.parts.head) (is_plain n.parts.role) f in
        let b = and_parts (is_none n.quants && is_none n.parts.conds.items) (is_none n.parts.head) a.0 in
        let c = and_parts (is_none n.quants) (is_none n.parts.conds.items) b.0 in
        (none-empty n.quants c.0, none-empty n.parts.head b.1, none-empty n.parts.conds.items c.1)
    bare-by Select f = tt
    bare-by (Group k) f = tt
    bare-by (SetOp form w) f = let x = set-parts f in (x.1.1, x.1.0)
    bare-by OuterJoin f = tt

    pub arms-by : (k : BoxKind) → kind_fits root bs n k ≡ true → (m : Node) (r : OwnedQuant) → In r n.quants → In m bs → m.id ≡ r.over → ArmsBy k (width m) (width n)
    arms-by (Base t) f m r j l e = tt
    arms-by Select f m r j l e = tt
    arms-by (Group k) f m r j l e = tt
    arms-by (SetOp form w) f m r j l e =
        let a = all-in (arm_fits bs (width n)) r n.quants (set-parts f).0.1 j in
        let b : first (is_box r.over) bs ≡ Some m = ap (λ z. first (is_box z) bs) (sym e) ∙ in-first m bs o l in
        let e1 : width m ≡ width_found (first (is_box r.over) bs) = ap width_found (sym b) in
        let e2 : width_found (first (is_box r.over) bs) ≡ width n = eqb-true (width_found (first (is_box r.over) bs)) (width n) a in e1 ∙ e2
    arms-by OuterJoin f m r j l e = tt

    all-taken : (m : ℕ) → are_F m n.quants ≡ true → take m n.quants ≡ n.quants
    all-taken m f = let a = and_parts (length n.quants == m) (shapes.all_F n.quants) f in ap (λ z. take z n.quants) (sym (eqb-true (length n.quants) m a.0)) ∙ take-all n.quants

    -- a quantifier of its own that it reads is bound where it reads it
    own-by : (k : BoxKind) → kind_fits root bs n k ≡ true → (q : ℕ) → owns q n ≡ true → read_by n q ≡ true → own_seen k n q ≡ true
    own-by (Base t) f q u t2 = absurd (let b = bare-by (Base t) f in clash (read_by n q) t2 (ap₂ (λ h c. read_by (record n { parts = record n.parts { head = h; conds = record n.parts.conds { items = c } } }) q) b.1 b.2))
    own-by Select f q u t =
        let x = any-in (is_quant q) n.quants u in
        let p = all-in (λ (r : OwnedQuant). is_F r.kind || not (shapes.looks_up r.id n)) x.0 n.quants parts-of.1 x.1.0 in
        any-from (λ (r : OwnedQuant). is_F r.kind && is_quant q r) x.0 n.quants x.1.0 (and_from (is_F x.0.kind) (is_quant q x.0) (elim (or_cases (is_F x.0.kind) (not (shapes.looks_up x.0.id n)) p) [
          | inl a ↦ a
          | inr a ↦ absurd (clash (read_by n q) t (subst (λ z. read_by n z ≡ false) (eqb-true x.0.id q x.1.1) (not-true (shapes.looks_up x.0.id n) a)))
        ]) x.1.1)
    own-by (Group k) f q u t =
        let a = and_parts (((are_F 1 n.quants && is_none n.parts.conds.items) && is_plain n.parts.role) && shapes.head_folds k n.parts.head) (shapes.head_is_own n) f in
        let b = and_parts ((are_F 1 n.quants && is_none n.parts.conds.items) && is_plain n.parts.role) (shapes.head_folds k n.parts.head) a.0 in
        let c = and_parts (are_F 1 n.quants && is_none n.parts.conds.items) (is_plain n.parts.role) b.0 in
        let d = and_parts (are_F 1 n.quants) (is_none n.parts.conds.items) c.0 in
        ap (list_any (is_quant q)) (all-taken 1 d.0) ∙ u
    own-by (SetOp form w) f q u t = absurd (let b = bare-by (SetOp form w) f in clash (read_by n q) t (ap₂ (λ h c. read_by (record n { parts = record n.parts { head = h; conds = record n.parts.conds { items = c } } }) q) b.0 b.1))
    own-by OuterJoin f q u t =
        let a = and_parts (((are_F 2 n.quants && list_all shapes.is_column n.parts.head) && shapes.head_is_own n) && shapes.is_unfolded n) (is_plain n.parts.role) f in
        let b = and_parts ((are_F 2 n.quants && list_all shapes.is_column n.parts.head) && shapes.head_is_own n) (shapes.is_unfolded n) a.0 in
        let c = and_parts (are_F 2 n.quants && list_all shapes.is_column n.parts.head) (shapes.head_is_own n) b.0 in
        let d = and_parts (are_F 2 n.quants) (list_all shapes.is_column n.parts.head) c.0 in
        ap (list_any (is_quant q)) (all-taken 2 d.0) ∙ u

-- ---- from the check

module _ (g : QueryGraph) (u : EachOnce (numbers g.boxes)) (k2 : (n : Node) → In n g.boxes → IsKept I2 g n) (k3 : (n : Node) → In n g.boxes → IsKept I3 g n) where
  ordered-by : (up ns : List Node) → g.boxes ≡ up ++ ns → EachOnce (numbers ns) → Ordered ns
  ordered-by up [] e v = tt
  ordered-by up (n ∷ ns) e v = (
    absent n.id ns v.0,
    all-from (λ r. has_box ns r.over) n.quants (λ r j. k3 n (subst (λ z. In n z) (sym e) (in-right n up (n ∷ ns) (inl refl))) up ns e r j),
    ordered-by (up ++ n ∷ []) ns (e ∙ sym (append-one up n ns)) v.1,
  )
    where
      append-one : (xs : List Node) (x : Node) (ys : List Node) → (xs ++ x ∷ []) ++ ys ≡ xs ++ x ∷ ys
      append-one [] x ys = refl
      append-one (z ∷ xs) x ys = ap (λ t. z ∷ t) (append-one xs x ys)

      absent : (b : ℕ) (ms : List Node) → holds b (numbers ms) ≡ false → has_box ms b ≡ false
      absent b [] h = refl
      absent b (m ∷ ms) h = elim (m.id == b) as (λ t. (t || holds b (numbers ms)) ≡ false → (t || has_box ms b) ≡ false) [ true ↦ λ h. h | false ↦ λ h. absent b ms h ] h

  ordered-of : Ordered g.boxes
  ordered-of = ordered-by [] g.boxes refl u

  once-of : (q : ℕ) → times q (ids_in g.boxes) ≤ 1
  once-of q = elim (cases_Bool (list_any (owns q) g.boxes)) [
    | inr f ↦ (let a = unowned-times q g.boxes f in omega arith)
    | inl t ↦ (
        let x = any-in (owns q) g.boxes t in
        let r = any-in (is_quant q) x.0.quants x.1.1 in
        let a : times q (ids_in g.boxes) ≡ 1 = subst (λ z. times z (ids_in g.boxes) ≡ 1) (eqb-true r.0.id q r.1.1) (k2 x.0 x.1.0 r.0 r.1.0) in omega arith)
  ]

module _ (g : QueryGraph) (u : EachOnce (numbers g.boxes)) (w : WellFormed g) where
  abbrev bs : List Node
  bs = g.boxes

  ordered : Ordered bs
  ordered = ordered-of g u (w.kept I2) (w.kept I3)

  once : (q : ℕ) → times q (ids_in bs) ≤ 1
  once q = once-of g u (w.kept I2) (w.kept I3) q

  shaped : Shaped bs g.root
  shaped = record { columns = λ n i. w.kept I4 n i; unseen = λ n i. w.kept I8 n i; shapes = λ n i. w.kept I9 n i }

  fits-kind : (n : Node) (i : In n bs) → kind_fits g.root bs n n.parts.kind ≡ true
  fits-kind n i = (parts-of bs ordered once g.root n i (w.kept I9 n i)).0.0

  reach : (b c : ℕ) → holds c (reached (b ∷ []) bs) ≡ true → Reaches bs b c
  reach b c h = (reached-reaches bs ordered b c).0 h

  free-is : (b q : ℕ) → read_free bs b q ≡ true → IsFree bs b q
  free-is b q t =
      let M = reached (b ∷ []) bs in
      let ps = and_parts (list_any (λ n. holds n.id M && read_by n q) bs) (not (list_any (λ n. holds n.id M && owns q n) bs)) t in
      let x = any-in (λ (n : Node). holds n.id M && read_by n q) bs ps.0 in
      let y = and_parts (holds x.0.id M) (read_by x.0 q) x.1.1 in (
        (x.0, (x.1.0, (reach b x.0.id y.0, read-named q x.0 y.1))),
        λ n i r. elim (cases_Bool (owns q n)) [
          | inr f ↦ f
          | inl z ↦ absurd (clash (list_any (λ (n : Node). holds n.id M && owns q n) bs)
              (any-from (λ (n : Node). holds n.id M && owns q n) n bs i (and_from (holds n.id M) (owns q n) ((reached-reaches bs ordered b n.id).1 r) z)) (not-true (list_any (λ (n : Node). holds n.id M && owns q n) bs) ps.1))
        ],
      )

  root-box : (n : Node) × (In n bs × (n.id ≡ g.root))
  root-box = has-in g.root bs w.rooted

  checked : Checked bs g.root
  checked = record {
    seen = λ n i q t. elim ((w.kept I6 n i).0 q (read-named q n t)) [
      | inl y ↦ or_left (own_seen n.parts.kind n q) (holds n.id (viewers q [] bs)) (own-by bs ordered once g.root n i (w.kept I9 n i) n.parts.kind (fits-kind n i) q y t)
      | inr y ↦ or_right (own_seen n.parts.kind n q) (holds n.id (viewers q [] bs)) (ap (holds n.id) (sym (viewers-is q [] bs)) ∙ (viewers-see bs ordered n.id q).1 y)
    ];
    root_free = λ q. elim (cases_Bool (read_free bs g.root q)) [ inr f ↦ f | inl t ↦ absurd (let x = root-box in (w.kept I6 x.0 x.1.0).1 x.1.1 q (free-is g.root q t)) ];
    opened = λ b q t f. (
        let x = free-is b q t in
        let n = has-in b bs (held b q x) in
        subst (λ z. times z (overs_in bs) ≡ 1) n.1.1 ((w.kept I7 n.0 n.1.0).1 (λ e. clash (b == g.root) (eq-eqb b g.root (sym n.1.1 ∙ e)) f) q (subst (λ z. IsFree bs z q) (sym n.1.1) x)));
    top = (let x = root-box in (w.kept I7 x.0 x.1.0).0 x.1.1);
  }
    where
      from : (b c : ℕ) → Reaches bs b c → (has_box bs c ≡ true) → has_box bs b ≡ true
      from b c (itself x) h = h
      from b c (through n r x i j k) h = in-has n bs i

      held : (b q : ℕ) → IsFree bs b q → has_box bs b ≡ true
      held b q x = from b x.0.0.id x.0.1.1.0 (in-has x.0.0 bs x.0.1.0)

  pub from-check : Sound bs g.root × Typed bs × Shaped bs g.root
  from-check = (
    record {
      ordered = ordered;
      rooted = w.rooted;
      once = once;
      settled = settled-from bs ordered g.root once checked;
      used = used-from bs ordered g.root once checked;
      top = checked.top;
      fits = λ n i q k t. fits-of bs ordered once n (w.kept I4 n i) q k t;
      own_nodes = λ n i q t. nodes-own bs ordered once n i (parts-of bs ordered once g.root n i (w.kept I9 n i)).0.1 q t;
      bare = λ n i. bare-by bs ordered once g.root n i (w.kept I9 n i) n.parts.kind (fits-kind n i);
      arms = λ n m r i j l e. arms-by bs ordered once g.root n i (w.kept I9 n i) n.parts.kind (fits-kind n i) m r j l e;
    },
    λ n i. w.kept I5 n i,
    shaped,
  )

-- ---- to the check

below-low : (ns up : List Node) (n : Node) (low : List Node) → Ordered ns → ns ≡ up ++ n ∷ low → (r : OwnedQuant) → In r n.quants → has_box low r.over ≡ true
below-low ns [] n low o e r j = let z = subst (λ z. Ordered z) e o in all-in (λ r. has_box low r.over) r n.quants z.1 j
below-low [] (x ∷ up) n low o e r j = absurd (let z : ⊥ = cc in z)
below-low (y ∷ ns) (x ∷ up) n low o e r j = below-low ns up n low o.2 (let z : ns ≡ up ++ n ∷ low = cc in z) r j

module _ (g : QueryGraph) (w : Sound g.boxes g.root) where
  abbrev hs : List Node
  hs = g.boxes

  c : Checked hs g.root
  c = to-checked hs w.ordered g.root w

  -- what is named has an owner, and is in view
  named-view : (n : Node) → In n hs → (q : ℕ) → holds q (named_by n) ≡ true → (owns q n ≡ true) ⊎ ((read_by n q ≡ true) × (holds n.id (viewers q [] hs) ≡ true))
  named-view n i q h = elim (or_cases (read_by n q) (nodes_in q n) (named-split q n h)) [
    | inr y ↦ inl (w.own_nodes n i q y).0
    | inl y ↦ elim (or_cases (own_seen n.parts.kind n q) (holds n.id (viewers q [] hs)) (c.seen n i q y)) [
      | inl z ↦ inl (seen-owned n.parts.kind n q z)
      | inr z ↦ inr (y, z)
    ]
  ]

  named-owned : (n : Node) → In n hs → (q : ℕ) → holds q (named_by n) ≡ true → HasQuant q g
  named-owned n i q h = elim (named-view n i q h) [ inl y ↦ any-from (owns q) n hs i y | inr y ↦ read-owned hs g.root w n q i y.0 ]

  pub free-read : (b q : ℕ) → IsFree hs b q → read_free hs b q ≡ true
  free-read b q x =
      let M = reached (b ∷ []) hs in
      let n = x.0.0 in let i = x.0.1.0 in
      let r : holds n.id M ≡ true = (reached-reaches hs w.ordered b n.id).1 x.0.1.1.0 in
      let y : read_by n q ≡ true = (elim (named-view n i q x.0.1.1.1) [ inl y ↦ absurd (clash (owns q n) y (x.1 n i x.0.1.1.0)) | inr y ↦ y.0 ]) in
      and_from (list_any (λ n. holds n.id M && read_by n q) hs) (not (list_any (λ n. holds n.id M && owns q n) hs))
      (any-from (λ (n : Node). holds n.id M && read_by n q) n hs i (and_from (holds n.id M) (read_by n q) r y))
      (let f : list_any (λ (n : Node). holds n.id M && owns q n) hs ≡ false = any-not (λ (n : Node). holds n.id M && owns q n) hs (λ m j. elim (cases_Bool (holds m.id M && owns q m)) [
        | inr f ↦ f
        | inl z ↦ (let p = and_parts (holds m.id M) (owns q m) z in absurd (clash (owns q m) p.1 (x.1 m j ((reached-reaches hs w.ordered b m.id).0 p.0))))
      ]) in ap not f)

module _ (g : QueryGraph) (w : Sound g.boxes g.root) (t : Typed g.boxes) (s : Shaped g.boxes g.root) where
  kept : (k : Clause) (n : Node) → In n g.boxes → IsKept k g n
  kept I1 n i = (λ r j. overs-held g.boxes n r w.ordered i j, λ q h. named-owned g w n i q h)
  kept I2 n i = λ r j. (
      let a = owned-in r.id g.boxes n i (any-from (is_quant r.id) r n.quants j (eq-itself r.id)) in let b = w.once r.id in omega arith)
  kept I3 n i = λ up low e r j. below-low g.boxes up n low w.ordered e r j
  kept I4 n i = s.columns n i
  kept I5 n i = t n i
  kept I6 n i = (
    λ q h. elim (named-view g w n i q h) [ inl y ↦ inl y | inr y ↦ inr ((viewers-see g.boxes w.ordered n.id q).0 (ap (holds n.id) (viewers-is q [] g.boxes) ∙ y.1)) ],
    λ e q x. clash (read_free g.boxes g.root q) (free-read g w g.root q x) ((c g w).root_free q),
  )
  kept I7 n i = (λ e. w.top, λ f q x. w.used n.id q (free-loose g.boxes w.ordered g.root w n.id q (free-read g w n.id q x)))
  kept I8 n i = s.unseen n i
  kept I9 n i = s.shapes n i

  pub to-check : WellFormed g
  to-check = record { rooted = w.rooted; kept = kept }

pub sound-checked : (g : QueryGraph) → EachOnce (numbers g.boxes) → (fault g ≡ None) ↔ (Sound g.boxes g.root × Typed g.boxes × Shaped g.boxes g.root)
sound-checked g u = (
  λ h. from-check g u ((finds-none g u).0 h),
  λ h. (finds-none g u).1 (to-check g h.0 h.1 h.2),
)

pub placed-checked : (g : QueryGraph) → EachOnce (numbers g.boxes) → Placed g.boxes g.root ↔ (HasBox g.root g × ((n : Node) → In n g.boxes → IsKept I1 g n) × ((n : Node) → In n g.boxes → IsKept I2 g n) × ((n : Node) → In n g.boxes → IsKept I3 g n))
placed-checked g u = (
  λ w. (
    w.rooted,
    λ n i. (λ r j. overs-held g.boxes n r w.ordered i j, λ q h. w.known n i q h),
    λ n i. (λ r j. (let a = owned-in r.id g.boxes n i (any-from (is_quant r.id) r n.quants j (eq-itself r.id)) in let b = w.once r.id in omega arith)),
    λ n i. (λ up low e r j. below-low g.boxes up n low w.ordered e r j),
  ),
  λ h. record { rooted = h.0; ordered = ordered-of g u h.2 h.3; once = once-of g u h.2 h.3; known = λ n i q t. (h.1 n i).1 q t },
)
