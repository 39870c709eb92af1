-- The check finds nothing more where a box is added.
use Rattle.std.proofs.Common.{ℕ, ◌==◌, ◌≡◌, ◌&&◌, nat_lt, cond, true, false, List, [], ◌∷◌, ◌++◌, Option, Some, None, refl, sym, ap, subst, ◌∙◌, eqb-true, ◌⊎◌, inl, inr, arith}
use Rattle.std.specs.List.{list_all, list_any}
use Rattle.std.proofs.lemmas.Bool.{and_from, and_parts, cases_Bool, or_cases, or_left, or_right}
use Rattle.sql_value.specs.declared.order_key.SqlType.{SqlType}
use Rattle.qgm_core.specs.Boxes.{bare_box, has_box, is_box, is_quant, owns, width}
use Rattle.qgm_core.specs.Edits.{on_boxes}
use Rattle.qgm_core.specs.Free.{free_in, named_by}
use Rattle.qgm_core.specs.Kinds.{is_F_or_S, is_S, is_fed, is_permit, is_plain}
use Rattle.list_laws.specs.Lists.{In, first, holds}
use Rattle.qgm_core.specs.declared.kinds.BoxKind.{BoxKind}
use Rattle.qgm_core.specs.declared.kinds.BoxKind.TheVariants.{Base, Select, Group, SetOp, OuterJoin}
use Rattle.qgm_core.specs.declared.node.Node.{Node}
use Rattle.qgm_core.specs.declared.owned.OwnedQuant.{OwnedQuant}
use Rattle.qgm_core.specs.declared.parts.BoxParts.{BoxParts}
use Rattle.qgm_terms.specs.declared.named.Column.{Column}
use Rattle.qgm_wellformed.specs.Columns.{box_under, columns_fit, columns_of, fits, over_box, places_fit}
use Rattle.qgm_wellformed.specs.Shapes.{fed_by, is_none, is_scalar, is_scalar_in, kind_fits, magic_found, only, shape_fits, width_found}
use Rattle.qgm_wellformed.specs.Types.{Lookup, all_agree, arm_agrees, arms_agree, cond_fits, is_known, known, lookup_of, term_type, type_found, types_agree, types_agree_at, types_by, types_of}
use Rattle.qgm_wellformed.specs.WellFormed.{fault}
use Rattle.qgm_meaning.specs.Scope.{loose, read_by}
use Rattle.qgm_meaning.specs.Searches.{names, names_cond}
use Rattle.qgm_edit_laws.specs.Checked.{own_seen}
use Rattle.qgm_edit_laws.specs.FormedAdds.{AddWellFormed, MayAdd, column_of, own_box, own_types}
use Rattle.qgm_edit_laws.specs.FormedBox.{AddBoxWellFormed}
use Rattle.qgm_edit_laws.specs.Graph.{BareBy, Sound, nodes_in}
use Rattle.qgm_edit_laws.specs.Reforms.{types_at}
use Rattle.qgm_edit_laws.specs.Scoped.{Scoped}
use Rattle.qgm_edit_laws.specs.Shaped.{Shaped, Typed}
use Rattle.qgm_edit_laws.proofs.Adds.{added-sound, not-s, reads-at-read, s-own, seen-owned}
use Rattle.qgm_edit_laws.proofs.AnyPut.{conds-more, heads-more}
use Rattle.qgm_edit_laws.proofs.BoxForms.{scalar-column}
use Rattle.qgm_edit_laws.proofs.Facts.{looks-stay}
use Rattle.qgm_edit_laws.proofs.Follow.{all-alike, settled-types}
use Rattle.qgm_edit_laws.proofs.Formed.{sound-checked}
use Rattle.qgm_edit_laws.proofs.FreeLoose.{alone-from, alone-to, looks-asked}
use Rattle.qgm_edit_laws.proofs.Naming.{named-any, says, says_cond}
use Rattle.qgm_edit_laws.proofs.PlacedLists.{in-more, more-in, put-split}
use Rattle.qgm_edit_laws.proofs.Ranks.{has-in}
use Rattle.qgm_edit_laws.proofs.Read.{column-named, is_at, named-split, read-named}
use Rattle.qgm_edit_laws.proofs.Scope.{in-first, loose-held}
use Rattle.qgm_edit_laws.proofs.Scoped.{bounded, scoped-of}
use Rattle.qgm_edit_laws.proofs.ShapeParts.{fed-parts, shape-moved, shape-parts, two-parts}
use Rattle.qgm_edit_laws.proofs.Turns.{first-own}
use Rattle.qgm_edit_laws.proofs.TypedKept.{found, found-under}
use Rattle.qgm_edit_laws.proofs.TypesBy.{Types, agrees-alike, agrees-as, agrees_by, arms-as, arms_by, found-as, found_by, head-alike, looked, typed-by, via}
use Rattle.qgm_edit_laws.proofs.WellFormedKept.{numbers-once}
use Rattle.qgm_core.proofs.Reaching.{in-has, overs-held}
use Rattle.list_laws.proofs.Membership.{all-from, all-in, any-from, any-in, eq-itself, in-right}
use Rattle.list_laws.proofs.Booleans.{clash}

-- a box names a quantifier whose scalar, some or every stands in it
node-named : (p : ℕ) (n : Node) → nodes_in p n ≡ true → holds p (named_by n) ≡ true
node-named p n h = named-any p n ∙ (elim (or_cases (list_any (names p) n.parts.head) (list_any (names_cond p) n.parts.conds.items) h) [
  | inl a ↦ or_left (list_any (says p) n.parts.head) (list_any (says_cond p) n.parts.conds.items) (heads-more (λ r j. false) (λ r k. r == p) (λ r. r == p) (λ r. r == p) (λ r. r == p) (λ r. r == p) (λ r. true) (λ r. true) (λ r j h. absurd (let z : ⊥ = cc in z)) (λ r h. h) (λ r h. h) (λ r h. h) n.parts.head a)
  | inr a ↦ or_right (list_any (says p) n.parts.head) (list_any (says_cond p) n.parts.conds.items) (conds-more (λ r j. false) (λ r k. r == p) (λ r. r == p) (λ r. r == p) (λ r. r == p) (λ r. r == p) (λ r. true) (λ r. true) (λ r j h. absurd (let z : ⊥ = cc in z)) (λ r h. h) (λ r h. h) (λ r h. h) n.parts.conds.items a)
])

-- the quantifier of a column that a box names
listed-named : (y : Node) (d : Column) → In d (columns_of y) → holds d.quant (named_by y) ≡ true
listed-named y d j = column-named d.quant d.place y (any-from (is_at d.quant d.place) d (columns_of y) j (and_from (d.quant == d.quant) (d.place == d.place) (eq-itself d.quant) (eq-itself d.place)))

none-empty : {X : Type 0} (xs : List X) → is_none xs ≡ true → xs ≡ []
none-empty [] h = refl
none-empty (x ∷ xs) h = absurd (let z : ⊥ = cc in z)

-- such a box without quantifiers is no set operation, and a base is bare
bare-alone : (root : ℕ) (bs : List Node) (b : ℕ) (p : BoxParts) (k : BoxKind) → kind_fits root bs (bare_box b p) k ≡ true → BareBy k (bare_box b p)
bare-alone root bs b p (Base t) f =
    let a = and_parts (is_none p.conds.items && is_none p.head) (is_plain p.role) f in
    let c = and_parts (is_none p.conds.items) (is_none p.head) a.0 in
    (refl, none-empty p.head c.1, none-empty p.conds.items c.0)
bare-alone root bs b p Select f = tt
bare-alone root bs b p (Group k) f = tt
bare-alone root bs b p (SetOp form w) f = absurd (let z : ⊥ = cc in z)
bare-alone root bs b p OuterJoin f = tt

module _ (xs ys : List Node) (root : ℕ) (w : Sound (xs ++ ys) root) (t : Typed (xs ++ ys)) (sh : Shaped (xs ++ ys) root) (s : Node) (m : MayAdd xs ys root s) where
  abbrev bs : List Node
  bs = xs ++ ys

  abbrev hs : List Node
  hs = xs ++ s ∷ ys

  v : Sound hs root
  v = added-sound xs ys root w s m.adds m.scoped m.closed

  none-new : (q : ℕ) → loose bs s.id q ≡ true → ⊥
  none-new q h = clash (has_box bs s.id) (loose-held bs s.id q h) m.adds.fresh

  -- it names its own quantifiers
  own-names : (q : ℕ) → holds q (named_by s) ≡ true → owns q s ≡ true
  own-names q h = elim (or_cases (read_by s q) (nodes_in q s) (named-split q s h)) [
    | inl a ↦ elim (or_cases (own_seen s.parts.kind s q) (loose bs s.id q) (m.scoped.own q a)) [ inl x ↦ seen-owned s.parts.kind s q x | inr x ↦ absurd (none-new q x) ]
    | inr a ↦ (m.adds.own_nodes q a).0
  ]

  from : (n : Node) → In n hs → (s ≡ n) ⊎ In n bs
  from n i = in-more xs s ys n i

  to : (y : Node) → In y bs → In y hs
  to y i = more-in xs s ys y i

  s-in : In s hs
  s-in = in-right s xs (s ∷ ys) (inl refl)

  apart : (y : Node) → In y bs → (y.id == s.id) ≡ false
  apart y i = elim (cases_Bool (y.id == s.id)) [ inr f ↦ f | inl e ↦ absurd (clash (has_box bs s.id) (subst (λ z. has_box bs z ≡ true) (eqb-true y.id s.id e) (in-has y bs i)) m.adds.fresh) ]

  over-old : (y : Node) → In y bs → (x : OwnedQuant) → In x y.quants → (u : Node) × (In u bs × (u.id ≡ x.over))
  over-old y i x j = let u = has-in x.over bs (overs-held bs y x w.ordered i j) in (u.0, (u.1.0, u.1.1))

  over-s : (x : OwnedQuant) → In x s.quants → (u : Node) × (In u bs × (u.id ≡ x.over))
  over-s x j = let u = has-in x.over ys (m.adds.over x j) in (u.0, (in-right u.0 xs ys u.1.0, u.1.1))

  -- the box of a number that was there
  boxes : (c : ℕ) (u : Node) → In u bs → u.id ≡ c → first (is_box c) hs ≡ first (is_box c) bs
  boxes c u i e = subst (λ z. first (is_box z) hs ≡ first (is_box z) bs) e (in-first u hs v.ordered (to u i) ∙ sym (in-first u bs w.ordered i))

  -- the box under what is named
  under : (y : Node) → In y bs → (q : ℕ) → holds q (named_by y) ≡ true → (u : Node) × (In u bs × ((box_under bs q ≡ Some u) × (box_under hs q ≡ Some u)))
  under y i q h =
      let x = found bs root w y i q h in
      (x.box, (x.box_in, (found-under bs root w q x, found-under hs root v q (record { owner = x.owner; quant = x.quant; box = x.box; owner_in = to x.owner x.owner_in; quant_in = x.quant_in; is_q = x.is_q; box_in = to x.box x.box_in; is_over = x.is_over }))))

  own-under : (q : ℕ) → owns q s ≡ true → (u : Node) × (In u bs × ((own_box bs s q ≡ Some u) × (box_under hs q ≡ Some u)))
  own-under q h =
      let p = any-in (is_quant q) s.quants h in
      let e : p.0.id ≡ q = eqb-true p.0.id q p.1.1 in
      let u = over-s p.0 p.1.0 in
      let one : first (is_quant q) s.quants ≡ Some p.0 = subst (λ z. first (is_quant z) s.quants ≡ Some p.0) e (first-own p.0 s.quants (m.adds.once p.0.id) p.1.0) in (
        u.0,
        (
          u.1.0,
          (
            ap (λ (z : Option OwnedQuant). over_box bs z) one ∙ subst (λ z. first (is_box z) bs ≡ Some u.0) u.1.1 (in-first u.0 bs w.ordered u.1.0),
            found-under hs root v q (record { owner = s; quant = p.0; box = u.0; owner_in = s-in; quant_in = p.1.0; is_q = e; box_in = to u.0 u.1.0; is_over = u.1.1 }),
          ),
        ),
      )

  -- ---- types

  abbrev L : Lookup
  L = own_types bs s

  abbrev Ts : List (Option SqlType)
  Ts = types_by L s.parts.kind s.parts.head

  abbrev T : Types
  T c = cond (c == s.id) Ts (types_at bs c)

  T-old : (u : Node) → In u bs → T u.id ≡ types_at bs u.id
  T-old u i = ap (λ z. cond z Ts (types_at bs u.id)) (apart u i)

  alike : (y : Node) → In y bs → (q : ℕ) → holds q (named_by y) ≡ true → (k : ℕ) → via T hs q k ≡ lookup_of bs q k
  alike y i q h k = let u = under y i q h in ap (found_by T k) u.1.1.1 ∙ ap (λ z. column_of z k) (T-old u.0 u.1.0) ∙ sym (ap (found_by (types_at bs) k) u.1.1.0) ∙ sym (looked bs q k)

  alike-s : (q : ℕ) → holds q (named_by s) ≡ true → (k : ℕ) → via T hs q k ≡ L q k
  alike-s q h k = let u = own-under q (own-names q h) in ap (found_by T k) u.1.1.1 ∙ ap (λ z. column_of z k) (T-old u.0 u.1.0) ∙ sym (found-as bs k (Some u.0)) ∙ sym (ap (type_found (types_of bs) k) u.1.1.0)

  arms-T : (k : BoxKind) (rs : List OwnedQuant) → ((x : OwnedQuant) → In x rs → (u : Node) × (In u bs × (u.id ≡ x.over))) → arms_by T k rs ≡ arms_agree (types_of bs) k rs
  arms-T (Base f) rs h = refl
  arms-T Select rs h = refl
  arms-T (Group k) rs h = refl
  arms-T (SetOp form types) rs h = all-alike (λ x. all_agree (T x.over) (known types)) (arm_agrees (types_of bs) types) rs (λ x j. (let u = h x j in ap (λ z. all_agree z (known types)) (ap T (sym u.1.1) ∙ T-old u.0 u.1.0 ∙ ap (types_at bs) u.1.1)))
  arms-T OuterJoin rs h = refl

  agrees : (at : Lookup) (y : Node) → ((q : ℕ) → holds q (named_by y) ≡ true → (k : ℕ) → via T hs q k ≡ at q k) → ((x : OwnedQuant) → In x y.quants → (u : Node) × (In u bs × (u.id ≡ x.over))) → types_agree_at at (types_of bs) y ≡ true → agrees_by (via T hs) T y ≡ true
  agrees at y a o h = agrees-alike (via T hs) at y a T ∙ ap (λ z. list_all (λ x. is_known (term_type at x)) y.parts.head && (list_all (cond_fits at) y.parts.conds.items && z)) (arms-T y.parts.kind y.quants o) ∙ h

  own : (n : Node) → In n hs → T n.id ≡ types_by (via T hs) n.parts.kind n.parts.head
  own n i = elim (from n i) [
    | inl e ↦ subst (λ (n : Node). T n.id ≡ types_by (via T hs) n.parts.kind n.parts.head) e (ap (λ z. cond z Ts (types_at bs s.id)) (eq-itself s.id) ∙ sym (head-alike (via T hs) L s alike-s))
    | inr j ↦ T-old n j ∙ settled-types bs root w n j ∙ sym (head-alike (via T hs) (lookup_of bs) n (alike n j))
  ]

  pub typed-added : Typed hs
  typed-added = typed-by hs root v T own (λ n i. elim (from n i) [
    | inl e ↦ subst (λ z. agrees_by (via T hs) T z ≡ true) e (agrees L s alike-s over-s m.types)
    | inr j ↦ agrees (lookup_of bs) n (alike n j) (over-old n j) (t n j)
  ])

  -- ---- what is looked up

  less : (c q : ℕ) → loose hs c q ≡ true → loose bs c q ≡ true
  less = bounded (loose bs) hs v.once (λ n i. elim (from n i) [ inl e ↦ subst (λ z. Scoped (loose bs) z) e m.scoped | inr j ↦ scoped-of bs root w n j ])

  more : (u : Node) → In u bs → (q : ℕ) → loose bs u.id q ≡ true → loose hs u.id q ≡ true
  more u i q h = looks-stay (loose bs) hs v.ordered v.bare (λ n j. elim (from n j) [
    | inl e ↦ λ p l. absurd (none-new p (subst (λ (z : Node). loose bs z.id p ≡ true) (sym e) l))
    | inr k ↦ looks-asked bs root w n k
  ]) u.id q (in-has u hs (to u i)) h

  -- ---- shapes

  shape-after : (n : Node) → ((x : OwnedQuant) → In x n.quants → (u : Node) × (In u bs × (u.id ≡ x.over))) → (is_fed n.parts.role ≡ true → (a d : OwnedQuant) → n.quants ≡ a ∷ (d ∷ []) → only a.id (free_in hs d.over) ≡ true)
      → (is_scalar hs n.id ≡ true → nat_lt 0 (width n) ≡ true) → shape_fits root bs n ≡ true → shape_fits root hs n ≡ true
  shape-after n over alone = shape-moved root bs hs n
      (λ x j c. (let u = over x j in ap width_found (boxes x.over u.0 u.1.0 u.1.1)))
      (λ x j. (let u = over x j in ap magic_found (boxes x.over u.0 u.1.0 u.1.1)))
      alone

  -- no quantifier ranges over s
  not-over : (n : Node) (x : OwnedQuant) → In n hs → In x n.quants → x.over ≡ s.id → ⊥
  not-over n x i j e = elim (from n i) [
    | inl y ↦ s-own xs ys root w s m.adds x (subst (λ (z : Node). In x z.quants) (sym y) j) e
    | inr l ↦ not-s xs ys root w s m.adds n x l j e
  ]

  -- what an S quantifier ranges over has a column
  scalar-wide : (y : Node) → In y bs → is_scalar hs y.id ≡ true → nat_lt 0 (width y) ≡ true
  scalar-wide y l h =
      let n = any-in (λ (n : Node). is_scalar_in n.quants y.id) hs h in
      let x = any-in (λ (x : OwnedQuant). (x.over == y.id) && is_S x.kind) n.0.quants n.1.1 in
      let k = and_parts (x.0.over == y.id) (is_S x.0.kind) x.1.1 in
      elim (from n.0 n.1.0) [
        | inl e ↦ m.scalars x.0 y (subst (λ (z : Node). In x.0 z.quants) (sym e) x.1.0) l (sym (eqb-true x.0.over y.id k.0)) k.1
        | inr j ↦ scalar-column bs root t sh n.0 y x.0 j x.1.0 k.1 l (sym (eqb-true x.0.over y.id k.0))
      ]

  scalar-s : is_scalar hs s.id ≡ true → nat_lt 0 (width s) ≡ true
  scalar-s h =
      let n = any-in (λ (n : Node). is_scalar_in n.quants s.id) hs h in
      let x = any-in (λ (x : OwnedQuant). (x.over == s.id) && is_S x.kind) n.0.quants n.1.1 in
      absurd (not-over n.0 x.0 n.1.0 x.1.0 (eqb-true x.0.over s.id (and_parts (x.0.over == s.id) (is_S x.0.kind) x.1.1).0))

  -- what is looked up under the second quantifier of a fed box
  fed-alone : (y : Node) → is_fed y.parts.role ≡ true → shape_fits root bs y ≡ true → (a d : OwnedQuant) → y.quants ≡ a ∷ (d ∷ []) → (loose bs d.over a.id ≡ true) × ((p : ℕ) → loose bs d.over p ≡ true → p ≡ a.id)
  fed-alone y f h a d e =
      let p = fed-parts root bs y f (shape-parts root bs y h).kind in
      alone-to bs root w d.over a.id (two-parts bs y.parts.head a d (ap (fed_by bs y.parts.head) (sym e) ∙ p.fed)).alone

  alone-old : (y : Node) → In y bs → is_fed y.parts.role ≡ true → (a d : OwnedQuant) → y.quants ≡ a ∷ (d ∷ []) → only a.id (free_in hs d.over) ≡ true
  alone-old y i f a d e =
      let old = fed-alone y f (sh.shapes y i) a d e in
      let u = over-old y i d (subst (λ z. In d z) (sym e) (inr (inl refl))) in
      alone-from hs root v d.over a.id (subst (λ c. loose hs c a.id ≡ true) u.1.1 (more u.0 u.1.0 a.id (subst (λ c. loose bs c a.id ≡ true) (sym u.1.1) old.0)))
      (λ x h. old.1 x (less d.over x h))

  -- s ranges over boxes that look nothing up
  no-fed : is_fed s.parts.role ≡ true → (a d : OwnedQuant) → s.quants ≡ a ∷ (d ∷ []) → only a.id (free_in hs d.over) ≡ true
  no-fed f a d e = absurd (clash (loose bs d.over a.id) (fed-alone s f m.shape a d e).0 (m.closed d (subst (λ z. In d z) (sym e) (inr (inl refl))) a.id))

  columns-old : (y : Node) → In y bs → columns_fit hs y ≡ true
  columns-old y i =
      let a = and_parts (places_fit y.parts.kind) (list_all (λ (d : Column). fits d.place (box_under bs d.quant)) (columns_of y)) (sh.columns y i) in
      and_from (places_fit y.parts.kind) (list_all (λ (d : Column). fits d.place (box_under hs d.quant)) (columns_of y)) a.0 (all-from (λ (d : Column). fits d.place (box_under hs d.quant)) (columns_of y) (λ d j. (
      let u = under y i d.quant (listed-named y d j) in
      ap (fits d.place) (u.1.1.1 ∙ sym u.1.1.0) ∙ all-in (λ (d : Column). fits d.place (box_under bs d.quant)) d (columns_of y) a.1 j)))

  columns-s : columns_fit hs s ≡ true
  columns-s =
      let a = and_parts (places_fit s.parts.kind) (list_all (λ (d : Column). fits d.place (own_box bs s d.quant)) (columns_of s)) m.columns in
      and_from (places_fit s.parts.kind) (list_all (λ (d : Column). fits d.place (box_under hs d.quant)) (columns_of s)) a.0 (all-from (λ (d : Column). fits d.place (box_under hs d.quant)) (columns_of s) (λ d j. (
      let u = own-under d.quant (own-names d.quant (listed-named s d j)) in
      ap (fits d.place) (u.1.1.1 ∙ sym u.1.1.0) ∙ all-in (λ (d : Column). fits d.place (own_box bs s d.quant)) d (columns_of s) a.1 j)))

  pub shaped-added : Shaped hs root
  shaped-added = record {
    columns = λ n i. elim (from n i) [ inl e ↦ subst (λ z. columns_fit hs z ≡ true) e columns-s | inr j ↦ columns-old n j ];
    unseen = λ n i p. elim (from n i) [
      | inl e ↦ (
        (λ k. clash (has_box bs root) w.rooted (subst (λ z. has_box bs z ≡ false) (ap (λ (z : Node). z.id) e ∙ k) m.adds.fresh)),
        (λ o x im jx k. absurd (not-over o x im jx (k ∙ ap (λ (z : Node). z.id) (sym e)))),
      )
      | inr j ↦ (
        (sh.unseen n j p).0,
        (λ o x im jx k. elim (from o im) [
          | inl f ↦ elim (cases_Bool (is_F_or_S x.kind)) [ inr l ↦ l | inl c ↦ absurd (clash (is_permit n.parts.distinct) p (m.unseen x n (subst (λ (z : Node). In x z.quants) (sym f) jx) j (sym k) c)) ]
          | inr l ↦ (sh.unseen n j p).1 o x l jx k
        ]),
      )
    ];
    shapes = λ n i. elim (from n i) [
      | inl e ↦ subst (λ z. shape_fits root hs z ≡ true) e (shape-after s over-s no-fed scalar-s m.shape)
      | inr j ↦ shape-after n (over-old n j) (alone-old n j) (scalar-wide n j) (sh.shapes n j)
    ];
  }

pub added-formed : AddWellFormed
added-formed xs ys g e u f s m =
    let p = (sound-checked g u).0 f in
    let w : Sound (xs ++ ys) g.root = subst (λ z. Sound z g.root) e p.0 in
    let t : Typed (xs ++ ys) = subst Typed e p.1 in
    let sh : Shaped (xs ++ ys) g.root = subst (λ z. Shaped z g.root) e p.2 in
    let v = added-sound xs ys g.root w s m.adds m.scoped m.closed in
    (sound-checked (on_boxes (λ boxes. xs ++ s ∷ ys) g) (numbers-once (xs ++ s ∷ ys) v.ordered)).1
    (v, typed-added xs ys g.root w t sh s m, shaped-added xs ys g.root w t sh s m)

-- ---- a box without quantifiers, which names none

module _ (xs ys : List Node) (root : ℕ) (b : ℕ) (parts : BoxParts) (fresh : has_box (xs ++ ys) b ≡ false) (unnamed : (q : ℕ) → holds q (named_by (bare_box b parts)) ≡ false)
    (typed : types_agree (xs ++ ys) (bare_box b parts) ≡ true) (fit : columns_fit (xs ++ ys) (bare_box b parts) ≡ true) (shape : shape_fits root (xs ++ ys) (bare_box b parts) ≡ true) where
  abbrev cs : List Node
  cs = xs ++ ys

  abbrev n : Node
  n = bare_box b parts

  names-none : (q : ℕ) → holds q (named_by n) ≡ true → ⊥
  names-none q h = clash (holds q (named_by n)) h (unnamed q)

  may-add : MayAdd xs ys root n
  may-add = record {
    adds = record {
      fresh = fresh;
      over = λ r i. elim i [ ];
      not_root = λ r i. elim i [ ];
      new = λ q h. absurd (let z : ⊥ = cc in z);
      once = λ q. (omega arith);
      fits = λ q k h. absurd (names-none q (read-named q n (reads-at-read q k n h)));
      own_nodes = λ q h. absurd (names-none q (node-named q n h));
      bare = bare-alone root cs b parts parts.kind (shape-parts root cs n shape).kind;
      arms = λ m r i. elim i [ ];
    };
    scoped = record { under = λ done r rest e q h. absurd (none done r rest e); own = λ q h. absurd (names-none q (read-named q n h)) };
    closed = λ r i. elim i [ ];
    types = ap (λ z. list_all (λ x. is_known (term_type (own_types cs n) x)) parts.head && (list_all (cond_fits (own_types cs n)) parts.conds.items && z)) (arms-as cs parts.kind [])
        ∙ agrees-alike (own_types cs n) (lookup_of cs) n (λ q h k. absurd (names-none q h)) (types_at cs) ∙ sym (agrees-as cs n) ∙ typed;
    columns = (
        let a = and_parts (places_fit parts.kind) (list_all (λ (d : Column). fits d.place (box_under cs d.quant)) (columns_of n)) fit in
        and_from (places_fit parts.kind) (list_all (λ (d : Column). fits d.place (own_box cs n d.quant)) (columns_of n)) a.0 (all-from (λ (d : Column). fits d.place (own_box cs n d.quant)) (columns_of n) (λ d j. absurd (names-none d.quant (listed-named n d j)))));
    shape = shape;
    scalars = λ p z i. elim i [ ];
    unseen = λ p z i. elim i [ ];
  }
    where
      none : (done : List OwnedQuant) (r : OwnedQuant) (rest : List OwnedQuant) → [] ≡ done ++ r ∷ rest → ⊥
      none [] r rest e = cc
      none (d ∷ done) r rest e = cc

pub add-box-formed : AddBoxWellFormed
add-box-formed g u f below b parts m =
    let s = put-split below (bare_box b parts) g.boxes in
    let e = s.1.1.0 in
    let add = may-add s.0 s.1.0 g.root b parts (subst (λ z. has_box z b ≡ false) e m.fresh) m.no_names (subst (λ z. types_agree z (bare_box b parts) ≡ true) e m.types) (subst (λ z. columns_fit z (bare_box b parts) ≡ true) e m.columns) (subst (λ z. shape_fits g.root z (bare_box b parts) ≡ true) e m.shape) in
    subst (λ z. fault (record g { boxes = z }) ≡ None) (sym s.1.1.1) (added-formed s.0 s.1.0 g e u f (bare_box b parts) add)
