-- The check finds nothing more where a box is put between a quantifier and the box that it ranges over.
use Rattle.std.proofs.Common.{ℕ, ◌==◌, ◌≡◌, ◌&&◌, nat_lt, cond, Bool, true, false, List, [], ◌∷◌, ◌++◌, Option, Some, refl, sym, ap, subst, ◌∙◌, eqb-true, ◌⊎◌, inl, inr, arith}
use Rattle.std.specs.List.{list_all, list_any}
use Rattle.std.proofs.lemmas.Bool.{and_from, and_parts, cases_Bool, eq-eqb, or_cases, or_left, or_right}
use Rattle.sql_value.specs.declared.order_key.SqlType.{SqlType}
use Rattle.qgm_core.specs.Boxes.{has_box, is_box, is_quant, owns, width}
use Rattle.qgm_core.specs.Edits.{on_boxes, on_quant}
use Rattle.qgm_core.specs.Free.{free_in, named_by}
use Rattle.qgm_core.specs.Kinds.{is_F_or_S, is_S, is_fed, is_magic, is_permit}
use Rattle.list_laws.specs.Lists.{In, first, holds}
use Rattle.qgm_core.specs.declared.kinds.BoxKind.{BoxKind}
use Rattle.qgm_core.specs.declared.kinds.BoxKind.TheVariants.{Base, Select, Group, SetOp, OuterJoin}
use Rattle.qgm_core.specs.declared.node.Node.{Node}
use Rattle.qgm_core.specs.declared.owned.OwnedQuant.{OwnedQuant}
use Rattle.qgm_core.specs.declared.parts.BoxParts.{BoxParts}
use Rattle.qgm_terms.specs.Wanted.{any_in, any_in_cond}
use Rattle.qgm_terms.specs.declared.named.Column.{Column}
use Rattle.qgm_wellformed.specs.Columns.{box_under, columns_fit, columns_of, fits, over_box, places_fit, within}
use Rattle.qgm_wellformed.specs.Shapes.{fed_by, is_scalar, is_scalar_in, magic_found, only, shape_fits, width_found}
use Rattle.qgm_wellformed.specs.Types.{Lookup, all_agree, arm_agrees, arms_agree, cond_fits, is_known, known, lookup_of, term_type, type_found, types_by, types_of}
use Rattle.qgm_meaning.specs.Scope.{loose, read_by}
use Rattle.qgm_edit_laws.specs.Adds.{as_box, interposed, onto}
use Rattle.qgm_edit_laws.specs.FormedAdds.{InterposedWellFormed, MayInterpose, column_of, of_column, own_box, own_types, types_asked}
use Rattle.qgm_edit_laws.specs.Graph.{Sound}
use Rattle.qgm_edit_laws.specs.Reforms.{types_at}
use Rattle.qgm_edit_laws.specs.Scoped.{Scoped}
use Rattle.qgm_edit_laws.specs.Shaped.{Shaped, Typed}
use Rattle.qgm_edit_laws.proofs.Adds.{loose-owned}
use Rattle.qgm_edit_laws.proofs.AnyPut.{conds-more, heads-more}
use Rattle.qgm_edit_laws.proofs.BoxForms.{scalar-column}
use Rattle.qgm_edit_laws.proofs.EditForms.{in-changed, shape-over}
use Rattle.qgm_edit_laws.proofs.Facts.{looks-stay}
use Rattle.qgm_edit_laws.proofs.Follow.{all-alike, settled-types}
use Rattle.qgm_edit_laws.proofs.Formed.{same-quant, sound-checked}
use Rattle.qgm_edit_laws.proofs.FreeLoose.{alone-from, alone-to, looks-asked}
use Rattle.qgm_edit_laws.proofs.Interposed as ip
use Rattle.qgm_edit_laws.proofs.Interposed.{interposed-sound, over_now, turned-any, turned-in}
use Rattle.qgm_edit_laws.proofs.Naming.{named-any, says, says_cond}
use Rattle.qgm_edit_laws.proofs.PairLocal.{agrees-pair, head-pair}
use Rattle.qgm_edit_laws.proofs.PlacedLists.{in-more, more-in}
use Rattle.qgm_edit_laws.proofs.Ranks.{has-in, same-box}
use Rattle.qgm_edit_laws.proofs.Read.{column-named, is_at}
use Rattle.qgm_edit_laws.proofs.Scope.{in-first}
use Rattle.qgm_edit_laws.proofs.Scoped.{bounded}
use Rattle.qgm_edit_laws.proofs.ShapeParts.{fed-parts, shape-moved, shape-parts, two-parts}
use Rattle.qgm_edit_laws.proofs.Turns.{first-own}
use Rattle.qgm_edit_laws.proofs.TypedKept.{Ranging, found, found-under}
use Rattle.qgm_edit_laws.proofs.TypesBy.{Types, agrees-alike, agrees_by, arms_by, found-as, found_by, head-alike, looked, typed-by, via}
use Rattle.qgm_edit_laws.proofs.WellFormedKept.{numbers-once}
use Rattle.qgm_core.proofs.Reaching.{in-has, overs-held}
use Rattle.list_laws.proofs.Counting.{times-map}
use Rattle.list_laws.proofs.Membership.{all-from, all-in, any-from, any-in, eq-itself, in-left, in-map, in-right, map-in}
use Rattle.list_laws.proofs.Booleans.{clash}

-- a box names the quantifier of a column whose type it asks for
pub asked-named : (q k : ℕ) (n : Node) → types_asked q k n ≡ true → holds q (named_by n) ≡ true
asked-named q k n h = named-any q n ∙ (elim (or_cases (list_any (any_in (of_column q k)) n.parts.head) (list_any (any_in_cond (of_column q k)) n.parts.conds.items) h) [
  | inl a ↦ or_left (list_any (says q) n.parts.head) (list_any (says_cond q) n.parts.conds.items) (heads-more (λ r j. (r == q) && (j == k)) (λ r j. r == q) (λ r. (r == q) && (1 == k)) (λ r. r == q) (λ r. false) (λ r. r == q) (λ r. true) (λ r. true) (λ r j h. (and_parts (r == q) (j == k) h).0) (λ r h. (and_parts (r == q) (1 == k) h).0) (λ r h. absurd (let z : ⊥ = cc in z)) (λ r h. h) n.parts.head a)
  | inr a ↦ or_right (list_any (says q) n.parts.head) (list_any (says_cond q) n.parts.conds.items) (conds-more (λ r j. (r == q) && (j == k)) (λ r j. r == q) (λ r. (r == q) && (1 == k)) (λ r. r == q) (λ r. false) (λ r. r == q) (λ r. true) (λ r. true) (λ r j h. (and_parts (r == q) (j == k) h).0) (λ r h. (and_parts (r == q) (1 == k) h).0) (λ r h. absurd (let z : ⊥ = cc in z)) (λ r h. h) n.parts.conds.items a)
])

module _ (xs ys : List Node) (root : ℕ) (w : Sound (xs ++ ys) root) (t : Typed (xs ++ ys)) (sh : Shaped (xs ++ ys) root) (s o c : Node) (r : OwnedQuant) (m : MayInterpose xs ys root s o c r) where
  abbrev bs : List Node
  bs = xs ++ ys

  abbrev all : List Node
  all = xs ++ s ∷ ys

  abbrev g : Node → Node
  g = onto o.id r.id s.id

  abbrev hs : List Node
  hs = interposed xs ys s o.id r.id

  v : Sound hs root
  v = interposed-sound xs ys root w s o c r m.interposes

  same-parts : (y : Node) → (g y).parts ≡ y.parts
  same-parts = ip.parts xs ys root w s o c r m.interposes

  same-id : (y : Node) → (g y).id ≡ y.id
  same-id = ip.id xs ys root w s o c r m.interposes

  apart : (y : Node) → In y bs → (y.id == s.id) ≡ false
  apart = ip.apart xs ys root w s o c r m.interposes

  o-bs : In o bs
  o-bs = in-left o xs ys m.interposes.in_o

  c-bs : In c bs
  c-bs = in-right c xs ys m.interposes.in_c

  s-all : In s all
  s-all = ip.s-hs xs ys root w s o c r m.interposes

  cases : (y : Node) → In y all → ((y ≡ o) × (g y ≡ on_quant r.id (over_now s.id) o)) ⊎ (((y.id == o.id) ≡ false) × (g y ≡ y))
  cases = ip.cases xs ys root w s o c r m.interposes

  g-s : g s ≡ s
  g-s = elim (cases s s-all) [ inr e ↦ e.1 | inl e ↦ absurd (clash (o.id == s.id) (eq-eqb o.id s.id (ap (λ (z : Node). z.id) (sym e.0))) (apart o o-bs)) ]

  -- a box after is s, or one that was there
  from : (n : Node) → In n hs → (n ≡ s) ⊎ ((y : Node) × (In y bs × (g y ≡ n)))
  from n i = let y = in-map g n all i in elim (in-more xs s ys y.0 y.1.0) [ inl e ↦ inl (sym y.1.1 ∙ ap g (sym e) ∙ g-s) | inr j ↦ inr (y.0, (j, y.1.1)) ]

  s-in : In s hs
  s-in = subst (λ z. In z hs) g-s (map-in g s all s-all)

  to : (y : Node) → In y bs → In (g y) hs
  to y i = map-in g y all (more-in xs s ys y i)

  -- the box of a number that was there
  boxes : (b : ℕ) (u : Node) → In u bs → u.id ≡ b → (first (is_box b) bs ≡ Some u) × (first (is_box b) hs ≡ Some (g u))
  boxes b u i e = (subst (λ z. first (is_box z) bs ≡ Some u) e (in-first u bs w.ordered i), subst (λ z. first (is_box z) hs ≡ Some (g u)) (same-id u ∙ e) (in-first (g u) hs v.ordered (to u i)))

  -- a quantifier after was there, or is the one that moved
  quant-from : (y : Node) (x : OwnedQuant) → In y bs → In x (g y).quants → In x y.quants ⊎ ((y ≡ o) × (over_now s.id r ≡ x))
  quant-from y x i j = elim (cases y (more-in xs s ys y i)) [
    | inr e ↦ inl (subst (λ (z : Node). In x z.quants) e.1 j)
    | inl e ↦ elim (turned-in r.id s.id o.quants x (subst (λ (z : Node). In x z.quants) e.1 j)) [
      | inl a ↦ inl (subst (λ (z : Node). In x z.quants) (sym e.0) a)
      | inr a ↦ inr (e.0, ap (over_now s.id) (sym (same-quant bs w.ordered w.once o o-bs a.0 r a.1.0 m.interposes.owned a.1.1.0)) ∙ a.1.1.1)
    ]
  ]

  -- the box that a quantifier of s ranges over
  under-s : (p : OwnedQuant) → In p s.quants → (u : Node) × (In u bs × (u.id ≡ p.over))
  under-s p i = let u = has-in p.over ys (m.interposes.adds.over p i) in (u.0, (in-right u.0 xs ys u.1.0, u.1.1))

  -- ---- the box under what is named

  over-c : box_under bs r.id ≡ Some c
  over-c = found-under bs root w r.id (record { owner = o; quant = r; box = c; owner_in = o-bs; quant_in = m.interposes.owned; is_q = refl; box_in = c-bs; is_over = sym m.interposes.over_c })

  under : (y : Node) → In y bs → (q : ℕ) → holds q (named_by y) ≡ true
      → ((u : Node) × (In u bs × ((box_under bs q ≡ Some u) × (box_under hs q ≡ Some (g u))))) ⊎ ((q ≡ r.id) × (box_under hs q ≡ Some s))
  under y i q h =
      let f = found hs root v (g y) (to y i) q (subst (λ (p : BoxParts). holds q (named_by (record y { parts = p })) ≡ true) (sym (same-parts y)) h) in
      let after = found-under hs root v q f in
      elim (from f.owner f.owner_in) [
        | inl e ↦ absurd (
            let a = found bs root w y i q h in
            let own : owns q s ≡ true = any-from (is_quant q) f.quant s.quants (subst (λ (z : Node). In f.quant z.quants) e f.quant_in) (eq-eqb f.quant.id q f.is_q) in
            clash (list_any (owns q) bs) (any-from (owns q) a.owner bs a.owner_in (any-from (is_quant q) a.quant a.owner.quants a.quant_in (eq-eqb a.quant.id q a.is_q))) (m.interposes.adds.new q own))
        | inr z ↦ elim (quant-from z.0 f.quant z.1.0 (subst (λ (z : Node). In f.quant z.quants) (sym z.1.1) f.quant_in)) [
          | inl a ↦ (
              let u = has-in f.quant.over bs (overs-held bs z.0 f.quant w.ordered z.1.0 a) in
              let was : Ranging bs q = record { owner = z.0; quant = f.quant; box = u.0; owner_in = z.1.0; quant_in = a; is_q = f.is_q; box_in = u.1.0; is_over = u.1.1 } in
              let same : f.box ≡ g u.0 = same-box hs f.box (g u.0) v.ordered f.box_in (to u.0 u.1.0) (f.is_over ∙ sym u.1.1 ∙ sym (same-id u.0)) in
              inl (u.0, (u.1.0, (found-under bs root w q was, after ∙ ap (λ (z : Node). Some z) same))))
          | inr a ↦ (
              let same : f.box ≡ s = same-box hs f.box s v.ordered f.box_in s-in (f.is_over ∙ ap (λ (z : OwnedQuant). z.over) (sym a.1)) in
              inr (sym f.is_q ∙ ap (λ (z : OwnedQuant). z.id) (sym a.1), after ∙ ap (λ (z : Node). Some z) same))
        ]
      ]

  own-under : (q : ℕ) → owns q s ≡ true → (u : Node) × (In u bs × ((own_box bs s q ≡ Some u) × (box_under hs q ≡ Some (g u))))
  own-under q h =
      let p = any-in (is_quant q) s.quants h in
      let e : p.0.id ≡ q = eqb-true p.0.id q p.1.1 in
      let u = under-s p.0 p.1.0 in
      let one : first (is_quant q) s.quants ≡ Some p.0 = subst (λ z. first (is_quant z) s.quants ≡ Some p.0) e (first-own p.0 s.quants (m.interposes.adds.once p.0.id) p.1.0) in (
        u.0,
        (
          u.1.0,
          (
            ap (λ (z : Option OwnedQuant). over_box bs z) one ∙ (boxes p.0.over u.0 u.1.0 u.1.1).0,
            found-under hs root v q (record { owner = s; quant = p.0; box = g u.0; owner_in = s-in; quant_in = p.1.0; is_q = e; box_in = to u.0 u.1.0; is_over = same-id u.0 ∙ u.1.1 }),
          ),
        ),
      )

  -- ---- types

  abbrev L : Lookup
  L = own_types bs s

  abbrev Ts : List (Option SqlType)
  Ts = types_by L s.parts.kind s.parts.head

  abbrev T : Types
  T b = cond (b == s.id) Ts (types_at bs b)

  T-s : T s.id ≡ Ts
  T-s = ap (λ z. cond z Ts (types_at bs s.id)) (eq-itself s.id)

  T-old : (u : Node) → In u bs → T u.id ≡ types_at bs u.id
  T-old u i = ap (λ z. cond z Ts (types_at bs u.id)) (apart u i)

  T-now : (u : Node) → In u bs → T (g u).id ≡ types_at bs u.id
  T-now u i = ap T (same-id u) ∙ T-old u i

  alike : (y : Node) → In y bs → (q k : ℕ) → types_asked q k (g y) ≡ true → via T hs q k ≡ lookup_of bs q k
  alike y i q k a =
      let b : types_asked q k y ≡ true = subst (λ (p : BoxParts). types_asked q k (record y { parts = p }) ≡ true) (same-parts y) a in
      elim (under y i q (asked-named q k y b)) [
        | inl u ↦ ap (found_by T k) u.1.1.1 ∙ ap (λ z. column_of z k) (T-now u.0 u.1.0) ∙ sym (ap (found_by (types_at bs) k) u.1.1.0) ∙ sym (looked bs q k)
        | inr e ↦ ap (found_by T k) e.1 ∙ ap (λ z. column_of z k) T-s ∙ m.same y i k (subst (λ z. types_asked z k y ≡ true) e.0 b) ∙ sym (ap (found_by (types_at bs) k) (ap (box_under bs) e.0 ∙ over-c)) ∙ sym (looked bs q k)
      ]

  alike-s : (q : ℕ) → holds q (named_by s) ≡ true → (k : ℕ) → via T hs q k ≡ L q k
  alike-s q h k = let u = own-under q (m.own q h) in ap (found_by T k) u.1.1.1 ∙ ap (λ z. column_of z k) (T-now u.0 u.1.0) ∙ sym (found-as bs k (Some u.0)) ∙ sym (ap (type_found (types_of bs) k) u.1.1.0)

  own : (n : Node) → In n hs → T n.id ≡ types_by (via T hs) n.parts.kind n.parts.head
  own n i = elim (from n i) [
    | inl e ↦ subst (λ (n : Node). T n.id ≡ types_by (via T hs) n.parts.kind n.parts.head) (sym e) (T-s ∙ sym (head-alike (via T hs) L s alike-s))
    | inr y ↦ subst (λ (n : Node). T n.id ≡ types_by (via T hs) n.parts.kind n.parts.head) y.1.1
        (T-now y.0 y.1.0 ∙ settled-types bs root w y.0 y.1.0 ∙ ap (λ (p : BoxParts). types_by (lookup_of bs) p.kind p.head) (sym (same-parts y.0)) ∙ sym (head-pair (via T hs) (lookup_of bs) (g y.0) (alike y.0 y.1.0)))
  ]

  arms-T : (k : BoxKind) (rs : List OwnedQuant) → ((x : OwnedQuant) → In x rs → (u : Node) × (In u bs × (u.id ≡ x.over))) → arms_by T k rs ≡ arms_agree (types_of bs) k rs
  arms-T (Base b) rs h = refl
  arms-T Select rs h = refl
  arms-T (Group k) rs h = refl
  arms-T (SetOp form types) rs h = all-alike (λ x. all_agree (T x.over) (known types)) (arm_agrees (types_of bs) types) rs (λ x j. (let u = h x j in ap (λ z. all_agree z (known types)) (ap T (sym u.1.1) ∙ T-old u.0 u.1.0 ∙ ap (types_at bs) u.1.1)))
  arms-T OuterJoin rs h = refl

  arms-g : (y : Node) → In y bs → arms_agree (types_of bs) y.parts.kind y.quants ≡ true → arms_by T y.parts.kind (g y).quants ≡ true
  arms-g y i h = elim (cases y (more-in xs s ys y i)) [
    | inl e ↦ ap (λ k. arms_by T k (g y).quants) (ap (λ (z : Node). z.parts.kind) e.0 ∙ m.select)
    | inr e ↦ ap (λ (z : Node). arms_by T y.parts.kind z.quants) e.1 ∙ arms-T y.parts.kind y.quants (λ x j. (let u = has-in x.over bs (overs-held bs y x w.ordered i j) in (u.0, (u.1.0, u.1.1)))) ∙ h
  ]

  agrees-old : (y : Node) → In y bs → agrees_by (lookup_of bs) T (g y) ≡ true
  agrees-old y i =
      let a = and_parts (list_all (λ x. is_known (term_type (lookup_of bs) x)) y.parts.head) (list_all (cond_fits (lookup_of bs)) y.parts.conds.items && arms_agree (types_of bs) y.parts.kind y.quants) (t y i) in
      let d = and_parts (list_all (cond_fits (lookup_of bs)) y.parts.conds.items) (arms_agree (types_of bs) y.parts.kind y.quants) a.1 in
      ap (λ (p : BoxParts). list_all (λ x. is_known (term_type (lookup_of bs) x)) p.head && (list_all (cond_fits (lookup_of bs)) p.conds.items && arms_by T p.kind (g y).quants)) (same-parts y)
      ∙ and_from (list_all (λ x. is_known (term_type (lookup_of bs) x)) y.parts.head) (list_all (cond_fits (lookup_of bs)) y.parts.conds.items && arms_by T y.parts.kind (g y).quants) a.0
      (and_from (list_all (cond_fits (lookup_of bs)) y.parts.conds.items) (arms_by T y.parts.kind (g y).quants) d.0 (arms-g y i d.1))

  pub typed-interposed : Typed hs
  typed-interposed = typed-by hs root v T own (λ n i. elim (from n i) [
    | inl e ↦ subst (λ z. agrees_by (via T hs) T z ≡ true) (sym e) (agrees-alike (via T hs) L s alike-s T
        ∙ ap (λ z. list_all (λ x. is_known (term_type L x)) s.parts.head && (list_all (cond_fits L) s.parts.conds.items && z)) (arms-T s.parts.kind s.quants under-s) ∙ m.types)
    | inr y ↦ subst (λ z. agrees_by (via T hs) T z ≡ true) y.1.1 (agrees-pair (via T hs) (lookup_of bs) (g y.0) (alike y.0 y.1.0) T ∙ agrees-old y.0 y.1.0)
  ])

  -- ---- what is looked up

  abbrev look : ℕ → ℕ → Bool
  look = as_box bs s.id c.id

  as-was : (b q : ℕ) → (b == s.id) ≡ false → look b q ≡ loose bs b q
  as-was = ip.as-was xs ys root w s o c r m.interposes

  as-c : (q : ℕ) → look s.id q ≡ loose bs c.id q
  as-c = ip.as-c xs ys root w s o c r m.interposes

  -- a box that was there looks up no more than it did
  pub less : (u : Node) → In u bs → (q : ℕ) → loose hs u.id q ≡ true → loose bs u.id q ≡ true
  less u i q h = sym (as-was u.id q (apart u i)) ∙ bounded look hs v.once (λ n j. (let y = in-map g n all j in subst (λ z. Scoped look z) y.1.1 (ip.scoped-all xs ys root w s o c r m.interposes y.0 y.1.0))) u.id q h

  asks-s : (q : ℕ) → look s.id q ≡ true → (owns q s ≡ false) × ((read_by s q ≡ true) ⊎ ((p : OwnedQuant) × (In p s.quants × (look p.over q ≡ true))))
  asks-s q h =
      let l : loose bs c.id q ≡ true = sym (as-c q) ∙ h in
      let p = times-map (λ (p : OwnedQuant). p.over) c.id s.quants (let a = m.interposes.once_c in omega arith) in (
        (elim (cases_Bool (owns q s)) [ inr f ↦ f | inl y ↦ absurd (clash (list_any (owns q) bs) (loose-owned bs root w c.id q l) (m.interposes.adds.new q y)) ]),
        inr (p.0, (p.1.0, subst (λ z. look z q ≡ true) (sym p.1.1) (as-was c.id q (apart c c-bs) ∙ l))),
      )

  asks-old : (y : Node) → In y bs → (q : ℕ) → look (g y).id q ≡ true → (owns q (g y) ≡ false) × ((read_by (g y) q ≡ true) ⊎ ((p : OwnedQuant) × (In p (g y).quants × (look p.over q ≡ true))))
  asks-old y i q h =
      let l : loose bs y.id q ≡ true = sym (as-was y.id q (apart y i)) ∙ subst (λ z. look z q ≡ true) (same-id y) h in
      let a = looks-asked bs root w y i q l in (
        (elim (cases y (more-in xs s ys y i)) [
          | inl e ↦ ap (owns q) e.1 ∙ turned-any r.id s.id (is_quant q) (λ x. refl) o.quants ∙ subst (λ z. owns q z ≡ false) e.0 a.0
          | inr e ↦ ap (owns q) e.1 ∙ a.0
        ]),
        (elim a.1 [
          | inl b ↦ inl (subst (λ (p : BoxParts). read_by (record y { parts = p }) q ≡ true) (sym (same-parts y)) b)
          | inr b ↦ inr (elim (cases y (more-in xs s ys y i)) [
            | inr e ↦ (b.0, (subst (λ (z : Node). In b.0 z.quants) (sym e.1) b.1.0, as-was b.0.over q (ip.over-apart xs ys root w s o c r m.interposes y b.0 i b.1.0) ∙ b.1.1))
            | inl e ↦ elim (in-changed r.id (over_now s.id) o.quants b.0 (subst (λ (z : Node). In b.0 z.quants) e.0 b.1.0)) [
              | inl k ↦ (b.0, (subst (λ (z : Node). In b.0 z.quants) (sym e.1) k, as-was b.0.over q (ip.over-apart xs ys root w s o c r m.interposes y b.0 i b.1.0) ∙ b.1.1))
              | inr k ↦ (
                  let same : b.0 ≡ r = same-quant bs w.ordered w.once o o-bs b.0 r (subst (λ (z : Node). In b.0 z.quants) e.0 b.1.0) m.interposes.owned k.0 in
                  (over_now s.id b.0, (subst (λ (z : Node). In (over_now s.id b.0) z.quants) (sym e.1) k.1, as-c q ∙ subst (λ z. loose bs z q ≡ true) (ap (λ (z : OwnedQuant). z.over) same ∙ m.interposes.over_c) b.1.1)))
            ]
          ])
        ]),
      )

  more : (u : Node) → In u bs → (q : ℕ) → loose bs u.id q ≡ true → loose hs u.id q ≡ true
  more u i q h = looks-stay look hs v.ordered v.bare (λ n j. elim (from n j) [
    | inl e ↦ subst (λ (n : Node). (q : ℕ) → look n.id q ≡ true → (owns q n ≡ false) × ((read_by n q ≡ true) ⊎ ((p : OwnedQuant) × (In p n.quants × (look p.over q ≡ true))))) (sym e) asks-s
    | inr y ↦ subst (λ (n : Node). (q : ℕ) → look n.id q ≡ true → (owns q n ≡ false) × ((read_by n q ≡ true) ⊎ ((p : OwnedQuant) × (In p n.quants × (look p.over q ≡ true))))) y.1.1 (asks-old y.0 y.1.0)
  ]) u.id q (subst (λ z. has_box hs z ≡ true) (same-id u) (in-has (g u) hs (to u i))) (as-was u.id q (apart u i) ∙ h)

  -- ---- shapes

  wide-g : (u : Node) → width (g u) ≡ width u
  wide-g u = ap (λ (p : BoxParts). width (record u { parts = p })) (same-parts u)

  -- quantifiers over boxes that were there
  module _ (n : Node) (over : (x : OwnedQuant) → In x n.quants → (u : Node) × (In u bs × (u.id ≡ x.over))) (alone : is_fed n.parts.role ≡ true → (a d : OwnedQuant) → n.quants ≡ a ∷ (d ∷ []) → only a.id (free_in hs d.over) ≡ true) where
    shape-after : (is_scalar hs n.id ≡ true → nat_lt 0 (width n) ≡ true) → shape_fits root bs n ≡ true → shape_fits root hs n ≡ true
    shape-after = shape-moved root bs hs n
        (λ x j c. (let u = over x j in let b = boxes x.over u.0 u.1.0 u.1.1 in ap width_found b.1 ∙ wide-g u.0 ∙ sym (ap width_found b.0)))
        (λ x j. (let u = over x j in let b = boxes x.over u.0 u.1.0 u.1.1 in ap magic_found b.1 ∙ ap (λ (p : BoxParts). is_magic p.role) (same-parts u.0) ∙ sym (ap magic_found b.0)))
        alone

  over-old : (y : Node) → In y bs → (x : OwnedQuant) → In x y.quants → (u : Node) × (In u bs × (u.id ≡ x.over))
  over-old y i x j = let u = has-in x.over bs (overs-held bs y x w.ordered i j) in (u.0, (u.1.0, u.1.1))

  -- an S quantifier after, by the box under it
  scalar-of : (b : ℕ) → is_scalar hs b ≡ true → (n : Node) × ((x : OwnedQuant) × (In n hs × (In x n.quants × ((x.over ≡ b) × (is_S x.kind ≡ true)))))
  scalar-of b h =
      let n = any-in (λ (n : Node). is_scalar_in n.quants b) hs h in
      let x = any-in (λ (x : OwnedQuant). (x.over == b) && is_S x.kind) n.0.quants n.1.1 in
      let k = and_parts (x.0.over == b) (is_S x.0.kind) x.1.1 in
      (n.0, (x.0, (n.1.0, (x.1.0, (eqb-true x.0.over b k.0, k.1)))))

  scalar-old : (y : Node) → In y bs → is_scalar hs y.id ≡ true → nat_lt 0 (width y) ≡ true
  scalar-old y i h =
      let x = scalar-of y.id h in
      let p = x.1.0 in
      elim (from x.0 x.1.1.0) [
        | inl e ↦ m.scalars p y (subst (λ (z : Node). In p z.quants) e x.1.1.1.0) i (sym x.1.1.1.1.0) x.1.1.1.1.1
        | inr z ↦ elim (quant-from z.0 p z.1.0 (subst (λ (z : Node). In p z.quants) (sym z.1.1) x.1.1.1.0)) [
          | inl a ↦ scalar-column bs root t sh z.0 y p z.1.0 a x.1.1.1.1.1 i (sym x.1.1.1.1.0)
          | inr a ↦ absurd (clash (y.id == s.id) (eq-eqb y.id s.id (sym x.1.1.1.1.0 ∙ ap (λ (z : OwnedQuant). z.over) (sym a.1))) (apart y i))
        ]
      ]

  not-over-s : (p : OwnedQuant) → In p s.quants → p.over ≡ s.id → ⊥
  not-over-s p i e = let u = under-s p i in clash (u.0.id == s.id) (eq-eqb u.0.id s.id (u.1.1 ∙ e)) (apart u.0 u.1.0)

  scalar-s : is_scalar hs s.id ≡ true → nat_lt 0 (width s) ≡ true
  scalar-s h =
      let x = scalar-of s.id h in
      let p = x.1.0 in
      elim (from x.0 x.1.1.0) [
        | inl e ↦ absurd (not-over-s p (subst (λ (z : Node). In p z.quants) e x.1.1.1.0) x.1.1.1.1.0)
        | inr z ↦ elim (quant-from z.0 p z.1.0 (subst (λ (z : Node). In p z.quants) (sym z.1.1) x.1.1.1.0)) [
          | inl a ↦ absurd (clash (p.over == s.id) (eq-eqb p.over s.id x.1.1.1.1.0) (ip.over-apart xs ys root w s o c r m.interposes z.0 p z.1.0 a))
          | inr a ↦ m.scalar (subst (λ (z : OwnedQuant). is_S z.kind ≡ true) (sym a.1) x.1.1.1.1.1)
        ]
      ]

  alone-old : (y : Node) → In y bs → is_fed y.parts.role ≡ true → (a d : OwnedQuant) → y.quants ≡ a ∷ (d ∷ []) → only a.id (free_in hs d.over) ≡ true
  alone-old y i f a d e =
      let p = fed-parts root bs y f (shape-parts root bs y (sh.shapes y i)).kind in
      let q = two-parts bs y.parts.head a d (ap (fed_by bs y.parts.head) (sym e) ∙ p.fed) in
      let old = alone-to bs root w d.over a.id q.alone in
      let u = over-old y i d (subst (λ z. In d z) (sym e) (inr (inl refl))) in
      alone-from hs root v d.over a.id (subst (λ b. loose hs b a.id ≡ true) u.1.1 (more u.0 u.1.0 a.id (subst (λ b. loose bs b a.id ≡ true) (sym u.1.1) old.0)))
      (λ x h. old.1 x (subst (λ b. loose bs b x ≡ true) u.1.1 (less u.0 u.1.0 x (subst (λ b. loose hs b x ≡ true) (sym u.1.1) h))))

  shape-old : (y : Node) → In y bs → shape_fits root hs (g y) ≡ true
  shape-old y i =
      let h = shape-after y (over-old y i) (alone-old y i) (scalar-old y i) (sh.shapes y i) in
      elim (cases y (more-in xs s ys y i)) [
        | inr e ↦ ap (shape_fits root hs) e.1 ∙ h
        | inl e ↦ ap (shape_fits root hs) e.1 ∙ shape-over root hs o r.id (over_now s.id) (λ x. refl) (λ x. refl) (inl m.select) m.not_fed (subst (λ z. shape_fits root hs z ≡ true) e.0 h)
      ]

  columns-s : columns_fit hs s ≡ true
  columns-s =
      let a = and_parts (places_fit s.parts.kind) (list_all (λ (d : Column). fits d.place (own_box bs s d.quant)) (columns_of s)) m.columns in
      and_from (places_fit s.parts.kind) (list_all (λ (d : Column). fits d.place (box_under hs d.quant)) (columns_of s)) a.0 (all-from (λ (d : Column). fits d.place (box_under hs d.quant)) (columns_of s) (λ d j. (
      let u = own-under d.quant (m.own d.quant (column-named d.quant d.place s (any-from (is_at d.quant d.place) d (columns_of s) j (and_from (d.quant == d.quant) (d.place == d.place) (eq-itself d.quant) (eq-itself d.place))))) in
      ap (fits d.place) u.1.1.1 ∙ ap (λ z. within z d.place) (wide-g u.0) ∙ sym (ap (fits d.place) u.1.1.0) ∙ all-in (λ (d : Column). fits d.place (own_box bs s d.quant)) d (columns_of s) a.1 j)))

  columns-old : (y : Node) → In y bs → columns_fit hs (g y) ≡ true
  columns-old y i =
      let a = and_parts (places_fit y.parts.kind) (list_all (λ (d : Column). fits d.place (box_under bs d.quant)) (columns_of y)) (sh.columns y i) in
      ap (λ (p : BoxParts). columns_fit hs (record y { parts = p })) (same-parts y)
      ∙ and_from (places_fit y.parts.kind) (list_all (λ (d : Column). fits d.place (box_under hs d.quant)) (columns_of y)) a.0 (all-from (λ (d : Column). fits d.place (box_under hs d.quant)) (columns_of y) (λ d j.
      elim (under y i d.quant (column-named d.quant d.place y (any-from (is_at d.quant d.place) d (columns_of y) j (and_from (d.quant == d.quant) (d.place == d.place) (eq-itself d.quant) (eq-itself d.place))))) [
        | inl u ↦ ap (fits d.place) u.1.1.1 ∙ ap (λ z. within z d.place) (wide-g u.0) ∙ sym (ap (fits d.place) u.1.1.0) ∙ all-in (λ (d : Column). fits d.place (box_under bs d.quant)) d (columns_of y) a.1 j
        | inr e ↦ ap (fits d.place) e.1 ∙ m.wide y d i j e.0
      ]))

  abbrev Unseen : Node → Type 0
  Unseen n = (n.id ≡ root → ⊥) × ((y : Node) (x : OwnedQuant) → In y hs → In x y.quants → x.over ≡ n.id → is_F_or_S x.kind ≡ false)

  unseen-s : is_permit s.parts.distinct ≡ true → Unseen s
  unseen-s p = (
    λ e. clash (has_box bs root) w.rooted (subst (λ z. has_box bs z ≡ false) e m.interposes.adds.fresh),
    λ y x i j e. elim (from y i) [
      | inl a ↦ absurd (not-over-s x (subst (λ (z : Node). In x z.quants) a j) e)
      | inr z ↦ elim (quant-from z.0 x z.1.0 (subst (λ (z : Node). In x z.quants) (sym z.1.1) j)) [
        | inl a ↦ absurd (clash (x.over == s.id) (eq-eqb x.over s.id e) (ip.over-apart xs ys root w s o c r m.interposes z.0 x z.1.0 a))
        | inr a ↦ elim (cases_Bool (is_F_or_S x.kind)) [ inr f ↦ f | inl k ↦ absurd (clash (is_permit s.parts.distinct) p (m.counted (subst (λ (z : OwnedQuant). is_F_or_S z.kind ≡ true) (sym a.1) k))) ]
      ]
    ],
  )

  unseen-old : (u : Node) → In u bs → is_permit u.parts.distinct ≡ true → Unseen u
  unseen-old u l p = (
    (sh.unseen u l p).0,
    λ y x i j e. elim (from y i) [
      | inl a ↦ elim (cases_Bool (is_F_or_S x.kind)) [ inr f ↦ f | inl k ↦ absurd (clash (is_permit u.parts.distinct) p (m.unseen x u (subst (λ (z : Node). In x z.quants) a j) l (sym e) k)) ]
      | inr z ↦ elim (quant-from z.0 x z.1.0 (subst (λ (z : Node). In x z.quants) (sym z.1.1) j)) [
        | inl a ↦ (sh.unseen u l p).1 z.0 x z.1.0 a e
        | inr a ↦ absurd (clash (u.id == s.id) (eq-eqb u.id s.id (sym e ∙ ap (λ (z : OwnedQuant). z.over) (sym a.1))) (apart u l))
      ]
    ],
  )

  pub shaped-interposed : Shaped hs root
  shaped-interposed = record {
    columns = λ n i. elim (from n i) [ inl e ↦ ap (columns_fit hs) e ∙ columns-s | inr y ↦ subst (λ z. columns_fit hs z ≡ true) y.1.1 (columns-old y.0 y.1.0) ];
    unseen = λ n i p. elim (from n i) [
      | inl e ↦ subst (λ z. Unseen z) (sym e) (unseen-s (subst (λ (z : Node). is_permit z.parts.distinct ≡ true) e p))
      | inr y ↦ (
          let k : is_permit y.0.parts.distinct ≡ true = subst (λ (p : BoxParts). is_permit p.distinct ≡ true) (same-parts y.0) (subst (λ (z : Node). is_permit z.parts.distinct ≡ true) (sym y.1.1) p) in
          let a = unseen-old y.0 y.1.0 k in
          let e : n.id ≡ y.0.id = ap (λ (z : Node). z.id) (sym y.1.1) ∙ same-id y.0 in
          (λ h. a.0 (sym e ∙ h), λ z x i j h. a.1 z x i j (h ∙ e)))
    ];
    shapes = λ n i. elim (from n i) [
      | inl e ↦ ap (shape_fits root hs) e ∙ shape-after s under-s (λ f a d k. absurd (clash (is_fed s.parts.role) f m.not_fed_s)) scalar-s m.shape
      | inr y ↦ subst (λ z. shape_fits root hs z ≡ true) y.1.1 (shape-old y.0 y.1.0)
    ];
  }

pub interposed-formed : InterposedWellFormed
interposed-formed xs ys g e u f s o c r m =
    let p = (sound-checked g u).0 f in
    let w : Sound (xs ++ ys) g.root = subst (λ z. Sound z g.root) e p.0 in
    let t : Typed (xs ++ ys) = subst Typed e p.1 in
    let sh : Shaped (xs ++ ys) g.root = subst (λ z. Shaped z g.root) e p.2 in
    let v = interposed-sound xs ys g.root w s o c r m.interposes in
    (sound-checked (on_boxes (λ boxes. interposed xs ys s o.id r.id) g) (numbers-once (interposed xs ys s o.id r.id) v.ordered)).1
    (v, typed-interposed xs ys g.root w t sh s o c r m, shaped-interposed xs ys g.root w t sh s o c r m)
