-- G3 with keys: the graph with the group over the fed box is well-formed.
use Rattle.std.proofs.Common.{ℕ, zero, suc, ◌==◌, ◌≡◌, ◌≤◌, ◌<◌, ◌+◌, ◌&&◌, ◌||◌, nat_le, nat_lt, cond, not, Bool, true, false, List, [], ◌∷◌, ◌++◌, map, length, take, drop, Option, Some, None, refl, sym, ap, ap₂, subst, ◌∙◌, eqb-true, ◌⊎◌, inl, inr, arith}
use Rattle.std.specs.Prelude.{slice_get}
use Rattle.std.specs.List.{flat_map, list_all, list_any}
use Rattle.std.proofs.lemmas.Bool.{and_from, and_parts, cases_Bool, eq-eqb, leb-true, not-true, or_cases, or_from, or_left, or_parts, or_right}
use Rattle.sql_value.specs.declared.order_key.SqlType.{SqlType}
use Rattle.qgm_core.specs.Boxes.{Ordered, QueryGraph, has_box, ids_in, is_box, is_quant, numbers, overs_in, owns, width}
use Rattle.qgm_core.specs.Edits.{range}
use Rattle.qgm_core.specs.Free.{named_by}
use Rattle.qgm_core.specs.Kinds.{is_F, is_S, is_fed, is_magic, is_permit, is_plain, width_by}
use Rattle.list_laws.specs.Lists.{EachOnce, In, holds, times}
use Rattle.qgm_core.specs.declared.kinds.BoxKind.TheVariants.{Group, Select}
use Rattle.qgm_core.specs.declared.kinds.QuantKind.TheVariants.{F}
use Rattle.qgm_core.specs.declared.kinds.Role.{Role}
use Rattle.qgm_core.specs.declared.kinds.Role.TheVariants.{Fed, Magic, Plain}
use Rattle.qgm_core.specs.declared.node.Node.{Node}
use Rattle.qgm_core.specs.declared.owned.OwnedQuant.{OwnedQuant}
use Rattle.qgm_wellformed.specs.Columns.{box_under, columns_fit, columns_of, fits}
use Rattle.qgm_wellformed.specs.Sentences.{WellFormed}
use Rattle.qgm_wellformed.specs.Shapes as shape
use Rattle.qgm_wellformed.specs.Shapes.{head_folds, head_is_own, is_aggregate, is_group, is_none, is_scalar, is_scalar_in, kind_fits, node_fits, nodes_of, shape_fits}
use Rattle.qgm_wellformed.specs.Types.{Lookup, is_known, joined_column, lookup_of, term_type, types_by}
use Rattle.qgm_wellformed.specs.Types as types
use Rattle.qgm_wellformed.specs.WellFormed.{fault}
use Rattle.qgm_wellformed.proofs.Faults.{finds-none}
use Rattle.qgm_edit_laws.specs.Graph.{Sound, binds_row, nodes_in}
use Rattle.qgm_edit_laws.specs.Placed.{place}
use Rattle.qgm_edit_laws.specs.Reforms.{types_at}
use Rattle.qgm_edit_laws.specs.Shaped.{Shaped, Typed}
use Rattle.qgm_edit_laws.proofs.Adds.{reads-at-read}
use Rattle.qgm_edit_laws.proofs.AnyPut as put
use Rattle.qgm_edit_laws.proofs.BoxForms.{counted-seen, scalar-column}
use Rattle.qgm_edit_laws.proofs.Follow.{in-flat, settled-types}
use Rattle.qgm_edit_laws.proofs.FreeLoose.{looks-asked}
use Rattle.qgm_edit_laws.proofs.Naming.{holds-append}
use Rattle.qgm_edit_laws.proofs.Ranks.{has-in, place-under, same-box}
use Rattle.qgm_edit_laws.proofs.Read.{any-both, is_at, is_of, named-split, nodes-listed, read-named, unbound-reads}
use Rattle.qgm_edit_laws.proofs.Reformed.{wide-types}
use Rattle.qgm_edit_laws.proofs.Scope.{climb, one-owner}
use Rattle.qgm_edit_laws.proofs.Settled.{term-local}
use Rattle.qgm_edit_laws.proofs.OwnShapes.{rows-placed}
use Rattle.qgm_edit_laws.proofs.ShapeParts.{shape-from}
use Rattle.qgm_edit_laws.proofs.TypedKept.{found-under}
use Rattle.qgm_edit_laws.proofs.PutTypes.{all-put, mixed, term-mixed, types-put}
use Rattle.qgm_edit_laws.proofs.TypesBy.{agrees_by, found_by, via}
use Rattle.qgm_meaning.specs.Scope.{loose, read_by}
use Rattle.qgm_meaning.specs.Searches.{binds, names, names_cond}
use Rattle.qgm_meaning.specs.Tags.{columns_from}
use Rattle.qgm_props.specs.Inferred.{Facts}
use Rattle.qgm_props.specs.Laws.{Tells}
use Rattle.qgm_terms.specs.Named.{names_in, names_in_cond}
use Rattle.qgm_terms.specs.Substitution.{cell_at, substituted}
use Rattle.qgm_terms.specs.Terms as t
use Rattle.qgm_terms.specs.Terms.{Term}
use Rattle.qgm_terms.specs.Wanted.{has_aggregate, reads, reads_at, reads_at_cond, reads_cond}
use Rattle.qgm_terms.specs.declared.named.Column.{Column}
use Rattle.qgm_terms.specs.declared.named.QuantNode.{QuantNode}
use Rattle.qgm_terms.specs.declared.named.QuantNode.TheVariants as node
use Rattle.qgm_edit_laws.specs.Rebuilds.{HasForm, IsOwned, MadeIn, Rebuilds, StaysIn}
use Rattle.qgm_edit_laws.proofs.Edits.{length-map}
use Rattle.rule_magic.specs.Boxes.{behind, keyed_box, later, pair_box}
use Rattle.rule_magic.specs.Places.{MayAbsorb}
use Rattle.rule_magic.proofs.CalmFires.{shape-kind}
use Rattle.rule_magic.proofs.AbsorbFacts as fed
use Rattle.rule_magic.proofs.AbsorbFacts.{read-append, read-columns}
use Rattle.rule_magic.proofs.PairFormed.{IsPair, known-map, le-from, lt-from, pair-form, pair-made, read-at-columns, width-pair}
use Rattle.qgm_edit_laws.proofs.Rebuilt.{looks-exact, one-quant, rebuilt, rebuilt-formed}
use Rattle.rule_magic.proofs.AbsorbSelectFormed as made
use Rattle.rule_magic.proofs.AbsorbSelectFormed.{columns-long, f-counts, found-suc, length-append, map-append, none-aggregate, none-names, swapped, times-flat}
use Rattle.rule_magic.proofs.TaggedWidths.{drop-plus, take-plus}
use Rattle.rule_magic.proofs.TypesUnder.{types-known, types-under}
use Rattle.rule_magic.proofs.BehindColumns.{aggregates-behind, columns-typed, drop-map, folds-behind, names-behind, none-list, pointwise, take-map, reads-at-behind, reads-behind}
use Rattle.qgm_core.proofs.Reaching.{in-has}
use Rattle.list_laws.proofs.Counting.{times-append}
use Rattle.list_laws.proofs.Membership.{all-from, all-in, any-from, any-in, any-none, eq-false-sym, eq-itself, holds-in, in-append, in-holds, in-left, in-right}
use Rattle.list_laws.proofs.Booleans.{clash, or-false}

module _ (g : QueryGraph) (once : EachOnce (numbers g.boxes)) (wf : WellFormed g) (known : Facts) (tells : Tells known g.boxes) (d : Node) (may : MayAbsorb g.boxes known d) (up l1 l2 : List Node) (before : g.boxes ≡ up ++ d ∷ (l1 ++ may.c ∷ l2))
    (keys : ℕ) (kind : may.c.parts.kind ≡ Group keys) (q : OwnedQuant) (alone : may.c.quants ≡ q ∷ []) (x : Node) (in_x : In x g.boxes) (over_x : q.over ≡ x.id) where
  abbrev m : Node
  m = may.m

  abbrev c : Node
  c = may.c

  abbrev a : OwnedQuant
  a = may.a

  abbrev r : OwnedQuant
  r = may.r

  abbrev d' : Node
  d' = keyed_box d.id (width may.m + keys) q.id may.r.id (width may.m) (width x) may.c.parts.head may.c.id

  abbrev c' : Node
  c' = pair_box may.c.id Fed may.a.id may.m.id (width may.m) q.id x.id (width x)

  abbrev hs : List Node
  hs = up ++ keyed_box d.id (width may.m + keys) q.id may.r.id (width may.m) (width x) may.c.parts.head may.c.id ∷ (pair_box may.c.id Fed may.a.id may.m.id (width may.m) q.id x.id (width x) ∷ (l1 ++ l2))

  abbrev kept : ℕ → Bool
  kept b = not (b == c.id)

  abbrev look : ℕ → ℕ → Bool
  look b p = not (b == c.id) && loose g.boxes b p

  pub w : Sound g.boxes g.root
  w = made.w g once wf known tells d may

  pub ty : Typed g.boxes
  ty = made.ty g once wf known tells d may

  pub sh : Shaped g.boxes g.root
  sh = made.sh g once wf known tells d may

  pub in-a : In a d.quants
  in-a = made.in-a g once wf known tells d may

  pub in-r : In r d.quants
  in-r = made.in-r g once wf known tells d may

  pub d-not-c : (d.id == c.id) ≡ false
  d-not-c = made.d-not-c g once wf known tells d may

  pub c-not-d : (c.id == d.id) ≡ false
  c-not-d = eq-false-sym d.id c.id d-not-c

  pub in-q : In q c.quants
  in-q = subst (λ (z : List OwnedQuant). In q z) (sym alone) (inl refl)

  pub elsewhere : (n : Node) (s : OwnedQuant) → In n g.boxes → (n.id == d.id) ≡ false → In s n.quants → (s.over == c.id) ≡ false
  elsewhere = made.elsewhere g once wf known tells d may up l1 l2 before

  pub x-not-c : (x.id == c.id) ≡ false
  x-not-c = subst (λ i. (i == c.id) ≡ false) over_x (elsewhere c q may.in_c c-not-d in-q)

  pub m-not-c : (m.id == c.id) ≡ false
  m-not-c = subst (λ i. (i == c.id) ≡ false) (sym may.over_m) (made.a-elsewhere g once wf known tells d may up l1 l2 before)

  not-d : (n : Node) → place g.boxes d.id < place g.boxes n.id → (n.id == d.id) ≡ false
  not-d n l = elim (cases_Bool (n.id == d.id)) [ inr f ↦ f | inl e ↦ absurd (let s : place g.boxes n.id ≡ place g.boxes d.id = ap (place g.boxes) (eqb-true n.id d.id e) in omega (arith, l, s)) ]

  pub m-not-d : (m.id == d.id) ≡ false
  m-not-d = not-d m (subst (λ i. place g.boxes d.id < place g.boxes i) (sym may.over_m) (place-under g.boxes d a w.ordered may.in_d in-a))

  pub x-not-d : (x.id == d.id) ≡ false
  x-not-d = not-d x (
      let one : place g.boxes d.id < place g.boxes c.id = subst (λ i. place g.boxes d.id < place g.boxes i) (sym may.over_c) (place-under g.boxes d r w.ordered may.in_d in-r) in
      let two : place g.boxes c.id < place g.boxes x.id = subst (λ i. place g.boxes c.id < place g.boxes i) over_x (place-under g.boxes c q w.ordered may.in_c in-q) in
      omega (arith, one, two))

  -- ---- the shape of c

  pub group-c : is_group keys c ≡ true
  group-c = subst (λ z. kind_fits g.root g.boxes c z ≡ true) kind (shape-kind g once wf c may.in_c)

  pub own-c : head_is_own c ≡ true
  own-c = (and_parts (shape.are_F 1 c.quants && is_none c.parts.conds.items && is_plain c.parts.role && head_folds keys c.parts.head) (head_is_own c) group-c).1

  pub folds-c : head_folds keys c.parts.head ≡ true
  folds-c = (and_parts (shape.are_F 1 c.quants && is_none c.parts.conds.items && is_plain c.parts.role) (head_folds keys c.parts.head) (and_parts (shape.are_F 1 c.quants && is_none c.parts.conds.items && is_plain c.parts.role && head_folds keys c.parts.head) (head_is_own c) group-c).0).1

  plain-parts : ((shape.are_F 1 c.quants && is_none c.parts.conds.items) ≡ true) × (is_plain c.parts.role ≡ true)
  plain-parts = and_parts (shape.are_F 1 c.quants && is_none c.parts.conds.items) (is_plain c.parts.role) (and_parts (shape.are_F 1 c.quants && is_none c.parts.conds.items && is_plain c.parts.role) (head_folds keys c.parts.head) (and_parts (shape.are_F 1 c.quants && is_none c.parts.conds.items && is_plain c.parts.role && head_folds keys c.parts.head) (head_is_own c) group-c).0).0

  pub c-not-fed : is_fed c.parts.role ≡ false
  c-not-fed = at c.parts.role plain-parts.1
    where
      at : (z : Role) → is_plain z ≡ true → is_fed z ≡ false
      at Plain h = refl
      at Magic h = absurd (let z : ⊥ = cc in z)
      at Fed h = absurd (let z : ⊥ = cc in z)

  pub no-conds : c.parts.conds.items ≡ []
  no-conds = none-list c.parts.conds.items (and_parts (shape.are_F 1 c.quants) (is_none c.parts.conds.items) plain-parts.0).1

  pub f-q : is_F q.kind ≡ true
  f-q =
      let z : shape.are_F 1 (q ∷ []) ≡ true = subst (λ (z : List OwnedQuant). shape.are_F 1 z ≡ true) alone (and_parts (shape.are_F 1 c.quants) (is_none c.parts.conds.items) plain-parts.0).0 in
      (and_parts (is_F q.kind) true (and_parts (length (q ∷ []) == 1) (is_F q.kind && true) z).1).0

  pub owns-q : (p : ℕ) → owns p c ≡ true → p ≡ q.id
  owns-q p o = elim (or_cases (q.id == p) false (subst (λ (z : List OwnedQuant). list_any (is_quant p) z ≡ true) alone o)) [ inl e ↦ sym (eqb-true q.id p e) | inr e ↦ absurd (let z : ⊥ = cc in z) ]

  pub named-c : (p : ℕ) → holds p (named_by c) ≡ true → p ≡ q.id
  named-c p h = owns-q p (all-in (λ p. owns p c) p (flat_map names_in c.parts.head) own-c (holds-in p (flat_map names_in c.parts.head) (head-only h)))
    where
      head-only : holds p (named_by c) ≡ true → holds p (flat_map names_in c.parts.head) ≡ true
      head-only h = sym (or-false (holds p (flat_map names_in c.parts.head))) ∙ sym (holds-append p (flat_map names_in c.parts.head) []) ∙ subst (λ (z : List t.Cond). holds p (flat_map names_in c.parts.head ++ flat_map names_in_cond z) ≡ true) no-conds h

  pub reads-c : (p : ℕ) → list_any (reads p) c.parts.head ≡ true → p ≡ q.id
  reads-c p h = named-c p (read-named p c (or_left (list_any (reads p) c.parts.head) (list_any (reads_cond p) c.parts.conds.items) h))

  pub reads-at-c : (p j : ℕ) → list_any (reads_at p j) c.parts.head ≡ true → p ≡ q.id
  reads-at-c p j h = named-c p (read-named p c (reads-at-read p j c (or_left (list_any (reads_at p j) c.parts.head) (list_any (reads_at_cond p j) c.parts.conds.items) h)))

  pub names-c : (p : ℕ) → list_any (names p) c.parts.head ≡ false
  names-c p = elim (cases_Bool (list_any (names p) c.parts.head)) [
    | inr f ↦ f
    | inl e ↦ absurd (
        let o = w.own_nodes c may.in_c p (or_left (list_any (names p) c.parts.head) (list_any (names_cond p) c.parts.conds.items) e) in
        let same : p ≡ q.id = owns-q p o.0 in
        let binds : binds_row p c.quants ≡ true = subst (λ (z : List OwnedQuant). binds_row p z ≡ true) (sym alone) (or_left (is_F q.kind && (q.id == p)) false (and_from (is_F q.kind) (q.id == p) f-q (eq-eqb q.id p (sym same)))) in
        clash (binds_row p c.quants) binds o.1)
  ]

  pub q-not-a : (q.id == a.id) ≡ false
  q-not-a = elim (cases_Bool (q.id == a.id)) [
    | inr f ↦ f
    | inl e ↦ absurd (clash (d.id == c.id) (eq-eqb d.id c.id (ap (λ (z : Node). z.id) (one-owner g.boxes g.root w a.id d c may.in_d may.in_c (any-from (is_quant a.id) a d.quants in-a (eq-itself a.id)) (any-from (is_quant a.id) q c.quants in-q e)))) d-not-c)
  ]

  pub open-c : (loose g.boxes c.id a.id ≡ true) × ((p : ℕ) → loose g.boxes c.id p ≡ true → p ≡ a.id)
  open-c = made.open-c g once wf known tells d may

  pub x-alone : (p : ℕ) → loose g.boxes x.id p ≡ true → p ≡ a.id
  x-alone p h = elim (climb g.boxes g.root w c q p may.in_c in-q (subst (λ i. loose g.boxes i p ≡ true) (sym over_x) h)) [
    | inl y ↦ absurd (let z : Group keys ≡ Select = sym kind ∙ y.0 in let u : ⊥ = cc z in u)
    | inr y ↦ open-c.1 p y
  ]

  pub x-open : loose g.boxes x.id a.id ≡ true
  x-open = elim (looks-asked g.boxes g.root w c may.in_c a.id open-c.0).1 [
    | inl y ↦ absurd (clash (q.id == a.id) (eq-eqb q.id a.id (sym (named-c a.id (read-named a.id c y)))) q-not-a)
    | inr y ↦ (
        let one : y.0 ≡ q = elim (subst (λ (z : List OwnedQuant). In y.0 z) alone y.1.0) [ inl e ↦ sym e | inr z ↦ elim z [ ] ] in
        subst (λ i. loose g.boxes i a.id ≡ true) over_x (subst (λ (z : OwnedQuant). loose g.boxes z.over a.id ≡ true) one y.1.1))
  ]

  -- ---- where the boxes stand

  pub in-d' : In d' hs
  in-d' = in-right d' up (d' ∷ (c' ∷ (l1 ++ l2))) (inl refl)

  pub in-c' : In c' hs
  in-c' = in-right c' up (d' ∷ (c' ∷ (l1 ++ l2))) (inr (inl refl))

  pub each-in : (n : Node) → In n hs → (n ≡ d') ⊎ ((n ≡ c') ⊎ (In n g.boxes × (((n.id == d.id) ≡ false) × ((n.id == c.id) ≡ false))))
  each-in n i = elim (in-append n up (d' ∷ (c' ∷ (l1 ++ l2))) i) [
    | inl j ↦ inr (inr (made.other-up g once wf known tells d may up l1 l2 before n j))
    | inr j ↦ elim j [
      | inl e ↦ inl (sym e)
      | inr y ↦ elim y [
        | inl e ↦ inr (inl (sym e))
        | inr z ↦ inr (inr (elim (in-append n l1 l2 z) [ inl u ↦ made.other-left g once wf known tells d may up l1 l2 before n u | inr u ↦ made.other-right g once wf known tells d may up l1 l2 before n u ]))
      ]
    ]
  ]

  pub to-hs : (n : Node) → In n g.boxes → (n.id == d.id) ≡ false → (n.id == c.id) ≡ false → In n hs
  to-hs n i e f = elim (made.place-of g once wf known tells d may up l1 l2 before n i) [
    | inl y ↦ absurd (clash (n.id == d.id) (eq-eqb n.id d.id (ap (λ (z : Node). z.id) y)) e)
    | inr y ↦ elim y [
      | inl z ↦ absurd (clash (n.id == c.id) (eq-eqb n.id c.id (ap (λ (z : Node). z.id) z)) f)
      | inr z ↦ elim z [ inl u ↦ in-left n up (d' ∷ (c' ∷ (l1 ++ l2))) u | inr u ↦ in-right n up (d' ∷ (c' ∷ (l1 ++ l2))) (inr (inr u)) ]
    ]
  ]

  in-m : In m hs
  in-m = to-hs m may.in_m m-not-d m-not-c

  in-x : In x hs
  in-x = to-hs x in_x x-not-d x-not-c

  abbrev od : Ordered (d ∷ (l1 ++ c ∷ l2))
  od = made.od g once wf known tells d may up l1 l2 before

  abbrev oc : Ordered (c ∷ l2)
  oc = made.oc g once wf known tells d may up l1 l2 before

  abbrev more : (b : ℕ) → (b == c.id) ≡ false → has_box (l1 ++ c ∷ l2) b ≡ true → has_box (l1 ++ l2) b ≡ true
  more = made.more g once wf known tells d may up l1 l2 before

  abbrev fewer : (b : ℕ) → has_box (l1 ++ c ∷ l2) b ≡ false → has_box (l1 ++ l2) b ≡ false
  fewer = made.fewer g once wf known tells d may up l1 l2 before

  pub ordered : Ordered hs
  ordered = swapped up (d ∷ (l1 ++ c ∷ l2)) (d' ∷ (c' ∷ (l1 ++ l2))) c.id (made.ob g once wf known tells d may up l1 l2 before) (d-none, d-all, (c-none, c-all, made.low g once wf known tells d may up l1 l2 before))
      (λ b f. (
      let y = or_parts (d.id == b) (has_box (l1 ++ c ∷ l2) b) f in
      or_from (d.id == b) ((c.id == b) || has_box (l1 ++ l2) b) y.0 (or_from (c.id == b) (has_box (l1 ++ l2) b) (any-none (is_box b) c (l1 ++ c ∷ l2) y.1 (in-right c l1 (c ∷ l2) (inl refl))) (fewer b y.1))))
      (λ b n h. elim (or_cases (d.id == b) (has_box (l1 ++ c ∷ l2) b) h) [
        | inl y ↦ or_left (d.id == b) ((c.id == b) || has_box (l1 ++ l2) b) y
        | inr y ↦ or_right (d.id == b) ((c.id == b) || has_box (l1 ++ l2) b) (or_right (c.id == b) (has_box (l1 ++ l2) b) (more b n y))
      ])
      (λ n s i j. (let y = made.other-up g once wf known tells d may up l1 l2 before n i in elsewhere n s y.0 y.1.0 j))
    where
      d-none : ((c.id == d.id) || has_box (l1 ++ l2) d.id) ≡ false
      d-none = or_from (c.id == d.id) (has_box (l1 ++ l2) d.id) c-not-d (fewer d.id od.0)

      d-all : (((c.id == c.id) || has_box (l1 ++ l2) c.id) && true) ≡ true
      d-all = and_from ((c.id == c.id) || has_box (l1 ++ l2) c.id) true (or_left (c.id == c.id) (has_box (l1 ++ l2) c.id) (eq-itself c.id)) refl

      c-none : has_box (l1 ++ l2) c.id ≡ false
      c-none = elim (cases_Bool (has_box (l1 ++ l2) c.id)) [
        | inr f ↦ f
        | inl e ↦ absurd (
            let y = has-in c.id (l1 ++ l2) e in
            let f : (y.0.id == c.id) ≡ false = elim (in-append y.0 l1 l2 y.1.0) [ inl u ↦ (made.other-left g once wf known tells d may up l1 l2 before y.0 u).1.1 | inr u ↦ (made.other-right g once wf known tells d may up l1 l2 before y.0 u).1.1 ] in
            clash (y.0.id == c.id) (eq-eqb y.0.id c.id y.1.1) f)
      ]

      c-all : (has_box (l1 ++ l2) m.id && (has_box (l1 ++ l2) x.id && true)) ≡ true
      c-all = and_from (has_box (l1 ++ l2) m.id) (has_box (l1 ++ l2) x.id && true)
          (more m.id m-not-c (subst (λ i. has_box (l1 ++ c ∷ l2) i ≡ true) (sym may.over_m) (all-in (λ (s : OwnedQuant). has_box (l1 ++ c ∷ l2) s.over) a d.quants od.1 in-a)))
          (and_from (has_box (l1 ++ l2) x.id) true (any-both (is_box x.id) l1 l2 ∙ or_right (has_box l1 x.id) (has_box l2 x.id) (subst (λ i. has_box l2 i ≡ true) over_x (all-in (λ (s : OwnedQuant). has_box l2 s.over) q c.quants oc.1 in-q))) refl)

  -- as many of each
  same-times : (f : OwnedQuant → ℕ) (p : ℕ) → f (range r.id F c.id) ≡ f r → f (range a.id F m.id) ≡ f a → f (range q.id F x.id) ≡ f q
      → times p (flat_map (λ (n : Node). map f n.quants) hs) ≡ times p (flat_map (λ (n : Node). map f n.quants) g.boxes)
  same-times f p fr fa fq =
      let G : Node → List ℕ = λ (n : Node). map f n.quants in
      let e1 = times-flat G p up (d' ∷ (c' ∷ (l1 ++ l2))) in
      let e2 = times-append p (G d') (flat_map G (c' ∷ (l1 ++ l2))) in
      let e3 = times-append p (G c') (flat_map G (l1 ++ l2)) in
      let e4 = times-flat G p l1 l2 in
      let e5 : times p (G d') ≡ cond (f r == p) 1 0 + 0 = ap (λ z. cond (z == p) 1 0 + 0) fr in
      let e6 : times p (G c') ≡ cond (f a == p) 1 0 + (cond (f q == p) 1 0 + 0) = ap₂ (λ y z. cond (y == p) 1 0 + (cond (z == p) 1 0 + 0)) fa fq in
      let k1 = ap (λ (z : List Node). times p (flat_map G z)) before in
      let k2 = times-flat G p up (d ∷ (l1 ++ c ∷ l2)) in
      let k3 = times-append p (G d) (flat_map G (l1 ++ c ∷ l2)) in
      let k4 = times-flat G p l1 (c ∷ l2) in
      let k5 = times-append p (G c) (flat_map G l2) in
      let k6 : times p (G d) ≡ cond (f a == p) 1 0 + (cond (f r == p) 1 0 + 0) = ap (λ (z : List OwnedQuant). times p (map f z)) may.quants in
      let k7 : times p (G c) ≡ cond (f q == p) 1 0 + 0 = ap (λ (z : List OwnedQuant). times p (map f z)) alone in
      omega (arith, e1, e2, e3, e4, e5, e6, k1, k2, k3, k4, k5, k6, k7)

  once-after : (p : ℕ) → times p (ids_in hs) ≤ 1
  once-after p = (let y = same-times (λ (z : OwnedQuant). z.id) p refl refl refl in let z = w.once p in omega (arith, y, z))

  overs-after : (p : ℕ) → times p (overs_in hs) ≡ times p (overs_in g.boxes)
  overs-after p = same-times (λ (z : OwnedQuant). z.over) p may.over_c may.over_m (sym over_x)

  -- ---- widths

  pub width-c : width c ≡ length c.parts.head
  width-c = ap (λ z. width_by z (length c.parts.head)) kind

  width-d : width d' ≡ width d
  width-d =
      length-append (columns_from r.id 1 (width m)) (behind q.id r.id (width m) (width x) c.parts.head)
      ∙ ap₂ ◌+◌ (columns-long r.id 1 (width m) ∙ sym (columns-long a.id 1 (width m))) (length-map (substituted q.id (later r.id (width m) (width x))) c.parts.head ∙ sym width-c ∙ sym (columns-long r.id 1 (width c)))
      ∙ sym (length-append (columns_from a.id 1 (width m)) (columns_from r.id 1 (width c)))
      ∙ ap length (sym (fed.head-is g once wf known tells d may)) ∙ sym (ap (λ z. width_by z (length d.parts.head)) (fed.kind_d g once wf known tells d may))

  same-wide : (u n : Node) → In u g.boxes → In n hs → kept u.id ≡ true → u.id ≡ n.id → width n ≡ width u
  same-wide u n i j l e = elim (each-in n j) [
    | inl y ↦ (
        let s : u ≡ d = same-box g.boxes u d w.ordered i may.in_d (e ∙ ap (λ (z : Node). z.id) y) in
        ap width y ∙ width-d ∙ ap width (sym s))
    | inr y ↦ elim y [
      | inl z ↦ absurd (clash (u.id == c.id) (eq-eqb u.id c.id (e ∙ ap (λ (z : Node). z.id) z)) (not-true (u.id == c.id) l))
      | inr z ↦ ap width (same-box g.boxes n u w.ordered z.0 i (sym e))
    ]
  ]

  -- ---- boxes that stay

  stays : (n : Node) → In n g.boxes → (n.id == d.id) ≡ false → (n.id == c.id) ≡ false → StaysIn g.boxes hs kept look n
  stays n i nd nc = record {
    within = i;
    number = ap not nc;
    same = λ p. ap (λ b. not b && loose g.boxes n.id p) nc;
    over = λ s j. (let f = elsewhere n s i nd j in (ap not f, λ p. ap (λ b. not b && loose g.boxes s.over p) f));
    named = λ s h y. elim (cases_Bool (y.0.id == d.id)) [
      | inl e ↦ (
          let same : y.0 ≡ d = same-box g.boxes y.0 d w.ordered y.1.0 may.in_d (eqb-true y.0.id d.id e) in
          elim (made.of-d g once wf known tells d may s (subst (λ (z : Node). In s z.quants) same y.1.1)) [
            | inl z ↦ (ap not (ap (λ (z : OwnedQuant). z.over == c.id) z ∙ made.a-elsewhere g once wf known tells d may up l1 l2 before), (range a.id F m.id, ((c', (in-c', inl refl)), (ap (λ (z : OwnedQuant). z.id) (sym z), may.over_m ∙ ap (λ (z : OwnedQuant). z.over) (sym z)))))
            | inr z ↦ absurd (made.r-unnamed g once wf known tells d may n i nd (subst (λ (z : OwnedQuant). holds z.id (named_by n) ≡ true) z h))
          ])
      | inr f ↦ elim (cases_Bool (y.0.id == c.id)) [
        | inl e ↦ (
            let same : y.0 ≡ c = same-box g.boxes y.0 c w.ordered y.1.0 may.in_c (eqb-true y.0.id c.id e) in
            let is : s ≡ q = elim (subst (λ (z : List OwnedQuant). In s z) alone (subst (λ (z : Node). In s z.quants) same y.1.1)) [ inl z ↦ sym z | inr z ↦ elim z [ ] ] in
            (ap not (elsewhere y.0 s y.1.0 f y.1.1), (range q.id F x.id, ((c', (in-c', inr (inl refl))), (ap (λ (z : OwnedQuant). z.id) (sym is), sym over_x ∙ ap (λ (z : OwnedQuant). z.over) (sym is))))))
        | inr l ↦ (ap not (elsewhere y.0 s y.1.0 f y.1.1), (s, ((y.0, (to-hs y.0 y.1.0 f l, y.1.1)), (refl, refl))))
      ]
    ];
  }

  -- ---- the fed box

  looks-m : (p : ℕ) → look m.id p ≡ false
  looks-m p = ap (λ b. not (m.id == c.id) && b) (fed.closed-m g once wf known tells d may p) ∙ and-none (not (m.id == c.id))
    where
      and-none : (b : Bool) → (b && false) ≡ false
      and-none true = refl
      and-none false = refl

  pub looks-c : (p : ℕ) → look c.id p ≡ false
  looks-c p = ap (λ b. not b && loose g.boxes c.id p) (eq-itself c.id)

  pub looks-d : (p : ℕ) → look d.id p ≡ false
  looks-d p = ap (λ b. not b && loose g.boxes d.id p) d-not-c ∙ made.closed-d g once wf known tells d may p

  pair : IsPair hs look c' m x a.id q.id
  pair = record {
    ordered = ordered;
    once = once-after;
    in_n = in-c';
    in_m = in-m;
    in_x = in-x;
    apart = eq-false-sym q.id a.id q-not-a;
    closed = looks-m;
    alone = λ p h. x-alone p (and_parts (not (x.id == c.id)) (loose g.boxes x.id p) h).1;
    nothing = looks-c;
  }

  -- ---- the group

  owned-r : IsOwned hs (range r.id F c.id)
  owned-r = (d', (in-d', inl refl))

  head-reads : (p : ℕ) → list_any (reads p) d'.parts.head ≡ true → (r.id == p) ≡ true
  head-reads p h = elim (read-append p (columns_from r.id 1 (width m)) (behind q.id r.id (width m) (width x) c.parts.head) h) [
    | inl y ↦ read-columns p r.id 1 (width m) y
    | inr y ↦ reads-behind q.id r.id (width m) (width x) c.parts.head reads-c reads-at-c (names-c q.id) p y
  ]

  wide-c' : width c' ≡ width m + width x
  wide-c' = width-pair hs look c.id a.id q.id Fed m x pair

  head-reads-at : (p j : ℕ) → list_any (reads_at p j) d'.parts.head ≡ true → ((r.id == p) ≡ true) × ((1 ≤ j) × (j ≤ width c'))
  head-reads-at p j h = elim (or_cases (list_any (reads_at p j) (columns_from r.id 1 (width m))) (list_any (reads_at p j) (behind q.id r.id (width m) (width x) c.parts.head)) (sym (any-both (reads_at p j) (columns_from r.id 1 (width m)) (behind q.id r.id (width m) (width x) c.parts.head)) ∙ h)) [
    | inl y ↦ (let z = read-at-columns p j r.id 1 (width m) y in let lo = z.1 in let hi = z.2 in let e = wide-c' in (z.0, ((omega (arith, lo)), (omega (arith, hi, e)))))
    | inr y ↦ (let z = reads-at-behind q.id r.id (width m) (width x) c.parts.head reads-c reads-at-c (names-c q.id) p j y in let lo = z.1 in let hi = z.2 in let e = wide-c' in (z.0, ((omega (arith, lo)), (omega (arith, hi, e)))))
  ]

  head-names : (p : ℕ) → list_any (names p) d'.parts.head ≡ false
  head-names p = any-both (names p) (columns_from r.id 1 (width m)) (behind q.id r.id (width m) (width x) c.parts.head)
      ∙ ap₂ (λ y z. y || z) (none-names p r.id 1 (width m)) (names-behind q.id r.id (width m) (width x) p c.parts.head ∙ names-c p)

  group-made : MadeIn hs look d'
  group-made = record {
    scoped = record { under = under; own = λ p h. or_left ((r.id == p) || false) (look d.id p) (or_left (r.id == p) false (head-reads p (sym (or-false (list_any (reads p) d'.parts.head)) ∙ h))) };
    settled = λ p o. looks-d p;
    asks = λ p h. absurd (clash (look d.id p) h (looks-d p));
    fits = λ p j h o s u i l e iu f. (
        let z = head-reads-at p j (sym (or-false (list_any (reads_at p j) d'.parts.head)) ∙ h) in
        let same : range r.id F c.id ≡ s = one-quant hs once-after (range r.id F c.id) s owned-r (o, (i, l)) (eqb-true r.id p z.0 ∙ sym e) in
        let below : c' ≡ u = same-box hs c' u ordered in-c' iu (ap (λ (v : OwnedQuant). v.over) same ∙ sym f) in
        (z.1.0, subst (λ (v : Node). j ≤ width v) below z.1.1));
    own_nodes = λ p h. absurd (clash (list_any (names p) d'.parts.head) (sym (or-false (list_any (names p) d'.parts.head)) ∙ h) (head-names p));
    bare = tt;
    arms = λ u s j i e. tt;
  }
    where
      under : (done : List OwnedQuant) (s : OwnedQuant) (rest : List OwnedQuant) → range r.id F c.id ∷ [] ≡ done ++ s ∷ rest → (p : ℕ) → look s.over p ≡ true → (false || look d.id p) ≡ true
      under [] s rest e p h =
          let z : range r.id F c.id ≡ s = cc e in
          absurd (clash (look c.id p) (subst (λ (z : OwnedQuant). look z.over p ≡ true) (sym z) h) (looks-c p))
      under (y ∷ []) s rest e p h = absurd (let z : ⊥ = cc e in z)
      under (y ∷ (z ∷ done)) s rest e p h = absurd (let z : ⊥ = cc e in z)

  -- ---- rebuilt

  abbrev fresh : ℕ → Bool
  fresh b = (b == d.id) || (b == c.id)

  new-box : (n : Node) → In n hs → fresh n.id ≡ true → (n ≡ d') ⊎ (n ≡ c')
  new-box n i h = elim (each-in n i) [
    | inl y ↦ inl y
    | inr y ↦ elim y [
      | inl z ↦ inr z
      | inr z ↦ absurd (elim (or_cases (n.id == d.id) (n.id == c.id) h) [ inl e ↦ clash (n.id == d.id) e z.1.0 | inr e ↦ clash (n.id == c.id) e z.1.1 ])
    ]
  ]

  pub rebuilds : Rebuilds g.boxes hs g.root kept look fresh
  rebuilds = record {
    ordered = ordered;
    rooted = (let y = has-in g.root g.boxes w.rooted in subst (λ b. has_box hs b ≡ true) y.1.1 (held y.0 y.1.0));
    top = overs-after g.root ∙ w.top;
    once = once-after;
    wide = λ u n i j l e. same-wide u n i j l e;
    magic = λ u n i j l e. elim (each-in n j) [
      | inl y ↦ (
          let s : u ≡ d = same-box g.boxes u d w.ordered i may.in_d (e ∙ ap (λ (z : Node). z.id) y) in
          ap (λ (z : Node). is_magic z.parts.role) y ∙ sym (ap is_magic may.is_fed) ∙ ap (λ (z : Node). is_magic z.parts.role) (sym s))
      | inr y ↦ elim y [
        | inl z ↦ absurd (clash (u.id == c.id) (eq-eqb u.id c.id (e ∙ ap (λ (z : Node). z.id) z)) (not-true (u.id == c.id) l))
        | inr z ↦ ap (λ (z : Node). is_magic z.parts.role) (same-box g.boxes n u w.ordered z.0 i (sym e))
      ]
    ];
    held = λ u i l. held u i;
    used = λ b p h. overs-after b ∙ w.used b p (and_parts (not (b == c.id)) (loose g.boxes b p) h).1;
    each = λ n i. elim (each-in n i) [
      | inl y ↦ inr (or_left (n.id == d.id) (n.id == c.id) (eq-eqb n.id d.id (ap (λ (z : Node). z.id) y)))
      | inr y ↦ elim y [
        | inl z ↦ inr (or_right (n.id == d.id) (n.id == c.id) (eq-eqb n.id c.id (ap (λ (z : Node). z.id) z)))
        | inr z ↦ inl (stays n z.0 z.1.0 z.1.1)
      ]
    ];
    made = λ n i h. elim (new-box n i h) [ inl y ↦ subst (MadeIn hs look) (sym y) group-made | inr y ↦ subst (MadeIn hs look) (sym y) (pair-made hs look c.id a.id q.id Fed m x pair) ];
  }
    where
      held : (u : Node) → In u g.boxes → has_box hs u.id ≡ true
      held u i = elim (cases_Bool (u.id == d.id)) [
        | inl e ↦ subst (λ b. has_box hs b ≡ true) (sym (eqb-true u.id d.id e)) (in-has d' hs in-d')
        | inr f ↦ elim (cases_Bool (u.id == c.id)) [
          | inl e ↦ subst (λ b. has_box hs b ≡ true) (sym (eqb-true u.id c.id e)) (in-has c' hs in-c')
          | inr l ↦ in-has u hs (to-hs u i f l)
        ]
      ]

  pub sound-after : Sound hs g.root
  sound-after = rebuilt g.boxes hs g.root kept look fresh w rebuilds

  pub looks-after : (b p : ℕ) → has_box hs b ≡ true → loose hs b p ≡ look b p
  looks-after = looks-exact g.boxes hs g.root kept look fresh w rebuilds

  -- ---- types

  abbrev pub M : List (Option SqlType)
  M = types_at g.boxes m.id

  abbrev pub X : List (Option SqlType)
  X = types_at g.boxes x.id

  abbrev T : ℕ → List (Option SqlType)
  T b = cond (b == c.id) (types_at g.boxes m.id ++ types_at g.boxes x.id) (types_at g.boxes b)

  abbrev pub L : Lookup
  L = lookup_of g.boxes

  T-other : (b : ℕ) → (b == c.id) ≡ false → T b ≡ types_at g.boxes b
  T-other b f = ap (λ t. cond t (M ++ X) (types_at g.boxes b)) f

  T-c : T c.id ≡ M ++ X
  T-c = ap (λ t. cond t (M ++ X) (types_at g.boxes c.id)) (eq-itself c.id)

  pub long-m : length M ≡ width m
  long-m = wide-types g.boxes g.root w m may.in_m

  pub long-x : length X ≡ width x
  long-x = wide-types g.boxes g.root w x in_x

  pub L-m : map (term_type L) (columns_from a.id 1 (width m)) ≡ M
  L-m = types-under g.boxes g.root w d m a may.in_d in-a may.in_m may.over_m

  pub L-x : map (term_type L) (columns_from q.id 1 (width x)) ≡ X
  L-x = types-under g.boxes g.root w c x q may.in_c in-q in_x (sym over_x)

  pub L-c : map (term_type L) (columns_from r.id 1 (width c)) ≡ types_at g.boxes c.id
  L-c = types-under g.boxes g.root w d c r may.in_d in-r may.in_c may.over_c

  pub all-known : (n : Node) → In n g.boxes → list_all is_known (types_at g.boxes n.id) ≡ true
  all-known = types-known g.boxes g.root w ty

  pub seen-m : is_permit m.parts.distinct ≡ false
  seen-m = counted-seen g.boxes g.root ty sh d m a may.in_d in-a (f-counts a.kind (made.f-a g once wf known tells d may)) may.in_m may.over_m

  pub seen-x : is_permit x.parts.distinct ≡ false
  seen-x = counted-seen g.boxes g.root ty sh c x q may.in_c in-q (f-counts q.kind f-q) in_x (sym over_x)

  -- no S quantifier ranges over the fed box
  unscalar : is_scalar hs c.id ≡ true → ⊥
  unscalar h =
      let o = any-in (λ (o : Node). is_scalar_in o.quants c.id) hs h in
      let s = any-in (λ (s : OwnedQuant). (s.over == c.id) && is_S s.kind) o.0.quants o.1.1 in
      let y = and_parts (s.0.over == c.id) (is_S s.0.kind) s.1.1 in
      elim (each-in o.0 o.1.0) [
        | inl e ↦ elim (subst (λ (z : Node). In s.0 z.quants) e s.1.0) [ inl z ↦ not-s s.0 r.id c.id z y.1 | inr z ↦ elim z [ ] ]
        | inr e ↦ elim e [
          | inl e ↦ elim (subst (λ (z : Node). In s.0 z.quants) e s.1.0) [ inl z ↦ not-s s.0 a.id m.id z y.1 | inr z ↦ elim z [ inl z ↦ not-s s.0 q.id x.id z y.1 | inr z ↦ elim z [ ] ] ]
          | inr e ↦ clash (s.0.over == c.id) y.0 (elsewhere o.0 s.0 e.0 e.1.0 s.1.0)
        ]
      ]
    where
      not-s : (s : OwnedQuant) (i b : ℕ) → range i F b ≡ s → is_S s.kind ≡ true → ⊥
      not-s s i b e h = let z : is_S F ≡ true = subst (λ (z : OwnedQuant). is_S z.kind ≡ true) (sym e) h in let u : ⊥ = cc in u

  module _ (v : Sound hs g.root) where
    abbrev V : Lookup
    V = via T hs

    fed-form : HasForm hs g.root T c'
    fed-form = pair-form hs look c.id a.id q.id Fed m x pair g.root v T
        (T-c ∙ ap₂ (λ (y z : List (Option SqlType)). y ++ z) (sym (T-other m.id m-not-c)) (sym (T-other x.id x-not-c)))
        (ap length (T-other m.id m-not-c) ∙ long-m) (ap length (T-other x.id x-not-c) ∙ long-x)
        (ap (list_all is_known) (T-other m.id m-not-c) ∙ all-known m may.in_m) (ap (list_all is_known) (T-other x.id x-not-c) ∙ all-known x in_x)
        seen-m seen-x (λ h. absurd (unscalar h))
        (inr (refl, not-root, (fed.magic-m g once wf known tells d may, (looks-x a.id ∙ x-open, λ p h. x-alone p (sym (looks-x p) ∙ h)))))
      where
        looks-x : (p : ℕ) → loose hs x.id p ≡ loose g.boxes x.id p
        looks-x p = looks-after x.id p (in-has x hs in-x) ∙ ap (λ b. not b && loose g.boxes x.id p) x-not-c

        not-root : (c.id == g.root) ≡ false
        not-root = elim (cases_Bool (c.id == g.root)) [
          | inr f ↦ f
          | inl e ↦ absurd (let y = w.top in let u = fed.used-c g once wf known tells d may in let z : times c.id (overs_in g.boxes) ≡ 0 = subst (λ b. times b (overs_in g.boxes) ≡ 0) (sym (eqb-true c.id g.root e)) y in omega (arith, u, z))
        ]

    under-r : box_under hs r.id ≡ Some c'
    under-r = found-under hs g.root v r.id (record { owner = d'; quant = range r.id F c.id; box = c'; owner_in = in-d'; quant_in = inl refl; is_q = refl; box_in = in-c'; is_over = refl })

    V-r : (j : ℕ) → V r.id (suc j) ≡ joined_column (slice_get (M ++ X) j)
    V-r j = ap (found_by T (suc j)) under-r ∙ found-suc T j c' ∙ ap (λ (z : List (Option SqlType)). joined_column (slice_get z j)) T-c

    V-m : map (term_type V) (columns_from r.id 1 (width m)) ≡ M
    V-m = ap (λ z. map (term_type V) (columns_from r.id 1 z)) (sym long-m) ∙ columns-typed V r.id [] M X V-r

    V-x : map (term_type V) (later r.id (width m) (width x)) ≡ X
    V-x = ap₂ (λ y z. map (term_type V) (columns_from r.id (suc y) z)) (sym long-m) (sym long-x) ∙ columns-typed V r.id M X [] (λ j. V-r j ∙ ap (λ (z : List (Option SqlType)). joined_column (slice_get (M ++ z) j)) (nothing-more X))
      where
        nothing-more : (zs : List (Option SqlType)) → zs ≡ zs ++ []
        nothing-more [] = refl
        nothing-more (z ∷ zs) = ap (λ (y : List (Option SqlType)). z ∷ y) (nothing-more zs)

    abbrev cells_q : List Term
    cells_q = later r.id (width m) (width x)

    V-head : map (term_type V) (behind q.id r.id (width m) (width x) c.parts.head) ≡ map (term_type L) c.parts.head
    V-head = types-put L V q.id cells_q Select c.parts.head (λ y i. term-mixed L V q.id cells_q y (any-none (names q.id) y c.parts.head (names-c q.id) i) (good y i) ∙ term-local (mixed L V q.id cells_q) L (λ n. n == q.id) alike y (all-from (λ n. n == q.id) (names_in y) (λ n j. eq-eqb n q.id (named-c n (in-holds n (named_by c) (in-left n (flat_map names_in c.parts.head) (flat_map names_in_cond c.parts.conds.items) (in-flat names_in y c.parts.head n i j)))))))
      where
        alike : (n : ℕ) → (n == q.id) ≡ true → (j : ℕ) → mixed L V q.id cells_q n j ≡ L n j
        alike n e j = ap (λ b. cond b (L q.id j) (V n j)) e ∙ ap (λ z. L z j) (sym (eqb-true n q.id e))

        good : (y : Term) → In y c.parts.head → (j : ℕ) → reads_at q.id j y ≡ true → term_type V (cell_at j cells_q) ≡ L q.id j
        good y i j h = at j (w.fits c may.in_c q.id j (or_left (list_any (reads_at q.id j) c.parts.head) (list_any (reads_at_cond q.id j) c.parts.conds.items) (any-from (reads_at q.id j) y c.parts.head i h)) c q x may.in_c in-q refl in_x (sym over_x))
          where
            at : (j : ℕ) → (1 ≤ j) × (j ≤ width x) → term_type V (cell_at j cells_q) ≡ L q.id j
            at zero l = absurd (let z = l.0 in omega (arith, z))
            at (suc j) l = pointwise V L r.id q.id (suc (width m)) 1 (width x) (V-x ∙ sym L-x) j (let z = l.1 in omega (arith, z)) ∙ ap (L q.id) (omega arith)

    typed-new : T d.id ≡ map (term_type V) d'.parts.head
    typed-new =
        T-other d.id d-not-c ∙ settled-types g.boxes g.root w d may.in_d
        ∙ ap (λ z. types_by L z d.parts.head) (fed.kind_d g once wf known tells d may)
        ∙ ap (map (term_type L)) (fed.head-is g once wf known tells d may)
        ∙ map-append (term_type L) (columns_from a.id 1 (width m)) (columns_from r.id 1 (width c))
        ∙ ap₂ (λ (y z : List (Option SqlType)). y ++ z) (L-m ∙ sym V-m) (L-c ∙ settled-types g.boxes g.root w c may.in_c ∙ ap (λ z. types_by L z c.parts.head) kind ∙ sym V-head)
        ∙ sym (map-append (term_type V) (columns_from r.id 1 (width m)) (behind q.id r.id (width m) (width x) c.parts.head))

    agrees-new : agrees_by V T d' ≡ true
    agrees-new = and_from (list_all (λ y. is_known (term_type V y)) d'.parts.head) true (known-map V d'.parts.head ∙ ap (list_all is_known) (sym typed-new) ∙ ap (list_all is_known) (T-other d.id d-not-c) ∙ all-known d may.in_d) refl

    no-binds : (p : ℕ) → (list_any (binds p) d'.parts.head || false) ≡ false
    no-binds p = or_from (list_any (binds p) d'.parts.head) false (elim (cases_Bool (list_any (binds p) d'.parts.head)) [ inr f ↦ f | inl e ↦ absurd (clash (list_any (names p) d'.parts.head) (put.heads-names p d'.parts.head e) (head-names p)) ]) refl

    columns-new : columns_fit hs d' ≡ true
    columns-new = all-from (λ (y : Column). fits y.place (box_under hs y.quant)) (columns_of d') (λ y j. (
        let h = unbound-reads y.quant y.place d' (no-binds y.quant) (any-from (is_at y.quant y.place) y (columns_of d') j (and_from (y.quant == y.quant) (y.place == y.place) (eq-itself y.quant) (eq-itself y.place))) in
        let z = head-reads-at y.quant y.place (sym (or-false (list_any (reads_at y.quant y.place) d'.parts.head)) ∙ h) in
        let e : r.id ≡ y.quant = eqb-true r.id y.quant z.0 in
        ap (fits y.place) (subst (λ i. box_under hs i ≡ Some c') e under-r) ∙ and_from (nat_lt 0 y.place) (nat_le y.place (width c')) (lt-from 0 y.place (let l = z.1.0 in omega (arith, l))) (le-from y.place (width c') z.1.1)))

    folds-new : head_folds (width m + keys) d'.parts.head ≡ true
    folds-new =
        let f = and_parts (nat_le keys (length c.parts.head) && not (list_any has_aggregate (take keys c.parts.head))) (list_all is_aggregate (drop keys c.parts.head)) folds-c in
        let l = and_parts (nat_le keys (length c.parts.head)) (not (list_any has_aggregate (take keys c.parts.head))) f.0 in
        let long = leb-true keys (length c.parts.head) l.0 in
        let e = length-append cols late ∙ ap₂ ◌+◌ (columns-long r.id 1 (width m)) (length-map (substituted q.id cells_q) c.parts.head) in
        and_from (nat_le (width m + keys) (length d'.parts.head) && not (list_any has_aggregate (take (width m + keys) d'.parts.head))) (list_all is_aggregate (drop (width m + keys) d'.parts.head))
        (and_from (nat_le (width m + keys) (length d'.parts.head)) (not (list_any has_aggregate (take (width m + keys) d'.parts.head)))
        (le-from (width m + keys) (length d'.parts.head) (omega (arith, long, e)))
        (ap not (ap (list_any has_aggregate) (take-plus cols late keys (width m + keys) counted ∙ ap (λ (z : List Term). cols ++ z) (take-map (substituted q.id cells_q) keys c.parts.head))
        ∙ any-both has_aggregate cols (map (substituted q.id cells_q) (take keys c.parts.head))
        ∙ ap₂ (λ y z. y || z) (none-aggregate r.id 1 (width m)) (aggregates-behind q.id r.id (width m) (width x) (take keys c.parts.head))) ∙ l.1))
        (ap (list_all is_aggregate) (drop-plus cols late keys (width m + keys) counted ∙ drop-map (substituted q.id cells_q) keys c.parts.head)
        ∙ all-put is_aggregate is_aggregate (substituted q.id cells_q) (drop keys c.parts.head) (λ y i. folds-behind q.id r.id (width m) (width x) y) ∙ f.1)
      where
        cols : List Term
        cols = columns_from r.id 1 (width m)

        late : List Term
        late = behind q.id r.id (width m) (width x) c.parts.head

        counted : width m + keys ≡ length (columns_from r.id 1 (width m)) + keys
        counted = ap (λ z. z + keys) (sym (columns-long r.id 1 (width m)))

    named-new : (p : ℕ) → holds p (named_by d') ≡ true → owns p d' ≡ true
    named-new p h = elim (or_cases (read_by d' p) (nodes_in p d') (named-split p d' h)) [
      | inl y ↦ or_left (r.id == p) false (head-reads p (sym (or-false (list_any (reads p) d'.parts.head)) ∙ y))
      | inr y ↦ absurd (clash (list_any (names p) d'.parts.head) (sym (or-false (list_any (names p) d'.parts.head)) ∙ y) (head-names p))
    ]

    no-nodes : (p : ℕ) → (y : QuantNode) → In y (nodes_of d') → is_of p y ≡ true → ⊥
    no-nodes p y j h = clash (list_any (names p) d'.parts.head) (sym (or-false (list_any (names p) d'.parts.head)) ∙ sym (nodes-listed p d') ∙ any-from (is_of p) y (nodes_of d') j h) (head-names p)

    shape-new : shape_fits g.root hs d' ≡ true
    shape-new = shape-from g.root hs d' (record {
      kind = and_from (head_folds (width m + keys) d'.parts.head) (head_is_own d') folds-new
          (all-from (λ p. owns p d') (flat_map names_in d'.parts.head) (λ p j. named-new p (in-holds p (named_by d') (in-left p (flat_map names_in d'.parts.head) [] j))));
      nodes = all-from (node_fits d'.quants) (nodes_of d') (λ y j. absurd (each-node y j));
      placed = rows-placed d' refl;
      scalar = λ h. (
          let o = any-in (λ (o : Node). is_scalar_in o.quants d.id) hs h in
          let s = any-in (λ (s : OwnedQuant). (s.over == d.id) && is_S s.kind) o.0.quants o.1.1 in
          let y = and_parts (s.0.over == d.id) (is_S s.0.kind) s.1.1 in
          subst (λ z. nat_lt 0 z ≡ true) (sym width-d) (elim (each-in o.0 o.1.0) [
            | inl e ↦ absurd (elim (subst (λ (z : Node). In s.0 z.quants) e s.1.0) [ inl z ↦ not-s s.0 r.id c.id z y.1 | inr z ↦ elim z [ ] ])
            | inr e ↦ elim e [
              | inl e ↦ absurd (elim (subst (λ (z : Node). In s.0 z.quants) e s.1.0) [ inl z ↦ not-s s.0 a.id m.id z y.1 | inr z ↦ elim z [ inl z ↦ not-s s.0 q.id x.id z y.1 | inr z ↦ elim z [ ] ] ])
              | inr e ↦ scalar-column g.boxes g.root ty sh o.0 d s.0 e.0 s.1.0 y.1 may.in_d (sym (eqb-true s.0.over d.id y.0))
            ]
          ]));
    })
      where
        each-node : (y : QuantNode) → In y (nodes_of d') → ⊥
        each-node (node.Scalar p) j = no-nodes p (node.Scalar p) j (eq-itself p)
        each-node (node.Some p) j = no-nodes p (node.Some p) j (eq-itself p)
        each-node (node.Every p) j = no-nodes p (node.Every p) j (eq-itself p)

        not-s : (s : OwnedQuant) (i b : ℕ) → range i F b ≡ s → is_S s.kind ≡ true → ⊥
        not-s s i b e h = let z : is_S F ≡ true = subst (λ (z : OwnedQuant). is_S z.kind ≡ true) (sym e) h in let u : ⊥ = cc in u

    group-form : HasForm hs g.root T d'
    group-form = record {
      columns_typed = typed-new;
      agrees = agrees-new;
      columns = columns-new;
      shape = shape-new;
      hidden = λ p. absurd (clash false p refl);
      unseen = λ s n j l i e. elim j [
        | inl y ↦ subst (λ (z : Node). is_permit z.parts.distinct ≡ false) (same-box hs c' n ordered in-c' i (ap (λ (z : OwnedQuant). z.over) y ∙ sym e)) refl
        | inr y ↦ elim y [ ]
      ];
      scalars = λ s n j l i e. absurd (elim j [ inl y ↦ (let z : is_S F ≡ true = subst (λ (z : OwnedQuant). is_S z.kind ≡ true) (sym y) l in let u : ⊥ = cc in u) | inr y ↦ elim y [ ] ]);
    }

  -- the check finds nothing after it
  pub group-formed : (h : QueryGraph) → h.boxes ≡ hs → h.root ≡ g.root → fault h ≡ None
  group-formed h e z = rebuilt-formed g h kept look fresh T once ((finds-none g once).1 wf) z
      (subst (λ (y : List Node). Rebuilds g.boxes y g.root kept look fresh) (sym e) rebuilds)
      (λ u i y. T-other u.id (not-true (u.id == c.id) y))
      (λ n i v f. subst (λ (y : List Node). HasForm y g.root T n) (sym e) (form n (subst (λ (y : List Node). In n y) e i) (subst (λ (y : List Node). Sound y g.root) e v) f))
    where
      form : (n : Node) → In n hs → Sound hs g.root → fresh n.id ≡ true → HasForm hs g.root T n
      form n i v f = elim (new-box n i f) [ inl y ↦ subst (λ (z : Node). HasForm hs g.root T z) (sym y) (group-form v) | inr y ↦ subst (λ (z : Node). HasForm hs g.root T z) (sym y) (fed-form v) ]
