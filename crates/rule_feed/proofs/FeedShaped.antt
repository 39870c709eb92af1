-- Feeding keeps shapes.
use Rattle.std.proofs.Common.{ℕ, zero, suc, ◌==◌, ◌≡◌, ◌&&◌, ◌+◌, ◌≤◌, nat_lt, nat_le, not, cond, Bool, true, false, List, [], ◌∷◌, ◌++◌, map, Some, refl, sym, ap, ap₂, subst, ◌∙◌, eqb-true, ◌⊎◌, inl, inr, arith}
use Rattle.std.specs.List.{flat_map, list_all, list_any}
use Rattle.std.proofs.lemmas.Bool.{and_from, and_parts, cases_Bool, eq-eqb, le-leb, leb-true, lt-ltb, ltb-true, not-true, or_cases, or_from, or_left, or_parts, or_right}
use Rattle.qgm_core.specs.Boxes.{has_box, is_box, is_quant, owns, width}
use Rattle.qgm_core.specs.Edits.{range}
use Rattle.qgm_core.specs.Free.{free_in}
use Rattle.qgm_core.specs.Kinds.{is_A, is_E, is_F, is_F_or_S, is_S, is_enforce, is_fed, is_magic, is_permit, is_preserve, width_by}
use Rattle.list_laws.specs.Lists.{In, first}
use Rattle.qgm_core.specs.declared.kinds.Distinct.{Distinct}
use Rattle.qgm_core.specs.declared.kinds.Distinct.TheVariants.{Enforce, Permit, Preserve}
use Rattle.qgm_core.specs.declared.kinds.QuantKind.{QuantKind}
use Rattle.qgm_core.specs.declared.kinds.QuantKind.TheVariants.{A, E, F, S}
use Rattle.qgm_core.specs.declared.kinds.Role.TheVariants.{Plain}
use Rattle.qgm_core.specs.declared.node.Node.{Node}
use Rattle.qgm_core.specs.declared.owned.OwnedQuant.{OwnedQuant}
use Rattle.qgm_meaning.specs.Scope.{loose, put_node}
use Rattle.qgm_meaning.specs.Searches.{looking, names, names_cond}
use Rattle.qgm_meaning.specs.Tags.{columns_from}
use Rattle.qgm_terms.specs.Named.{columns_in, nodes_in, nodes_in_cond}
use Rattle.qgm_terms.specs.Substitution.{cell_at, substituted, substituted_cond}
use Rattle.qgm_terms.specs.Terms.{Cond, Term}
use Rattle.qgm_terms.specs.Wanted.{any_in, any_in_cond, has_aggregate, has_aggregate_cond, wanted}
use Rattle.qgm_terms.specs.declared.named.Column.{Column}
use Rattle.qgm_terms.specs.declared.named.QuantNode.{QuantNode}
use Rattle.qgm_terms.specs.declared.named.QuantNode.TheVariants as node
use Rattle.qgm_terms.specs.declared.sought.Sought.TheVariants.{Aggregate}
use Rattle.qgm_wellformed.specs.Columns.{box_under, columns_fit, columns_of, fits, places_fit, within}
use Rattle.qgm_wellformed.specs.Shapes.{columns_through, fed_by, heads_are, is_column, is_scalar, is_scalar_in, is_unfolded, kind_fits, magic_found, node_fits, nodes_of, only, role_fits, shape_fits, width_found}
use Rattle.qgm_wellformed.specs.Shapes as shapes
use Rattle.qgm_edit_laws.specs.Graph.{Sound}
use Rattle.qgm_edit_laws.specs.Graph as graph
use Rattle.qgm_edit_laws.specs.Shaped.{Shaped, Typed}
use Rattle.qgm_edit_laws.proofs.AnyPut.{conds-put, heads-put}
use Rattle.qgm_edit_laws.proofs.Edits.{any-append, length-map}
use Rattle.qgm_edit_laws.proofs.FreeLoose.{alone-from, alone-to}
use Rattle.qgm_edit_laws.proofs.Interposed.{turned, turned-any}
use Rattle.qgm_edit_laws.proofs.Ranks.{has-in, same-box}
use Rattle.qgm_edit_laws.proofs.Read.{any-both, column-named, columns-found, is_at}
use Rattle.qgm_edit_laws.proofs.Scope.{in-first}
use Rattle.qgm_edit_laws.proofs.OwnShapes.{rows-placed, select-placed}
use Rattle.qgm_edit_laws.proofs.ShapedPut.{all-joined, all-parts}
use Rattle.qgm_edit_laws.proofs.ShapeParts.{ShapeParts, fed-parts, shape-from, shape-moved, shape-parts, two-from, two-parts}
use Rattle.qgm_edit_laws.proofs.TypedKept.{found, found-under}
use Rattle.qgm_edit_laws.proofs.ReadKept as found_at
use Rattle.qgm_edit_laws.proofs.ReadKept.{conds-at, heads-at}
use Rattle.qgm_edit_laws.proofs.ShapePut.{shape-put}
use Rattle.rule_feed.specs.Feed.{Numbers, all_of, fed_below, fed_boxes, fed_cond, fed_node, fed_owner, fed_term, joins, new_fed, new_magic, put_cells, unpermitted, up}
use Rattle.rule_feed.specs.FeedLaws.{FeedShaped, FeedsOne}
use Rattle.rule_feed.proofs.FeedRegion as region
use Rattle.rule_feed.proofs.FeedLists.{bare-columns, bare-put}
use Rattle.rule_feed.proofs.FeedLooks as looks
use Rattle.rule_feed.proofs.FeedReads.{all_of-any, columns-cell, columns-list, conds-was, joins-any, picked-list, put-cell, terms-was}
use Rattle.rule_feed.proofs.FeedShapes as kept
use Rattle.rule_feed.proofs.FeedShapes.{all-plain, columns-are, columns-bare, joins-plain, picked-bare, put-folds, same-itself}
use Rattle.rule_feed.proofs.FeedScope as feed_scope
use Rattle.rule_feed.proofs.FeedSound as fed
use Rattle.rule_feed.proofs.FeedTyped as typed
use Rattle.qgm_core.proofs.Reaching.{in-has, overs-held}
use Rattle.list_laws.proofs.Membership.{all-from, all-in, any-from, any-in, any-none, eq-false-sym, eq-itself, other}
use Rattle.list_laws.proofs.Booleans.{clash}

pub flat-none : (xs ys : List Term) → flat_map nodes_in xs ≡ [] → flat_map nodes_in ys ≡ [] → flat_map nodes_in (xs ++ ys) ≡ []
flat-none [] ys h k = k
flat-none (x ∷ xs) ys h k = elim (nodes_in x) as (λ (ns : List QuantNode). ns ++ flat_map nodes_in xs ≡ [] → ns ++ flat_map nodes_in (xs ++ ys) ≡ []) [
  | [] ↦ λ h. flat-none xs ys h k
  | z ∷ zs ↦ λ h. absurd (let e : ⊥ = cc in e)
] h

flat-columns : (xs ys : List Term) → flat_map columns_in (xs ++ ys) ≡ flat_map columns_in xs ++ flat_map columns_in ys
flat-columns [] ys = refl
flat-columns (x ∷ xs) ys = ap (λ (z : List Column). columns_in x ++ z) (flat-columns xs ys) ∙ assoc (columns_in x) (flat_map columns_in xs) (flat_map columns_in ys)
  where
    assoc : (a o u : List Column) → a ++ (o ++ u) ≡ (a ++ o) ++ u
    assoc [] o u = refl
    assoc (z ∷ a) o u = ap (λ (k : List Column). z ∷ k) (assoc a o u)

flat-both : {X : Type 0} (p : QuantNode → Bool) (f : X → List QuantNode) (xs ys : List X) → list_all p (flat_map f xs) ≡ true → list_all p (flat_map f ys) ≡ true → list_all p (flat_map f (xs ++ ys)) ≡ true
flat-both p f [] ys h k = k
flat-both p f (x ∷ xs) ys h k = let a = all-parts p (f x) (flat_map f xs) h in all-joined p (f x) (flat_map f (xs ++ ys)) a.0 (flat-both p f xs ys a.1 k)

module _ (xs ys : List Node) (root : ℕ) (w : Sound (xs ++ ys) root) (ty : Typed (xs ++ ys)) (sh : Shaped (xs ++ ys) root) (b s c : Node) (rp ri : OwnedQuant) (x : Numbers) (m : FeedsOne xs ys root b s c rp ri x) (plain : b.parts.role ≡ Plain) where
  abbrev bs : List Node
  bs = xs ++ ys

  abbrev p : ℕ
  p = rp.id

  abbrev i : ℕ
  i = ri.id

  abbrev named : ℕ → Bool
  named = region.named xs ys root w b s c rp ri x m

  abbrev ins : ℕ → Bool
  ins = region.ins xs ys root w b s c rp ri x m

  abbrev wd : ℕ
  wd = width s

  abbrev n : ℕ
  n = region.n xs ys root w b s c rp ri x m

  abbrev v : ℕ
  v = width c

  abbrev g : Node → Node
  g = fed_node (xs ++ ys) b s c rp ri x

  abbrev d' : Node
  d' = new_fed (xs ++ ys) b s c rp ri x

  abbrev m' : Node
  m' = new_magic (xs ++ ys) b s c rp ri x

  abbrev hs : List Node
  hs = fed_boxes xs ys b s c rp ri x

  abbrev ks : List Cond
  ks = joins named p i 1 1 wd

  abbrev b' : Node
  b' = fed_owner named p ri x.d wd b

  abbrev pcells : List Term
  pcells = put_cells named x.dm 1 1 wd

  abbrev icells : List Term
  icells = columns_from i (suc n) v

  abbrev look : ℕ → ℕ → Bool
  look z q = cond (ins z) (cond (q == x.dm) (loose bs z p) (cond (q == p) false (loose bs z q))) (loose bs z q)

  in-b : In b bs
  in-b = feed_scope.in-b xs ys root w b s c rp ri x m

  in-s : In s bs
  in-s = feed_scope.in-s xs ys root w b s c rp ri x m

  in-c : In c bs
  in-c = feed_scope.in-c xs ys root w b s c rp ri x m

  after : Sound hs root
  after = fed.sound-after xs ys root w b s c rp ri x m

  id : (y : Node) → (g y).id ≡ y.id
  id = feed_scope.id xs ys root w b s c rp ri x m

  g-hs : (y : Node) → In y bs → In (g y) hs
  g-hs = typed.g-in xs ys root w ty b s c rp ri x m

  width-g : (y : Node) → width (g y) ≡ width y
  width-g = fed.width-g xs ys root w b s c rp ri x m

  role-g : (y : Node) → (g y).parts.role ≡ y.parts.role
  role-g y = elim (cases_Bool (y.id == b.id)) [
    | inl t ↦ ap (λ (k : Node). k.parts.role) (region.g-b xs ys root w b s c rp ri x m y t)
    | inr t ↦ elim (cases_Bool (ins y.id)) [
      | inl u ↦ ap (λ (k : Node). k.parts.role) (region.g-in xs ys root w b s c rp ri x m y t u)
      | inr u ↦ ap (λ (k : Node). k.parts.role) (region.g-out xs ys root w b s c rp ri x m y t u)
    ]
  ]

  in-below : (y : Node) → In y bs → ins y.id ≡ true → In (fed_below named c.id p x.dm wd y) hs
  in-below y j t = subst (λ (k : Node). In k hs) (region.g-in xs ys root w b s c rp ri x m y (feed_scope.in-apart xs ys root w b s c rp ri x m y t) t) (g-hs y j)

  in-other : (y : Node) → In y bs → ins y.id ≡ false → (y.id == b.id) ≡ false → In (put_node i icells y) hs
  in-other y j out nob = subst (λ (k : Node). In k hs) (region.g-out xs ys root w b s c rp ri x m y nob out) (g-hs y j)

  in-owner : In b' hs
  in-owner = subst (λ (k : Node). In k hs) (region.g-b xs ys root w b s c rp ri x m b (eq-itself b.id)) (g-hs b in-b)

  -- the box of a number, before and after
  boxes : (y : Node) → In y bs → (r : OwnedQuant) → In r y.quants → (u : Node) × (In u bs × ((u.id ≡ r.over) × ((first (is_box r.over) bs ≡ Some u) × (first (is_box r.over) hs ≡ Some (g u)))))
  boxes y j r k =
      let u = has-in r.over bs (overs-held bs y r w.ordered j k) in (
        u.0,
        (
          u.1.0,
          (
            u.1.1,
            (
              ap (λ z. first (is_box z) bs) (sym u.1.1) ∙ in-first u.0 bs w.ordered u.1.0,
              ap (λ z. first (is_box z) hs) (sym u.1.1 ∙ sym (id u.0)) ∙ in-first (g u.0) hs after.ordered (g-hs u.0 u.1.0),
            ),
          ),
        ),
      )

  -- ---- an S quantifier after was one before

  scalar-was : (z : ℕ) → is_scalar hs z ≡ true → is_scalar bs z ≡ true
  scalar-was z h =
      let o = any-in (λ (n : Node). is_scalar_in n.quants z) hs h in
      let t = any-in (λ (r : OwnedQuant). (r.over == z) && is_S r.kind) o.0.quants o.1.1 in
      let e = and_parts (t.0.over == z) (is_S t.0.kind) t.1.1 in
      elim (feed_scope.in-hs xs ys root w b s c rp ri x m o.0 o.1.0) [
        | inl a ↦ was a.0 a.1.0 t.0 (subst (λ (k : Node). In t.0 k.quants) (sym a.1.1) t.1.0) t.1.1 e.1
        | inr a ↦ absurd (elim a [
          | inl u ↦ new t.0 (subst (λ (k : Node). In t.0 k.quants) (sym u) t.1.0) e.1
          | inr u ↦ new-one t.0 (subst (λ (k : Node). In t.0 k.quants) (sym u) t.1.0) e.1
        ])
      ]
    where
      new : (r : OwnedQuant) → In r d'.quants → is_S r.kind ≡ true → ⊥
      new r j k = elim j [
        | inl e ↦ clash (is_S r.kind) k (ap (λ (z : OwnedQuant). is_S z.kind) (sym e))
        | inr l ↦ elim l [ inl e ↦ clash (is_S r.kind) k (ap (λ (z : OwnedQuant). is_S z.kind) (sym e)) | inr l ↦ elim l [ ] ]
      ]

      new-one : (r : OwnedQuant) → In r m'.quants → is_S r.kind ≡ true → ⊥
      new-one r j k = elim j [ inl e ↦ clash (is_S r.kind) k (ap (λ (z : OwnedQuant). is_S z.kind) (sym e)) | inr l ↦ elim l [ ] ]

      old : (y : Node) → In y bs → (r : OwnedQuant) → In r y.quants → ((r.over == z) && is_S r.kind) ≡ true → is_scalar bs z ≡ true
      old y j r k h = any-from (λ (n : Node). is_scalar_in n.quants z) y bs j (any-from (λ (r : OwnedQuant). (r.over == z) && is_S r.kind) r y.quants k h)

      was : (y : Node) → In y bs → (r : OwnedQuant) → In r (g y).quants → ((r.over == z) && is_S r.kind) ≡ true → is_S r.kind ≡ true → is_scalar bs z ≡ true
      was y j r k h sk = elim (cases_Bool (y.id == b.id)) [
        | inr t ↦ old y j r (subst (λ (l : List OwnedQuant). In r l) (fed.quants-same xs ys root w b s c rp ri x m y j t) k) h
        | inl t ↦ (
            let e : b ≡ y = same-box bs b y w.ordered in-b j (sym (eqb-true y.id b.id t)) in
            let kb : In r (turned i x.d b.quants) = subst (λ (l : List OwnedQuant). In r l) (fed.quants-b xs ys root w b s c rp ri x m) (subst (λ (z : Node). In r (g z).quants) (sym e) k) in
            elim (Rattle.qgm_edit_laws.proofs.Interposed.turned-in i x.d b.quants r kb) [
              | inl o ↦ old b in-b r o h
              | inr o ↦ absurd (
                  let one : Some o.0 ≡ Some ri = sym (Rattle.qgm_edit_laws.proofs.Turns.first-own o.0 b.quants (feed_scope.few-b xs ys root w b s c rp ri x m o.0.id) o.1.0) ∙ ap (λ z. first (is_quant z) b.quants) o.1.1.0 ∙ Rattle.qgm_edit_laws.proofs.Turns.first-own ri b.quants (feed_scope.few-b xs ys root w b s c rp ri x m i) m.owned_i in
                  let same : o.0 ≡ ri = cc in
                  clash (is_S r.kind) sk (ap (λ (z : OwnedQuant). is_S z.kind) (sym o.1.1.1) ∙ ap (λ (z : OwnedQuant). is_S z.kind) same ∙ m.not_scalar))
            ])
      ]

  scalar-wide : (y : Node) → In y bs → is_scalar hs y.id ≡ true → nat_lt 0 (width y) ≡ true
  scalar-wide y j h = (shape-parts root bs y (sh.shapes y j)).scalar (scalar-was y.id h)

  -- ---- fed boxes

  alone-old : (y : Node) → In y bs → (y.id == b.id) ≡ false → is_fed y.parts.role ≡ true → (a d : OwnedQuant) → y.quants ≡ a ∷ (d ∷ []) → only a.id (free_in hs d.over) ≡ true
  alone-old y j nob f a d e =
      let ja : In a y.quants = subst (λ z. In a z) (sym e) (inl refl) in
      let jd : In d y.quants = subst (λ z. In d z) (sym e) (inr (inl refl)) in
      let parts = fed-parts root bs y f (shape-parts root bs y (sh.shapes y j)).kind in
      let two = two-parts bs y.parts.head a d (subst (λ rs. fed_by bs y.parts.head rs ≡ true) e parts.fed) in
      let was = alone-to bs root w d.over a.id two.alone in
      let u = boxes y j d jd in
      let own-a : owns a.id y ≡ true = any-from (is_quant a.id) a y.quants ja (eq-itself a.id) in
      let not-p : (a.id == p) ≡ false = (elim (cases_Bool (a.id == p)) [
        | inr k ↦ k
        | inl k ↦ absurd (clash (owns p y) (subst (λ z. owns z y ≡ true) (eqb-true a.id p k) own-a) (feed_scope.not-own xs ys root w b s c rp ri x m p (feed_scope.own-p xs ys root w b s c rp ri x m) y j nob))
      ]) in
      let not-dm : (a.id == x.dm) ≡ false = (elim (cases_Bool (a.id == x.dm)) [
        | inr k ↦ k
        | inl k ↦ absurd (clash (owns x.dm y) (subst (λ z. owns z y ≡ true) (eqb-true a.id x.dm k) own-a) (any-none (owns x.dm) y bs m.new_dm j))
      ]) in
      let here : look d.over a.id ≡ true = (elim (cases_Bool (ins d.over)) [
        | inl t ↦ feed_scope.look-else xs ys root w b s c rp ri x m d.over a.id t not-dm not-p ∙ was.0
        | inr t ↦ feed_scope.look-out xs ys root w b s c rp ri x m d.over a.id t ∙ was.0
      ]) in
      let held : has_box hs d.over ≡ true = subst (λ z. has_box hs z ≡ true) (id u.0 ∙ u.1.1.0) (in-has (g u.0) hs (g-hs u.0 u.1.0)) in
      alone-from hs root after d.over a.id (looks.more xs ys root w b s c rp ri x m d.over a.id held here) (λ q h. (
      let l = looks.less xs ys root w b s c rp ri x m d.over q h in
      elim (cases_Bool (ins d.over)) [
        | inr t ↦ was.1 q (sym (feed_scope.look-out xs ys root w b s c rp ri x m d.over q t) ∙ l)
        | inl t ↦ elim (feed_scope.look-in xs ys root w b s c rp ri x m d.over q t l) [
          | inl k ↦ absurd (clash (a.id == p) (eq-eqb a.id p (sym (was.1 p k.1))) not-p)
          | inr k ↦ was.1 q k.1.1
        ]
      ]))

  alone-new : only x.dm (free_in hs c.id) ≡ true
  alone-new =
      let kept-c = (region.drops xs ys root w b s c rp ri x m).root_kept in
      let held : has_box hs c.id ≡ true = subst (λ z. has_box hs z ≡ true) (id c) (in-has (g c) hs (g-hs c in-c)) in
      alone-from hs root after c.id x.dm (looks.more xs ys root w b s c rp ri x m c.id x.dm held (feed_scope.look-dm xs ys root w b s c rp ri x m c.id kept-c ∙ m.opened)) (λ q h. (
      elim (feed_scope.look-in xs ys root w b s c rp ri x m c.id q kept-c (looks.less xs ys root w b s c rp ri x m c.id q h)) [
        | inl k ↦ k.0
        | inr k ↦ absurd (clash (q == p) (eq-eqb q p (m.alone q k.1.1)) k.1.0)
      ]))

  -- ---- shapes of the boxes that stand

  moved : (y : Node) → In y bs → (y.id == b.id) ≡ false → (z : Node) → z.quants ≡ y.quants → z.parts.role ≡ y.parts.role → z.id ≡ y.id → width z ≡ width y → shape_fits root bs z ≡ true → shape_fits root hs z ≡ true
  moved y j nob z eq er ei ew h = shape-moved root bs hs z
      (λ r k t. (let u = boxes y j r (subst (λ l. In r l) eq k) in ap width_found u.1.1.1.1 ∙ width-g u.0 ∙ sym (ap width_found u.1.1.1.0)))
      (λ r k. (let u = boxes y j r (subst (λ l. In r l) eq k) in ap magic_found u.1.1.1.1 ∙ ap is_magic (role-g u.0) ∙ sym (ap magic_found u.1.1.1.0)))
      (λ f a d e. alone-old y j nob (sym (ap is_fed er) ∙ f) a d (sym eq ∙ e))
      (λ t. ap (nat_lt 0) ew ∙ scalar-wide y j (subst (λ k. is_scalar hs k ≡ true) ei t)) h

  below-shape : (y : Node) → In y bs → ins y.id ≡ true → shape_fits root hs (fed_below named c.id p x.dm wd y) ≡ true
  below-shape y j t =
      let nob = feed_scope.in-apart xs ys root w b s c rp ri x m y t in
      moved y j nob (fed_below named c.id p x.dm wd y) refl refl refl (ap (width_by y.parts.kind) (length-map (substituted p pcells) y.parts.head))
      (shape-put root bs p pcells (cond (y.id == c.id) (unpermitted y.parts.distinct) y.parts.distinct) y (feed_scope.not-own xs ys root w b s c rp ri x m p (feed_scope.own-p xs ys root w b s c rp ri x m) y j nob) (feed_scope.not-node-p xs ys root w b s c rp ri x m y j) (put-folds named x.dm wd 1 1) (bare-put named x.dm wd 1 1)
      (pre (y.id == c.id) y.parts.distinct) (enf (y.id == c.id) y.parts.distinct) hs after (in-below y j t) (sh.shapes y j))
    where
      pre : (t : Bool) (d : Distinct) → is_preserve d ≡ true → is_preserve (cond t (unpermitted d) d) ≡ true
      pre true Enforce h = h
      pre true Preserve h = refl
      pre true Permit h = refl
      pre false d h = h

      enf : (t : Bool) (d : Distinct) → is_enforce d ≡ true → is_enforce (cond t (unpermitted d) d) ≡ true
      enf true Enforce h = refl
      enf true Preserve h = h
      enf true Permit h = absurd (let z : ⊥ = cc in z)
      enf false d h = h

  other-shape : (y : Node) → In y bs → ins y.id ≡ false → (y.id == b.id) ≡ false → shape_fits root hs (put_node i icells y) ≡ true
  other-shape y j out nob =
      moved y j nob (put_node i icells y) refl refl refl (ap (width_by y.parts.kind) (length-map (substituted i icells) y.parts.head))
      (shape-put root bs i icells y.parts.distinct y (feed_scope.not-own xs ys root w b s c rp ri x m i (feed_scope.own-i xs ys root w b s c rp ri x m) y j nob) (feed_scope.not-node-i xs ys root w b s c rp ri x m y j nob) (columns-bare i v (suc n)).1.0 (bare-columns i v (suc n)) (λ h. h) (λ h. h) hs after (in-other y j out nob) (sh.shapes y j))

  -- ---- b

  ks-plain : (flat_map nodes_in_cond ks ≡ []) × (list_any has_aggregate_cond ks ≡ false)
  ks-plain = joins-plain named p i wd 1 1

  K-plain : (nodes_in_cond (all_of ks) ≡ []) × (has_aggregate_cond (all_of ks) ≡ false)
  K-plain = all-plain ks ks-plain.0 ks-plain.1

  b-parts : ShapeParts root bs b
  b-parts = shape-parts root bs b (sh.shapes b in-b)

  b-unfolded : is_unfolded b' ≡ true
  b-unfolded =
      let a = and_parts (is_unfolded b) (role_fits root bs b b.parts.role) (subst (λ k. kind_fits root bs b k ≡ true) m.a_select b-parts.kind) in
      let f = and_parts (not (list_any has_aggregate b.parts.head)) (not (list_any has_aggregate_cond b.parts.conds.items)) a.0 in
      let last : list_any has_aggregate_cond (cond (is_F ri.kind) ks []) ≡ false = (elim (is_F ri.kind) as (λ z. list_any has_aggregate_cond (cond z ks []) ≡ false) [ true ↦ ks-plain.1 | false ↦ refl ]) in
      and_from (not (list_any has_aggregate (map (fed_term i n (all_of ks)) b.parts.head))) (not (list_any has_aggregate_cond (map (fed_cond i n (all_of ks)) b.parts.conds.items ++ cond (is_F ri.kind) ks [])))
      (ap not (kept.heads-same i n (all_of ks) (wanted Aggregate) K-plain.1 (λ j. refl) b.parts.head) ∙ f.0)
      (ap not (any-both has_aggregate_cond (map (fed_cond i n (all_of ks)) b.parts.conds.items) (cond (is_F ri.kind) ks [])
      ∙ or_from (list_any has_aggregate_cond (map (fed_cond i n (all_of ks)) b.parts.conds.items)) (list_any has_aggregate_cond (cond (is_F ri.kind) ks [])) (kept.conds-same i n (all_of ks) (wanted Aggregate) K-plain.1 (λ j. refl) b.parts.conds.items ∙ not-true (list_any has_aggregate_cond b.parts.conds.items) f.1) last))

  b-kind : kind_fits root hs b' b'.parts.kind ≡ true
  b-kind = subst (λ k. kind_fits root hs b' k ≡ true) (sym m.a_select) (and_from (is_unfolded b') (role_fits root hs b' b.parts.role) b-unfolded (subst (λ k. role_fits root hs b' k ≡ true) (sym plain) refl))

  node-turned : (z : QuantNode) → node_fits b.quants z ≡ true → node_fits (turned i x.d b.quants) z ≡ true
  node-turned (node.Scalar q) h = turned-any i x.d (λ r. is_quant q r && is_S r.kind) (λ r. refl) b.quants ∙ h
  node-turned (node.Some q) h = turned-any i x.d (λ r. is_quant q r && is_E r.kind) (λ r. refl) b.quants ∙ h
  node-turned (node.Every q) h = turned-any i x.d (λ r. is_quant q r && is_A r.kind) (λ r. refl) b.quants ∙ h

  b-nodes : list_all (node_fits (turned i x.d b.quants)) (nodes_of b') ≡ true
  b-nodes =
      let f = node_fits (turned i x.d b.quants) in
      let all : list_all f (nodes_of b) ≡ true = all-from f (nodes_of b) (λ z j. node-turned z (all-in (node_fits b.quants) z (nodes_of b) b-parts.nodes j)) in
      let h = all-parts f (flat_map nodes_in b.parts.head) (flat_map nodes_in_cond b.parts.conds.items) all in
      let none : list_all f (nodes_in_cond (all_of ks)) ≡ true = ap (list_all f) K-plain.0 in
      let last : list_all f (flat_map nodes_in_cond (cond (is_F ri.kind) ks [])) ≡ true = (elim (is_F ri.kind) as (λ z. list_all f (flat_map nodes_in_cond (cond z ks [])) ≡ true) [ true ↦ ap (list_all f) ks-plain.0 | false ↦ refl ]) in
      all-joined f (flat_map nodes_in (map (fed_term i n (all_of ks)) b.parts.head)) (flat_map nodes_in_cond (map (fed_cond i n (all_of ks)) b.parts.conds.items ++ cond (is_F ri.kind) ks []))
      (kept.heads-nodes i n (all_of ks) f none b.parts.head h.0)
      (flat-both f nodes_in_cond (map (fed_cond i n (all_of ks)) b.parts.conds.items) (cond (is_F ri.kind) ks []) (kept.conds-nodes i n (all_of ks) f none b.parts.conds.items h.1) last)

  owner-shape : shape_fits root hs b' ≡ true
  owner-shape = shape-from root hs b' (record {
    kind = b-kind;
    nodes = b-nodes;
    placed = select-placed hs root after b' in-owner m.a_select;
    scalar = λ t. ap (nat_lt 0) (ap (width_by b.parts.kind) (length-map (fed_term i n (all_of ks)) b.parts.head)) ∙ scalar-wide b in-b t;
  })

  -- ---- the new boxes

  scalar-new : (z : ℕ) → has_box bs z ≡ false → is_scalar hs z ≡ true → ⊥
  scalar-new z f h =
      let o = any-in (λ (n : Node). is_scalar_in n.quants z) bs (scalar-was z h) in
      let t = any-in (λ (r : OwnedQuant). (r.over == z) && is_S r.kind) o.0.quants o.1.1 in
      let e = and_parts (t.0.over == z) (is_S t.0.kind) t.1.1 in
      clash (has_box bs z) (subst (λ k. has_box bs k ≡ true) (eqb-true t.0.over z e.0) (overs-held bs o.0 t.0 w.ordered o.1.0 t.1.0)) f

  d-columns : heads_are d'.parts.head (columns_through hs (range x.dm F x.m) ++ columns_through hs (range x.dc F c.id)) ≡ true
  d-columns =
      let wm : width_found (first (is_box x.m) hs) ≡ n = ap width_found (in-first m' hs after.ordered (typed.m-in xs ys root w ty b s c rp ri x m)) ∙ fed.width-m xs ys root w b s c rp ri x m in
      let wc : width_found (first (is_box c.id) hs) ≡ v = ap width_found (ap (λ z. first (is_box z) hs) (sym (id c)) ∙ in-first (g c) hs after.ordered (g-hs c in-c)) ∙ width-g c in
      let e : flat_map columns_in d'.parts.head ≡ columns_through hs (range x.dm F x.m) ++ columns_through hs (range x.dc F c.id) =
      flat-columns (columns_from x.dm 1 n) (columns_from x.dc 1 v) ∙ ap₂ (λ (a o : List Column). a ++ o) (columns-are x.dm n 1 ∙ ap (shapes.columns_from x.dm 1) (sym wm)) (columns-are x.dc v 1 ∙ ap (shapes.columns_from x.dc 1) (sym wc)) in
      and_from (list_all is_column d'.parts.head) (shapes.same_columns (flat_map columns_in d'.parts.head) (columns_through hs (range x.dm F x.m) ++ columns_through hs (range x.dc F c.id)))
      (all-joined is_column (columns_from x.dm 1 n) (columns_from x.dc 1 v) (columns-bare x.dm n 1).0 (columns-bare x.dc v 1).0)
      (subst (λ k. shapes.same_columns (flat_map columns_in d'.parts.head) k ≡ true) e (same-itself (flat_map columns_in d'.parts.head)))

  d-fed : shapes.fed_by_two hs d'.parts.head (range x.dm F x.m) (range x.dc F c.id) ≡ true
  d-fed = two-from hs d'.parts.head (range x.dm F x.m) (range x.dc F c.id) (record { kinds = refl; magic = ap magic_found (in-first m' hs after.ordered (typed.m-in xs ys root w ty b s c rp ri x m)); alone = alone-new; columns = d-columns })

  d-shape : shape_fits root hs d' ≡ true
  d-shape =
      let not-root : not (x.d == root) ≡ true = ap not (other (has_box bs) x.d root m.new_d w.rooted) in
      let folds : list_any has_aggregate d'.parts.head ≡ false = any-both has_aggregate (columns_from x.dm 1 n) (columns_from x.dc 1 v) ∙ or_from (list_any has_aggregate (columns_from x.dm 1 n)) (list_any has_aggregate (columns_from x.dc 1 v)) (columns-bare x.dm n 1).1.0 (columns-bare x.dc v 1).1.0 in
      shape-from root hs d' (record {
        kind = and_from (is_unfolded d') (shapes.is_fed root hs d') (and_from (not (list_any has_aggregate d'.parts.head)) true (ap not folds) refl) (and_from ((not (x.d == root) && true) && true) (fed_by hs d'.parts.head d'.quants) (and_from (not (x.d == root) && true) true (and_from (not (x.d == root)) true not-root refl) refl) d-fed);
        nodes = ap (λ (ns : List QuantNode). list_all (node_fits d'.quants) (ns ++ [])) (flat-none (columns_from x.dm 1 n) (columns_from x.dc 1 v) (columns-bare x.dm n 1).1.1 (columns-bare x.dc v 1).1.1);
        placed = rows-placed d' refl;
        scalar = λ t. absurd (scalar-new x.d m.new_d t);
      })

  m-shape : shape_fits root hs m' ≡ true
  m-shape = shape-from root hs m' (record {
    kind = and_from (is_unfolded m') true (and_from (not (list_any has_aggregate m'.parts.head)) true (ap not (picked-bare named x.mq wd 1).0) refl) refl;
    nodes = ap (λ (ns : List QuantNode). list_all (node_fits m'.quants) (ns ++ [])) (picked-bare named x.mq wd 1).1;
    placed = rows-placed m' refl;
    scalar = λ t. absurd (scalar-new x.m m.new_m t);
  })

  shapes-after : (z : Node) → In z hs → shape_fits root hs z ≡ true
  shapes-after = feed_scope.each xs ys root w b s c rp ri x m (λ z. shape_fits root hs z ≡ true) owner-shape below-shape other-shape d-shape m-shape

  -- ---- PERMIT

  abbrev Unseen : Node → Type 0
  Unseen z = is_permit z.parts.distinct ≡ true → (z.id ≡ root → ⊥) × ((o : Node) (r : OwnedQuant) → In o hs → In r o.quants → r.over ≡ z.id → is_F_or_S r.kind ≡ false)

  unseen-old : (y : Node) → In y bs → (y.id == c.id) ≡ false → is_permit y.parts.distinct ≡ true → (y.id ≡ root → ⊥) × ((o : Node) (r : OwnedQuant) → In o hs → In r o.quants → r.over ≡ y.id → is_F_or_S r.kind ≡ false)
  unseen-old y j noc h = (
    was.0,
    λ o r k l e. elim (feed_scope.in-hs xs ys root w b s c rp ri x m o k) [
      | inl a ↦ elim (fed.in-old xs ys root w b s c rp ri x m o r a.0 a.1.0 a.1.1 l) [
        | inl t ↦ was.1 a.0 r a.1.0 t e
        | inr t ↦ absurd (clash (has_box bs x.d) (subst (λ z. has_box bs z ≡ true) (sym e ∙ t.1.0) (in-has y bs j)) m.new_d)
      ]
      | inr a ↦ absurd (elim a [
        | inl u ↦ elim (subst (λ (z : Node). In r z.quants) (sym u) l) [
          | inl t ↦ clash (has_box bs x.m) (subst (λ z. has_box bs z ≡ true) (sym e ∙ sym (ap (λ (z : OwnedQuant). z.over) t)) (in-has y bs j)) m.new_m
          | inr t ↦ elim t [ inl t ↦ clash (y.id == c.id) (eq-eqb y.id c.id (sym e ∙ sym (ap (λ (z : OwnedQuant). z.over) t))) noc | inr t ↦ elim t [ ] ]
        ]
        | inr u ↦ elim (subst (λ (z : Node). In r z.quants) (sym u) l) [
          | inl t ↦ (
              let same : s.id ≡ y.id = ap (λ (z : OwnedQuant). z.over) t ∙ e in
              let no = was.1 b rp in-b m.owned_p (m.over_s ∙ same) in
              clash (is_F_or_S rp.kind) (f-seen rp.kind m.p_binds) no)
          | inr t ↦ elim t [ ]
        ]
      ])
    ],
  )
    where
      was : (y.id ≡ root → ⊥) × ((o : Node) (r : OwnedQuant) → In o bs → In r o.quants → r.over ≡ y.id → is_F_or_S r.kind ≡ false)
      was = sh.unseen y j h

      f-seen : (k : QuantKind) → is_F k ≡ true → is_F_or_S k ≡ true
      f-seen F h = refl
      f-seen E h = absurd (let z : ⊥ = cc in z)
      f-seen A h = absurd (let z : ⊥ = cc in z)
      f-seen S h = refl

  not-c : (y : Node) → ins y.id ≡ false → (y.id == c.id) ≡ false
  not-c y out = elim (cases_Bool (y.id == c.id)) [ inr f ↦ f | inl t ↦ absurd (clash (ins c.id) (region.drops xs ys root w b s c rp ri x m).root_kept (subst (λ z. ins z ≡ false) (eqb-true y.id c.id t) out)) ]

  never-permit : (d : Distinct) → is_permit (unpermitted d) ≡ false
  never-permit Enforce = refl
  never-permit Preserve = refl
  never-permit Permit = refl

  unseen-after : (z : Node) → In z hs → Unseen z
  unseen-after = feed_scope.each xs ys root w b s c rp ri x m Unseen
      (λ h. unseen-old b in-b (not-c b (region.ins-b xs ys root w b s c rp ri x m)) h)
      (λ y j t h. elim (cases_Bool (y.id == c.id)) [
        | inl e ↦ absurd (clash (is_permit (cond (y.id == c.id) (unpermitted y.parts.distinct) y.parts.distinct)) h (ap (λ k. is_permit (cond k (unpermitted y.parts.distinct) y.parts.distinct)) e ∙ never-permit y.parts.distinct))
        | inr e ↦ unseen-old y j e (sym (ap (λ k. is_permit (cond k (unpermitted y.parts.distinct) y.parts.distinct)) e) ∙ h)
      ])
      (λ y j out nob h. unseen-old y j (not-c y out) h)
      (λ h. absurd (let z : ⊥ = cc in z))
      (λ h. absurd (let z : ⊥ = cc in z))

  -- ---- columns

  within-from : (u k : ℕ) → 1 ≤ k → k ≤ u → within u k ≡ true
  within-from u k a o = and_from (nat_lt 0 k) (nat_le k u) (lt-ltb 0 k (omega (arith, a))) (le-leb k u o)

  within-up : (u j : ℕ) → within u j ≡ true → within (n + u) (up n j) ≡ true
  within-up u zero h = absurd (let a = ltb-true 0 0 (and_parts (nat_lt 0 0) (nat_le 0 u) h).0 in let z : ⊥ = omega (arith, a) in z)
  within-up u (suc j) h =
      let l = leb-true (suc j) u (and_parts (nat_lt 0 (suc j)) (nat_le (suc j) u) h).1 in
      within-from (n + u) (n + suc j) (omega arith) (omega (arith, l))

  fits-i : (k : ℕ) → within (n + v) k ≡ true → fits k (box_under hs i) ≡ true
  fits-i k h = ap (fits k) (typed.under-i xs ys root w ty b s c rp ri x m) ∙ ap (λ z. within z k) (fed.width-d xs ys root w b s c rp ri x m) ∙ h

  fits-dm : (k : ℕ) → 1 ≤ k → k ≤ n → fits k (box_under hs x.dm) ≡ true
  fits-dm k a o = ap (fits k) (typed.under-dm xs ys root w ty b s c rp ri x m) ∙ ap (λ z. within z k) (fed.width-m xs ys root w b s c rp ri x m) ∙ within-from n k a o

  fits-dc : (k : ℕ) → 1 ≤ k → k ≤ v → fits k (box_under hs x.dc) ≡ true
  fits-dc k a o = ap (fits k) (typed.under-dc xs ys root w ty b s c rp ri x m) ∙ ap (λ z. within z k) (width-g c) ∙ within-from v k a o

  fits-mq : (k : ℕ) → 1 ≤ k → k ≤ wd → fits k (box_under hs x.mq) ≡ true
  fits-mq k a o = ap (fits k) (typed.under-mq xs ys root w ty b s c rp ri x m) ∙ ap (λ z. within z k) (width-g s) ∙ within-from wd k a o

  fits-p : (k : ℕ) → 1 ≤ k → k ≤ wd → fits k (box_under hs p) ≡ true
  fits-p k a o = ap (fits k) (typed.under-old xs ys root w ty b s c rp ri x m p (eq-false-sym i p (region.apart-ids xs ys root w b s c rp ri x m)) (typed.found-p xs ys root w ty b s c rp ri x m)) ∙ ap (λ z. within z k) (width-g s) ∙ within-from wd k a o

  old-fits : (q k : ℕ) (y : Node) → In y bs → list_any (is_at q k) (columns_of y) ≡ true → fits k (box_under bs q) ≡ true
  old-fits q k y j h =
      let d = any-in (is_at q k) (columns_of y) h in
      let e = and_parts (d.0.quant == q) (d.0.place == k) d.1.1 in
      let f = and_parts (places_fit y.parts.kind) (list_all (λ (d : Column). fits d.place (box_under bs d.quant)) (columns_of y)) (sh.columns y j) in
      ap₂ (λ x z. fits x (box_under bs z)) (sym (eqb-true d.0.place k e.1)) (sym (eqb-true d.0.quant q e.0)) ∙ all-in (λ (d : Column). fits d.place (box_under bs d.quant)) d.0 (columns_of y) f.1 d.1.0

  new-fits : (q k : ℕ) (y : Node) → In y bs → list_any (is_at q k) (columns_of y) ≡ true → (q == i) ≡ false → fits k (box_under hs q) ≡ true
  new-fits q k y j h nob =
      let f = found bs root w y j q (column-named q k y h) in
      ap (fits k) (typed.under-old xs ys root w ty b s c rp ri x m q nob f) ∙ ap (λ z. within z k) (width-g f.box) ∙ sym (ap (fits k) (found-under bs root w q f)) ∙ old-fits q k y j h

  -- a box of these columns fits
  fits-by : (z : Node) → places_fit z.parts.kind ≡ true → ((q k : ℕ) → list_any (is_at q k) (columns_of z) ≡ true → fits k (box_under hs q) ≡ true) → columns_fit hs z ≡ true
  fits-by z f h = and_from (places_fit z.parts.kind) (list_all (λ (d : Column). fits d.place (box_under hs d.quant)) (columns_of z)) f (all-from (λ (d : Column). fits d.place (box_under hs d.quant)) (columns_of z) (λ d j.
      h d.quant d.place (any-from (is_at d.quant d.place) d (columns_of z) j (and_from (d.quant == d.quant) (d.place == d.place) (eq-itself d.quant) (eq-itself d.place)))))

  places : (y : Node) → In y bs → places_fit y.parts.kind ≡ true
  places y j = (and_parts (places_fit y.parts.kind) (list_all (λ (d : Column). fits d.place (box_under bs d.quant)) (columns_of y)) (sh.columns y j)).0

  module _ (q k : ℕ) where
    abbrev at : ℕ → ℕ → Bool
    at r j = (r == q) && (j == k)

    abbrev at_t : Term → Bool
    at_t = any_in (looking (λ r j. (r == q) && (j == k)) (λ r. false) (λ r. false) (λ r. true))

    abbrev at_c : Cond → Bool
    at_c = any_in_cond (looking (λ r j. (r == q) && (j == k)) (λ r. false) (λ r. false) (λ r. true))

    pair : (r j : ℕ) → ((r == q) && (j == k)) ≡ true → (r ≡ q) × (j ≡ k)
    pair r j t = let u = and_parts (r == q) (j == k) t in (eqb-true r q u.0, eqb-true j k u.1)

    -- a column after cells were put in was there, of another quantifier, or is one of a cell
    put-column : (o : ℕ) (cells : List Term) (y : Node) → graph.nodes_in o y ≡ false → list_any (is_at q k) (columns_of (put_node o cells y)) ≡ true
        → ((list_any (is_at q k) (columns_of y) ≡ true) × ((q == o) ≡ false)) ⊎ ((l : ℕ) × (at_t (cell_at l cells) ≡ true))
    put-column o cells y nod h =
        let e = or_parts (list_any (names o) y.parts.head) (list_any (names_cond o) y.parts.conds.items) nod in
        elim (or_cases (list_any at_t (map (substituted o cells) y.parts.head)) (list_any at_c (map (substituted_cond o cells) y.parts.conds.items)) (sym (columns-found q k (put_node o cells y)) ∙ h)) [
          | inl a ↦ elim (heads-put o cells (λ r j. (r == q) && (j == k)) (λ r. false) (λ r. false) (λ r. true) ((q == o) ≡ false) (apart o) (never o) (never o) y.parts.head e.0 a) [
            | inl z ↦ inl (columns-found q k y ∙ or_left (list_any at_t y.parts.head) (list_any at_c y.parts.conds.items) z.0, z.1)
            | inr z ↦ inr (z.0, z.1.1)
          ]
          | inr a ↦ elim (conds-put o cells (λ r j. (r == q) && (j == k)) (λ r. false) (λ r. false) (λ r. true) ((q == o) ≡ false) (apart o) (never o) (never o) y.parts.conds.items e.1 a) [
            | inl z ↦ inl (columns-found q k y ∙ or_right (list_any at_t y.parts.head) (list_any at_c y.parts.conds.items) z.0, z.1)
            | inr z ↦ inr (z.0, z.1.1)
          ]
        ]
      where
        apart : (o r j : ℕ) → (r == o) ≡ false → ((r == q) && (j == k)) ≡ true → (q == o) ≡ false
        apart o r j f t = subst (λ z. (z == o) ≡ false) (eqb-true r q (and_parts (r == q) (j == k) t).0) f

        never : (o r : ℕ) → (r == o) ≡ false → false ≡ true → (q == o) ≡ false
        never o r f t = absurd (let z : ⊥ = cc in z)

    at-fits : (r j : ℕ) → ((r == q) && (j == k)) ≡ true → fits j (box_under hs r) ≡ true → fits k (box_under hs q) ≡ true
    at-fits r j t h = let e = pair r j t in ap₂ (λ (u z : ℕ). fits u (box_under hs z)) (sym e.1) (sym e.0) ∙ h

    below-fit : (y : Node) → In y bs → ins y.id ≡ true → list_any (is_at q k) (columns_of (put_node p pcells y)) ≡ true → fits k (box_under hs q) ≡ true
    below-fit y j t h = elim (put-column p pcells y (feed_scope.not-node-p xs ys root w b s c rp ri x m y j) h) [
      | inl a ↦ new-fits q k y j a.0 (typed.not-i xs ys root w ty b s c rp ri x m y j t q (column-named q k y a.0))
      | inr a ↦ (let l = put-cell at_t named x.dm wd a.0 refl a.1 in at-fits x.dm l.0 l.1.0 (fits-dm l.0 l.1.1.0 l.1.1.1))
    ]

    other-fit : (y : Node) → In y bs → (y.id == b.id) ≡ false → list_any (is_at q k) (columns_of (put_node i icells y)) ≡ true → fits k (box_under hs q) ≡ true
    other-fit y j nob h = elim (put-column i icells y (feed_scope.not-node-i xs ys root w b s c rp ri x m y j nob) h) [
      | inl a ↦ new-fits q k y j a.0 a.1
      | inr a ↦ (let l = columns-cell at_t i v n a.0 refl a.1 in let u = l.1.0 in let o = l.1.1 in at-fits i (n + a.0) l.0 (fits-i (n + a.0) (within-from (n + v) (n + a.0) (omega (arith, u)) (omega (arith, o)))))
    ]

    -- b
    abbrev before : ℕ → ℕ → Bool
    before r j = (r == q) && (cond (r == i) (up n j) j == k)

    before-other : (r j : ℕ) → (r == i) ≡ false → ((r == q) && (j == k)) ≡ true → before r j ≡ true
    before-other r j f t = ap (λ (z : Bool). (r == q) && (cond z (up n j) j == k)) f ∙ t

    before-i : (j : ℕ) → ((i == q) && (up n j == k)) ≡ true → before i j ≡ true
    before-i j t = ap (λ (z : Bool). (i == q) && (cond z (up n j) j == k)) (eq-itself i) ∙ t

    was-fits : (r j : ℕ) → before r j ≡ true → list_any (is_at r j) (columns_of b) ≡ true → fits k (box_under hs q) ≡ true
    was-fits r j t h =
        let u = and_parts (r == q) (cond (r == i) (up n j) j == k) t in
        elim (cases_Bool (r == i)) [
          | inr f ↦ (
              let e : j ≡ k = eqb-true j k (sym (ap (λ (z : Bool). cond z (up n j) j == k) f) ∙ u.1) in
              ap₂ (λ (a z : ℕ). fits a (box_under hs z)) (sym e) (sym (eqb-true r q u.0)) ∙ new-fits r j b in-b h f)
          | inl f ↦ (
              let e : up n j ≡ k = eqb-true (up n j) k (sym (ap (λ (z : Bool). cond z (up n j) j == k) f) ∙ u.1) in
              let fit : within v j ≡ true = sym (ap (fits j) (ap (box_under bs) (eqb-true r i f) ∙ found-under bs root w i (typed.found-i xs ys root w ty b s c rp ri x m))) ∙ old-fits r j b in-b h in
              ap₂ (λ (a z : ℕ). fits a (box_under hs z)) (sym e) (sym (eqb-true r q u.0) ∙ eqb-true r i f) ∙ fits-i (up n j) (within-up v j fit))
        ]

    join-fits : list_any at_c ks ≡ true → fits k (box_under hs q) ≡ true
    join-fits t = elim (joins-any (looking (λ r j. (r == q) && (j == k)) (λ r. false) (λ r. false) (λ r. true)) named p i wd 1 1 t) [
      | inl z ↦ (let a = z.1.1.1.0 in let o = z.1.1.1.1 in at-fits p z.0 z.1.0 (fits-p z.0 a (omega (arith, o))))
      | inr z ↦ (let a = z.1.1.0 in let o = z.1.1.1 in at-fits i z.0 z.1.0 (fits-i z.0 (within-from (n + v) z.0 a (omega (arith, o)))))
    ]

    K-fits : at_c (all_of ks) ≡ true → fits k (box_under hs q) ≡ true
    K-fits t = join-fits (all_of-any (looking (λ r j. (r == q) && (j == k)) (λ r. false) (λ r. false) (λ r. true)) ks t)

    owner-fit : list_any (is_at q k) (columns_of b') ≡ true → fits k (box_under hs q) ≡ true
    owner-fit h = elim (or_cases (list_any at_t (map (fed_term i n (all_of ks)) b.parts.head)) (list_any at_c (map (fed_cond i n (all_of ks)) b.parts.conds.items ++ cond (is_F ri.kind) ks [])) (sym (columns-found q k b') ∙ h)) [
      | inl a ↦ elim (terms-was i n (all_of ks) (λ r j. (r == q) && (j == k)) before (λ r. false) (λ r. false) (λ r. true) before-other before-i b.parts.head a) [
        | inr z ↦ K-fits z.1
        | inl z ↦ (let e = heads-at before b.parts.head z in was-fits e.0 e.1.0 e.1.1.0 (columns-found e.0 e.1.0 b ∙ or_left (list_any (λ x. found_at.at_term before x e.0 e.1.0) b.parts.head) (list_any (λ x. found_at.at_cond before x e.0 e.1.0) b.parts.conds.items) e.1.1.1))
      ]
      | inr a ↦ elim (any-append at_c (map (fed_cond i n (all_of ks)) b.parts.conds.items) (cond (is_F ri.kind) ks []) a) [
        | inl y ↦ elim (conds-was i n (all_of ks) (λ r j. (r == q) && (j == k)) before (λ r. false) (λ r. false) (λ r. true) before-other before-i b.parts.conds.items y) [
          | inr z ↦ K-fits z.1
          | inl z ↦ (let e = conds-at before b.parts.conds.items z in was-fits e.0 e.1.0 e.1.1.0 (columns-found e.0 e.1.0 b ∙ or_right (list_any (λ x. found_at.at_term before x e.0 e.1.0) b.parts.head) (list_any (λ x. found_at.at_cond before x e.0 e.1.0) b.parts.conds.items) e.1.1.1))
        ]
        | inr y ↦ at-end (cases_Bool (is_F ri.kind)) y
      ]
    ]
      where
        at-end : (is_F ri.kind ≡ true) ⊎ (is_F ri.kind ≡ false) → list_any at_c (cond (is_F ri.kind) ks []) ≡ true → fits k (box_under hs q) ≡ true
        at-end (inr f) t = absurd (let e : false ≡ true = sym (ap (λ (z : Bool). list_any at_c (cond z ks [])) f) ∙ t in let z : ⊥ = cc in z)
        at-end (inl f) t = join-fits (sym (ap (λ (z : Bool). list_any at_c (cond z ks [])) f) ∙ t)

    d-fit : list_any (is_at q k) (columns_of d') ≡ true → fits k (box_under hs q) ≡ true
    d-fit h = elim (or_cases (list_any at_t d'.parts.head) false (sym (columns-found q k d') ∙ h)) [
      | inr z ↦ absurd (let e : ⊥ = cc in e)
      | inl z ↦ elim (any-append at_t (columns_from x.dm 1 n) (columns_from x.dc 1 v) z) [
        | inl a ↦ (let l = columns-list at_t x.dm n 1 a in let o = l.1.1.1 in at-fits x.dm l.0 l.1.0 (fits-dm l.0 l.1.1.0 (omega (arith, o))))
        | inr a ↦ (let l = columns-list at_t x.dc v 1 a in let o = l.1.1.1 in at-fits x.dc l.0 l.1.0 (fits-dc l.0 l.1.1.0 (omega (arith, o))))
      ]
    ]

    m-fit : list_any (is_at q k) (columns_of m') ≡ true → fits k (box_under hs q) ≡ true
    m-fit h = elim (or_cases (list_any at_t m'.parts.head) false (sym (columns-found q k m') ∙ h)) [
      | inr z ↦ absurd (let e : ⊥ = cc in e)
      | inl z ↦ (let l = picked-list at_t named x.mq wd 1 z in let o = l.1.1.1 in at-fits x.mq l.0 l.1.0 (fits-mq l.0 l.1.1.0 (omega (arith, o))))
    ]

  columns-after : (z : Node) → In z hs → columns_fit hs z ≡ true
  columns-after = feed_scope.each xs ys root w b s c rp ri x m (λ z. columns_fit hs z ≡ true)
      (fits-by b' (places b in-b) owner-fit)
      (λ y j t. fits-by (fed_below named c.id p x.dm wd y) (places y j) (λ q k h. below-fit q k y j t h))
      (λ y j out nob. fits-by (put_node i icells y) (places y j) (λ q k h. other-fit q k y j nob h))
      (fits-by d' refl d-fit)
      (fits-by m' refl m-fit)

  pub shaped-after : Shaped hs root
  shaped-after = record { columns = columns-after; unseen = unseen-after; shapes = shapes-after }

pub feed-shaped : FeedShaped
feed-shaped = λ xs ys root w ty sh b s c p i x m plain. shaped-after xs ys root w ty sh b s c p i x m plain
