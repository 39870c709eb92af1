-- A split keeps shapes.
use Rattle.std.proofs.Common.{ℕ, zero, suc, ◌==◌, ◌≡◌, ◌&&◌, ◌||◌, ◌+◌, ◌≤◌, nat_lt, nat_le, not, cond, Bool, true, false, List, [], ◌∷◌, ◌++◌, map, Some, refl, sym, ap, ap₂, subst, ◌∙◌, eqb-true, inl, inr, arith}
use Rattle.std.specs.List.{flat_map, list_all, list_any}
use Rattle.std.proofs.lemmas.Bool.{and_from, and_parts, cases_Bool, le-leb, lt-ltb, not-true, or_cases, or_from, or_left, or_parts, or_right}
use Rattle.qgm_core.specs.Boxes.{has_box, is_box, is_quant, owns, width}
use Rattle.qgm_core.specs.Edits.{range}
use Rattle.qgm_core.specs.Free.{free_in}
use Rattle.qgm_core.specs.Kinds.{is_A, is_E, is_F, is_F_or_S, is_S, is_fed, is_magic, is_permit, width_by}
use Rattle.list_laws.specs.Lists.{In, first}
use Rattle.qgm_core.specs.declared.kinds.QuantKind.{QuantKind}
use Rattle.qgm_core.specs.declared.kinds.QuantKind.TheVariants.{A, E, F, S}
use Rattle.qgm_core.specs.declared.kinds.Role.TheVariants.{Plain}
use Rattle.qgm_core.specs.declared.node.Node.{Node}
use Rattle.qgm_core.specs.declared.owned.OwnedQuant.{OwnedQuant}
use Rattle.qgm_meaning.specs.Scope.{loose}
use Rattle.qgm_meaning.specs.Searches.{looking, names, names_cond}
use Rattle.qgm_terms.specs.Named.{nodes_in, nodes_in_cond}
use Rattle.qgm_terms.specs.Terms.{Cond, Term, col}
use Rattle.qgm_terms.specs.Wanted.{any_in, any_in_cond, has_aggregate, has_aggregate_cond, wanted}
use Rattle.qgm_terms.specs.declared.named.Column.{Column}
use Rattle.qgm_terms.specs.declared.named.QuantNode.{QuantNode}
use Rattle.qgm_terms.specs.declared.named.QuantNode.TheVariants as node
use Rattle.qgm_terms.specs.declared.sought.Sought.TheVariants.{Aggregate}
use Rattle.qgm_wellformed.specs.Columns.{box_under, columns_fit, columns_of, fits, places_fit, within}
use Rattle.qgm_wellformed.specs.Shapes.{fed_by, is_among, is_scalar, is_scalar_in, is_unfolded, kind_fits, magic_found, node_fits, nodes_of, only, role_fits, shape_fits, width_found}
use Rattle.qgm_edit_laws.specs.Graph.{Fits, Sound, reads_in}
use Rattle.qgm_edit_laws.specs.Shaped.{Shaped, Typed}
use Rattle.qgm_edit_laws.proofs.Edits.{any-append, length-map}
use Rattle.qgm_edit_laws.proofs.FreeLoose.{alone-from, alone-to}
use Rattle.qgm_edit_laws.proofs.Ranks.{has-in}
use Rattle.qgm_edit_laws.proofs.Read.{any-both, column-named, columns-found, is_at, is_of}
use Rattle.qgm_edit_laws.proofs.Read as reading
use Rattle.qgm_edit_laws.proofs.Scope.{in-first}
use Rattle.qgm_edit_laws.proofs.OwnShapes.{select-placed}
use Rattle.qgm_edit_laws.proofs.ShapedPut.{all-joined, all-parts}
use Rattle.qgm_edit_laws.proofs.ShapeParts.{ShapeParts, fed-parts, shape-from, shape-moved, shape-parts, two-parts}
use Rattle.qgm_edit_laws.proofs.TypedKept.{found, found-under}
use Rattle.qgm_edit_laws.proofs.ReadKept.{search-is}
use Rattle.rule_feed.proofs.FeedShaped.{flat-none}
use Rattle.rule_feed.specs.Split.{MaySplitSound, SplitShaped, heads, into, renamed, renamed_cond, renamed_node, sizes_of, split_box, split_boxes, split_node, split_owner, start}
use Rattle.rule_feed.proofs.SplitLooks as looks
use Rattle.rule_feed.proofs.SplitReads.{heads-list, in-sizes, node-found}
use Rattle.rule_feed.proofs.SplitShapes.{conds-alike, conds-nodes, heads-alike, heads-nodes, shape-renamed}
use Rattle.rule_feed.proofs.SplitSound as split
use Rattle.rule_feed.proofs.SplitTyped as typed
use Rattle.qgm_core.proofs.Reaching.{in-has, overs-held}
use Rattle.list_laws.proofs.Membership.{all-from, all-in, any-from, any-in, eq-itself, in-left, in-right}
use Rattle.list_laws.proofs.Booleans.{clash}

flat-split : (p : QuantNode → Bool) (cs ds : List Cond) → list_all p (flat_map nodes_in_cond (cs ++ ds)) ≡ true → list_all p (flat_map nodes_in_cond cs) ≡ true
flat-split p [] ds h = refl
flat-split p (c ∷ cs) ds h = let a = all-parts p (nodes_in_cond c) (flat_map nodes_in_cond (cs ++ ds)) h in all-joined p (nodes_in_cond c) (flat_map nodes_in_cond cs) a.0 (flat-split p cs ds a.1)

-- a condition that holds no node
bare-cond : (p : QuantNode → Bool) (c : Cond) → ((k : ℕ) → names_cond k c ≡ false) → list_all p (nodes_in_cond c) ≡ true
bare-cond p c h = all-from p (nodes_in_cond c) (λ z j. absurd (none z j))
  where
    one : (k : ℕ) (z : QuantNode) → is_of k z ≡ true → In z (nodes_in_cond c) → ⊥
    one k z e j = clash (names_cond k c) (sym (reading.cond-nodes k c) ∙ any-from (is_of k) z (nodes_in_cond c) j e) (h k)

    none : (z : QuantNode) → In z (nodes_in_cond c) → ⊥
    none (node.Scalar k) j = one k (node.Scalar k) (eq-itself k) j
    none (node.Some k) j = one k (node.Some k) (eq-itself k) j
    none (node.Every k) j = one k (node.Every k) (eq-itself k) j

bare-conds : (p : QuantNode → Bool) (cs : List Cond) → ((c : Cond) → In c cs → (k : ℕ) → names_cond k c ≡ false) → list_all p (flat_map nodes_in_cond cs) ≡ true
bare-conds p [] h = refl
bare-conds p (c ∷ cs) h = all-joined p (nodes_in_cond c) (flat_map nodes_in_cond cs) (bare-cond p c (h c (inl refl))) (bare-conds p cs (λ d j. h d (inr j)))

columns-none : (q k w : ℕ) → flat_map nodes_in (Rattle.qgm_meaning.specs.Tags.columns_from q k w) ≡ []
columns-none q k zero = refl
columns-none q k (suc w) = columns-none q (suc k) w

heads-none : (ws : List (ℕ × ℕ)) → flat_map nodes_in (heads ws) ≡ []
heads-none [] = refl
heads-none (p ∷ ws) = flat-none (Rattle.qgm_meaning.specs.Tags.columns_from p.0 1 p.1) (heads ws) (columns-none p.0 1 p.1) (heads-none ws)

f-or-s : (k : QuantKind) → is_F k ≡ true → is_F_or_S k ≡ true
f-or-s F h = refl
f-or-s E h = absurd (let z : ⊥ = cc in z)
f-or-s A h = absurd (let z : ⊥ = cc in z)
f-or-s S h = refl

pub not-S : (k : QuantKind) → is_F k ≡ true → is_S k ≡ false
not-S F h = refl
not-S E h = absurd (let z : ⊥ = cc in z)
not-S A h = absurd (let z : ⊥ = cc in z)
not-S S h = absurd (let z : ⊥ = cc in z)

not-E : (k : QuantKind) → is_F k ≡ true → is_E k ≡ false
not-E F h = refl
not-E E h = absurd (let z : ⊥ = cc in z)
not-E A h = refl
not-E S h = refl

not-A : (k : QuantKind) → is_F k ≡ true → is_A k ≡ false
not-A F h = refl
not-A E h = refl
not-A A h = absurd (let z : ⊥ = cc in z)
not-A S h = refl

module _ (xs ys : List Node) (root : ℕ) (b : Node) (wide : OwnedQuant → ℕ) (q s : ℕ) (us ps vs : List OwnedQuant) (rest taken : List Cond) (w : Sound (xs ++ ys) root) (ty : Typed (xs ++ ys)) (sh : Shaped (xs ++ ys) root) (m : MaySplitSound xs ys b wide q s us ps vs rest taken) (plain : b.parts.role ≡ Plain) where
  abbrev bs : List Node
  bs = xs ++ ys

  abbrev ws : List (ℕ × ℕ)
  ws = sizes_of wide ps

  abbrev rq : OwnedQuant
  rq = range q F s

  abbrev f : ℕ → ℕ → Term
  f = into ws q

  abbrev g : Node → Node
  g = split_node ws b.id q us (rq ∷ vs) rest

  abbrev b' : Node
  b' = split_owner ws q us (rq ∷ vs) rest b

  abbrev s' : Node
  s' = split_box s ws ps taken

  abbrev hs : List Node
  hs = split_boxes xs ys ws b.id q s us ps vs rest taken

  abbrev P : ℕ → Bool
  P k = list_any (is_quant k) ps

  abbrev look : ℕ → ℕ → Bool
  look z k = cond (k == q) (list_any (λ (r : OwnedQuant). loose bs z r.id) ps) (cond (P k) false (loose bs z k))

  in-b : In b bs
  in-b = in-left b xs ys m.above

  after : Sound hs root
  after = split.sound-after xs ys root b wide q s us ps vs rest taken w m

  id : (y : Node) → (g y).id ≡ y.id
  id = split.id xs ys root b wide q s us ps vs rest taken w m

  g-hs : (y : Node) → In y bs → In (g y) hs
  g-hs = typed.g-in xs ys root b wide q s us ps vs rest taken w ty m

  width-g : (y : Node) → width (g y) ≡ width y
  width-g = split.width-g xs ys root b wide q s us ps vs rest taken w m

  g-other : (y : Node) → (y.id == b.id) ≡ false → g y ≡ renamed_node f y
  g-other = split.g-other xs ys root b wide q s us ps vs rest taken w m

  role-g : (y : Node) → (g y).parts.role ≡ y.parts.role
  role-g y = elim (cases_Bool (y.id == b.id)) [
    | inl t ↦ ap (λ (k : Node). k.parts.role) (split.g-b xs ys root b wide q s us ps vs rest taken w m y t)
    | inr t ↦ ap (λ (k : Node). k.parts.role) (g-other y t)
  ]

  in-other : (y : Node) → In y bs → (y.id == b.id) ≡ false → In (renamed_node f y) hs
  in-other y j nob = subst (λ (k : Node). In k hs) (g-other y nob) (g-hs y j)

  in-owner : In b' hs
  in-owner = subst (λ (k : Node). In k hs) (split.g-b xs ys root b wide q s us ps vs rest taken w m b (eq-itself b.id)) (g-hs b in-b)

  s-in : In s' hs
  s-in = typed.s-in xs ys root b wide q s us ps vs rest taken w ty m

  boxes : (y : Node) → In y bs → (r : OwnedQuant) → In r y.quants → (u : Node) × (In u bs × ((u.id ≡ r.over) × ((first (is_box r.over) bs ≡ Some u) × (first (is_box r.over) hs ≡ Some (g u)))))
  boxes y j r k =
      let u = has-in r.over bs (overs-held bs y r w.ordered j k) in (
        u.0,
        (
          u.1.0,
          (
            u.1.1,
            (
              ap (λ z. first (is_box z) bs) (sym u.1.1) ∙ in-first u.0 bs w.ordered u.1.0,
              ap (λ z. first (is_box z) hs) (sym u.1.1 ∙ sym (id u.0)) ∙ in-first (g u.0) hs after.ordered (g-hs u.0 u.1.0),
            ),
          ),
        ),
      )

  -- ---- scalars

  scalar-was : (z : ℕ) → is_scalar hs z ≡ true → is_scalar bs z ≡ true
  scalar-was z h =
      let o = any-in (λ (n : Node). is_scalar_in n.quants z) hs h in
      let t = any-in (λ (r : OwnedQuant). (r.over == z) && is_S r.kind) o.0.quants o.1.1 in
      let e = and_parts (t.0.over == z) (is_S t.0.kind) t.1.1 in
      elim (split.quant-was xs ys root b wide q s us ps vs rest taken w m o.0 o.1.0 t.0 t.1.0) [
        | inl y ↦ any-from (λ (n : Node). is_scalar_in n.quants z) y.0 bs y.1.0 (any-from (λ (r : OwnedQuant). (r.over == z) && is_S r.kind) t.0 y.0.quants y.1.1 t.1.1)
        | inr k ↦ absurd (clash (is_S t.0.kind) e.1 (ap (λ (z : OwnedQuant). is_S z.kind) k))
      ]

  scalar-wide : (y : Node) → In y bs → is_scalar hs y.id ≡ true → nat_lt 0 (width y) ≡ true
  scalar-wide y j h = (shape-parts root bs y (sh.shapes y j)).scalar (scalar-was y.id h)

  -- ---- fed boxes

  alone-old : (y : Node) → In y bs → (y.id == b.id) ≡ false → is_fed y.parts.role ≡ true → (a d : OwnedQuant) → y.quants ≡ a ∷ (d ∷ []) → only a.id (free_in hs d.over) ≡ true
  alone-old y j nob fe a d e =
      let ja : In a y.quants = subst (λ z. In a z) (sym e) (inl refl) in
      let jd : In d y.quants = subst (λ z. In d z) (sym e) (inr (inl refl)) in
      let parts = fed-parts root bs y fe (shape-parts root bs y (sh.shapes y j)).kind in
      let two = two-parts bs y.parts.head a d (subst (λ rs. fed_by bs y.parts.head rs ≡ true) e parts.fed) in
      let was = alone-to bs root w d.over a.id two.alone in
      let u = boxes y j d jd in
      let own-a : owns a.id y ≡ true = any-from (is_quant a.id) a y.quants ja (eq-itself a.id) in
      let not-P : P a.id ≡ false = (elim (cases_Bool (P a.id)) [
        | inr k ↦ k
        | inl k ↦ absurd (clash (owns a.id y) own-a (split.not-own xs ys root b wide q s us ps vs rest taken w m a.id (split.own-P xs ys root b wide q s us ps vs rest taken w m a.id k) y j nob))
      ]) in
      let not-q : (a.id == q) ≡ false = split.not-q xs ys root b wide q s us ps vs rest taken w m a.id (any-from (owns a.id) y bs j own-a) in
      let here : look d.over a.id ≡ true = split.look-else xs ys root b wide q s us ps vs rest taken w m d.over a.id not-q not-P ∙ was.0 in
      let held : has_box hs d.over ≡ true = subst (λ z. has_box hs z ≡ true) (id u.0 ∙ u.1.1.0) (in-has (g u.0) hs (g-hs u.0 u.1.0)) in
      alone-from hs root after d.over a.id (looks.more xs ys root b wide q s us ps vs rest taken w m d.over a.id held here) (λ k h. (
      elim (split.look-of xs ys root b wide q s us ps vs rest taken w m d.over k (looks.less xs ys root b wide q s us ps vs rest taken w m d.over k h)) [
        | inl z ↦ absurd (clash (P a.id) (subst (λ k. P k ≡ true) (was.1 z.1.0.id z.1.1.1) (split.P-in xs ys root b wide q s us ps vs rest taken w m z.1.0 z.1.1.0)) not-P)
        | inr z ↦ was.1 k z.1.1
      ]))

  -- ---- shapes

  f-plain : (r j : ℕ) → nodes_in (f r j) ≡ []
  f-plain r j = elim (list_any (λ (p : ℕ × ℕ). p.0 == r) ws) as (λ z. nodes_in (cond z (col q (start ws r + j)) (col r j)) ≡ []) [ true ↦ refl | false ↦ refl ]

  f-folds : (r j : ℕ) → has_aggregate (f r j) ≡ false
  f-folds r j = elim (list_any (λ (p : ℕ × ℕ). p.0 == r) ws) as (λ z. has_aggregate (cond z (col q (start ws r + j)) (col r j)) ≡ false) [ true ↦ refl | false ↦ refl ]

  f-stays : (r j : ℕ) → P r ≡ false → f r j ≡ col r j
  f-stays r j t = ap (λ z. cond z (col q (start ws r + j)) (col r j)) (in-sizes wide ps r ∙ t)

  other-shape : (y : Node) → In y bs → (y.id == b.id) ≡ false → shape_fits root hs (renamed_node f y) ≡ true
  other-shape y j nob = shape-moved root bs hs (renamed_node f y)
      (λ r k t. (let u = boxes y j r k in ap width_found u.1.1.1.1 ∙ width-g u.0 ∙ sym (ap width_found u.1.1.1.0)))
      (λ r k. (let u = boxes y j r k in ap magic_found u.1.1.1.1 ∙ ap is_magic (role-g u.0) ∙ sym (ap magic_found u.1.1.1.0)))
      (λ fe a d e. alone-old y j nob fe a d e)
      (λ t. ap (nat_lt 0) (ap (width_by y.parts.kind) (length-map (renamed f) y.parts.head)) ∙ scalar-wide y j t)
      (shape-renamed f f-plain f-folds root bs P f-stays y (λ r p. split.not-own xs ys root b wide q s us ps vs rest taken w m r (split.own-P xs ys root b wide q s us ps vs rest taken w m r p) y j nob) (λ r p. split.nodes-none xs ys root b wide q s us ps vs rest taken w m y j r p) hs after (in-other y j nob) (sh.shapes y j))

  b-parts : ShapeParts root bs b
  b-parts = shape-parts root bs b (sh.shapes b in-b)

  b-folds : (list_any has_aggregate b.parts.head ≡ false) × ((list_any has_aggregate_cond rest ≡ false) × (list_any has_aggregate_cond taken ≡ false))
  b-folds =
      let a = and_parts (is_unfolded b) (role_fits root bs b b.parts.role) (subst (λ k. kind_fits root bs b k ≡ true) m.a_select b-parts.kind) in
      let c = and_parts (not (list_any has_aggregate b.parts.head)) (not (list_any has_aggregate_cond b.parts.conds.items)) a.0 in
      (not-true (list_any has_aggregate b.parts.head) c.0, or_parts (list_any has_aggregate_cond rest) (list_any has_aggregate_cond taken) (sym (any-both has_aggregate_cond rest taken) ∙ sym (ap (list_any has_aggregate_cond) m.conds) ∙ not-true (list_any has_aggregate_cond b.parts.conds.items) c.1))

  b-kind : kind_fits root hs b' b'.parts.kind ≡ true
  b-kind = subst (λ k. kind_fits root hs b' k ≡ true) (sym m.a_select) (and_from (is_unfolded b') (role_fits root hs b' b.parts.role)
      (and_from (not (list_any has_aggregate (map (renamed f) b.parts.head))) (not (list_any has_aggregate_cond (map (renamed_cond f) rest)))
      (ap not (heads-alike f (wanted Aggregate) f-folds b.parts.head ∙ b-folds.0)) (ap not (conds-alike f (wanted Aggregate) f-folds rest ∙ b-folds.1.0)))
      (subst (λ k. role_fits root hs b' k ≡ true) (sym plain) refl))

  among : (p : QuantKind → Bool) → ((k : QuantKind) → is_F k ≡ true → p k ≡ false) → (k : ℕ) → is_among p k b.quants ≡ true → is_among p k (us ++ rq ∷ vs) ≡ true
  among p no-F k h = any-both (λ r. is_quant k r && p r.kind) us (rq ∷ vs) ∙ (elim (any-append (λ r. is_quant k r && p r.kind) us (ps ++ vs) (sym (ap (is_among p k) m.quants) ∙ h)) [
    | inl a ↦ or_left (is_among p k us) (is_among p k (rq ∷ vs)) a
    | inr a ↦ or_right (is_among p k us) (is_among p k (rq ∷ vs)) (or_right (is_quant k rq && p F) (is_among p k vs) (elim (any-append (λ r. is_quant k r && p r.kind) ps vs a) [
      | inr z ↦ z
      | inl z ↦ absurd (let r = any-in (λ r. is_quant k r && p r.kind) ps z in clash (p r.0.kind) (and_parts (is_quant k r.0) (p r.0.kind) r.1.1).1 (no-F r.0.kind (m.rows r.0 r.1.0)))
    ]))
  ])

  node-kept : (z : QuantNode) → node_fits b.quants z ≡ true → node_fits (us ++ rq ∷ vs) z ≡ true
  node-kept (node.Scalar k) h = among is_S not-S k h
  node-kept (node.Some k) h = among is_E not-E k h
  node-kept (node.Every k) h = among is_A not-A k h

  b-nodes : list_all (node_fits (us ++ rq ∷ vs)) (nodes_of b') ≡ true
  b-nodes =
      let p = node_fits (us ++ rq ∷ vs) in
      let all : list_all p (nodes_of b) ≡ true = all-from p (nodes_of b) (λ z j. node-kept z (all-in (node_fits b.quants) z (nodes_of b) b-parts.nodes j)) in
      let h = all-parts p (flat_map nodes_in b.parts.head) (flat_map nodes_in_cond b.parts.conds.items) all in
      all-joined p (flat_map nodes_in (map (renamed f) b.parts.head)) (flat_map nodes_in_cond (map (renamed_cond f) rest))
      (ap (list_all p) (heads-nodes f f-plain f-folds b.parts.head) ∙ h.0)
      (ap (list_all p) (conds-nodes f f-plain f-folds rest) ∙ flat-split p rest taken (sym (ap (λ (cs : List Cond). list_all p (flat_map nodes_in_cond cs)) m.conds) ∙ h.1))

  owner-shape : shape_fits root hs b' ≡ true
  owner-shape = shape-from root hs b' (record {
    kind = b-kind;
    nodes = b-nodes;
    placed = select-placed hs root after b' in-owner m.a_select;
    scalar = λ t. ap (nat_lt 0) (ap (width_by b.parts.kind) (length-map (renamed f) b.parts.head)) ∙ scalar-wide b in-b t;
  })

  heads-folds : list_any has_aggregate (heads ws) ≡ false
  heads-folds = elim (cases_Bool (list_any has_aggregate (heads ws))) [ inr e ↦ e | inl e ↦ absurd (let z = heads-list has_aggregate ws e in let t = z.1.1.1.0 in let k : ⊥ = cc in k) ]

  s-shape : shape_fits root hs s' ≡ true
  s-shape = shape-from root hs s' (record {
    kind = and_from (is_unfolded s') true (and_from (not (list_any has_aggregate (heads ws))) (not (list_any has_aggregate_cond taken)) (ap not heads-folds) (ap not b-folds.1.1)) refl;
    nodes = all-joined (node_fits ps) (flat_map nodes_in (heads ws)) (flat_map nodes_in_cond taken) (ap (list_all (node_fits ps)) (heads-none ws)) (bare-conds (node_fits ps) taken m.taken_bare);
    placed = select-placed hs root after s' s-in refl;
    scalar = λ t. absurd (
        let o = any-in (λ (n : Node). is_scalar_in n.quants s) bs (scalar-was s t) in
        let r = any-in (λ (r : OwnedQuant). (r.over == s) && is_S r.kind) o.0.quants o.1.1 in
        clash (has_box bs s) (subst (λ k. has_box bs k ≡ true) (eqb-true r.0.over s (and_parts (r.0.over == s) (is_S r.0.kind) r.1.1).0) (overs-held bs o.0 r.0 w.ordered o.1.0 r.1.0)) m.new_s);
  })

  shapes-after : (z : Node) → In z hs → shape_fits root hs z ≡ true
  shapes-after = split.each xs ys root b wide q s us ps vs rest taken w m (λ z. shape_fits root hs z ≡ true) owner-shape other-shape s-shape

  -- ---- PERMIT

  abbrev Unseen : Node → Type 0
  Unseen z = is_permit z.parts.distinct ≡ true → (z.id ≡ root → ⊥) × ((o : Node) (r : OwnedQuant) → In o hs → In r o.quants → r.over ≡ z.id → is_F_or_S r.kind ≡ false)

  unseen-old : (y : Node) → In y bs → is_permit y.parts.distinct ≡ true → (y.id ≡ root → ⊥) × ((o : Node) (r : OwnedQuant) → In o hs → In r o.quants → r.over ≡ y.id → is_F_or_S r.kind ≡ false)
  unseen-old y j h = (
    was.0,
    λ o r k l e. elim (split.quant-was xs ys root b wide q s us ps vs rest taken w m o k r l) [
      | inl t ↦ was.1 t.0 r t.1.0 t.1.1 e
      | inr t ↦ absurd (clash (has_box bs s) (subst (λ z. has_box bs z ≡ true) (sym e ∙ ap (λ (z : OwnedQuant). z.over) t) (in-has y bs j)) m.new_s)
    ],
  )
    where
      was : (y.id ≡ root → ⊥) × ((o : Node) (r : OwnedQuant) → In o bs → In r o.quants → r.over ≡ y.id → is_F_or_S r.kind ≡ false)
      was = sh.unseen y j h

  unseen-after : (z : Node) → In z hs → Unseen z
  unseen-after = split.each xs ys root b wide q s us ps vs rest taken w m Unseen (λ h. unseen-old b in-b h) (λ y j nob h. unseen-old y j h) (λ h. absurd (let z : ⊥ = cc in z))

  -- ---- columns

  old-fits : (k l : ℕ) (y : Node) → In y bs → list_any (is_at k l) (columns_of y) ≡ true → fits l (box_under bs k) ≡ true
  old-fits k l y j h =
      let d = any-in (is_at k l) (columns_of y) h in
      let e = and_parts (d.0.quant == k) (d.0.place == l) d.1.1 in
      let c = and_parts (places_fit y.parts.kind) (list_all (λ (d : Column). fits d.place (box_under bs d.quant)) (columns_of y)) (sh.columns y j) in
      ap₂ (λ x z. fits x (box_under bs z)) (sym (eqb-true d.0.place l e.1)) (sym (eqb-true d.0.quant k e.0)) ∙ all-in (λ (d : Column). fits d.place (box_under bs d.quant)) d.0 (columns_of y) c.1 d.1.0

  new-fits : (k l : ℕ) (y : Node) → In y bs → list_any (is_at k l) (columns_of y) ≡ true → fits l (box_under hs k) ≡ true
  new-fits k l y j h =
      let u = found bs root w y j k (column-named k l y h) in
      ap (fits l) (typed.under-old xs ys root b wide q s us ps vs rest taken w ty m k u) ∙ ap (λ z. within z l) (width-g u.box) ∙ sym (ap (fits l) (found-under bs root w k u)) ∙ old-fits k l y j h

  -- what fits in range fits
  q-fits : (l : ℕ) → Fits hs q l → fits l (box_under hs q) ≡ true
  q-fits l h =
      let fit = h b' rq s' in-owner (in-right rq us (rq ∷ vs) (inl refl)) refl s-in refl in
      ap (fits l) (typed.under-q xs ys root b wide q s us ps vs rest taken w ty m) ∙ and_from (nat_lt 0 l) (nat_le l (width s')) (lt-ltb 0 l (let a = fit.0 in omega (arith, a))) (le-leb l (width s') fit.1)

  fits-by : (z : Node) → places_fit z.parts.kind ≡ true → ((k l : ℕ) → list_any (is_at k l) (columns_of z) ≡ true → fits l (box_under hs k) ≡ true) → columns_fit hs z ≡ true
  fits-by z p h = and_from (places_fit z.parts.kind) (list_all (λ (d : Column). fits d.place (box_under hs d.quant)) (columns_of z)) p (all-from (λ (d : Column). fits d.place (box_under hs d.quant)) (columns_of z) (λ d j.
      h d.quant d.place (any-from (is_at d.quant d.place) d (columns_of z) j (and_from (d.quant == d.quant) (d.place == d.place) (eq-itself d.quant) (eq-itself d.place)))))

  places : (y : Node) → In y bs → places_fit y.parts.kind ≡ true
  places y j = (and_parts (places_fit y.parts.kind) (list_all (λ (d : Column). fits d.place (box_under bs d.quant)) (columns_of y)) (sh.columns y j)).0

  -- a column after is one that stays, or of these
  abbrev Before : ℕ → ℕ → ℕ → ℕ → Bool
  Before k l r j = (not (P r) && ((r == k) && (j == l))) || (P r && ((q == k) && (start ws r + j == l)))

  was-before : (k l r j : ℕ) → any_in (looking (λ z i. (z == k) && (i == l)) (λ z. false) (λ z. false) (λ z. true)) (f r j) ≡ true → Before k l r j ≡ true
  was-before k l r j t = elim (cases_Bool (P r)) [
    | inl u ↦ or_right (not (P r) && ((r == k) && (j == l))) (P r && ((q == k) && (start ws r + j == l))) (and_from (P r) ((q == k) && (start ws r + j == l)) u
        (sym (ap (λ z. any_in (looking (λ z i. (z == k) && (i == l)) (λ z. false) (λ z. false) (λ z. true)) (cond z (col q (start ws r + j)) (col r j))) (in-sizes wide ps r ∙ u)) ∙ t))
    | inr u ↦ or_left (not (P r) && ((r == k) && (j == l))) (P r && ((q == k) && (start ws r + j == l))) (and_from (not (P r)) ((r == k) && (j == l)) (ap not u)
        (sym (ap (λ z. any_in (looking (λ z i. (z == k) && (i == l)) (λ z. false) (λ z. false) (λ z. true)) (cond z (col q (start ws r + j)) (col r j))) (in-sizes wide ps r ∙ u)) ∙ t))
  ]

  right : (p a o : Bool) → p ≡ true → ((not p && a) || (p && o)) ≡ true → o ≡ true
  right true a o e h = h
  right false a o e h = absurd (let z : ⊥ = cc in z)

  left : (p a o : Bool) → p ≡ false → ((not p && a) || (p && o)) ≡ true → a ≡ true
  left true a o e h = absurd (let z : ⊥ = cc in z)
  left false true o e h = refl
  left false false o e h = h

  column-read : (y : Node) (r j : ℕ) → Rattle.qgm_edit_laws.specs.Graph.nodes_in r y ≡ false → list_any (is_at r j) (columns_of y) ≡ true → reads_in r j y ≡ true
  column-read y r j nod h =
      let n = or_parts (list_any (names r) y.parts.head) (list_any (names_cond r) y.parts.conds.items) nod in
      reading.unbound-reads r j y (or_from (list_any (Rattle.qgm_meaning.specs.Searches.binds r) y.parts.head) (list_any (Rattle.qgm_meaning.specs.Searches.binds_cond r) y.parts.conds.items)
      (split.none-sub xs ys root b wide q s us ps vs rest taken w m (list_any (Rattle.qgm_meaning.specs.Searches.binds r) y.parts.head) (list_any (names r) y.parts.head) (Rattle.qgm_edit_laws.proofs.AnyPut.heads-names r y.parts.head) n.0)
      (split.none-sub xs ys root b wide q s us ps vs rest taken w m (list_any (Rattle.qgm_meaning.specs.Searches.binds_cond r) y.parts.conds.items) (list_any (names_cond r) y.parts.conds.items) (Rattle.qgm_edit_laws.proofs.AnyPut.conds-names r y.parts.conds.items) n.1)) h

  -- y0 is y, or has fewer conditions
  renamed-fit : (y y0 : Node) → In y bs → ((r j : ℕ) → list_any (is_at r j) (columns_of y0) ≡ true → list_any (is_at r j) (columns_of y) ≡ true) → (k l : ℕ) → list_any (is_at k l) (columns_of (renamed_node f y0)) ≡ true → fits l (box_under hs k) ≡ true
  renamed-fit y y0 jy co k l h =
      let v = search-is (Before k l) (λ z. true) y0 (node-found f (λ z i. (z == k) && (i == l)) (Before k l) (λ z. false) (λ z. false) (λ z. true) (was-before k l) y0 (sym (columns-found k l (renamed_node f y0)) ∙ h)) in
      elim (cases_Bool (P v.0)) [
        | inr p ↦ (
            let e = and_parts (v.0 == k) (v.1.0 == l) (left (P v.0) ((v.0 == k) && (v.1.0 == l)) ((q == k) && (start ws v.0 + v.1.0 == l)) p v.1.1.0) in
            ap₂ (λ (a z : ℕ). fits a (box_under hs z)) (sym (eqb-true v.1.0 l e.1)) (sym (eqb-true v.0 k e.0)) ∙ new-fits v.0 v.1.0 y jy (co v.0 v.1.0 v.1.1.1))
        | inl p ↦ (
            let e = and_parts (q == k) (start ws v.0 + v.1.0 == l) (right (P v.0) ((v.0 == k) && (v.1.0 == l)) ((q == k) && (start ws v.0 + v.1.0 == l)) p v.1.1.0) in
            let r = any-in (is_quant v.0) ps p in
            let same : r.0.id ≡ v.0 = eqb-true r.0.id v.0 r.1.1 in
            let rd = column-read y v.0 v.1.0 (split.nodes-none xs ys root b wide q s us ps vs rest taken w m y jy v.0 p) (co v.0 v.1.0 v.1.1.1) in
            subst (λ k. fits l (box_under hs k) ≡ true) (eqb-true q k e.0) (q-fits l (split.in-range xs ys root b wide q s us ps vs rest taken w m y jy r.0 r.1.0 v.1.0 l (subst (λ r. reads_in r v.1.0 y ≡ true) (sym same) rd) (ap (λ r. start ws r + v.1.0) same ∙ eqb-true (start ws v.0 + v.1.0) l e.1))))
      ]

  abbrev b0 : Node
  b0 = record b { parts = record b.parts { conds = record b.parts.conds { items = rest } } }

  abbrev at_t : ℕ → ℕ → Term → Bool
  at_t k l = any_in (looking (λ z i. (z == k) && (i == l)) (λ z. false) (λ z. false) (λ z. true))

  abbrev at_c : ℕ → ℕ → Cond → Bool
  at_c k l = any_in_cond (looking (λ z i. (z == k) && (i == l)) (λ z. false) (λ z. false) (λ z. true))

  sub-columns : (k l : ℕ) → list_any (is_at k l) (columns_of b0) ≡ true → list_any (is_at k l) (columns_of b) ≡ true
  sub-columns k l h = columns-found k l b ∙ (elim (or_cases (list_any (at_t k l) b.parts.head) (list_any (at_c k l) rest) (sym (columns-found k l b0) ∙ h)) [
    | inl a ↦ or_left (list_any (at_t k l) b.parts.head) (list_any (at_c k l) b.parts.conds.items) a
    | inr a ↦ or_right (list_any (at_t k l) b.parts.head) (list_any (at_c k l) b.parts.conds.items) (ap (list_any (at_c k l)) m.conds ∙ any-both (at_c k l) rest taken ∙ or_left (list_any (at_c k l) rest) (list_any (at_c k l) taken) a)
  ])

  wide-enough : (r : OwnedQuant) (j : In r ps) (l : ℕ) → l ≤ wide r → l ≤ width (typed.found-P xs ys root b wide q s us ps vs rest taken w ty m r j).box
  wide-enough r j l h = omega (arith, h, typed.wide-P xs ys root b wide q s us ps vs rest taken w ty m r j)

  s-fit : (k l : ℕ) → list_any (is_at k l) (columns_of s') ≡ true → fits l (box_under hs k) ≡ true
  s-fit k l h = elim (or_cases (list_any (at_t k l) (heads ws)) (list_any (at_c k l) taken) (sym (columns-found k l s') ∙ h)) [
    | inr a ↦ new-fits k l b in-b (columns-found k l b ∙ or_right (list_any (at_t k l) b.parts.head) (list_any (at_c k l) b.parts.conds.items) (ap (list_any (at_c k l)) m.conds ∙ any-both (at_c k l) rest taken ∙ or_right (list_any (at_c k l) rest) (list_any (at_c k l) taken) a))
    | inl a ↦ (
        let z = heads-list (at_t k l) ws a in
        let r = split.P-list xs ys root b wide q s us ps vs rest taken w m z.0 z.1.0 in
        let c = and_parts (z.0.0 == k) (z.1.1.0 == l) z.1.1.1.0 in
        let e : r.0.id ≡ k = ap (λ (p : ℕ × ℕ). p.0) r.1.1 ∙ eqb-true z.0.0 k c.0 in
        let size-r : wide r.0 ≡ z.0.1 = ap (λ (p : ℕ × ℕ). p.1) r.1.1 in
        let l' : z.1.1.0 ≡ l = eqb-true z.1.1.0 l c.1 in
        let lo = z.1.1.1.1.0 in let hi = z.1.1.1.1.1 in
        let u = typed.found-P xs ys root b wide q s us ps vs rest taken w ty m r.0 r.1.0 in
        subst (λ k. fits l (box_under hs k) ≡ true) e (ap (fits l) (typed.under-old xs ys root b wide q s us ps vs rest taken w ty m r.0.id u) ∙ ap (λ n. within n l) (width-g u.box)
        ∙ and_from (nat_lt 0 l) (nat_le l (width u.box)) (lt-ltb 0 l (omega (arith, lo, l'))) (le-leb l (width u.box) (wide-enough r.0 r.1.0 l (omega (arith, hi, l', size-r))))))
  ]

  columns-after : (z : Node) → In z hs → columns_fit hs z ≡ true
  columns-after = split.each xs ys root b wide q s us ps vs rest taken w m (λ z. columns_fit hs z ≡ true)
      (fits-by b' (places b in-b) (λ k l h. renamed-fit b b0 in-b sub-columns k l h))
      (λ y j nob. fits-by (renamed_node f y) (places y j) (λ k l h. renamed-fit y y j (λ r i h. h) k l h))
      (fits-by s' refl s-fit)

  pub shaped-after : Shaped hs root
  shaped-after = record { columns = columns-after; unseen = unseen-after; shapes = shapes-after }

pub split-shaped : SplitShaped
split-shaped = λ xs ys root b wide q s us ps vs rest taken w ty sh m plain. shaped-after xs ys root b wide q s us ps vs rest taken w ty sh m plain
