-- After a split of those that feed box c, what feeding asks for is there.
use Rattle.std.proofs.Common.{ℕ, ◌==◌, ◌≡◌, ◌≤◌, ◌<◌, ◌+◌, ◌&&◌, ◌||◌, Bool, true, false, List, [], ◌∷◌, ◌++◌, map, Some, refl, sym, ap, subst, ◌∙◌, eqb-true, ◌⊎◌, inl, inr, arith}
use Rattle.std.specs.List.{list_any}
use Rattle.std.proofs.lemmas.Bool.{and_from, and_parts, cases_Bool, or_parts}
use Rattle.row_bag.specs.Order.{cell_of}
use Rattle.row_bag.specs.declared.tables.Table.{Table}
use Rattle.qgm_terms.specs.Named.{columns_in_cond}
use Rattle.qgm_terms.specs.Terms.{Cond}
use Rattle.qgm_terms.specs.Wanted.{any_in_cond, wanted}
use Rattle.qgm_terms.specs.declared.named.QuantNode.{QuantNode}
use Rattle.qgm_terms.specs.declared.named.QuantNode.TheVariants as node
use Rattle.qgm_terms.specs.declared.sought.Sought.TheVariants as sought
use Rattle.qgm_core.specs.Boxes.{has_box, ids_of, is_quant, owns}
use Rattle.qgm_core.specs.Edits.{range}
use Rattle.qgm_core.specs.Free.{Reaches, itself, through}
use Rattle.qgm_core.specs.Kinds.{is_A, is_E, is_F, is_S}
use Rattle.list_laws.specs.Lists.{In, first, times}
use Rattle.qgm_core.specs.declared.kinds.QuantKind.{QuantKind}
use Rattle.qgm_core.specs.declared.kinds.QuantKind.TheVariants.{F}
use Rattle.qgm_core.specs.declared.kinds.Role.TheVariants.{Plain}
use Rattle.qgm_core.specs.declared.node.Node.{Node}
use Rattle.qgm_core.specs.declared.owned.OwnedQuant.{OwnedQuant}
use Rattle.qgm_core.proofs.Reaching.{in-has, overs-held, reached-reaches}
use Rattle.qgm_meaning.specs.Meaning.{bag_in}
use Rattle.qgm_meaning.specs.Satisfies.{Satisfies}
use Rattle.qgm_meaning.specs.Scope.{loose}
use Rattle.qgm_wellformed.specs.Shapes.{is_among, node_fits}
use Rattle.qgm_wellformed.specs.Shapes as shape
use Rattle.qgm_props.specs.Facts.{IsClean, IsErrorFree, is_sound}
use Rattle.qgm_props.specs.Inferred.{Facts, cond_free}
use Rattle.qgm_props.specs.Under.{of_quant}
use Rattle.qgm_props.proofs.Rows.{occurs-each}
use Rattle.qgm_edit_laws.specs.Graph.{Sound, reads_in}
use Rattle.qgm_edit_laws.specs.Placed.{place}
use Rattle.qgm_edit_laws.specs.Shaped.{Shaped, Typed}
use Rattle.qgm_edit_laws.proofs.Ranks.{has-in, place-under}
use Rattle.qgm_edit_laws.proofs.Scoped.{few-ids}
use Rattle.qgm_edit_laws.proofs.ShapeParts.{shape-parts}
use Rattle.qgm_edit_laws.proofs.Turns.{first-own}
use Rattle.rule_feed.specs.Feed.{Numbers, inside, named_below, nodes_of, nodes_of_cond}
use Rattle.rule_feed.specs.FeedLaws.{FeedsOne}
use Rattle.rule_feed.specs.Split.{MaySplitSound, into, renamed_node, sizes_of, split_box, split_boxes, start}
use Rattle.rule_feed.proofs.FeedConds.{free-cond, Own}
use Rattle.rule_feed.proofs.FeedFacts as known
use Rattle.rule_feed.proofs.NodesListed.{is_sought, sought-listed}
use Rattle.rule_feed.proofs.SplitLooks as looks
use Rattle.rule_feed.proofs.SplitShaped as shaped
use Rattle.rule_feed.proofs.SplitSound as split
use Rattle.list_laws.proofs.Booleans.{clash}
use Rattle.list_laws.proofs.Membership.{all-in, any-from, any-in, eq-itself, in-left, in-right, map-in}

module _ (xs ys : List Node) (root : ℕ) (b : Node) (wide : OwnedQuant → ℕ) (q s : ℕ) (us ps vs : List OwnedQuant) (rest taken : List Cond) (w : Sound (xs ++ ys) root) (ty : Typed (xs ++ ys)) (sh : Shaped (xs ++ ys) root) (m : MaySplitSound xs ys b wide q s us ps vs rest taken) (plain : b.parts.role ≡ Plain) where
  abbrev bs : List Node
  bs = xs ++ ys

  abbrev hs : List Node
  hs = split_boxes xs ys (sizes_of wide ps) b.id q s us ps vs rest taken

  abbrev g : Node → Node
  g = split.g xs ys root b wide q s us ps vs rest taken w m

  abbrev b' : Node
  b' = split.b' xs ys root b wide q s us ps vs rest taken w m

  abbrev s' : Node
  s' = split_box s (sizes_of wide ps) ps taken

  abbrev rq : OwnedQuant
  rq = range q F s

  abbrev P : ℕ → Bool
  P k = list_any (is_quant k) ps

  -- box c, under i, no S quantifier, looks up all of these and nothing else; where i is F it stands behind them
  -- by what is known of some boxes theirs are clean, and the columns that are named are error-free, which holds where nothing is bound; so are the conditions
  pub record Feeding (i : OwnedQuant) (c : Node) (os : List Node) (now : Facts) (x : Numbers) : Type 0 where
    pub owned_i : In i us ⊎ In i vs
    pub not_scalar : is_S i.kind ≡ false
    pub in_c : In c ys
    pub over_c : i.over ≡ c.id
    pub behind : is_F i.kind ≡ true → (us' : List OwnedQuant) × ((vs' : List OwnedQuant) × (vs ≡ us' ++ i ∷ vs'))
    pub some : OwnedQuant
    pub some_in : In some ps
    pub opened : loose bs c.id some.id ≡ true
    pub alone : (k : ℕ) → loose bs c.id k ≡ true → P k ≡ true
    pub told : (p : OwnedQuant) → In p ps → (k : ℕ) → of_quant os (λ b. now.error_free b k) p.id ≡ now.error_free p.over k
    pub clean : (p : OwnedQuant) → In p ps → now.clean p.over ≡ true
    pub named : (p : OwnedQuant) → In p ps → (k : ℕ) → named_below bs c.id p.id k ≡ true → now.error_free p.over k ≡ true
    pub taken_own : (d : Cond) → In d taken → Own P (columns_in_cond d)
    pub taken_bare : (d : Cond) → In d taken → any_in_cond (wanted sought.Node) d ≡ false
    pub taken_free : (d : Cond) → In d taken → cond_free os now false d ≡ true
    pub holds_clean : (tables : List Table) → Satisfies tables hs → (p : OwnedQuant) → In p ps → now.clean p.over ≡ true → IsClean (bag_in tables bs p.over [])
    pub holds_free : (tables : List Table) → Satisfies tables hs → (p : OwnedQuant) → In p ps → (k : ℕ) → now.error_free p.over k ≡ true → IsErrorFree k (bag_in tables bs p.over [])
    pub new_d : has_box hs x.d ≡ false
    pub new_m : has_box hs x.m ≡ false
    pub apart : (x.m == x.d) ≡ false
    pub new_dm : list_any (owns x.dm) hs ≡ false
    pub new_dc : list_any (owns x.dc) hs ≡ false
    pub new_mq : list_any (owns x.mq) hs ≡ false
    pub apart_dc : (x.dc == x.dm) ≡ false
    pub apart_mq : (x.mq == x.dm) ≡ false
    pub apart_both : (x.mq == x.dc) ≡ false

  module _ (i : OwnedQuant) (c : Node) (os : List Node) (now : Facts) (x : Numbers) (e : Feeding i c os now x) where
    after : Sound hs root
    after = split.sound-after xs ys root b wide q s us ps vs rest taken w m

    shaped-hs : Shaped hs root
    shaped-hs = shaped.shaped-after xs ys root b wide q s us ps vs rest taken w ty sh m plain

    in-b : In b bs
    in-b = in-left b xs ys m.above

    in-c : In c bs
    in-c = in-right c xs ys e.in_c

    g-b : g b ≡ b'
    g-b = split.g-b xs ys root b wide q s us ps vs rest taken w m b (eq-itself b.id)

    in-b' : In b' (map g xs)
    in-b' = subst (λ z. In z (map g xs)) g-b (map-in g b xs m.above)

    c-id : (g c).id ≡ c.id
    c-id = split.id xs ys root b wide q s us ps vs rest taken w m c

    owned : In i (us ++ rq ∷ vs)
    owned = elim e.owned_i [ inl a ↦ in-left i us (rq ∷ vs) a | inr a ↦ in-right i us (rq ∷ vs) (inr a) ]

    owned-b : In i b.quants
    owned-b = split.old-quant xs ys root b wide q s us ps vs rest taken w m i (elim e.owned_i [ inl a ↦ inl a | inr a ↦ inr (inr a) ])

    b-above-c : place bs b.id < place bs c.id
    b-above-c = subst (λ z. place bs b.id < place bs z) e.over_c (place-under bs b i w.ordered in-b owned-b)

    -- ---- no node of i is a scalar, and none is of the new quantifier

    in-hs : In b' hs
    in-hs = in-left b' (map g xs) (s' ∷ map g ys) in-b'

    few : (k : ℕ) → times k (ids_of b') ≤ 1
    few k = few-ids hs b' k (after.once k) in-hs

    -- of one number there is one quantifier
    same-quant : (r t : OwnedQuant) → In r b'.quants → In t b'.quants → r.id ≡ t.id → r ≡ t
    same-quant r t jr jt h =
        let z : Some r ≡ Some t = sym (first-own r b'.quants (few r.id) jr) ∙ ap (λ v. first (is_quant v) b'.quants) h ∙ first-own t b'.quants (few t.id) jt in cc

    not-kind : (p : QuantKind → Bool) (t : OwnedQuant) → In t b'.quants → p t.kind ≡ false → is_among p t.id b'.quants ≡ true → ⊥
    not-kind p t j h a =
        let r = any-in (λ r. is_quant t.id r && p r.kind) b'.quants a in
        let k = and_parts (is_quant t.id r.0) (p r.0.kind) r.1.1 in
        clash (p r.0.kind) k.1 (ap (λ (z : OwnedQuant). p z.kind) (same-quant r.0 t r.1.0 j (eqb-true r.0.id t.id k.0)) ∙ h)

    rq-in : In rq b'.quants
    rq-in = in-right rq us (rq ∷ vs) (inl refl)

    unsought : (z : QuantNode) → node_fits b'.quants z ≡ true → is_sought i.id q z ≡ true → ⊥
    unsought (node.Scalar r) f h = not-kind is_S i owned e.not_scalar (subst (λ v. is_among is_S v b'.quants ≡ true) (eqb-true r i.id h) f)
    unsought (node.Some r) f h = not-kind is_E rq rq-in refl (subst (λ v. is_among is_E v b'.quants ≡ true) (eqb-true r q h) f)
    unsought (node.Every r) f h = not-kind is_A rq rq-in refl (subst (λ v. is_among is_A v b'.quants ≡ true) (eqb-true r q h) f)

    clear : (list_any (nodes_of i.id q) b'.parts.head ≡ false) × (list_any (nodes_of_cond i.id q) b'.parts.conds.items ≡ false)
    clear = or_parts (list_any (nodes_of i.id q) b'.parts.head) (list_any (nodes_of_cond i.id q) b'.parts.conds.items) (elim (cases_Bool (list_any (nodes_of i.id q) b'.parts.head || list_any (nodes_of_cond i.id q) b'.parts.conds.items)) [
      | inr z ↦ z
      | inl z ↦ absurd (
          let n = any-in (is_sought i.id q) (shape.nodes_of b') (sought-listed i.id q b' ∙ z) in
          unsought n.0 (all-in (node_fits b'.quants) n.0 (shape.nodes_of b') (shape-parts root hs b' (shaped-hs.shapes b' in-hs)).nodes n.1.0) n.1.1)
    ])

    -- ---- what c looks up

    opened : loose hs c.id q ≡ true
    opened = looks.more xs ys root b wide q s us ps vs rest taken w m c.id q (subst (λ z. has_box hs z ≡ true) c-id (in-has (g c) hs (in-right (g c) (map g xs) (s' ∷ map g ys) (inr (map-in g c ys e.in_c)))))
        (split.look-q xs ys root b wide q s us ps vs rest taken w m c.id e.some e.some_in e.opened)

    alone : (k : ℕ) → loose hs c.id k ≡ true → k ≡ q
    alone k t = elim (split.look-of xs ys root b wide q s us ps vs rest taken w m c.id k (looks.less xs ys root b wide q s us ps vs rest taken w m c.id k t)) [
      | inl z ↦ z.0
      | inr z ↦ absurd (clash (P k) (e.alone k z.1.1) z.1.0)
    ]

    closed : (k : ℕ) → loose hs s k ≡ false
    closed k = elim (cases_Bool (loose hs s k)) [
      | inr z ↦ z
      | inl z ↦ absurd (clash (looks.look xs ys root b wide q s us ps vs rest taken w m s k) (looks.less xs ys root b wide q s us ps vs rest taken w m s k z)
          (split.look-none xs ys root b wide q s us ps vs rest taken w m s k (split.new-none xs ys root b wide q s us ps vs rest taken w m)))
    ]

    -- ---- what c reaches, and which columns are named there

    -- from a box below b
    reach-was : (z v : ℕ) → Reaches hs z v → place bs b.id < place bs z → has_box bs z ≡ true → Reaches bs z v × ((place bs b.id < place bs v) × (has_box bs v ≡ true))
    reach-was z v (itself y) l h = (itself y, (l, h))
    reach-was z v (through n r t i j k) l h = elim (split.in-hs xs ys root b wide q s us ps vs rest taken w m n i) [
      | inr a ↦ absurd (clash (has_box bs s) (subst (λ (y : Node). has_box bs y.id ≡ true) (sym a) h) m.new_s)
      | inl a ↦ (
          let id : a.0.id ≡ n.id = sym (split.id xs ys root b wide q s us ps vs rest taken w m a.0) ∙ ap (λ (y : Node). y.id) a.1.1 in
          elim (cases_Bool (a.0.id == b.id)) [
            | inl f ↦ absurd (let same : place bs n.id ≡ place bs b.id = ap (place bs) (sym id ∙ eqb-true a.0.id b.id f) in omega arith)
            | inr f ↦ (
                let jr : In r a.0.quants = subst (λ (z : List OwnedQuant). In r z) (ap (λ (y : Node). y.quants) (sym a.1.1) ∙ split.quants-same xs ys root b wide q s us ps vs rest taken w m a.0 f) j in
                let under = place-under bs a.0 r w.ordered a.1.0 jr in
                let at : place bs a.0.id ≡ place bs n.id = ap (place bs) id in
                let rec = reach-was r.over t k (omega arith) (overs-held bs a.0 r w.ordered a.1.0 jr) in
                (subst (λ y. Reaches bs y t) id (through a.0 r t a.1.0 jr rec.0), rec.1))
          ])
    ]

    pub named-was : (k : ℕ) → named_below hs c.id q k ≡ true → (p : OwnedQuant) × (In p ps × ((j : ℕ) × ((named_below bs c.id p.id j ≡ true) × (((1 ≤ j) × (j ≤ wide p)) × (start (sizes_of wide ps) p.id + j ≡ k)))))
    named-was k h =
        let n = any-in (λ (y : Node). inside hs c.id y.id && reads_in q k y) hs h in
        let a = and_parts (inside hs c.id n.0.id) (reads_in q k n.0) n.1.1 in
        let r = reach-was c.id n.0.id ((reached-reaches hs after.ordered c.id n.0.id).0 a.0) b-above-c (in-has c bs in-c) in
        elim (split.in-hs xs ys root b wide q s us ps vs rest taken w m n.0 n.1.0) [
          | inr z ↦ absurd (clash (has_box bs s) (subst (λ (y : Node). has_box bs y.id ≡ true) (sym z) r.1.1) m.new_s)
          | inl z ↦ (
              let id : z.0.id ≡ n.0.id = sym (split.id xs ys root b wide q s us ps vs rest taken w m z.0) ∙ ap (λ (y : Node). y.id) z.1.1 in
              let off : (z.0.id == b.id) ≡ false = (elim (cases_Bool (z.0.id == b.id)) [ inr f ↦ f | inl f ↦ absurd (let same : place bs n.0.id ≡ place bs b.id = ap (place bs) (sym id ∙ eqb-true z.0.id b.id f) in let l = r.1.0 in omega arith) ]) in
              let rd : reads_in q k (renamed_node (into (sizes_of wide ps) q) z.0) ≡ true = subst (λ y. reads_in q k y ≡ true) (sym z.1.1 ∙ split.g-other xs ys root b wide q s us ps vs rest taken w m z.0 off) a.1 in
              elim (split.fit-other xs ys root b wide q s us ps vs rest taken w m z.0 z.1.0 q k rd) [
                | inr y ↦ absurd (clash (q == q) (eq-itself q) y.0)
                | inl y ↦ (
                    let p : OwnedQuant = y.1.0 in
                    let o = has-in p.over ys (m.below p y.1.1.0) in
                    let in-o = in-right o.0 xs ys o.1.0 in
                    let fit = w.fits z.0 z.1.0 p.id y.1.1.1.0 y.1.1.1.1.0 b p o.0 in-b (split.old-quant xs ys root b wide q s us ps vs rest taken w m p (inr (inl y.1.1.0))) refl in-o o.1.1 in
                    let wd = m.widths p o.0 y.1.1.0 in-o o.1.1 in (
                      p,
                      (
                        y.1.1.0,
                        (
                          y.1.1.1.0,
                          (
                            any-from (λ (u : Node). inside bs c.id u.id && reads_in p.id y.1.1.1.0 u) z.0 bs z.1.0 (and_from (inside bs c.id z.0.id) (reads_in p.id y.1.1.1.0 z.0) (subst (λ v. inside bs c.id v ≡ true) (sym id) ((reached-reaches bs w.ordered c.id n.0.id).1 r.0)) y.1.1.1.1.0),
                            ((fit.0, subst (λ v. y.1.1.1.0 ≤ v) (sym wd) fit.1), y.1.1.1.1.1),
                          ),
                        ),
                      ),
                    ))
              ])
        ]

    -- ---- the rows of s

    module _ (tables : List Table) (sat : Satisfies tables hs) where
      clean-p : (p : OwnedQuant) → In p ps → (now.clean p.over ≡ true) × IsClean (bag_in tables bs p.over [])
      clean-p p j = (e.clean p j, e.holds_clean tables sat p j (e.clean p j))

      free-p : (p : OwnedQuant) → In p ps → (k : ℕ) → now.error_free p.over k ≡ true → IsErrorFree k (bag_in tables bs p.over [])
      free-p p j k h = e.holds_free tables sat p j k h

      abbrev there : Facts
      there = known.now xs ys root b wide q s us ps vs rest taken w m os now e.told tables sat clean-p free-p

      conds-free : (d : Cond) → In d taken → cond_free hs there false d ≡ true
      conds-free d j = free-cond P os hs now there (λ r k h t. (
          let p = any-in (is_quant r) ps h in
          let id : p.0.id ≡ r = eqb-true p.0.id r p.1.1 in
          let f : now.error_free p.0.over k ≡ true = sym (e.told p.0 p.1.0 k) ∙ subst (λ v. of_quant os (λ b. now.error_free b k) v ≡ true) (sym id) t in
          subst (λ v. of_quant hs (λ b. there.error_free b k) v ≡ true) id
          (known.under-now xs ys root b wide q s us ps vs rest taken w m os now e.told tables sat clean-p free-p (λ z. there.error_free z k) p.0 p.1.0
          ∙ and_from (known.over xs ys root b wide q s us ps vs rest taken w m os now e.told tables sat clean-p free-p p.0.over) (now.error_free p.0.over k) (known.over-p xs ys root b wide q s us ps vs rest taken w m os now e.told tables sat clean-p free-p p.0 p.1.0) f)))
          d (e.taken_own d j) (e.taken_bare d j) (e.taken_free d j)

    pub feeds-one : FeedsOne (map g xs) (s' ∷ map g ys) root b' s' (g c) rq i x
    feeds-one = record {
      in_b = in-b';
      in_s = inl refl;
      in_c = inr (map-in g c ys e.in_c);
      a_select = m.a_select;
      owned_p = rq-in;
      owned_i = owned;
      p_binds = refl;
      not_scalar = e.not_scalar;
      over_s = refl;
      over_c = e.over_c ∙ sym c-id;
      before = λ f. (let z = e.behind f in (us, (z.0, (z.1.0, ap (λ v. us ++ rq ∷ v) z.1.1))));
      clear = clear.0;
      clear_conds = clear.1;
      opened = subst (λ z. loose hs z q ≡ true) (sym c-id) opened;
      alone = λ k t. alone k (subst (λ z. loose hs z k ≡ true) c-id t);
      closed = closed;
      new_d = e.new_d;
      new_m = e.new_m;
      apart = e.apart;
      new_dm = e.new_dm;
      new_dc = e.new_dc;
      new_mq = e.new_mq;
      apart_dc = e.apart_dc;
      apart_mq = e.apart_mq;
      apart_both = e.apart_both;
      clean = λ tables sat. known.s-clean xs ys root b wide q s us ps vs rest taken w m os now e.told tables sat (clean-p tables sat) (free-p tables sat) (conds-free tables sat);
      free = λ tables sat row st k h. (
          let z = named-was k (subst (λ v. named_below hs v q k ≡ true) c-id h) in
          known.no-error (cell_of k row) (occurs-each (λ cells. is_sound (cell_of k cells) ≡ true) (bag_in tables hs s [])
          (subst (λ v. IsErrorFree v (bag_in tables hs s [])) z.1.1.1.1.1
          (known.s-free xs ys root b wide q s us ps vs rest taken w m os now e.told tables sat (clean-p tables sat) (free-p tables sat) z.0 z.1.0 z.1.1.0 z.1.1.1.1.0.0 z.1.1.1.1.0.1 (e.named z.0 z.1.0 z.1.1.0 z.1.1.1.0)))
          row st));
    }
