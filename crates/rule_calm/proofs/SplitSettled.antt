-- G1, its second step: where quantifiers of a select go into one of their own a graph stays settled.
use Rattle.std.proofs.Common.{ℕ, ◌==◌, ◌≡◌, ◌≤◌, ◌+◌, ◌&&◌, ◌||◌, cond, nat_le, nat_lt, not, Bool, true, false, List, [], ◌∷◌, ◌++◌, map, length, ◌⊎◌, refl, sym, ap, subst, ◌∙◌, eqb-true, inl, inr, arith}
use Rattle.std.specs.List.{flat_map, list_all, list_any}
use Rattle.std.proofs.lemmas.Bool.{and_from, and_parts, cases_Bool, eq-eqb, leb-true, ltb-true, or_cases, or_left, or_right}
use Rattle.list_laws.specs.Lists.{In}
use Rattle.list_laws.proofs.Booleans.{clash}
use Rattle.list_laws.proofs.Membership.{all-from, all-in, any-from, any-in, eq-itself, flat-in, in-append, in-left, in-map, in-right, map-in}
use Rattle.qgm_core.specs.Boxes.{has_box, is_quant, owns, width}
use Rattle.qgm_core.specs.Edits.{range}
use Rattle.qgm_core.specs.Kinds.{is_F, is_S, is_magic, width_by}
use Rattle.qgm_core.specs.declared.kinds.BoxKind.{BoxKind}
use Rattle.qgm_core.specs.declared.kinds.QuantKind.{QuantKind}
use Rattle.qgm_core.specs.declared.kinds.QuantKind.TheVariants as kinds
use Rattle.qgm_core.specs.declared.kinds.QuantKind.TheVariants.{F}
use Rattle.qgm_core.specs.declared.kinds.Role.TheVariants.{Plain}
use Rattle.qgm_core.specs.declared.node.Node.{Node}
use Rattle.qgm_core.specs.declared.owned.OwnedQuant.{OwnedQuant}
use Rattle.qgm_core.proofs.Reaching.{in-has, overs-held}
use Rattle.qgm_meaning.specs.Scope.{loose}
use Rattle.qgm_meaning.specs.Tags.{columns_from}
use Rattle.qgm_terms.specs.Named.{columns_in, columns_in_cond, nodes_in, nodes_in_cond}
use Rattle.qgm_terms.specs.Terms.{Cond, Term, col}
use Rattle.qgm_terms.specs.declared.named.Column.{Column}
use Rattle.qgm_terms.specs.declared.named.QuantNode.{QuantNode}
use Rattle.qgm_wellformed.specs.Columns.{box_under, columns_of, fits, places_fit}
use Rattle.qgm_wellformed.specs.Shapes.{nodes_of}
use Rattle.qgm_edit_laws.specs.Graph.{Sound}
use Rattle.qgm_edit_laws.specs.Rebuilds.{IsOwned}
use Rattle.qgm_edit_laws.specs.Shaped.{Shaped}
use Rattle.qgm_edit_laws.proofs.Adds.{loose-owned}
use Rattle.qgm_edit_laws.proofs.Ranks.{has-in, same-box}
use Rattle.qgm_edit_laws.proofs.Rebuilt.{one-quant}
use Rattle.qgm_edit_laws.proofs.Read.{column-named, is_at}
use Rattle.qgm_edit_laws.proofs.Scope.{one-owner}
use Rattle.qgm_edit_laws.proofs.TypedKept.{Ranging, found, found-under}
use Rattle.qgm_props.specs.Calm.{calm_column, calm_magic, clean_below, is_closed}
use Rattle.qgm_props.specs.Inferred.{Closed, Facts, all_under_F, at_place, clean_by, cond_free, error_free_under, free_by, is_free}
use Rattle.qgm_props.specs.Laws.{Tells}
use Rattle.qgm_props.proofs.Settled.{all-told}
use Rattle.rule_magic.proofs.AbsorbShared.{closed-looks, looks-closed}
use Rattle.rule_feed.specs.Split.{MaySplitSound, heads, into, renamed, renamed_cond, renamed_node, sizes_of, split_box, split_boxes, split_node, split_owner, start}
use Rattle.rule_feed.proofs.SplitLooks as looks
use Rattle.rule_feed.proofs.SplitReads.{in-sizes}
use Rattle.rule_feed.proofs.SplitSound as split
use Rattle.rule_calm.specs.Settled.{IsFirm, SettledBox, single_free, single_free_cond}
use Rattle.rule_calm.proofs.BehindFacts.{place-map}
use Rattle.rule_calm.proofs.ClosedParts.{closed-own, open-not-firm, over-clean}
use Rattle.rule_calm.proofs.FedSettled.{below-calm}
use Rattle.rule_calm.proofs.Framed.{Carried, Covers, OwnedAs, Owning, back, back-carried, firm-single, firm-stays, known-clean, known-free, nodes-still, range-is, settled-from, told-closed}
use Rattle.rule_calm.proofs.FreeTerms.{SameNodes, cl_of, cond-is, ef_of, free-is, free_with, one_of, same-cond}
use Rattle.rule_calm.proofs.HeadPlaces.{place-left, place-range, place-right}
use Rattle.rule_calm.proofs.MovedFacts.{ColumnsMoved, Moved, moved-covers, moved-firm, moved-settled}
use Rattle.rule_calm.proofs.MovedTerms.{renamed-cond, renamed-free}
use Rattle.rule_calm.proofs.RebuiltSettled.{carries, nodes-fit}
use Rattle.rule_calm.proofs.TurnSettled.{all-F-from, select-single}

-- ---- columns side by side

pub heads-place : (p : Term → Bool) (ws : List (ℕ × ℕ)) (r k : ℕ) → list_any (λ (x : ℕ × ℕ). x.0 == r) ws ≡ true → 1 ≤ k → ((x : ℕ × ℕ) → In x ws → x.0 ≡ r → k ≤ x.1) → p (col r k) ≡ true → at_place p (heads ws) (start ws r + k) ≡ true
heads-place p [] r k a i l h = absurd (let z : ⊥ = cc in z)
heads-place p (x ∷ ws) r k a i l h = elim (cases_Bool (x.0 == r)) [
  | inl t ↦ (
      let e = eqb-true x.0 r t in
      subst (λ z. at_place p (columns x) z ≡ true) (sym (ap (λ z. cond z 0 (x.1 + start ws r) + k) t ∙ (let z : 0 + k ≡ k = omega arith in z)))
      (place-left p x.0 x.1 (heads ws) k i (l x (inl refl) e) (subst (λ z. p (col z k) ≡ true) (sym e) h)))
  | inr f ↦ subst (λ z. at_place p (columns x) z ≡ true) (sym (ap (λ z. cond z 0 (x.1 + start ws r) + k) f))
      (place-right p x.0 x.1 (heads ws) (start ws r + k) (x.1 + start ws r + k) (let z : x.1 + start ws r + k ≡ x.1 + (start ws r + k) = omega arith in z)
      (heads-place p ws r k (or_else (x.0 == r) (list_any (λ (y : ℕ × ℕ). y.0 == r) ws) a f) i (λ y j e. l y (inr j) e) h))
]
  where
    columns : ℕ × ℕ → List Term
    columns x = columns_from x.0 1 x.1 ++ heads ws

    or_else : (a b : Bool) → (a || b) ≡ true → a ≡ false → b ≡ true
    or_else true b h f = absurd (let z : ⊥ = cc in z)
    or_else false b h f = h

pub all-F-at : (p : ℕ → Bool) (rs : List OwnedQuant) (r : OwnedQuant) → all_under_F p rs ≡ true → In r rs → is_F r.kind ≡ true → p r.over ≡ true
all-F-at p [] r h i e = elim i [ ]
all-F-at p (x ∷ rs) r h i e = elim i [
  | inl z ↦ subst (λ (y : OwnedQuant). p y.over ≡ true) z (here (is_F x.kind) (ap (λ (y : OwnedQuant). is_F y.kind) z ∙ e) h)
  | inr j ↦ all-F-at p rs r (rest (is_F x.kind) h) j e
]
  where
    here : (b : Bool) → b ≡ true → cond b (p x.over && all_under_F p rs) (all_under_F p rs) ≡ true → p x.over ≡ true
    here true e h = (and_parts (p x.over) (all_under_F p rs) h).0
    here false e h = absurd (let z : ⊥ = cc in z)

    rest : (b : Bool) → cond b (p x.over && all_under_F p rs) (all_under_F p rs) ≡ true → all_under_F p rs ≡ true
    rest true h = (and_parts (p x.over) (all_under_F p rs) h).1
    rest false h = h

f-not-s : (k : QuantKind) → is_F k ≡ true → is_S k ≡ true → ⊥
f-not-s kinds.F h s = let z : ⊥ = cc in z
f-not-s kinds.E h s = let z : ⊥ = cc in z
f-not-s kinds.A h s = let z : ⊥ = cc in z
f-not-s kinds.S h s = let z : ⊥ = cc in z

module _ (xs ys : List Node) (root : ℕ) (b : Node) (wide : OwnedQuant → ℕ) (q s : ℕ) (us ps vs : List OwnedQuant) (rest taken : List Cond) (w : Sound (xs ++ ys) root) (m : MaySplitSound xs ys b wide q s us ps vs rest taken)
    (sh : Shaped (xs ++ ys) root) (shh : Shaped (split_boxes xs ys (sizes_of wide ps) b.id q s us ps vs rest taken) root) (plain : b.parts.role ≡ Plain) (fs : Facts) (tells : Tells fs (xs ++ ys)) (each : (n : Node) → In n (xs ++ ys) → SettledBox (xs ++ ys) fs root n)
    (closed-b : is_closed (xs ++ ys) b.id ≡ true) (i : OwnedQuant) (in-i : In i b.quants) (open-i : is_closed (xs ++ ys) i.over ≡ false)
    (taken-columns : (d : Cond) → In d taken → (y : Column) → In y (columns_in_cond d) → list_any (is_quant y.quant) ps ≡ true) (taken-nodes : (d : Cond) → In d taken → (z : QuantNode) → In z (nodes_in_cond d) → ⊥)
    (took : (d : Cond) → In d taken → cond_free (xs ++ ys) fs false d ≡ true) where
  abbrev bs : List Node
  bs = xs ++ ys

  abbrev ws : List (ℕ × ℕ)
  ws = sizes_of wide ps

  abbrev rq : OwnedQuant
  rq = range q F s

  abbrev φ : ℕ → ℕ → Term
  φ = into (sizes_of wide ps) q

  abbrev G : Node → Node
  G = split_node (sizes_of wide ps) b.id q us (range q F s ∷ vs) rest

  abbrev b' : Node
  b' = split_owner (sizes_of wide ps) q us (range q F s ∷ vs) rest b

  abbrev s' : Node
  s' = split_box s (sizes_of wide ps) ps taken

  abbrev hs : List Node
  hs = split_boxes xs ys (sizes_of wide ps) b.id q s us ps vs rest taken

  abbrev gs : Facts
  gs = (all-told (split_boxes xs ys (sizes_of wide ps) b.id q s us ps vs rest taken)).0

  abbrev always : ℕ → Bool
  always z = true

  v : Sound hs root
  v = split.sound-after xs ys root b wide q s us ps vs rest taken w m

  closed : Closed hs gs
  closed = told-closed hs gs (all-told hs).1

  in-b : In b bs
  in-b = in-left b xs ys m.above

  g-hs : (y : Node) → In y bs → In (G y) hs
  g-hs y j = elim (in-append y xs ys j) [
    | inl a ↦ in-left (G y) (map G xs) (s' ∷ map G ys) (map-in G y xs a)
    | inr a ↦ in-right (G y) (map G xs) (s' ∷ map G ys) (inr (map-in G y ys a))
  ]

  in-s' : In s' hs
  in-s' = in-right s' (map G xs) (s' ∷ map G ys) (inl refl)

  g-b : G b ≡ b'
  g-b = split.g-b xs ys root b wide q s us ps vs rest taken w m b (eq-itself b.id)

  in-b' : In b' hs
  in-b' = subst (λ (z : Node). In z hs) g-b (g-hs b in-b)

  g-other : (y : Node) → (y.id == b.id) ≡ false → G y ≡ renamed_node φ y
  g-other = split.g-other xs ys root b wide q s us ps vs rest taken w m

  -- ---- open boxes

  still : (z k : ℕ) → loose bs z k ≡ true → (y : ℕ) × (split.look xs ys root b wide q s us ps vs rest taken w m z y ≡ true)
  still z k h = elim (cases_Bool (list_any (is_quant k) ps)) [
    | inl t ↦ (let r = any-in (is_quant k) ps t in (q, split.look-q xs ys root b wide q s us ps vs rest taken w m z r.0 r.1.0 (subst (λ y. loose bs z y ≡ true) (sym (eqb-true r.0.id k r.1.1)) h)))
    | inr t ↦ (k, split.look-else xs ys root b wide q s us ps vs rest taken w m z k (split.not-q xs ys root b wide q s us ps vs rest taken w m k (loose-owned bs root w z k h)) t ∙ h)
  ]

  closed-before : (z : ℕ) → is_closed hs z ≡ true → has_box hs z ≡ true → is_closed bs z ≡ true
  closed-before z t held = looks-closed bs root w z (λ k. elim (cases_Bool (loose bs z k)) [
    | inr f ↦ f
    | inl e ↦ absurd (let o = still z k e in clash (loose hs z o.0) (looks.more xs ys root b wide q s us ps vs rest taken w m z o.0 held o.1) (closed-looks hs root v z t o.0))
  ])

  closed-after : (z : ℕ) → is_closed bs z ≡ true → is_closed hs z ≡ true
  closed-after z t = looks-closed hs root v z (λ k. elim (cases_Bool (loose hs z k)) [
    | inr f ↦ f
    | inl e ↦ absurd (clash (split.look xs ys root b wide q s us ps vs rest taken w m z k) (looks.less xs ys root b wide q s us ps vs rest taken w m z k e) (split.look-none xs ys root b wide q s us ps vs rest taken w m z k (closed-looks bs root w z t)))
  ])

  shut : (z : ℕ) → has_box hs z ≡ true → is_closed hs z ≡ is_closed bs z
  shut z held = elim (cases_Bool (is_closed hs z)) [
    | inl t ↦ t ∙ sym (closed-before z t held)
    | inr f ↦ elim (cases_Bool (is_closed bs z)) [ inr e ↦ f ∙ sym e | inl t ↦ absurd (clash (is_closed hs z) (closed-after z t) f) ]
  ]

  id : (y : Node) → (G y).id ≡ y.id
  id = split.id xs ys root b wide q s us ps vs rest taken w m

  held : (y : Node) → In y bs → has_box hs y.id ≡ true
  held y j = subst (λ z. has_box hs z ≡ true) (id y) (in-has (G y) hs (g-hs y j))

  held-over : (y : Node) (r : OwnedQuant) → In y bs → In r y.quants → has_box hs r.over ≡ true
  held-over y r j k = let u = has-in r.over bs (overs-held bs y r w.ordered j k) in subst (λ z. has_box hs z ≡ true) u.1.1 (held u.0 u.1.0)

  moved : (y : Node) → In y bs → (y.id == b.id) ≡ false → Moved bs hs φ y (renamed_node φ y)
  moved y j e = record {
    before = j;
    after = subst (λ (z : Node). In z hs) (g-other y e) (g-hs y j);
    id = refl;
    kind = refl;
    role = refl;
    quants = refl;
    head = refl;
    conds = refl;
    wide = ap width (sym (g-other y e)) ∙ split.width-g xs ys root b wide q s us ps vs rest taken w m y;
    single = λ r k. one (list_any (λ (p : ℕ × ℕ). p.0 == r) ws) r k;
    shut = shut y.id (held y j);
    shut_over = λ r k. shut r.over (held-over y r j k);
  }
    where
      one : (t : Bool) (r k : ℕ) → single_free (cond t (col q (start ws r + k)) (col r k)) ≡ true
      one true r k = refl
      one false r k = refl

  not-firm : IsFirm bs b.id → ⊥
  not-firm = open-not-firm bs root w b in-b m.a_select closed-b i in-i open-i

  firm : (z : ℕ) → IsFirm bs z → IsFirm hs z
  firm z x = firm-stays bs hs always (λ n j k. elim (cases_Bool (n.id == b.id)) [ inl e ↦ inr (λ y. not-firm (subst (IsFirm bs) (eqb-true n.id b.id e) y)) | inr e ↦ inl (moved-firm bs hs φ always n (renamed_node φ n) (moved n j e) (λ r k. refl)) ]) z x refl

  ones : (z : ℕ) → IsFirm hs z → gs.at_most_one z ≡ true
  ones = firm-single hs v.ordered gs closed

  single : (n : Node) → In n bs → (r : OwnedQuant) → In r n.quants → is_S r.kind ≡ true → gs.at_most_one r.over ≡ true
  single n j r k e = ones r.over (firm r.over ((each n j).scalars r k e))

  -- ---- quantifiers

  in-b-quants : (r : OwnedQuant) → In r us ⊎ (In r ps ⊎ In r vs) → In r b.quants
  in-b-quants = split.old-quant xs ys root b wide q s us ps vs rest taken w m

  of-b : (r : OwnedQuant) → In r b.quants → In r us ⊎ (In r ps ⊎ In r vs)
  of-b r j = elim (in-append r us (ps ++ vs) (subst (λ (z : List OwnedQuant). In r z) m.quants j)) [ inl k ↦ inl k | inr k ↦ inr (in-append r ps vs k) ]

  owned-b : (r : OwnedQuant) → In r b.quants → OwnedAs hs r
  owned-b r j = elim (of-b r j) [
    | inl k ↦ (r, ((b', (in-b', in-left r us (rq ∷ vs) k)), (refl, refl)))
    | inr k ↦ elim k [
      | inl k ↦ (r, ((s', (in-s', k)), (refl, refl)))
      | inr k ↦ (r, ((b', (in-b', in-right r us (rq ∷ vs) (inr k))), (refl, refl)))
    ]
  ]

  owned-any : (r : OwnedQuant) → IsOwned bs r → OwnedAs hs r
  owned-any r o = elim (cases_Bool (o.0.id == b.id)) [
    | inl e ↦ owned-b r (subst (λ (z : Node). In r z.quants) (same-box bs o.0 b w.ordered o.1.0 in-b (eqb-true o.0.id b.id e)) o.1.1)
    | inr e ↦ (r, ((renamed_node φ o.0, ((moved o.0 o.1.0 e).after, o.1.1)), (refl, refl)))
  ]

  -- ---- columns

  module _ (f : Facts) (c : Carried f gs always) where
    -- an own column of s
    of-s : (r : OwnedQuant) → In r ps → (k : ℕ) → f.error_free r.over k ≡ true → error_free_under hs gs r.id k ≡ true
    of-s r j k h = range-is hs root v (λ z. gs.error_free z k) r (s', (in-s', j)) ∙ c.error_free r.over k refl h

    -- a column that is named, and goes through s
    through-s : (n : Node) → In n bs → (y : Column) → In y (columns_of n) → (r : OwnedQuant) → In r ps → r.id ≡ y.quant → ef_of bs f y.quant y.place ≡ true → error_free_under hs gs q (start ws y.quant + y.place) ≡ true
    through-s n j y k r l e h =
        let in-r : In r b.quants = in-b-quants r (inr (inl l)) in
        let u = has-in r.over bs (overs-held bs b r w.ordered in-b in-r) in
        let x : Ranging bs y.quant = record { owner = b; quant = r; box = u.0; owner_in = in-b; quant_in = in-r; is_q = e; box_in = u.1.0; is_over = u.1.1 } in
        let fit = all-in (λ (z : Column). fits z.place (box_under bs z.quant)) y (columns_of n) (and_parts (places_fit n.parts.kind) (list_all (λ (z : Column). fits z.place (box_under bs z.quant)) (columns_of n)) (sh.columns n j)).1 k in
        let within = and_parts (nat_lt 0 y.place) (nat_le y.place (width u.0)) (sym (ap (fits y.place) (found-under bs root w y.quant x)) ∙ fit) in
        let long : wide r ≡ width u.0 = m.widths r u.0 l u.1.0 u.1.1 in
        let free : f.error_free r.over y.place ≡ true = sym (range-is bs root w (λ z. f.error_free z y.place) r (b, (in-b, in-r))) ∙ ap (λ z. error_free_under bs f z y.place) e ∙ h in
        let at = heads-place (is_free hs gs false) ws y.quant y.place (in-sizes wide ps y.quant ∙ any-from (is_quant y.quant) r ps l (eq-eqb r.id y.quant e)) (ltb-true 0 y.place within.0)
        (λ z zi ze. (
        let t = in-map (λ (o : OwnedQuant). (o.id, wide o)) z ps zi in
        let same : t.0 ≡ r = one-quant bs w.once t.0 r (b, (in-b, in-b-quants t.0 (inr (inl t.1.0)))) (b, (in-b, in-r)) (ap (λ (o : ℕ × ℕ). o.0) t.1.1 ∙ ze ∙ sym e) in
        subst (λ o. y.place ≤ o) (sym long ∙ ap wide (sym same) ∙ ap (λ (o : ℕ × ℕ). o.1) t.1.1) (leb-true y.place (width u.0) within.1)))
        (subst (λ z. error_free_under hs gs z y.place ≡ true) e (of-s r l y.place free)) in
        range-is hs root v (λ z. gs.error_free z (start ws y.quant + y.place)) rq (b', (in-b', in-right rq us (rq ∷ vs) (inl refl)))
        ∙ known-free hs v.ordered gs closed s' in-s' (start ws y.quant + y.place) (place-range (is_free hs gs false) (heads ws) (start ws y.quant + y.place) at) at

    -- another column that is named
    beside : (n : Node) → In n bs → (y : Column) → In y (columns_of n) → ef_of bs f y.quant y.place ≡ true → ef_of hs gs y.quant y.place ≡ true
    beside n j y k h =
        let nm = column-named y.quant y.place n (any-from (is_at y.quant y.place) y (columns_of n) k (and_from (y.quant == y.quant) (y.place == y.place) (eq-itself y.quant) (eq-itself y.place))) in
        let z = found bs root w n j y.quant nm in
        let own : IsOwned bs z.quant = (z.owner, (z.owner_in, z.quant_in)) in
        let t = owned-any z.quant own in
        let was : f.error_free z.quant.over y.place ≡ true = sym (range-is bs root w (λ b. f.error_free b y.place) z.quant own) ∙ ap (λ q. error_free_under bs f q y.place) z.is_q ∙ h in
        subst (λ q. error_free_under hs gs q y.place ≡ true) (t.1.1.0 ∙ z.is_q)
        (range-is hs root v (λ b. gs.error_free b y.place) t.0 t.1.0 ∙ subst (λ b. gs.error_free b y.place ≡ true) (sym t.1.1.1) (c.error_free z.quant.over y.place refl was))

    cols : (n : Node) → In n bs → ColumnsMoved bs hs f gs φ n
    cols n j y two k h = elim (cases_Bool (list_any (is_quant y.quant) ps)) [
      | inl t ↦ (
          let r = any-in (is_quant y.quant) ps t in
          ap (λ o. free_with (ef_of hs gs) (cl_of hs gs) (one_of hs gs) two (cond o (col q (start ws y.quant + y.place)) (col y.quant y.place))) (in-sizes wide ps y.quant ∙ t)
          ∙ through-s n j y k r.0 r.1.0 (eqb-true r.0.id y.quant r.1.1) h)
      | inr t ↦ ap (λ o. free_with (ef_of hs gs) (cl_of hs gs) (one_of hs gs) two (cond o (col q (start ws y.quant + y.place)) (col y.quant y.place))) (in-sizes wide ps y.quant ∙ t) ∙ beside n j y k h
    ]

    -- ---- b and s

    owning-b : Owning bs hs always b
    owning-b = record { before = in-b; over = λ r k. refl; owned = owned-b }

    nodes-b : SameNodes (ef_of bs f) (ef_of hs gs) (cl_of bs f) (cl_of hs gs) (one_of bs f) (one_of hs gs) (nodes_of b)
    nodes-b = nodes-still bs hs root w v always f gs c b owning-b (nodes-fit bs root sh b in-b) (single b in-b)

    no-single : (list_all single_free b.parts.head ≡ true) × (list_all single_free_cond b.parts.conds.items ≡ true)
    no-single = and_parts (list_all single_free b.parts.head) (list_all single_free_cond b.parts.conds.items) (each b in-b).no_single

    in-conds : (d : Cond) → In d rest ⊎ In d taken → In d b.parts.conds.items
    in-conds d j = subst (λ (z : List Cond). In d z) (sym m.conds) (elim j [ inl k ↦ in-left d rest taken k | inr k ↦ in-right d rest taken k ])

    cell-b : (x : Term) → In x b.parts.head → is_free bs f false x ≡ true → is_free hs gs false (renamed φ x) ≡ true
    cell-b x j h = free-is hs gs false (renamed φ x) ∙ renamed-free (ef_of bs f) (ef_of hs gs) (cl_of bs f) (cl_of hs gs) (one_of bs f) (one_of hs gs) φ false false x
        (λ y k. cols b in-b y false (in-left y (flat_map columns_in b.parts.head) (flat_map columns_in_cond b.parts.conds.items) (flat-in columns_in x y b.parts.head j k)))
        (λ y k. nodes-b y (in-left y (flat_map nodes_in b.parts.head) (flat_map nodes_in_cond b.parts.conds.items) (flat-in nodes_in x y b.parts.head j k)))
        (all-in single_free x b.parts.head no-single.0 j) (sym (free-is bs f false x) ∙ h)

    cond-b : (x : Cond) → In x rest → cond_free bs f false x ≡ true → cond_free hs gs false (renamed_cond φ x) ≡ true
    cond-b x i h =
        let j = in-conds x (inl i) in
        cond-is hs gs false (renamed_cond φ x) ∙ renamed-cond (ef_of bs f) (ef_of hs gs) (cl_of bs f) (cl_of hs gs) (one_of bs f) (one_of hs gs) φ false false x
        (λ y k. cols b in-b y false (in-right y (flat_map columns_in b.parts.head) (flat_map columns_in_cond b.parts.conds.items) (flat-in columns_in_cond x y b.parts.conds.items j k)))
        (λ y k. nodes-b y (in-right y (flat_map nodes_in b.parts.head) (flat_map nodes_in_cond b.parts.conds.items) (flat-in nodes_in_cond x y b.parts.conds.items j k)))
        (all-in single_free_cond x b.parts.conds.items no-single.1 j) (sym (cond-is bs f false x) ∙ h)

    cond-s : (x : Cond) → In x taken → cond_free bs f false x ≡ true → cond_free hs gs false x ≡ true
    cond-s x j h = cond-is hs gs false x ∙ same-cond (ef_of bs f) (ef_of hs gs) (cl_of bs f) (cl_of hs gs) (one_of bs f) (one_of hs gs) false false x
        (λ y k e. (
        let r = any-in (is_quant y.quant) ps (taken-columns x j y k) in
        let id = eqb-true r.0.id y.quant r.1.1 in
        let in-r : In r.0 b.quants = in-b-quants r.0 (inr (inl r.1.0)) in
        subst (λ z. error_free_under hs gs z y.place ≡ true) id (of-s r.0 r.1.0 y.place (sym (range-is bs root w (λ z. f.error_free z y.place) r.0 (b, (in-b, in-r))) ∙ ap (λ z. error_free_under bs f z y.place) id ∙ e))))
        (λ z k. absurd (taken-nodes x j z k))
        (all-in single_free_cond x b.parts.conds.items no-single.1 (in-conds x (inr j))) (sym (cond-is bs f false x) ∙ h)

    now-s : ((r : OwnedQuant) → In r ps → f.clean r.over ≡ true) → ((d : Cond) → In d taken → cond_free bs f false d ≡ true) → gs.clean s ≡ true
    now-s rows h = known-clean hs v.ordered gs closed s' in-s' (and_from (all_under_F gs.clean ps) (list_all (cond_free hs gs false) taken) (all-F-from gs.clean ps (λ r j e. c.clean r.over refl (rows r j))) (all-from (cond_free hs gs false) taken (λ d j. cond-s d j (h d j))))

    now-b : gs.clean s ≡ true → ((r : OwnedQuant) → In r b.quants → is_F r.kind ≡ true → f.clean r.over ≡ true) → list_all (cond_free bs f false) b.parts.conds.items ≡ true → gs.clean b.id ≡ true
    now-b t rows h = known-clean hs v.ordered gs closed b' in-b' (subst (λ (k : BoxKind). clean_by hs gs k b' ≡ true) (sym m.a_select)
        (and_from (all_under_F gs.clean (us ++ rq ∷ vs)) (list_all (cond_free hs gs false) (map (renamed_cond φ) rest))
        (all-F-from gs.clean (us ++ rq ∷ vs) (λ r j e. elim (in-append r us (rq ∷ vs) j) [
          | inl k ↦ c.clean r.over refl (rows r (in-b-quants r (inl k)) e)
          | inr k ↦ elim k [ inl z ↦ subst (λ (o : OwnedQuant). gs.clean o.over ≡ true) z t | inr k ↦ c.clean r.over refl (rows r (in-b-quants r (inr (inr k))) e) ]
        ]))
        (all-from (cond_free hs gs false) (map (renamed_cond φ) rest) (λ d j. (
        let x = in-map (renamed_cond φ) d rest j in
        subst (λ (z : Cond). cond_free hs gs false z ≡ true) x.1.1 (cond-b x.0 x.1.0 (all-in (cond_free bs f false) x.0 b.parts.conds.items h (in-conds x.0 (inl x.1.0)))))))))

    free-b : (k : ℕ) → at_place (is_free bs f false) b.parts.head k ≡ true → gs.error_free b.id k ≡ true
    free-b k h =
        let y = place-map (renamed φ) (is_free bs f false) (is_free hs gs false) b.parts.head k cell-b h in
        known-free hs v.ordered gs closed b' in-b' k
        (subst (λ (z : BoxKind). (nat_lt 0 k && nat_le k (width_by z (length b'.parts.head))) ≡ true) (sym m.a_select) (place-range (is_free hs gs false) b'.parts.head k y))
        (subst (λ (z : BoxKind). free_by hs gs z b' k ≡ true) (sym m.a_select) y)

  -- ---- all boxes after it

  covers-b : Covers bs hs fs gs always b
  covers-b = record {
    clean = λ k x h. (
        let e = and_parts (all_under_F bk.clean b.quants) (list_all (cond_free bs bk false) b.parts.conds.items) (subst (λ (z : BoxKind). clean_by bs bk z b ≡ true) m.a_select h) in
        let rows : (r : OwnedQuant) → In r b.quants → is_F r.kind ≡ true → bk.clean r.over ≡ true = λ r j f. all-F-at bk.clean b.quants r e.0 j f in
        now-b bk c (now-s bk c (λ r j. rows r (in-b-quants r (inr (inl j))) (m.rows r j)) (λ d j. all-in (cond_free bs bk false) d b.parts.conds.items e.1 (in-conds bk c d (inr j)))) rows e.1);
    error_free = λ j k x l h. free-b bk c j (subst (λ (z : BoxKind). free_by bs bk z b j ≡ true) m.a_select h);
  }
    where
      bk : Facts
      bk = back bs hs fs gs always

      c : Carried (back bs hs fs gs always) gs always
      c = back-carried bs hs fs gs always

  pub split-carried : Carried fs gs always
  split-carried = carries bs hs root w v sh always fs gs closed each (λ z x k. firm z x) tells (λ n j. elim (cases_Bool (n.id == b.id)) [
    | inl e ↦ inr (subst (Covers bs hs fs gs always) (same-box bs b n w.ordered in-b j (sym (eqb-true n.id b.id e))) covers-b)
    | inr e ↦ inr (moved-covers bs hs root w v always fs gs closed φ n (renamed_node φ n) (moved n j e) (λ r k. refl) (nodes-fit bs root sh n j) (single n j) refl (each n j).no_single (cols (back bs hs fs gs always) (back-carried bs hs fs gs always) n j))
  ])

  pub s-clean : gs.clean s ≡ true
  s-clean = now-s fs split-carried (λ r j. over-clean bs root w fs each b r in-b (in-b-quants r (inr (inl j)))) took

  settled-s : SettledBox hs gs root s'
  settled-s = settled-from hs gs root s' (or_right (s == root) (gs.clean s) s-clean)
      (all-from (calm_column hs gs s') (columns_of s') (λ y j. or_left (owns y.quant s') (error_free_under hs gs y.quant y.place) (closed-own hs root v s' in-s' (closed-looks hs root v s closed-s) y j)))
      (or_left true (calm_magic hs gs s') refl) (select-single hs root shh s' in-s' refl) (λ r j e. absurd (f-not-s r.kind (m.rows r j) e)) ones
    where
      closed-s : is_closed hs s ≡ true
      closed-s = looks-closed hs root v s (λ k. elim (cases_Bool (loose hs s k)) [
        | inr f ↦ f
        | inl e ↦ absurd (clash (split.look xs ys root b wide q s us ps vs rest taken w m s k) (looks.less xs ys root b wide q s us ps vs rest taken w m s k e) (split.look-none xs ys root b wide q s us ps vs rest taken w m s k (split.new-none xs ys root b wide q s us ps vs rest taken w m)))
      ])

  settled-b : SettledBox hs gs root b'
  settled-b = settled-from hs gs root b' below
      (all-from (calm_column hs gs b') (columns_of b') (λ y j. or_left (owns y.quant b') (error_free_under hs gs y.quant y.place) (closed-own hs root v b' in-b' (closed-looks hs root v b.id (closed-after b.id closed-b)) y j)))
      (or_left (not (is_magic b.parts.role)) (calm_magic hs gs b') (ap (λ z. not (is_magic z)) plain)) (select-single hs root shh b' in-b' m.a_select) scalars ones
    where
      below : clean_below hs gs root b' ≡ true
      below = elim (or_cases (b.id == root) (fs.clean b.id) (below-calm bs fs root b (each b in-b))) [
        | inl e ↦ or_left (b.id == root) (gs.clean b.id) e
        | inr e ↦ or_right (b.id == root) (gs.clean b.id) (split-carried.clean b.id refl e)
      ]

      scalars : (r : OwnedQuant) → In r (us ++ rq ∷ vs) → is_S r.kind ≡ true → IsFirm hs r.over
      scalars r j e = elim (in-append r us (rq ∷ vs) j) [
        | inl k ↦ firm r.over ((each b in-b).scalars r (in-b-quants r (inl k)) e)
        | inr k ↦ elim k [ inl z ↦ absurd (f-not-s rq.kind refl (ap (λ (o : OwnedQuant). is_S o.kind) z ∙ e)) | inr k ↦ firm r.over ((each b in-b).scalars r (in-b-quants r (inr (inr k))) e) ]
      ]

  settled-other : (n : Node) → In n bs → (n.id == b.id) ≡ false → SettledBox hs gs root (renamed_node φ n)
  settled-other n j e = moved-settled bs hs root w v always fs gs closed φ n (renamed_node φ n) (moved n j e) (λ r k. refl) (nodes-fit bs root sh n j) (single n j) refl split-carried (each n j)
      (λ r k t. firm r.over ((each n j).scalars r k t)) ones named
    where
      named : (y : Column) → In y (columns_of n) → (owns y.quant n || error_free_under bs fs y.quant y.place) ≡ true → (o : Column) → In o (columns_in (φ y.quant y.place)) → calm_column hs gs (renamed_node φ n) o ≡ true
      named y k h o l = elim (cases_Bool (list_any (is_quant y.quant) ps)) [
        | inl t ↦ (
            let r = any-in (is_quant y.quant) ps t in
            let id = eqb-true r.0.id y.quant r.1.1 in
            let in-r : In r.0 b.quants = in-b-quants r.0 (inr (inl r.1.0)) in
            let l' : In o (columns_in (col q (start ws y.quant + y.place))) = subst (λ z. In o (columns_in (cond z (col q (start ws y.quant + y.place)) (col y.quant y.place)))) (in-sizes wide ps y.quant ∙ t) l in
            elim (or_cases (owns y.quant n) (error_free_under bs fs y.quant y.place) h) [
              | inl x ↦ absurd (clash (n.id == b.id) (eq-eqb n.id b.id (ap (λ (z : Node). z.id) (one-owner bs root w y.quant n b j in-b x (any-from (is_quant y.quant) r.0 b.quants in-r r.1.1)))) e)
              | inr x ↦ or_right (owns o.quant n) (error_free_under hs gs o.quant o.place) (
                  let z = through-s fs split-carried n j y k r.0 r.1.0 id x in
                  elim l' [ inl a ↦ subst (λ (c : Column). error_free_under hs gs c.quant c.place ≡ true) a z | inr a ↦ elim a [ ] ])
            ])
        | inr t ↦ (
            let l' : In o (columns_in (col y.quant y.place)) = subst (λ z. In o (columns_in (cond z (col q (start ws y.quant + y.place)) (col y.quant y.place)))) (in-sizes wide ps y.quant ∙ t) l in
            let same : y ≡ o = elim l' [ inl a ↦ a | inr a ↦ elim a [ ] ] in
            subst (λ (c : Column). calm_column hs gs (renamed_node φ n) c ≡ true) same (elim (or_cases (owns y.quant n) (error_free_under bs fs y.quant y.place) h) [
              | inl x ↦ or_left (owns y.quant n) (error_free_under hs gs y.quant y.place) x
              | inr x ↦ or_right (owns y.quant n) (error_free_under hs gs y.quant y.place) (beside fs split-carried n j y k x)
            ]))
      ]

  pub split-settled : (n : Node) → In n hs → SettledBox hs gs root n
  split-settled n j = elim (split.in-hs xs ys root b wide q s us ps vs rest taken w m n j) [
    | inr e ↦ subst (SettledBox hs gs root) e settled-s
    | inl x ↦ subst (SettledBox hs gs root) x.1.1 (elim (cases_Bool (x.0.id == b.id)) [
      | inl e ↦ subst (λ (z : Node). SettledBox hs gs root (G z)) (same-box bs b x.0 w.ordered in-b x.1.0 (sym (eqb-true x.0.id b.id e))) (subst (SettledBox hs gs root) (sym g-b) settled-b)
      | inr e ↦ subst (SettledBox hs gs root) (sym (g-other x.0 e)) (settled-other x.0 x.1.0 e)
    ])
  ]
