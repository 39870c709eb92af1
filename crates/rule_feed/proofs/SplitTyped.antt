-- A split keeps types.
use Rattle.std.proofs.Common.{ℕ, zero, suc, ◌==◌, ◌≡◌, ◌&&◌, ◌||◌, ◌+◌, ◌-◌, ◌≤◌, ◌<◌, cond, Bool, true, false, List, [], ◌∷◌, ◌++◌, map, length, Option, Some, None, refl, sym, ap, ap₂, subst, ◌∙◌, eqb-true, inl, inr, arith}
use Rattle.std.specs.Prelude.{slice_get}
use Rattle.std.specs.List.{list_all, list_any}
use Rattle.std.proofs.lemmas.Bool.{and_from, and_parts, cases_Bool, or_from, or_left, or_parts, or_right}
use Rattle.sql_value.specs.declared.order_key.SqlType.{SqlType}
use Rattle.qgm_core.specs.Boxes.{has_box, is_quant, width}
use Rattle.qgm_core.specs.Edits.{range}
use Rattle.list_laws.specs.Lists.{In}
use Rattle.qgm_core.specs.declared.kinds.BoxKind.{BoxKind}
use Rattle.qgm_core.specs.declared.kinds.BoxKind.TheVariants.{Base, Select, Group, SetOp, OuterJoin}
use Rattle.qgm_core.specs.declared.kinds.QuantKind.TheVariants.{F}
use Rattle.qgm_core.specs.declared.node.Node.{Node}
use Rattle.qgm_core.specs.declared.owned.OwnedQuant.{OwnedQuant}
use Rattle.qgm_meaning.specs.Searches.{binds, binds_cond, looking, names, names_cond}
use Rattle.qgm_meaning.specs.Tags.{columns_from}
use Rattle.qgm_terms.specs.Terms as t
use Rattle.qgm_terms.specs.Terms.{Arms, Cond, Term, col}
use Rattle.qgm_terms.specs.Wanted.{any_in, any_in_arms, any_in_cond}
use Rattle.qgm_wellformed.specs.Columns.{box_under}
use Rattle.qgm_wellformed.specs.Types.{Lookup, agree, aggregate_type, all_agree, arm_agrees, arms_agree, arms_fit, cond_fits, integer_if, is_integer, is_known, joined_column, known, lookup_of, op_type, sign_fits, term_type, type_if, types_by, types_of}
use Rattle.qgm_edit_laws.specs.FormedAdds.{of_column, types_asked}
use Rattle.qgm_edit_laws.specs.Graph.{Sound}
use Rattle.qgm_edit_laws.specs.Shaped.{Typed}
use Rattle.qgm_edit_laws.proofs.AnyPut.{conds-more, conds-names, heads-more, heads-names}
use Rattle.qgm_edit_laws.proofs.Edits.{map-append}
use Rattle.qgm_edit_laws.proofs.Follow.{all-alike, settled-types, types_at}
use Rattle.qgm_edit_laws.proofs.InterposedForms.{asked-named}
use Rattle.qgm_edit_laws.proofs.PairLocal.{cond-pair}
use Rattle.qgm_edit_laws.proofs.Ranks.{has-in, same-box}
use Rattle.qgm_edit_laws.proofs.Read.{column-named, columns-found, is_at, unbound-reads}
use Rattle.qgm_edit_laws.proofs.Reformed.{wide-types}
use Rattle.qgm_edit_laws.proofs.ShapedPut.{all-joined, all-parts}
use Rattle.qgm_edit_laws.proofs.TypedKept.{Ranging, found, found-under}
use Rattle.qgm_edit_laws.proofs.PutTypes.{all-put}
use Rattle.qgm_edit_laws.proofs.HeadTypes.{type-of}
use Rattle.qgm_edit_laws.proofs.TypesBy.{Types, agrees_by, arms_by, found_by, looked, typed-by, via}
use Rattle.rule_feed.specs.Split.{MaySplitSound, SplitTyped, heads, into, renamed, renamed_arms, renamed_cond, renamed_node, sizes_of, split_box, split_boxes, split_node, split_owner, start}
use Rattle.rule_feed.proofs.FeedTypes.{Ts, get-before, get-behind, known-at, known-by, known-map}
use Rattle.rule_feed.proofs.SplitReads.{in-sizes, size, size-of}
use Rattle.rule_feed.proofs.SplitSound as split
use Rattle.qgm_core.proofs.Reaching.{in-has, overs-held}
use Rattle.list_laws.proofs.Membership.{any-from, eq-false-sym, eq-itself, in-append, in-left, in-right, map-in, other}
use Rattle.list_laws.proofs.Booleans.{clash}

-- a search for column j of r, and one for a scalar of r
abbrev pub at_t : ℕ → ℕ → Term → Bool
at_t r j = any_in (looking (λ q k. (q == r) && (k == j)) (λ q. false) (λ q. false) (λ q. true))

abbrev pub at_s : ℕ → ℕ → Arms → Bool
at_s r j = any_in_arms (looking (λ q k. (q == r) && (k == j)) (λ q. false) (λ q. false) (λ q. true))

abbrev pub at_c : ℕ → ℕ → Cond → Bool
at_c r j = any_in_cond (looking (λ q k. (q == r) && (k == j)) (λ q. false) (λ q. false) (λ q. true))

abbrev pub of_t : ℕ → Term → Bool
of_t r = any_in (looking (λ q k. false) (λ q. q == r) (λ q. false) (λ q. true))

abbrev pub of_s : ℕ → Arms → Bool
of_s r = any_in_arms (looking (λ q k. false) (λ q. q == r) (λ q. false) (λ q. true))

abbrev pub of_c : ℕ → Cond → Bool
of_c r = any_in_cond (looking (λ q k. false) (λ q. q == r) (λ q. false) (λ q. true))

module _ (at now : Lookup) (f : ℕ → ℕ → Term) where
  mutual
    pub term-renamed : (x : Term) → ((r j : ℕ) → at_t r j x ≡ true → term_type now (f r j) ≡ at r j) → ((r : ℕ) → of_t r x ≡ true → now r 1 ≡ at r 1) → term_type now (renamed f x) ≡ term_type at x
    term-renamed (t.int m) h c = refl
    term-renamed (t.text s) h c = refl
    term-renamed t.null_int h c = refl
    term-renamed t.null_text h c = refl
    term-renamed (t.col r j) h c = h r j (and_from (r == r) (j == j) (eq-itself r) (eq-itself j))
    term-renamed (t.scalar r) h c = c r (eq-itself r)
    term-renamed (t.both op x y) h c = ap₂ (op_type op) (term-renamed x (λ r j i. h r j (or_left (at_t r j x) (at_t r j y) i)) (λ r i. c r (or_left (of_t r x) (of_t r y) i))) (term-renamed y (λ r j i. h r j (or_right (at_t r j x) (at_t r j y) i)) (λ r i. c r (or_right (of_t r x) (of_t r y) i)))
    term-renamed (t.minus_of x) h c = ap (λ z. integer_if (is_integer z)) (term-renamed x h c)
    term-renamed (t.choose s x) h c =
        let e = term-renamed x (λ r j i. h r j (or_right (at_s r j s) (at_t r j x) i)) (λ r i. c r (or_right (of_s r s) (of_t r x) i)) in
        ap₂ type_if (arms-renamed s (λ r j i. h r j (or_left (at_s r j s) (at_t r j x) i)) (λ r i. c r (or_left (of_s r s) (of_t r x) i)) (term_type now (renamed f x)) (term_type at x) e) e
    term-renamed t.count_all h c = refl
    term-renamed (t.fold a e x) h c = ap (aggregate_type a) (term-renamed x h c)

    arms-renamed : (s : Arms) → ((r j : ℕ) → at_s r j s ≡ true → term_type now (f r j) ≡ at r j) → ((r : ℕ) → of_s r s ≡ true → now r 1 ≡ at r 1) → (a b : Option SqlType) → a ≡ b → arms_fit now a (renamed_arms f s) ≡ arms_fit at b s
    arms-renamed t.no_arm h c a b e = refl
    arms-renamed (t.arm d x s) h c a b e =
        ap₂ ◌&&◌ (cond-renamed d (λ r j i. h r j (or_left (at_c r j d) (at_t r j x || at_s r j s) i)) (λ r i. c r (or_left (of_c r d) (of_t r x || of_s r s) i)))
        (ap₂ ◌&&◌ (ap₂ agree (term-renamed x (λ r j i. h r j (or_right (at_c r j d) (at_t r j x || at_s r j s) (or_left (at_t r j x) (at_s r j s) i))) (λ r i. c r (or_right (of_c r d) (of_t r x || of_s r s) (or_left (of_t r x) (of_s r s) i)))) e)
        (arms-renamed s (λ r j i. h r j (or_right (at_c r j d) (at_t r j x || at_s r j s) (or_right (at_t r j x) (at_s r j s) i))) (λ r i. c r (or_right (of_c r d) (of_t r x || of_s r s) (or_right (of_t r x) (of_s r s) i))) a b e))

    pub cond-renamed : (d : Cond) → ((r j : ℕ) → at_c r j d ≡ true → term_type now (f r j) ≡ at r j) → ((r : ℕ) → of_c r d ≡ true → now r 1 ≡ at r 1) → cond_fits now (renamed_cond f d) ≡ cond_fits at d
    cond-renamed t.always h c = refl
    cond-renamed (t.compare sign x y) h c = ap₂ (sign_fits sign) (term-renamed x (λ r j i. h r j (or_left (at_t r j x) (at_t r j y) i)) (λ r i. c r (or_left (of_t r x) (of_t r y) i))) (term-renamed y (λ r j i. h r j (or_right (at_t r j x) (at_t r j y) i)) (λ r i. c r (or_right (of_t r x) (of_t r y) i)))
    cond-renamed (t.is_null x) h c = ap is_known (term-renamed x h c)
    cond-renamed (t.and x y) h c = ap₂ ◌&&◌ (cond-renamed x (λ r j i. h r j (or_left (at_c r j x) (at_c r j y) i)) (λ r i. c r (or_left (of_c r x) (of_c r y) i))) (cond-renamed y (λ r j i. h r j (or_right (at_c r j x) (at_c r j y) i)) (λ r i. c r (or_right (of_c r x) (of_c r y) i)))
    cond-renamed (t.or x y) h c = ap₂ ◌&&◌ (cond-renamed x (λ r j i. h r j (or_left (at_c r j x) (at_c r j y) i)) (λ r i. c r (or_left (of_c r x) (of_c r y) i))) (cond-renamed y (λ r j i. h r j (or_right (at_c r j x) (at_c r j y) i)) (λ r i. c r (or_right (of_c r x) (of_c r y) i)))
    cond-renamed (t.not x) h c = cond-renamed x h c
    cond-renamed (t.some r x) h c = cond-renamed x h c
    cond-renamed (t.every r x) h c = cond-renamed x h c

columns-same : (at now : Lookup) (r : ℕ) → ((j : ℕ) → now r j ≡ at r j) → (k w : ℕ) → map (term_type now) (columns_from r k w) ≡ map (term_type at) (columns_from r k w)
columns-same at now r h k zero = refl
columns-same at now r h k (suc w) = ap₂ (λ (y : Option SqlType) (ys : Ts). y ∷ ys) (h k) (columns-same at now r h (suc k) w)

columns-known : (at : Lookup) (r k w : ℕ) → ((m z : ℕ) → z ≡ m + k → m < w → is_known (at r z) ≡ true) → list_all is_known (map (term_type at) (columns_from r k w)) ≡ true
columns-known at r k zero h = refl
columns-known at r k (suc w) h = and_from (is_known (at r k)) (list_all is_known (map (term_type at) (columns_from r (suc k) w))) (h zero k (omega arith) (omega arith)) (columns-known at r (suc k) w (λ m z e o. h (suc m) z (omega (arith, e)) (omega (arith, o))))

columns-get : (at : Lookup) (r k w m z : ℕ) → z ≡ m + k → m < w → slice_get (map (term_type at) (columns_from r k w)) m ≡ Some (at r z)
columns-get at r k zero m z e o = absurd (omega arith)
columns-get at r k (suc w) zero z e o = ap (λ j. Some (at r j)) (let h : k ≡ z = omega (arith, e) in h)
columns-get at r k (suc w) (suc m) z e o = columns-get at r (suc k) w m z (omega (arith, e)) (omega (arith, o))

columns-length : (at : Lookup) (q k w : ℕ) → length (map (term_type at) (columns_from q k w)) ≡ w
columns-length at q k zero = refl
columns-length at q k (suc w) = ap suc (columns-length at q (suc k) w)

-- column m + 1 of r stands at its place
start-type : (at : Lookup) (ws : List (ℕ × ℕ)) (r m z : ℕ) → list_any (λ p. p.0 == r) ws ≡ true → m < size ws r → z ≡ start ws r + m → slice_get (map (term_type at) (heads ws)) z ≡ Some (at r (suc m))
start-type at [] r m z h o e = absurd (let z : ⊥ = cc in z)
start-type at (p ∷ ws) r m z h o e =
    let l = columns-length at p.0 1 p.1 in
    ap (λ (ts : Ts). slice_get ts z) (map-append (term_type at) (columns_from p.0 1 p.1) (heads ws)) ∙ (elim (cases_Bool (p.0 == r)) [
      | inl t ↦ (
          let u : cond (p.0 == r) 0 (p.1 + start ws r) ≡ 0 = ap (λ b. cond b 0 (p.1 + start ws r)) t in
          let v : cond (p.0 == r) p.1 (size ws r) ≡ p.1 = ap (λ b. cond b p.1 (size ws r)) t in
          let zm : z ≡ m = omega (arith, e, u) in
          get-before (map (term_type at) (columns_from p.0 1 p.1)) (map (term_type at) (heads ws)) z (omega (arith, o, v, zm, l))
          ∙ ap (slice_get (map (term_type at) (columns_from p.0 1 p.1))) zm ∙ columns-get at p.0 1 p.1 m (suc m) (omega arith) (omega (arith, o, v)) ∙ ap (λ k. Some (at k (suc m))) (eqb-true p.0 r t))
      | inr t ↦ (
          let u : cond (p.0 == r) 0 (p.1 + start ws r) ≡ p.1 + start ws r = ap (λ b. cond b 0 (p.1 + start ws r)) t in
          let v : cond (p.0 == r) p.1 (size ws r) ≡ size ws r = ap (λ b. cond b p.1 (size ws r)) t in
          get-behind (map (term_type at) (columns_from p.0 1 p.1)) (map (term_type at) (heads ws)) (start ws r + m) z (omega (arith, e, u, l))
          ∙ start-type at ws r m (start ws r + m) (sym (ap (λ b. b || list_any (λ (p : ℕ × ℕ). p.0 == r) ws) t) ∙ h) (omega (arith, o, v)) refl)
    ])

module _ (xs ys : List Node) (root : ℕ) (b : Node) (wide : OwnedQuant → ℕ) (q s : ℕ) (us ps vs : List OwnedQuant) (rest taken : List Cond) (w : Sound (xs ++ ys) root) (ty : Typed (xs ++ ys)) (m : MaySplitSound xs ys b wide q s us ps vs rest taken) where
  abbrev pub bs : List Node
  bs = xs ++ ys

  abbrev ws : List (ℕ × ℕ)
  ws = sizes_of wide ps

  abbrev rq : OwnedQuant
  rq = range q F s

  abbrev f : ℕ → ℕ → Term
  f = into ws q

  abbrev g : Node → Node
  g = split_node ws b.id q us (rq ∷ vs) rest

  abbrev b' : Node
  b' = split_owner ws q us (rq ∷ vs) rest b

  abbrev s' : Node
  s' = split_box s ws ps taken

  abbrev pub hs : List Node
  hs = split_boxes xs ys ws b.id q s us ps vs rest taken

  abbrev P : ℕ → Bool
  P k = list_any (is_quant k) ps

  in-b : In b bs
  in-b = in-left b xs ys m.above

  pub after : Sound hs root
  after = split.sound-after xs ys root b wide q s us ps vs rest taken w m

  id : (y : Node) → (g y).id ≡ y.id
  id = split.id xs ys root b wide q s us ps vs rest taken w m

  pub g-in : (y : Node) → In y bs → In (g y) hs
  g-in y j = elim (in-append y xs ys j) [
    | inl a ↦ in-left (g y) (map g xs) (s' ∷ map g ys) (map-in g y xs a)
    | inr a ↦ in-right (g y) (map g xs) (s' ∷ map g ys) (inr (map-in g y ys a))
  ]

  pub s-in : In s' hs
  s-in = in-right s' (map g xs) (s' ∷ map g ys) (inl refl)

  -- ---- the box under a quantifier

  abbrev pub Owner : OwnedQuant → Type 0
  Owner r = (o : Node) × (In o hs × In r o.quants)

  b-in : (r : OwnedQuant) → In r (us ++ rq ∷ vs) → Owner r
  b-in r j = (g b, (g-in b in-b, subst (λ z. In r z) (sym (split.quants-b xs ys root b wide q s us ps vs rest taken w m)) j))

  pub owner-of : (y : Node) → In y bs → (r : OwnedQuant) → In r y.quants → Owner r
  owner-of y j r k = elim (cases_Bool (y.id == b.id)) [
    | inr t ↦ (g y, (g-in y j, subst (λ z. In r z) (sym (split.quants-same xs ys root b wide q s us ps vs rest taken w m y t)) k))
    | inl t ↦ (
        let e : b ≡ y = same-box bs b y w.ordered in-b j (sym (eqb-true y.id b.id t)) in
        elim (in-append r us (ps ++ vs) (subst (λ z. In r z) m.quants (subst (λ (z : Node). In r z.quants) (sym e) k))) [
          | inl a ↦ b-in r (in-left r us (rq ∷ vs) a)
          | inr a ↦ elim (in-append r ps vs a) [ inl o ↦ (s', (s-in, o)) | inr o ↦ b-in r (in-right r us (rq ∷ vs) (inr o)) ]
        ])
  ]

  pub under-old : (k : ℕ) → (u : Ranging bs k) → box_under hs k ≡ Some (g u.box)
  under-old k u =
      let o = owner-of u.owner u.owner_in u.quant u.quant_in in
      found-under hs root after k (record { owner = o.0; quant = u.quant; box = g u.box; owner_in = o.1.0; quant_in = o.1.1; is_q = u.is_q; box_in = g-in u.box u.box_in; is_over = id u.box ∙ u.is_over })

  pub under-q : box_under hs q ≡ Some s'
  under-q = let o = b-in rq (in-right rq us (rq ∷ vs) (inl refl)) in found-under hs root after q (record { owner = o.0; quant = rq; box = s'; owner_in = o.1.0; quant_in = o.1.1; is_q = refl; box_in = s-in; is_over = refl })

  -- ---- types of columns

  abbrev L : Lookup
  L = lookup_of bs

  abbrev TS : Ts
  TS = map (term_type L) (heads ws)

  abbrev T : Types
  T z = cond (z == s) TS (types_at bs z)

  abbrev N : Lookup
  N = via T hs

  T-s : T s ≡ TS
  T-s = ap (λ t. cond t TS (types_at bs s)) (eq-itself s)

  T-old : (y : Node) → In y bs → T y.id ≡ types_at bs y.id
  T-old y j = ap (λ t. cond t TS (types_at bs y.id)) (eq-false-sym s y.id (other (has_box bs) s y.id m.new_s (in-has y bs j)))

  abbrev entry : Ts → ℕ → Option SqlType
  entry ts k = cond (k == 0) None (joined_column (slice_get ts (k - 1)))

  entry-suc : (ts : Ts) (k : ℕ) → entry ts (suc k) ≡ joined_column (slice_get ts k)
  entry-suc ts k = type-of k (Some (record { id = 0; types = ts }))

  L-by : (k l : ℕ) (u : Ranging bs k) → L k l ≡ entry (types_at bs u.box.id) l
  L-by k l u = looked bs k l ∙ ap (found_by (types_at bs) l) (found-under bs root w k u)

  N-old : (k l : ℕ) → Ranging bs k → N k l ≡ L k l
  N-old k l u = ap (found_by T l) (under-old k u) ∙ ap (λ t. entry t l) (ap T (id u.box) ∙ T-old u.box u.box_in) ∙ sym (L-by k l u)

  N-q : (l : ℕ) → N q l ≡ entry TS l
  N-q l = ap (found_by T l) under-q ∙ ap (λ t. entry t l) T-s

  pub found-P : (r : OwnedQuant) → In r ps → Ranging bs r.id
  found-P r j =
      let o = has-in r.over ys (m.below r j) in
      record { owner = b; quant = r; box = o.0; owner_in = in-b; quant_in = split.old-quant xs ys root b wide q s us ps vs rest taken w m r (inr (inl j)); is_q = refl; box_in = in-right o.0 xs ys o.1.0; is_over = o.1.1 }

  pub wide-P : (r : OwnedQuant) (j : In r ps) → wide r ≡ width (found-P r j).box
  unfolding found-P
  wide-P r j = m.widths r (found-P r j).box j (found-P r j).box_in (found-P r j).is_over

  -- a column of these is a column of q
  moved : (r j : ℕ) → P r ≡ true → 1 ≤ j → j ≤ size ws r → N q (start ws r + j) ≡ L r j
  moved r zero h a o = absurd (omega (arith, a))
  moved r (suc j) h a o =
      ap (N q) (let e : start ws r + suc j ≡ suc (start ws r + j) = omega arith in e) ∙ N-q (suc (start ws r + j)) ∙ entry-suc TS (start ws r + j)
      ∙ ap joined_column (start-type L ws r j (start ws r + j) (in-sizes wide ps r ∙ h) (omega (arith, o)) refl)

  -- ---- the boxes that stood

  arms-T : (k : BoxKind) (rs : List OwnedQuant) → ((r : OwnedQuant) → In r rs → (u : Node) × (In u bs × (u.id ≡ r.over))) → arms_by T k rs ≡ arms_agree (types_of bs) k rs
  arms-T (Base f) rs h = refl
  arms-T Select rs h = refl
  arms-T (Group k) rs h = refl
  arms-T (SetOp form types) rs h = all-alike (λ r. all_agree (T r.over) (known types)) (arm_agrees (types_of bs) types) rs (λ r j. (let u = h r j in ap (λ z. all_agree z (known types)) (ap T (sym u.1.1) ∙ T-old u.0 u.1.0 ∙ ap (types_at bs) u.1.1)))
  arms-T OuterJoin rs h = refl

  over-old : (y : Node) → In y bs → (r : OwnedQuant) → In r y.quants → (u : Node) × (In u bs × (u.id ≡ r.over))
  over-old y j r k = let u = has-in r.over bs (overs-held bs y r w.ordered j k) in (u.0, (u.1.0, u.1.1))

  none : (a c : Bool) → c ≡ false → (a ≡ true → c ≡ true) → a ≡ false
  none a c f g = elim (cases_Bool a) [ inr e ↦ e | inl e ↦ absurd (clash c (g e) f) ]

  module _ (y : Node) (j : In y bs) where
    column-good : (r l : ℕ) → list_any (is_at r l) (Rattle.qgm_wellformed.specs.Columns.columns_of y) ≡ true → term_type N (f r l) ≡ L r l
    unfolding found-P
    column-good r l h = elim (cases_Bool (P r)) [
      | inr t ↦ ap (λ z. term_type N (cond z (col q (start ws r + l)) (col r l))) (in-sizes wide ps r ∙ t) ∙ N-old r l (found bs root w y j r (column-named r l y h))
      | inl t ↦ (
          let nod = or_parts (list_any (names r) y.parts.head) (list_any (names_cond r) y.parts.conds.items) (split.nodes-none xs ys root b wide q s us ps vs rest taken w m y j r t) in
          let rd = unbound-reads r l y (or_from (list_any (binds r) y.parts.head) (list_any (binds_cond r) y.parts.conds.items) (none (list_any (binds r) y.parts.head) (list_any (names r) y.parts.head) nod.0 (heads-names r y.parts.head)) (none (list_any (binds_cond r) y.parts.conds.items) (list_any (names_cond r) y.parts.conds.items) nod.1 (conds-names r y.parts.conds.items))) h in
          let z = size-of wide ps r t in
          let u = found-P z.0 z.1.0 in
          let fit = w.fits y j r l rd b z.0 u.box in-b u.quant_in z.1.1.0 u.box_in u.is_over in
          let wd = m.widths z.0 u.box z.1.0 u.box_in u.is_over in
          let sz = z.1.1.1 in
          let hi = fit.1 in
          ap (λ z. term_type N (cond z (col q (start ws r + l)) (col r l))) (in-sizes wide ps r ∙ t) ∙ moved r l t fit.0 (omega (arith, hi, wd, sz)))
    ]

    scalar-good : (r : ℕ) → types_asked r 1 y ≡ true → N r 1 ≡ L r 1
    scalar-good r h = N-old r 1 (found bs root w y j r (asked-named r 1 y h))

    cell-same : (e : Term) → In e y.parts.head → term_type N (renamed f e) ≡ term_type L e
    cell-same e k = term-renamed L N f e
        (λ r l h. column-good r l (columns-found r l y ∙ or_left (list_any (at_t r l) y.parts.head) (list_any (at_c r l) y.parts.conds.items) (any-from (at_t r l) e y.parts.head k h)))
        (λ r h. scalar-good r (or_left (list_any (any_in (of_column r 1)) y.parts.head) (list_any (any_in_cond (of_column r 1)) y.parts.conds.items) (heads-more (λ q k. false) (λ q k. (q == r) && (k == 1)) (λ q. q == r) (λ q. (q == r) && (1 == 1)) (λ q. false) (λ q. false) (λ q. true) (λ q. true) (λ q k e. absurd (let z : ⊥ = cc in z)) (λ q e. and_from (q == r) (1 == 1) e refl) (λ q e. e) (λ q e. e) y.parts.head (any-from (of_t r) e y.parts.head k h))))

    cond-same : (e : Cond) → In e y.parts.conds.items → cond_fits N (renamed_cond f e) ≡ cond_fits L e
    cond-same e k = cond-renamed L N f e
        (λ r l h. column-good r l (columns-found r l y ∙ or_right (list_any (at_t r l) y.parts.head) (list_any (at_c r l) y.parts.conds.items) (any-from (at_c r l) e y.parts.conds.items k h)))
        (λ r h. scalar-good r (or_right (list_any (any_in (of_column r 1)) y.parts.head) (list_any (any_in_cond (of_column r 1)) y.parts.conds.items) (conds-more (λ q k. false) (λ q k. (q == r) && (k == 1)) (λ q. q == r) (λ q. (q == r) && (1 == 1)) (λ q. false) (λ q. false) (λ q. true) (λ q. true) (λ q k e. absurd (let z : ⊥ = cc in z)) (λ q e. and_from (q == r) (1 == 1) e refl) (λ q e. e) (λ q e. e) y.parts.conds.items (any-from (of_c r) e y.parts.conds.items k h))))

    heads-same : (es : List Term) → ((e : Term) → In e es → In e y.parts.head) → map (term_type N) (map (renamed f) es) ≡ map (term_type L) es
    heads-same [] sub = refl
    heads-same (e ∷ es) sub = ap₂ (λ (y : Option SqlType) (ys : Ts). y ∷ ys) (cell-same e (sub e (inl refl))) (heads-same es (λ z k. sub z (inr k)))

    types-same : (k : BoxKind) → types_by N k (map (renamed f) y.parts.head) ≡ types_by L k y.parts.head
    types-same (Base table) = refl
    types-same Select = heads-same y.parts.head (λ e k. k)
    types-same (Group keys) = heads-same y.parts.head (λ e k. k)
    types-same (SetOp operator types) = refl
    types-same OuterJoin = heads-same y.parts.head (λ e k. k)

    own-old : T y.id ≡ types_by N y.parts.kind (map (renamed f) y.parts.head)
    own-old = T-old y j ∙ settled-types bs root w y j ∙ sym (types-same y.parts.kind)

    old-parts : (list_all (λ x. is_known (term_type L x)) y.parts.head ≡ true) × ((list_all (cond_fits L) y.parts.conds.items ≡ true) × (arms_agree (types_of bs) y.parts.kind y.quants ≡ true))
    old-parts =
        let a = and_parts (list_all (λ x. is_known (term_type L x)) y.parts.head) (list_all (cond_fits L) y.parts.conds.items && arms_agree (types_of bs) y.parts.kind y.quants) (ty y j) in
        (a.0, and_parts (list_all (cond_fits L) y.parts.conds.items) (arms_agree (types_of bs) y.parts.kind y.quants) a.1)

    known-head : list_all (λ x. is_known (term_type N x)) (map (renamed f) y.parts.head) ≡ true
    known-head = all-put (λ x. is_known (term_type N x)) (λ x. is_known (term_type L x)) (renamed f) y.parts.head (λ e k. ap is_known (cell-same e k)) ∙ old-parts.0

    other-agrees : agrees_by N T (renamed_node f y) ≡ true
    other-agrees =
        and_from (list_all (λ x. is_known (term_type N x)) (map (renamed f) y.parts.head)) (list_all (cond_fits N) (map (renamed_cond f) y.parts.conds.items) && arms_by T y.parts.kind y.quants) known-head
        (and_from (list_all (cond_fits N) (map (renamed_cond f) y.parts.conds.items)) (arms_by T y.parts.kind y.quants) (all-put (cond_fits N) (cond_fits L) (renamed_cond f) y.parts.conds.items cond-same ∙ old-parts.1.0) (arms-T y.parts.kind y.quants (over-old y j) ∙ old-parts.1.1))

  -- ---- b, and the new box

  b-conds : (list_all (cond_fits L) rest ≡ true) × (list_all (cond_fits L) taken ≡ true)
  b-conds = parts rest taken (sym (ap (list_all (cond_fits L)) m.conds) ∙ (old-parts b in-b).1.0)
    where
      parts : (cs ds : List Cond) → list_all (cond_fits L) (cs ++ ds) ≡ true → (list_all (cond_fits L) cs ≡ true) × (list_all (cond_fits L) ds ≡ true)
      parts cs ds h = all-parts (cond_fits L) cs ds h

  b-agrees : agrees_by N T b' ≡ true
  b-agrees =
      and_from (list_all (λ x. is_known (term_type N x)) (map (renamed f) b.parts.head)) (list_all (cond_fits N) (map (renamed_cond f) rest) && arms_by T b.parts.kind (us ++ rq ∷ vs)) (known-head b in-b)
      (and_from (list_all (cond_fits N) (map (renamed_cond f) rest)) (arms_by T b.parts.kind (us ++ rq ∷ vs))
      (all-put (cond_fits N) (cond_fits L) (renamed_cond f) rest (λ e k. cond-same b in-b e (subst (λ z. In e z) (sym m.conds) (in-left e rest taken k))) ∙ b-conds.0)
      (ap (λ k. arms_by T k (us ++ rq ∷ vs)) m.a_select))

  heads-types : (rs : List OwnedQuant) → ((r : OwnedQuant) → In r rs → In r ps) → map (term_type N) (heads (sizes_of wide rs)) ≡ map (term_type L) (heads (sizes_of wide rs))
  heads-types [] sub = refl
  heads-types (r ∷ rs) sub =
      map-append (term_type N) (columns_from r.id 1 (wide r)) (heads (sizes_of wide rs))
      ∙ ap₂ (λ (y z : Ts). y ++ z) (columns-same L N r.id (λ j. N-old r.id j (found-P r (sub r (inl refl)))) 1 (wide r)) (heads-types rs (λ z k. sub z (inr k)))
      ∙ sym (map-append (term_type L) (columns_from r.id 1 (wide r)) (heads (sizes_of wide rs)))

  known-boxes : (y : Node) → In y bs → list_all is_known (types_at bs y.id) ≡ true
  known-boxes y j = ap (list_all is_known) (settled-types bs root w y j) ∙ known-by L y.parts.kind y.parts.head (old-parts y j).0

  known-P : (r : OwnedQuant) → In r ps → (l z : ℕ) → z ≡ l + 1 → l < wide r → is_known (L r.id z) ≡ true
  unfolding found-P
  known-P r j l zero e o = absurd (omega (arith, e))
  known-P r j l (suc z) e o =
      let u = found-P r j in
      let a = wide-types bs root w u.box u.box_in in
      let wd = m.widths r u.box j u.box_in u.is_over in
      ap is_known (L-by r.id (suc z) u ∙ entry-suc (types_at bs u.box.id) z) ∙ known-at (types_at bs u.box.id) z (known-boxes u.box u.box_in) (omega (arith, e, o, a, wd))

  heads-known : (rs : List OwnedQuant) → ((r : OwnedQuant) → In r rs → In r ps) → list_all is_known (map (term_type L) (heads (sizes_of wide rs))) ≡ true
  heads-known [] sub = refl
  heads-known (r ∷ rs) sub =
      ap (list_all is_known) (map-append (term_type L) (columns_from r.id 1 (wide r)) (heads (sizes_of wide rs)))
      ∙ all-joined is_known (map (term_type L) (columns_from r.id 1 (wide r))) (map (term_type L) (heads (sizes_of wide rs))) (columns-known L r.id 1 (wide r) (known-P r (sub r (inl refl)))) (heads-known rs (λ z k. sub z (inr k)))

  s-agrees : agrees_by N T s' ≡ true
  s-agrees =
      and_from (list_all (λ x. is_known (term_type N x)) (heads ws)) (list_all (cond_fits N) taken && true)
      (sym (known-map N (heads ws)) ∙ ap (list_all is_known) (heads-types ps (λ r j. j)) ∙ heads-known ps (λ r j. j))
      (and_from (list_all (cond_fits N) taken) true
      (all-alike (cond_fits N) (cond_fits L) taken (λ e k. cond-pair N L e (λ r l h. N-old r l (found bs root w b in-b r (asked-named r l b (or_right (list_any (any_in (of_column r l)) b.parts.head) (list_any (any_in_cond (of_column r l)) b.parts.conds.items) (any-from (any_in_cond (of_column r l)) e b.parts.conds.items (subst (λ z. In e z) (sym m.conds) (in-right e rest taken k)) h)))))) ∙ b-conds.1)
      refl)

  own : (z : Node) → In z hs → T z.id ≡ types_by N z.parts.kind z.parts.head
  own = split.each xs ys root b wide q s us ps vs rest taken w m (λ z. T z.id ≡ types_by N z.parts.kind z.parts.head) (own-old b in-b) (λ y j nob. own-old y j) (T-s ∙ sym (heads-types ps (λ r j. j)))

  agrees : (z : Node) → In z hs → agrees_by N T z ≡ true
  agrees = split.each xs ys root b wide q s us ps vs rest taken w m (λ z. agrees_by N T z ≡ true) b-agrees (λ y j nob. other-agrees y j) s-agrees

  pub typed-after : Typed hs
  typed-after = typed-by hs root after T own agrees

pub split-typed : SplitTyped
split-typed = λ xs ys root b wide q s us ps vs rest taken w ty m. typed-after xs ys root b wide q s us ps vs rest taken w ty m
