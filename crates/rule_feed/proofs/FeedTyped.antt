-- Feeding keeps types.
use Rattle.std.proofs.Common.{ℕ, zero, suc, ◌==◌, ◌≡◌, ◌&&◌, ◌+◌, ◌-◌, ◌≤◌, ◌<◌, cond, Bool, true, false, List, [], ◌∷◌, ◌++◌, map, length, Option, Some, None, refl, sym, ap, ap₂, subst, ◌∙◌, eqb-true, inl, inr, arith}
use Rattle.std.specs.Prelude.{slice_get}
use Rattle.std.specs.List.{list_all, list_any}
use Rattle.std.proofs.lemmas.Bool.{and_from, and_parts, cases_Bool, or_cases, or_left, or_parts, or_right}
use Rattle.sql_value.specs.declared.order_key.SqlType.{SqlType}
use Rattle.qgm_core.specs.Boxes.{has_box, is_quant, owns, width}
use Rattle.qgm_core.specs.Edits.{range}
use Rattle.qgm_core.specs.Free.{named_by}
use Rattle.qgm_core.specs.Kinds.{is_F}
use Rattle.list_laws.specs.Lists.{In, first, holds}
use Rattle.qgm_core.specs.declared.kinds.BoxKind.{BoxKind}
use Rattle.qgm_core.specs.declared.kinds.BoxKind.TheVariants.{Base, Select, Group, SetOp, OuterJoin}
use Rattle.qgm_core.specs.declared.kinds.QuantKind.TheVariants.{F}
use Rattle.qgm_core.specs.declared.node.Node.{Node}
use Rattle.qgm_core.specs.declared.owned.OwnedQuant.{OwnedQuant}
use Rattle.qgm_meaning.specs.Scope.{loose, put_node, read_by}
use Rattle.qgm_meaning.specs.Scope as scope
use Rattle.qgm_meaning.specs.Searches.{names, names_cond}
use Rattle.qgm_meaning.specs.Tags.{columns_from}
use Rattle.qgm_terms.specs.Substitution.{cell_at, substituted, substituted_cond}
use Rattle.qgm_terms.specs.Terms.{Cond, Term}
use Rattle.qgm_terms.specs.Wanted.{any_in, any_in_cond, reads_at, reads_at_cond}
use Rattle.qgm_wellformed.specs.Columns.{box_under}
use Rattle.qgm_wellformed.specs.Types.{Lookup, all_agree, arm_agrees, arms_agree, cond_fits, is_known, joined_column, known, lookup_of, term_type, types_by, types_of}
use Rattle.qgm_edit_laws.specs.FormedAdds.{of_column, types_asked}
use Rattle.qgm_edit_laws.specs.Graph.{Sound, nodes_in, reads_in}
use Rattle.qgm_edit_laws.specs.Shaped.{Typed}
use Rattle.qgm_edit_laws.proofs.Edits.{map-append}
use Rattle.qgm_edit_laws.proofs.Follow.{all-alike, settled-types, types_at}
use Rattle.qgm_edit_laws.proofs.InterposedForms.{asked-named}
use Rattle.qgm_edit_laws.proofs.Interposed.{over_now, turned}
use Rattle.qgm_edit_laws.proofs.PairLocal.{cond-pair, term-pair}
use Rattle.qgm_edit_laws.proofs.Ranks.{has-in, same-box}
use Rattle.qgm_edit_laws.proofs.Read.{named-split}
use Rattle.qgm_edit_laws.proofs.Reformed.{wide-types}
use Rattle.qgm_edit_laws.proofs.Scope.{touched}
use Rattle.qgm_edit_laws.proofs.ShapedPut.{all-joined}
use Rattle.qgm_edit_laws.proofs.Turns.{first-own}
use Rattle.qgm_edit_laws.proofs.TypedKept.{Ranging, found, found-under}
use Rattle.qgm_edit_laws.proofs.PutTypes.{all-put, cond-mixed, term-mixed, types-put}
use Rattle.qgm_edit_laws.proofs.HeadTypes.{type-of}
use Rattle.qgm_edit_laws.proofs.TypesBy.{Types, agrees_by, arms_by, found_by, looked, typed-by, via}
use Rattle.rule_feed.specs.Feed.{Numbers, all_of, fed_boxes, fed_cond, fed_node, fed_owner, fed_term, joins, new_fed, new_magic, picked, put_cells, up}
use Rattle.rule_feed.specs.FeedLaws.{FeedTyped, FeedsOne}
use Rattle.rule_feed.proofs.FeedRegion as region
use Rattle.rule_feed.proofs.FeedReads.{length-picked}
use Rattle.rule_feed.proofs.FeedScope as feed_scope
use Rattle.rule_feed.proofs.FeedSound as fed
use Rattle.rule_feed.proofs.SplitNames.{column-there}
use Rattle.rule_feed.proofs.FeedTypes.{Ts, all-columns, all-fits, cond-fed, get-before, get-behind, joins-fit, known-at, known-by, known-map, length-types, picked-types, put-type, tags-known, term-fed}
use Rattle.qgm_core.proofs.Reaching.{in-has, overs-held}
use Rattle.list_laws.proofs.Membership.{any-from, any-none, eq-false-sym, eq-itself, in-append, in-left, in-right, map-in, other}
use Rattle.list_laws.proofs.Booleans.{clash}

module _ (i d : ℕ) where
  pub turned-stays : (rs : List OwnedQuant) (r : OwnedQuant) → In r rs → (r.id == i) ≡ false → In r (turned i d rs)
  turned-stays [] r j f = elim j [ ]
  turned-stays (a ∷ rs) r j f = elim (a.id == i) as (λ b. (a.id == i) ≡ b → In r (cond b (over_now d a ∷ rs) (a ∷ turned i d rs))) [
    | true ↦ λ t. elim j [ inl e ↦ absurd (clash (a.id == i) t (subst (λ (z : OwnedQuant). (z.id == i) ≡ false) (sym e) f)) | inr k ↦ inr k ]
    | false ↦ λ t. elim j [ inl e ↦ inl e | inr k ↦ inr (turned-stays rs r k f) ]
  ] refl

  pub turned-has : (rs : List OwnedQuant) (r : OwnedQuant) → first (is_quant i) rs ≡ Some r → In (over_now d r) (turned i d rs)
  turned-has [] r h = absurd (let z : ⊥ = cc in z)
  turned-has (a ∷ rs) r h = elim (a.id == i) as (λ b. ◌≡◌ {A = Option OwnedQuant} (cond b (Some a) (first (is_quant i) rs)) (Some r) → In (over_now d r) (cond b (over_now d a ∷ rs) (a ∷ turned i d rs))) [
    | true ↦ λ h. (let e : a ≡ r = cc in inl (ap (over_now d) e))
    | false ↦ λ h. inr (turned-has rs r h)
  ] h

module _ (xs ys : List Node) (root : ℕ) (w : Sound (xs ++ ys) root) (ty : Typed (xs ++ ys)) (b s c : Node) (rp ri : OwnedQuant) (x : Numbers) (m : FeedsOne xs ys root b s c rp ri x) where
  abbrev bs : List Node
  bs = xs ++ ys

  abbrev p : ℕ
  p = rp.id

  abbrev i : ℕ
  i = ri.id

  abbrev named : ℕ → Bool
  named = region.named xs ys root w b s c rp ri x m

  abbrev ins : ℕ → Bool
  ins = region.ins xs ys root w b s c rp ri x m

  abbrev wd : ℕ
  wd = width s

  abbrev n : ℕ
  n = region.n xs ys root w b s c rp ri x m

  abbrev v : ℕ
  v = width c

  abbrev g : Node → Node
  g = fed_node (xs ++ ys) b s c rp ri x

  abbrev d' : Node
  d' = new_fed (xs ++ ys) b s c rp ri x

  abbrev m' : Node
  m' = new_magic (xs ++ ys) b s c rp ri x

  abbrev hs : List Node
  hs = fed_boxes xs ys b s c rp ri x

  abbrev ks : List Cond
  ks = joins named p i 1 1 wd

  pub in-b : In b bs
  in-b = feed_scope.in-b xs ys root w b s c rp ri x m

  pub in-s : In s bs
  in-s = feed_scope.in-s xs ys root w b s c rp ri x m

  pub in-c : In c bs
  in-c = feed_scope.in-c xs ys root w b s c rp ri x m

  pub id : (y : Node) → (g y).id ≡ y.id
  id = feed_scope.id xs ys root w b s c rp ri x m

  pub after : Sound hs root
  after = fed.sound-after xs ys root w b s c rp ri x m

  pub g-in : (y : Node) → In y bs → In (g y) hs
  g-in y j = elim (in-append y xs ys j) [
    | inl a ↦ in-left (g y) (map g xs) (d' ∷ (m' ∷ map g ys)) (map-in g y xs a)
    | inr a ↦ in-right (g y) (map g xs) (d' ∷ (m' ∷ map g ys)) (inr (inr (map-in g y ys a)))
  ]

  pub d-in : In d' hs
  d-in = in-right d' (map g xs) (d' ∷ (m' ∷ map g ys)) (inl refl)

  pub m-in : In m' hs
  m-in = in-right m' (map g xs) (d' ∷ (m' ∷ map g ys)) (inr (inl refl))

  -- ---- the box under a quantifier

  pub under-old : (q : ℕ) → (q == i) ≡ false → (f : Ranging bs q) → box_under hs q ≡ Some (g f.box)
  under-old q nob f = found-under hs root after q (record { owner = g f.owner; quant = f.quant; box = g f.box; owner_in = g-in f.owner f.owner_in; quant_in = held; is_q = f.is_q; box_in = g-in f.box f.box_in; is_over = id f.box ∙ f.is_over })
    where
      held : In f.quant (g f.owner).quants
      held = elim (cases_Bool (f.owner.id == b.id)) [
        | inr t ↦ subst (λ (z : List OwnedQuant). In f.quant z) (sym (fed.quants-same xs ys root w b s c rp ri x m f.owner f.owner_in t)) f.quant_in
        | inl t ↦ (
            let e : b ≡ f.owner = same-box bs b f.owner w.ordered in-b f.owner_in (sym (eqb-true f.owner.id b.id t)) in
            subst (λ (z : Node). In f.quant (g z).quants) e (subst (λ (z : List OwnedQuant). In f.quant z) (sym (fed.quants-b xs ys root w b s c rp ri x m))
            (turned-stays i x.d b.quants f.quant (subst (λ (z : Node). In f.quant z.quants) (sym e) f.quant_in) (subst (λ z. (z == i) ≡ false) (sym f.is_q) nob))))
      ]

  pub under-i : box_under hs i ≡ Some d'
  under-i = found-under hs root after i (record {
    owner = g b;
    quant = over_now x.d ri;
    box = d';
    owner_in = g-in b in-b;
    quant_in = subst (λ (z : List OwnedQuant). In (over_now x.d ri) z) (sym (fed.quants-b xs ys root w b s c rp ri x m)) (turned-has i x.d b.quants ri (first-own ri b.quants (feed_scope.few-b xs ys root w b s c rp ri x m i) m.owned_i));
    is_q = refl;
    box_in = d-in;
    is_over = refl;
  })

  pub under-dm : box_under hs x.dm ≡ Some m'
  under-dm = found-under hs root after x.dm (record { owner = d'; quant = range x.dm F x.m; box = m'; owner_in = d-in; quant_in = inl refl; is_q = refl; box_in = m-in; is_over = refl })

  pub under-dc : box_under hs x.dc ≡ Some (g c)
  under-dc = found-under hs root after x.dc (record { owner = d'; quant = range x.dc F c.id; box = g c; owner_in = d-in; quant_in = inr (inl refl); is_q = refl; box_in = g-in c in-c; is_over = id c })

  pub under-mq : box_under hs x.mq ≡ Some (g s)
  under-mq = found-under hs root after x.mq (record { owner = m'; quant = range x.mq F s.id; box = g s; owner_in = m-in; quant_in = inl refl; is_q = refl; box_in = g-in s in-s; is_over = id s })

  abbrev pub found-p : Ranging bs p
  found-p = record { owner = b; quant = rp; box = s; owner_in = in-b; quant_in = m.owned_p; is_q = refl; box_in = in-s; is_over = sym m.over_s }

  abbrev pub found-i : Ranging bs i
  found-i = record { owner = b; quant = ri; box = c; owner_in = in-b; quant_in = m.owned_i; is_q = refl; box_in = in-c; is_over = sym m.over_c }

  -- ---- the types of the columns of each box

  abbrev L : Lookup
  L = lookup_of bs

  -- the types of s
  abbrev ML : Lookup
  ML q k = cond (k == 0) None (joined_column (slice_get (types_at bs s.id) (k - 1)))

  abbrev TM : Ts
  TM = map (term_type ML) (picked named x.mq 1 wd)

  abbrev TD : Ts
  TD = TM ++ types_at bs c.id

  abbrev T : Types
  T z = cond (z == x.d) TD (cond (z == x.m) TM (types_at bs z))

  abbrev N : Lookup
  N = via T hs

  T-d : T x.d ≡ TD
  T-d = ap (λ t. cond t TD (cond (x.d == x.m) TM (types_at bs x.d))) (eq-itself x.d)

  T-m : T x.m ≡ TM
  T-m = ap (λ t. cond t TD (cond (x.m == x.m) TM (types_at bs x.m))) m.apart ∙ ap (λ t. cond t TM (types_at bs x.m)) (eq-itself x.m)

  T-old : (y : Node) → In y bs → T y.id ≡ types_at bs y.id
  T-old y j =
      let held = in-has y bs j in
      ap (λ t. cond t TD (cond (y.id == x.m) TM (types_at bs y.id))) (eq-false-sym x.d y.id (other (has_box bs) x.d y.id m.new_d held))
      ∙ ap (λ t. cond t TM (types_at bs y.id)) (eq-false-sym x.m y.id (other (has_box bs) x.m y.id m.new_m held))

  abbrev entry : Ts → ℕ → Option SqlType
  entry ts k = cond (k == 0) None (joined_column (slice_get ts (k - 1)))

  abbrev at : Ts → ℕ → Option SqlType
  at ts k = joined_column (slice_get ts k)

  entry-suc : (ts : Ts) (k : ℕ) → entry ts (suc k) ≡ at ts k
  entry-suc ts k = type-of k (Some (record { id = 0; types = ts }))

  N-by : (q k : ℕ) (z : Node) (ts : Ts) → box_under hs q ≡ Some z → T z.id ≡ ts → N q k ≡ entry ts k
  N-by q k z ts e f = ap (found_by T k) e ∙ ap (λ t. entry t k) f

  L-by : (q k : ℕ) (f : Ranging bs q) → L q k ≡ entry (types_at bs f.box.id) k
  L-by q k f = looked bs q k ∙ ap (found_by (types_at bs) k) (found-under bs root w q f)

  N-old : (q k : ℕ) → (q == i) ≡ false → Ranging bs q → N q k ≡ L q k
  N-old q k nob f = N-by q k (g f.box) (types_at bs f.box.id) (under-old q nob f) (ap T (id f.box) ∙ T-old f.box f.box_in) ∙ sym (L-by q k f)

  N-i : (k : ℕ) → N i k ≡ entry TD k
  N-i k = N-by i k d' TD under-i T-d

  N-dm : (k : ℕ) → N x.dm k ≡ entry TM k
  N-dm k = N-by x.dm k m' TM under-dm T-m

  N-dc : (k : ℕ) → N x.dc k ≡ entry (types_at bs c.id) k
  N-dc k = N-by x.dc k (g c) (types_at bs c.id) under-dc (ap T (id c) ∙ T-old c in-c)

  N-mq : (k : ℕ) → N x.mq k ≡ ML x.mq k
  N-mq k = N-by x.mq k (g s) (types_at bs s.id) under-mq (ap T (id s) ∙ T-old s in-s)

  length-TM : length TM ≡ n
  length-TM = length-types ML (picked named x.mq 1 wd) ∙ length-picked named x.mq wd 1

  wide-c : length (types_at bs c.id) ≡ v
  wide-c = wide-types bs root w c in-c

  -- a column of i, behind those of m
  i-behind : (j k : ℕ) → k ≡ n + suc j → N i k ≡ L i (suc j)
  i-behind j zero e = absurd (omega (arith, e))
  i-behind j (suc k) e =
      let l = length-TM in
      N-i (suc k) ∙ entry-suc TD k ∙ ap joined_column (get-behind TM (types_at bs c.id) j k (omega (arith, e, l))) ∙ sym (entry-suc (types_at bs c.id) j) ∙ sym (L-by i (suc j) found-i)

  i-up : (j : ℕ) → N i (up n j) ≡ L i j
  i-up zero = N-i 0 ∙ sym (L-by i 0 found-i)
  i-up (suc j) = i-behind j (n + suc j) refl

  known-boxes : (y : Node) → In y bs → list_all is_known (types_at bs y.id) ≡ true
  known-boxes y j =
      let a = and_parts (list_all (λ x. is_known (term_type L x)) y.parts.head) (list_all (cond_fits L) y.parts.conds.items && arms_agree (types_of bs) y.parts.kind y.quants) (ty y j) in
      ap (list_all is_known) (settled-types bs root w y j) ∙ known-by L y.parts.kind y.parts.head a.0

  known-s : (j z : ℕ) → z ≡ j + 1 → j < wd → is_known (ML x.mq z) ≡ true
  known-s j zero e o = absurd (omega (arith, e))
  known-s j (suc z) e o =
      let l = wide-types bs root w s in-s in
      ap is_known (entry-suc (types_at bs s.id) z) ∙ known-at (types_at bs s.id) z (known-boxes s in-s) (omega (arith, e, o, l))

  known-TM : list_all is_known TM ≡ true
  known-TM = tags-known ML ML named x.mq wd 1 known-s

  -- ---- the boxes that have cells put in

  arms-T : (k : BoxKind) (rs : List OwnedQuant) → ((r : OwnedQuant) → In r rs → (u : Node) × (In u bs × (u.id ≡ r.over))) → arms_by T k rs ≡ arms_agree (types_of bs) k rs
  arms-T (Base f) rs h = refl
  arms-T Select rs h = refl
  arms-T (Group k) rs h = refl
  arms-T (SetOp form types) rs h = all-alike (λ r. all_agree (T r.over) (known types)) (arm_agrees (types_of bs) types) rs (λ r j. (let u = h r j in ap (λ z. all_agree z (known types)) (ap T (sym u.1.1) ∙ T-old u.0 u.1.0 ∙ ap (types_at bs) u.1.1)))
  arms-T OuterJoin rs h = refl

  over-old : (y : Node) → In y bs → (r : OwnedQuant) → In r y.quants → (u : Node) × (In u bs × (u.id ≡ r.over))
  over-old y j r k = let u = has-in r.over bs (overs-held bs y r w.ordered j k) in (u.0, (u.1.0, u.1.1))

  module _ (q : ℕ) (cells : List Term) (y : Node) (j : In y bs) (nod : nodes_in q y ≡ false) (good : (k : ℕ) → reads_in q k y ≡ true → term_type N (cell_at k cells) ≡ L q k) (rest : (r k : ℕ) → types_asked r k y ≡ true → (r == q) ≡ false → N r k ≡ L r k) where
    no-nodes : (list_any (names q) y.parts.head ≡ false) × (list_any (names_cond q) y.parts.conds.items ≡ false)
    no-nodes = or_parts (list_any (names q) y.parts.head) (list_any (names_cond q) y.parts.conds.items) nod

    abbrev X : Lookup
    X r k = cond (r == q) (L q k) (N r k)

    X-L : (r k : ℕ) → types_asked r k y ≡ true → X r k ≡ L r k
    X-L r k h = elim (cases_Bool (r == q)) [
      | inl t ↦ ap (λ z. cond z (L q k) (N r k)) t ∙ ap (λ z. L z k) (sym (eqb-true r q t))
      | inr t ↦ ap (λ z. cond z (L q k) (N r k)) t ∙ rest r k h t
    ]

    cell-same : (e : Term) → In e y.parts.head → term_type N (substituted q cells e) ≡ term_type L e
    cell-same e k =
        term-mixed L N q cells e (any-none (names q) e y.parts.head no-nodes.0 k) (λ l h. good l (or_left (list_any (reads_at q l) y.parts.head) (list_any (reads_at_cond q l) y.parts.conds.items) (any-from (reads_at q l) e y.parts.head k h)))
        ∙ term-pair X L e (λ r l h. X-L r l (or_left (list_any (any_in (of_column r l)) y.parts.head) (list_any (any_in_cond (of_column r l)) y.parts.conds.items) (any-from (any_in (of_column r l)) e y.parts.head k h)))

    cond-same : (e : Cond) → In e y.parts.conds.items → cond_fits N (substituted_cond q cells e) ≡ cond_fits L e
    cond-same e k =
        cond-mixed L N q cells e (any-none (names_cond q) e y.parts.conds.items no-nodes.1 k) (λ l h. good l (or_right (list_any (reads_at q l) y.parts.head) (list_any (reads_at_cond q l) y.parts.conds.items) (any-from (reads_at_cond q l) e y.parts.conds.items k h)))
        ∙ cond-pair X L e (λ r l h. X-L r l (or_right (list_any (any_in (of_column r l)) y.parts.head) (list_any (any_in_cond (of_column r l)) y.parts.conds.items) (any-from (any_in_cond (of_column r l)) e y.parts.conds.items k h)))

    put-own : T y.id ≡ types_by N y.parts.kind (map (substituted q cells) y.parts.head)
    put-own = T-old y j ∙ settled-types bs root w y j ∙ sym (types-put L N q cells y.parts.kind y.parts.head cell-same)

    put-agrees : agrees_by N T (put_node q cells y) ≡ true
    put-agrees =
        ap₂ (λ a b. a && b) (all-put (λ x. is_known (term_type N x)) (λ x. is_known (term_type L x)) (substituted q cells) y.parts.head (λ e k. ap is_known (cell-same e k)))
        (ap₂ (λ a b. a && b) (all-put (cond_fits N) (cond_fits L) (substituted_cond q cells) y.parts.conds.items cond-same) (arms-T y.parts.kind y.quants (over-old y j)))
        ∙ ty y j

  pub asked-found : (y : Node) → In y bs → (r k : ℕ) → types_asked r k y ≡ true → Ranging bs r
  asked-found y j r k h = found bs root w y j r (asked-named r k y h)

  -- below c
  abbrev pcells : List Term
  pcells = put_cells named x.dm 1 1 wd

  abbrev icells : List Term
  icells = columns_from i (suc n) v

  dm-tags : (l z : ℕ) → z ≡ l + 1 → N x.dm z ≡ joined_column (slice_get TM l)
  dm-tags l zero e = absurd (omega (arith, e))
  dm-tags l (suc z) e = N-dm (suc z) ∙ entry-suc TM z ∙ ap (λ k. joined_column (slice_get TM k)) (let k : z ≡ l = omega (arith, e) in k)

  dc-tags : (l z : ℕ) → z ≡ l + 1 → N x.dc z ≡ joined_column (slice_get (types_at bs c.id) l)
  dc-tags l zero e = absurd (omega (arith, e))
  dc-tags l (suc z) e = N-dc (suc z) ∙ entry-suc (types_at bs c.id) z ∙ ap (λ k. joined_column (slice_get (types_at bs c.id) k)) (let k : z ≡ l = omega (arith, e) in k)

  i-tags : (l z : ℕ) → z ≡ l + 1 → l < n → N i z ≡ joined_column (slice_get TM l)
  i-tags l zero e o = absurd (omega (arith, e))
  i-tags l (suc z) e o =
      let k : z ≡ l = omega (arith, e) in let t = length-TM in
      N-i (suc z) ∙ entry-suc TD z ∙ ap joined_column (ap (slice_get TD) k ∙ get-before TM (types_at bs c.id) l (omega (arith, o, t)))

  pcell : (k : ℕ) → named k ≡ true → 1 ≤ k → k ≤ wd → term_type N (cell_at k pcells) ≡ L p k
  pcell zero h a o = absurd (omega (arith, a))
  pcell (suc k) h a o = put-type N ML named x.mq x.dm wd 1 1 k (suc k) (omega arith) dm-tags h (omega (arith, o)) ∙ sym (L-by p (suc k) found-p)

  icell : (k : ℕ) → 1 ≤ k → k ≤ v → term_type N (cell_at k icells) ≡ L i k
  icell zero a o = absurd (omega (arith, a))
  icell (suc k) a o = ap (term_type N) (column-there i (suc n) v k (omega (arith, o))) ∙ i-behind k (suc n + k) (omega arith)

  pub not-i : (y : Node) → In y bs → ins y.id ≡ true → (r : ℕ) → holds r (named_by y) ≡ true → (r == i) ≡ false
  not-i y j t r h = elim (cases_Bool (r == i)) [
    | inr f ↦ f
    | inl e ↦ absurd (elim (or_cases (read_by y r) (nodes_in r y) (named-split r y h)) [
      | inr a ↦ clash (nodes_in i y) (subst (λ z. nodes_in z y ≡ true) (eqb-true r i e) a) (feed_scope.not-node-i xs ys root w b s c rp ri x m y j (feed_scope.in-apart xs ys root w b s c rp ri x m y t))
      | inl a ↦ (
          let hi : read_by y i ≡ true = subst (λ z. read_by y z ≡ true) (eqb-true r i e) a in
          elim (touched bs root w y i j (or_left (read_by y i) (scope.under_any y.quants (loose bs) i) hi)) [
            | inl o ↦ clash (owns i y) o (feed_scope.not-own xs ys root w b s c rp ri x m i (feed_scope.own-i xs ys root w b s c rp ri x m) y j (feed_scope.in-apart xs ys root w b s c rp ri x m y t))
            | inr o ↦ clash (loose bs y.id i) o (region.ins-i xs ys root w b s c rp ri x m y.id t)
          ])
    ])
  ]

  p-good : (y : Node) → In y bs → ins y.id ≡ true → (k : ℕ) → reads_in p k y ≡ true → term_type N (cell_at k pcells) ≡ L p k
  p-good y j t k h =
      let fit = w.fits y j p k h b rp s in-b m.owned_p refl in-s (sym m.over_s) in
      pcell k (any-from (λ (y : Node). ins y.id && reads_in p k y) y bs j (and_from (ins y.id) (reads_in p k y) t h)) fit.0 fit.1

  p-rest : (y : Node) → In y bs → ins y.id ≡ true → (r k : ℕ) → types_asked r k y ≡ true → (r == p) ≡ false → N r k ≡ L r k
  p-rest y j t r k h f = N-old r k (not-i y j t r (asked-named r k y h)) (asked-found y j r k h)

  i-good : (y : Node) → In y bs → (k : ℕ) → reads_in i k y ≡ true → term_type N (cell_at k icells) ≡ L i k
  i-good y j k h = let fit = w.fits y j i k h b ri c in-b m.owned_i refl in-c (sym m.over_c) in icell k fit.0 fit.1

  i-rest : (y : Node) → In y bs → (r k : ℕ) → types_asked r k y ≡ true → (r == i) ≡ false → N r k ≡ L r k
  i-rest y j r k h f = N-old r k f (asked-found y j r k h)

  -- ---- b

  N-p : (z : ℕ) → N p z ≡ ML x.mq z
  N-p z = N-old p z (eq-false-sym i p (region.apart-ids xs ys root w b s c rp ri x m)) found-p ∙ L-by p z found-p

  ks-fit : list_all (cond_fits N) ks ≡ true
  ks-fit = joins-fit N ML named x.mq p i wd 1 1 i-tags (λ l z e o. (N-p z, known-s l z e o))

  fit-K : cond_fits N (all_of ks) ≡ true
  fit-K = all-fits N ks ks-fit

  kept : (r l : ℕ) → types_asked r l b ≡ true → N r (cond (r == i) (up n l) l) ≡ L r l
  kept r l h = elim (cases_Bool (r == i)) [
    | inl t ↦ ap (λ z. N r (cond z (up n l) l)) t ∙ subst (λ z. N z (up n l) ≡ L z l) (sym (eqb-true r i t)) (i-up l)
    | inr t ↦ ap (λ z. N r (cond z (up n l) l)) t ∙ N-old r l t (asked-found b in-b r l h)
  ]

  b-cell : (e : Term) → In e b.parts.head → term_type N (fed_term i n (all_of ks) e) ≡ term_type L e
  b-cell e k = term-fed L N i p n (all_of ks) fit-K e (any-none (Rattle.rule_feed.specs.Feed.nodes_of i p) e b.parts.head m.clear k) (λ r l h.
      kept r l (or_left (list_any (any_in (of_column r l)) b.parts.head) (list_any (any_in_cond (of_column r l)) b.parts.conds.items) (any-from (any_in (of_column r l)) e b.parts.head k h)))

  b-cond : (e : Cond) → In e b.parts.conds.items → cond_fits N (fed_cond i n (all_of ks) e) ≡ cond_fits L e
  b-cond e k = cond-fed L N i p n (all_of ks) fit-K e (any-none (Rattle.rule_feed.specs.Feed.nodes_of_cond i p) e b.parts.conds.items m.clear_conds k) (λ r l h.
      kept r l (or_right (list_any (any_in (of_column r l)) b.parts.head) (list_any (any_in_cond (of_column r l)) b.parts.conds.items) (any-from (any_in_cond (of_column r l)) e b.parts.conds.items k h)))

  heads : (xs : List Term) → ((e : Term) → In e xs → In e b.parts.head) → map (term_type N) (map (fed_term i n (all_of ks)) xs) ≡ map (term_type L) xs
  heads [] sub = refl
  heads (e ∷ es) sub = ap₂ (λ (y : Option SqlType) (ys : Ts). y ∷ ys) (b-cell e (sub e (inl refl))) (heads es (λ y k. sub y (inr k)))

  b-own : T b.id ≡ types_by N b.parts.kind (map (fed_term i n (all_of ks)) b.parts.head)
  b-own =
      T-old b in-b ∙ settled-types bs root w b in-b ∙ ap (λ k. types_by L k b.parts.head) m.a_select
      ∙ sym (heads b.parts.head (λ e k. k)) ∙ sym (ap (λ k. types_by N k (map (fed_term i n (all_of ks)) b.parts.head)) m.a_select)

  b-agrees : agrees_by N T (fed_owner named p ri x.d wd b) ≡ true
  b-agrees =
      let a = and_parts (list_all (λ x. is_known (term_type L x)) b.parts.head) (list_all (cond_fits L) b.parts.conds.items && arms_agree (types_of bs) b.parts.kind b.quants) (ty b in-b) in
      let o = and_parts (list_all (cond_fits L) b.parts.conds.items) (arms_agree (types_of bs) b.parts.kind b.quants) a.1 in
      let last : list_all (cond_fits N) (cond (is_F ri.kind) ks []) ≡ true = (elim (is_F ri.kind) as (λ z. list_all (cond_fits N) (cond z ks []) ≡ true) [ true ↦ ks-fit | false ↦ refl ]) in
      and_from (list_all (λ x. is_known (term_type N x)) (map (fed_term i n (all_of ks)) b.parts.head)) (list_all (cond_fits N) (map (fed_cond i n (all_of ks)) b.parts.conds.items ++ cond (is_F ri.kind) ks []) && arms_by T b.parts.kind (turned i x.d b.quants))
      (all-put (λ x. is_known (term_type N x)) (λ x. is_known (term_type L x)) (fed_term i n (all_of ks)) b.parts.head (λ e k. ap is_known (b-cell e k)) ∙ a.0)
      (and_from (list_all (cond_fits N) (map (fed_cond i n (all_of ks)) b.parts.conds.items ++ cond (is_F ri.kind) ks [])) (arms_by T b.parts.kind (turned i x.d b.quants))
      (all-joined (cond_fits N) (map (fed_cond i n (all_of ks)) b.parts.conds.items) (cond (is_F ri.kind) ks []) (all-put (cond_fits N) (cond_fits L) (fed_cond i n (all_of ks)) b.parts.conds.items b-cond ∙ o.0) last)
      (ap (λ k. arms_by T k (turned i x.d b.quants)) m.a_select))

  -- ---- the new boxes

  d-types : map (term_type N) (columns_from x.dm 1 n ++ columns_from x.dc 1 v) ≡ TD
  d-types =
      map-append (term_type N) (columns_from x.dm 1 n) (columns_from x.dc 1 v)
      ∙ ap₂ (λ (y z : Ts). y ++ z) (subst (λ k. map (term_type N) (columns_from x.dm 1 k) ≡ TM) length-TM (all-columns N x.dm TM 1 dm-tags))
      (subst (λ k. map (term_type N) (columns_from x.dc 1 k) ≡ types_at bs c.id) wide-c (all-columns N x.dc (types_at bs c.id) 1 dc-tags))

  m-types : map (term_type N) (picked named x.mq 1 wd) ≡ TM
  m-types = picked-types N ML named x.mq wd 1 N-mq

  d-agrees : agrees_by N T d' ≡ true
  d-agrees = and_from (list_all (λ x. is_known (term_type N x)) d'.parts.head) (true && true)
      (sym (known-map N d'.parts.head) ∙ ap (list_all is_known) d-types ∙ all-joined is_known TM (types_at bs c.id) known-TM (known-boxes c in-c)) refl

  m-agrees : agrees_by N T m' ≡ true
  m-agrees = and_from (list_all (λ x. is_known (term_type N x)) m'.parts.head) (true && true) (sym (known-map N m'.parts.head) ∙ ap (list_all is_known) m-types ∙ known-TM) refl

  own : (z : Node) → In z hs → T z.id ≡ types_by N z.parts.kind z.parts.head
  own = feed_scope.each xs ys root w b s c rp ri x m (λ z. T z.id ≡ types_by N z.parts.kind z.parts.head)
      b-own
      (λ y j t. put-own p pcells y j (feed_scope.not-node-p xs ys root w b s c rp ri x m y j) (p-good y j t) (p-rest y j t))
      (λ y j out nob. put-own i icells y j (feed_scope.not-node-i xs ys root w b s c rp ri x m y j nob) (i-good y j) (i-rest y j))
      (T-d ∙ sym d-types)
      (T-m ∙ sym m-types)

  agrees : (z : Node) → In z hs → agrees_by N T z ≡ true
  agrees = feed_scope.each xs ys root w b s c rp ri x m (λ z. agrees_by N T z ≡ true)
      b-agrees
      (λ y j t. put-agrees p pcells y j (feed_scope.not-node-p xs ys root w b s c rp ri x m y j) (p-good y j t) (p-rest y j t))
      (λ y j out nob. put-agrees i icells y j (feed_scope.not-node-i xs ys root w b s c rp ri x m y j nob) (i-good y j) (i-rest y j))
      d-agrees
      m-agrees

  pub typed-after : Typed hs
  typed-after = typed-by hs root after T own agrees

pub feed-typed : FeedTyped
feed-typed = λ xs ys root w ty b s c p i x m. typed-after xs ys root w ty b s c p i x m
