-- Feeding keeps a graph sound.
use Rattle.std.specs.Prelude as prelude
use Rattle.std.proofs.Common.{ℕ, zero, suc, ◌==◌, ◌≡◌, ◌&&◌, ◌+◌, ◌≤◌, ◌<◌, cond, Bool, true, false, List, [], ◌∷◌, ◌++◌, map, Some, refl, sym, ap, ap₂, subst, ◌∙◌, eqb-true, ◌⊎◌, inl, inr, arith}
use Rattle.std.specs.List.{flat_map, list_any}
use Rattle.std.proofs.lemmas.Bool.{and_from, and_parts, cases_Bool, eq-eqb, or_cases, or_left, or_right}
use Rattle.qgm_core.specs.Boxes.{ids_of, has_box, ids_in, is_quant, overs_in, overs_of, owns, width}
use Rattle.qgm_core.specs.Kinds.{is_F, width_by}
use Rattle.list_laws.specs.Lists.{In, first, times}
use Rattle.qgm_core.specs.declared.kinds.BoxKind.{BoxKind}
use Rattle.qgm_core.specs.declared.kinds.BoxKind.TheVariants.{Base, Select, Group, SetOp, OuterJoin}
use Rattle.qgm_core.specs.declared.node.Node.{Node}
use Rattle.qgm_core.specs.declared.owned.OwnedQuant.{OwnedQuant}
use Rattle.qgm_meaning.specs.Scope.{loose, put_node, read_by}
use Rattle.qgm_meaning.specs.Searches.{looking, names, names_cond}
use Rattle.qgm_meaning.specs.Tags.{columns_from}
use Rattle.qgm_terms.specs.Substitution.{substituted}
use Rattle.qgm_terms.specs.Terms.{Cond}
use Rattle.qgm_terms.specs.Wanted.{reads_at, reads_at_cond}
use Rattle.qgm_edit_laws.specs.Graph.{ArmsBy, BareBy, Fits, Sound, binds_row, nodes_in, reads_in}
use Rattle.qgm_edit_laws.specs.Scoped.{Scoped, Local}
use Rattle.qgm_edit_laws.proofs.Adds.{read-owned, reads-at-read}
use Rattle.qgm_edit_laws.proofs.AnyPut.{conds-more, heads-more}
use Rattle.qgm_edit_laws.proofs.Edits.{any-append, length-map, map-append, once-each, times-change}
use Rattle.qgm_edit_laws.proofs.Interposed.{turned, turned-any, turned-ids, turned-times}
use Rattle.qgm_edit_laws.proofs.PlacedLists.{times-more}
use Rattle.qgm_edit_laws.proofs.PlacedOne.{unowned-times}
use Rattle.qgm_edit_laws.proofs.Ranks.{same-box}
use Rattle.qgm_edit_laws.proofs.Scope.{loose-held, one-owner, touched}
use Rattle.qgm_edit_laws.proofs.Scoped.{sound-by}
use Rattle.qgm_edit_laws.proofs.Turns.{first-own}
use Rattle.rule_feed.specs.Feed.{Numbers, all_of, fed_below, fed_boxes, fed_cond, fed_node, fed_owner, fed_term, joins, new_fed, new_magic, put_cells, up}
use Rattle.rule_feed.specs.FeedLaws.{FeedSound, FeedsOne}
use Rattle.rule_feed.proofs.FeedRegion as region
use Rattle.rule_feed.proofs.FeedLists.{bare-columns, bare-put}
use Rattle.rule_feed.proofs.FeedOrder as order
use Rattle.rule_feed.proofs.FeedReads.{all_of-any, columns-cell, columns-list, conds-read, conds-was, joins-any, length-picked, picked-list, put-cell, terms-read, terms-was}
use Rattle.rule_feed.proofs.FeedScope as feed_scope
use Rattle.rule_feed.proofs.FeedScope.{append-length, bare-kept, columns-length, none-true, put-node_of, put-read_at}
use Rattle.qgm_core.proofs.Reaching.{in-has, overs-held}
use Rattle.list_laws.proofs.Counting.{in-times, times-append, times-in}
use Rattle.list_laws.proofs.Membership.{any-from, any-none, eq-false-sym, eq-itself, other}
use Rattle.list_laws.proofs.Booleans.{clash}

module _ (xs ys : List Node) (root : ℕ) (w : Sound (xs ++ ys) root) (b s c : Node) (rp ri : OwnedQuant) (x : Numbers) (m : FeedsOne xs ys root b s c rp ri x) where
  abbrev pub bs : List Node
  bs = xs ++ ys

  abbrev pub p : ℕ
  p = rp.id

  abbrev pub i : ℕ
  i = ri.id

  abbrev pub named : ℕ → Bool
  named = region.named xs ys root w b s c rp ri x m

  abbrev pub ins : ℕ → Bool
  ins = region.ins xs ys root w b s c rp ri x m

  abbrev pub wd : ℕ
  wd = width s

  abbrev pub n : ℕ
  n = region.n xs ys root w b s c rp ri x m

  abbrev pub v : ℕ
  v = width c

  abbrev pub g : Node → Node
  g = fed_node (xs ++ ys) b s c rp ri x

  abbrev pub d' : Node
  d' = new_fed (xs ++ ys) b s c rp ri x

  abbrev pub m' : Node
  m' = new_magic (xs ++ ys) b s c rp ri x

  abbrev pub hs : List Node
  hs = fed_boxes xs ys b s c rp ri x

  abbrev pub look : ℕ → ℕ → Bool
  look z q = cond (ins z) (cond (q == x.dm) (loose bs z p) (cond (q == p) false (loose bs z q))) (loose bs z q)

  abbrev pub Inside : ℕ → ℕ → Type 0
  Inside z q = ((q ≡ x.dm) × (loose bs z p ≡ true)) ⊎ (((q == x.dm) ≡ false) × (((q == p) ≡ false) × (loose bs z q ≡ true)))

  abbrev pub b' : Node
  b' = fed_owner named p ri x.d wd b

  abbrev pub ks : List Cond
  ks = joins named p i 1 1 wd

  binds-turned : (q : ℕ) → binds_row q (turned i x.d b.quants) ≡ binds_row q b.quants
  binds-turned = feed_scope.binds-turned xs ys root w b s c rp ri x m

  each : (P : Node → Type 0) → P b' → ((y : Node) → In y bs → ins y.id ≡ true → P (fed_below named c.id p x.dm wd y)) → ((y : Node) → In y bs → ins y.id ≡ false → (y.id == b.id) ≡ false → P (put_node i (columns_from i (suc n) v) y)) → P d' → P m'
      → (z : Node) → In z hs → P z
  each = feed_scope.each xs ys root w b s c rp ri x m

  few-b : (q : ℕ) → times q (ids_of b) ≤ 1
  few-b = feed_scope.few-b xs ys root w b s c rp ri x m

  id : (y : Node) → (g y).id ≡ y.id
  id = feed_scope.id xs ys root w b s c rp ri x m

  in-apart : (y : Node) → ins y.id ≡ true → (y.id == b.id) ≡ false
  in-apart = feed_scope.in-apart xs ys root w b s c rp ri x m

  in-b : In b bs
  in-b = feed_scope.in-b xs ys root w b s c rp ri x m

  in-c : In c bs
  in-c = feed_scope.in-c xs ys root w b s c rp ri x m

  in-hs : (z : Node) → In z hs → ((y : Node) × (In y bs × (g y ≡ z))) ⊎ ((d' ≡ z) ⊎ (m' ≡ z))
  in-hs = feed_scope.in-hs xs ys root w b s c rp ri x m

  in-s : In s bs
  in-s = feed_scope.in-s xs ys root w b s c rp ri x m

  look-some : (z q : ℕ) → look z q ≡ true → (y : ℕ) × (loose bs z y ≡ true)
  look-some = feed_scope.look-some xs ys root w b s c rp ri x m

  not-node-i : (y : Node) → In y bs → (y.id == b.id) ≡ false → nodes_in i y ≡ false
  not-node-i = feed_scope.not-node-i xs ys root w b s c rp ri x m

  not-node-p : (y : Node) → In y bs → nodes_in p y ≡ false
  not-node-p = feed_scope.not-node-p xs ys root w b s c rp ri x m

  not-own : (q : ℕ) → owns q b ≡ true → (y : Node) → In y bs → (y.id == b.id) ≡ false → owns q y ≡ false
  not-own = feed_scope.not-own xs ys root w b s c rp ri x m

  own-i : owns i b ≡ true
  own-i = feed_scope.own-i xs ys root w b s c rp ri x m

  own-p : owns p b ≡ true
  own-p = feed_scope.own-p xs ys root w b s c rp ri x m

  scoped-after : (z : Node) → In z hs → Scoped look z
  scoped-after = feed_scope.scoped-after xs ys root w b s c rp ri x m

  settled-after : (z : Node) → In z hs → (q : ℕ) → owns q z ≡ true → look z.id q ≡ false
  settled-after = feed_scope.settled-after xs ys root w b s c rp ri x m

  turned-over : (r : OwnedQuant) → In r (turned i x.d b.quants) → r.id ≡ i → r.over ≡ x.d
  turned-over = feed_scope.turned-over xs ys root w b s c rp ri x m

  -- ---- numbers

  counted : (f : OwnedQuant → ℕ) (z : ℕ) → times z (flat_map (λ (y : Node). map f y.quants) hs) ≡ times z (flat_map (λ (y : Node). map f y.quants) (map g bs)) + (times z (map f d'.quants) + times z (map f m'.quants))
  counted f z =
      let h = λ (y : Node). map f y.quants in
      let a = times-more h z (map g xs) d' (m' ∷ map g ys) in
      let o = times-more h z (map g xs) m' (map g ys) in
      let e : times z (flat_map h (map g xs ++ map g ys)) ≡ times z (flat_map h (map g bs)) = ap (λ k. times z (flat_map h k)) (sym (map-append g xs ys)) in
      omega arith

  pub quants-same : (y : Node) → In y bs → (y.id == b.id) ≡ false → (g y).quants ≡ y.quants
  quants-same y j t = elim (cases_Bool (ins y.id)) [
    | inl u ↦ ap (λ (k : Node). k.quants) (region.g-in xs ys root w b s c rp ri x m y t u)
    | inr u ↦ ap (λ (k : Node). k.quants) (region.g-out xs ys root w b s c rp ri x m y t u)
  ]

  pub quants-b : (g b).quants ≡ turned i x.d b.quants
  quants-b = ap (λ (k : Node). k.quants) (region.g-b xs ys root w b s c rp ri x m b (eq-itself b.id))

  counted-old : (f : OwnedQuant → ℕ) (z : ℕ) → times z (flat_map (λ (y : Node). map f y.quants) (map g bs)) + times z (map f b.quants) ≡ times z (flat_map (λ (y : Node). map f y.quants) bs) + times z (map f (turned i x.d b.quants))
  counted-old f z =
      times-change (λ (y : Node). map f y.quants) g z b bs (once-each bs w.ordered) in-b (λ y j t. ap (map f) (quants-same y j t))
      ∙ ap (λ k. times z (flat_map (λ (y : Node). map f y.quants) bs) + times z (map f k)) quants-b

  pub uses-after : (z : ℕ) → times z (overs_in hs) ≡ times z (overs_in bs) + (times z (x.d ∷ []) + (times z (x.m ∷ []) + times z (s.id ∷ [])))
  uses-after z =
      let a = counted (λ r. r.over) z in
      let o = counted-old (λ r. r.over) z in
      let u = turned-times i x.d z b.quants ri (first-own ri b.quants (few-b i) m.owned_i) in
      let e : times z (ri.over ∷ []) ≡ times z (c.id ∷ []) = ap (λ k. times z (k ∷ [])) m.over_c in
      let l : times z (map (λ (r : OwnedQuant). r.over) d'.quants) ≡ times z (x.m ∷ []) + times z (c.id ∷ []) = times-append z (x.m ∷ []) (c.id ∷ []) in
      omega arith

  absent : (z q : ℕ) → (q == z) ≡ false → times z (q ∷ []) ≡ 0
  absent z q h = ap (λ (k : Bool). cond k 1 0 + 0) h

  pub used-after : (z q : ℕ) → look z q ≡ true → times z (overs_in hs) ≡ 1
  used-after z q h =
      let a = look-some z q h in
      let held = loose-held bs z a.0 a.1 in
      let one = w.used z a.0 a.1 in
      let u = uses-after z in
      let nd = absent z x.d (other (has_box bs) x.d z m.new_d held) in
      let nm = absent z x.m (other (has_box bs) x.m z m.new_m held) in
      let ns = absent z s.id (elim (cases_Bool (s.id == z)) [ inr f ↦ f | inl e ↦ absurd (clash (loose bs s.id a.0) (subst (λ k. loose bs k a.0 ≡ true) (sym (eqb-true s.id z e)) a.1) (m.closed a.0)) ]) in
      omega arith

  top-after : times root (overs_in hs) ≡ 0
  top-after =
      let top = w.top in
      let u = uses-after root in
      let nd = absent root x.d (other (has_box bs) x.d root m.new_d w.rooted) in
      let nm = absent root x.m (other (has_box bs) x.m root m.new_m w.rooted) in
      let ns = absent root s.id (elim (cases_Bool (s.id == root)) [
        | inr f ↦ f
        | inl e ↦ absurd (
            let le : times s.id (overs_of b) ≤ times s.id (overs_in bs) = times-in overs_of s.id b bs in-b in
            let one : 1 ≤ times rp.over (map (λ (r : OwnedQuant). r.over) b.quants) = in-times (λ (r : OwnedQuant). r.over) rp b.quants m.owned_p in
            let o : times rp.over (map (λ (r : OwnedQuant). r.over) b.quants) ≡ times s.id (overs_of b) = ap (λ k. times k (overs_of b)) m.over_s in
            let k : times s.id (overs_in bs) ≡ times root (overs_in bs) = ap (λ k. times k (overs_in bs)) (eqb-true s.id root e) in
            omega arith)
      ]) in
      omega arith

  once-after : (q : ℕ) → times q (ids_in hs) ≤ 1
  once-after q =
      let a = counted (λ r. r.id) q in
      let o = counted-old (λ r. r.id) q in
      let e : times q (map (λ (r : OwnedQuant). r.id) (turned i x.d b.quants)) ≡ times q (map (λ (r : OwnedQuant). r.id) b.quants) = ap (times q) (turned-ids i x.d b.quants) in
      let l : times q (map (λ (r : OwnedQuant). r.id) d'.quants) ≡ times q (x.dm ∷ []) + times q (x.dc ∷ []) = times-append q (x.dm ∷ []) (x.dc ∷ []) in
      let w1 = w.once q in
      elim (cases_Bool (x.dm == q)) [
        | inl t ↦ (
            let z : times q (ids_in bs) ≡ 0 = subst (λ k. times k (ids_in bs) ≡ 0) (eqb-true x.dm q t) (unowned-times x.dm bs m.new_dm) in
            let nc = absent q x.dc (subst (λ k. (x.dc == k) ≡ false) (eqb-true x.dm q t) m.apart_dc) in
            let nq = absent q x.mq (subst (λ k. (x.mq == k) ≡ false) (eqb-true x.dm q t) m.apart_mq) in
            let u = most q x.dm in omega arith)
        | inr t ↦ (
            let nm = absent q x.dm t in
            elim (cases_Bool (x.dc == q)) [
              | inl k ↦ (
                  let z : times q (ids_in bs) ≡ 0 = subst (λ k. times k (ids_in bs) ≡ 0) (eqb-true x.dc q k) (unowned-times x.dc bs m.new_dc) in
                  let nq = absent q x.mq (subst (λ k. (x.mq == k) ≡ false) (eqb-true x.dc q k) m.apart_both) in
                  let u = most q x.dc in omega arith)
              | inr k ↦ (
                  let nc = absent q x.dc k in
                  elim (cases_Bool (x.mq == q)) [
                    | inl f ↦ (let z : times q (ids_in bs) ≡ 0 = subst (λ k. times k (ids_in bs) ≡ 0) (eqb-true x.mq q f) (unowned-times x.mq bs m.new_mq) in let u = most q x.mq in omega arith)
                    | inr f ↦ (let nq = absent q x.mq f in omega arith)
                  ])
            ])
      ]
    where
      most : (q z : ℕ) → times q (z ∷ []) ≤ 1
      most q z = elim (z == q) as (λ b. cond b 1 0 + 0 ≤ 1) [ true ↦ omega arith | false ↦ omega arith ]

  -- ---- widths

  pub width-g : (y : Node) → width (g y) ≡ width y
  width-g y = elim (cases_Bool (y.id == b.id)) [
    | inl t ↦ ap width (region.g-b xs ys root w b s c rp ri x m y t) ∙ ap (width_by y.parts.kind) (length-map (fed_term i n (all_of ks)) y.parts.head)
    | inr t ↦ elim (cases_Bool (ins y.id)) [
      | inl u ↦ ap width (region.g-in xs ys root w b s c rp ri x m y t u) ∙ ap (width_by y.parts.kind) (length-map (substituted p (put_cells named x.dm 1 1 wd)) y.parts.head)
      | inr u ↦ ap width (region.g-out xs ys root w b s c rp ri x m y t u) ∙ ap (width_by y.parts.kind) (length-map (substituted i (columns_from i (suc n) v)) y.parts.head)
    ]
  ]

  pub width-d : width d' ≡ n + v
  width-d = append-length (columns_from x.dm 1 n) (columns_from x.dc 1 v) ∙ ap₂ (λ (a o : ℕ). a + o) (columns-length x.dm 1 n) (columns-length x.dc 1 v)

  pub width-m : width m' ≡ n
  width-m = length-picked named x.mq wd 1

  -- a box after of a number that was there
  pub box-old : (z : Node) → In z hs → has_box bs z.id ≡ true → (y : Node) × (In y bs × ((y.id ≡ z.id) × (width z ≡ width y)))
  box-old z j h = elim (in-hs z j) [
    | inl y ↦ (y.0, (y.1.0, (sym (id y.0) ∙ ap (λ (k : Node). k.id) y.1.1, ap width (sym y.1.1) ∙ width-g y.0)))
    | inr a ↦ absurd (elim a [
      | inl e ↦ clash (has_box bs x.d) (subst (λ (k : Node). has_box bs k.id ≡ true) (sym e) h) m.new_d
      | inr e ↦ clash (has_box bs x.m) (subst (λ (k : Node). has_box bs k.id ≡ true) (sym e) h) m.new_m
    ])
  ]

  -- the new boxes are those of their numbers
  pub box-d : (z : Node) → In z hs → z.id ≡ x.d → d' ≡ z
  box-d z j e = elim (in-hs z j) [
    | inl y ↦ absurd (clash (has_box bs x.d) (subst (λ k. has_box bs k ≡ true) (sym (id y.0) ∙ ap (λ (k : Node). k.id) y.1.1 ∙ e) (in-has y.0 bs y.1.0)) m.new_d)
    | inr a ↦ elim a [ inl u ↦ u | inr u ↦ absurd (clash (x.m == x.d) (eq-eqb x.m x.d (ap (λ (k : Node). k.id) u ∙ e)) m.apart) ]
  ]

  pub box-m : (z : Node) → In z hs → z.id ≡ x.m → m' ≡ z
  box-m z j e = elim (in-hs z j) [
    | inl y ↦ absurd (clash (has_box bs x.m) (subst (λ k. has_box bs k ≡ true) (sym (id y.0) ∙ ap (λ (k : Node). k.id) y.1.1 ∙ e) (in-has y.0 bs y.1.0)) m.new_m)
    | inr a ↦ elim a [ inr u ↦ u | inl u ↦ absurd (clash (x.m == x.d) (eq-eqb x.m x.d (sym (ap (λ (k : Node). k.id) u ∙ e))) m.apart) ]
  ]

  -- the boxes under quantifiers after, by what is so of each quantifier
  abbrev Under : ℕ → ℕ → Type 0
  Under q k = (o z : Node) (r : OwnedQuant) → In o hs → In r o.quants → r.id ≡ q → In z hs → z.id ≡ r.over → (1 ≤ k) × (k ≤ width z)

  pub not-owned : (q : ℕ) → list_any (owns q) bs ≡ false → (y : Node) → In y bs → (r : OwnedQuant) → In r y.quants → r.id ≡ q → ⊥
  not-owned q h y j r k e = clash (owns q y) (any-from (is_quant q) r y.quants k (eq-eqb r.id q e)) (any-none (owns q) y bs h j)

  pub in-old : (o : Node) (r : OwnedQuant) (y : Node) → In y bs → g y ≡ o → In r o.quants → In r y.quants ⊎ ((y ≡ b) × ((r.over ≡ x.d) × (r.id ≡ i)))
  in-old o r y j e k = order.quants-after xs ys root w b s c rp ri x m y j r (subst (λ (z : Node). In r z.quants) (sym e) k)

  fits-old : (q k : ℕ) → (q == i) ≡ false → list_any (owns q) bs ≡ true → Fits bs q k → Under q k
  fits-old q k f o h u z r j l e y t = elim (in-hs u j) [
    | inl a ↦ elim (in-old u r a.0 a.1.0 a.1.1 l) [
      | inr c ↦ absurd (clash (q == i) (eq-eqb q i (sym e ∙ c.1.1)) f)
      | inl c ↦ (
          let held = overs-held bs a.0 r w.ordered a.1.0 c in
          let old = box-old z y (subst (λ n. has_box bs n ≡ true) (sym t) held) in
          let fit = h a.0 r old.0 a.1.0 c e old.1.0 (old.1.1.0 ∙ t) in
          (fit.0, subst (λ n. k ≤ n) (sym old.1.1.1) fit.1))
    ]
    | inr a ↦ absurd (elim a [
      | inl c ↦ elim (subst (λ (n : Node). In r n.quants) (sym c) l) [
        | inl n ↦ clash (list_any (owns q) bs) o (subst (λ n. list_any (owns n) bs ≡ false) (ap (λ (z : OwnedQuant). z.id) n ∙ e) m.new_dm)
        | inr n ↦ elim n [ inl n ↦ clash (list_any (owns q) bs) o (subst (λ n. list_any (owns n) bs ≡ false) (ap (λ (z : OwnedQuant). z.id) n ∙ e) m.new_dc) | inr n ↦ elim n [ ] ]
      ]
      | inr c ↦ elim (subst (λ (n : Node). In r n.quants) (sym c) l) [
        | inl n ↦ clash (list_any (owns q) bs) o (subst (λ n. list_any (owns n) bs ≡ false) (ap (λ (z : OwnedQuant). z.id) n ∙ e) m.new_mq)
        | inr n ↦ elim n [ ]
      ]
    ])
  ]

  -- which box a quantifier of a new number ranges over
  pub new-under : (q : ℕ) → list_any (owns q) bs ≡ false → (u : Node) (r : OwnedQuant) → In u hs → In r u.quants → r.id ≡ q → ((x.dm ≡ q) × (r.over ≡ x.m)) ⊎ (((x.dc ≡ q) × (r.over ≡ c.id)) ⊎ ((x.mq ≡ q) × (r.over ≡ s.id)))
  new-under q h u r j l e = elim (in-hs u j) [
    | inl a ↦ absurd (elim (in-old u r a.0 a.1.0 a.1.1 l) [
      | inl c ↦ not-owned q h a.0 a.1.0 r c e
      | inr c ↦ not-owned q h b in-b ri m.owned_i (sym c.1.1 ∙ e)
    ])
    | inr a ↦ elim a [
      | inl c ↦ elim (subst (λ (n : Node). In r n.quants) (sym c) l) [
        | inl n ↦ inl (ap (λ (z : OwnedQuant). z.id) n ∙ e, ap (λ (z : OwnedQuant). z.over) (sym n))
        | inr n ↦ elim n [ inl n ↦ inr (inl (ap (λ (z : OwnedQuant). z.id) n ∙ e, ap (λ (z : OwnedQuant). z.over) (sym n))) | inr n ↦ elim n [ ] ]
      ]
      | inr c ↦ elim (subst (λ (n : Node). In r n.quants) (sym c) l) [
        | inl n ↦ inr (inr (ap (λ (z : OwnedQuant). z.id) n ∙ e, ap (λ (z : OwnedQuant). z.over) (sym n)))
        | inr n ↦ elim n [ ]
      ]
    ]
  ]

  fits-dm : (k : ℕ) → 1 ≤ k → k ≤ n → Under x.dm k
  fits-dm k a o u z r j l e y t = elim (new-under x.dm m.new_dm u r j l e) [
    | inl c ↦ (a, subst (λ (y : Node). k ≤ width y) (box-m z y (t ∙ c.1)) (subst (λ k'. k ≤ k') (sym width-m) o))
    | inr c ↦ absurd (elim c [ inl c ↦ clash (x.dc == x.dm) (eq-eqb x.dc x.dm c.0) m.apart_dc | inr c ↦ clash (x.mq == x.dm) (eq-eqb x.mq x.dm c.0) m.apart_mq ])
  ]

  fits-dc : (k : ℕ) → 1 ≤ k → k ≤ v → Under x.dc k
  fits-dc k a o u z r j l e y t = elim (new-under x.dc m.new_dc u r j l e) [
    | inl c ↦ absurd (clash (x.dc == x.dm) (eq-eqb x.dc x.dm (sym c.0)) m.apart_dc)
    | inr e ↦ elim e [
      | inr c ↦ absurd (clash (x.mq == x.dc) (eq-eqb x.mq x.dc c.0) m.apart_both)
      | inl h ↦ (a, subst (λ k'. k ≤ k') (sym (same z y (t ∙ h.1))) o)
    ]
  ]
    where
      same : (z : Node) → In z hs → z.id ≡ c.id → width z ≡ width c
      same z y e = (
          let old = box-old z y (subst (λ n. has_box bs n ≡ true) (sym e) (in-has c bs in-c)) in
          old.1.1.1 ∙ ap width (same-box bs old.0 c w.ordered old.1.0 in-c (old.1.1.0 ∙ e)))

  fits-mq : (k : ℕ) → 1 ≤ k → k ≤ wd → Under x.mq k
  fits-mq k a o u z r j l e y t = elim (new-under x.mq m.new_mq u r j l e) [
    | inl c ↦ absurd (clash (x.mq == x.dm) (eq-eqb x.mq x.dm (sym c.0)) m.apart_mq)
    | inr e ↦ elim e [
      | inl c ↦ absurd (clash (x.mq == x.dc) (eq-eqb x.mq x.dc (sym c.0)) m.apart_both)
      | inr h ↦ (a, subst (λ k'. k ≤ k') (sym (same z y (t ∙ h.1))) o)
    ]
  ]
    where
      same : (z : Node) → In z hs → z.id ≡ s.id → width z ≡ width s
      same z y e = (
          let old = box-old z y (subst (λ n. has_box bs n ≡ true) (sym e) (in-has s bs in-s)) in
          old.1.1.1 ∙ ap width (same-box bs old.0 s w.ordered old.1.0 in-s (old.1.1.0 ∙ e)))

  fits-i : (k : ℕ) → 1 ≤ k → k ≤ n + v → Under i k
  fits-i k a o u z r j l e y t = elim (in-hs u j) [
    | inl c ↦ (
        let over : r.over ≡ x.d = (elim (cases_Bool (c.0.id == b.id)) [
          | inl f ↦ (
              let same : b ≡ c.0 = same-box bs b c.0 w.ordered in-b c.1.0 (sym (eqb-true c.0.id b.id f)) in
              turned-over r (subst (λ (z : List OwnedQuant). In r z) (ap (λ (k : Node). k.quants) (sym c.1.1) ∙ ap (λ (k : Node). (g k).quants) (sym same) ∙ quants-b) l) e)
          | inr f ↦ absurd (clash (owns i c.0) (any-from (is_quant i) r c.0.quants (subst (λ (z : List OwnedQuant). In r z) (ap (λ (k : Node). k.quants) (sym c.1.1) ∙ quants-same c.0 c.1.0 f) l) (eq-eqb r.id i e)) (not-own i own-i c.0 c.1.0 f))
        ]) in
        (a, subst (λ (y : Node). k ≤ width y) (box-d z y (t ∙ over)) (subst (λ k'. k ≤ k') (sym width-d) o)))
    | inr h ↦ absurd (elim h [
      | inl h ↦ elim (subst (λ (n : Node). In r n.quants) (sym h) l) [
        | inl n ↦ not-owned x.dm m.new_dm b in-b ri m.owned_i (sym e ∙ sym (ap (λ (z : OwnedQuant). z.id) n))
        | inr n ↦ elim n [ inl n ↦ not-owned x.dc m.new_dc b in-b ri m.owned_i (sym e ∙ sym (ap (λ (z : OwnedQuant). z.id) n)) | inr n ↦ elim n [ ] ]
      ]
      | inr h ↦ elim (subst (λ (n : Node). In r n.quants) (sym h) l) [
        | inl n ↦ not-owned x.mq m.new_mq b in-b ri m.owned_i (sym e ∙ sym (ap (λ (z : OwnedQuant). z.id) n))
        | inr n ↦ elim n [ ]
      ]
    ])
  ]

  as-fits : (q k : ℕ) → Under q k → Fits hs q k
  as-fits q k h = λ o r z j l e y t. h o z r j l e y t

  -- a column of p in range
  fits-p : (k : ℕ) → 1 ≤ k → k ≤ wd → Under p k
  fits-p k a o = fits-old p k (eq-false-sym i p (region.apart-ids xs ys root w b s c rp ri x m)) (any-from (owns p) b bs in-b own-p) (λ y r z j l e t u. (
      let same : y ≡ b = one-owner bs root w p y b j in-b (any-from (is_quant p) r y.quants l (eq-eqb r.id p e)) own-p in
      let one = first-own r b.quants (few-b r.id) (subst (λ (k : Node). In r k.quants) same l) in
      let two = first-own rp b.quants (few-b p) m.owned_p in
      let three : Some r ≡ Some rp = sym one ∙ ap (λ z. first (is_quant z) b.quants) e ∙ two in
      let k' : r ≡ rp = cc in
      let box : z ≡ s = same-box bs z s w.ordered t in-s (u ∙ ap (λ (r : OwnedQuant). r.over) k' ∙ m.over_s) in
      (a, subst (λ (y : Node). k ≤ width y) (sym box) o)))

  abbrev before : ℕ → ℕ → ℕ → ℕ → Bool
  before q k r j = (r == q) && (cond (r == i) (up n j) j == k)

  fits-b : (q k : ℕ) → reads_in q k b' ≡ true → Fits hs q k
  fits-b q k h = as-fits q k (elim (or_cases (list_any (reads_at q k) (map (fed_term i n (all_of ks)) b.parts.head)) (list_any (reads_at_cond q k) (map (fed_cond i n (all_of ks)) b.parts.conds.items ++ cond (is_F ri.kind) ks [])) h) [
    | inl a ↦ elim (terms-was i n (all_of ks) (λ r j. (r == q) && (j == k)) (before q k) (λ r. false) (λ r. false) (λ r. prelude.not (r == q)) before-other before-i b.parts.head a) [
      | inl z ↦ elim (cases_Bool (q == i)) [
        | inr f ↦ old f (or_left (list_any (reads_at q k) b.parts.head) (list_any (reads_at_cond q k) b.parts.conds.items) (heads-more (before q k) (λ r j. (r == q) && (j == k)) (λ r. false) (λ r. false) (λ r. false) (λ r. false) (λ r. prelude.not (r == q)) (λ r. prelude.not (r == q)) (back f) (λ r e. e) (λ r e. e) (λ r e. e) b.parts.head z))
        | inl f ↦ (let l = terms-read i (λ j. up n j == k) b.parts.head (heads-more (before q k) (λ r j. (r == i) && (up n j == k)) (λ r. false) (λ r. false) (λ r. false) (λ r. false) (λ r. prelude.not (r == q)) (λ r. prelude.not (r == i)) (at-i f) (λ r e. e) (λ r e. e) (λ r e. subst (λ k. prelude.not (r == k) ≡ true) (eqb-true q i f) e) b.parts.head z) in
            up-fits f l.0 l.1.0 (or_left (list_any (reads_at i l.0) b.parts.head) (list_any (reads_at_cond i l.0) b.parts.conds.items) l.1.1))
      ]
      | inr z ↦ join z.0 (all_of-any (looking (λ r j. (r == q) && (j == k)) (λ r. false) (λ r. false) (λ r. prelude.not (r == q))) ks z.1)
    ]
    | inr a ↦ elim (any-append (reads_at_cond q k) (map (fed_cond i n (all_of ks)) b.parts.conds.items) (cond (is_F ri.kind) ks []) a) [
      | inl y ↦ elim (conds-was i n (all_of ks) (λ r j. (r == q) && (j == k)) (before q k) (λ r. false) (λ r. false) (λ r. prelude.not (r == q)) before-other before-i b.parts.conds.items y) [
        | inl z ↦ elim (cases_Bool (q == i)) [
          | inr f ↦ old f (or_right (list_any (reads_at q k) b.parts.head) (list_any (reads_at_cond q k) b.parts.conds.items) (conds-more (before q k) (λ r j. (r == q) && (j == k)) (λ r. false) (λ r. false) (λ r. false) (λ r. false) (λ r. prelude.not (r == q)) (λ r. prelude.not (r == q)) (back f) (λ r e. e) (λ r e. e) (λ r e. e) b.parts.conds.items z))
          | inl f ↦ (let l = conds-read i (λ j. up n j == k) b.parts.conds.items (conds-more (before q k) (λ r j. (r == i) && (up n j == k)) (λ r. false) (λ r. false) (λ r. false) (λ r. false) (λ r. prelude.not (r == q)) (λ r. prelude.not (r == i)) (at-i f) (λ r e. e) (λ r e. e) (λ r e. subst (λ k. prelude.not (r == k) ≡ true) (eqb-true q i f) e) b.parts.conds.items z) in
              up-fits f l.0 l.1.0 (or_right (list_any (reads_at i l.0) b.parts.head) (list_any (reads_at_cond i l.0) b.parts.conds.items) l.1.1))
        ]
        | inr z ↦ join z.0 (all_of-any (looking (λ r j. (r == q) && (j == k)) (λ r. false) (λ r. false) (λ r. prelude.not (r == q))) ks z.1)
      ]
      | inr y ↦ at-end (cases_Bool (is_F ri.kind)) y
    ]
  ])
    where
      before-other : (r j : ℕ) → (r == i) ≡ false → ((r == q) && (j == k)) ≡ true → before q k r j ≡ true
      before-other r j f t = ap (λ (z : Bool). (r == q) && (cond z (up n j) j == k)) f ∙ t

      before-i : (j : ℕ) → ((i == q) && (up n j == k)) ≡ true → before q k i j ≡ true
      before-i j t = ap (λ (z : Bool). (i == q) && (cond z (up n j) j == k)) (eq-itself i) ∙ t

      back : (q == i) ≡ false → (r j : ℕ) → before q k r j ≡ true → ((r == q) && (j == k)) ≡ true
      back f r j t =
          let u = and_parts (r == q) (cond (r == i) (up n j) j == k) t in
          sym (ap (λ (z : Bool). (r == q) && (cond z (up n j) j == k)) (subst (λ z. (z == i) ≡ false) (sym (eqb-true r q u.0)) f)) ∙ t

      at-i : (q == i) ≡ true → (r j : ℕ) → before q k r j ≡ true → ((r == i) && (up n j == k)) ≡ true
      at-i f r j t =
          let u = and_parts (r == q) (cond (r == i) (up n j) j == k) t in
          let e : r ≡ i = eqb-true r q u.0 ∙ eqb-true q i f in
          and_from (r == i) (up n j == k) (eq-eqb r i e) (sym (ap (λ (z : Bool). cond z (up n j) j == k) (eq-eqb r i e)) ∙ u.1)

      old : (q == i) ≡ false → reads_in q k b ≡ true → Under q k
      old f t = fits-old q k f (read-owned bs root w b q in-b (reads-at-read q k b t)) (w.fits b in-b q k t)

      up-fits : (q == i) ≡ true → (j : ℕ) → (up n j == k) ≡ true → reads_in i j b ≡ true → Under q k
      up-fits f j t u =
          let fit = w.fits b in-b i j u b ri c in-b m.owned_i refl in-c (sym m.over_c) in
          subst (λ z. Under z k) (sym (eqb-true q i f)) (range j (eqb-true (up n j) k t) fit.0 fit.1)
        where
          range : (j : ℕ) → up n j ≡ k → 1 ≤ j → j ≤ v → Under i k
          range zero e a o = absurd (let z : ⊥ = omega (arith, a) in z)
          range (suc j) e a o = fits-i k (omega (arith, e)) (omega (arith, e, o))

      pair : (r j : ℕ) → ((r == q) && (j == k)) ≡ true → (r ≡ q) × (j ≡ k)
      pair r j t = let u = and_parts (r == q) (j == k) t in (eqb-true r q u.0, eqb-true j k u.1)

      of-p : (j : ℕ) → ((p == q) && (j == k)) ≡ true → 1 ≤ j → j < 1 + wd → Under q k
      of-p j t a o = let e = pair p j t in subst (λ z. Under z k) e.0 (subst (λ z. Under p z) e.1 (fits-p j a (omega (arith, o))))

      join : prelude.not (i == q) ≡ true → list_any (reads_at_cond q k) ks ≡ true → Under q k
      join nob t = elim (joins-any (looking (λ r j. (r == q) && (j == k)) (λ r. false) (λ r. false) (λ r. prelude.not (r == q))) named p i wd 1 1 t) [
        | inl z ↦ of-p z.0 z.1.0 z.1.1.1.0 z.1.1.1.1
        | inr z ↦ absurd (let e : prelude.not (i == q) ≡ false = ap prelude.not (and_parts (i == q) (z.0 == k) z.1.0).0 in clash (prelude.not (i == q)) nob e)
      ]

      at-end : (is_F ri.kind ≡ true) ⊎ (is_F ri.kind ≡ false) → list_any (reads_at_cond q k) (cond (is_F ri.kind) ks []) ≡ true → Under q k
      at-end (inr f) t = absurd (let e : false ≡ true = sym (ap (λ (z : Bool). list_any (reads_at_cond q k) (cond z ks [])) f) ∙ t in let z : ⊥ = cc in z)
      at-end (inl f) t = elim (joins-any (looking (λ r j. (r == q) && (j == k)) (λ r. false) (λ r. false) (λ r. prelude.not (r == q))) named p i wd 1 1 (sym (ap (λ (z : Bool). list_any (reads_at_cond q k) (cond z ks [])) f) ∙ t)) [
        | inl z ↦ of-p z.0 z.1.0 z.1.1.1.0 z.1.1.1.1
        | inr z ↦ (let e = pair i z.0 z.1.0 in let u = z.1.1.1 in subst (λ y. Under y k) e.0 (subst (λ y. Under i y) e.1 (fits-i z.0 z.1.1.0 (omega (arith, u)))))
      ]

  fits-after : (z : Node) → In z hs → (q k : ℕ) → reads_in q k z ≡ true → Fits hs q k
  fits-after = each (λ z. (q k : ℕ) → reads_in q k z ≡ true → Fits hs q k) fits-b
      (λ y j t q k h. as-fits q k (elim (put-read_at p (put_cells named x.dm 1 1 wd) y q k (not-node-p y j) h) [
        | inl a ↦ fits-old q k (not-i y j t q (reads-at-read q k y a.0)) (read-owned bs root w y q j (reads-at-read q k y a.0)) (w.fits y j q k a.0)
        | inr a ↦ (
            let l = put-cell (reads_at q k) named x.dm wd a.0 refl a.1.1 in
            let e = and_parts (x.dm == q) (l.0 == k) l.1.0 in
            subst (λ z. Under z k) (eqb-true x.dm q e.0) (subst (λ z. Under x.dm z) (eqb-true l.0 k e.1) (fits-dm l.0 l.1.1.0 l.1.1.1)))
      ]))
      (λ y j out nob q k h. as-fits q k (elim (put-read_at i (columns_from i (suc n) v) y q k (not-node-i y j nob) h) [
        | inl a ↦ fits-old q k a.1 (read-owned bs root w y q j (reads-at-read q k y a.0)) (w.fits y j q k a.0)
        | inr a ↦ (
            let l = columns-cell (reads_at q k) i v n a.0 refl a.1.1 in
            let e = and_parts (i == q) (n + a.0 == k) l.0 in
            let u = l.1.0 in let o = l.1.1 in
            subst (λ z. Under z k) (eqb-true i q e.0) (subst (λ z. Under i z) (eqb-true (n + a.0) k e.1) (fits-i (n + a.0) (omega (arith, u)) (omega (arith, o)))))
      ]))
      (λ q k h. as-fits q k (elim (or_cases (list_any (reads_at q k) d'.parts.head) false h) [
        | inr z ↦ none-true z
        | inl z ↦ elim (any-append (reads_at q k) (columns_from x.dm 1 n) (columns_from x.dc 1 v) z) [
          | inl a ↦ (let l = columns-list (reads_at q k) x.dm n 1 a in let e = and_parts (x.dm == q) (l.0 == k) l.1.0 in let o = l.1.1.1 in subst (λ z. Under z k) (eqb-true x.dm q e.0) (subst (λ z. Under x.dm z) (eqb-true l.0 k e.1) (fits-dm l.0 l.1.1.0 (omega (arith, o)))))
          | inr a ↦ (let l = columns-list (reads_at q k) x.dc v 1 a in let e = and_parts (x.dc == q) (l.0 == k) l.1.0 in let o = l.1.1.1 in subst (λ z. Under z k) (eqb-true x.dc q e.0) (subst (λ z. Under x.dc z) (eqb-true l.0 k e.1) (fits-dc l.0 l.1.1.0 (omega (arith, o)))))
        ]
      ]))
      (λ q k h. as-fits q k (elim (or_cases (list_any (reads_at q k) m'.parts.head) false h) [
        | inr z ↦ none-true z
        | inl z ↦ (let l = picked-list (reads_at q k) named x.mq wd 1 z in let e = and_parts (x.mq == q) (l.0 == k) l.1.0 in let o = l.1.1.1 in subst (λ z. Under z k) (eqb-true x.mq q e.0) (subst (λ z. Under x.mq z) (eqb-true l.0 k e.1) (fits-mq l.0 l.1.1.0 (omega (arith, o)))))
      ]))
    where
      not-i : (y : Node) → In y bs → ins y.id ≡ true → (q : ℕ) → read_by y q ≡ true → (q == i) ≡ false
      not-i y j t q h = elim (cases_Bool (q == i)) [
        | inr f ↦ f
        | inl e ↦ absurd (
            let hi : read_by y i ≡ true = subst (λ z. read_by y z ≡ true) (eqb-true q i e) h in
            elim (touched bs root w y i j (or_left (read_by y i) (Rattle.qgm_meaning.specs.Scope.under_any y.quants (loose bs) i) hi)) [
              | inl o ↦ clash (owns i y) o (not-own i own-i y j (in-apart y t))
              | inr o ↦ clash (loose bs y.id i) o (region.ins-i xs ys root w b s c rp ri x m y.id t)
            ])
      ]

  -- ---- nodes, bare boxes and arms

  nodes-owner : (q : ℕ) → nodes_in q b' ≡ true → nodes_in q b ≡ true
  nodes-owner q h = elim (or_cases (list_any (names q) (map (fed_term i n (all_of ks)) b.parts.head)) (list_any (names_cond q) (map (fed_cond i n (all_of ks)) b.parts.conds.items ++ cond (is_F ri.kind) ks [])) h) [
    | inl a ↦ elim (terms-was i n (all_of ks) (λ r j. false) (λ r j. false) (λ r. r == q) (λ r. r == q) (λ r. true) (λ r j f e. e) (λ j e. e) b.parts.head a) [
      | inl z ↦ or_left (list_any (names q) b.parts.head) (list_any (names_cond q) b.parts.conds.items) z
      | inr z ↦ join (all_of-any (looking (λ r j. false) (λ r. r == q) (λ r. r == q) (λ r. true)) ks z.1)
    ]
    | inr a ↦ elim (any-append (names_cond q) (map (fed_cond i n (all_of ks)) b.parts.conds.items) (cond (is_F ri.kind) ks []) a) [
      | inl y ↦ elim (conds-was i n (all_of ks) (λ r j. false) (λ r j. false) (λ r. r == q) (λ r. r == q) (λ r. true) (λ r j f e. e) (λ j e. e) b.parts.conds.items y) [
        | inl z ↦ or_right (list_any (names q) b.parts.head) (list_any (names_cond q) b.parts.conds.items) z
        | inr z ↦ join (all_of-any (looking (λ r j. false) (λ r. r == q) (λ r. r == q) (λ r. true)) ks z.1)
      ]
      | inr y ↦ at-end (cases_Bool (is_F ri.kind)) y
    ]
  ]
    where
      join : list_any (names_cond q) ks ≡ true → nodes_in q b ≡ true
      join t = elim (joins-any (looking (λ r j. false) (λ r. r == q) (λ r. r == q) (λ r. true)) named p i wd 1 1 t) [ inl z ↦ none-true z.1.0 | inr z ↦ none-true z.1.0 ]

      at-end : (is_F ri.kind ≡ true) ⊎ (is_F ri.kind ≡ false) → list_any (names_cond q) (cond (is_F ri.kind) ks []) ≡ true → nodes_in q b ≡ true
      at-end (inr f) t = none-true (sym (ap (λ (z : Bool). list_any (names_cond q) (cond z ks [])) f) ∙ t)
      at-end (inl f) t = join (sym (ap (λ (z : Bool). list_any (names_cond q) (cond z ks [])) f) ∙ t)

  own_nodes-after : (z : Node) → In z hs → (q : ℕ) → nodes_in q z ≡ true → (owns q z ≡ true) × (binds_row q z.quants ≡ false)
  own_nodes-after = each (λ z. (q : ℕ) → nodes_in q z ≡ true → (owns q z ≡ true) × (binds_row q z.quants ≡ false))
      (λ q h. (let a = w.own_nodes b in-b q (nodes-owner q h) in (turned-any i x.d (is_quant q) (λ r. refl) b.quants ∙ a.0, binds-turned q ∙ a.1)))
      (λ y j t q h. w.own_nodes y j q (put-node_of p (put_cells named x.dm 1 1 wd) y q (bare-put named x.dm wd 1 1) (not-node-p y j) h))
      (λ y j out nob q h. w.own_nodes y j q (put-node_of i (columns_from i (suc n) v) y q (bare-columns i v (suc n)) (not-node-i y j nob) h))
      (λ q h. absurd (elim (or_cases (list_any (names q) d'.parts.head) false h) [
        | inr z ↦ none-true z
        | inl z ↦ elim (any-append (names q) (columns_from x.dm 1 n) (columns_from x.dc 1 v) z) [ inl a ↦ none-true (columns-list (names q) x.dm n 1 a).1.0 | inr a ↦ none-true (columns-list (names q) x.dc v 1 a).1.0 ]
      ]))
      (λ q h. absurd (elim (or_cases (list_any (names q) m'.parts.head) false h) [ inr z ↦ none-true z | inl z ↦ none-true (picked-list (names q) named x.mq wd 1 z).1.0 ]))

  bare-after : (z : Node) → In z hs → BareBy z.parts.kind z
  bare-after = each (λ z. BareBy z.parts.kind z)
      (subst (λ k. BareBy k b') (sym m.a_select) tt)
      (λ y j t. below-bare y.parts.kind y (bare-kept y.parts.kind p (put_cells named x.dm 1 1 wd) y (w.bare y j)))
      (λ y j out nob. bare-kept y.parts.kind i (columns_from i (suc n) v) y (w.bare y j)) tt tt
    where
      below-bare : (k : BoxKind) (y : Node) → BareBy k (put_node p (put_cells named x.dm 1 1 wd) y) → BareBy k (fed_below named c.id p x.dm wd y)
      below-bare (Base t) y h = h
      below-bare Select y h = tt
      below-bare (Group k) y h = tt
      below-bare (SetOp o t) y h = h
      below-bare OuterJoin y h = tt

  arms-after : (z u : Node) (r : OwnedQuant) → In z hs → In r z.quants → In u hs → u.id ≡ r.over → ArmsBy z.parts.kind (width u) (width z)
  arms-after z u r j k l e = each (λ z. In r z.quants → ArmsBy z.parts.kind (width u) (width z))
      (λ k. subst (λ t. ArmsBy t (width u) (width b')) (sym m.a_select) tt)
      (λ y j t k. kept y j (fed_below named c.id p x.dm wd y) refl (ap (width_by y.parts.kind) (length-map (substituted p (put_cells named x.dm 1 1 wd)) y.parts.head)) k)
      (λ y j out nob k. kept y j (put_node i (columns_from i (suc n) v) y) refl (ap (width_by y.parts.kind) (length-map (substituted i (columns_from i (suc n) v)) y.parts.head)) k)
      (λ k. tt) (λ k. tt) z j k
    where
      kept : (y : Node) → In y bs → (z : Node) → z.parts.kind ≡ y.parts.kind → width z ≡ width y → In r y.quants → ArmsBy z.parts.kind (width u) (width z)
      kept y j z same wide k =
          let old = box-old u l (subst (λ n. has_box bs n ≡ true) (sym e) (overs-held bs y r w.ordered j k)) in
          subst (λ t. ArmsBy t (width u) (width z)) (sym same) (subst (λ n. ArmsBy y.parts.kind (width u) n) (sym wide) (subst (λ n. ArmsBy y.parts.kind n (width y)) (sym old.1.1.1) (w.arms y old.0 r j k old.1.0 (old.1.1.0 ∙ e))))

  pub local-after : Local hs root
  local-after = record {
    ordered = order.ordered-after xs ys root w b s c rp ri x m;
    rooted = order.rooted-after xs ys root w b s c rp ri x m;
    once = once-after;
    top = top-after;
    fits = fits-after;
    own_nodes = own_nodes-after;
    bare = bare-after;
    arms = arms-after;
  }

  pub sound-after : Sound hs root
  sound-after = sound-by look hs root local-after scoped-after settled-after used-after

pub feed-sound : FeedSound
feed-sound = λ xs ys root w b s c p i x m. sound-after xs ys root w b s c p i x m
