-- Scope after feeding: what each box looks up is shown to it or looked up above.
use Rattle.std.specs.Prelude as prelude
use Rattle.std.specs.Prelude.{⊤}
use Rattle.std.proofs.Common.{ℕ, zero, suc, ◌==◌, ◌≡◌, ◌&&◌, ◌||◌, ◌+◌, ◌≤◌, cond, Bool, true, false, List, [], ◌∷◌, ◌++◌, map, length, take, Some, refl, sym, ap, ap₂, subst, ◌∙◌, eqb-true, ◌⊎◌, inl, inr, arith}
use Rattle.std.specs.List.{list_all, list_any}
use Rattle.std.proofs.lemmas.Bool.{and_from, and_parts, cases_Bool, eq-eqb, or_cases, or_left, or_parts, or_right}
use Rattle.qgm_core.specs.Boxes.{has_box, ids_of, is_quant, owns, width}
use Rattle.qgm_core.specs.Edits.{range}
use Rattle.qgm_core.specs.Kinds.{is_F}
use Rattle.list_laws.specs.Lists.{In, first, times}
use Rattle.qgm_core.specs.declared.kinds.BoxKind.{BoxKind}
use Rattle.qgm_core.specs.declared.kinds.BoxKind.TheVariants.{Base, Select, Group, SetOp, OuterJoin}
use Rattle.qgm_core.specs.declared.kinds.QuantKind.TheVariants.{F}
use Rattle.qgm_core.specs.declared.node.Node.{Node}
use Rattle.qgm_core.specs.declared.owned.OwnedQuant.{OwnedQuant}
use Rattle.qgm_meaning.specs.Scope.{loose, put_node, read_by}
use Rattle.qgm_meaning.specs.Searches.{looking, names, names_cond}
use Rattle.qgm_meaning.specs.Tags.{columns_from}
use Rattle.qgm_terms.specs.Substitution.{cell_at, substituted, substituted_cond}
use Rattle.qgm_terms.specs.Terms.{Cond, Term}
use Rattle.qgm_terms.specs.Wanted.{any_in, any_in_cond, reads, reads_at, reads_at_cond, reads_cond}
use Rattle.qgm_edit_laws.specs.Checked.{own_seen}
use Rattle.qgm_edit_laws.specs.Graph.{BareBy, Sound, binds_row, nodes_in, reads_in}
use Rattle.qgm_edit_laws.specs.Scoped.{Scoped, shows_by}
use Rattle.qgm_edit_laws.proofs.Adds.{read-owned, reads-at-read, seen-owned}
use Rattle.qgm_edit_laws.proofs.AnyPut.{conds-put, heads-bare, heads-put}
use Rattle.qgm_edit_laws.proofs.Edits.{any-append}
use Rattle.qgm_edit_laws.proofs.Interposed.{over_now, turned, turned-any, turned-ids, turned-split}
use Rattle.qgm_edit_laws.proofs.Ranks.{same-box}
use Rattle.qgm_edit_laws.proofs.Scope.{bound-owned, loose-held, one-owner}
use Rattle.qgm_edit_laws.proofs.Scoped.{few-ids, scoped-of}
use Rattle.qgm_edit_laws.proofs.Turns.{first-own}
use Rattle.qgm_edit_laws.proofs.ShapePut.{bare-cell}
use Rattle.rule_feed.specs.Feed.{Numbers, all_of, fed_below, fed_boxes, fed_cond, fed_node, fed_owner, fed_term, joins, new_fed, new_magic, put_cells}
use Rattle.rule_feed.specs.FeedLaws.{FeedsOne}
use Rattle.rule_feed.proofs.FeedRegion as region
use Rattle.rule_feed.proofs.FeedOrder as order
use Rattle.rule_feed.proofs.FeedReads.{all_of-any, columns-cell, columns-list, conds-was, joins-any, picked-list, put-cell, terms-was}
use Rattle.list_laws.proofs.Membership.{any-from, any-in, eq-itself, in-append, in-left, in-map, in-right}
use Rattle.list_laws.proofs.Booleans.{clash}

-- what is shown is owned
pub shows-owned : (kind : BoxKind) (all done : List OwnedQuant) (r : OwnedQuant) (rest : List OwnedQuant) (q : ℕ) → all ≡ done ++ r ∷ rest → shows_by kind all done r q ≡ true → list_any (is_quant q) all ≡ true
shows-owned (Base t) all done r rest q e h = absurd (let z : ⊥ = cc in z)
shows-owned Select all done r rest q e h = elim (is_F r.kind) as (λ b. cond b (binds_row q done) (binds_row q all) ≡ true → list_any (is_quant q) all ≡ true) [
  | true ↦ λ h. (let y = any-in (is_quant q) done (bound-owned q done h) in any-from (is_quant q) y.0 all (subst (λ z. In y.0 z) (sym e) (in-left y.0 done (r ∷ rest) y.1.0)) y.1.1)
  | false ↦ λ h. bound-owned q all h
] h
shows-owned (Group k) all done r rest q e h = absurd (let z : ⊥ = cc in z)
shows-owned (SetOp o t) all done r rest q e h = absurd (let z : ⊥ = cc in z)
shows-owned OuterJoin all done r rest q e h = absurd (let z : ⊥ = cc in z)

pub seen-same : (k : BoxKind) (a z : Node) (q : ℕ) → z.quants ≡ a.quants → own_seen k z q ≡ own_seen k a q
seen-same (Base t) a z q e = refl
seen-same Select a z q e = ap (binds_row q) e
seen-same (Group k) a z q e = ap (λ (rs : List OwnedQuant). list_any (is_quant q) (take 1 rs)) e
seen-same (SetOp o t) a z q e = refl
seen-same OuterJoin a z q e = ap (λ (rs : List OwnedQuant). list_any (is_quant q) (take 2 rs)) e

-- what is found after cells were put in
module _ (q : ℕ) (cells : List Term) (column : ℕ → ℕ → Bool) (cell node enter : ℕ → Bool) (A : Type 0)
    (hc : (r k : ℕ) → (r == q) ≡ false → column r k ≡ true → A) (hs : (r : ℕ) → (r == q) ≡ false → cell r ≡ true → A) (hn : (r : ℕ) → (r == q) ≡ false → node r ≡ true → A) where
  abbrev found_in : Node → Bool
  found_in y = list_any (any_in (looking column cell node enter)) y.parts.head || list_any (any_in_cond (looking column cell node enter)) y.parts.conds.items

  pub put-found : (y : Node) → nodes_in q y ≡ false → found_in (put_node q cells y) ≡ true → ((found_in y ≡ true) × A) ⊎ ((j : ℕ) × ((reads_in q j y ≡ true) × (any_in (looking column cell node enter) (cell_at j cells) ≡ true)))
  put-found y nod t =
      let n = or_parts (list_any (names q) y.parts.head) (list_any (names_cond q) y.parts.conds.items) nod in
      elim (or_cases (list_any (any_in (looking column cell node enter)) (map (substituted q cells) y.parts.head)) (list_any (any_in_cond (looking column cell node enter)) (map (substituted_cond q cells) y.parts.conds.items)) t) [
        | inl a ↦ elim (heads-put q cells column cell node enter A hc hs hn y.parts.head n.0 a) [
          | inl z ↦ inl (or_left (list_any (any_in (looking column cell node enter)) y.parts.head) (list_any (any_in_cond (looking column cell node enter)) y.parts.conds.items) z.0, z.1)
          | inr z ↦ inr (z.0, (or_left (list_any (reads_at q z.0) y.parts.head) (list_any (reads_at_cond q z.0) y.parts.conds.items) z.1.0, z.1.1))
        ]
        | inr a ↦ elim (conds-put q cells column cell node enter A hc hs hn y.parts.conds.items n.1 a) [
          | inl z ↦ inl (or_right (list_any (any_in (looking column cell node enter)) y.parts.head) (list_any (any_in_cond (looking column cell node enter)) y.parts.conds.items) z.0, z.1)
          | inr z ↦ inr (z.0, (or_right (list_any (reads_at q z.0) y.parts.head) (list_any (reads_at_cond q z.0) y.parts.conds.items) z.1.0, z.1.1))
        ]
      ]

pub none-true : {X : Type 0} → false ≡ true → X
none-true h = absurd (let z : ⊥ = cc in z)

-- a read after is one of before, of another quantifier, or in a cell whose column is read
put-read : (q : ℕ) (cells : List Term) (y : Node) (z : ℕ) → nodes_in q y ≡ false → read_by (put_node q cells y) z ≡ true → ((read_by y z ≡ true) × ((z == q) ≡ false)) ⊎ ((j : ℕ) × ((reads_in q j y ≡ true) × (reads z (cell_at j cells) ≡ true)))
put-read q cells y z nod t = put-found q cells (λ r k. r == z) (λ r. false) (λ r. false) (λ r. prelude.not (r == z)) ((z == q) ≡ false) (λ r k f e. subst (λ u. (u == q) ≡ false) (eqb-true r z e) f) (λ r f e. none-true e) (λ r f e. none-true e) y nod t

pub put-read_at : (q : ℕ) (cells : List Term) (y : Node) (z k : ℕ) → nodes_in q y ≡ false → reads_in z k (put_node q cells y) ≡ true → ((reads_in z k y ≡ true) × ((z == q) ≡ false)) ⊎ ((j : ℕ) × ((reads_in q j y ≡ true) × (reads_at z k (cell_at j cells) ≡ true)))
put-read_at q cells y z k nod t = put-found q cells (λ r j. (r == z) && (j == k)) (λ r. false) (λ r. false) (λ r. prelude.not (r == z)) ((z == q) ≡ false) (λ r j f e. subst (λ u. (u == q) ≡ false) (eqb-true r z (and_parts (r == z) (j == k) e).0) f) (λ r f e. none-true e) (λ r f e. none-true e) y nod t

pub put-node_of : (q : ℕ) (cells : List Term) (y : Node) (z : ℕ) → list_all Rattle.qgm_meaning.specs.Searches.bare cells ≡ true → nodes_in q y ≡ false → nodes_in z (put_node q cells y) ≡ true → nodes_in z y ≡ true
put-node_of q cells y z bare nod t = elim (put-found q cells (λ r k. false) (λ r. r == z) (λ r. r == z) (λ r. true) ⊤ (λ r k f e. none-true e) (λ r f e. tt) (λ r f e. tt) y nod t) [
  | inl a ↦ a.0
  | inr a ↦ absurd (clash (list_any (names z) (cell_at a.0 cells ∷ [])) (or_left (names z (cell_at a.0 cells)) false a.1.1) (heads-bare z (cell_at a.0 cells ∷ []) (ap (λ b. b && true) (bare-cell cells a.0 bare))))
]

pub bare-kept : (k : BoxKind) (q : ℕ) (cells : List Term) (y : Node) → BareBy k y → BareBy k (put_node q cells y)
bare-kept (Base t) q cells y h = (h.0, ap (map (substituted q cells)) h.1, ap (map (substituted_cond q cells)) h.2)
bare-kept Select q cells y h = tt
bare-kept (Group k) q cells y h = tt
bare-kept (SetOp o t) q cells y h = (ap (map (substituted q cells)) h.0, ap (map (substituted_cond q cells)) h.1)
bare-kept OuterJoin q cells y h = tt

pub append-length : (ks ls : List Term) → length (ks ++ ls) ≡ length ks + length ls
append-length [] ls = let e : length ls ≡ 0 + length ls = omega arith in e
append-length (a ∷ ks) ls = ap suc (append-length ks ls) ∙ (let e : suc (length ks + length ls) ≡ suc (length ks) + length ls = omega arith in e)

pub columns-length : (q k w : ℕ) → length (columns_from q k w) ≡ w
columns-length q k zero = refl
columns-length q k (suc w) = ap suc (columns-length q (suc k) w)

module _ (xs ys : List Node) (root : ℕ) (w : Sound (xs ++ ys) root) (b s c : Node) (rp ri : OwnedQuant) (x : Numbers) (m : FeedsOne xs ys root b s c rp ri x) where
  abbrev pub bs : List Node
  bs = xs ++ ys

  abbrev pub p : ℕ
  p = rp.id

  abbrev pub i : ℕ
  i = ri.id

  abbrev pub named : ℕ → Bool
  named = region.named xs ys root w b s c rp ri x m

  abbrev pub ins : ℕ → Bool
  ins = region.ins xs ys root w b s c rp ri x m

  abbrev pub wd : ℕ
  wd = width s

  abbrev pub n : ℕ
  n = region.n xs ys root w b s c rp ri x m

  abbrev pub v : ℕ
  v = width c

  abbrev pub g : Node → Node
  g = fed_node (xs ++ ys) b s c rp ri x

  abbrev pub d' : Node
  d' = new_fed (xs ++ ys) b s c rp ri x

  abbrev pub m' : Node
  m' = new_magic (xs ++ ys) b s c rp ri x

  abbrev pub hs : List Node
  hs = fed_boxes xs ys b s c rp ri x

  pub in-b : In b bs
  in-b = region.in-b xs ys root w b s c rp ri x m

  pub in-s : In s bs
  in-s = region.in-s xs ys root w b s c rp ri x m

  pub in-c : In c bs
  in-c = region.in-c xs ys root w b s c rp ri x m

  pub id : (y : Node) → (g y).id ≡ y.id
  id = order.id xs ys root w b s c rp ri x m

  pub own-p : owns p b ≡ true
  own-p = region.own xs ys root w b s c rp ri x m b rp m.owned_p

  pub own-i : owns i b ≡ true
  own-i = region.own xs ys root w b s c rp ri x m b ri m.owned_i

  pub few-b : (q : ℕ) → times q (ids_of b) ≤ 1
  few-b q = few-ids bs b q (w.once q) in-b

  pub nodes-none : (q : ℕ) → owns q b ≡ true → binds_row q b.quants ≡ true → (y : Node) → In y bs → nodes_in q y ≡ false
  nodes-none q o t y j = elim (cases_Bool (nodes_in q y)) [
    | inr f ↦ f
    | inl h ↦ absurd (let z = w.own_nodes y j q h in clash (binds_row q b.quants) t (subst (λ (k : Node). binds_row q k.quants ≡ false) (one-owner bs root w q y b j in-b z.0 o) z.1))
  ]

  pub binds-p : binds_row p b.quants ≡ true
  binds-p = any-from (λ r. is_F r.kind && is_quant p r) rp b.quants m.owned_p (and_from (is_F rp.kind) (p == p) m.p_binds (eq-itself p))

  pub not-node-p : (y : Node) → In y bs → nodes_in p y ≡ false
  not-node-p = nodes-none p own-p binds-p

  -- nodes of i stand in b alone
  pub not-node-i : (y : Node) → In y bs → (y.id == b.id) ≡ false → nodes_in i y ≡ false
  not-node-i y j f = elim (cases_Bool (nodes_in i y)) [
    | inr k ↦ k
    | inl h ↦ absurd (let z = w.own_nodes y j i h in clash (y.id == b.id) (eq-eqb y.id b.id (ap (λ (k : Node). k.id) (one-owner bs root w i y b j in-b z.0 own-i))) f)
  ]

  -- ---- what is looked up after

  abbrev pub look : ℕ → ℕ → Bool
  look z q = cond (ins z) (cond (q == x.dm) (loose bs z p) (cond (q == p) false (loose bs z q))) (loose bs z q)

  pub look-out : (z q : ℕ) → ins z ≡ false → look z q ≡ loose bs z q
  look-out z q t = ap (λ (k : Bool). cond k (cond (q == x.dm) (loose bs z p) (cond (q == p) false (loose bs z q))) (loose bs z q)) t

  pub look-dm : (z : ℕ) → ins z ≡ true → look z x.dm ≡ loose bs z p
  look-dm z t = ap (λ (k : Bool). cond k (cond (x.dm == x.dm) (loose bs z p) (cond (x.dm == p) false (loose bs z x.dm))) (loose bs z x.dm)) t ∙ ap (λ (k : Bool). cond k (loose bs z p) (cond (x.dm == p) false (loose bs z x.dm))) (eq-itself x.dm)

  pub look-else : (z q : ℕ) → ins z ≡ true → (q == x.dm) ≡ false → (q == p) ≡ false → look z q ≡ loose bs z q
  look-else z q t u k =
      ap (λ (k : Bool). cond k (cond (q == x.dm) (loose bs z p) (cond (q == p) false (loose bs z q))) (loose bs z q)) t
      ∙ ap (λ (k : Bool). cond k (loose bs z p) (cond (q == p) false (loose bs z q))) u ∙ ap (λ (k : Bool). cond k false (loose bs z q)) k

  abbrev pub Inside : ℕ → ℕ → Type 0
  Inside z q = ((q ≡ x.dm) × (loose bs z p ≡ true)) ⊎ (((q == x.dm) ≡ false) × (((q == p) ≡ false) × (loose bs z q ≡ true)))

  pub look-in : (z q : ℕ) → ins z ≡ true → look z q ≡ true → Inside z q
  look-in z q t h = elim (cases_Bool (q == x.dm)) [
    | inl u ↦ inl (eqb-true q x.dm u, sym (look-dm z t) ∙ subst (λ k. look z k ≡ true) (eqb-true q x.dm u) h)
    | inr u ↦ elim (cases_Bool (q == p)) [
      | inr k ↦ inr (u, (k, sym (look-else z q t u k) ∙ h))
      | inl k ↦ absurd (clash (look z q) h (
          ap (λ (k : Bool). cond k (cond (q == x.dm) (loose bs z p) (cond (q == p) false (loose bs z q))) (loose bs z q)) t
          ∙ ap (λ (k : Bool). cond k (loose bs z p) (cond (q == p) false (loose bs z q))) u ∙ ap (λ (k : Bool). cond k false (loose bs z q)) k))
    ]
  ]

  -- what is looked up after comes of something that was
  pub look-some : (z q : ℕ) → look z q ≡ true → (y : ℕ) × (loose bs z y ≡ true)
  look-some z q h = elim (cases_Bool (ins z)) [
    | inr t ↦ (q, sym (look-out z q t) ∙ h)
    | inl t ↦ elim (look-in z q t h) [ inl a ↦ (p, a.1) | inr a ↦ (q, a.1.1) ]
  ]

  -- a box that looks nothing up
  pub look-none : (z q : ℕ) → ((y : ℕ) → loose bs z y ≡ false) → look z q ≡ false
  look-none z q h = elim (cases_Bool (look z q)) [ inr f ↦ f | inl t ↦ absurd (let a = look-some z q t in clash (loose bs z a.0) a.1 (h a.0)) ]

  pub new-none : (z : ℕ) → has_box bs z ≡ false → (y : ℕ) → loose bs z y ≡ false
  new-none z h y = elim (cases_Bool (loose bs z y)) [ inr f ↦ f | inl t ↦ absurd (clash (has_box bs z) (loose-held bs z y t) h) ]

  -- ---- scope, box by box

  pub not-own : (q : ℕ) → owns q b ≡ true → (y : Node) → In y bs → (y.id == b.id) ≡ false → owns q y ≡ false
  not-own q o y j f = elim (cases_Bool (owns q y)) [
    | inr k ↦ k
    | inl t ↦ absurd (clash (y.id == b.id) (eq-eqb y.id b.id (ap (λ (k : Node). k.id) (one-owner bs root w q y b j in-b t o))) f)
  ]

  pub in-apart : (y : Node) → ins y.id ≡ true → (y.id == b.id) ≡ false
  in-apart y t = elim (cases_Bool (y.id == b.id)) [ inr f ↦ f | inl e ↦ absurd (clash (ins b.id) (subst (λ z. ins z ≡ true) (eqb-true y.id b.id e) t) (region.ins-b xs ys root w b s c rp ri x m)) ]

  pub below-scoped : (y : Node) → In y bs → ins y.id ≡ true → Scoped look (fed_below named c.id p x.dm wd y)
  below-scoped y j t = record {
    under = λ done r rest e q h. (
        let k : In r y.quants = subst (λ z. In r z) (sym e) (in-right r done (r ∷ rest) (inl refl)) in
        let down = (region.drops xs ys root w b s c rp ri x m).closed y r j t k in
        elim (look-in r.over q down h) [
          | inl a ↦ (
              elim (or_cases (shows_by y.parts.kind y.quants done r p) (loose bs y.id p) (sc.under done r rest e p a.1)) [
                | inl z ↦ absurd (clash (owns p y) (shows-owned y.parts.kind y.quants done r rest p e z) (not-own p own-p y j (in-apart y t)))
                | inr z ↦ or_right (shows_by y.parts.kind y.quants done r q) (look y.id q) (subst (λ k. look y.id k ≡ true) (sym a.0) (look-dm y.id t ∙ z))
              ])
          | inr a ↦ elim (or_cases (shows_by y.parts.kind y.quants done r q) (loose bs y.id q) (sc.under done r rest e q a.1.1)) [
            | inl z ↦ or_left (shows_by y.parts.kind y.quants done r q) (look y.id q) z
            | inr z ↦ or_right (shows_by y.parts.kind y.quants done r q) (look y.id q) (look-else y.id q t a.0 a.1.0 ∙ z)
          ]
        ]);
    own = λ q h. ap (λ (k : Bool). k || look y.id q) (seen-same y.parts.kind y (fed_below named c.id p x.dm wd y) q refl) ∙ own-below q h;
  }
    where
      sc : Scoped (loose bs) y
      sc = scoped-of bs root w y j

      not-dm : (q : ℕ) → list_any (owns q) bs ≡ true → (q == x.dm) ≡ false
      not-dm q o = elim (cases_Bool (q == x.dm)) [ inr f ↦ f | inl e ↦ absurd (clash (list_any (owns x.dm) bs) (subst (λ k. list_any (owns k) bs ≡ true) (eqb-true q x.dm e) o) m.new_dm) ]

      own-below : (q : ℕ) → read_by (fed_below named c.id p x.dm wd y) q ≡ true → (own_seen y.parts.kind y q || look y.id q) ≡ true
      own-below q h = elim (put-read p (put_cells named x.dm 1 1 wd) y q (not-node-p y j) h) [
        | inl a ↦ elim (or_cases (own_seen y.parts.kind y q) (loose bs y.id q) (sc.own q a.0)) [
          | inl z ↦ or_left (own_seen y.parts.kind y q) (look y.id q) z
          | inr z ↦ or_right (own_seen y.parts.kind y q) (look y.id q) (look-else y.id q t (not-dm q (read-owned bs root w y q j a.0)) a.1 ∙ z)
        ]
        | inr a ↦ (
            let l = put-cell (reads q) named x.dm wd a.0 refl a.1.1 in
            let e : x.dm ≡ q = eqb-true x.dm q l.1.0 in
            let rd = reads-at-read p a.0 y a.1.0 in
            elim (or_cases (own_seen y.parts.kind y p) (loose bs y.id p) (sc.own p rd)) [
              | inl z ↦ absurd (clash (owns p y) (seen-owned y.parts.kind y p z) (not-own p own-p y j (in-apart y t)))
              | inr z ↦ or_right (own_seen y.parts.kind y q) (look y.id q) (subst (λ k. look y.id k ≡ true) e (look-dm y.id t ∙ z))
            ])
      ]

  -- under a quantifier of a box that c doesn't reach, beside i
  pub look-under : (y : Node) (r : OwnedQuant) (q : ℕ) → In y bs → In r y.quants → ins y.id ≡ false → ((y ≡ b) → (r.id == i) ≡ false) → look r.over q ≡ true → loose bs r.over q ≡ true
  look-under y r q j k out nob h = elim (cases_Bool (ins r.over)) [
    | inr t ↦ sym (look-out r.over q t) ∙ h
    | inl t ↦ absurd (clash (look r.over q) h (look-none r.over q (region.out-closed xs ys root w b s c rp ri x m y r j k out nob t)))
  ]

  pub other-scoped : (y : Node) → In y bs → ins y.id ≡ false → (y.id == b.id) ≡ false → Scoped look (put_node i (columns_from i (suc n) v) y)
  other-scoped y j out nob = record {
    under = λ done r rest e q h. (
        let k : In r y.quants = subst (λ z. In r z) (sym e) (in-right r done (r ∷ rest) (inl refl)) in
        let l = look-under y r q j k out (λ z. absurd (clash (y.id == b.id) (eq-eqb y.id b.id (ap (λ (u : Node). u.id) z)) nob)) h in
        ap (λ (z : Bool). shows_by y.parts.kind y.quants done r q || z) (look-out y.id q out) ∙ sc.under done r rest e q l);
    own = λ q h. ap₂ (λ (u z : Bool). u || z) (seen-same y.parts.kind y (put_node i (columns_from i (suc n) v) y) q refl) (look-out y.id q out) ∙ sc.own q (elim (put-read i (columns_from i (suc n) v) y q (not-node-i y j nob) h) [
      | inl a ↦ a.0
      | inr a ↦ (
          let l = columns-cell (reads q) i v n a.0 refl a.1.1 in
          subst (λ z. read_by y z ≡ true) (eqb-true i q l.0) (reads-at-read i a.0 y a.1.0))
    ]);
  }
    where
      sc : Scoped (loose bs) y
      sc = scoped-of bs root w y j

  abbrev pub b' : Node
  b' = fed_owner named p ri x.d wd b

  abbrev pub ks : List Cond
  ks = joins named p i 1 1 wd

  -- of these the one of i's number ranges over the fed box
  pub turned-over : (r : OwnedQuant) → In r (turned i x.d b.quants) → r.id ≡ i → r.over ≡ x.d
  turned-over r j e =
      let once : times r.id (map (λ (r : OwnedQuant). r.id) (turned i x.d b.quants)) ≤ 1 = subst (λ z. times r.id z ≤ 1) (sym (turned-ids i x.d b.quants)) (few-b r.id) in
      let one = first-own r (turned i x.d b.quants) once j in
      let two = first-i b.quants (first-own ri b.quants (few-b i) m.owned_i) in
      let same : Some r ≡ Some (over_now x.d ri) = sym one ∙ ap (λ z. first (is_quant z) (turned i x.d b.quants)) e ∙ two in
      let k : r ≡ over_now x.d ri = cc in
      ap (λ (z : OwnedQuant). z.over) k
    where
      first-i : (rs : List OwnedQuant) → first (is_quant i) rs ≡ Some ri → first (is_quant i) (turned i x.d rs) ≡ Some (over_now x.d ri)
      first-i [] h = absurd (let z : ⊥ = cc in z)
      first-i (r ∷ rs) h = elim (cases_Bool (r.id == i)) [
        | inl t ↦ (
            let e : Some r ≡ Some ri = sym (ap (λ (z : Bool). cond z (Some r) (first (is_quant i) rs)) t) ∙ h in
            let k : r ≡ ri = cc in
            ap (λ (z : Bool). first (is_quant i) (cond z (over_now x.d r ∷ rs) (r ∷ turned i x.d rs))) t ∙ ap (λ (z : Bool). cond z (Some (over_now x.d r)) (first (is_quant i) rs)) t ∙ ap (λ (z : OwnedQuant). Some (over_now x.d z)) k)
        | inr t ↦ ap (λ (z : Bool). first (is_quant i) (cond z (over_now x.d r ∷ rs) (r ∷ turned i x.d rs))) t ∙ ap (λ (z : Bool). cond z (Some r) (first (is_quant i) (turned i x.d rs))) t
            ∙ first-i rs (sym (ap (λ (z : Bool). cond z (Some r) (first (is_quant i) rs)) t) ∙ h)
      ]

  pub ins-b : ins b.id ≡ false
  ins-b = region.ins-b xs ys root w b s c rp ri x m

  pub binds-turned : (q : ℕ) → binds_row q (turned i x.d b.quants) ≡ binds_row q b.quants
  binds-turned q = turned-any i x.d (λ r. is_F r.kind && is_quant q r) (λ r. refl) b.quants

  pub seen-b : (q : ℕ) → binds_row q b.quants ≡ true → own_seen b'.parts.kind b' q ≡ true
  seen-b q h = ap (λ k. own_seen k b' q) m.a_select ∙ binds-turned q ∙ h

  -- what b reads after
  pub owner-read : (q : ℕ) → read_by b' q ≡ true → (read_by b q ≡ true) ⊎ (binds_row q b.quants ≡ true)
  owner-read q h = elim (or_cases (list_any (reads q) (map (fed_term i n (all_of ks)) b.parts.head)) (list_any (reads_cond q) (map (fed_cond i n (all_of ks)) b.parts.conds.items ++ cond (is_F ri.kind) ks [])) h) [
    | inl a ↦ elim (terms-was i n (all_of ks) (λ r j. r == q) (λ r j. r == q) (λ r. false) (λ r. false) (λ r. prelude.not (r == q)) (λ r j f e. e) (λ j e. e) b.parts.head a) [
      | inl z ↦ inl (or_left (list_any (reads q) b.parts.head) (list_any (reads_cond q) b.parts.conds.items) z)
      | inr z ↦ inr (join z.0 (all_of-any (looking (λ r j. r == q) (λ r. false) (λ r. false) (λ r. prelude.not (r == q))) ks z.1))
    ]
    | inr a ↦ elim (any-append (reads_cond q) (map (fed_cond i n (all_of ks)) b.parts.conds.items) (cond (is_F ri.kind) ks []) a) [
      | inl y ↦ elim (conds-was i n (all_of ks) (λ r j. r == q) (λ r j. r == q) (λ r. false) (λ r. false) (λ r. prelude.not (r == q)) (λ r j f e. e) (λ j e. e) b.parts.conds.items y) [
        | inl z ↦ inl (or_right (list_any (reads q) b.parts.head) (list_any (reads_cond q) b.parts.conds.items) z)
        | inr z ↦ inr (join z.0 (all_of-any (looking (λ r j. r == q) (λ r. false) (λ r. false) (λ r. prelude.not (r == q))) ks z.1))
      ]
      | inr y ↦ inr (at-end (cases_Bool (is_F ri.kind)) y)
    ]
  ]
    where
      of-p : (p == q) ≡ true → binds_row q b.quants ≡ true
      of-p e = subst (λ z. binds_row z b.quants ≡ true) (eqb-true p q e) binds-p

      join : prelude.not (i == q) ≡ true → list_any (reads_cond q) ks ≡ true → binds_row q b.quants ≡ true
      join nob t = elim (joins-any (looking (λ r j. r == q) (λ r. false) (λ r. false) (λ r. prelude.not (r == q))) named p i wd 1 1 t) [
        | inl z ↦ of-p z.1.0
        | inr z ↦ absurd (let e : prelude.not (i == q) ≡ false = ap prelude.not z.1.0 in clash (prelude.not (i == q)) nob e)
      ]

      at-end : (is_F ri.kind ≡ true) ⊎ (is_F ri.kind ≡ false) → list_any (reads_cond q) (cond (is_F ri.kind) ks []) ≡ true → binds_row q b.quants ≡ true
      at-end (inr f) t = absurd (let e : false ≡ true = sym (ap (λ (k : Bool). list_any (reads_cond q) (cond k ks [])) f) ∙ t in let z : ⊥ = cc in z)
      at-end (inl f) t = elim (joins-any (looking (λ r j. r == q) (λ r. false) (λ r. false) (λ r. prelude.not (r == q))) named p i wd 1 1 (sym (ap (λ (k : Bool). list_any (reads_cond q) (cond k ks [])) f) ∙ t)) [
        | inl z ↦ of-p z.1.0
        | inr z ↦ subst (λ z. binds_row z b.quants ≡ true) (eqb-true i q z.1.0) (any-from (λ r. is_F r.kind && is_quant i r) ri b.quants m.owned_i (and_from (is_F ri.kind) (i == i) f (eq-itself i)))
      ]

  pub owner-scoped : Scoped look b'
  owner-scoped = record {
    under = λ done r rest e q h. (
        let k : In r (turned i x.d b.quants) = subst (λ z. In r z) (sym e) (in-right r done (r ∷ rest) (inl refl)) in
        let sp = turned-split i x.d b.quants done r rest e in
        elim sp.1.1.1.1.1.1 [
          | inr a ↦ absurd (clash (look r.over q) h (look-none r.over q (subst (λ z. (y : ℕ) → loose bs z y ≡ false) (sym a.1) (new-none x.d m.new_d))))
          | inl a ↦ elim (cases_Bool (r.id == i)) [
            | inl t ↦ absurd (clash (look r.over q) h (look-none r.over q (subst (λ z. (y : ℕ) → loose bs z y ≡ false) (sym (turned-over r k (eqb-true r.id i t))) (new-none x.d m.new_d))))
            | inr t ↦ (
                let kb : In r b.quants = subst (λ z. In r z) (sym sp.1.1.1.0) (subst (λ (z : OwnedQuant). In r (sp.0 ++ z ∷ sp.1.1.0)) a (in-right r sp.0 (r ∷ sp.1.1.0) (inl refl))) in
                let l = look-under b r q in-b kb ins-b (λ z. t) h in
                let eb : b.quants ≡ sp.0 ++ r ∷ sp.1.1.0 = sp.1.1.1.0 ∙ ap (λ (z : OwnedQuant). sp.0 ++ z ∷ sp.1.1.0) (sym a) in
                elim (or_cases (shows_by b.parts.kind b.quants sp.0 r q) (loose bs b.id q) (sc.under sp.0 r sp.1.1.0 eb q l)) [
                  | inl z ↦ or_left (shows_by b'.parts.kind b'.quants done r q) (look b'.id q) (
                      ap (λ z. shows_by z (turned i x.d b.quants) done r q) m.a_select
                      ∙ ap₂ (λ (u o : Bool). cond (is_F r.kind) u o) (sp.1.1.1.1.0 q) (binds-turned q) ∙ sym (ap (λ z. shows_by z b.quants sp.0 r q) m.a_select) ∙ z)
                  | inr z ↦ or_right (shows_by b'.parts.kind b'.quants done r q) (look b'.id q) (look-out b.id q ins-b ∙ z)
                ])
          ]
        ]);
    own = λ q h. elim (owner-read q h) [
      | inr a ↦ or_left (own_seen b'.parts.kind b' q) (look b.id q) (seen-b q a)
      | inl a ↦ elim (or_cases (own_seen b.parts.kind b q) (loose bs b.id q) (sc.own q a)) [
        | inl z ↦ or_left (own_seen b'.parts.kind b' q) (look b.id q) (seen-b q (sym (ap (λ k. own_seen k b q) m.a_select) ∙ z))
        | inr z ↦ or_right (own_seen b'.parts.kind b' q) (look b.id q) (look-out b.id q ins-b ∙ z)
      ]
    ];
  }
    where
      sc : Scoped (loose bs) b
      sc = scoped-of bs root w b in-b

  -- ---- the new boxes

  pub two-at : (done : List OwnedQuant) (r : OwnedQuant) (rest : List OwnedQuant) → range x.dm F x.m ∷ (range x.dc F c.id ∷ []) ≡ done ++ r ∷ rest → (range x.dm F x.m ≡ r) ⊎ ((done ≡ range x.dm F x.m ∷ []) × (range x.dc F c.id ≡ r))
  two-at [] r rest e = inl (let h : range x.dm F x.m ≡ r = cc in h)
  two-at (a ∷ []) r rest e = inr (let h : range x.dm F x.m ≡ a = cc in let k : range x.dc F c.id ≡ r = cc in (ap (λ (z : OwnedQuant). z ∷ []) (sym h), k))
  two-at (a ∷ (o ∷ [])) r rest e = absurd (let z : ⊥ = cc in z)
  two-at (a ∷ (o ∷ (u ∷ done))) r rest e = absurd (let z : ⊥ = cc in z)

  pub one-at : (q : OwnedQuant) (done : List OwnedQuant) (r : OwnedQuant) (rest : List OwnedQuant) → q ∷ [] ≡ done ++ r ∷ rest → q ≡ r
  one-at q [] r rest e = let h : q ≡ r = cc in h
  one-at q (a ∷ []) r rest e = absurd (let z : ⊥ = cc in z)
  one-at q (a ∷ (o ∷ done)) r rest e = absurd (let z : ⊥ = cc in z)

  pub fed-scoped : Scoped look d'
  fed-scoped = record {
    under = λ done r rest e q h. elim (two-at done r rest e) [
      | inl a ↦ absurd (clash (look r.over q) h (look-none r.over q (subst (λ (z : OwnedQuant). (y : ℕ) → loose bs z.over y ≡ false) a (new-none x.m m.new_m))))
      | inr a ↦ (
          let h' : look c.id q ≡ true = subst (λ (z : OwnedQuant). look z.over q ≡ true) (sym a.1) h in
          elim (look-in c.id q (region.drops xs ys root w b s c rp ri x m).root_kept h') [
            | inl z ↦ or_left (shows_by d'.parts.kind d'.quants done r q) (look d'.id q) (
                ap₂ (λ (z : OwnedQuant) (o : List OwnedQuant). cond (is_F z.kind) (binds_row q o) (binds_row q d'.quants)) (sym a.1) a.0
                ∙ or_left (x.dm == q) false (eq-eqb x.dm q (sym z.0)))
            | inr z ↦ absurd (clash (q == p) (eq-eqb q p (m.alone q z.1.1)) z.1.0)
          ])
    ];
    own = λ q h. or_left (own_seen d'.parts.kind d' q) (look d'.id q) (own-fed q h);
  }
    where
      own-fed : (q : ℕ) → read_by d' q ≡ true → binds_row q d'.quants ≡ true
      own-fed q h = elim (or_cases (list_any (reads q) d'.parts.head) false h) [
        | inr z ↦ none-true z
        | inl z ↦ elim (any-append (reads q) (columns_from x.dm 1 n) (columns_from x.dc 1 v) z) [
          | inl a ↦ (let l = columns-list (reads q) x.dm n 1 a in or_left (x.dm == q) ((x.dc == q) || false) l.1.0)
          | inr a ↦ (let l = columns-list (reads q) x.dc v 1 a in or_right (x.dm == q) ((x.dc == q) || false) (or_left (x.dc == q) false l.1.0))
        ]
      ]

  pub magic-scoped : Scoped look m'
  magic-scoped = record {
    under = λ done r rest e q h. absurd (clash (look r.over q) h (look-none r.over q (subst (λ (z : OwnedQuant). (y : ℕ) → loose bs z.over y ≡ false) (one-at (range x.mq F s.id) done r rest e) m.closed)));
    own = λ q h. or_left (own_seen m'.parts.kind m' q) (look m'.id q) (elim (or_cases (list_any (reads q) m'.parts.head) false h) [
      | inr z ↦ none-true z
      | inl z ↦ (let l = picked-list (reads q) named x.mq wd 1 z in or_left (x.mq == q) false l.1.0)
    ]);
  }

  -- ---- each box after

  pub in-hs : (z : Node) → In z hs → ((y : Node) × (In y bs × (g y ≡ z))) ⊎ ((d' ≡ z) ⊎ (m' ≡ z))
  in-hs z j = elim (in-append z (map g xs) (d' ∷ (m' ∷ map g ys)) j) [
    | inl a ↦ (let y = in-map g z xs a in inl (y.0, (in-left y.0 xs ys y.1.0, y.1.1)))
    | inr a ↦ elim a [
      | inl e ↦ inr (inl e)
      | inr k ↦ elim k [
        | inl e ↦ inr (inr e)
        | inr l ↦ (let y = in-map g z ys l in inl (y.0, (in-right y.0 xs ys y.1.0, y.1.1)))
      ]
    ]
  ]

  -- what holds of each box after
  pub each : (P : Node → Type 0) → P b' → ((y : Node) → In y bs → ins y.id ≡ true → P (fed_below named c.id p x.dm wd y)) → ((y : Node) → In y bs → ins y.id ≡ false → (y.id == b.id) ≡ false → P (put_node i (columns_from i (suc n) v) y)) → P d' → P m'
      → (z : Node) → In z hs → P z
  each P at-b at-in at-out at-d at-m z j = elim (in-hs z j) [
    | inr a ↦ elim a [ inl e ↦ subst P e at-d | inr e ↦ subst P e at-m ]
    | inl y ↦ subst P y.1.1 (elim (cases_Bool (y.0.id == b.id)) [
      | inl t ↦ (let same : b ≡ y.0 = same-box bs b y.0 w.ordered in-b y.1.0 (sym (eqb-true y.0.id b.id t)) in subst P (sym (region.g-b xs ys root w b s c rp ri x m y.0 t)) (subst (λ (k : Node). P (fed_owner named p ri x.d wd k)) same at-b))
      | inr t ↦ elim (cases_Bool (ins y.0.id)) [
        | inl u ↦ subst P (sym (region.g-in xs ys root w b s c rp ri x m y.0 t u)) (at-in y.0 y.1.0 u)
        | inr u ↦ subst P (sym (region.g-out xs ys root w b s c rp ri x m y.0 t u)) (at-out y.0 y.1.0 u t)
      ]
    ])
  ]

  pub scoped-after : (z : Node) → In z hs → Scoped look z
  scoped-after = each (Scoped look) owner-scoped below-scoped other-scoped fed-scoped magic-scoped

  pub settled-after : (z : Node) → In z hs → (q : ℕ) → owns q z ≡ true → look z.id q ≡ false
  settled-after = each (λ z. (q : ℕ) → owns q z ≡ true → look z.id q ≡ false)
      (λ q o. look-out b.id q ins-b ∙ w.settled b in-b q (sym (turned-any i x.d (is_quant q) (λ r. refl) b.quants) ∙ o))
      (λ y j t q o. elim (cases_Bool (look y.id q)) [
        | inr f ↦ f
        | inl h ↦ absurd (elim (look-in y.id q t h) [
          | inl a ↦ clash (list_any (owns x.dm) bs) (any-from (owns x.dm) y bs j (subst (λ k. owns k y ≡ true) a.0 o)) m.new_dm
          | inr a ↦ clash (loose bs y.id q) a.1.1 (w.settled y j q o)
        ])
      ])
      (λ y j out nob q o. look-out y.id q out ∙ w.settled y j q o)
      (λ q o. look-none x.d q (new-none x.d m.new_d))
      (λ q o. look-none x.m q (new-none x.m m.new_m))
