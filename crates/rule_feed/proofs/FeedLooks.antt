-- What boxes look up after feeding is what the bound says.
use Rattle.std.specs.Prelude as prelude
use Rattle.std.proofs.Common.{ℕ, zero, suc, ◌==◌, ◌≡◌, ◌&&◌, ◌||◌, ◌≤◌, cond, Bool, true, false, List, [], ◌++◌, map, get_or, Some, refl, sym, ap, ap₂, subst, ◌∙◌, eqb-true, inl, inr, arith}
use Rattle.std.specs.List.{list_any}
use Rattle.std.proofs.lemmas.Bool.{and_from, cases_Bool, eq-eqb, or_cases, or_left, or_right}
use Rattle.qgm_core.specs.Boxes.{has_box, is_quant, owns, width}
use Rattle.qgm_core.specs.Kinds.{is_F}
use Rattle.list_laws.specs.Lists.{In}
use Rattle.qgm_core.specs.declared.node.Node.{Node}
use Rattle.qgm_core.specs.declared.owned.OwnedQuant.{OwnedQuant}
use Rattle.qgm_meaning.specs.Scope.{loose, put_node, read_by}
use Rattle.qgm_meaning.specs.Tags.{columns_from}
use Rattle.qgm_terms.specs.Substitution.{cell_at}
use Rattle.qgm_terms.specs.Terms.{Cond, Term}
use Rattle.qgm_terms.specs.Wanted.{reads, reads_at, reads_at_cond, reads_cond, wanted}
use Rattle.qgm_terms.specs.declared.sought.Sought.TheVariants.{Row}
use Rattle.qgm_edit_laws.specs.Facts.{Asks}
use Rattle.qgm_edit_laws.specs.Graph.{Sound, nodes_in, reads_in}
use Rattle.qgm_edit_laws.proofs.AnyPut.{conds-more, heads-more}
use Rattle.qgm_edit_laws.proofs.Facts.{looks-stay}
use Rattle.qgm_edit_laws.proofs.FreeLoose.{looks-asked}
use Rattle.qgm_edit_laws.proofs.Interposed.{turned-any}
use Rattle.qgm_edit_laws.proofs.Read.{any-both}
use Rattle.qgm_edit_laws.proofs.Scoped.{bounded}
use Rattle.qgm_edit_laws.proofs.ShapedPut.{conds-same, heads-same}
use Rattle.qgm_edit_laws.proofs.ReadKept.{put-hit}
use Rattle.rule_feed.specs.Feed.{Numbers, all_of, fed_below, fed_boxes, fed_cond, fed_owner, fed_term, joins, put_cells}
use Rattle.rule_feed.specs.FeedLaws.{FeedsOne}
use Rattle.rule_feed.proofs.FeedRegion as region
use Rattle.rule_feed.proofs.FeedReads.{all_of-any, conds-read, joins-any, terms-read}
use Rattle.rule_feed.proofs.FeedShapes as kept
use Rattle.rule_feed.proofs.FeedShapes.{columns-reads-none, put-reads, put-reads-none}
use Rattle.rule_feed.proofs.FeedScope as feed_scope
use Rattle.rule_feed.proofs.FeedSound as fed
use Rattle.rule_feed.proofs.FeedTyped.{turned-stays}
use Rattle.rule_feed.proofs.SplitNames.{column-there}
use Rattle.list_laws.proofs.Membership.{any-from, any-none, eq-false-sym, eq-itself}
use Rattle.list_laws.proofs.Booleans.{clash}

-- a quantifier that is read is read at a column
pub at-some : (q : ℕ) (y : Node) → read_by y q ≡ true → (k : ℕ) × (reads_in q k y ≡ true)
at-some q y h = elim (or_cases (list_any (reads q) y.parts.head) (list_any (reads_cond q) y.parts.conds.items) h) [
  | inl a ↦ (let z = terms-read q (λ j. true) y.parts.head (heads-more (λ r j. r == q) (λ r j. (r == q) && true) (λ r. false) (λ r. false) (λ r. false) (λ r. false) (λ r. prelude.not (r == q)) (λ r. prelude.not (r == q)) (λ r j e. and_from (r == q) true e refl) (λ r e. e) (λ r e. e) (λ r e. e) y.parts.head a) in
      (z.0, or_left (list_any (reads_at q z.0) y.parts.head) (list_any (reads_at_cond q z.0) y.parts.conds.items) z.1.1))
  | inr a ↦ (let z = conds-read q (λ j. true) y.parts.conds.items (conds-more (λ r j. r == q) (λ r j. (r == q) && true) (λ r. false) (λ r. false) (λ r. false) (λ r. false) (λ r. prelude.not (r == q)) (λ r. prelude.not (r == q)) (λ r j e. and_from (r == q) true e refl) (λ r e. e) (λ r e. e) (λ r e. e) y.parts.conds.items a) in
      (z.0, or_right (list_any (reads_at q z.0) y.parts.head) (list_any (reads_at_cond q z.0) y.parts.conds.items) z.1.1))
]

-- what no cell reads is read as before
put-kept : (q z : ℕ) (cells : List Term) (y : Node) → (q == z) ≡ false → ((k : ℕ) → reads z (cell_at k cells) ≡ false) → read_by (put_node q cells y) z ≡ read_by y z
put-kept q z cells y f h = ap₂ (λ a b. a || b) (heads-same q cells (wanted (Row z)) (λ k. h k ∙ sym f) y.parts.head) (conds-same q cells (wanted (Row z)) (λ k. h k ∙ sym f) y.parts.conds.items)

cell-none : (P : Term → Bool) (cells : List Term) (k : ℕ) → P Rattle.qgm_terms.specs.Terms.null_int ≡ false → ((m : ℕ) → P (get_or cells m Rattle.qgm_terms.specs.Terms.null_int) ≡ false) → P (cell_at k cells) ≡ false
cell-none P cells zero n h = n
cell-none P cells (suc k) n h = h k

module _ (xs ys : List Node) (root : ℕ) (w : Sound (xs ++ ys) root) (b s c : Node) (rp ri : OwnedQuant) (x : Numbers) (m : FeedsOne xs ys root b s c rp ri x) where
  abbrev bs : List Node
  bs = xs ++ ys

  abbrev p : ℕ
  p = rp.id

  abbrev i : ℕ
  i = ri.id

  abbrev named : ℕ → Bool
  named = region.named xs ys root w b s c rp ri x m

  abbrev ins : ℕ → Bool
  ins = region.ins xs ys root w b s c rp ri x m

  abbrev wd : ℕ
  wd = width s

  abbrev n : ℕ
  n = region.n xs ys root w b s c rp ri x m

  abbrev v : ℕ
  v = width c

  abbrev hs : List Node
  hs = fed_boxes xs ys b s c rp ri x

  abbrev ks : List Cond
  ks = joins named p i 1 1 wd

  abbrev pub look : ℕ → ℕ → Bool
  look z q = cond (ins z) (cond (q == x.dm) (loose bs z p) (cond (q == p) false (loose bs z q))) (loose bs z q)

  in-b : In b bs
  in-b = feed_scope.in-b xs ys root w b s c rp ri x m

  in-s : In s bs
  in-s = feed_scope.in-s xs ys root w b s c rp ri x m

  in-c : In c bs
  in-c = feed_scope.in-c xs ys root w b s c rp ri x m

  ins-b : ins b.id ≡ false
  ins-b = region.ins-b xs ys root w b s c rp ri x m

  after : Sound hs root
  after = fed.sound-after xs ys root w b s c rp ri x m

  pub less : (z q : ℕ) → loose hs z q ≡ true → look z q ≡ true
  less = bounded look hs after.once (feed_scope.scoped-after xs ys root w b s c rp ri x m)

  -- what b looks up isn't read in the join
  ks-none : (q : ℕ) → owns q b ≡ false → list_any (reads_cond q) ks ≡ false
  ks-none q f = elim (cases_Bool (list_any (reads_cond q) ks)) [
    | inr k ↦ k
    | inl t ↦ absurd (elim (joins-any (wanted (Row q)) named p i wd 1 1 t) [
      | inl z ↦ clash (owns q b) (subst (λ r. owns r b ≡ true) (eqb-true p q z.1.0) (feed_scope.own-p xs ys root w b s c rp ri x m)) f
      | inr z ↦ clash (owns q b) (subst (λ r. owns r b ≡ true) (eqb-true i q z.1.0) (feed_scope.own-i xs ys root w b s c rp ri x m)) f
    ])
  ]

  K-none : (q : ℕ) → owns q b ≡ false → reads_cond q (all_of ks) ≡ false
  K-none q f = elim (cases_Bool (reads_cond q (all_of ks))) [ inr k ↦ k | inl t ↦ absurd (clash (list_any (reads_cond q) ks) (all_of-any (wanted (Row q)) ks t) (ks-none q f)) ]

  b-kept : (q : ℕ) → owns q b ≡ false → read_by b q ≡ true → read_by (fed_owner named p ri x.d wd b) q ≡ true
  b-kept q f h = elim (or_cases (list_any (reads q) b.parts.head) (list_any (reads_cond q) b.parts.conds.items) h) [
    | inl a ↦ or_left (list_any (reads q) (map (fed_term i n (all_of ks)) b.parts.head)) (list_any (reads_cond q) (map (fed_cond i n (all_of ks)) b.parts.conds.items ++ cond (is_F ri.kind) ks [])) (kept.heads-same i n (all_of ks) (wanted (Row q)) (K-none q f) (λ j. refl) b.parts.head ∙ a)
    | inr a ↦ or_right (list_any (reads q) (map (fed_term i n (all_of ks)) b.parts.head)) (list_any (reads_cond q) (map (fed_cond i n (all_of ks)) b.parts.conds.items ++ cond (is_F ri.kind) ks [])) (
        any-both (reads_cond q) (map (fed_cond i n (all_of ks)) b.parts.conds.items) (cond (is_F ri.kind) ks [])
        ∙ or_left (list_any (reads_cond q) (map (fed_cond i n (all_of ks)) b.parts.conds.items)) (list_any (reads_cond q) (cond (is_F ri.kind) ks [])) (kept.conds-same i n (all_of ks) (wanted (Row q)) (K-none q f) (λ j. refl) b.parts.conds.items ∙ a))
  ]

  b-asks : Asks look (fed_owner named p ri x.d wd b)
  b-asks q h =
      let l : loose bs b.id q ≡ true = sym (feed_scope.look-out xs ys root w b s c rp ri x m b.id q ins-b) ∙ h in
      let a = looks-asked bs root w b in-b q l in (
        turned-any i x.d (is_quant q) (λ r. refl) b.quants ∙ a.0,
        elim a.1 [
          | inl r ↦ inl (b-kept q a.0 r)
          | inr r ↦ elim (cases_Bool (r.0.id == i)) [
            | inl t ↦ absurd (
                let e : Some r.0 ≡ Some ri = sym (Rattle.qgm_edit_laws.proofs.Turns.first-own r.0 b.quants (feed_scope.few-b xs ys root w b s c rp ri x m r.0.id) r.1.0) ∙ ap (λ z. Rattle.list_laws.specs.Lists.first (is_quant z) b.quants) (eqb-true r.0.id i t) ∙ Rattle.qgm_edit_laws.proofs.Turns.first-own ri b.quants (feed_scope.few-b xs ys root w b s c rp ri x m i) m.owned_i in
                let same : r.0 ≡ ri = cc in
                let o : loose bs c.id q ≡ true = subst (λ z. loose bs z q ≡ true) (ap (λ (z : OwnedQuant). z.over) same ∙ m.over_c) r.1.1 in
                clash (owns q b) (subst (λ z. owns z b ≡ true) (sym (m.alone q o)) (feed_scope.own-p xs ys root w b s c rp ri x m)) a.0)
            | inr t ↦ inr (
              r.0,
              (
                turned-stays i x.d b.quants r.0 r.1.0 t,
                elim (cases_Bool (ins r.0.over)) [
                  | inr o ↦ feed_scope.look-out xs ys root w b s c rp ri x m r.0.over q o ∙ r.1.1
                  | inl o ↦ absurd (clash (loose bs r.0.over q) r.1.1 (region.out-closed xs ys root w b s c rp ri x m b r.0 in-b r.1.0 ins-b (λ z. t) o q))
                ],
              ),
            )
          ]
        ],
      )

  apart-in : (y : Node) → ins y.id ≡ true → (y.id == b.id) ≡ false
  apart-in = feed_scope.in-apart xs ys root w b s c rp ri x m

  not-dm-node : (y : Node) → In y bs → nodes_in x.dm y ≡ false
  not-dm-node y j = elim (cases_Bool (nodes_in x.dm y)) [ inr f ↦ f | inl t ↦ absurd (clash (owns x.dm y) (w.own_nodes y j x.dm t).0 (any-none (owns x.dm) y bs m.new_dm j)) ]

  below-asks : (y : Node) → In y bs → ins y.id ≡ true → Asks look (fed_below named c.id p x.dm wd y)
  below-asks y j t q h = elim (feed_scope.look-in xs ys root w b s c rp ri x m y.id q t h) [
    | inl a ↦ (
        let o = looks-asked bs root w y j p a.1 in
        let e : x.dm ≡ q = sym a.0 in (
          subst (λ z. owns z y ≡ false) e (any-none (owns x.dm) y bs m.new_dm j),
          elim o.1 [
            | inl r ↦ (
                let k = at-some p y r in
                let fit = w.fits y j p k.0 k.1 b rp s in-b m.owned_p refl in-s (sym m.over_s) in
                let nm : named k.0 ≡ true = any-from (λ (y : Node). ins y.id && reads_in p k.0 y) y bs j (and_from (ins y.id) (reads_in p k.0 y) t k.1) in
                inl (subst (λ z. read_by (fed_below named c.id p x.dm wd y) z ≡ true) e (put-hit p x.dm k.0 (put_cells named x.dm 1 1 wd) y (cell-hit k.0 nm fit.0 fit.1) (feed_scope.not-node-p xs ys root w b s c rp ri x m y j) (not-dm-node y j) k.1)))
            | inr r ↦ inr (r.0, (r.1.0, subst (λ z. look r.0.over z ≡ true) e (feed_scope.look-dm xs ys root w b s c rp ri x m r.0.over ((region.drops xs ys root w b s c rp ri x m).closed y r.0 j t r.1.0) ∙ r.1.1)))
          ],
        ))
    | inr a ↦ (
        let o = looks-asked bs root w y j q a.1.1 in (
          o.0,
          elim o.1 [
            | inl r ↦ inl (put-kept p q (put_cells named x.dm 1 1 wd) y (eq-false-sym q p a.1.0) (λ k. cell-none (reads q) (put_cells named x.dm 1 1 wd) k refl (λ l. put-reads-none named x.dm q wd 1 1 l (eq-false-sym q x.dm a.0))) ∙ r)
            | inr r ↦ inr (r.0, (r.1.0, feed_scope.look-else xs ys root w b s c rp ri x m r.0.over q ((region.drops xs ys root w b s c rp ri x m).closed y r.0 j t r.1.0) a.0 a.1.0 ∙ r.1.1))
          ],
        ))
  ]
    where
      cell-hit : (k : ℕ) → named k ≡ true → 1 ≤ k → k ≤ wd → reads x.dm (cell_at k (put_cells named x.dm 1 1 wd)) ≡ true
      cell-hit zero h a o = absurd (let z : ⊥ = omega (arith, a) in z)
      cell-hit (suc k) h a o = put-reads named x.dm wd 1 1 k (suc k) (omega arith) h (omega (arith, o))

  other-asks : (y : Node) → In y bs → ins y.id ≡ false → (y.id == b.id) ≡ false → Asks look (put_node i (columns_from i (suc n) v) y)
  other-asks y j out nob q h =
      let l : loose bs y.id q ≡ true = sym (feed_scope.look-out xs ys root w b s c rp ri x m y.id q out) ∙ h in
      let o = looks-asked bs root w y j q l in (
        o.0,
        elim o.1 [
          | inr r ↦ inr (
            r.0,
            (
              r.1.0,
              elim (cases_Bool (ins r.0.over)) [
                | inr t ↦ feed_scope.look-out xs ys root w b s c rp ri x m r.0.over q t ∙ r.1.1
                | inl t ↦ absurd (clash (loose bs r.0.over q) r.1.1 (region.out-closed xs ys root w b s c rp ri x m y r.0 j r.1.0 out (λ z. absurd (clash (y.id == b.id) (eq-eqb y.id b.id (ap (λ (u : Node). u.id) z)) nob)) t q))
              ],
            ),
          )
          | inl r ↦ elim (cases_Bool (i == q)) [
            | inr t ↦ inl (put-kept i q (columns_from i (suc n) v) y t (λ k. cell-none (reads q) (columns_from i (suc n) v) k refl (λ l. columns-reads-none i q v (suc n) l t)) ∙ r)
            | inl t ↦ (
                let e : i ≡ q = eqb-true i q t in
                let k = at-some i y (subst (λ z. read_by y z ≡ true) (sym e) r) in
                let fit = w.fits y j i k.0 k.1 b ri c in-b m.owned_i refl in-c (sym m.over_c) in
                let nod = feed_scope.not-node-i xs ys root w b s c rp ri x m y j nob in
                inl (subst (λ z. read_by (put_node i (columns_from i (suc n) v) y) z ≡ true) e (put-hit i i k.0 (columns_from i (suc n) v) y (cell-i k.0 fit.0 fit.1) nod nod k.1)))
          ]
        ],
      )
    where
      cell-i : (k : ℕ) → 1 ≤ k → k ≤ v → reads i (cell_at k (columns_from i (suc n) v)) ≡ true
      cell-i zero a o = absurd (let z : ⊥ = omega (arith, a) in z)
      cell-i (suc k) a o = ap (reads i) (column-there i (suc n) v k (omega (arith, o))) ∙ eq-itself i

  new-asks : (z : Node) → has_box bs z.id ≡ false → Asks look z
  new-asks z f q h = absurd (clash (look z.id q) h (feed_scope.look-none xs ys root w b s c rp ri x m z.id q (feed_scope.new-none xs ys root w b s c rp ri x m z.id f)))

  asks : (z : Node) → In z hs → Asks look z
  asks = feed_scope.each xs ys root w b s c rp ri x m (Asks look) b-asks below-asks other-asks (new-asks (Rattle.rule_feed.specs.Feed.new_fed bs b s c rp ri x) m.new_d) (new-asks (Rattle.rule_feed.specs.Feed.new_magic bs b s c rp ri x) m.new_m)

  pub more : (z q : ℕ) → has_box hs z ≡ true → look z q ≡ true → loose hs z q ≡ true
  more = looks-stay look hs after.ordered after.bare asks
