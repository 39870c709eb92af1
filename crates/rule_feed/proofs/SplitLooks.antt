-- What boxes look up after a split is what the bound says.
use Rattle.std.proofs.Common.{ℕ, ◌==◌, ◌≡◌, ◌&&◌, ◌||◌, ◌+◌, not, cond, Bool, true, false, List, ◌∷◌, ◌++◌, map, refl, sym, ap, ap₂, subst, ◌∙◌, eqb-true, inl, inr}
use Rattle.std.specs.List.{list_any}
use Rattle.std.proofs.lemmas.Bool.{and_parts, cases_Bool, or_cases, or_from, or_left, or_parts, or_right}
use Rattle.qgm_core.specs.Boxes.{has_box, is_quant, owns}
use Rattle.qgm_core.specs.Edits.{range}
use Rattle.list_laws.specs.Lists.{In}
use Rattle.qgm_core.specs.declared.kinds.QuantKind.TheVariants.{F}
use Rattle.qgm_core.specs.declared.node.Node.{Node}
use Rattle.qgm_core.specs.declared.owned.OwnedQuant.{OwnedQuant}
use Rattle.qgm_meaning.specs.Scope.{loose, read_by}
use Rattle.qgm_meaning.specs.Searches.{binds, binds_cond, looking, names, names_cond}
use Rattle.qgm_terms.specs.Terms.{Cond, Term, col}
use Rattle.qgm_terms.specs.Wanted.{any_in, any_in_cond, reads, reads_cond, wanted}
use Rattle.qgm_terms.specs.declared.sought.Sought.TheVariants.{Row}
use Rattle.qgm_edit_laws.specs.Facts.{Asks}
use Rattle.qgm_edit_laws.specs.Graph.{Sound, nodes_in}
use Rattle.qgm_edit_laws.proofs.Adds.{reads-at-read}
use Rattle.qgm_edit_laws.proofs.AnyPut.{conds-more, conds-names, heads-more, heads-names}
use Rattle.qgm_edit_laws.proofs.Facts.{looks-stay}
use Rattle.qgm_edit_laws.proofs.FreeLoose.{looks-asked}
use Rattle.qgm_edit_laws.proofs.Read.{any-both, columns-found, unbound-reads}
use Rattle.qgm_edit_laws.proofs.Scoped.{bounded}
use Rattle.qgm_edit_laws.proofs.ReadKept.{search-is}
use Rattle.rule_feed.specs.Split.{MaySplitSound, into, renamed, renamed_cond, renamed_node, sizes_of, split_box, split_boxes, split_owner, start}
use Rattle.rule_feed.proofs.SplitReads.{in-sizes, node-found}
use Rattle.rule_feed.proofs.SplitShapes.{conds-alike, heads-alike}
use Rattle.rule_feed.proofs.SplitSound as split
use Rattle.list_laws.proofs.Membership.{any-none, eq-false-sym, eq-itself, in-append, in-left, in-right}
use Rattle.list_laws.proofs.Booleans.{clash}

module _ (xs ys : List Node) (root : ℕ) (b : Node) (wide : OwnedQuant → ℕ) (q s : ℕ) (us ps vs : List OwnedQuant) (rest taken : List Cond) (w : Sound (xs ++ ys) root) (m : MaySplitSound xs ys b wide q s us ps vs rest taken) where
  abbrev bs : List Node
  bs = xs ++ ys

  abbrev ws : List (ℕ × ℕ)
  ws = sizes_of wide ps

  abbrev rq : OwnedQuant
  rq = range q F s

  abbrev f : ℕ → ℕ → Term
  f = into ws q

  abbrev b' : Node
  b' = split_owner ws q us (rq ∷ vs) rest b

  abbrev s' : Node
  s' = split_box s ws ps taken

  abbrev hs : List Node
  hs = split_boxes xs ys ws b.id q s us ps vs rest taken

  abbrev P : ℕ → Bool
  P k = list_any (is_quant k) ps

  abbrev pub look : ℕ → ℕ → Bool
  look z k = cond (k == q) (list_any (λ (r : OwnedQuant). loose bs z r.id) ps) (cond (P k) false (loose bs z k))

  in-b : In b bs
  in-b = in-left b xs ys m.above

  after : Sound hs root
  after = split.sound-after xs ys root b wide q s us ps vs rest taken w m

  pub less : (z k : ℕ) → loose hs z k ≡ true → look z k ≡ true
  less = bounded look hs after.once (split.scoped-after xs ys root b wide q s us ps vs rest taken w m)

  -- what isn't of these, and isn't q, is read as before
  row-alike : (k : ℕ) → P k ≡ false → (k == q) ≡ false → (r j : ℕ) → reads k (f r j) ≡ (r == k)
  row-alike k n nq r j = elim (cases_Bool (P r)) [
    | inr t ↦ ap (λ z. reads k (cond z (col q (start ws r + j)) (col r j))) (in-sizes wide ps r ∙ t)
    | inl t ↦ ap (λ z. reads k (cond z (col q (start ws r + j)) (col r j))) (in-sizes wide ps r ∙ t) ∙ eq-false-sym k q nq ∙ sym (elim (cases_Bool (r == k)) [ inr e ↦ e | inl e ↦ absurd (clash (P k) (subst (λ z. P z ≡ true) (eqb-true r k e) t) n) ])
  ]

  kept-other : (y : Node) (k : ℕ) → P k ≡ false → (k == q) ≡ false → read_by (renamed_node f y) k ≡ read_by y k
  kept-other y k n nq = ap₂ (λ a b. a || b) (heads-alike f (wanted (Row k)) (row-alike k n nq) y.parts.head) (conds-alike f (wanted (Row k)) (row-alike k n nq) y.parts.conds.items)

  kept-owner : (k : ℕ) → P k ≡ false → (k == q) ≡ false → read_by b k ≡ true → read_by b' k ≡ true
  kept-owner k n nq h = elim (or_cases (list_any (reads k) b.parts.head) (list_any (reads_cond k) b.parts.conds.items) h) [
    | inl a ↦ or_left (list_any (reads k) (map (renamed f) b.parts.head)) (list_any (reads_cond k) (map (renamed_cond f) rest)) (heads-alike f (wanted (Row k)) (row-alike k n nq) b.parts.head ∙ a)
    | inr a ↦ or_right (list_any (reads k) (map (renamed f) b.parts.head)) (list_any (reads_cond k) (map (renamed_cond f) rest)) (conds-alike f (wanted (Row k)) (row-alike k n nq) rest ∙ (elim (or_cases (list_any (reads_cond k) rest) (list_any (reads_cond k) taken) (sym (any-both (reads_cond k) rest taken) ∙ sym (ap (list_any (reads_cond k)) m.conds) ∙ a)) [
      | inl z ↦ z
      | inr z ↦ absurd (let c = Rattle.list_laws.proofs.Membership.any-in (reads_cond k) taken z in clash (P k) (m.taken_own c.0 c.1.0 k c.1.1) n)
    ]))
  ]

  -- a search for these, or q
  abbrev Q : ℕ → ℕ → Bool
  Q r j = P r || (r == q)

  Q-alike : (r j : ℕ) → any_in (looking (λ r j. P r || (r == q)) (λ r. false) (λ r. false) (λ r. true)) (f r j) ≡ (P r || (r == q))
  Q-alike r j = elim (cases_Bool (P r)) [
    | inr t ↦ ap (λ z. any_in (looking (λ r j. P r || (r == q)) (λ r. false) (λ r. false) (λ r. true)) (cond z (col q (start ws r + j)) (col r j))) (in-sizes wide ps r ∙ t)
    | inl t ↦ ap (λ z. any_in (looking (λ r j. P r || (r == q)) (λ r. false) (λ r. false) (λ r. true)) (cond z (col q (start ws r + j)) (col r j))) (in-sizes wide ps r ∙ t) ∙ or_right (P q) (q == q) (eq-itself q) ∙ sym (or_left (P r) (r == q) t)
  ]

  -- of these nothing is left
  gone : (y : Node) (r l : ℕ) → P r ≡ true → (list_any (any_in (looking (λ z j. (z == r) && (j == l)) (λ z. false) (λ z. false) (λ z. true))) (map (renamed f) y.parts.head) || list_any (any_in_cond (looking (λ z j. (z == r) && (j == l)) (λ z. false) (λ z. false) (λ z. true))) (map (renamed_cond f) y.parts.conds.items)) ≡ false
  gone y r l h = elim (cases_Bool (list_any (any_in (looking (λ z j. (z == r) && (j == l)) (λ z. false) (λ z. false) (λ z. true))) (map (renamed f) y.parts.head) || list_any (any_in_cond (looking (λ z j. (z == r) && (j == l)) (λ z. false) (λ z. false) (λ z. true))) (map (renamed_cond f) y.parts.conds.items))) [
    | inr e ↦ e
    | inl e ↦ absurd (let u = search-is (λ z j. false) (λ z. true) y (node-found f (λ z j. (z == r) && (j == l)) (λ z j. false) (λ z. false) (λ z. false) (λ z. true) none y e) in let z : ⊥ = cc in z)
  ]
    where
      none : (z j : ℕ) → any_in (looking (λ z j. (z == r) && (j == l)) (λ z. false) (λ z. false) (λ z. true)) (f z j) ≡ true → false ≡ true
      none z j t = elim (cases_Bool (P z)) [
        | inl u ↦ absurd (
            let c : ((q == r) && (start ws z + j == l)) ≡ true = sym (ap (λ k. any_in (looking (λ z j. (z == r) && (j == l)) (λ z. false) (λ z. false) (λ z. true)) (cond k (col q (start ws z + j)) (col z j))) (in-sizes wide ps z ∙ u)) ∙ t in
            clash (q == r) (and_parts (q == r) (start ws z + j == l) c).0 (eq-false-sym r q (split.P-not-q xs ys root b wide q s us ps vs rest taken w m r h)))
        | inr u ↦ absurd (
            let c : ((z == r) && (j == l)) ≡ true = sym (ap (λ k. any_in (looking (λ z j. (z == r) && (j == l)) (λ z. false) (λ z. false) (λ z. true)) (cond k (col q (start ws z + j)) (col z j))) (in-sizes wide ps z ∙ u)) ∙ t in
            clash (P z) (subst (λ k. P k ≡ true) (sym (eqb-true z r (and_parts (z == r) (j == l) c).0)) h) u)
      ]

  to-q : (y : Node) → In y bs → (r : OwnedQuant) → In r ps → read_by y r.id ≡ true → read_by (renamed_node f y) q ≡ true
  to-q y j r k h =
      let z = renamed_node f y in
      let found : (list_any (any_in (looking (λ r j. P r || (r == q)) (λ r. false) (λ r. false) (λ r. true))) z.parts.head || list_any (any_in_cond (looking (λ r j. P r || (r == q)) (λ r. false) (λ r. false) (λ r. true))) z.parts.conds.items) ≡ true =
      ap₂ (λ a b. a || b) (heads-alike f (looking (λ r j. P r || (r == q)) (λ r. false) (λ r. false) (λ r. true)) Q-alike y.parts.head) (conds-alike f (looking (λ r j. P r || (r == q)) (λ r. false) (λ r. false) (λ r. true)) Q-alike y.parts.conds.items) ∙ before y r k h in
      let u = search-is (λ r j. P r || (r == q)) (λ r. true) z found in
      elim (or_cases (P u.0) (u.0 == q) u.1.1.0) [
        | inl p ↦ absurd (clash (list_any (any_in (looking (λ z j. (z == u.0) && (j == u.1.0)) (λ z. false) (λ z. false) (λ z. true))) (map (renamed f) y.parts.head) || list_any (any_in_cond (looking (λ z j. (z == u.0) && (j == u.1.0)) (λ z. false) (λ z. false) (λ z. true))) (map (renamed_cond f) y.parts.conds.items)) (sym (columns-found u.0 u.1.0 z) ∙ u.1.1.1) (gone y u.0 u.1.0 p))
        | inr e ↦ (
            let nod : nodes_in q z ≡ false = split.none-sub xs ys root b wide q s us ps vs rest taken w m (nodes_in q z) (nodes_in q y) (split.node-was xs ys root b wide q s us ps vs rest taken w m y q) (split.no-q xs ys root b wide q s us ps vs rest taken w m y j).1 in
            let n = or_parts (list_any (names q) z.parts.head) (list_any (names_cond q) z.parts.conds.items) nod in
            reads-at-read q u.1.0 z (unbound-reads q u.1.0 z (or_from (list_any (binds q) z.parts.head) (list_any (binds_cond q) z.parts.conds.items)
            (split.none-sub xs ys root b wide q s us ps vs rest taken w m (list_any (binds q) z.parts.head) (list_any (names q) z.parts.head) (heads-names q z.parts.head) n.0)
            (split.none-sub xs ys root b wide q s us ps vs rest taken w m (list_any (binds_cond q) z.parts.conds.items) (list_any (names_cond q) z.parts.conds.items) (conds-names q z.parts.conds.items) n.1)) (subst (λ k. list_any (Rattle.qgm_edit_laws.proofs.Read.is_at k u.1.0) (Rattle.qgm_wellformed.specs.Columns.columns_of z) ≡ true) (eqb-true u.0 q e) u.1.1.1)))
      ]
    where
      before : (y : Node) (r : OwnedQuant) → In r ps → read_by y r.id ≡ true → (list_any (any_in (looking (λ r j. P r || (r == q)) (λ r. false) (λ r. false) (λ r. true))) y.parts.head || list_any (any_in_cond (looking (λ r j. P r || (r == q)) (λ r. false) (λ r. false) (λ r. true))) y.parts.conds.items) ≡ true
      before y r k h =
          let hit : (z j : ℕ) → (z == r.id) ≡ true → (P z || (z == q)) ≡ true = (λ z j e. or_left (P z) (z == q) (subst (λ k. P k ≡ true) (sym (eqb-true z r.id e)) (split.P-in xs ys root b wide q s us ps vs rest taken w m r k))) in
          elim (or_cases (list_any (reads r.id) y.parts.head) (list_any (reads_cond r.id) y.parts.conds.items) h) [
            | inl a ↦ or_left (list_any (any_in (looking (λ r j. P r || (r == q)) (λ r. false) (λ r. false) (λ r. true))) y.parts.head) (list_any (any_in_cond (looking (λ r j. P r || (r == q)) (λ r. false) (λ r. false) (λ r. true))) y.parts.conds.items) (heads-more (λ z j. z == r.id) (λ z j. P z || (z == q)) (λ z. false) (λ z. false) (λ z. false) (λ z. false) (λ z. not (z == r.id)) (λ z. true) hit (λ z e. e) (λ z e. e) (λ z e. refl) y.parts.head a)
            | inr a ↦ or_right (list_any (any_in (looking (λ r j. P r || (r == q)) (λ r. false) (λ r. false) (λ r. true))) y.parts.head) (list_any (any_in_cond (looking (λ r j. P r || (r == q)) (λ r. false) (λ r. false) (λ r. true))) y.parts.conds.items) (conds-more (λ z j. z == r.id) (λ z j. P z || (z == q)) (λ z. false) (λ z. false) (λ z. false) (λ z. false) (λ z. not (z == r.id)) (λ z. true) hit (λ z e. e) (λ z e. e) (λ z e. refl) y.parts.conds.items a)
          ]

  b-asks : Asks look b'
  b-asks k h = elim (split.look-of xs ys root b wide q s us ps vs rest taken w m b.id k h) [
    | inl u ↦ absurd (clash (loose bs b.id u.1.0.id) u.1.1.1 (w.settled b in-b u.1.0.id (split.own-P xs ys root b wide q s us ps vs rest taken w m u.1.0.id (split.P-in xs ys root b wide q s us ps vs rest taken w m u.1.0 u.1.1.0))))
    | inr u ↦ (
        let a = looks-asked bs root w b in-b k u.1.1 in (
          (elim (cases_Bool (owns k b')) [ inr e ↦ e | inl e ↦ absurd (clash (owns k b) (split.owned-b xs ys root b wide q s us ps vs rest taken w m k e u.0) a.0) ]),
          elim a.1 [
            | inl r ↦ inl (kept-owner k u.1.0 u.0 r)
            | inr r ↦ inr (r.0, (stays r.0 k r.1.0 r.1.1, split.look-else xs ys root b wide q s us ps vs rest taken w m r.0.over k u.0 u.1.0 ∙ r.1.1))
          ],
        ))
  ]
    where
      stays : (r : OwnedQuant) (k : ℕ) → In r b.quants → loose bs r.over k ≡ true → In r (us ++ rq ∷ vs)
      stays r k j l = elim (in-append r us (ps ++ vs) (subst (λ z. In r z) m.quants j)) [
        | inl a ↦ in-left r us (rq ∷ vs) a
        | inr a ↦ in-right r us (rq ∷ vs) (inr (elim (in-append r ps vs a) [ inl o ↦ absurd (clash (loose bs r.over k) l (m.closed r o k)) | inr o ↦ o ]))
      ]

  other-asks : (y : Node) → In y bs → (y.id == b.id) ≡ false → Asks look (renamed_node f y)
  other-asks y j nob k h = elim (split.look-of xs ys root b wide q s us ps vs rest taken w m y.id k h) [
    | inl u ↦ (
        let a = looks-asked bs root w y j u.1.0.id u.1.1.1 in
        let e : q ≡ k = sym u.0 in (
          subst (λ z. owns z y ≡ false) e (any-none (owns q) y bs m.new_q j),
          elim a.1 [
            | inl r ↦ inl (subst (λ z. read_by (renamed_node f y) z ≡ true) e (to-q y j u.1.0 u.1.1.0 r))
            | inr r ↦ inr (r.0, (r.1.0, subst (λ z. look r.0.over z ≡ true) e (split.look-q xs ys root b wide q s us ps vs rest taken w m r.0.over u.1.0 u.1.1.0 r.1.1)))
          ],
        ))
    | inr u ↦ (
        let a = looks-asked bs root w y j k u.1.1 in (
          a.0,
          elim a.1 [
            | inl r ↦ inl (kept-other y k u.1.0 u.0 ∙ r)
            | inr r ↦ inr (r.0, (r.1.0, split.look-else xs ys root b wide q s us ps vs rest taken w m r.0.over k u.0 u.1.0 ∙ r.1.1))
          ],
        ))
  ]

  asks : (z : Node) → In z hs → Asks look z
  asks = split.each xs ys root b wide q s us ps vs rest taken w m (Asks look) b-asks other-asks (λ k h. absurd (clash (look s k) h (split.look-none xs ys root b wide q s us ps vs rest taken w m s k (split.new-none xs ys root b wide q s us ps vs rest taken w m))))

  pub more : (z k : ℕ) → has_box hs z ≡ true → look z k ≡ true → loose hs z k ≡ true
  more = looks-stay look hs after.ordered after.bare asks
