-- A split keeps a graph sound.
use Rattle.std.specs.Prelude as prelude
use Rattle.std.proofs.Common.{ℕ, zero, suc, ◌==◌, ◌≡◌, ◌&&◌, ◌||◌, ◌+◌, ◌≤◌, cond, Bool, true, false, List, [], ◌∷◌, ◌++◌, map, length, Some, refl, sym, ap, ap₂, subst, ◌∙◌, eqb-true, ◌⊎◌, inl, inr, arith}
use Rattle.std.specs.List.{flat_map, list_any}
use Rattle.std.proofs.lemmas.Bool.{and_from, and_parts, cases_Bool, eq-eqb, or_cases, or_from, or_left, or_parts, or_right}
use Rattle.qgm_core.specs.Boxes.{Ordered, has_box, ids_in, ids_of, is_box, is_quant, overs_in, overs_of, owns, width}
use Rattle.qgm_core.specs.Edits.{range}
use Rattle.qgm_core.specs.Kinds.{is_F, width_by}
use Rattle.list_laws.specs.Lists.{In, first, times}
use Rattle.qgm_core.specs.declared.kinds.BoxKind.{BoxKind}
use Rattle.qgm_core.specs.declared.kinds.BoxKind.TheVariants.{Base, Select, Group, SetOp, OuterJoin}
use Rattle.qgm_core.specs.declared.kinds.QuantKind.TheVariants.{F}
use Rattle.qgm_core.specs.declared.node.Node.{Node}
use Rattle.qgm_core.specs.declared.owned.OwnedQuant.{OwnedQuant}
use Rattle.qgm_meaning.specs.Scope.{loose, read_by}
use Rattle.qgm_meaning.specs.Searches.{names, names_cond}
use Rattle.qgm_terms.specs.Terms.{Cond, Term, col}
use Rattle.qgm_terms.specs.Wanted.{reads, reads_at, reads_at_cond, reads_cond}
use Rattle.qgm_edit_laws.specs.Checked.{own_seen}
use Rattle.qgm_edit_laws.specs.Graph.{ArmsBy, BareBy, Fits, Sound, binds_row, nodes_in, reads_in}
use Rattle.qgm_edit_laws.specs.Scoped.{Local, Scoped, shows_by}
use Rattle.qgm_edit_laws.proofs.Adds.{read-owned, reads-at-read, seen-owned}
use Rattle.qgm_edit_laws.proofs.AnyPut.{conds-more, heads-more}
use Rattle.qgm_edit_laws.proofs.Edits.{any-append, length-map, map-append, once-each, times-change}
use Rattle.qgm_edit_laws.proofs.PlacedLists.{times-more}
use Rattle.qgm_edit_laws.proofs.PlacedOne.{unowned-times}
use Rattle.qgm_edit_laws.proofs.Ranks.{has-in, same-box}
use Rattle.qgm_edit_laws.proofs.Read.{any-both}
use Rattle.qgm_edit_laws.proofs.Scope.{bound-owned, loose-held, one-owner}
use Rattle.qgm_edit_laws.proofs.Scoped.{few-ids, scoped-of, sound-by}
use Rattle.qgm_edit_laws.proofs.Turns.{first-own}
use Rattle.qgm_edit_laws.proofs.ReadKept.{search-at}
use Rattle.rule_feed.specs.Split.{MaySplitSound, SplitSound, heads, into, renamed, renamed_cond, renamed_node, sizes_of, split_box, split_boxes, split_node, split_owner, start}
use Rattle.rule_feed.proofs.FeedScope.{none-true, seen-same, shows-owned}
use Rattle.rule_feed.proofs.SplitReads.{heads-list, in-sizes, node-found, size-of, start-fits}
use Rattle.qgm_core.proofs.Reaching.{in-has, overs-held}
use Rattle.list_laws.proofs.Counting.{in-times, times-append, times-map, times-some}
use Rattle.list_laws.proofs.Membership.{all-from, all-in, any-from, any-in, any-none, any-not, eq-false-sym, eq-itself, in-append, in-left, in-map, in-right, map-in, other}
use Rattle.list_laws.proofs.Booleans.{clash}

binds-both : (q : ℕ) (xs ys : List OwnedQuant) → binds_row q (xs ++ ys) ≡ (binds_row q xs || binds_row q ys)
binds-both q xs ys = any-both (λ r. is_F r.kind && is_quant q r) xs ys

module _ (xs ys : List Node) (root : ℕ) (b : Node) (wide : OwnedQuant → ℕ) (q s : ℕ) (us ps vs : List OwnedQuant) (rest taken : List Cond) (w : Sound (xs ++ ys) root) (m : MaySplitSound xs ys b wide q s us ps vs rest taken) where
  abbrev pub bs : List Node
  bs = xs ++ ys

  abbrev pub ws : List (ℕ × ℕ)
  ws = sizes_of wide ps

  abbrev pub rq : OwnedQuant
  rq = range q F s

  abbrev pub f : ℕ → ℕ → Term
  f = into ws q

  abbrev pub g : Node → Node
  g = split_node ws b.id q us (rq ∷ vs) rest

  abbrev pub b' : Node
  b' = split_owner ws q us (rq ∷ vs) rest b

  abbrev pub s' : Node
  s' = split_box s ws ps taken

  abbrev pub hs : List Node
  hs = split_boxes xs ys ws b.id q s us ps vs rest taken

  -- b with the conditions that stay
  abbrev pub b0 : Node
  b0 = record b { parts = record b.parts { conds = record b.parts.conds { items = rest } } }

  abbrev pub P : ℕ → Bool
  P k = list_any (is_quant k) ps

  pub in-b : In b bs
  in-b = in-left b xs ys m.above

  pub g-b : (y : Node) → (y.id == b.id) ≡ true → g y ≡ split_owner ws q us (rq ∷ vs) rest y
  g-b y t = ap (λ k. cond k (split_owner ws q us (rq ∷ vs) rest y) (renamed_node f y)) t

  pub g-other : (y : Node) → (y.id == b.id) ≡ false → g y ≡ renamed_node f y
  g-other y t = ap (λ k. cond k (split_owner ws q us (rq ∷ vs) rest y) (renamed_node f y)) t

  pub id : (y : Node) → (g y).id ≡ y.id
  id y = elim (cases_Bool (y.id == b.id)) [ inl t ↦ ap (λ (k : Node). k.id) (g-b y t) | inr t ↦ ap (λ (k : Node). k.id) (g-other y t) ]

  pub old-quant : (r : OwnedQuant) → In r us ⊎ (In r ps ⊎ In r vs) → In r b.quants
  old-quant r h = subst (λ z. In r z) (sym m.quants) (elim h [ inl a ↦ in-left r us (ps ++ vs) a | inr a ↦ in-right r us (ps ++ vs) (elim a [ inl o ↦ in-left r ps vs o | inr o ↦ in-right r ps vs o ]) ])

  pub quants-same : (y : Node) → (y.id == b.id) ≡ false → (g y).quants ≡ y.quants
  quants-same y t = ap (λ (k : Node). k.quants) (g-other y t)

  pub quants-b : (g b).quants ≡ us ++ rq ∷ vs
  quants-b = ap (λ (k : Node). k.quants) (g-b b (eq-itself b.id))

  pub in-hs : (z : Node) → In z hs → ((y : Node) × (In y bs × (g y ≡ z))) ⊎ (s' ≡ z)
  in-hs z j = elim (in-append z (map g xs) (s' ∷ map g ys) j) [
    | inl a ↦ (let y = in-map g z xs a in inl (y.0, (in-left y.0 xs ys y.1.0, y.1.1)))
    | inr a ↦ elim a [
      | inl e ↦ inr e
      | inr l ↦ (let y = in-map g z ys l in inl (y.0, (in-right y.0 xs ys y.1.0, y.1.1)))
    ]
  ]

  pub each : (X : Node → Type 0) → X b' → ((y : Node) → In y bs → (y.id == b.id) ≡ false → X (renamed_node f y)) → X s' → (z : Node) → In z hs → X z
  each X at-b at-other at-s z j = elim (in-hs z j) [
    | inr e ↦ subst X e at-s
    | inl y ↦ subst X y.1.1 (elim (cases_Bool (y.0.id == b.id)) [
      | inl t ↦ (let same : b ≡ y.0 = same-box bs b y.0 w.ordered in-b y.1.0 (sym (eqb-true y.0.id b.id t)) in subst X (sym (g-b y.0 t)) (subst (λ (k : Node). X (split_owner ws q us (rq ∷ vs) rest k)) same at-b))
      | inr t ↦ subst X (sym (g-other y.0 t)) (at-other y.0 y.1.0 t)
    ])
  ]

  pub few-b : (k : ℕ) → times k (ids_of b) ≤ 1
  few-b k = few-ids bs b k (w.once k) in-b

  -- these are b's, and rows
  pub own-P : (k : ℕ) → P k ≡ true → owns k b ≡ true
  own-P k h = let r = any-in (is_quant k) ps h in any-from (is_quant k) r.0 b.quants (old-quant r.0 (inr (inl r.1.0))) r.1.1

  pub binds-P : (k : ℕ) → P k ≡ true → binds_row k b.quants ≡ true
  binds-P k h = let r = any-in (is_quant k) ps h in any-from (λ r. is_F r.kind && is_quant k r) r.0 b.quants (old-quant r.0 (inr (inl r.1.0))) (and_from (is_F r.0.kind) (is_quant k r.0) (m.rows r.0 r.1.0) r.1.1)

  pub P-in : (r : OwnedQuant) → In r ps → P r.id ≡ true
  P-in r j = any-from (is_quant r.id) r ps j (eq-itself r.id)

  pub not-q : (k : ℕ) → list_any (owns k) bs ≡ true → (k == q) ≡ false
  not-q k h = elim (cases_Bool (k == q)) [ inr e ↦ e | inl e ↦ absurd (clash (list_any (owns q) bs) (subst (λ z. list_any (owns z) bs ≡ true) (eqb-true k q e) h) m.new_q) ]

  pub P-not-q : (k : ℕ) → P k ≡ true → (k == q) ≡ false
  P-not-q k h = not-q k (any-from (owns k) b bs in-b (own-P k h))

  pub nodes-none : (y : Node) → In y bs → (k : ℕ) → P k ≡ true → nodes_in k y ≡ false
  nodes-none y j k h = elim (cases_Bool (nodes_in k y)) [
    | inr e ↦ e
    | inl t ↦ absurd (let z = w.own_nodes y j k t in clash (binds_row k b.quants) (binds-P k h) (subst (λ (n : Node). binds_row k n.quants ≡ false) (one-owner bs root w k y b j in-b z.0 (own-P k h)) z.1))
  ]

  -- ---- what is read after

  abbrev pub ReadOf : Node → ℕ → Type 0
  ReadOf y k = ((k ≡ q) × ((r : OwnedQuant) × (In r ps × (read_by y r.id ≡ true)))) ⊎ (((k == q) ≡ false) × ((P k ≡ false) × (read_by y k ≡ true)))

  abbrev pub FitOf : Node → ℕ → ℕ → Type 0
  FitOf y k l = ((k ≡ q) × ((r : OwnedQuant) × (In r ps × ((j : ℕ) × ((reads_in r.id j y ≡ true) × (start ws r.id + j ≡ l)))))) ⊎ (((k == q) ≡ false) × ((P k ≡ false) × (reads_in k l y ≡ true)))

  quant-of : (k : ℕ) → P k ≡ true → (r : OwnedQuant) × (In r ps × (k ≡ r.id))
  quant-of k h = let r = any-in (is_quant k) ps h in (r.0, (r.1.0, sym (eqb-true r.0.id k r.1.1)))

  fit-found : (y : Node) → ((k : ℕ) → P k ≡ true → nodes_in k y ≡ false) → nodes_in q y ≡ false → ((j : ℕ) → reads_in q j y ≡ false) → (k l : ℕ) → reads_in k l (renamed_node f y) ≡ true → FitOf y k l
  fit-found y nod nq unread k l t = elim (cases_Bool (k == q)) [
    | inl e ↦ (
        let z = search-at (λ r j. (r == k) || (P r && (start ws r + j == l))) (λ r. prelude.not (r == k)) y (node-found f (λ r j. (r == k) && (j == l)) (λ r j. (r == k) || (P r && (start ws r + j == l))) (λ r. false) (λ r. false) (λ r. prelude.not (r == k)) was y t) in
        elim (or_cases (z.0 == k) (P z.0 && (start ws z.0 + z.1.0 == l)) z.1.1.0) [
          | inl o ↦ absurd (let e' : z.0 ≡ q = eqb-true z.0 k o ∙ eqb-true k q e in clash (reads_in q z.1.0 y) (subst (λ r. reads_in r z.1.0 y ≡ true) e' (z.1.1.1 (subst (λ r. nodes_in r y ≡ false) (sym e') nq))) (unread z.1.0))
          | inr o ↦ (
              let u = and_parts (P z.0) (start ws z.0 + z.1.0 == l) o in
              let r = quant-of z.0 u.0 in
              inl (eqb-true k q e, (r.0, (r.1.0, (z.1.0, (subst (λ k. reads_in k z.1.0 y ≡ true) r.1.1 (z.1.1.1 (nod z.0 u.0)), ap (λ k. start ws k + z.1.0) (sym r.1.1) ∙ eqb-true (start ws z.0 + z.1.0) l u.1))))))
        ])
    | inr e ↦ (
        let found = node-found f (λ r j. (r == k) && (j == l)) (λ r j. prelude.not (P r) && ((r == k) && (j == l))) (λ r. false) (λ r. false) (λ r. prelude.not (r == k)) (old e) y t in
        let z = search-at (λ r j. prelude.not (P r) && ((r == k) && (j == l))) (λ r. prelude.not (r == k)) y found in
        let u = and_parts (prelude.not (P z.0)) ((z.0 == k) && (z.1.0 == l)) z.1.1.0 in
        inr (e, (subst (λ r. P r ≡ false) (eqb-true z.0 k (and_parts (z.0 == k) (z.1.0 == l) u.1).0) (Rattle.std.proofs.lemmas.Bool.not-true (P z.0) u.0), again found)))
  ]
    where
      was : (r j : ℕ) → Rattle.qgm_terms.specs.Wanted.any_in (Rattle.qgm_meaning.specs.Searches.looking (λ r j. (r == k) && (j == l)) (λ r. false) (λ r. false) (λ r. prelude.not (r == k))) (f r j) ≡ true → ((r == k) || (P r && (start ws r + j == l))) ≡ true
      was r j h = elim (cases_Bool (P r)) [
        | inl t ↦ (
            let c : ((q == k) && (start ws r + j == l)) ≡ true = sym (ap (λ z. Rattle.qgm_terms.specs.Wanted.any_in (Rattle.qgm_meaning.specs.Searches.looking (λ r j. (r == k) && (j == l)) (λ r. false) (λ r. false) (λ r. prelude.not (r == k))) (cond z (col q (start ws r + j)) (col r j))) (in-sizes wide ps r ∙ t)) ∙ h in
            or_right (r == k) (P r && (start ws r + j == l)) (and_from (P r) (start ws r + j == l) t (and_parts (q == k) (start ws r + j == l) c).1))
        | inr t ↦ (
            let c : ((r == k) && (j == l)) ≡ true = sym (ap (λ z. Rattle.qgm_terms.specs.Wanted.any_in (Rattle.qgm_meaning.specs.Searches.looking (λ r j. (r == k) && (j == l)) (λ r. false) (λ r. false) (λ r. prelude.not (r == k))) (cond z (col q (start ws r + j)) (col r j))) (in-sizes wide ps r ∙ t)) ∙ h in
            or_left (r == k) (P r && (start ws r + j == l)) (and_parts (r == k) (j == l) c).0)
      ]

      old : (k == q) ≡ false → (r j : ℕ) → Rattle.qgm_terms.specs.Wanted.any_in (Rattle.qgm_meaning.specs.Searches.looking (λ r j. (r == k) && (j == l)) (λ r. false) (λ r. false) (λ r. prelude.not (r == k))) (f r j) ≡ true → (prelude.not (P r) && ((r == k) && (j == l))) ≡ true
      old e r j h = elim (cases_Bool (P r)) [
        | inl t ↦ absurd (
            let c : ((q == k) && (start ws r + j == l)) ≡ true = sym (ap (λ z. Rattle.qgm_terms.specs.Wanted.any_in (Rattle.qgm_meaning.specs.Searches.looking (λ r j. (r == k) && (j == l)) (λ r. false) (λ r. false) (λ r. prelude.not (r == k))) (cond z (col q (start ws r + j)) (col r j))) (in-sizes wide ps r ∙ t)) ∙ h in
            clash (q == k) (and_parts (q == k) (start ws r + j == l) c).0 (eq-false-sym k q e))
        | inr t ↦ (
            let c : ((r == k) && (j == l)) ≡ true = sym (ap (λ z. Rattle.qgm_terms.specs.Wanted.any_in (Rattle.qgm_meaning.specs.Searches.looking (λ r j. (r == k) && (j == l)) (λ r. false) (λ r. false) (λ r. prelude.not (r == k))) (cond z (col q (start ws r + j)) (col r j))) (in-sizes wide ps r ∙ t)) ∙ h in
            and_from (prelude.not (P r)) ((r == k) && (j == l)) (ap prelude.not t) c)
      ]

      again : (list_any (Rattle.qgm_terms.specs.Wanted.any_in (Rattle.qgm_meaning.specs.Searches.looking (λ r j. prelude.not (P r) && ((r == k) && (j == l))) (λ r. false) (λ r. false) (λ r. prelude.not (r == k)))) y.parts.head || list_any (Rattle.qgm_terms.specs.Wanted.any_in_cond (Rattle.qgm_meaning.specs.Searches.looking (λ r j. prelude.not (P r) && ((r == k) && (j == l))) (λ r. false) (λ r. false) (λ r. prelude.not (r == k)))) y.parts.conds.items) ≡ true → reads_in k l y ≡ true
      again t = elim (or_cases (list_any (Rattle.qgm_terms.specs.Wanted.any_in (Rattle.qgm_meaning.specs.Searches.looking (λ r j. prelude.not (P r) && ((r == k) && (j == l))) (λ r. false) (λ r. false) (λ r. prelude.not (r == k)))) y.parts.head) (list_any (Rattle.qgm_terms.specs.Wanted.any_in_cond (Rattle.qgm_meaning.specs.Searches.looking (λ r j. prelude.not (P r) && ((r == k) && (j == l))) (λ r. false) (λ r. false) (λ r. prelude.not (r == k)))) y.parts.conds.items) t) [
        | inl a ↦ or_left (list_any (reads_at k l) y.parts.head) (list_any (reads_at_cond k l) y.parts.conds.items) (heads-more (λ r j. prelude.not (P r) && ((r == k) && (j == l))) (λ r j. (r == k) && (j == l)) (λ r. false) (λ r. false) (λ r. false) (λ r. false) (λ r. prelude.not (r == k)) (λ r. prelude.not (r == k)) (λ r j h. (and_parts (prelude.not (P r)) ((r == k) && (j == l)) h).1) (λ r h. h) (λ r h. h) (λ r h. h) y.parts.head a)
        | inr a ↦ or_right (list_any (reads_at k l) y.parts.head) (list_any (reads_at_cond k l) y.parts.conds.items) (conds-more (λ r j. prelude.not (P r) && ((r == k) && (j == l))) (λ r j. (r == k) && (j == l)) (λ r. false) (λ r. false) (λ r. false) (λ r. false) (λ r. prelude.not (r == k)) (λ r. prelude.not (r == k)) (λ r j h. (and_parts (prelude.not (P r)) ((r == k) && (j == l)) h).1) (λ r h. h) (λ r h. h) (λ r h. h) y.parts.conds.items a)
      ]

  pub no-q : (y : Node) → In y bs → (read_by y q ≡ false) × (nodes_in q y ≡ false)
  no-q y j = (
    (elim (cases_Bool (read_by y q)) [ inr e ↦ e | inl t ↦ absurd (clash (list_any (owns q) bs) (read-owned bs root w y q j t) m.new_q) ]),
    (elim (cases_Bool (nodes_in q y)) [ inr e ↦ e | inl t ↦ absurd (clash (owns q y) (w.own_nodes y j q t).0 (any-none (owns q) y bs m.new_q j)) ]),
  )

  no-read-q : (y : Node) → read_by y q ≡ false → (j : ℕ) → reads_in q j y ≡ false
  no-read-q y h j = elim (cases_Bool (reads_in q j y)) [ inr e ↦ e | inl t ↦ absurd (clash (read_by y q) (reads-at-read q j y t) h) ]

  -- of b as it stays
  pub sub-read : (k : ℕ) → read_by b0 k ≡ true → read_by b k ≡ true
  sub-read k h = elim (or_cases (list_any (reads k) b.parts.head) (list_any (reads_cond k) rest) h) [
    | inl a ↦ or_left (list_any (reads k) b.parts.head) (list_any (reads_cond k) b.parts.conds.items) a
    | inr a ↦ or_right (list_any (reads k) b.parts.head) (list_any (reads_cond k) b.parts.conds.items) (ap (list_any (reads_cond k)) m.conds ∙ any-both (reads_cond k) rest taken ∙ or_left (list_any (reads_cond k) rest) (list_any (reads_cond k) taken) a)
  ]

  sub-reads : (k l : ℕ) → reads_in k l b0 ≡ true → reads_in k l b ≡ true
  sub-reads k l h = elim (or_cases (list_any (reads_at k l) b.parts.head) (list_any (reads_at_cond k l) rest) h) [
    | inl a ↦ or_left (list_any (reads_at k l) b.parts.head) (list_any (reads_at_cond k l) b.parts.conds.items) a
    | inr a ↦ or_right (list_any (reads_at k l) b.parts.head) (list_any (reads_at_cond k l) b.parts.conds.items) (ap (list_any (reads_at_cond k l)) m.conds ∙ any-both (reads_at_cond k l) rest taken ∙ or_left (list_any (reads_at_cond k l) rest) (list_any (reads_at_cond k l) taken) a)
  ]

  pub sub-nodes : (k : ℕ) → nodes_in k b0 ≡ true → nodes_in k b ≡ true
  sub-nodes k h = elim (or_cases (list_any (names k) b.parts.head) (list_any (names_cond k) rest) h) [
    | inl a ↦ or_left (list_any (names k) b.parts.head) (list_any (names_cond k) b.parts.conds.items) a
    | inr a ↦ or_right (list_any (names k) b.parts.head) (list_any (names_cond k) b.parts.conds.items) (ap (list_any (names_cond k)) m.conds ∙ any-both (names_cond k) rest taken ∙ or_left (list_any (names_cond k) rest) (list_any (names_cond k) taken) a)
  ]

  pub none-sub : (u v : Bool) → (u ≡ true → v ≡ true) → v ≡ false → u ≡ false
  none-sub u v h e = elim (cases_Bool u) [ inr t ↦ t | inl t ↦ absurd (clash v (h t) e) ]

  pub fit-other : (y : Node) → In y bs → (k l : ℕ) → reads_in k l (renamed_node f y) ≡ true → FitOf y k l
  fit-other y j = fit-found y (nodes-none y j) (no-q y j).1 (no-read-q y (no-q y j).0)

  fit-owner : (k l : ℕ) → reads_in k l b' ≡ true → FitOf b k l
  fit-owner k l h = elim (fit-found b0 (λ k t. none-sub (nodes_in k b0) (nodes_in k b) (sub-nodes k) (nodes-none b in-b k t)) (none-sub (nodes_in q b0) (nodes_in q b) (sub-nodes q) (no-q b in-b).1)
      (λ j. none-sub (reads_in q j b0) (reads_in q j b) (sub-reads q j) (no-read-q b (no-q b in-b).0 j)) k l h) [
        | inl z ↦ inl (z.0, (z.1.0, (z.1.1.0, (z.1.1.1.0, (sub-reads z.1.0.id z.1.1.1.0 z.1.1.1.1.0, z.1.1.1.1.1)))))
        | inr z ↦ inr (z.0, (z.1.0, sub-reads k l z.1.1))
      ]

  read-of : (y z : Node) (k : ℕ) → ((l : ℕ) → reads_in k l z ≡ true → FitOf y k l) → read_by z k ≡ true → ReadOf y k
  read-of y z k h t =
      let l = Rattle.rule_feed.proofs.FeedLooks.at-some k z t in
      elim (h l.0 l.1) [
        | inl u ↦ inl (u.0, (u.1.0, (u.1.1.0, reads-at-read u.1.0.id u.1.1.1.0 y u.1.1.1.1.0)))
        | inr u ↦ inr (u.0, (u.1.0, reads-at-read k l.0 y u.1.1))
      ]

  -- ---- what is looked up after

  abbrev pub look : ℕ → ℕ → Bool
  look z k = cond (k == q) (list_any (λ (r : OwnedQuant). loose bs z r.id) ps) (cond (P k) false (loose bs z k))

  abbrev pub LookOf : ℕ → ℕ → Type 0
  LookOf z k = ((k ≡ q) × ((r : OwnedQuant) × (In r ps × (loose bs z r.id ≡ true)))) ⊎ (((k == q) ≡ false) × ((P k ≡ false) × (loose bs z k ≡ true)))

  pub look-of : (z k : ℕ) → look z k ≡ true → LookOf z k
  look-of z k h = elim (cases_Bool (k == q)) [
    | inl t ↦ inl (eqb-true k q t, any-in (λ (r : OwnedQuant). loose bs z r.id) ps (sym (ap (λ b. cond b (list_any (λ (r : OwnedQuant). loose bs z r.id) ps) (cond (P k) false (loose bs z k))) t) ∙ h))
    | inr t ↦ (
        let h' : cond (P k) false (loose bs z k) ≡ true = sym (ap (λ b. cond b (list_any (λ (r : OwnedQuant). loose bs z r.id) ps) (cond (P k) false (loose bs z k))) t) ∙ h in
        elim (cases_Bool (P k)) [
          | inl u ↦ absurd (clash (cond (P k) false (loose bs z k)) h' (ap (λ b. cond b false (loose bs z k)) u))
          | inr u ↦ inr (t, (u, sym (ap (λ b. cond b false (loose bs z k)) u) ∙ h'))
        ])
  ]

  pub look-q : (z : ℕ) (r : OwnedQuant) → In r ps → loose bs z r.id ≡ true → look z q ≡ true
  look-q z r j h = ap (λ b. cond b (list_any (λ (r : OwnedQuant). loose bs z r.id) ps) (cond (P q) false (loose bs z q))) (eq-itself q) ∙ any-from (λ (r : OwnedQuant). loose bs z r.id) r ps j h

  pub look-else : (z k : ℕ) → (k == q) ≡ false → P k ≡ false → look z k ≡ loose bs z k
  look-else z k t u = ap (λ b. cond b (list_any (λ (r : OwnedQuant). loose bs z r.id) ps) (cond (P k) false (loose bs z k))) t ∙ ap (λ b. cond b false (loose bs z k)) u

  pub look-some : (z k : ℕ) → look z k ≡ true → (y : ℕ) × (loose bs z y ≡ true)
  look-some z k h = elim (look-of z k h) [ inl u ↦ (u.1.0.id, u.1.1.1) | inr u ↦ (k, u.1.1) ]

  pub look-none : (z k : ℕ) → ((y : ℕ) → loose bs z y ≡ false) → look z k ≡ false
  look-none z k h = elim (cases_Bool (look z k)) [ inr e ↦ e | inl t ↦ absurd (let a = look-some z k t in clash (loose bs z a.0) a.1 (h a.0)) ]

  pub new-none : (y : ℕ) → loose bs s y ≡ false
  new-none y = elim (cases_Bool (loose bs s y)) [ inr e ↦ e | inl t ↦ absurd (clash (has_box bs s) (loose-held bs s y t) m.new_s) ]

  pub not-own : (k : ℕ) → owns k b ≡ true → (y : Node) → In y bs → (y.id == b.id) ≡ false → owns k y ≡ false
  not-own k o y j e = elim (cases_Bool (owns k y)) [
    | inr t ↦ t
    | inl t ↦ absurd (clash (y.id == b.id) (eq-eqb y.id b.id (ap (λ (k : Node). k.id) (one-owner bs root w k y b j in-b t o))) e)
  ]

  -- ---- scope

  other-scoped : (y : Node) → In y bs → (y.id == b.id) ≡ false → Scoped look (renamed_node f y)
  other-scoped y j nob = record {
    under = λ done r rst e k h. elim (look-of r.over k h) [
      | inl u ↦ elim (or_cases (shows_by y.parts.kind y.quants done r u.1.0.id) (loose bs y.id u.1.0.id) (sc.under done r rst e u.1.0.id u.1.1.1)) [
        | inl z ↦ absurd (clash (owns u.1.0.id y) (shows-owned y.parts.kind y.quants done r rst u.1.0.id e z) (not-own u.1.0.id (own-P u.1.0.id (P-in u.1.0 u.1.1.0)) y j nob))
        | inr z ↦ or_right (shows_by y.parts.kind y.quants done r k) (look y.id k) (subst (λ k. look y.id k ≡ true) (sym u.0) (look-q y.id u.1.0 u.1.1.0 z))
      ]
      | inr u ↦ elim (or_cases (shows_by y.parts.kind y.quants done r k) (loose bs y.id k) (sc.under done r rst e k u.1.1)) [
        | inl z ↦ or_left (shows_by y.parts.kind y.quants done r k) (look y.id k) z
        | inr z ↦ or_right (shows_by y.parts.kind y.quants done r k) (look y.id k) (look-else y.id k u.0 u.1.0 ∙ z)
      ]
    ];
    own = λ k h. ap (λ (z : Bool). z || look y.id k) (seen-same y.parts.kind y (renamed_node f y) k refl) ∙ (elim (read-of y (renamed_node f y) k (λ l t. fit-other y j k l t) h) [
      | inl u ↦ elim (or_cases (own_seen y.parts.kind y u.1.0.id) (loose bs y.id u.1.0.id) (sc.own u.1.0.id u.1.1.1)) [
        | inl z ↦ absurd (clash (owns u.1.0.id y) (seen-owned y.parts.kind y u.1.0.id z) (not-own u.1.0.id (own-P u.1.0.id (P-in u.1.0 u.1.1.0)) y j nob))
        | inr z ↦ or_right (own_seen y.parts.kind y k) (look y.id k) (subst (λ k. look y.id k ≡ true) (sym u.0) (look-q y.id u.1.0 u.1.1.0 z))
      ]
      | inr u ↦ elim (or_cases (own_seen y.parts.kind y k) (loose bs y.id k) (sc.own k u.1.1)) [
        | inl z ↦ or_left (own_seen y.parts.kind y k) (look y.id k) z
        | inr z ↦ or_right (own_seen y.parts.kind y k) (look y.id k) (look-else y.id k u.0 u.1.0 ∙ z)
      ]
    ]);
  }
    where
      sc : Scoped (loose bs) y
      sc = scoped-of bs root w y j

  -- what isn't of these is bound as before
  binds-P-none : (k : ℕ) → P k ≡ false → binds_row k ps ≡ false
  binds-P-none k h = elim (cases_Bool (binds_row k ps)) [ inr e ↦ e | inl t ↦ absurd (clash (P k) (bound-owned k ps t) h) ]

  binds-more : (k : ℕ) (ts : List OwnedQuant) → P k ≡ false → binds_row k (us ++ (ps ++ ts)) ≡ true → binds_row k (us ++ rq ∷ ts) ≡ true
  binds-more k ts h t = binds-both k us (rq ∷ ts) ∙ (elim (or_cases (binds_row k us) (binds_row k (ps ++ ts)) (sym (binds-both k us (ps ++ ts)) ∙ t)) [
    | inl a ↦ or_left (binds_row k us) (binds_row k (rq ∷ ts)) a
    | inr a ↦ or_right (binds_row k us) (binds_row k (rq ∷ ts)) (or_right (q == k) (binds_row k ts) (elim (or_cases (binds_row k ps) (binds_row k ts) (sym (binds-both k ps ts) ∙ a)) [
      | inl z ↦ absurd (clash (binds_row k ps) z (binds-P-none k h))
      | inr z ↦ z
    ]))
  ])

  binds-q : (ts : List OwnedQuant) → binds_row q (us ++ rq ∷ ts) ≡ true
  binds-q ts = binds-both q us (rq ∷ ts) ∙ or_right (binds_row q us) (binds_row q (rq ∷ ts)) (or_left (q == q) (binds_row q ts) (eq-itself q))

  binds-all : (k : ℕ) → P k ≡ false → binds_row k b.quants ≡ true → binds_row k (us ++ rq ∷ vs) ≡ true
  binds-all k h t = binds-more k vs h (sym (ap (binds_row k) m.quants) ∙ t)

  -- where a quantifier of b stands after
  abbrev Split : List OwnedQuant → OwnedQuant → Type 0
  Split done r = (r ≡ rq) ⊎ (((aft : List OwnedQuant) × (us ≡ done ++ r ∷ aft)) ⊎ ((ts : List OwnedQuant) × ((aft : List OwnedQuant) × ((vs ≡ ts ++ r ∷ aft) × (done ≡ us ++ rq ∷ ts)))))

  split-at : (us : List OwnedQuant) (done : List OwnedQuant) (r : OwnedQuant) (rst : List OwnedQuant) → us ++ rq ∷ vs ≡ done ++ r ∷ rst
      → (r ≡ rq) ⊎ (((aft : List OwnedQuant) × (us ≡ done ++ r ∷ aft)) ⊎ ((ts : List OwnedQuant) × ((aft : List OwnedQuant) × ((vs ≡ ts ++ r ∷ aft) × (done ≡ us ++ rq ∷ ts)))))
  split-at [] [] r rst e = inl (let h : r ≡ rq = cc in h)
  split-at [] (d ∷ done) r rst e = inr (inr (let h : rq ≡ d = cc in let k : vs ≡ done ++ r ∷ rst = cc in (done, (rst, (k, ap (λ (z : OwnedQuant). z ∷ done) (sym h))))))
  split-at (u ∷ us) [] r rst e = inr (inl (let h : u ≡ r = cc in (us, ap (λ (z : OwnedQuant). z ∷ us) h)))
  split-at (u ∷ us) (d ∷ done) r rst e =
      let h : u ≡ d = cc in
      let k : us ++ rq ∷ vs ≡ done ++ r ∷ rst = cc in
      elim (split-at us done r rst k) [
        | inl a ↦ inl a
        | inr a ↦ inr (elim a [
          | inl z ↦ inl (z.0, ap₂ (λ (y : OwnedQuant) (ys : List OwnedQuant). y ∷ ys) h z.1)
          | inr z ↦ inr (z.0, (z.1.0, (z.1.1.0, ap₂ (λ (y : OwnedQuant) (ys : List OwnedQuant). y ∷ ys) (sym h) z.1.1.1)))
        ])
      ]

  assoc : (xs ys zs : List OwnedQuant) → xs ++ (ys ++ zs) ≡ (xs ++ ys) ++ zs
  assoc [] ys zs = refl
  assoc (x ∷ xs) ys zs = ap (λ (k : List OwnedQuant). x ∷ k) (assoc xs ys zs)

  -- one of these isn't among the quantifiers before them
  not-before : (k : ℕ) → P k ≡ true → list_any (is_quant k) us ≡ true → ⊥
  not-before k h t =
      let r = any-in (is_quant k) ps h in
      let u = any-in (is_quant k) us t in
      let one : 1 ≤ times k (map (λ (z : OwnedQuant). z.id) ps) = subst (λ z. 1 ≤ times z (map (λ (z : OwnedQuant). z.id) ps)) (eqb-true r.0.id k r.1.1) (in-times (λ (z : OwnedQuant). z.id) r.0 ps r.1.0) in
      let more : 1 ≤ times k (map (λ (z : OwnedQuant). z.id) us) = subst (λ z. 1 ≤ times z (map (λ (z : OwnedQuant). z.id) us)) (eqb-true u.0.id k u.1.1) (in-times (λ (z : OwnedQuant). z.id) u.0 us u.1.0) in
      let few : times k (map (λ (z : OwnedQuant). z.id) (us ++ (ps ++ vs))) ≤ 1 = subst (λ z. times k (map (λ (z : OwnedQuant). z.id) z) ≤ 1) m.quants (few-b k) in
      let e1 : times k (map (λ (z : OwnedQuant). z.id) (us ++ (ps ++ vs))) ≡ times k (map (λ (z : OwnedQuant). z.id) us) + times k (map (λ (z : OwnedQuant). z.id) (ps ++ vs)) = ap (times k) (map-append (λ (z : OwnedQuant). z.id) us (ps ++ vs)) ∙ times-append k (map (λ (z : OwnedQuant). z.id) us) (map (λ (z : OwnedQuant). z.id) (ps ++ vs)) in
      let e2 : times k (map (λ (z : OwnedQuant). z.id) (ps ++ vs)) ≡ times k (map (λ (z : OwnedQuant). z.id) ps) + times k (map (λ (z : OwnedQuant). z.id) vs) = ap (times k) (map-append (λ (z : OwnedQuant). z.id) ps vs) ∙ times-append k (map (λ (z : OwnedQuant). z.id) ps) (map (λ (z : OwnedQuant). z.id) vs) in
      let z : ⊥ = omega arith in z

  sc-b : Scoped (loose bs) b
  sc-b = scoped-of bs root w b in-b

  -- what a quantifier of b that stays is shown
  shown : (old done : List OwnedQuant) (r : OwnedQuant) (aft : List OwnedQuant) (k : ℕ) → b.quants ≡ old ++ r ∷ aft → ((k : ℕ) → P k ≡ false → binds_row k old ≡ true → binds_row k done ≡ true) → ((k : ℕ) → P k ≡ true → binds_row k old ≡ true → binds_row q done ≡ true)
      → look r.over k ≡ true → (shows_by Select (us ++ rq ∷ vs) done r k || look b.id k) ≡ true
  shown old done r aft k e rows into-q h = elim (look-of r.over k h) [
    | inr u ↦ elim (or_cases (shows_by b.parts.kind b.quants old r k) (loose bs b.id k) (sc-b.under old r aft e k u.1.1)) [
      | inr z ↦ or_right (shows_by Select (us ++ rq ∷ vs) done r k) (look b.id k) (look-else b.id k u.0 u.1.0 ∙ z)
      | inl z ↦ or_left (shows_by Select (us ++ rq ∷ vs) done r k) (look b.id k) (by (is_F r.kind) (binds_row k old) (binds_row k b.quants) (binds_row k done) (binds_row k (us ++ rq ∷ vs)) (rows k u.1.0) (binds-all k u.1.0) (sym (ap (λ s. shows_by s b.quants old r k) m.a_select) ∙ z))
    ]
    | inl u ↦ elim (or_cases (shows_by b.parts.kind b.quants old r u.1.0.id) (loose bs b.id u.1.0.id) (sc-b.under old r aft e u.1.0.id u.1.1.1)) [
      | inr z ↦ or_right (shows_by Select (us ++ rq ∷ vs) done r k) (look b.id k) (subst (λ k. look b.id k ≡ true) (sym u.0) (look-q b.id u.1.0 u.1.1.0 z))
      | inl z ↦ or_left (shows_by Select (us ++ rq ∷ vs) done r k) (look b.id k) (subst (λ k. shows_by Select (us ++ rq ∷ vs) done r k ≡ true) (sym u.0)
          (by (is_F r.kind) (binds_row u.1.0.id old) (binds_row u.1.0.id b.quants) (binds_row q done) (binds_row q (us ++ rq ∷ vs)) (into-q u.1.0.id (P-in u.1.0 u.1.1.0)) (λ t. binds-q vs) (sym (ap (λ s. shows_by s b.quants old r u.1.0.id) m.a_select) ∙ z)))
    ]
  ]
    where
      by : (t a o a' o' : Bool) → (a ≡ true → a' ≡ true) → (o ≡ true → o' ≡ true) → cond t a o ≡ true → cond t a' o' ≡ true
      by true a o a' o' f g h = f h
      by false a o a' o' f g h = g h

  owner-scoped : Scoped look b'
  owner-scoped = record {
    under = λ done r rst e k h. ap (λ z. shows_by z (us ++ rq ∷ vs) done r k || look b.id k) m.a_select ∙ (elim (split-at us done r rst e) [
      | inl a ↦ absurd (clash (look r.over k) h (look-none r.over k (subst (λ (z : OwnedQuant). (y : ℕ) → loose bs z.over y ≡ false) (sym a) new-none)))
      | inr a ↦ elim a [
        | inl z ↦ (
            let eb : b.quants ≡ done ++ r ∷ (z.0 ++ (ps ++ vs)) = m.quants ∙ ap (λ (u : List OwnedQuant). u ++ (ps ++ vs)) z.1 ∙ sym (assoc done (r ∷ z.0) (ps ++ vs)) in
            shown done done r (z.0 ++ (ps ++ vs)) k eb (λ k p t. t)
            (λ k p t. absurd (not-before k p (subst (λ (u : List OwnedQuant). list_any (is_quant k) u ≡ true) (sym z.1) (any-both (is_quant k) done (r ∷ z.0) ∙ or_left (list_any (is_quant k) done) (list_any (is_quant k) (r ∷ z.0)) (bound-owned k done t)))))
            h)
        | inr z ↦ (
            let eb : b.quants ≡ (us ++ (ps ++ z.0)) ++ r ∷ z.1.0 = m.quants ∙ ap (λ (u : List OwnedQuant). us ++ (ps ++ u)) z.1.1.0 ∙ ap (λ (u : List OwnedQuant). us ++ u) (assoc ps z.0 (r ∷ z.1.0)) ∙ assoc us (ps ++ z.0) (r ∷ z.1.0) in
            shown (us ++ (ps ++ z.0)) done r z.1.0 k eb
            (λ k p t. subst (λ (u : List OwnedQuant). binds_row k u ≡ true) (sym z.1.1.1) (binds-more k z.0 p t))
            (λ k p t. subst (λ (u : List OwnedQuant). binds_row q u ≡ true) (sym z.1.1.1) (binds-q z.0)) h)
      ]
    ]);
    own = λ k h. ap (λ z. own_seen z b' k || look b.id k) m.a_select ∙ (elim (read-of b b' k (λ l t. fit-owner k l t) h) [
      | inl u ↦ or_left (binds_row k (us ++ rq ∷ vs)) (look b.id k) (subst (λ k. binds_row k (us ++ rq ∷ vs) ≡ true) (sym u.0) (binds-q vs))
      | inr u ↦ elim (or_cases (own_seen b.parts.kind b k) (loose bs b.id k) (sc-b.own k u.1.1)) [
        | inl z ↦ or_left (binds_row k (us ++ rq ∷ vs)) (look b.id k) (binds-all k u.1.0 (sym (ap (λ s. own_seen s b k) m.a_select) ∙ z))
        | inr z ↦ or_right (binds_row k (us ++ rq ∷ vs)) (look b.id k) (look-else b.id k u.0 u.1.0 ∙ z)
      ]
    ]);
  }

  pub P-list : (p : ℕ × ℕ) → In p ws → (r : OwnedQuant) × (In r ps × ((r.id, wide r) ≡ p))
  P-list p j = in-map (λ (r : OwnedQuant). (r.id, wide r)) p ps j

  pub s-read : (k : ℕ) → read_by s' k ≡ true → P k ≡ true
  s-read k h = elim (or_cases (list_any (reads k) (heads ws)) (list_any (reads_cond k) taken) h) [
    | inl a ↦ (
        let z = heads-list (reads k) ws a in
        let r = P-list z.0 z.1.0 in
        let e : r.0.id ≡ k = ap (λ (p : ℕ × ℕ). p.0) r.1.1 ∙ eqb-true z.0.0 k z.1.1.1.0 in
        subst (λ k. P k ≡ true) e (P-in r.0 r.1.0))
    | inr a ↦ (let c = any-in (reads_cond k) taken a in m.taken_own c.0 c.1.0 k c.1.1)
  ]

  split-scoped : Scoped look s'
  split-scoped = record {
    under = λ done r rst e k h. absurd (clash (look r.over k) h (look-none r.over k (m.closed r (subst (λ z. In r z) (sym e) (in-right r done (r ∷ rst) (inl refl))))));
    own = λ k h. (let r = any-in (is_quant k) ps (s-read k h) in or_left (binds_row k ps) (look s k) (any-from (λ r. is_F r.kind && is_quant k r) r.0 ps r.1.0 (and_from (is_F r.0.kind) (is_quant k r.0) (m.rows r.0 r.1.0) r.1.1)));
  }

  pub scoped-after : (z : Node) → In z hs → Scoped look z
  scoped-after = each (Scoped look) owner-scoped other-scoped split-scoped

  pub owned-b : (k : ℕ) → owns k b' ≡ true → (k == q) ≡ false → owns k b ≡ true
  owned-b k h e = elim (any-append (is_quant k) us (rq ∷ vs) h) [
    | inl a ↦ (let r = any-in (is_quant k) us a in any-from (is_quant k) r.0 b.quants (old-quant r.0 (inl r.1.0)) r.1.1)
    | inr a ↦ elim (or_cases (q == k) (list_any (is_quant k) vs) a) [
      | inl t ↦ absurd (clash (q == k) t (eq-false-sym k q e))
      | inr t ↦ (let r = any-in (is_quant k) vs t in any-from (is_quant k) r.0 b.quants (old-quant r.0 (inr (inr r.1.0))) r.1.1)
    ]
  ]

  settled-after : (z : Node) → In z hs → (k : ℕ) → owns k z ≡ true → look z.id k ≡ false
  settled-after = each (λ z. (k : ℕ) → owns k z ≡ true → look z.id k ≡ false)
      (λ k o. elim (cases_Bool (look b.id k)) [
        | inr e ↦ e
        | inl h ↦ absurd (elim (look-of b.id k h) [
          | inl u ↦ clash (loose bs b.id u.1.0.id) u.1.1.1 (w.settled b in-b u.1.0.id (own-P u.1.0.id (P-in u.1.0 u.1.1.0)))
          | inr u ↦ clash (loose bs b.id k) u.1.1 (w.settled b in-b k (owned-b k o u.0))
        ])
      ])
      (λ y j nob k o. elim (cases_Bool (look y.id k)) [
        | inr e ↦ e
        | inl h ↦ absurd (elim (look-of y.id k h) [
          | inl u ↦ clash (list_any (owns q) bs) (any-from (owns q) y bs j (subst (λ k. owns k y ≡ true) u.0 o)) m.new_q
          | inr u ↦ clash (loose bs y.id k) u.1.1 (w.settled y j k o)
        ])
      ])
      (λ k o. look-none s k new-none)

  -- ---- counts

  counted : (fn : OwnedQuant → ℕ) (z : ℕ) → times z (flat_map (λ (y : Node). map fn y.quants) hs) ≡ times z (flat_map (λ (y : Node). map fn y.quants) bs) + times z (fn rq ∷ [])
  counted fn z =
      let h = λ (y : Node). map fn y.quants in
      let a = times-more h z (map g xs) s' (map g ys) in
      let e : times z (flat_map h (map g xs ++ map g ys)) ≡ times z (flat_map h (map g bs)) = ap (λ k. times z (flat_map h k)) (sym (map-append g xs ys)) in
      let o = times-change h g z b bs (once-each bs w.ordered) in-b (λ y j t. ap (map fn) (quants-same y t)) in
      let n : times z (map fn (g b).quants) ≡ times z (map fn us) + (times z (fn rq ∷ []) + times z (map fn vs)) =
      ap (λ k. times z (map fn k)) quants-b ∙ ap (times z) (map-append fn us (rq ∷ vs)) ∙ times-append z (map fn us) (fn rq ∷ map fn vs) ∙ ap (λ k. times z (map fn us) + k) (times-append z (fn rq ∷ []) (map fn vs)) in
      let l : times z (map fn b.quants) ≡ times z (map fn us) + (times z (map fn ps) + times z (map fn vs)) =
      ap (λ k. times z (map fn k)) m.quants ∙ ap (times z) (map-append fn us (ps ++ vs)) ∙ times-append z (map fn us) (map fn (ps ++ vs)) ∙ ap (λ k. times z (map fn us) + k) (ap (times z) (map-append fn ps vs) ∙ times-append z (map fn ps) (map fn vs)) in
      omega arith

  absent : (z k : ℕ) → (k == z) ≡ false → times z (k ∷ []) ≡ 0
  absent z k h = ap (λ (t : Bool). cond t 1 0 + 0) h

  most : (z k : ℕ) → times z (k ∷ []) ≤ 1
  most z k = elim (k == z) as (λ t. cond t 1 0 + 0 ≤ 1) [ true ↦ omega arith | false ↦ omega arith ]

  used-after : (z k : ℕ) → look z k ≡ true → times z (overs_in hs) ≡ 1
  used-after z k h =
      let a = look-some z k h in
      let held = loose-held bs z a.0 a.1 in
      let one = w.used z a.0 a.1 in
      let u = counted (λ r. r.over) z in
      let ns = absent z s (other (has_box bs) s z m.new_s held) in
      omega arith

  top-after : times root (overs_in hs) ≡ 0
  top-after = let top = w.top in let u = counted (λ r. r.over) root in let ns = absent root s (other (has_box bs) s root m.new_s w.rooted) in omega arith

  once-after : (k : ℕ) → times k (ids_in hs) ≤ 1
  once-after k =
      let u = counted (λ r. r.id) k in
      let w1 = w.once k in
      elim (cases_Bool (q == k)) [
        | inl t ↦ (let z : times k (ids_in bs) ≡ 0 = subst (λ k. times k (ids_in bs) ≡ 0) (eqb-true q k t) (unowned-times q bs m.new_q) in let o = most k q in omega arith)
        | inr t ↦ (let o = absent k q t in omega arith)
      ]

  zero-or : (n : ℕ) → (n ≡ 0) ⊎ (1 ≤ n)
  zero-or zero = inl refl
  zero-or (suc n) = inr (omega arith)

  pub one-after : times s (overs_in hs) ≡ 1
  one-after =
      let u = counted (λ r. r.over) s in
      let me : times s (s ∷ []) ≡ 1 = ap (λ (t : Bool). cond t 1 0 + 0) (eq-itself s) in
      elim (zero-or (times s (overs_in bs))) [
        | inl z ↦ omega arith
        | inr h ↦ absurd (
            let n = times-some overs_of s bs h in
            let r = times-map (λ (r : OwnedQuant). r.over) s n.0.quants n.1.1 in
            clash (has_box bs s) (subst (λ k. has_box bs k ≡ true) r.1.1 (overs-held bs n.0 r.0 w.ordered n.1.0 r.1.0)) m.new_s)
      ]

  -- ---- widths and columns

  pub width-g : (y : Node) → width (g y) ≡ width y
  width-g y = elim (cases_Bool (y.id == b.id)) [
    | inl t ↦ ap width (g-b y t) ∙ ap (width_by y.parts.kind) (length-map (renamed f) y.parts.head)
    | inr t ↦ ap width (g-other y t) ∙ ap (width_by y.parts.kind) (length-map (renamed f) y.parts.head)
  ]

  pub box-old : (z : Node) → In z hs → has_box bs z.id ≡ true → (y : Node) × (In y bs × ((y.id ≡ z.id) × (width z ≡ width y)))
  box-old z j h = elim (in-hs z j) [
    | inl y ↦ (y.0, (y.1.0, (sym (id y.0) ∙ ap (λ (k : Node). k.id) y.1.1, ap width (sym y.1.1) ∙ width-g y.0)))
    | inr e ↦ absurd (clash (has_box bs s) (subst (λ (k : Node). has_box bs k.id ≡ true) (sym e) h) m.new_s)
  ]

  pub box-s : (z : Node) → In z hs → z.id ≡ s → s' ≡ z
  box-s z j e = elim (in-hs z j) [
    | inl y ↦ absurd (clash (has_box bs s) (subst (λ k. has_box bs k ≡ true) (sym (id y.0) ∙ ap (λ (k : Node). k.id) y.1.1 ∙ e) (in-has y.0 bs y.1.0)) m.new_s)
    | inr u ↦ u
  ]

  -- a quantifier after was there, or is q
  pub quant-was : (u : Node) → In u hs → (r : OwnedQuant) → In r u.quants → ((y : Node) × (In y bs × In r y.quants)) ⊎ (r ≡ rq)
  quant-was = each (λ u. (r : OwnedQuant) → In r u.quants → ((y : Node) × (In y bs × In r y.quants)) ⊎ (r ≡ rq))
      (λ r j. elim (in-append r us (rq ∷ vs) j) [
        | inl a ↦ inl (b, (in-b, old-quant r (inl a)))
        | inr a ↦ elim a [ inl e ↦ inr (sym e) | inr k ↦ inl (b, (in-b, old-quant r (inr (inr k)))) ]
      ])
      (λ y j nob r k. inl (y, (j, k)))
      (λ r j. inl (b, (in-b, old-quant r (inr (inl j)))))

  fits-old : (k l : ℕ) → (k == q) ≡ false → Fits bs k l → Fits hs k l
  fits-old k l f h = λ u r z j i e o t. elim (quant-was u j r i) [
    | inr c ↦ absurd (clash (k == q) (eq-eqb k q (sym e ∙ ap (λ (z : OwnedQuant). z.id) c)) f)
    | inl c ↦ (
        let held = overs-held bs c.0 r w.ordered c.1.0 c.1.1 in
        let old = box-old z o (subst (λ n. has_box bs n ≡ true) (sym t) held) in
        let fit = h c.0 r old.0 c.1.0 c.1.1 e old.1.0 (old.1.1.0 ∙ t) in
        (fit.0, subst (λ n. l ≤ n) (sym old.1.1.1) fit.1))
  ]

  fits-q : (l : ℕ) → 1 ≤ l → l ≤ length (heads ws) → Fits hs q l
  fits-q l a o = λ u r z j i e k t. elim (quant-was u j r i) [
    | inl c ↦ absurd (clash (owns q c.0) (any-from (is_quant q) r c.0.quants c.1.1 (eq-eqb r.id q e)) (any-none (owns q) c.0 bs m.new_q c.1.0))
    | inr c ↦ (a, subst (λ (y : Node). l ≤ width y) (box-s z k (t ∙ ap (λ (z : OwnedQuant). z.over) c)) o)
  ]

  -- a column of one of these is in range
  pub in-range : (y : Node) → In y bs → (r : OwnedQuant) → In r ps → (j l : ℕ) → reads_in r.id j y ≡ true → start ws r.id + j ≡ l → Fits hs q l
  in-range y i r k j l h e =
      let z = size-of wide ps r.id (P-in r k) in
      let o = has-in z.0.over ys (m.below z.0 z.1.0) in
      let in-o = in-right o.0 xs ys o.1.0 in
      let fit = w.fits y i r.id j h b z.0 o.0 in-b (old-quant z.0 (inr (inl z.1.0))) z.1.1.0 in-o o.1.1 in
      let wd = m.widths z.0 o.0 z.1.0 in-o o.1.1 in
      let st = start-fits ws r.id (in-sizes wide ps r.id ∙ P-in r k) in
      let sz = z.1.1.1 in
      let a = fit.0 in let u = fit.1 in
      fits-q l (omega (arith, a, e)) (omega (arith, u, e, st, wd, sz))

  pub by-fit : (y : Node) → In y bs → (k l : ℕ) → FitOf y k l → Fits hs k l
  by-fit y j k l h = elim h [
    | inl u ↦ subst (λ k. Fits hs k l) (sym u.0) (in-range y j u.1.0 u.1.1.0 u.1.1.1.0 l u.1.1.1.1.0 u.1.1.1.1.1)
    | inr u ↦ fits-old k l u.0 (w.fits y j k l u.1.1)
  ]

  s-fits : (k l : ℕ) → reads_in k l s' ≡ true → Fits hs k l
  s-fits k l h = elim (or_cases (list_any (reads_at k l) (heads ws)) (list_any (reads_at_cond k l) taken) h) [
    | inr a ↦ fits-old k l (P-not-q k (s-read k (reads-at-read k l s' h))) (w.fits b in-b k l (or_right (list_any (reads_at k l) b.parts.head) (list_any (reads_at_cond k l) b.parts.conds.items) (ap (list_any (reads_at_cond k l)) m.conds ∙ any-both (reads_at_cond k l) rest taken ∙ or_right (list_any (reads_at_cond k l) rest) (list_any (reads_at_cond k l) taken) a)))
    | inl a ↦ (
        let z = heads-list (reads_at k l) ws a in
        let r = P-list z.0 z.1.0 in
        let c = and_parts (z.0.0 == k) (z.1.1.0 == l) z.1.1.1.0 in
        let e : r.0.id ≡ k = ap (λ (p : ℕ × ℕ). p.0) r.1.1 ∙ eqb-true z.0.0 k c.0 in
        let size-r : wide r.0 ≡ z.0.1 = ap (λ (p : ℕ × ℕ). p.1) r.1.1 in
        let l' : z.1.1.0 ≡ l = eqb-true z.1.1.0 l c.1 in
        let lo = z.1.1.1.1.0 in let hi = z.1.1.1.1.1 in
        fits-old k l (P-not-q k (subst (λ k. P k ≡ true) e (P-in r.0 r.1.0))) (λ u t y i jt et iy ey. (
        let same : u ≡ b = one-owner bs root w k u b i in-b (any-from (is_quant k) t u.quants jt (eq-eqb t.id k et)) (subst (λ k. owns k b ≡ true) e (own-P r.0.id (P-in r.0 r.1.0))) in
        let tb : In t b.quants = subst (λ (z : Node). In t z.quants) same jt in
        let f1 = first-own t b.quants (few-b t.id) tb in
        let f2 = first-own r.0 b.quants (few-b r.0.id) (old-quant r.0 (inr (inl r.1.0))) in
        let f3 : Some t ≡ Some r.0 = sym f1 ∙ ap (λ z. first (is_quant z) b.quants) (et ∙ sym e) ∙ f2 in
        let same-t : t ≡ r.0 = cc in
        let wd = m.widths r.0 y r.1.0 iy (ey ∙ ap (λ (z : OwnedQuant). z.over) same-t) in
        (omega (arith, lo, l'), omega (arith, hi, l', wd, size-r)))))
  ]

  fits-after : (z : Node) → In z hs → (k l : ℕ) → reads_in k l z ≡ true → Fits hs k l
  fits-after = each (λ z. (k l : ℕ) → reads_in k l z ≡ true → Fits hs k l)
      (λ k l h. by-fit b in-b k l (fit-owner k l h))
      (λ y j nob k l h. by-fit y j k l (fit-other y j k l h))
      s-fits

  -- ---- nodes, bare boxes, arms

  pub node-was : (y : Node) (k : ℕ) → nodes_in k (renamed_node f y) ≡ true → nodes_in k y ≡ true
  node-was y k h = node-found f (λ r j. false) (λ r j. false) (λ r. r == k) (λ r. r == k) (λ r. true) (λ r j t.
      (elim (list_any (λ (p : ℕ × ℕ). p.0 == r) ws) as (λ z. Rattle.qgm_terms.specs.Wanted.any_in (Rattle.qgm_meaning.specs.Searches.looking (λ r j. false) (λ r. r == k) (λ r. r == k) (λ r. true)) (cond z (col q (start ws r + j)) (col r j)) ≡ true → false ≡ true) [ true ↦ λ t. t | false ↦ λ t. t ]) t) y h

  pub heads-bare : (k : ℕ) → list_any (names k) (heads ws) ≡ false
  heads-bare k = elim (cases_Bool (list_any (names k) (heads ws))) [ inr e ↦ e | inl t ↦ none-true (let z = heads-list (names k) ws t in z.1.1.1.0) ]

  own_nodes-after : (z : Node) → In z hs → (k : ℕ) → nodes_in k z ≡ true → (owns k z ≡ true) × (binds_row k z.quants ≡ false)
  own_nodes-after = each (λ z. (k : ℕ) → nodes_in k z ≡ true → (owns k z ≡ true) × (binds_row k z.quants ≡ false))
      (λ k h. (
      let a = w.own_nodes b in-b k (sub-nodes k (node-was b0 k h)) in
      let np : P k ≡ false = none-sub (P k) (binds_row k b.quants) (binds-P k) a.1 in
      let nq : (k == q) ≡ false = not-q k (any-from (owns k) b bs in-b a.0) in
      let bu = or_parts (binds_row k us) (binds_row k (ps ++ vs)) (sym (binds-both k us (ps ++ vs)) ∙ sym (ap (binds_row k) m.quants) ∙ a.1) in
      let bv = or_parts (binds_row k ps) (binds_row k vs) (sym (binds-both k ps vs) ∙ bu.1) in (
        (elim (any-append (is_quant k) us (ps ++ vs) (sym (ap (list_any (is_quant k)) m.quants) ∙ a.0)) [
          | inl o ↦ any-both (is_quant k) us (rq ∷ vs) ∙ or_left (list_any (is_quant k) us) (list_any (is_quant k) (rq ∷ vs)) o
          | inr o ↦ elim (any-append (is_quant k) ps vs o) [
            | inl u ↦ absurd (clash (P k) u np)
            | inr u ↦ any-both (is_quant k) us (rq ∷ vs) ∙ or_right (list_any (is_quant k) us) (list_any (is_quant k) (rq ∷ vs)) (or_right (q == k) (list_any (is_quant k) vs) u)
          ]
        ]),
        binds-both k us (rq ∷ vs) ∙ or_from (binds_row k us) (binds_row k (rq ∷ vs)) bu.0 (or_from (q == k) (binds_row k vs) (eq-false-sym k q nq) bv.1),
      )))
      (λ y j nob k h. w.own_nodes y j k (node-was y k h))
      (λ k h. absurd (elim (or_cases (list_any (names k) (heads ws)) (list_any (names_cond k) taken) h) [
        | inl a ↦ clash (list_any (names k) (heads ws)) a (heads-bare k)
        | inr a ↦ (let c = any-in (names_cond k) taken a in clash (names_cond k c.0) c.1.1 (m.taken_bare c.0 c.1.0 k))
      ]))

  pub bare-renamed : (k : BoxKind) (y : Node) → BareBy k y → BareBy k (renamed_node f y)
  bare-renamed (Base t) y h = (h.0, ap (map (renamed f)) h.1, ap (map (renamed_cond f)) h.2)
  bare-renamed Select y h = tt
  bare-renamed (Group k) y h = tt
  bare-renamed (SetOp o t) y h = (ap (map (renamed f)) h.0, ap (map (renamed_cond f)) h.1)
  bare-renamed OuterJoin y h = tt

  bare-after : (z : Node) → In z hs → BareBy z.parts.kind z
  bare-after = each (λ z. BareBy z.parts.kind z) (subst (λ k. BareBy k b') (sym m.a_select) tt) (λ y j nob. bare-renamed y.parts.kind y (w.bare y j)) tt

  arms-after : (z u : Node) (r : OwnedQuant) → In z hs → In r z.quants → In u hs → u.id ≡ r.over → ArmsBy z.parts.kind (width u) (width z)
  arms-after z u r j k l e = each (λ z. In r z.quants → ArmsBy z.parts.kind (width u) (width z))
      (λ k. subst (λ t. ArmsBy t (width u) (width b')) (sym m.a_select) tt)
      (λ y j nob k. (
      let old = box-old u l (subst (λ n. has_box bs n ≡ true) (sym e) (overs-held bs y r w.ordered j k)) in
      let wd : width (renamed_node f y) ≡ width y = ap (width_by y.parts.kind) (length-map (renamed f) y.parts.head) in
      subst (λ n. ArmsBy y.parts.kind (width u) n) (sym wd) (subst (λ n. ArmsBy y.parts.kind n (width y)) (sym old.1.1.1) (w.arms y old.0 r j k old.1.0 (old.1.1.0 ∙ e)))))
      (λ k. tt) z j k

  -- ---- order

  more-up : (ks : List Node) (z : ℕ) → has_box (ks ++ ys) z ≡ true → has_box (map g ks ++ s' ∷ map g ys) z ≡ true
  more-up ks z h =
      let y = has-in z (ks ++ ys) h in
      let there : In (g y.0) (map g ks ++ s' ∷ map g ys) = (elim (in-append y.0 ks ys y.1.0) [
        | inl a ↦ in-left (g y.0) (map g ks) (s' ∷ map g ys) (map-in g y.0 ks a)
        | inr a ↦ in-right (g y.0) (map g ks) (s' ∷ map g ys) (inr (map-in g y.0 ys a))
      ]) in
      subst (λ k. has_box (map g ks ++ s' ∷ map g ys) k ≡ true) (id y.0 ∙ y.1.1) (in-has (g y.0) (map g ks ++ s' ∷ map g ys) there)

  has-s : (ks : List Node) → has_box (map g ks ++ s' ∷ map g ys) s ≡ true
  has-s ks = in-has s' (map g ks ++ s' ∷ map g ys) (in-right s' (map g ks) (s' ∷ map g ys) (inl refl))

  old-not : (z : ℕ) (ks : List Node) → has_box ks z ≡ false → (u : Node) → In u ks → ((g u).id == z) ≡ false
  old-not z ks h u i = ap (λ k. k == z) (id u) ∙ any-none (is_box z) u ks h i

  not-there : (ks : List Node) (z : ℕ) → has_box bs z ≡ true → has_box (ks ++ ys) z ≡ false → has_box (map g ks ++ s' ∷ map g ys) z ≡ false
  not-there ks z held h = any-not (is_box z) (map g ks ++ s' ∷ map g ys) (λ y j. elim (in-append y (map g ks) (s' ∷ map g ys) j) [
    | inl a ↦ (let u = in-map g y ks a in subst (λ (k : Node). (k.id == z) ≡ false) u.1.1 (old-not z (ks ++ ys) h u.0 (in-left u.0 ks ys u.1.0)))
    | inr a ↦ elim a [
      | inl e ↦ subst (λ (k : Node). (k.id == z) ≡ false) e (other (has_box bs) s z m.new_s held)
      | inr l ↦ (let u = in-map g y ys l in subst (λ (k : Node). (k.id == z) ≡ false) u.1.1 (old-not z (ks ++ ys) h u.0 (in-right u.0 ks ys u.1.0)))
    ]
  ])

  quant-after : (y : Node) → In y bs → (r : OwnedQuant) → In r (g y).quants → In r y.quants ⊎ ((y ≡ b) × (r.over ≡ s))
  quant-after y j r k = elim (cases_Bool (y.id == b.id)) [
    | inr t ↦ inl (subst (λ (l : List OwnedQuant). In r l) (quants-same y t) k)
    | inl t ↦ (
        let e : b ≡ y = same-box bs b y w.ordered in-b j (sym (eqb-true y.id b.id t)) in
        elim (in-append r us (rq ∷ vs) (subst (λ (l : List OwnedQuant). In r l) quants-b (subst (λ (z : Node). In r (g z).quants) (sym e) k))) [
          | inl a ↦ inl (subst (λ (z : Node). In r z.quants) e (old-quant r (inl a)))
          | inr a ↦ elim a [ inl o ↦ inr (sym e, ap (λ (z : OwnedQuant). z.over) (sym o)) | inr o ↦ inl (subst (λ (z : Node). In r z.quants) e (old-quant r (inr (inr o)))) ]
        ])
  ]

  not-below : (ks : List Node) → Ordered (ks ++ ys) → In b ks → has_box ys b.id ≡ false
  not-below [] o i = elim i [ ]
  not-below (k ∷ ks) o i = elim i [
    | inl e ↦ any-not (is_box b.id) ys (λ y j. (let z : has_box (ks ++ ys) b.id ≡ false = subst (λ (n : Node). has_box (ks ++ ys) n.id ≡ false) e o.0 in any-none (is_box b.id) y (ks ++ ys) z (in-right y ks ys j)))
    | inr j ↦ not-below ks o.2 j
  ]

  below-ys : (y : Node) → In y ys → y ≡ b → ⊥
  below-ys y j e = clash (has_box ys b.id) (subst (λ (n : Node). has_box ys n.id ≡ true) e (in-has y ys j)) (not-below xs w.ordered m.above)

  has-ys : (z : ℕ) → has_box ys z ≡ true → has_box (map g ys) z ≡ true
  has-ys z h = let y = has-in z ys h in subst (λ k. has_box (map g ys) k ≡ true) (id y.0 ∙ y.1.1) (in-has (g y.0) (map g ys) (map-in g y.0 ys y.1.0))

  ordered-ys : (ks : List Node) → ((y : Node) → In y ks → In y ys) → Ordered ks → Ordered (map g ks)
  ordered-ys [] sub o = tt
  ordered-ys (k ∷ ks) sub o = (
    any-not (is_box (g k).id) (map g ks) (λ y j. (let u = in-map g y ks j in ap (λ z. z == (g k).id) (ap (λ (z : Node). z.id) (sym u.1.1) ∙ id u.0) ∙ ap (λ z. u.0.id == z) (id k) ∙ any-none (is_box k.id) u.0 ks o.0 u.1.0)),
    all-from (λ r. has_box (map g ks) r.over) (g k).quants (λ r j. elim (quant-after k (in-right k xs ys (sub k (inl refl))) r j) [
      | inl a ↦ (let y = has-in r.over ks (all-in (λ r. has_box ks r.over) r k.quants o.1 a) in subst (λ z. has_box (map g ks) z ≡ true) (id y.0 ∙ y.1.1) (in-has (g y.0) (map g ks) (map-in g y.0 ks y.1.0)))
      | inr a ↦ absurd (below-ys k (sub k (inl refl)) a.0)
    ]),
    ordered-ys ks (λ y j. sub y (inr j)) o.2,
  )

  rest-ordered : (ks : List Node) → Ordered (ks ++ ys) → Ordered ys
  rest-ordered [] o = o
  rest-ordered (k ∷ ks) o = rest-ordered ks o.2

  ordered-more : (ks : List Node) → ((y : Node) → In y ks → In y bs) → Ordered (ks ++ ys) → Ordered (map g ks ++ s' ∷ map g ys)
  ordered-more [] sub o = (
    any-not (is_box s) (map g ys) (λ y j. (let u = in-map g y ys j in subst (λ (k : Node). (k.id == s) ≡ false) u.1.1 (old-not s bs m.new_s u.0 (in-right u.0 xs ys u.1.0)))),
    all-from (λ r. has_box (map g ys) r.over) ps (λ r j. has-ys r.over (m.below r j)),
    ordered-ys ys (λ y j. j) (rest-ordered xs w.ordered),
  )
  ordered-more (k ∷ ks) sub o =
      let i = sub k (inl refl) in (
        subst (λ z. has_box (map g ks ++ s' ∷ map g ys) z ≡ false) (sym (id k)) (not-there ks k.id (in-has k bs i) o.0),
        all-from (λ r. has_box (map g ks ++ s' ∷ map g ys) r.over) (g k).quants (λ r j. elim (quant-after k i r j) [
          | inl a ↦ more-up ks r.over (all-in (λ r. has_box (ks ++ ys) r.over) r k.quants o.1 a)
          | inr a ↦ subst (λ z. has_box (map g ks ++ s' ∷ map g ys) z ≡ true) (sym a.1) (has-s ks)
        ]),
        ordered-more ks (λ y j. sub y (inr j)) o.2,
      )

  pub local-after : Local hs root
  local-after = record {
    ordered = ordered-more xs (λ y j. in-left y xs ys j) w.ordered;
    rooted = more-up xs root w.rooted;
    once = once-after;
    top = top-after;
    fits = fits-after;
    own_nodes = own_nodes-after;
    bare = bare-after;
    arms = arms-after;
  }

  pub sound-after : Sound hs root
  sound-after = sound-by look hs root local-after scoped-after settled-after used-after

pub split-sound : SplitSound
split-sound = λ xs ys root b wide q s us ps vs rest taken w m. (sound-after xs ys root b wide q s us ps vs rest taken w m, one-after xs ys root b wide q s us ps vs rest taken w m)
