-- M1 keeps that types agree.
use Rattle.std.proofs.Common.{ℕ, suc, zero, ◌==◌, ◌≡◌, ◌&&◌, ◌≤◌, arith, cond, not, Bool, true, false, List, [], ◌∷◌, ◌++◌, length, map, Option, Some, None, refl, sym, ap, ap₂, subst, ◌∙◌, eqb-true, inl, inr}
use Rattle.std.specs.Prelude.{slice_get}
use Rattle.std.specs.List.{flat_map, list_all, list_any}
use Rattle.std.proofs.lemmas.Bool.{and_from, and_parts, cases_Bool, eq-eqb, or_left, or_parts, or_right, or_cases}
use Rattle.qgm_core.specs.Boxes.{QueryGraph, overs_of, owns, range_in, width}
use Rattle.qgm_core.specs.Edits.{compact}
use Rattle.qgm_core.specs.Free.{named_by}
use Rattle.qgm_core.specs.Kinds.{width_by}
use Rattle.list_laws.specs.Lists.{In, first, holds, times}
use Rattle.qgm_core.specs.declared.kinds.BoxKind.{BoxKind}
use Rattle.qgm_core.specs.declared.kinds.BoxKind.TheVariants.{Base, Group, OuterJoin, Select, SetOp}
use Rattle.qgm_core.specs.declared.node.Node.{Node}
use Rattle.qgm_core.specs.declared.owned.OwnedQuant.{OwnedQuant}
use Rattle.qgm_terms.specs.Named.{names_in, names_in_cond}
use Rattle.qgm_terms.specs.Substitution.{cell_at, substituted, substituted_cond}
use Rattle.qgm_terms.specs.Terms.{Cond, Term}
use Rattle.qgm_terms.specs.Wanted.{reads_at, reads_at_cond}
use Rattle.qgm_meaning.specs.Scope.{put_node, read_by, under_any}
use Rattle.qgm_meaning.specs.Scope as scope
use Rattle.qgm_meaning.specs.Searches.{names, names_cond}
use Rattle.qgm_wellformed.specs.Columns.{box_under, over_box}
use Rattle.qgm_wellformed.specs.Types.{Lookup, all_agree, arm_agrees, arms_agree, cond_fits, is_known, is_typed, joined_column, known, lookup_of, term_type, type_found, types_agree, types_by, types_of}
use Rattle.qgm_edit_laws.specs.Graph.{Sound, nodes_in, reads_in}
use Rattle.rule_merge.specs.Merged.{Merges, merge_node, merged, merged_in}
use Rattle.qgm_edit_laws.specs.Shaped as shaped
use Rattle.qgm_edit_laws.proofs.AllSettled.{all-settled}
use Rattle.qgm_edit_laws.proofs.AnyPut.{heads-more}
use Rattle.qgm_edit_laws.proofs.Edits.{boxes_without, without-in, without-one}
use Rattle.qgm_edit_laws.proofs.Filters.{over-once}
use Rattle.qgm_edit_laws.proofs.Follow.{all-alike, in-flat, settled-types, type-alike, types_at}
use Rattle.qgm_edit_laws.proofs.Levels as levels
use Rattle.qgm_edit_laws.proofs.Levels.{number-of}
use Rattle.rule_merge.proofs.MergeSelectMeans as before
use Rattle.rule_merge.proofs.MergeSelectSound.{merge-sound}
use Rattle.qgm_edit_laws.proofs.Naming.{names-any, says}
use Rattle.qgm_edit_laws.proofs.Ranks.{has-in, same-box}
use Rattle.qgm_edit_laws.proofs.Read.{named-split}
use Rattle.qgm_edit_laws.proofs.Scope.{in-first, one-parent}
use Rattle.qgm_edit_laws.proofs.Settled.{cond-local, kinds-local, term-local}
use Rattle.qgm_edit_laws.proofs.ShapedPut.{all-joined}
use Rattle.qgm_edit_laws.proofs.TypedKept.{Ranging, found, found-under, typed-compact}
use Rattle.qgm_edit_laws.proofs.HeadTypes.{type-of}
use Rattle.qgm_edit_laws.proofs.CondTypes.{cell-type}
use Rattle.qgm_core.proofs.Reaching.{overs-held}
use Rattle.list_laws.proofs.Counting.{times-in}
use Rattle.list_laws.proofs.Membership.{all-from, all-in, any-from, any-none, eq-itself, holds-in, in-append, in-holds, in-left, in-right, map-in}
use Rattle.list_laws.proofs.Booleans.{clash, or-false}
use Rattle.qgm_edit_laws.proofs.PutTypes.{all-put, cond-mixed, mixed, term-mixed, types-put}

-- ---- the rule

module _ (bs : List Node) (root : ℕ) (w : Sound bs root) (b c : Node) (us : List OwnedQuant) (r : OwnedQuant) (vs : List OwnedQuant) (m : Merges bs b c us r vs) where
  abbrev pub q : ℕ
  q = r.id

  abbrev quants : List OwnedQuant
  quants = us ++ (c.quants ++ vs)

  abbrev g : Node → Node
  g = merge_node b.id q c quants

  abbrev hm : List Node
  hm = map g (boxes_without c.id bs)

  pub sound : Sound hm root
  sound = merge-sound bs root w b c us r vs m

  abbrev pub at : Lookup
  at = lookup_of bs

  abbrev pub now : Lookup
  now = lookup_of hm

  to : (y : Node) → In y bs → (y.id == c.id) ≡ false → In (g y) hm
  to y i n = map-in g y (boxes_without c.id bs) (without-in c.id y bs i n)

  g-id : (y : Node) → (g y).id ≡ y.id
  g-id = before.g-id [] bs root w b c us r vs m

  b-not-c : (b.id == c.id) ≡ false
  b-not-c = before.b-id [] bs root w b c us r vs m

  r-in : In r b.quants
  r-in = before.rq-in [] bs root w b c us r vs m

  head-g : (y : Node) → (g y).parts.head ≡ map (substituted q c.parts.head) y.parts.head
  head-g y = elim (y.id == b.id) as (λ t. ◌≡◌ {A = List Term} (cond t (merged q c quants y) (put_node q c.parts.head y)).parts.head (map (substituted q c.parts.head) y.parts.head)) [ true ↦ refl | false ↦ refl ]

  kind-g : (y : Node) → (g y).parts.kind ≡ y.parts.kind
  kind-g y = elim (y.id == b.id) as (λ t. ◌≡◌ {A = BoxKind} (cond t (merged q c quants y) (put_node q c.parts.head y)).parts.kind y.parts.kind) [ true ↦ refl | false ↦ refl ]

  -- r alone ranges over c
  apart : (o : Node) (s : OwnedQuant) → In o bs → In s o.quants → (s.id == q) ≡ false → (s.over == c.id) ≡ false
  apart o s i j n = elim (cases_Bool (s.over == c.id)) [
    | inr f ↦ f
    | inl e ↦ absurd (
        let over : s.over ≡ c.id = eqb-true s.over c.id e in
        let same : o ≡ b = one-parent bs root w c.id o b s r (let a = m.one_use in omega arith) i m.in_b j r-in over m.over_c in
        let few : times c.id (overs_of b) ≤ 1 = (let a = times-in overs_of c.id b bs m.in_b in let d = m.one_use in omega arith) in
        clash (s.id == q) (over-once s r b.quants c.id few (subst (λ (z : Node). In s z.quants) same j) r-in over m.over_c) n)
  ]

  -- whose it is after
  owner-after : (o : Node) (s : OwnedQuant) → In o bs → In s o.quants → (s.id == q) ≡ false → (n : Node) × (In n hm × In s n.quants)
  owner-after o s i j n = elim (cases_Bool (o.id == c.id)) [
    | inl e ↦ (
        let same : o ≡ c = same-box bs o c w.ordered i m.in_c (eqb-true o.id c.id e) in
        (g b, (to b m.in_b b-not-c, subst (λ (z : Node). In s z.quants) (sym (before.g-b [] bs root w b c us r vs m b (eq-itself b.id))) (in-right s us (c.quants ++ vs) (in-left s c.quants vs (subst (λ (z : Node). In s z.quants) same j))))))
    | inr f ↦ elim (cases_Bool (o.id == b.id)) [
      | inl e ↦ (
          let same : o ≡ b = same-box bs o b w.ordered i m.in_b (eqb-true o.id b.id e) in
          let k : In s (us ++ r ∷ vs) = subst (λ z. In s z) (ap (λ (z : Node). z.quants) same ∙ m.split) j in (
            g b,
            (
              to b m.in_b b-not-c,
              subst (λ (z : Node). In s z.quants) (sym (before.g-b [] bs root w b c us r vs m b (eq-itself b.id))) (elim (in-append s us (r ∷ vs) k) [
                | inl a ↦ in-left s us (c.quants ++ vs) a
                | inr a ↦ elim a [
                  | inl d ↦ absurd (clash (s.id == q) (eq-eqb s.id q (ap (λ (z : OwnedQuant). z.id) (sym d))) n)
                  | inr d ↦ in-right s us (c.quants ++ vs) (in-right s c.quants vs d)
                ]
              ]),
            ),
          ))
      | inr e ↦ (g o, (to o i f, subst (λ (z : Node). In s z.quants) (sym (before.g-other [] bs root w b c us r vs m o e)) j))
    ]
  ]

  -- the box under another quantifier than r, before and after
  pub record Under (p : ℕ) : Type 0 where
    pub box : Node
    pub within : In box bs
    pub not_c : (box.id == c.id) ≡ false
    pub was : box_under bs p ≡ Some box
    pub is : box_under hm p ≡ Some (g box)

  pub under : (p : ℕ) → Ranging bs p → (p == q) ≡ false → Under p
  under p x n =
      let f : (x.quant.id == q) ≡ false = ap (λ z. z == q) x.is_q ∙ n in
      let u : (x.box.id == c.id) ≡ false = ap (λ z. z == c.id) x.is_over ∙ apart x.owner x.quant x.owner_in x.quant_in f in
      let o = owner-after x.owner x.quant x.owner_in x.quant_in f in
      let y : Ranging hm p = record { owner = o.0; quant = x.quant; box = g x.box; owner_in = o.1.0; quant_in = o.1.1; is_q = x.is_q; box_in = to x.box x.box_in u; is_over = g-id x.box ∙ x.is_over } in
      record { box = x.box; within = x.box_in; not_c = u; was = found-under bs root w p x; is = found-under hm root sound p y }

  looks : (p : ℕ) (x : Under p) → types_at hm x.box.id ≡ types_at bs x.box.id → (k : ℕ) → now p k ≡ at p k
  looks p x e k =
      ap (type_found (types_of hm) k) x.is
      ∙ type-alike bs hm k x.box.id (g x.box).id (ap (types_at hm) (g-id x.box) ∙ e) ∙ sym (ap (type_found (types_of bs) k) x.was)

  abbrev S : ℕ → ℕ → Bool
  S = levels.settled bs w.ordered w.once

  abbrev U : ℕ → ℕ → Bool
  U e = levels.under bs w.ordered w.once (S e)

  under-settled : (e : ℕ) (o : Option OwnedQuant) (u : Node) → levels.under_by bs w.ordered w.once (S e) o ≡ true → over_box bs o ≡ Some u → S e u.id ≡ true
  under-settled e None u h k = absurd (cc k)
  under-settled e (Some s) u h k = subst (λ z. S e z ≡ true) (sym (number-of bs s.over u k)) h

  c-settled : (e : ℕ) → U e q ≡ true → S e c.id ≡ true
  c-settled e h = subst (λ z. S e z ≡ true) m.over_c (sym (ap (levels.under_by bs w.ordered w.once (S e)) (levels.owner-of bs w.once b r m.in_b r-in)) ∙ h)

  pub c-names-not-q : (p : ℕ) → holds p (named_by c) ≡ true → (p == q) ≡ false
  c-names-not-q p h = elim (cases_Bool (p == q)) [
    | inr f ↦ f
    | inl e ↦ absurd (elim (or_cases (read_by c q) (nodes_in q c) (named-split q c (subst (λ z. holds z (named_by c) ≡ true) (eqb-true p q e) h))) [
      | inl a ↦ clash (read_by c q) a (or_parts (read_by c q) (under_any c.quants (scope.loose bs) q) (before.c-untouched [] bs root w b c us r vs m)).0
      | inr a ↦ clash (nodes_in q c) a (before.nodes-not-q [] bs root w b c us r vs m c m.in_c)
    ])
  ]

  -- of boxes that are settled the types are the same
  abbrev Same : ℕ → Type 0
  Same e = (u : Node) → In u bs → (u.id == c.id) ≡ false → S e u.id ≡ true → types_at hm u.id ≡ types_at bs u.id

  looks-same : (e : ℕ) → Same e → (y : Node) → In y bs → (p : ℕ) → holds p (named_by y) ≡ true → (p == q) ≡ false → U e p ≡ true → (k : ℕ) → now p k ≡ at p k
  looks-same e s y i p h n g k =
      let x = under p (found bs root w y i p h) n in
      looks p x (s x.box x.within x.not_c (under-settled e (range_in p (first (owns p) bs)) x.box g x.was)) k

  over-c : box_under bs q ≡ Some c
  over-c = found-under bs root w q (record { owner = b; quant = r; box = c; owner_in = m.in_b; quant_in = r-in; is_q = refl; box_in = m.in_c; is_over = sym m.over_c })

  named-head : (y : Node) (p : ℕ) → In p (flat_map names_in y.parts.head) → holds p (named_by y) ≡ true
  named-head y p j = in-holds p (named_by y) (in-left p (flat_map names_in y.parts.head) (flat_map names_in_cond y.parts.conds.items) j)

  -- c's cells have the types of q's columns
  cells-same : (e : ℕ) → Same e → S (suc e) c.id ≡ true → map (term_type now) c.parts.head ≡ map (term_type at) c.parts.head
  cells-same e s h =
      let all : list_all (U e) (flat_map names_in c.parts.head) ≡ true = sym (ap (levels.step_by bs w.ordered w.once (S e)) (in-first c bs w.ordered m.in_c)) ∙ h in
      kinds-local now at (λ p. U e p && holds p (named_by c)) (λ p z k. (let a = and_parts (U e p) (holds p (named_by c)) z in looks-same e s c m.in_c p a.1 (c-names-not-q p a.1) a.0 k)) Select c.parts.head
      (all-from (λ p. U e p && holds p (named_by c)) (flat_map names_in c.parts.head) (λ p j. and_from (U e p) (holds p (named_by c)) (all-in (U e) p (flat_map names_in c.parts.head) all j) (named-head c p j)))

  good : (e : ℕ) → Same e → S (suc e) c.id ≡ true → (k : ℕ) → 1 ≤ k → k ≤ width c → term_type now (cell_at k c.parts.head) ≡ at q k
  good e s h zero low high = absurd (omega arith)
  good e s h (suc i) low high =
      let wide : width c ≡ length c.parts.head = ap (λ k. width_by k (length c.parts.head)) m.select_c in
      let types : types_at bs c.id ≡ map (term_type at) c.parts.head = settled-types bs root w c m.in_c ∙ ap (λ k. types_by at k c.parts.head) m.select_c in
      cell-type now q c.parts.head c.parts.head i (omega arith) ∙ ap (λ z. joined_column (slice_get z i)) (cells-same e s h ∙ sym types)
      ∙ sym (ap (type_found (types_of bs) (suc i)) over-c ∙ type-of i (first (is_typed c.id) (types_of bs)))

  fits-q : (y : Node) → In y bs → (k : ℕ) → reads_in q k y ≡ true → (1 ≤ k) × (k ≤ width c)
  fits-q y i k h = w.fits y i q k h b r c m.in_b r-in refl m.in_c (sym m.over_c)

  head-free : (y : Node) → In y bs → (x : Term) → In x y.parts.head → names q x ≡ false
  head-free y i x j = any-none (names q) x y.parts.head (or_parts (list_any (names q) y.parts.head) (list_any (names_cond q) y.parts.conds.items) (before.nodes-not-q [] bs root w b c us r vs m y i)).0 j

  conds-free : (y : Node) → In y bs → (x : Cond) → In x y.parts.conds.items → names_cond q x ≡ false
  conds-free y i x j = any-none (names_cond q) x y.parts.conds.items (or_parts (list_any (names q) y.parts.head) (list_any (names_cond q) y.parts.conds.items) (before.nodes-not-q [] bs root w b c us r vs m y i)).1 j

  mixed-same : (Q : ℕ → Bool) → ((p : ℕ) → Q p ≡ true → (p == q) ≡ false → (k : ℕ) → now p k ≡ at p k) → (p : ℕ) → Q p ≡ true → (k : ℕ) → mixed at now q c.parts.head p k ≡ at p k
  mixed-same Q h p z k = elim (cases_Bool (p == q)) [
    | inl e ↦ ap (λ t. cond t (at q k) (now p k)) e ∙ ap (λ x. at x k) (sym (eqb-true p q e))
    | inr f ↦ ap (λ t. cond t (at q k) (now p k)) f ∙ h p z f k
  ]

  -- q is named where a column of it is read
  read-head : (k : ℕ) (x : Term) → reads_at q k x ≡ true → In q (names_in x)
  read-head k x h = holds-in q (names_in x) (names-any q x ∙ (let z = heads-more (λ r j. (r == q) && (j == k)) (λ r j. r == q) (λ r. false) (λ r. r == q) (λ r. false) (λ r. r == q) (λ r. not (r == q)) (λ r. true) (λ r j h. (and_parts (r == q) (j == k) h).0) (λ r h. absurd (let z : ⊥ = cc in z)) (λ r h. absurd (let z : ⊥ = cc in z)) (λ r h. refl) (x ∷ []) (or_left (reads_at q k x) false h) in sym (or-false (says q x)) ∙ z))

  head-same : (e : ℕ) → Same e → (y : Node) → In y bs → list_all (U e) (flat_map names_in y.parts.head) ≡ true → (x : Term) → In x y.parts.head → term_type now (substituted q c.parts.head x) ≡ term_type at x
  head-same e s y i all x j =
      let Q : ℕ → Bool = λ p. U e p && holds p (named_by y) in
      let named : (p : ℕ) → In p (names_in x) → Q p ≡ true = λ p l. (let d = in-flat names_in x y.parts.head p j l in and_from (U e p) (holds p (named_by y)) (all-in (U e) p (flat_map names_in y.parts.head) all d) (named-head y p d)) in
      term-mixed at now q c.parts.head x (head-free y i x j) (λ k h. (
      let z = c-settled e (and_parts (U e q) (holds q (named_by y)) (named q (read-head k x h))).0 in
      let f = fits-q y i k (or_left (list_any (reads_at q k) y.parts.head) (list_any (reads_at_cond q k) y.parts.conds.items) (any-from (reads_at q k) x y.parts.head j h)) in
      good-at e s z k f.0 f.1))
      ∙ term-local (mixed at now q c.parts.head) at Q (mixed-same Q (λ p z n k. (let a = and_parts (U e p) (holds p (named_by y)) z in looks-same e s y i p a.1 n a.0 k))) x (all-from Q (names_in x) named)
    where
      good-at : (e : ℕ) → Same e → S e c.id ≡ true → (k : ℕ) → 1 ≤ k → k ≤ width c → term_type now (cell_at k c.parts.head) ≡ at q k
      good-at zero s h k low high = absurd (cc h)
      good-at (suc e) s h k low high = good e (λ u i n z. s u i n (levels.settled-suc bs w.ordered w.once e u.id z)) h k low high

  step : (e : ℕ) → Same e → Same (suc e)
  step e s y i n h =
      let all : list_all (U e) (flat_map names_in y.parts.head) ≡ true = sym (ap (levels.step_by bs w.ordered w.once (S e)) (in-first y bs w.ordered i)) ∙ h in
      sym (ap (types_at hm) (g-id y)) ∙ settled-types hm root sound (g y) (to y i n) ∙ ap₂ (types_by now) (kind-g y) (head-g y)
      ∙ types-put at now q c.parts.head y.parts.kind y.parts.head (head-same e s y i all) ∙ sym (settled-types bs root w y i)

  same-at : (e : ℕ) → Same e
  same-at zero = λ u i n h. absurd (cc h)
  same-at (suc e) = step e (same-at e)

  same-types : (u : Node) → In u bs → (u.id == c.id) ≡ false → types_at hm u.id ≡ types_at bs u.id
  same-types u i n = same-at (length bs) u i n (all-settled bs root w u i)

  -- ---- all types

  looks-all : (y : Node) → In y bs → (p : ℕ) → holds p (named_by y) ≡ true → (p == q) ≡ false → (k : ℕ) → now p k ≡ at p k
  looks-all y i p h n k = let x = under p (found bs root w y i p h) n in looks p x (same-types x.box x.within x.not_c) k

  good-all : (y : Node) → In y bs → (k : ℕ) → reads_in q k y ≡ true → term_type now (cell_at k c.parts.head) ≡ at q k
  good-all y i k h = let f = fits-q y i k h in good (length bs) (same-at (length bs)) (levels.settled-suc bs w.ordered w.once (length bs) c.id (all-settled bs root w c m.in_c)) k f.0 f.1

  named-term : (y : Node) (x : Term) → In x y.parts.head → (p : ℕ) → In p (names_in x) → holds p (named_by y) ≡ true
  named-term y x j p l = named-head y p (in-flat names_in x y.parts.head p j l)

  named-cond : (y : Node) (x : Cond) → In x y.parts.conds.items → (p : ℕ) → In p (names_in_cond x) → holds p (named_by y) ≡ true
  named-cond y x j p l = in-holds p (named_by y) (in-right p (flat_map names_in y.parts.head) (flat_map names_in_cond y.parts.conds.items) (in-flat names_in_cond x y.parts.conds.items p j l))

  term-all : (y : Node) → In y bs → (x : Term) → In x y.parts.head → term_type now (substituted q c.parts.head x) ≡ term_type at x
  term-all y i x j =
      let Q : ℕ → Bool = λ p. holds p (named_by y) in
      term-mixed at now q c.parts.head x (head-free y i x j) (λ k h. good-all y i k (or_left (list_any (reads_at q k) y.parts.head) (list_any (reads_at_cond q k) y.parts.conds.items) (any-from (reads_at q k) x y.parts.head j h)))
      ∙ term-local (mixed at now q c.parts.head) at Q (mixed-same Q (λ p z n k. looks-all y i p z n k)) x (all-from Q (names_in x) (λ p l. named-term y x j p l))

  cond-all : (y : Node) → In y bs → (x : Cond) → In x y.parts.conds.items → cond_fits now (substituted_cond q c.parts.head x) ≡ cond_fits at x
  cond-all y i x j =
      let Q : ℕ → Bool = λ p. holds p (named_by y) in
      cond-mixed at now q c.parts.head x (conds-free y i x j) (λ k h. good-all y i k (or_right (list_any (reads_at q k) y.parts.head) (list_any (reads_at_cond q k) y.parts.conds.items) (any-from (reads_at_cond q k) x y.parts.conds.items j h)))
      ∙ cond-local (mixed at now q c.parts.head) at Q (mixed-same Q (λ p z n k. looks-all y i p z n k)) x (all-from Q (names_in_cond x) (λ p l. named-cond y x j p l))

  -- c's conditions are as they were
  c-conds : list_all (cond_fits now) c.parts.conds.items ≡ list_all (cond_fits at) c.parts.conds.items
  c-conds = all-alike (cond_fits now) (cond_fits at) c.parts.conds.items (λ x j. cond-local now at (λ p. holds p (named_by c)) (λ p z k. looks-all c m.in_c p z (c-names-not-q p z) k) x (all-from (λ p. holds p (named_by c)) (names_in_cond x) (λ p l. named-cond c x j p l)))

  arms-same : (k : BoxKind) (rs : List OwnedQuant) → ((s : OwnedQuant) → In s rs → types_at hm s.over ≡ types_at bs s.over) → arms_agree (types_of hm) k rs ≡ arms_agree (types_of bs) k rs
  arms-same (Base table) rs h = refl
  arms-same Select rs h = refl
  arms-same (Group keys) rs h = refl
  arms-same (SetOp operator types) rs h = each rs h
    where
      each : (rs : List OwnedQuant) → ((s : OwnedQuant) → In s rs → types_at hm s.over ≡ types_at bs s.over) → list_all (arm_agrees (types_of hm) types) rs ≡ list_all (arm_agrees (types_of bs) types) rs
      each [] h = refl
      each (s ∷ rs) h = ap₂ (λ x b. all_agree x (known types) && b) (h s (inl refl)) (each rs (λ x j. h x (inr j)))
  arms-same OuterJoin rs h = refl

  module _ (typed : shaped.Typed bs) where
    heads-typed : (y : Node) → In y bs → list_all (λ x. is_known (term_type now x)) (map (substituted q c.parts.head) y.parts.head) ≡ true
    heads-typed y i =
        let a = and_parts (list_all (λ x. is_known (term_type at x)) y.parts.head) (list_all (cond_fits at) y.parts.conds.items && arms_agree (types_of bs) y.parts.kind y.quants) (typed y i) in
        all-put (λ x. is_known (term_type now x)) (λ x. is_known (term_type at x)) (substituted q c.parts.head) y.parts.head (λ x j. ap is_known (term-all y i x j)) ∙ a.0

    fit : (y : Node) → In y bs → (list_all (cond_fits at) y.parts.conds.items ≡ true) × (arms_agree (types_of bs) y.parts.kind y.quants ≡ true)
    fit y i =
        let a = and_parts (list_all (λ x. is_known (term_type at x)) y.parts.head) (list_all (cond_fits at) y.parts.conds.items && arms_agree (types_of bs) y.parts.kind y.quants) (typed y i) in
        and_parts (list_all (cond_fits at) y.parts.conds.items) (arms_agree (types_of bs) y.parts.kind y.quants) a.1

    conds-typed : (y : Node) → In y bs → list_all (cond_fits now) (map (substituted_cond q c.parts.head) y.parts.conds.items) ≡ true
    conds-typed y i = all-put (cond_fits now) (cond_fits at) (substituted_cond q c.parts.head) y.parts.conds.items (λ x j. cond-all y i x j) ∙ (fit y i).0

    b-typed : types_agree hm (merged q c quants b) ≡ true
    b-typed =
        and_from (list_all (λ x. is_known (term_type now x)) (map (substituted q c.parts.head) b.parts.head)) (list_all (cond_fits now) (map (substituted_cond q c.parts.head) b.parts.conds.items ++ c.parts.conds.items) && arms_agree (types_of hm) b.parts.kind quants) (heads-typed b m.in_b)
        (and_from (list_all (cond_fits now) (map (substituted_cond q c.parts.head) b.parts.conds.items ++ c.parts.conds.items)) (arms_agree (types_of hm) b.parts.kind quants)
        (all-joined (cond_fits now) (map (substituted_cond q c.parts.head) b.parts.conds.items) c.parts.conds.items (conds-typed b m.in_b) (c-conds ∙ (fit c m.in_c).0))
        (ap (λ k. arms_agree (types_of hm) k quants) m.select_b))

    other-typed : (y : Node) → In y bs → (y.id == b.id) ≡ false → (y.id == c.id) ≡ false → types_agree hm (put_node q c.parts.head y) ≡ true
    other-typed y i n l =
        and_from (list_all (λ x. is_known (term_type now x)) (map (substituted q c.parts.head) y.parts.head)) (list_all (cond_fits now) (map (substituted_cond q c.parts.head) y.parts.conds.items) && arms_agree (types_of hm) y.parts.kind y.quants) (heads-typed y i)
        (and_from (list_all (cond_fits now) (map (substituted_cond q c.parts.head) y.parts.conds.items)) (arms_agree (types_of hm) y.parts.kind y.quants) (conds-typed y i)
        (arms-same y.parts.kind y.quants (λ s j. (
        let u = has-in s.over bs (overs-held bs y s w.ordered i j) in
        let k : (s.over == c.id) ≡ false = (elim (cases_Bool (s.over == c.id)) [
          | inr f ↦ f
          | inl e ↦ absurd (clash (y.id == b.id) (eq-eqb y.id b.id (ap (λ (z : Node). z.id) (one-parent bs root w c.id y b s r (let a = m.one_use in omega arith) i m.in_b j r-in (eqb-true s.over c.id e) m.over_c))) n)
        ]) in
        subst (λ z. types_at hm z ≡ types_at bs z) u.1.1 (same-types u.0 u.1.0 (ap (λ z. z == c.id) u.1.1 ∙ k)))) ∙ (fit y i).1))

    pub typed-merged : shaped.Typed hm
    typed-merged n i = elim (before.in-h [] bs root w b c us r vs m n i) [
      | inl e ↦ subst (λ (z : Node). types_agree hm z ≡ true) e b-typed
      | inr y ↦ subst (λ (z : Node). types_agree hm z ≡ true) y.1.1.1.1 (other-typed y.0 y.1.0 y.1.1.0 y.1.1.1.0)
    ]

-- M1, with the boxes that the root no longer reaches
pub merge-typed : (g : QueryGraph) → Sound g.boxes g.root → shaped.Typed g.boxes → (b c : Node) (us : List OwnedQuant) (rq : OwnedQuant) (vs : List OwnedQuant) → Merges g.boxes b c us rq vs → shaped.Typed (merged_in b c us rq vs g).boxes
merge-typed g w t b c us rq vs m =
    subst (λ (z : List Node). shaped.Typed (compact (record g { boxes = map (merge_node b.id rq.id c (us ++ (c.quants ++ vs))) z })).boxes) (without-one c.id g.boxes w.ordered)
    (typed-compact (map (merge_node b.id rq.id c (us ++ (c.quants ++ vs))) (boxes_without c.id g.boxes)) g.root (merge-sound g.boxes g.root w b c us rq vs m) (typed-merged g.boxes g.root w b c us rq vs m t))
