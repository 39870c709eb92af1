-- M1 keeps graphs sound: columns and nodes.
use Rattle.std.specs.Prelude.{⊤, not as no}
use Rattle.std.proofs.Common.{ℕ, ◌==◌, ◌≡◌, ◌&&◌, ◌≤◌, true, false, List, [], ◌∷◌, ◌++◌, map, refl, sym, ap, subst, ◌∙◌, eqb-true, ◌⊎◌, inl, inr}
use Rattle.std.specs.List.{list_any}
use Rattle.std.proofs.lemmas.Bool.{cases_Bool, or_cases, or_left, or_parts, or_right}
use Rattle.qgm_core.specs.declared.kinds.BoxKind.{BoxKind}
use Rattle.qgm_core.specs.declared.kinds.BoxKind.TheVariants.{Base, Group, SetOp, OuterJoin, Select}
use Rattle.qgm_core.specs.declared.node.Node.{Node}
use Rattle.qgm_core.specs.declared.owned.OwnedQuant.{OwnedQuant}
use Rattle.qgm_core.specs.Boxes.{is_quant, owns, width}
use Rattle.list_laws.specs.Lists.{In}
use Rattle.qgm_core.specs.Kinds.{is_F, width_by}
use Rattle.qgm_meaning.specs.Scope.{put_node}
use Rattle.qgm_terms.specs.Terms.{Cond, Term}
use Rattle.qgm_meaning.specs.Searches.{names, names_cond}
use Rattle.qgm_terms.specs.Substitution.{cell_at, substituted, substituted_cond}
use Rattle.qgm_terms.specs.Wanted.{reads, reads_at, reads_at_cond, reads_cond}
use Rattle.qgm_edit_laws.specs.Graph.{ArmsBy, BareBy, Fits, binds_row, nodes_in, reads_in, Sound}
use Rattle.rule_merge.specs.Merged.{Merges, merge_node, merged}
use Rattle.qgm_edit_laws.proofs.Edits.{any-append, length-map, boxes_without}
use Rattle.qgm_edit_laws.proofs.AnyPut.{cell-any, conds-put, heads-bare, heads-put}
use Rattle.qgm_edit_laws.proofs.Scope.{bound-owned}
use Rattle.qgm_edit_laws.proofs.Turns.{any-parts}
use Rattle.rule_merge.proofs.MergeSelectMeans as before
use Rattle.rule_merge.proofs.MergeSelectMeans.{any-both}
use Rattle.list_laws.proofs.Membership.{any-from, any-in, in-append, in-left, in-right}
use Rattle.list_laws.proofs.Booleans.{clash}

module _ (bs : List Node) (root : ℕ) (w : Sound bs root) (nb nc : Node) (us : List OwnedQuant) (rq : OwnedQuant) (vs : List OwnedQuant) (m : Merges bs nb nc us rq vs) where
  abbrev q : ℕ
  q = rq.id

  abbrev quants-m : List OwnedQuant
  quants-m = us ++ (nc.quants ++ vs)

  abbrev box-m : Node
  box-m = merged q nc quants-m nb

  abbrev h : List Node
  h = map (merge_node nb.id q nc quants-m) (boxes_without nc.id bs)

  binds-q : binds_row q nb.quants ≡ true
  binds-q = before.binds-q [] bs root w nb nc us rq vs m

  not-both : (x : ℕ) → owns x nb ≡ true → owns x nc ≡ true → ⊥
  not-both = before.not-both [] bs root w nb nc us rq vs m

  in-h : (n : Node) → In n h → (box-m ≡ n) ⊎ ((y : Node) × (In y bs × (((y.id == nb.id) ≡ false) × (((y.id == nc.id) ≡ false) × (put_node q nc.parts.head y ≡ n)))))
  in-h = before.in-h [] bs root w nb nc us rq vs m

  in-quants-m : (r : OwnedQuant) → In r quants-m → (In r nb.quants × (In r us ⊎ In r vs)) ⊎ In r nc.quants
  in-quants-m = before.in-quants-m [] bs root w nb nc us rq vs m

  nodes-not-q : (y : Node) → In y bs → nodes_in q y ≡ false
  nodes-not-q = before.nodes-not-q [] bs root w nb nc us rq vs m

  at-head : (j : ℕ) (xs : List Term) → list_any (reads_at q j) xs ≡ true → list_any (reads q) xs ≡ true
  at-head = before.at-head [] bs root w nb nc us rq vs m

  at-conds : (j : ℕ) (xs : List Cond) → list_any (reads_at_cond q j) xs ≡ true → list_any (reads_cond q) xs ≡ true
  at-conds = before.at-conds [] bs root w nb nc us rq vs m

  not-own-q : (y : Node) → In y bs → (y.id == nb.id) ≡ false → (y.id == nc.id) ≡ false → owns q y ≡ false
  not-own-q = before.not-own-q [] bs root w nb nc us rq vs m

  from-bs : (n : Node) → In n h → (r : OwnedQuant) → In r n.quants → (y : Node) × (In y bs × In r y.quants)
  from-bs n i r j = elim (in-h n i) [
    | inl s ↦ elim (in-quants-m r (subst (λ (z : Node). In r z.quants) (sym s) j)) [ inl a ↦ (nb, (m.in_b, a.0)) | inr c ↦ (nc, (m.in_c, c)) ]
    | inr y ↦ (y.0, (y.1.0, subst (λ (z : Node). In r z.quants) (sym y.1.1.1.1) j))
  ]

  width-put : (y : Node) → width (put_node q nc.parts.head y) ≡ width y
  width-put y = ap (width_by y.parts.kind) (length-map (substituted q nc.parts.head) y.parts.head)

  width-m : width box-m ≡ width nb
  width-m = ap (width_by nb.parts.kind) (length-map (substituted q nc.parts.head) nb.parts.head)

  width-bs : (n : Node) → In n h → (y : Node) × (In y bs × ((y.id ≡ n.id) × (width n ≡ width y)))
  width-bs n i = elim (in-h n i) [
    | inl s ↦ (nb, (m.in_b, (ap (λ (z : Node). z.id) s, sym (ap width s) ∙ width-m)))
    | inr y ↦ (y.0, (y.1.0, (ap (λ (z : Node). z.id) y.1.1.1.1, sym (ap width y.1.1.1.1) ∙ width-put y.0)))
  ]

  fits-more : (x k : ℕ) → Fits bs x k → Fits h x k
  fits-more x k f n r o i j e u v =
      let a = from-bs n i r j in
      let y = width-bs o u in
      let z = f a.0 r y.0 a.1.0 a.1.1 e y.1.0 (y.1.1.0 ∙ v) in
      (z.0, subst (λ s. k ≤ s) (sym y.1.1.1) z.1)

  module _ (x k : ℕ) where
    cell-fits : (j : ℕ) → reads_at x k (cell_at j nc.parts.head) ≡ true → Fits bs x k
    cell-fits j h = w.fits nc m.in_c x k (or_left (list_any (reads_at x k) nc.parts.head) (list_any (reads_at_cond x k) nc.parts.conds.items) (cell-any (reads_at x k) nc.parts.head j refl h))

    head-fits : (y : Node) → In y bs → list_any (reads_at x k) (map (substituted q nc.parts.head) y.parts.head) ≡ true → Fits bs x k
    head-fits y i h =
        elim (heads-put q nc.parts.head (λ r j. (r == x) && (j == k)) (λ r. false) (λ r. false) (λ r. no (r == x)) ⊤ (λ r j n e. tt) (λ r n e. tt) (λ r n e. tt) y.parts.head (or_parts (list_any (names q) y.parts.head) (list_any (names_cond q) y.parts.conds.items) (nodes-not-q y i)).0 h) [
          | inl a ↦ w.fits y i x k (or_left (list_any (reads_at x k) y.parts.head) (list_any (reads_at_cond x k) y.parts.conds.items) a.0)
          | inr a ↦ cell-fits a.0 a.1.1
        ]

    conds-fits : (y : Node) → In y bs → list_any (reads_at_cond x k) (map (substituted_cond q nc.parts.head) y.parts.conds.items) ≡ true → Fits bs x k
    conds-fits y i h =
        elim (conds-put q nc.parts.head (λ r j. (r == x) && (j == k)) (λ r. false) (λ r. false) (λ r. no (r == x)) ⊤ (λ r j n e. tt) (λ r n e. tt) (λ r n e. tt) y.parts.conds.items (or_parts (list_any (names q) y.parts.head) (list_any (names_cond q) y.parts.conds.items) (nodes-not-q y i)).1 h) [
          | inl a ↦ w.fits y i x k (or_right (list_any (reads_at x k) y.parts.head) (list_any (reads_at_cond x k) y.parts.conds.items) a.0)
          | inr a ↦ cell-fits a.0 a.1.1
        ]

    fits-h : (n : Node) → In n h → reads_in x k n ≡ true → Fits h x k
    fits-h n i t = fits-more x k (elim (in-h n i) [
      | inl s ↦ elim (or_cases (list_any (reads_at x k) (map (substituted q nc.parts.head) nb.parts.head)) (list_any (reads_at_cond x k) (map (substituted_cond q nc.parts.head) nb.parts.conds.items ++ nc.parts.conds.items)) (subst (λ (z : Node). reads_in x k z ≡ true) (sym s) t)) [
        | inl a ↦ head-fits nb m.in_b a
        | inr b ↦ elim (any-append (reads_at_cond x k) (map (substituted_cond q nc.parts.head) nb.parts.conds.items) nc.parts.conds.items b) [
          | inl c ↦ conds-fits nb m.in_b c
          | inr d ↦ w.fits nc m.in_c x k (or_right (list_any (reads_at x k) nc.parts.head) (list_any (reads_at_cond x k) nc.parts.conds.items) d)
        ]
      ]
      | inr y ↦ elim (or_cases (list_any (reads_at x k) (map (substituted q nc.parts.head) y.0.parts.head)) (list_any (reads_at_cond x k) (map (substituted_cond q nc.parts.head) y.0.parts.conds.items)) (subst (λ (z : Node). reads_in x k z ≡ true) (sym y.1.1.1.1) t)) [ inl a ↦ head-fits y.0 y.1.0 a | inr a ↦ conds-fits y.0 y.1.0 a ]
    ])

  -- a node after is one of before, or one of c's cells, at a box that reads q
  abbrev NodeWas : Node → ℕ → Type 0
  NodeWas y x = (nodes_in x y ≡ true) ⊎ ((k : ℕ) × ((reads_in q k y ≡ true) × (names x (cell_at k nc.parts.head) ≡ true)))

  module _ (x : ℕ) where
    head-node : (y : Node) → In y bs → list_any (names x) (map (substituted q nc.parts.head) y.parts.head) ≡ true → NodeWas y x
    head-node y i h =
        elim (heads-put q nc.parts.head (λ r j. false) (λ r. r == x) (λ r. r == x) (λ r. true) ⊤ (λ r j n e. tt) (λ r n e. tt) (λ r n e. tt) y.parts.head (or_parts (list_any (names q) y.parts.head) (list_any (names_cond q) y.parts.conds.items) (nodes-not-q y i)).0 h) [
          | inl a ↦ inl (or_left (list_any (names x) y.parts.head) (list_any (names_cond x) y.parts.conds.items) a.0)
          | inr a ↦ inr (a.0, (or_left (list_any (reads_at q a.0) y.parts.head) (list_any (reads_at_cond q a.0) y.parts.conds.items) a.1.0, a.1.1))
        ]

    conds-node : (y : Node) → In y bs → list_any (names_cond x) (map (substituted_cond q nc.parts.head) y.parts.conds.items) ≡ true → NodeWas y x
    conds-node y i h =
        elim (conds-put q nc.parts.head (λ r j. false) (λ r. r == x) (λ r. r == x) (λ r. true) ⊤ (λ r j n e. tt) (λ r n e. tt) (λ r n e. tt) y.parts.conds.items (or_parts (list_any (names q) y.parts.head) (list_any (names_cond q) y.parts.conds.items) (nodes-not-q y i)).1 h) [
          | inl a ↦ inl (or_right (list_any (names x) y.parts.head) (list_any (names_cond x) y.parts.conds.items) a.0)
          | inr a ↦ inr (a.0, (or_right (list_any (reads_at q a.0) y.parts.head) (list_any (reads_at_cond q a.0) y.parts.conds.items) a.1.0, a.1.1))
        ]

    abbrev OwnM : Type 0
    OwnM = (list_any (is_quant x) quants-m ≡ true) × (binds_row x quants-m ≡ false)

    own-from-c : nodes_in x nc ≡ true → OwnM
    own-from-c t =
        let o = w.own_nodes nc m.in_c x t in
        let z = any-in (is_quant x) nc.quants o.0 in
        let off : binds_row x nb.quants ≡ false = (elim (cases_Bool (binds_row x nb.quants)) [ inl t ↦ absurd (not-both x (bound-owned x nb.quants t) o.0) | inr f ↦ f ]) in
        let ps = any-parts (λ r. is_F r.kind && is_quant x r) us (rq ∷ vs) (subst (λ z. binds_row x z ≡ false) m.split off) in (
          any-from (is_quant x) z.0 quants-m (in-right z.0 us (nc.quants ++ vs) (in-left z.0 nc.quants vs z.1.0)) z.1.1,
          any-both (λ r. is_F r.kind && is_quant x r) us (nc.quants ++ vs) ps.0 (any-both (λ r. is_F r.kind && is_quant x r) nc.quants vs o.1 (or_parts (is_F rq.kind && is_quant x rq) (binds_row x vs) ps.1).1),
        )

    own-from-b : nodes_in x nb ≡ true → OwnM
    own-from-b t =
        let o = w.own_nodes nb m.in_b x t in
        let z = any-in (is_quant x) nb.quants o.0 in
        let off : binds_row x nc.quants ≡ false = (elim (cases_Bool (binds_row x nc.quants)) [ inl t ↦ absurd (not-both x o.0 (bound-owned x nc.quants t)) | inr f ↦ f ]) in
        let ps = any-parts (λ r. is_F r.kind && is_quant x r) us (rq ∷ vs) (subst (λ z. binds_row x z ≡ false) m.split o.1) in (
          any-from (is_quant x) z.0 quants-m (elim (in-append z.0 us (rq ∷ vs) (subst (λ l. In z.0 l) m.split z.1.0)) [
            | inl a ↦ in-left z.0 us (nc.quants ++ vs) a
            | inr b ↦ elim b [
              | inl e ↦ absurd (clash (binds_row q nb.quants) binds-q (subst (λ y. binds_row y nb.quants ≡ false) (sym (ap (λ (r : OwnedQuant). r.id) e ∙ eqb-true z.0.id x z.1.1)) o.1))
              | inr y ↦ in-right z.0 us (nc.quants ++ vs) (in-right z.0 nc.quants vs y)
            ]
          ]) z.1.1,
          any-both (λ r. is_F r.kind && is_quant x r) us (nc.quants ++ vs) ps.0 (any-both (λ r. is_F r.kind && is_quant x r) nc.quants vs off (or_parts (is_F rq.kind && is_quant x rq) (binds_row x vs) ps.1).1),
        )

    own-was : NodeWas nb x → OwnM
    own-was z = elim z [ inl a ↦ own-from-b a | inr a ↦ own-from-c (or_left (list_any (names x) nc.parts.head) (list_any (names_cond x) nc.parts.conds.items) (cell-any (names x) nc.parts.head a.0 refl a.1.1)) ]

    own-h : (n : Node) → In n h → nodes_in x n ≡ true → (owns x n ≡ true) × (binds_row x n.quants ≡ false)
    own-h n i t = elim (in-h n i) [
      | inl s ↦ subst (λ (z : Node). (owns x z ≡ true) × (binds_row x z.quants ≡ false)) s (
          elim (or_cases (list_any (names x) (map (substituted q nc.parts.head) nb.parts.head)) (list_any (names_cond x) (map (substituted_cond q nc.parts.head) nb.parts.conds.items ++ nc.parts.conds.items)) (subst (λ (z : Node). nodes_in x z ≡ true) (sym s) t)) [
            | inl a ↦ own-was (head-node nb m.in_b a)
            | inr b ↦ elim (any-append (names_cond x) (map (substituted_cond q nc.parts.head) nb.parts.conds.items) nc.parts.conds.items b) [
              | inl c ↦ own-was (conds-node nb m.in_b c)
              | inr d ↦ own-from-c (or_right (list_any (names x) nc.parts.head) (list_any (names_cond x) nc.parts.conds.items) d)
            ]
          ])
      | inr y ↦ subst (λ (z : Node). (owns x z ≡ true) × (binds_row x z.quants ≡ false)) y.1.1.1.1 (elsewhere y.0 y.1.0 y.1.1.0 y.1.1.1.0
          (elim (or_cases (list_any (names x) (map (substituted q nc.parts.head) y.0.parts.head)) (list_any (names_cond x) (map (substituted_cond q nc.parts.head) y.0.parts.conds.items)) (subst (λ (z : Node). nodes_in x z ≡ true) (sym y.1.1.1.1) t)) [ inl a ↦ head-node y.0 y.1.0 a | inr a ↦ conds-node y.0 y.1.0 a ]))
    ]
      where
        elsewhere : (y : Node) → In y bs → (y.id == nb.id) ≡ false → (y.id == nc.id) ≡ false → NodeWas y x → (owns x y ≡ true) × (binds_row x y.quants ≡ false)
        elsewhere y i n n' z = elim z [
          | inl a ↦ w.own_nodes y i x a
          | inr a ↦ absurd (clash (list_any (names x) (cell_at a.0 nc.parts.head ∷ [])) (or_left (names x (cell_at a.0 nc.parts.head)) false a.1.1) (heads-bare x (cell_at a.0 nc.parts.head ∷ []) (ap (λ t. t && true) (m.naked y i n a.0 a.1.0))))
        ]

  bare-put : (k : BoxKind) (y : Node) → BareBy k y → BareBy k (put_node q nc.parts.head y)
  bare-put (Base name) y e = (e.0, ap (map (substituted q nc.parts.head)) e.1, ap (map (substituted_cond q nc.parts.head)) e.2)
  bare-put Select y e = tt
  bare-put (Group k) y e = tt
  bare-put (SetOp form v) y e = (ap (map (substituted q nc.parts.head)) e.0, ap (map (substituted_cond q nc.parts.head)) e.1)
  bare-put OuterJoin y e = tt

  bare-h : (n : Node) → In n h → BareBy n.parts.kind n
  bare-h n i = elim (in-h n i) [
    | inl s ↦ subst (λ (z : Node). BareBy z.parts.kind z) s (subst (λ k. BareBy k box-m) (sym m.select_b) tt)
    | inr y ↦ subst (λ (z : Node). BareBy z.parts.kind z) y.1.1.1.1 (bare-put y.0.parts.kind y.0 (w.bare y.0 y.1.0))
  ]

  arms-h : (n o : Node) (r : OwnedQuant) → In n h → In r n.quants → In o h → o.id ≡ r.over → ArmsBy n.parts.kind (width o) (width n)
  arms-h n o r i j u v = elim (in-h n i) [
    | inl s ↦ subst (λ (z : Node). ArmsBy z.parts.kind (width o) (width z)) s (subst (λ k. ArmsBy k (width o) (width box-m)) (sym m.select_b) tt)
    | inr y ↦ (let z = width-bs o u in subst (λ (z : Node). ArmsBy z.parts.kind (width o) (width z)) y.1.1.1.1 (
        subst (λ a. ArmsBy y.0.parts.kind a (width (put_node q nc.parts.head y.0))) (sym z.1.1.1) (subst (λ a. ArmsBy y.0.parts.kind (width z.0) a) (sym (width-put y.0))
        (w.arms y.0 z.0 r y.1.0 (subst (λ (z : Node). In r z.quants) (sym y.1.1.1.1) j) z.1.0 (z.1.1.0 ∙ v)))))
  ]

  pub merge-sound : Sound h root
  merge-sound = record {
    ordered = before.ordered-h [] bs root w nb nc us rq vs m;
    rooted = before.rooted-h [] bs root w nb nc us rq vs m;
    once = before.once-h [] bs root w nb nc us rq vs m;
    settled = before.settled-h [] bs root w nb nc us rq vs m;
    used = before.used-h [] bs root w nb nc us rq vs m;
    top = before.used-by [] bs root w nb nc us rq vs m root (before.root-not-c [] bs root w nb nc us rq vs m) ∙ w.top;
    fits = λ n i x k t. fits-h x k n i t;
    own_nodes = λ n i x t. own-h x n i t;
    bare = bare-h;
    arms = arms-h;
  }
