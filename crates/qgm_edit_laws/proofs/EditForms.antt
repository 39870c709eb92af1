-- The check finds nothing more where a quantifier ranges for something else or over another box, comes or goes.
use Rattle.std.proofs.Common.{ℕ, suc, ◌==◌, ◌≡◌, ◌&&◌, ◌||◌, nat_lt, cond, not, Bool, true, false, List, [], ◌∷◌, insert, length, map, None, refl, sym, ap, ap₂, subst, ◌∙◌, eqb-true, ◌⊎◌, inl, inr}
use Rattle.std.specs.List.{list_all, list_any}
use Rattle.std.proofs.lemmas.Bool.{and_from, and_parts, cases_Bool, eq-eqb}
use Rattle.qgm_core.specs.Boxes.{QueryGraph, is_quant, numbers, owns, width, is_box}
use Rattle.qgm_core.specs.Edits.{drop_quant, on_boxes, on_quant, put_quant, put_range, redirect, with_quant, without_quant}
use Rattle.qgm_core.specs.Free.{named_by}
use Rattle.qgm_core.specs.Kinds.{is_A, is_E, is_F, is_F_or_S, is_S, is_enforce, is_fed, is_permit, is_plain}
use Rattle.list_laws.specs.Lists.{EachOnce, In, change, first, holds, without}
use Rattle.qgm_core.specs.declared.kinds.BoxKind.{BoxKind}
use Rattle.qgm_core.specs.declared.kinds.BoxKind.TheVariants.{Base, Group, OuterJoin, Select, SetOp}
use Rattle.qgm_core.specs.declared.kinds.QuantKind.{QuantKind}
use Rattle.qgm_core.specs.declared.kinds.Role.{Role}
use Rattle.qgm_core.specs.declared.kinds.Role.TheVariants.{Fed, Magic, Plain}
use Rattle.qgm_core.specs.declared.node.Node.{Node}
use Rattle.qgm_core.specs.declared.owned.OwnedQuant.{OwnedQuant}
use Rattle.qgm_terms.specs.declared.named.QuantNode.{QuantNode}
use Rattle.qgm_terms.specs.declared.named.QuantNode.TheVariants as node
use Rattle.qgm_wellformed.specs.Shapes.{arm_fits, head_is_own, is_among, is_none, is_unfolded, kind_fits, looks_up, node_fits, nodes_of, role_fits, shape_fits, width_found}
use Rattle.qgm_wellformed.specs.Shapes as shapes
use Rattle.qgm_wellformed.specs.WellFormed.{fault}
use Rattle.qgm_meaning.specs.Scope.{loose}
use Rattle.qgm_edit_laws.specs.Changes.{Redirects}
use Rattle.qgm_edit_laws.specs.FormedEdits.{MayAddQuant, MayDropQuant, MayRedirect, MayTurn}
use Rattle.qgm_edit_laws.specs.Graph.{Sound}
use Rattle.qgm_edit_laws.specs.Reforms.{types_at}
use Rattle.qgm_edit_laws.specs.Shaped.{Shaped, Typed}
use Rattle.qgm_edit_laws.proofs.Adds.{loose-owned}
use Rattle.qgm_edit_laws.proofs.BoxForms.{counted-seen, scalar-column, stands}
use Rattle.qgm_edit_laws.proofs.Edits.{once-each}
use Rattle.qgm_edit_laws.proofs.Follow.{all-alike}
use Rattle.qgm_edit_laws.proofs.Formed.{same-quant, sound-checked}
use Rattle.qgm_edit_laws.proofs.FreeLoose.{looks-asked}
use Rattle.qgm_edit_laws.proofs.Interposed.{over_now}
use Rattle.qgm_edit_laws.proofs.OneBox.{at, change-at, owner-at}
use Rattle.qgm_edit_laws.proofs.PlacedOne.{any-put, in-less, in-put, less-in}
use Rattle.qgm_edit_laws.proofs.QuantForms.{quants-formed}
use Rattle.qgm_edit_laws.proofs.Quants.{less-scoped, less-sound, owned-same, put-scoped, put-sound, redirect-sound, scoped-now, turned-sound}
use Rattle.qgm_edit_laws.proofs.Ranks.{has-in, same-box}
use Rattle.qgm_edit_laws.proofs.Read.{is_of, nodes-listed}
use Rattle.qgm_edit_laws.proofs.Reformed.{wide-types}
use Rattle.qgm_edit_laws.proofs.Scope.{in-first, one-owner}
use Rattle.qgm_edit_laws.proofs.ShapeParts.{shape-from, shape-parts}
use Rattle.qgm_edit_laws.proofs.TypedKept.{found}
use Rattle.qgm_core.proofs.Reaching.{overs-held}
use Rattle.list_laws.proofs.Membership.{all-from, all-in, any-from, any-in, eq-itself}
use Rattle.list_laws.proofs.Booleans.{clash}

-- ---- one quantifier changed, of those of a box

module _ (q : ℕ) (f : OwnedQuant → OwnedQuant) where
  abbrev now : List OwnedQuant → List OwnedQuant
  now rs = change (is_quant q) f rs

  -- each is as it was, or is the one that changed
  pub changed-in : (rs : List OwnedQuant) (s : OwnedQuant) → In s (now rs) → In s rs ⊎ ((x : OwnedQuant) × (In x rs × ((x.id ≡ q) × (f x ≡ s))))
  changed-in [] s j = elim j [ ]
  changed-in (x ∷ rs) s j = elim (x.id == q) as (λ t. (x.id == q) ≡ t → In s (cond t (f x ∷ rs) (x ∷ now rs)) → In s (x ∷ rs) ⊎ ((y : OwnedQuant) × (In y (x ∷ rs) × ((y.id ≡ q) × (f y ≡ s))))) [
    | true ↦ λ t j. elim j [ inl e ↦ inr (x, (inl refl, (eqb-true x.id q t, e))) | inr k ↦ inl (inr k) ]
    | false ↦ λ t j. elim j [
      | inl e ↦ inl (inl e)
      | inr k ↦ elim (changed-in rs s k) [ inl a ↦ inl (inr a) | inr a ↦ inr (a.0, (inr a.1.0, a.1.1)) ]
    ]
  ] refl j

  pub in-changed : (rs : List OwnedQuant) (s : OwnedQuant) → In s rs → In s (now rs) ⊎ ((s.id ≡ q) × In (f s) (now rs))
  in-changed [] s j = elim j [ ]
  in-changed (x ∷ rs) s j = elim (x.id == q) as (λ t. (x.id == q) ≡ t → In s (cond t (f x ∷ rs) (x ∷ now rs)) ⊎ ((s.id ≡ q) × In (f s) (cond t (f x ∷ rs) (x ∷ now rs)))) [
    | true ↦ λ t. elim j [ inl e ↦ inr (ap (λ (z : OwnedQuant). z.id) (sym e) ∙ eqb-true x.id q t, inl (ap f e)) | inr k ↦ inl (inr k) ]
    | false ↦ λ t. elim j [ inl e ↦ inl (inl e) | inr k ↦ elim (in-changed rs s k) [ inl a ↦ inl (inr a) | inr a ↦ inr (a.0, inr a.1) ] ]
  ] refl

  module _ (p : OwnedQuant → Bool) (same : (x : OwnedQuant) → p (f x) ≡ p x) where
    pub any-changed : (rs : List OwnedQuant) → list_any p (now rs) ≡ list_any p rs
    any-changed [] = refl
    any-changed (x ∷ rs) = elim (x.id == q) as (λ t. list_any p (cond t (f x ∷ rs) (x ∷ now rs)) ≡ list_any p (x ∷ rs)) [ true ↦ ap (λ z. z || list_any p rs) (same x) | false ↦ ap (λ z. p x || z) (any-changed rs) ]

    pub all-changed : (rs : List OwnedQuant) → list_all p (now rs) ≡ list_all p rs
    all-changed [] = refl
    all-changed (x ∷ rs) = elim (x.id == q) as (λ t. list_all p (cond t (f x ∷ rs) (x ∷ now rs)) ≡ list_all p (x ∷ rs)) [ true ↦ ap (λ z. z && list_all p rs) (same x) | false ↦ ap (λ z. p x && z) (all-changed rs) ]

  pub none-changed : (rs : List OwnedQuant) → is_none (now rs) ≡ is_none rs
  none-changed [] = refl
  none-changed (x ∷ rs) = elim (x.id == q) as (λ t. is_none (cond t (f x ∷ rs) (x ∷ now rs)) ≡ false) [ true ↦ refl | false ↦ refl ]

  pub length-changed : (rs : List OwnedQuant) → length (now rs) ≡ length rs
  length-changed [] = refl
  length-changed (x ∷ rs) = elim (x.id == q) as (λ t. length (cond t (f x ∷ rs) (x ∷ now rs)) ≡ length (x ∷ rs)) [ true ↦ refl | false ↦ ap suc (length-changed rs) ]

-- ---- the shape of a box that isn't fed, one of whose quantifiers ranges over another box of the same width

module _ (root : ℕ) (bs : List Node) (o : Node) (q : ℕ) (f : OwnedQuant → OwnedQuant) (id : (x : OwnedQuant) → (f x).id ≡ x.id) (kind : (x : OwnedQuant) → (f x).kind ≡ x.kind)
    (wide : (o.parts.kind ≡ Select) ⊎ ((x : OwnedQuant) → In x o.quants → x.id ≡ q → width_found (first (is_box (f x).over) bs) ≡ width_found (first (is_box x.over) bs))) (not_fed : is_fed o.parts.role ≡ false) where
  abbrev o' : Node
  o' = on_quant q f o

  role-over : (k : Role) → is_fed k ≡ false → role_fits root bs o k ≡ true → role_fits root bs o' k ≡ true
  role-over Plain n h = refl
  role-over Magic n h = ap (λ z. is_enforce o.parts.distinct && z) (all-changed q f (λ r. is_F r.kind) (λ x. ap is_F (kind x)) o.quants) ∙ h
  role-over Fed n h = absurd (let z : ⊥ = cc in z)

  are-F : (k : ℕ) → shapes.are_F k o'.quants ≡ shapes.are_F k o.quants
  are-F k = ap₂ (λ (l : ℕ) (z : Bool). (l == k) && z) (length-changed q f o.quants) (all-changed q f (λ r. is_F r.kind) (λ x. ap is_F (kind x)) o.quants)

  owns-over : (x : ℕ) → owns x o' ≡ owns x o
  owns-over x = any-changed q f (is_quant x) (λ r. ap (λ z. z == x) (id r)) o.quants

  head-over : head_is_own o' ≡ head_is_own o
  head-over = all-alike (λ x. owns x o') (λ x. owns x o) _ (λ x i. owns-over x)

  arms-over : ((x : OwnedQuant) → In x o.quants → x.id ≡ q → width_found (first (is_box (f x).over) bs) ≡ width_found (first (is_box x.over) bs)) → (w : ℕ) (rs : List OwnedQuant) → ((x : OwnedQuant) → In x rs → In x o.quants) → list_all (arm_fits bs w) (change (is_quant q) f rs) ≡ list_all (arm_fits bs w) rs
  arms-over wide w [] sub = refl
  arms-over wide w (x ∷ rs) sub = elim (x.id == q) as (λ t. (x.id == q) ≡ t → list_all (arm_fits bs w) (cond t (f x ∷ rs) (x ∷ change (is_quant q) f rs)) ≡ list_all (arm_fits bs w) (x ∷ rs)) [
    | true ↦ λ t. ap (λ z. (z == w) && list_all (arm_fits bs w) rs) (wide x (sub x (inl refl)) (eqb-true x.id q t))
    | false ↦ λ t. ap (λ z. arm_fits bs w x && z) (arms-over wide w rs (λ y j. sub y (inr j)))
  ] refl

  kind-over : (k : BoxKind) → o.parts.kind ≡ k → kind_fits root bs o k ≡ true → kind_fits root bs o' k ≡ true
  kind-over (Base t) e h = ap (λ z. z && is_none o.parts.conds.items && is_none o.parts.head && is_plain o.parts.role) (none-changed q f o.quants) ∙ h
  kind-over Select e h = let x = and_parts (is_unfolded o) (role_fits root bs o o.parts.role) h in and_from (is_unfolded o) (role_fits root bs o' o.parts.role) x.0 (role-over o.parts.role not_fed x.1)
  kind-over (Group k) e h = ap₂ (λ u v. u && is_none o.parts.conds.items && is_plain o.parts.role && shapes.head_folds k o.parts.head && v) (are-F 1) head-over ∙ h
  kind-over (SetOp form types) e h = elim wide [
    | inl d ↦ absurd (let z : SetOp form types ≡ Select = sym e ∙ d in let y : ⊥ = cc in y)
    | inr d ↦ ap₂ (λ u v. u && v && nat_lt 0 (width o) && is_none o.parts.conds.items && is_none o.parts.head && is_plain o.parts.role) (are-F 2) (arms-over d (width o) o.quants (λ x j. j)) ∙ h
  ]
  kind-over OuterJoin e h = ap₂ (λ u v. u && list_all shapes.is_column o.parts.head && v && is_unfolded o && is_plain o.parts.role) (are-F 2) head-over ∙ h

  among-over : (p : QuantKind → Bool) (x : ℕ) → is_among p x o'.quants ≡ is_among p x o.quants
  among-over p x = any-changed q f (λ r. is_quant x r && p r.kind) (λ r. ap₂ (λ (a : ℕ) (b : QuantKind). (a == x) && p b) (id r) (kind r)) o.quants

  node-over : (x : QuantNode) → node_fits o'.quants x ≡ node_fits o.quants x
  node-over (node.Scalar r) = among-over is_S r
  node-over (node.Some r) = among-over is_E r
  node-over (node.Every r) = among-over is_A r

  pub shape-over : shape_fits root bs o ≡ true → shape_fits root bs o' ≡ true
  shape-over h =
      let p = shape-parts root bs o h in
      shape-from root bs o' (record {
        kind = kind-over o.parts.kind refl p.kind;
        nodes = all-alike (node_fits o'.quants) (node_fits o.quants) (nodes_of o) (λ x i. node-over x) ∙ p.nodes;
        placed = all-changed q f (λ r. is_F r.kind || not (looks_up r.id o)) (λ r. ap₂ (λ (a : QuantKind) (b : ℕ). is_F a || not (looks_up b o)) (kind r) (id r)) o.quants ∙ p.placed;
        scalar = p.scalar;
      })

-- ---- the edits

abbrev of_kind : QuantKind → OwnedQuant → OwnedQuant
of_kind kind s = record s { kind = kind }

module _ (g : QueryGraph) (u : EachOnce (numbers g.boxes)) (f : fault g ≡ None) where
  abbrev bs : List Node
  bs = g.boxes

  p : Sound bs g.root × Typed bs × Shaped bs g.root
  p = (sound-checked g u).0 f

  w : Sound bs g.root
  w = p.0

  -- a change of the owner of a quantifier, and of a box
  by-owner : (q : ℕ) (o : Node) (h : Node → Node) → In o bs → owns q o ≡ true → fault (on_boxes (map (at o.id h)) g) ≡ None → fault (on_boxes (change (owns q) h) g) ≡ None
  by-owner q o h i own d = subst (λ z. fault (record g { boxes = z }) ≡ None) (sym (owner-at q o h bs (once-each bs w.ordered) i own (λ y j k. one-owner bs g.root w q y o j i k own))) d

  owned : (o : Node) (r : OwnedQuant) → In r o.quants → owns r.id o ≡ true
  owned o r j = any-from (is_quant r.id) r o.quants j (eq-itself r.id)

  one-quant : (o : Node) → In o bs → (r s : OwnedQuant) → In r o.quants → In s o.quants → r.id ≡ s.id → r ≡ s
  one-quant o i r s j k e = same-quant bs w.ordered w.once o i r s j k e

  not-owned : (o : Node) → In o bs → (q : ℕ) → loose bs o.id q ≡ true → owns q o ≡ false
  not-owned o i q t = (looks-asked bs g.root w o i q t).0

  pub put-quant-formed : (o : Node) (r : OwnedQuant) (kind : QuantKind) → MayTurn g o r kind → fault (put_quant r.id kind g) ≡ None
  put-quant-formed o r kind m =
      by-owner r.id o (on_quant r.id (of_kind kind)) m.turns.within (owned o r m.owned) (quants-formed g u f o m.turns.within (on_quant r.id (of_kind kind)) (λ y. refl) refl (turned-sound bs g.root w o (on_quant r.id (of_kind kind)) m.turns) m.turns.scoped
      (λ q t. owned-same bs g.root w o (on_quant r.id (of_kind kind)) m.turns q ∙ not-owned o m.turns.within q t)
      (λ q s j t. elim (in-changed r.id (of_kind kind) o.quants s j) [ inl k ↦ (s, (k, t)) | inr k ↦ ((of_kind kind) s, (k.1, t)) ])
      (λ x j. inl (let s = was x j in (o, (m.turns.within, s))))
      (inr (λ x j. (let s = was x j in (s.0, (s.1.0, s.1.1.1))))) m.shape
      (λ z x j t k e. elim (changed-in r.id (of_kind kind) o.quants x j) [
        | inl a ↦ scalar-column bs g.root p.1 p.2 o z x m.turns.within a t k e
        | inr a ↦ m.column (ap (λ (y : OwnedQuant). is_S y.kind) a.1.1.1 ∙ t) z k (e ∙ ap (λ (y : OwnedQuant). y.over) (sym a.1.1.1) ∙ ap (λ (y : OwnedQuant). y.over) (one-quant o m.turns.within a.0 r a.1.0 m.owned a.1.1.0))
      ])
      (λ z x j t k e. elim (changed-in r.id (of_kind kind) o.quants x j) [
        | inl a ↦ counted-seen bs g.root p.1 p.2 o z x m.turns.within a t k e
        | inr a ↦ m.counted (ap (λ (y : OwnedQuant). is_F_or_S y.kind) a.1.1.1 ∙ t) z k (e ∙ ap (λ (y : OwnedQuant). y.over) (sym a.1.1.1) ∙ ap (λ (y : OwnedQuant). y.over) (one-quant o m.turns.within a.0 r a.1.0 m.owned a.1.1.0))
      ]))
    where
      was : (x : OwnedQuant) → In x ((on_quant r.id (of_kind kind)) o).quants → (s : OwnedQuant) × (In s o.quants × ((s.id ≡ x.id) × (types_at bs s.over ≡ types_at bs x.over)))
      was x j = let s = m.turns.same x j in (s.0, (s.1.0, (s.1.1.0, ap (types_at bs) s.1.1.1)))

  pub redirect-formed : (o : Node) (r : OwnedQuant) (c : Node) → MayRedirect g o r c → fault (redirect r.id c.id g) ≡ None
  redirect-formed o r c m =
      by-owner r.id o (on_quant r.id (over_now c.id)) i (owned o r d.owned) (quants-formed g u f o i (on_quant r.id (over_now c.id)) (λ y. refl) refl (redirect-sound bs g.root w o r c d m.closed) (scoped-now bs g.root w o r c d)
      (λ q t. any-changed r.id (over_now c.id) (is_quant q) (λ x. refl) o.quants ∙ not-owned o i q t)
      (λ q s j t. elim (in-changed r.id (over_now c.id) o.quants s j) [
        | inl k ↦ (s, (k, t))
        | inr k ↦ absurd (clash (loose bs r.over q) (subst (λ (y : OwnedQuant). loose bs y.over q ≡ true) (one-quant o i s r j d.owned k.0) t) (m.closed q))
      ])
      (λ x j. inl (let s = was x j in (o, (i, s))))
      (inr (λ x j. (let s = was x j in (s.0, (s.1.0, s.1.1.1)))))
      (shape-over g.root bs o r.id (over_now c.id) (λ x. refl) (λ x. refl) (inr wide) m.not_fed (p.2.shapes o i))
      (λ z x j t k e. elim (changed-in r.id (over_now c.id) o.quants x j) [
        | inl a ↦ scalar-column bs g.root p.1 p.2 o z x i a t k e
        | inr a ↦ (
            let y : a.0 ≡ r = one-quant o i a.0 r a.1.0 d.owned a.1.1.0 in
            let old = has-in r.over bs (overs-held bs o r w.ordered i d.owned) in
            let same : width z ≡ width old.0 = sym (wide-types bs g.root w z k) ∙ ap (λ b. length (types_at bs b)) (e ∙ ap (λ (y : OwnedQuant). y.over) (sym a.1.1.1)) ∙ ap length m.types ∙ ap (λ b. length (types_at bs b)) (sym old.1.1) ∙ wide-types bs g.root w old.0 old.1.0 in
            ap (nat_lt 0) same ∙ scalar-column bs g.root p.1 p.2 o old.0 r i d.owned (subst (λ (y : OwnedQuant). is_S y.kind ≡ true) y (ap (λ (y : OwnedQuant). is_S y.kind) a.1.1.1 ∙ t)) old.1.0 old.1.1)
      ])
      (λ z x j t k e. elim (changed-in r.id (over_now c.id) o.quants x j) [
        | inl a ↦ counted-seen bs g.root p.1 p.2 o z x i a t k e
        | inr a ↦ (
            let y : a.0 ≡ r = one-quant o i a.0 r a.1.0 d.owned a.1.1.0 in
            let same : z ≡ c = same-box bs z c w.ordered k d.in_c (e ∙ ap (λ (y : OwnedQuant). y.over) (sym a.1.1.1)) in
            subst (λ (z : Node). is_permit z.parts.distinct ≡ false) (sym same) (m.counted (subst (λ (y : OwnedQuant). is_F_or_S y.kind ≡ true) y (ap (λ (y : OwnedQuant). is_F_or_S y.kind) a.1.1.1 ∙ t))))
      ]))
    where
      d : Redirects bs g.root o r c
      d = m.redirects

      i : In o bs
      i = d.within

      was : (x : OwnedQuant) → In x ((on_quant r.id (over_now c.id)) o).quants → (s : OwnedQuant) × (In s o.quants × ((s.id ≡ x.id) × (types_at bs s.over ≡ types_at bs x.over)))
      was x j = elim (changed-in r.id (over_now c.id) o.quants x j) [
        | inl a ↦ (x, (a, (refl, refl)))
        | inr a ↦ (
            let y : a.0 ≡ r = one-quant o i a.0 r a.1.0 d.owned a.1.1.0 in
            (a.0, (a.1.0, (ap (λ (z : OwnedQuant). z.id) a.1.1.1, ap (λ (z : OwnedQuant). types_at bs z.over) y ∙ sym m.types ∙ ap (λ (z : OwnedQuant). types_at bs z.over) a.1.1.1))))
      ]

      wide : (x : OwnedQuant) → In x o.quants → x.id ≡ r.id → width_found (first (is_box c.id) bs) ≡ width_found (first (is_box x.over) bs)
      wide x j e =
          let old = has-in x.over bs (overs-held bs o x w.ordered i j) in
          let y : x ≡ r = one-quant o i x r j d.owned e in
          ap width_found (in-first c bs w.ordered d.in_c)
          ∙ sym (wide-types bs g.root w c d.in_c) ∙ ap length m.types ∙ ap (λ b. length (types_at bs b)) (ap (λ (z : OwnedQuant). z.over) (sym y) ∙ sym old.1.1) ∙ wide-types bs g.root w old.0 old.1.0
          ∙ sym (ap width_found (ap (λ b. first (is_box b) bs) (sym old.1.1) ∙ in-first old.0 bs w.ordered old.1.0))

  pub add-quant-formed : (o : Node) (n : ℕ) (r : OwnedQuant) → MayAddQuant g o n r → fault (with_quant o.id n r g) ≡ None
  add-quant-formed o n r m =
      subst (λ z. fault (record g { boxes = z }) ≡ None) (sym (change-at o.id (put_range n r) bs (once-each bs w.ordered)))
      (quants-formed g u f o i (put_range n r) (λ y. refl) refl (put-sound bs g.root w o n r m.puts) (put-scoped bs g.root w o n r m.puts)
      (λ q t. elim (cases_Bool (owns q ((put_range n r) o))) [
        | inr e ↦ e
        | inl e ↦ absurd (
            let x = any-in (is_quant q) (insert o.quants n r) e in
            elim (in-put n r o.quants x.0 x.1.0) [
              | inl y ↦ not-new q (ap (λ (z : OwnedQuant). z.id) y ∙ eqb-true x.0.id q x.1.1) (loose-owned bs g.root w o.id q t)
              | inr y ↦ clash (owns q o) (any-from (is_quant q) x.0 o.quants y x.1.1) (not-owned o i q t)
            ])
      ])
      (λ q s j t. any-in (λ (x : OwnedQuant). loose bs x.over q) (insert o.quants n r) (any-put (λ (x : OwnedQuant). loose bs x.over q) n r o.quants (any-from (λ (x : OwnedQuant). loose bs x.over q) s o.quants j t)))
      (λ x j. elim (in-put n r o.quants x j) [
        | inr y ↦ inl (stands bs g.root p.1 p.2 o x i y)
        | inl y ↦ inr (λ z k. elim (cases_Bool (holds x.id (named_by z))) [
          | inr e ↦ e
          | inl e ↦ absurd (
              let a = found bs g.root w z k x.id e in
              not-new x.id (ap (λ (z : OwnedQuant). z.id) y) (any-from (owns x.id) a.owner bs a.owner_in (any-from (is_quant x.id) a.quant a.owner.quants a.quant_in (eq-eqb a.quant.id x.id a.is_q))))
        ])
      ])
      (inl m.select) m.shape
      (λ z x j t k e. elim (in-put n r o.quants x j) [
        | inr y ↦ scalar-column bs g.root p.1 p.2 o z x i y t k e
        | inl y ↦ m.column (subst (λ (x : OwnedQuant). is_S x.kind ≡ true) (sym y) t) z k (e ∙ ap (λ (x : OwnedQuant). x.over) (sym y))
      ])
      (λ z x j t k e. elim (in-put n r o.quants x j) [
        | inr y ↦ counted-seen bs g.root p.1 p.2 o z x i y t k e
        | inl y ↦ m.counted (subst (λ (x : OwnedQuant). is_F_or_S x.kind ≡ true) (sym y) t) z k (e ∙ ap (λ (x : OwnedQuant). x.over) (sym y))
      ]))
    where
      i : In o bs
      i = m.puts.within

      not-new : (q : ℕ) → r.id ≡ q → list_any (owns q) bs ≡ true → ⊥
      not-new q e t = clash (list_any (owns q) bs) t (subst (λ z. list_any (owns z) bs ≡ false) e m.puts.new)

  pub drop-quant-formed : (o : Node) (r : OwnedQuant) → MayDropQuant g o r → fault (drop_quant r.id g) ≡ None
  drop-quant-formed o r m =
      by-owner r.id o (without_quant r.id) i (owned o r m.owned)
      (quants-formed g u f o i (without_quant r.id) (λ y. refl) refl (less-sound bs g.root w o r.id m.loses (λ s j e q. subst (λ (x : OwnedQuant). loose bs x.over q ≡ false) (sym (one-quant o i s r j m.owned e)) (m.closed q))) (less-scoped bs g.root w o r.id m.loses)
      (λ q t. less-any (is_quant q) (not-owned o i q t))
      (λ q s j t. elim (cases_Bool (s.id == r.id)) [
        | inr e ↦ (s, (less-in (is_quant r.id) o.quants s j e, t))
        | inl e ↦ absurd (clash (loose bs r.over q) (subst (λ (x : OwnedQuant). loose bs x.over q ≡ true) (one-quant o i s r j m.owned (eqb-true s.id r.id e)) t) (m.closed q))
      ])
      (λ x j. inl (stands bs g.root p.1 p.2 o x i (in-less (is_quant r.id) o.quants x j)))
      (inl m.select) shape
      (λ z x j t k e. scalar-column bs g.root p.1 p.2 o z x i (in-less (is_quant r.id) o.quants x j) t k e)
      (λ z x j t k e. counted-seen bs g.root p.1 p.2 o z x i (in-less (is_quant r.id) o.quants x j) t k e))
    where
      i : In o bs
      i = m.loses.within

      less-any : (a : OwnedQuant → Bool) → list_any a o.quants ≡ false → list_any a (without (is_quant r.id) o.quants) ≡ false
      less-any a e = elim (cases_Bool (list_any a (without (is_quant r.id) o.quants))) [
        | inr n ↦ n
        | inl t ↦ absurd (let x = any-in a (without (is_quant r.id) o.quants) t in clash (list_any a o.quants) (any-from a x.0 o.quants (in-less (is_quant r.id) o.quants x.0 x.1.0) x.1.1) e)
      ]

      less-all : (a : OwnedQuant → Bool) → list_all a o.quants ≡ true → list_all a (without (is_quant r.id) o.quants) ≡ true
      less-all a e = all-from a (without (is_quant r.id) o.quants) (λ x j. all-in a x o.quants e (in-less (is_quant r.id) o.quants x j))

      role-less : (k : Role) → is_fed k ≡ false → role_fits g.root bs o k ≡ true → role_fits g.root bs ((without_quant r.id) o) k ≡ true
      role-less Plain n e = refl
      role-less Magic n e = let a = and_parts (is_enforce o.parts.distinct) (shapes.all_F o.quants) e in and_from (is_enforce o.parts.distinct) (shapes.all_F ((without_quant r.id) o).quants) a.0 (less-all (λ r. is_F r.kind) a.1)
      role-less Fed n e = absurd (let z : ⊥ = cc in z)

      among-less : (a : QuantKind → Bool) (q : ℕ) → (q == r.id) ≡ false → is_among a q o.quants ≡ true → is_among a q ((without_quant r.id) o).quants ≡ true
      among-less a q n t =
          let x = any-in (λ (r : OwnedQuant). is_quant q r && a r.kind) o.quants t in
          let y = and_parts (is_quant q x.0) (a x.0.kind) x.1.1 in
          any-from (λ (r : OwnedQuant). is_quant q r && a r.kind) x.0 ((without_quant r.id) o).quants (less-in (is_quant r.id) o.quants x.0 x.1.0 (subst (λ z. (z == r.id) ≡ false) (sym (eqb-true x.0.id q y.0)) n)) x.1.1

      node-less : (x : QuantNode) → is_of r.id x ≡ false → node_fits o.quants x ≡ true → node_fits ((without_quant r.id) o).quants x ≡ true
      node-less (node.Scalar q) n t = among-less is_S q n t
      node-less (node.Some q) n t = among-less is_E q n t
      node-less (node.Every q) n t = among-less is_A q n t

      shape : shape_fits g.root bs ((without_quant r.id) o) ≡ true
      shape =
          let a = shape-parts g.root bs o (p.2.shapes o i) in
          let k = and_parts (is_unfolded o) (role_fits g.root bs o o.parts.role) (subst (λ k. kind_fits g.root bs o k ≡ true) m.select a.kind) in
          shape-from g.root bs ((without_quant r.id) o) (record {
            kind = subst (λ k. kind_fits g.root bs ((without_quant r.id) o) k ≡ true) (sym m.select) (and_from (is_unfolded o) (role_fits g.root bs ((without_quant r.id) o) o.parts.role) k.0 (role-less o.parts.role m.not_fed k.1));
            nodes = all-from (node_fits ((without_quant r.id) o).quants) (nodes_of o) (λ x j. node-less x (elim (cases_Bool (is_of r.id x)) [
              | inr n ↦ n
              | inl t ↦ absurd (clash (list_any (is_of r.id) (nodes_of o)) (any-from (is_of r.id) x (nodes_of o) j t) (nodes-listed r.id o ∙ m.loses.no_node))
            ]) (all-in (node_fits o.quants) x (nodes_of o) a.nodes j));
            placed = less-all (λ r. is_F r.kind || not (looks_up r.id o)) a.placed;
            scalar = a.scalar;
          })
