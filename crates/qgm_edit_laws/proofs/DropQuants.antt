-- Quantifiers that nothing names go.
use Rattle.std.proofs.Common.{ℕ, ◌==◌, ◌≡◌, ◌&&◌, ◌≤◌, not, cond, Bool, true, false, List, ◌∷◌, ◌++◌, map, filter, Option, Some, None, refl, sym, ap, ap₂, subst, ◌∙◌, eqb-true, ◌⊎◌, inl, inr, arith, [], ◌||◌}
use Rattle.std.specs.List.{list_all, list_any}
use Rattle.std.proofs.lemmas.Bool.{and_from, and_parts, cases_Bool, or_cases, or_left, or_right}
use mathlib.Core.Path.{fun_ext}
use Rattle.row_bag.specs.Bags.{bind, keep, unit}
use Rattle.row_bag.specs.declared.tables.Table.{Table}
use Rattle.sql_value.specs.declared.cell.Cell.{Cell}
use Rattle.sql_value.specs.declared.truth.Truth.{Truth}
use Rattle.qgm_core.specs.Boxes.{QueryGraph, ids_in, ids_of, is_quant, numbers, overs_of, owns}
use Rattle.qgm_core.specs.Free.{reached}
use Rattle.qgm_core.specs.Kinds.{is_A, is_E, is_F, is_S, is_enforce, is_fed, is_magic, is_permit}
use Rattle.list_laws.specs.Lists.{EachOnce, In, first, holds, times}
use Rattle.qgm_core.specs.declared.kinds.BoxKind.{BoxKind}
use Rattle.qgm_core.specs.declared.kinds.BoxKind.TheVariants.{Base, Group, OuterJoin, Select, SetOp}
use Rattle.qgm_core.specs.declared.kinds.QuantKind.{QuantKind}
use Rattle.qgm_core.specs.declared.kinds.Role.{Role}
use Rattle.qgm_core.specs.declared.kinds.Role.TheVariants.{Fed, Magic, Plain}
use Rattle.qgm_core.specs.declared.node.Node.{Node}
use Rattle.qgm_core.specs.declared.owned.OwnedQuant.{OwnedQuant}
use Rattle.qgm_wellformed.specs.Columns.{columns_fit}
use Rattle.qgm_wellformed.specs.Shapes.{is_among, is_unfolded, kind_fits, looks_up, node_fits, nodes_of, role_fits, shape_fits}
use Rattle.qgm_wellformed.specs.Shapes as shapes
use Rattle.qgm_wellformed.specs.Types.{arms_agree, cond_fits, is_known, lookup_of, term_type, types_agree, types_by, types_of}
use Rattle.qgm_wellformed.specs.WellFormed.{fault}
use Rattle.qgm_meaning.specs.Meaning.{Family, bag_in, given_by, once_if, over_each, quant_rows, rows_by, rows_found, rows_of}
use Rattle.qgm_meaning.specs.Scope.{loose, read_by}
use Rattle.qgm_meaning.specs.Searches.{names, names_cond}
use Rattle.qgm_meaning.specs.Values.{Bag, Environment, bound}
use Rattle.qgm_meaning.proofs.Nodes.{all_true-nodes, head-nodes}
use Rattle.qgm_terms.specs.declared.named.QuantNode.{QuantNode}
use Rattle.qgm_terms.specs.declared.named.QuantNode.TheVariants as node
use Rattle.qgm_edit_laws.specs.Checked.{own_seen}
use Rattle.qgm_edit_laws.specs.Graph.{BareBy, Sound, binds_row, nodes_in}
use Rattle.qgm_edit_laws.specs.FedOpen.{FedOpen}
use Rattle.qgm_edit_laws.specs.Reforms.{Reforms}
use Rattle.qgm_edit_laws.specs.Scoped.{NearlySound, Scoped, shows_by}
use Rattle.qgm_edit_laws.specs.Shaped.{Shaped, Typed}
use Rattle.qgm_edit_laws.proofs.BoxForms.{alone-by, counted-seen, scalar-column, stands}
use Rattle.qgm_edit_laws.proofs.Changes.{same-bags}
use Rattle.qgm_edit_laws.proofs.Compact.{in-kept, nearly-bag, nearly-compact, reached_boxes}
use Rattle.qgm_edit_laws.proofs.Formed.{sound-checked}
use Rattle.qgm_edit_laws.proofs.FreeLoose.{open-looks}
use Rattle.qgm_edit_laws.proofs.OneBox.{at, ranked}
use Rattle.qgm_edit_laws.proofs.PartForms.{at-all}
use Rattle.qgm_edit_laws.proofs.Quants.{nearly-at, unlooked}
use Rattle.qgm_edit_laws.proofs.Ranks.{same-box}
use Rattle.qgm_edit_laws.proofs.Read.{is_of, nodes-listed}
use Rattle.qgm_edit_laws.proofs.Reformed.{shaped-after, typed-after}
use Rattle.qgm_edit_laws.proofs.Scoped.{bounded, scoped-of}
use Rattle.qgm_edit_laws.proofs.ShapeParts.{shape-from, shape-parts}
use Rattle.qgm_edit_laws.proofs.WellFormedKept.{numbers-once}
use Rattle.qgm_edit_laws.specs.DropQuants.{MayLose, with_those, without_those}
use Rattle.list_laws.proofs.Counting.{times-append, times-in}
use Rattle.list_laws.proofs.Membership.{all-from, all-in, any-from, any-in, any-none, any-not, eq-itself, in-map}
use Rattle.list_laws.proofs.Booleans.{clash}

-- ---- those that pass

module _ (p : ℕ → Bool) where
  abbrev pub those : List OwnedQuant → List OwnedQuant
  those rs = filter (λ r. p r.id) rs

  pub those-in : (rs : List OwnedQuant) (r : OwnedQuant) → In r (those rs) → In r rs × (p r.id ≡ true)
  those-in [] r i = elim i [ ]
  those-in (x ∷ rs) r i = elim (cases_Bool (p x.id)) [
    | inl u ↦ elim (subst (λ (b : Bool). In r (cond b (x ∷ those rs) (those rs))) u i) [ inl e ↦ (inl e, subst (λ (z : OwnedQuant). p z.id ≡ true) e u) | inr j ↦ (let y = those-in rs r j in (inr y.0, y.1)) ]
    | inr u ↦ (let y = those-in rs r (subst (λ (b : Bool). In r (cond b (x ∷ those rs) (those rs))) u i) in (inr y.0, y.1))
  ]

  pub in-those : (rs : List OwnedQuant) (r : OwnedQuant) → In r rs → p r.id ≡ true → In r (those rs)
  in-those [] r i t = elim i [ ]
  in-those (x ∷ rs) r i t = elim (cases_Bool (p x.id)) [
    | inl u ↦ subst (λ (b : Bool). In r (cond b (x ∷ those rs) (those rs))) (sym u) (elim i [ inl e ↦ inl e | inr j ↦ inr (in-those rs r j t) ])
    | inr u ↦ subst (λ (b : Bool). In r (cond b (x ∷ those rs) (those rs))) (sym u) (elim i [ inl e ↦ absurd (clash (p x.id) (subst (λ (z : OwnedQuant). p z.id ≡ true) (sym e) t) u) | inr j ↦ in-those rs r j t ])
  ]

  times-those : (f : OwnedQuant → ℕ) (q : ℕ) (rs : List OwnedQuant) → times q (map f (those rs)) ≤ times q (map f rs)
  times-those f q [] = omega arith
  times-those f q (r ∷ rs) = let h = times-those f q rs in elim (p r.id) as (λ t. times q (map f (cond t (r ∷ those rs) (those rs))) ≤ times q (map f (r ∷ rs))) [ true ↦ (omega arith) | false ↦ (omega arith) ]

  any-those : (a : OwnedQuant → Bool) (rs : List OwnedQuant) → list_any a (those rs) ≡ true → list_any a rs ≡ true
  any-those a rs t = let x = any-in a (those rs) t in any-from a x.0 rs (those-in rs x.0 x.1.0).0 x.1.1

  none-those : (a : OwnedQuant → Bool) (rs : List OwnedQuant) → list_any a rs ≡ false → list_any a (those rs) ≡ false
  none-those a rs n = any-not a (those rs) (λ x j. any-none a x rs n (those-in rs x j).0)

  more-those : (a : OwnedQuant → Bool) (rs : List OwnedQuant) → ((r : OwnedQuant) → a r ≡ true → p r.id ≡ true) → list_any a rs ≡ true → list_any a (those rs) ≡ true
  more-those a rs h t = let x = any-in a rs t in any-from a x.0 (those rs) (in-those rs x.0 x.1.0 (h x.0 x.1.1)) x.1.1

  all-those : (a : OwnedQuant → Bool) (rs : List OwnedQuant) → list_all a rs ≡ true → list_all a (those rs) ≡ true
  all-those a rs h = all-from a (those rs) (λ x j. all-in a x rs h (those-in rs x j).0)

  -- a split of those is a split of all, before which as many of those are bound
  split-those : (rs done : List OwnedQuant) (x : OwnedQuant) (rest : List OwnedQuant) → those rs ≡ done ++ x ∷ rest
      → (before : List OwnedQuant) × ((behind : List OwnedQuant) × ((rs ≡ before ++ x ∷ behind) × ((q : ℕ) → p q ≡ true → binds_row q before ≡ true → binds_row q done ≡ true)))
  split-those [] [] x rest e = absurd (let z : ⊥ = cc in z)
  split-those [] (d ∷ done) x rest e = absurd (let z : ⊥ = cc in z)
  split-those (s ∷ rs) done x rest e = elim (cases_Bool (p s.id)) [
    | inr f ↦ (
        let y = split-those rs done x rest (sym (ap (λ (b : Bool). cond b (s ∷ those rs) (those rs)) f) ∙ e) in (
          s ∷ y.0,
          (
            y.1.0,
            (
              ap (λ z. s ∷ z) y.1.1.0,
              λ q t b. elim (or_cases (is_F s.kind && is_quant q s) (binds_row q y.0) b) [
                | inl a ↦ absurd (let k = and_parts (is_F s.kind) (s.id == q) a in clash (p q) t (subst (λ z. p z ≡ false) (eqb-true s.id q k.1) f))
                | inr a ↦ y.1.1.1 q t a
              ],
            ),
          ),
        ))
    | inl t ↦ here (λ done k. split-those rs done x rest k) done (sym (ap (λ (b : Bool). cond b (s ∷ those rs) (those rs)) t) ∙ e)
  ]
    where
      here : ((done : List OwnedQuant) → those rs ≡ done ++ x ∷ rest → (before : List OwnedQuant) × ((behind : List OwnedQuant) × ((rs ≡ before ++ x ∷ behind) × ((q : ℕ) → p q ≡ true → binds_row q before ≡ true → binds_row q done ≡ true)))) → (done : List OwnedQuant) → s ∷ filter (λ r. p r.id) rs ≡ done ++ x ∷ rest → (before : List OwnedQuant) × ((behind : List OwnedQuant) × ((s ∷ rs ≡ before ++ x ∷ behind) × ((q : ℕ) → p q ≡ true → binds_row q before ≡ true → binds_row q done ≡ true)))
      here split [] e = let h : s ≡ x = cc in ([], (rs, (ap (λ z. z ∷ rs) h, λ q t b. b)))
      here split (d ∷ done) e =
          let h : s ≡ d = cc in let k : filter (λ r. p r.id) rs ≡ done ++ x ∷ rest = cc in
          let y = split done k in (
            s ∷ y.0,
            (
              y.1.0,
              (
                ap (λ z. s ∷ z) y.1.1.0,
                λ q t b. elim (or_cases (is_F s.kind && is_quant q s) (binds_row q y.0) b) [
                  | inl a ↦ or_left (is_F d.kind && is_quant q d) (binds_row q done) (subst (λ (z : OwnedQuant). (is_F z.kind && is_quant q z) ≡ true) h a)
                  | inr a ↦ or_right (is_F d.kind && is_quant q d) (binds_row q done) (y.1.1.1 q t a)
                ],
              ),
            ),
          )

-- ---- sound

module _ (bs : List Node) (root : ℕ) (w : Sound bs root) (o : Node) (p : ℕ → Bool) (m : MayLose bs o p) where
  abbrev fl : Node → Node
  fl = with_those p

  -- what is looked up or named passes, if o owns it
  looked-passes : (b q : ℕ) → owns q o ≡ true → loose bs b q ≡ true → p q ≡ true
  looked-passes b q own t = elim (cases_Bool (p q)) [
    | inl y ↦ y
    | inr f ↦ absurd (
        let x = any-in (is_quant q) o.quants own in
        let e : x.0.id ≡ q = eqb-true x.0.id q x.1.1 in
        clash (loose bs b q) t (unlooked bs q w.once (λ n i. subst (λ z. read_by n z ≡ false) e (m.unread x.0 x.1.0 (subst (λ z. p z ≡ false) (sym e) f) n i)) b))
  ]

  bound-those : (q : ℕ) → (owns q o ≡ true → p q ≡ true) → binds_row q o.quants ≡ true → binds_row q (those p o.quants) ≡ true
  bound-those q h t =
      let x = any-in (λ (r : OwnedQuant). is_F r.kind && is_quant q r) o.quants t in
      let y = and_parts (is_F x.0.kind) (x.0.id == q) x.1.1 in
      let e : x.0.id ≡ q = eqb-true x.0.id q y.1 in
      any-from (λ (r : OwnedQuant). is_F r.kind && is_quant q r) x.0 (those p o.quants) (in-those p o.quants x.0 x.1.0 (subst (λ z. p z ≡ true) (sym e) (h (any-from (is_quant q) x.0 o.quants x.1.0 y.1)))) x.1.1

  shown-those : (k : BoxKind) (q : ℕ) (done before : List OwnedQuant) (x : OwnedQuant) → (owns q o ≡ true → p q ≡ true) → (binds_row q before ≡ true → binds_row q done ≡ true)
      → (shows_by k o.quants before x q || loose bs o.id q) ≡ true → (shows_by k (those p o.quants) done x q || loose bs o.id q) ≡ true
  shown-those (Base t) q done before x n h u = u
  shown-those Select q done before x n h u = elim (is_F x.kind) as (λ f. (cond f (binds_row q before) (binds_row q o.quants) || loose bs o.id q) ≡ true → (cond f (binds_row q done) (binds_row q (those p o.quants)) || loose bs o.id q) ≡ true) [
    | true ↦ λ u. elim (or_cases (binds_row q before) (loose bs o.id q) u) [ inl a ↦ or_left (binds_row q done) (loose bs o.id q) (h a) | inr a ↦ or_right (binds_row q done) (loose bs o.id q) a ]
    | false ↦ λ u. elim (or_cases (binds_row q o.quants) (loose bs o.id q) u) [ inl a ↦ or_left (binds_row q (those p o.quants)) (loose bs o.id q) (bound-those q n a) | inr a ↦ or_right (binds_row q (those p o.quants)) (loose bs o.id q) a ]
  ] u
  shown-those (Group v) q done before x n h u = u
  shown-those (SetOp form v) q done before x n h u = u
  shown-those OuterJoin q done before x n h u = u

  in-split : (before : List OwnedQuant) (q : ℕ) → binds_row q before ≡ true → ((s : OwnedQuant) → In s before → In s o.quants) → owns q o ≡ true
  in-split before q t sub = let x = any-in (λ (r : OwnedQuant). is_F r.kind && is_quant q r) before t in any-from (is_quant q) x.0 o.quants (sub x.0 x.1.0) (and_parts (is_F x.0.kind) (is_quant q x.0) x.1.1).1

  in-before : (xs : List OwnedQuant) (y : OwnedQuant) (ys : List OwnedQuant) (s : OwnedQuant) → In s xs → In s (xs ++ y ∷ ys)
  in-before [] y ys s i = elim i [ ]
  in-before (x ∷ xs) y ys s i = elim i [ inl e ↦ inl e | inr j ↦ inr (in-before xs y ys s j) ]

  read-passes : (q : ℕ) → read_by o q ≡ true → owns q o ≡ true → p q ≡ true
  read-passes q t own = elim (cases_Bool (p q)) [
    | inl y ↦ y
    | inr f ↦ absurd (
        let x = any-in (is_quant q) o.quants own in
        let e : x.0.id ≡ q = eqb-true x.0.id q x.1.1 in
        clash (read_by o q) t (subst (λ z. read_by o z ≡ false) e (m.unread x.0 x.1.0 (subst (λ z. p z ≡ false) (sym e) f) o m.within)))
  ]

  pub those-scoped : Scoped (loose bs) (fl o)
  those-scoped = record {
    under = λ done x rest e q t. (
        let y = split-those p o.quants done x rest e in
        shown-those o.parts.kind q done y.0 x (λ own. looked-passes x.over q own t) (λ h. y.1.1.1 q (looked-passes x.over q (in-split y.0 q h (λ s i. subst (λ z. In s z) (sym y.1.1.0) (in-before y.0 x y.1.0 s i))) t) h)
        ((scoped-of bs root w o m.within).under y.0 x y.1.0 y.1.1.0 q t));
    own = λ q t. elim (or_cases (own_seen o.parts.kind o q) (loose bs o.id q) ((scoped-of bs root w o m.within).own q t)) [
      | inl a ↦ or_left (own_seen o.parts.kind (fl o) q) (loose bs o.id q) (subst (λ k. own_seen k (fl o) q ≡ true) (sym m.select) (bound-those q (read-passes q t) (subst (λ k. own_seen k o q ≡ true) m.select a)))
      | inr a ↦ or_right (own_seen o.parts.kind (fl o) q) (loose bs o.id q) a
    ];
  }

  node-passes : (q : ℕ) → nodes_in q o ≡ true → p q ≡ true
  node-passes q t = elim (cases_Bool (p q)) [
    | inl y ↦ y
    | inr n ↦ absurd (
        let x = any-in (is_quant q) o.quants (w.own_nodes o m.within q t).0 in
        let e : x.0.id ≡ q = eqb-true x.0.id q x.1.1 in
        clash (nodes_in q o) t (subst (λ z. nodes_in z o ≡ false) e (m.no_node x.0 x.1.0 (subst (λ z. p z ≡ false) (sym e) n))))
  ]

  once-those : (q : ℕ) → times q (ids_in (map (at o.id fl) bs)) ≤ 1
  once-those q = let a = fewer bs in let d = w.once q in omega arith
    where
      fewer : (ns : List Node) → times q (ids_in (map (at o.id (with_those p)) ns)) ≤ times q (ids_in ns)
      fewer [] = omega arith
      fewer (n ∷ ns) =
          let h = fewer ns in
          let a = times-append q (ids_of (at o.id (with_those p) n)) (ids_in (map (at o.id (with_those p)) ns)) in
          let b = times-append q (ids_of n) (ids_in ns) in
          let c : times q (ids_of (at o.id (with_those p) n)) ≤ times q (ids_of n) = elim (n.id == o.id) as (λ t. times q (ids_of (cond t (with_those p n) n)) ≤ times q (ids_of n)) [ true ↦ times-those p (λ r. r.id) q n.quants | false ↦ (omega arith) ] in
          omega arith

  pub those-nearly : NearlySound (map (at o.id (with_those p)) bs) root
  those-nearly = nearly-at bs root w o m.within fl (λ y. refl) refl
      (λ s j. ranked bs w.ordered o s m.within (those-in p o.quants s j).0) once-those
      (let a = times-those p (λ r. r.over) root o.quants in let c = times-in overs_of root o bs m.within in let d = w.top in omega arith)
      (λ q k n j t s l e z iz v. w.fits n j q k t o s z m.within (those-in p o.quants s l).0 e iz v)
      (λ q t. (let h = w.own_nodes o m.within q t in (more-those p (is_quant q) o.quants (λ r u. subst (λ z. p z ≡ true) (sym (eqb-true r.id q u)) (node-passes q t)) h.0, none-those p (λ r. is_F r.kind && is_quant q r) o.quants h.1)))
      (subst (λ k. BareBy k (fl o)) (sym m.select) tt)
      (λ s z l iz v. w.arms o z s m.within (those-in p o.quants s l).0 iz v)
      those-scoped (λ q t. w.settled o m.within q (any-those p (is_quant q) o.quants t)) (λ b q t. times-those p (λ r. r.over) b o.quants)

  pub those-sound : Sound (reached_boxes root (map (at o.id (with_those p)) bs)) root
  those-sound = nearly-compact (map (at o.id (with_those p)) bs) root those-nearly

-- ---- the check

module _ (g : QueryGraph) (u : EachOnce (numbers g.boxes)) (f : fault g ≡ None) (o : Node) (p : ℕ → Bool) (m : MayLose g.boxes o p) (opened : FedOpen (without_those o p g).boxes) where
  abbrev bs : List Node
  bs = g.boxes

  ok : Sound bs g.root × Typed bs × Shaped bs g.root
  ok = (sound-checked g u).0 f

  w : Sound bs g.root
  w = ok.0

  abbrev h : Node → Node
  h = at o.id (with_those p)

  abbrev mid : List Node
  mid = map (at o.id (with_those p)) bs

  abbrev hs : List Node
  hs = (without_those o p g).boxes

  v : Sound hs g.root
  v = those-sound bs g.root w o p m

  cases : (y : Node) → In y bs → ((y ≡ o) × (h y ≡ with_those p o)) ⊎ (h y ≡ y)
  cases y i = elim (cases_Bool (y.id == o.id)) [
    | inl t ↦ (let e : y ≡ o = same-box bs y o w.ordered i m.within (eqb-true y.id o.id t) in inl (e, ap h e ∙ ap (λ (z : Bool). cond z (with_those p o) o) (eq-itself o.id)))
    | inr t ↦ inr (ap (λ (z : Bool). cond z (with_those p y) y) t)
  ]

  from : (n : Node) → In n hs → (y : Node) × (In y bs × (h y ≡ n))
  from n i = in-map h n bs (in-kept (λ b. holds b (reached (g.root ∷ []) mid)) n mid i).0

  was-in : (y : Node) → In y bs → (r : OwnedQuant) → In r (h y).quants → In r y.quants
  was-in y i r j = elim (cases y i) [
    | inl e ↦ subst (λ (z : Node). In r z.quants) (sym e.0) (those-in p o.quants r (subst (λ (z : Node). In r z.quants) e.1 j)).0
    | inr e ↦ subst (λ (z : Node). In r z.quants) e j
  ]

  role-those : (k : Role) → is_fed k ≡ false → role_fits g.root bs o k ≡ true → role_fits g.root bs (with_those p o) k ≡ true
  role-those Plain n e = refl
  role-those Magic n e = let a = and_parts (is_enforce o.parts.distinct) (shapes.all_F o.quants) e in and_from (is_enforce o.parts.distinct) (shapes.all_F (those p o.quants)) a.0 (all-those p (λ r. is_F r.kind) o.quants a.1)
  role-those Fed n e = absurd (let z : ⊥ = cc in z)

  among-those : (a : QuantKind → Bool) (q : ℕ) → p q ≡ true → is_among a q o.quants ≡ true → is_among a q (those p o.quants) ≡ true
  among-those a q t x = more-those p (λ (r : OwnedQuant). is_quant q r && a r.kind) o.quants (λ r y. subst (λ z. p z ≡ true) (sym (eqb-true r.id q (and_parts (is_quant q r) (a r.kind) y).0)) t) x

  node-those : (x : QuantNode) → ((q : ℕ) → is_of q x ≡ true → p q ≡ true) → node_fits o.quants x ≡ true → node_fits (those p o.quants) x ≡ true
  node-those (node.Scalar q) n t = among-those is_S q (n q (eq-itself q)) t
  node-those (node.Some q) n t = among-those is_E q (n q (eq-itself q)) t
  node-those (node.Every q) n t = among-those is_A q (n q (eq-itself q)) t

  shape-o : shape_fits g.root bs (with_those p o) ≡ true
  shape-o =
      let a = shape-parts g.root bs o (ok.2.shapes o m.within) in
      let k = and_parts (is_unfolded o) (role_fits g.root bs o o.parts.role) (subst (λ k. kind_fits g.root bs o k ≡ true) m.select a.kind) in
      shape-from g.root bs (with_those p o) (record {
        kind = subst (λ k. kind_fits g.root bs (with_those p o) k ≡ true) (sym m.select) (and_from (is_unfolded o) (role_fits g.root bs (with_those p o) o.parts.role) k.0 (role-those o.parts.role m.not_fed k.1));
        nodes = all-from (node_fits (those p o.quants)) (nodes_of o) (λ x j. node-those x (λ q t. node-passes bs g.root w o p m q (sym (nodes-listed q o) ∙ any-from (is_of q) x (nodes_of o) j t)) (all-in (node_fits o.quants) x (nodes_of o) a.nodes j));
        placed = all-those p (λ r. is_F r.kind || not (looks_up r.id o)) o.quants a.placed;
        scalar = a.scalar;
      })

  types-o : types_agree bs (with_those p o) ≡ true
  types-o =
      let a = and_parts (list_all (λ x. is_known (term_type (lookup_of bs) x)) o.parts.head) (list_all (cond_fits (lookup_of bs)) o.parts.conds.items && arms_agree (types_of bs) o.parts.kind o.quants) (ok.1 o m.within) in
      let d = and_parts (list_all (cond_fits (lookup_of bs)) o.parts.conds.items) (arms_agree (types_of bs) o.parts.kind o.quants) a.1 in
      and_from (list_all (λ x. is_known (term_type (lookup_of bs) x)) o.parts.head) (list_all (cond_fits (lookup_of bs)) o.parts.conds.items && arms_agree (types_of bs) o.parts.kind (those p o.quants)) a.0
      (and_from (list_all (cond_fits (lookup_of bs)) o.parts.conds.items) (arms_agree (types_of bs) o.parts.kind (those p o.quants)) d.0 (ap (λ k. arms_agree (types_of bs) k (those p o.quants)) m.select))

  by : (P : Node → Type 0) → ((y : Node) → In y bs → P y) → P (with_those p o) → (y : Node) → In y bs → P (h y)
  by P old new y i = elim (cases y i) [ inl e ↦ subst P (sym e.1) new | inr e ↦ subst P (sym e) (old y i) ]

  same : {X : Type 0} (P : Node → X) → ((y : Node) → P (with_those p y) ≡ P y) → (y : Node) → P (h y) ≡ P y
  same P e y = at-all o.id (with_those p) P e y

  less : (b q : ℕ) → loose hs b q ≡ true → loose bs b q ≡ true
  less b q t = bounded (loose bs) hs v.once (λ n j. (
      let y = from n j in
      subst (λ z. Scoped (loose bs) z) y.1.1 (by (λ z. Scoped (loose bs) z) (λ y i. scoped-of bs g.root w y i) (those-scoped bs g.root w o p m) y.0 y.1.0))) b q t

  reforms : Reforms bs hs g.root h
  reforms = record {
    from = from;
    id = same (λ z. z.id) (λ y. refl);
    stay = λ y i. ap₂ (types_by (lookup_of bs)) (same (λ z. z.parts.kind) (λ y. refl) y) (same (λ z. z.parts.head) (λ y. refl) y);
    magic = λ y i. same (λ z. is_magic z.parts.role) (λ y. refl) y;
    stood = λ y z r i j k t. stands bs g.root ok.1 ok.2 y r i (was-in y i r j);
    types = by (λ z. types_agree bs z ≡ true) ok.1 types-o;
    columns = by (λ z. columns_fit bs z ≡ true) ok.2.columns (ok.2.columns o m.within);
    shapes = by (λ z. shape_fits g.root bs z ≡ true) ok.2.shapes shape-o;
    scalars = λ y z r i j k l e. scalar-column bs g.root ok.1 ok.2 y z r i (was-in y i r j) k l e;
    unseen = λ y z r i j k l e. same (λ z. is_permit z.parts.distinct) (λ y. refl) z ∙ counted-seen bs g.root ok.1 ok.2 y z r i (was-in y i r j) k l e;
    root_seen = λ y i e. same (λ z. is_permit z.parts.distinct) (λ y. refl) y ∙ (elim (cases_Bool (is_permit y.parts.distinct)) [ inr n ↦ n | inl t ↦ absurd ((ok.2.unseen y i t).0 e) ]);
    fed = alone-by bs hs g.root w (λ n i. (let y = from n i in subst (λ z. shape_fits g.root bs z ≡ true) y.1.1 (by (λ z. shape_fits g.root bs z ≡ true) ok.2.shapes shape-o y.0 y.1.0))) less
        (λ n a d i k e t. open-looks hs g.root v d.over (opened n i k a d e));
  }

  pub those-formed : fault (without_those o p g) ≡ None
  those-formed = (sound-checked (without_those o p g) (numbers-once hs v.ordered)).1 (v, typed-after bs hs g.root h w v reforms, shaped-after bs hs g.root h w v reforms)

-- ---- the rows, where no F quantifier goes

module _ (bs : List Node) (root : ℕ) (w : Sound bs root) (o : Node) (p : ℕ → Bool) (m : MayLose bs o p) (rowless : (r : OwnedQuant) → In r o.quants → p r.id ≡ false → is_F r.kind ≡ false) (tables : List Table) where
  abbrev fam : Family
  fam = bag_in tables bs

  abbrev s : Family
  s = quant_rows o fam

  abbrev s' : Family
  s' = quant_rows (with_those p o) fam

  first-those : (q : ℕ) → p q ≡ true → (rs : List OwnedQuant) → first (is_quant q) (those p rs) ≡ first (is_quant q) rs
  first-those q t [] = refl
  first-those q t (r ∷ rs) = elim (cases_Bool (r.id == q)) [
    | inl e ↦ ap (λ (b : Bool). first (is_quant q) (cond b (r ∷ those p rs) (those p rs))) (subst (λ z. p z ≡ true) (sym (eqb-true r.id q e)) t) ∙ ap (λ (b : Bool). cond b (Some r) (first (is_quant q) (those p rs))) e ∙ sym (ap (λ (b : Bool). cond b (Some r) (first (is_quant q) rs)) e)
    | inr n ↦ elim (p r.id) as (λ b. first (is_quant q) (cond b (r ∷ those p rs) (those p rs)) ≡ first (is_quant q) (r ∷ rs)) [
      | true ↦ ap₂ (λ (b : Bool) (z : Option OwnedQuant). cond b (Some r) z) refl (first-those q t rs)
      | false ↦ first-those q t rs ∙ sym (ap (λ (b : Bool). cond b (Some r) (first (is_quant q) rs)) n)
    ]
  ]

  s-same : (q : ℕ) → p q ≡ true → s' q ≡ s q
  s-same q t = fun_ext (λ e. ap (λ z. rows_found z fam e) (first-those q t o.quants))

  given-those : (e : Environment) → given_by s' (with_those p o) e ≡ given_by s o e
  given-those e =
      ap₂ (λ (l : Truth) (cells : List Cell). keep l.t (unit cells))
      (all_true-nodes (λ q. s' q e) (λ q. s q e) o.parts.conds.items e (λ q t. ap (λ (z : Environment → Bag). z e) (s-same q (node-passes bs root w o p m q (or_right (list_any (names q) o.parts.head) (list_any (names_cond q) o.parts.conds.items) t)))))
      (head-nodes (λ q. s' q e) (λ q. s q e) o.parts.head e (λ q t. ap (λ (z : Environment → Bag). z e) (s-same q (node-passes bs root w o p m q (or_left (list_any (names q) o.parts.head) (list_any (names_cond q) o.parts.conds.items) t)))))

  each-those : (rs : List OwnedQuant) → ((r : OwnedQuant) → In r rs → p r.id ≡ false → is_F r.kind ≡ false) → (e : Environment) → over_each (those p rs) s' (given_by s' (with_those p o)) e ≡ over_each rs s (given_by s o) e
  each-those [] h e = given-those e
  each-those (r ∷ rs) h e = elim (cases_Bool (p r.id)) [
    | inr n ↦
        ap (λ (b : Bool). over_each (cond b (r ∷ those p rs) (those p rs)) s' (given_by s' (with_those p o)) e) n
        ∙ each-those rs (λ x i. h x (inr i)) e
        ∙ sym (ap (λ (b : Bool). cond b (bind (s r.id e) (λ cells. over_each rs s (given_by s o) (bound r.id cells e))) (over_each rs s (given_by s o) e)) (h r (inl refl) n))
    | inl t ↦
        ap (λ (b : Bool). over_each (cond b (r ∷ those p rs) (those p rs)) s' (given_by s' (with_those p o)) e) t
        ∙ (elim (is_F r.kind) as (λ b. ◌≡◌ {A = Bag} (cond b (bind (s' r.id e) (λ cells. over_each (those p rs) s' (given_by s' (with_those p o)) (bound r.id cells e))) (over_each (those p rs) s' (given_by s' (with_those p o)) e)) (cond b (bind (s r.id e) (λ cells. over_each rs s (given_by s o) (bound r.id cells e))) (over_each rs s (given_by s o) e))) [
          | true ↦ ap₂ (λ (z : Bag) (k : List Cell → Bag). bind z k) (ap (λ (z : Environment → Bag). z e) (s-same r.id t)) (fun_ext (λ cells. each-those rs (λ x i. h x (inr i)) (bound r.id cells e)))
          | false ↦ each-those rs (λ x i. h x (inr i)) e
        ])
  ]

  o-rows : (e : Environment) → rows_of tables (with_those p o) fam e ≡ rows_of tables o fam e
  o-rows e =
      ap (λ z. rows_by z tables (with_those p o) s' e) m.select
      ∙ ap (once_if (is_enforce o.parts.distinct)) (each-those o.quants rowless e)
      ∙ sym (ap (λ z. rows_by z tables o s e) m.select)

  pub those-bag : bag_in tables (reached_boxes root (map (at o.id (with_those p)) bs)) root [] ≡ bag_in tables bs root []
  those-bag =
      let v = those-nearly bs root w o p m in
      nearly-bag (map (at o.id (with_those p)) bs) root v tables []
      ∙ same-bags tables bs (at o.id (with_those p)) (λ y. at-all o.id (with_those p) (λ z. z.id) (λ z. refl) y) w.ordered v.local.ordered
      (λ y i e. elim (cases_Bool (y.id == o.id)) [
        | inl t ↦ (
            let same : y ≡ o = same-box bs y o w.ordered i m.within (eqb-true y.id o.id t) in
            ap (λ (z : Node). rows_of tables (at o.id (with_those p) z) fam e) same ∙ ap (λ (b : Bool). rows_of tables (cond b (with_those p o) o) fam e) (eq-itself o.id) ∙ o-rows e ∙ ap (λ (z : Node). rows_of tables z fam e) (sym same))
        | inr t ↦ ap (λ (b : Bool). rows_of tables (cond b (with_those p y) y) fam e) t
      ]) root w.rooted []
