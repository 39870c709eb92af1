-- A select in the place of a box keeps a graph sound and well-formed, and the root's bag.
use Rattle.std.proofs.Common.{ℕ, ◌==◌, ◌≡◌, ◌&&◌, ◌||◌, ◌+◌, ◌≤◌, cond, Bool, true, false, List, [], ◌∷◌, map, Option, Some, None, refl, sym, ap, subst, ◌∙◌, eqb-true, ◌⊎◌, inl, inr, arith}
use Rattle.std.specs.List.{list_all, list_any}
use Rattle.std.proofs.lemmas.Bool.{and_from, cases_Bool, eq-eqb}
use mathlib.Core.Path.{fun_ext}
use Rattle.row_bag.specs.AsSets.{AgreeAsSets}
use Rattle.row_bag.specs.Bags.{Agree}
use Rattle.row_bag.specs.Sets.{same_cells}
use Rattle.row_bag.specs.declared.tables.Table.{Table}
use Rattle.qgm_core.specs.Boxes.{Ordered, QueryGraph, all_over, has_box, ids_in, ids_of, is_box, is_quant, numbers, overs_in, overs_of, owns, width}
use Rattle.qgm_core.specs.Edits.{on_boxes}
use Rattle.qgm_core.specs.Kinds.{is_magic, is_permit}
use Rattle.list_laws.specs.Lists.{EachOnce, In, change, first, times}
use Rattle.qgm_core.specs.declared.kinds.BoxKind.{BoxKind}
use Rattle.qgm_core.specs.declared.kinds.BoxKind.TheVariants.{Select}
use Rattle.qgm_core.specs.declared.node.Node.{Node}
use Rattle.qgm_core.specs.declared.owned.OwnedQuant.{OwnedQuant}
use Rattle.qgm_wellformed.specs.Columns.{columns_fit}
use Rattle.qgm_wellformed.specs.Shapes.{node_fits, nodes_of, shape_fits}
use Rattle.qgm_wellformed.specs.Types.{lookup_of, types_agree, types_by}
use Rattle.qgm_wellformed.specs.WellFormed.{fault}
use Rattle.qgm_meaning.specs.AsSets.{AgreeAs, AllReadSets, ReadsSets}
use Rattle.qgm_meaning.specs.Fits.{fits, has_row}
use Rattle.qgm_meaning.specs.Laws.{Stays, occurs}
use Rattle.qgm_meaning.specs.Meaning.{Family, bag_in, quant_rows, rows_found, rows_of}
use Rattle.qgm_meaning.specs.Scope.{loose, loose_of}
use Rattle.qgm_meaning.specs.Values.{Environment}
use Rattle.qgm_meaning.proofs.AsSets.{replaced-as_set}
use Rattle.qgm_meaning.proofs.Fitting.{hereditary}
use Rattle.qgm_meaning.proofs.Replacing.{replaced}
use Rattle.qgm_meaning.specs.Satisfies.{Satisfies, SatisfiesBy}
use Rattle.qgm_edit_laws.specs.Graph.{ArmsBy, BareBy, Fits, Sound, binds_row, nodes_in, reads_in}
use Rattle.qgm_edit_laws.specs.Placed.{Below, place}
use Rattle.qgm_edit_laws.specs.Reforms.{BoxForm, types_at}
use Rattle.qgm_edit_laws.specs.Shaped.{Shaped, Typed}
use Rattle.qgm_edit_laws.proofs.BoxForms.{formed-by}
use Rattle.qgm_edit_laws.proofs.Edits.{once-each}
use Rattle.qgm_edit_laws.proofs.Formed.{fits-of, nodes-own, sound-checked}
use Rattle.qgm_edit_laws.proofs.OneBox.{at, change-at, has-map, ranked}
use Rattle.qgm_edit_laws.proofs.PlacedOne.{b-after, counted, g-b, g-cases, g-id, ordered-after}
use Rattle.qgm_edit_laws.proofs.Ranks.{place-under}
use Rattle.qgm_edit_laws.proofs.Scope.{in-first, loose-held, only-loose, unfold-loose}
use Rattle.qgm_edit_laws.proofs.ShapeParts.{shape-parts}
use Rattle.qgm_edit_laws.proofs.Turns.{first-own}
use Rattle.qgm_edit_laws.specs.PutsBox.{PutsBox}
use Rattle.qgm_edit_laws.specs.Adds.{at}
use Rattle.qgm_edit_laws.proofs.WellFormedKept.{numbers-once}
use Rattle.qgm_edit_laws.proofs.CheckedParts.{sound}
use Rattle.qgm_edit_laws.proofs.Satisfied.{satisfies-by}
use Rattle.list_laws.proofs.Membership.{all-from, all-in, any-from, any-in, in-map, map-same}
use Rattle.list_laws.proofs.Counting.{times-in}
use Rattle.list_laws.proofs.Booleans.{clash}

-- ---- lists

pub first-absent : {X : Type 0} (p : X → Bool) (xs : List X) → list_any p xs ≡ false → first p xs ≡ None
first-absent p [] h = refl
first-absent {X} p (x ∷ xs) h = elim (p x) as (λ t. (t || list_any p xs) ≡ false → ◌≡◌ {A = Option X} (cond t (Some x) (first p xs)) None) [
  | true ↦ λ h. absurd (let z : ⊥ = cc in z)
  | false ↦ λ h. first-absent p xs h
] h

unheld : (ns : List Node) (b q : ℕ) → has_box ns b ≡ false → loose ns b q ≡ false
unheld ns b q h = elim (cases_Bool (loose ns b q)) [ inr k ↦ k | inl t ↦ absurd (clash (has_box ns b) (loose-held ns b q t) h) ]

module _ (bs : List Node) (root : ℕ) (w : Sound bs root) (o : Node) (f : Node → Node) (m : PutsBox bs root o f) where
  abbrev pub n : Node
  n = f o

  abbrev pub gf : Node → Node
  gf = at o.id f

  abbrev pub hs : List Node
  hs = map gf bs

  pub cases : (y : Node) → In y bs → ((y ≡ o) × (gf y ≡ n)) ⊎ (((y.id == o.id) ≡ false) × (gf y ≡ y))
  cases = g-cases bs w.ordered o m.within f m.id

  pub gid : (y : Node) → (gf y).id ≡ y.id
  gid = g-id bs w.ordered o m.within f m.id

  pub ordered-h : Ordered hs
  ordered-h = ordered-after bs w.ordered o m.within f m.id (λ r j. (let s = m.was r j in subst (Below bs o.id) s.1.1.1 (ranked bs w.ordered o s.0 m.within s.1.0)))

  once-h : (q : ℕ) → times q (ids_in hs) ≤ 1
  once-h q = let a = counted bs w.ordered o m.within f m.id ids_of q in let b = m.ids q in let c = w.once q in omega arith

  pub uses-h : (b : ℕ) → times b (overs_in hs) ≡ times b (overs_in bs)
  uses-h b = let a = counted bs w.ordered o m.within f m.id overs_of b in let c = m.overs b in omega arith

  -- ---- what is looked up

  same-n : loose_of n (loose bs) ≡ loose bs n.id
  same-n = fun_ext (λ q. m.looks q) ∙ sym (unfold-loose bs o w.ordered m.within) ∙ ap (loose bs) (sym (m.id o))

  look-held : (b : ℕ) → has_box hs b ≡ true → loose hs b ≡ loose bs b
  look-held b h = only-loose (loose bs) hs ordered-h (λ x j. (
      let y = in-map gf x bs j in
      subst (λ (z : Node). loose_of z (loose bs) ≡ loose bs z.id) y.1.1 (elim (cases y.0 y.1.0) [
        | inl e ↦ subst (λ (z : Node). loose_of z (loose bs) ≡ loose bs z.id) (sym e.1) same-n
        | inr e ↦ subst (λ (z : Node). loose_of z (loose bs) ≡ loose bs z.id) (sym e.1) (sym (unfold-loose bs y.0 w.ordered y.1.0))
      ]))) b h

  pub same-look : (b q : ℕ) → loose hs b q ≡ loose bs b q
  same-look b q = elim (cases_Bool (has_box hs b)) [
    | inl t ↦ ap (λ (l : ℕ → Bool). l q) (look-held b t)
    | inr k ↦ unheld hs b q k ∙ sym (unheld bs b q (sym (has-map gf gid bs b) ∙ k))
  ]

  -- ---- sound

  width-h : (y : Node) → In y bs → width (gf y) ≡ width y
  width-h y j = elim (cases y j) [ inl e ↦ ap width e.1 ∙ m.wide ∙ ap width (sym e.0) | inr e ↦ ap width e.1 ]

  quant-was : (y : Node) (r : OwnedQuant) → In y bs → In r (gf y).quants → (s : OwnedQuant) × (In s y.quants × ((s.id ≡ r.id) × (s.over ≡ r.over)))
  quant-was y r i j = elim (cases y i) [
    | inl e ↦ subst (λ (z : Node). (s : OwnedQuant) × (In s z.quants × ((s.id ≡ r.id) × (s.over ≡ r.over)))) (sym e.0) (m.was r (subst (λ (z : Node). In r z.quants) e.1 j))
    | inr e ↦ (r, (subst (λ (z : Node). In r z.quants) e.1 j, (refl, refl)))
  ]

  owned-was : (y : Node) → In y bs → (q : ℕ) → owns q (gf y) ≡ true → owns q y ≡ true
  owned-was y i q t =
      let x = any-in (is_quant q) (gf y).quants t in
      let s = quant-was y x.0 i x.1.0 in
      any-from (is_quant q) s.0 y.quants s.1.0 (eq-eqb s.0.id q (s.1.1.0 ∙ eqb-true x.0.id q x.1.1))

  pub in-h : In n hs
  in-h = b-after bs w.ordered o m.within f m.id

  nodes-n : list_all (node_fits n.quants) (nodes_of n) ≡ true
  nodes-n = (shape-parts root bs n m.shape).nodes

  -- what a box reads was there
  fit-was : (y : Node) → In y bs → (q k : ℕ) → reads_in q k (gf y) ≡ true → Fits bs q k
  fit-was y i q k t = elim (cases y i) [
    | inl e ↦ fits-of bs w.ordered w.once n m.columns q k (subst (λ z. reads_in q k z ≡ true) e.1 t)
    | inr e ↦ w.fits y i q k (subst (λ z. reads_in q k z ≡ true) e.1 t)
  ]

  arms-n : (k : BoxKind) → k ≡ Select → (a b : ℕ) → ArmsBy k a b
  arms-n k e a b = subst (λ k. ArmsBy k a b) (sym e) tt

  pub put-sound : Sound hs root
  put-sound = record {
    ordered = ordered-h;
    rooted = has-map gf gid bs root ∙ w.rooted;
    once = once-h;
    settled = λ x j q t. (
        let y = in-map gf x bs j in
        same-look x.id q ∙ ap (λ b. loose bs b q) (sym (ap (λ (z : Node). z.id) y.1.1) ∙ gid y.0) ∙ w.settled y.0 y.1.0 q (owned-was y.0 y.1.0 q (subst (λ z. owns q z ≡ true) (sym y.1.1) t)));
    used = λ b q t. uses-h b ∙ w.used b q (sym (same-look b q) ∙ t);
    top = uses-h root ∙ w.top;
    fits = λ x j q k t. (
        let y = in-map gf x bs j in
        let old : Fits bs q k = fit-was y.0 y.1.0 q k (subst (λ z. reads_in q k z ≡ true) (sym y.1.1) t) in
        λ a r c ia ir e ic v. (
        let ya = in-map gf a bs ia in
        let yc = in-map gf c bs ic in
        let s = quant-was ya.0 r ya.1.0 (subst (λ (z : Node). In r z.quants) (sym ya.1.1) ir) in
        let h = old ya.0 s.0 yc.0 ya.1.0 s.1.0 (s.1.1.0 ∙ e) yc.1.0 (sym (gid yc.0) ∙ ap (λ (z : Node). z.id) yc.1.1 ∙ v ∙ sym s.1.1.1) in
        (h.0, subst (λ z. k ≤ z) (sym (width-h yc.0 yc.1.0) ∙ ap width yc.1.1) h.1)));
    own_nodes = λ x j q t. (
        let y = in-map gf x bs j in
        elim (cases y.0 y.1.0) [
          | inl e ↦ (
              let same : n ≡ x = sym e.1 ∙ y.1.1 in
              subst (λ (z : Node). (owns q z ≡ true) × (binds_row q z.quants ≡ false)) same (nodes-own hs ordered-h once-h n in-h nodes-n q (subst (λ z. nodes_in q z ≡ true) (sym same) t)))
          | inr e ↦ (
              let same : y.0 ≡ x = sym e.1 ∙ y.1.1 in
              subst (λ (z : Node). (owns q z ≡ true) × (binds_row q z.quants ≡ false)) same (w.own_nodes y.0 y.1.0 q (subst (λ z. nodes_in q z ≡ true) (sym same) t)))
        ]);
    bare = λ x j. (
        let y = in-map gf x bs j in
        elim (cases y.0 y.1.0) [
          | inl e ↦ subst (λ (z : Node). BareBy z.parts.kind z) (sym e.1 ∙ y.1.1) (subst (λ k. BareBy k n) (sym m.select) tt)
          | inr e ↦ subst (λ (z : Node). BareBy z.parts.kind z) (sym e.1 ∙ y.1.1) (w.bare y.0 y.1.0)
        ]);
    arms = λ x z r j ir iz v. (
        let y = in-map gf x bs j in
        let yz = in-map gf z bs iz in
        elim (cases y.0 y.1.0) [
          | inl e ↦ arms-n x.parts.kind (ap (λ (z : Node). z.parts.kind) (sym y.1.1 ∙ e.1) ∙ m.select) (width z) (width x)
          | inr e ↦ (
              let same : y.0 ≡ x = sym e.1 ∙ y.1.1 in
              subst (λ (u : Node). ArmsBy u.parts.kind (width z) (width u)) same
              (subst (λ a. ArmsBy y.0.parts.kind a (width y.0)) (sym (width-h yz.0 yz.1.0) ∙ ap width yz.1.1)
              (w.arms y.0 yz.0 r y.1.0 (subst (λ (u : Node). In r u.quants) (sym same) ir) yz.1.0 (sym (gid yz.0) ∙ ap (λ (u : Node). u.id) yz.1.1 ∙ v))))
        ]);
  }

  -- ---- bags

  few : (y : Node) → In y bs → (q : ℕ) → times q (ids_of y) ≤ 1
  few y i q = let a = times-in ids_of q y bs i in let b = w.once q in omega arith

  -- each quantifier ranges over the box that it did
  pub same-rows : (F : Family) (q : ℕ) (env : Environment) → quant_rows n F q env ≡ quant_rows o F q env
  same-rows F q env = elim (cases_Bool (list_any (is_quant q) n.quants)) [
    | inl t ↦ (
        let x = any-in (is_quant q) n.quants t in
        let r : OwnedQuant = x.0 in
        let s = m.was r x.1.0 in
        let e : r.id ≡ q = eqb-true r.id q x.1.1 in
        let a : first (is_quant q) n.quants ≡ Some r = subst (λ z. first (is_quant z) n.quants ≡ Some r) e (first-own r n.quants (let a = m.ids r.id in let b = few o m.within r.id in omega arith) x.1.0) in
        let b : first (is_quant q) o.quants ≡ Some s.0 = subst (λ z. first (is_quant z) o.quants ≡ Some s.0) (s.1.1.0 ∙ e) (first-own s.0 o.quants (few o m.within s.0.id) s.1.0) in
        ap (λ z. rows_found z F env) a ∙ ap (λ z. F z env) (sym s.1.1.1) ∙ sym (ap (λ z. rows_found z F env) b))
    | inr k ↦ ap (λ z. rows_found z F env) (first-absent (is_quant q) n.quants k) ∙ sym (ap (λ z. rows_found z F env) (first-absent (is_quant q) o.quants (
        elim (cases_Bool (list_any (is_quant q) o.quants)) [
          | inr j ↦ j
          | inl t ↦ absurd (clash (list_any (is_quant q) n.quants) (owned-now q t) k)
        ])))
  ]
    where
      counted-one : (q : ℕ) (rs : List OwnedQuant) → list_any (is_quant q) rs ≡ true → 1 ≤ times q (map (λ (r : OwnedQuant). r.id) rs)
      counted-one q [] h = absurd (let z : ⊥ = cc in z)
      counted-one q (r ∷ rs) h = elim (r.id == q) as (λ t. (t || list_any (is_quant q) rs) ≡ true → 1 ≤ cond t 1 0 + times q (map (λ (r : OwnedQuant). r.id) rs)) [ true ↦ λ h. (omega arith) | false ↦ λ h. (let a = counted-one q rs h in omega arith) ] h

      one-counted : (q : ℕ) (rs : List OwnedQuant) → 1 ≤ times q (map (λ (r : OwnedQuant). r.id) rs) → list_any (is_quant q) rs ≡ true
      one-counted q [] h = absurd (omega arith)
      one-counted q (r ∷ rs) h = elim (r.id == q) as (λ t. 1 ≤ cond t 1 0 + times q (map (λ (r : OwnedQuant). r.id) rs) → (t || list_any (is_quant q) rs) ≡ true) [ true ↦ λ h. refl | false ↦ λ h. one-counted q rs (omega arith) ] h

      owned-now : (q : ℕ) → list_any (is_quant q) o.quants ≡ true → list_any (is_quant q) n.quants ≡ true
      owned-now q t = one-counted q n.quants (let a = counted-one q o.quants t in let b = m.ids q in omega arith)

  overs-now : (ns : List Node) → all_over ns o.quants ≡ true → all_over ns n.quants ≡ true
  overs-now ns h = all-from (λ (r : OwnedQuant). has_box ns r.over) n.quants (λ r j. (let s = m.was r j in subst (λ z. has_box ns z ≡ true) s.1.1.1 (all-in (λ (r : OwnedQuant). has_box ns r.over) s.0 o.quants h s.1.0)))

  -- what an F quantifier is bound to fits
  pub stays-now : (F : Family) (rs : List OwnedQuant) → ((r : OwnedQuant) → In r rs → In r n.quants) → Stays (fits F bs) (quant_rows n F) rs
  stays-now F [] own = tt
  stays-now F (r ∷ rs) own = (
    (λ env cells k p there. (
        let s = m.was r (own r (inl refl)) in
        let owned : owns r.id o ≡ true = any-from (is_quant r.id) s.0 o.quants s.1.0 (eq-eqb s.0.id r.id s.1.1.0) in
        and_from (has_row F bs r.id cells env) (fits F bs env)
        (any-from (λ (x : Node). owns r.id x && occurs cells (quant_rows x F r.id env)) o bs m.within (and_from (owns r.id o) (occurs cells (quant_rows o F r.id env)) owned (ap (occurs cells) (sym (same-rows F r.id env)) ∙ there))) p)),
    stays-now F rs (λ s j. own s (inr j)),
  )

  pub put-is : change (is_box o.id) (λ (y : Node). n) bs ≡ hs
  put-is = change-at o.id (λ (y : Node). n) bs (once-each bs w.ordered) ∙ map-same (at o.id (λ (y : Node). n)) gf bs (λ y j. elim (cases_Bool (y.id == o.id)) [
    | inl t ↦ elim (cases y j) [
      | inl e ↦ ap (λ (b : Bool). cond b n y) t ∙ sym e.1
      | inr e ↦ absurd (clash (y.id == o.id) t e.0)
    ]
    | inr k ↦ ap (λ (b : Bool). cond b n y) k ∙ sym (ap (λ (b : Bool). cond b (f y) y) k)
  ])

  abbrev whole : QueryGraph
  whole = record { boxes = bs; root = root; names = []; order = [] }

  module _ (tables : List Table) where
    abbrev F : Family
    F = bag_in tables bs

    pub put-agrees-at : ((env : Environment) → fits F bs env ≡ true → Agree same_cells (rows_of tables n F env) (rows_of tables o F env))
        → (b : ℕ) → has_box bs b ≡ true → (env : Environment) → fits F bs env ≡ true → Agree same_cells (bag_in tables hs b env) (F b env)
    put-agrees-at h b held env fit =
        subst (λ z. Agree same_cells (bag_in tables z b env) (F b env)) put-is
        (replaced tables whole (fits F bs) o.id o n w.ordered (in-first o bs w.ordered m.within) (m.id o) overs-now (hereditary F bs) (stays-now F n.quants (λ r j. j)) h b held env fit)

    pub put-agrees : ((env : Environment) → fits F bs env ≡ true → Agree same_cells (rows_of tables n F env) (rows_of tables o F env)) → Agree same_cells (bag_in tables hs root []) (F root [])
    put-agrees h = put-agrees-at h root w.rooted [] refl

    all-read : (ns : List Node) → ((y : Node) → In y ns → ReadsSets (λ x. x == o.id) y) → AllReadSets (λ x. x == o.id) ns
    all-read [] h = tt
    all-read (y ∷ ns) h = (h y (inl refl), all-read ns (λ z i. h z (inr i)))

    pub put-agrees-as-set : (root == o.id) ≡ false → ((y : Node) → In y bs → ReadsSets (λ x. x == o.id) y) → ReadsSets (λ x. x == o.id) n
        → ((env : Environment) → fits F bs env ≡ true → AgreeAsSets same_cells (rows_of tables n F env) (rows_of tables o F env)) → Agree same_cells (bag_in tables hs root []) (F root [])
    put-agrees-as-set away reads now h =
        subst (λ z. Agree same_cells (bag_in tables z root []) (F root [])) put-is
        (subst (λ t. AgreeAs t (bag_in tables (change (is_box o.id) (λ (y : Node). n) bs) root []) (F root [])) away
        (replaced-as_set tables whole (fits F bs) o.id o n w.ordered (in-first o bs w.ordered m.within) (m.id o) overs-now (all-read bs reads) now (hereditary F bs) (stays-now F n.quants (λ r j. j)) h root w.rooted [] refl))

-- ---- the check

module _ (g : QueryGraph) (u : EachOnce (numbers g.boxes)) (c : fault g ≡ None) (o : Node) (f : Node → Node) (m : PutsBox g.boxes g.root o f) where
  abbrev bs : List Node
  bs = g.boxes

  p : Sound bs g.root × Typed bs × Shaped bs g.root
  p = (sound-checked g u).0 c

  abbrev now : Node → Node
  now = at o.id f

  to-n : now o ≡ f o
  to-n = g-b bs p.0.ordered o m.within f m.id

  form : BoxForm bs g.root now o
  form = record {
    stay = ap (λ (z : Node). types_by (lookup_of bs) z.parts.kind z.parts.head) to-n ∙ m.stay;
    magic = ap (λ (z : Node). is_magic z.parts.role) to-n ∙ m.magic;
    stood = λ r j. inl (let s = m.was r (subst (λ (z : Node). In r z.quants) to-n j) in (o, (m.within, (s.0, (s.1.0, (s.1.1.0, ap (types_at bs) s.1.1.1))))));
    types = ap (types_agree bs) to-n ∙ m.types;
    columns = ap (columns_fit bs) to-n ∙ m.columns;
    shape = ap (shape_fits g.root bs) to-n ∙ m.shape;
    scalars = λ z r j. m.scalars z r (subst (λ (z : Node). In r z.quants) to-n j);
    unseen = λ z r j t k e. (
        let old : is_permit z.parts.distinct ≡ false = m.unseen z r (subst (λ (z : Node). In r z.quants) to-n j) t k e in
        elim (cases bs g.root p.0 o f m z k) [
          | inr x ↦ ap (λ (z : Node). is_permit z.parts.distinct) x.1 ∙ old
          | inl x ↦ absurd (
              let s = m.was r (subst (λ (z : Node). In r z.quants) to-n j) in
              let less = place-under bs o s.0 p.0.ordered m.within s.1.0 in
              let same : place bs s.0.over ≡ place bs o.id = ap (place bs) (s.1.1.1 ∙ sym e ∙ ap (λ (y : Node). y.id) x.0) in omega arith)
        ]);
    permit = λ t. m.permit (ap (λ (z : Node). is_permit z.parts.distinct) (sym to-n) ∙ t);
  }

  pub put-formed : fault (on_boxes (map now) g) ≡ None
  put-formed = formed-by g u c now (gid bs g.root p.0 o f m)
      (λ y j. elim (cases bs g.root p.0 o f m y j) [ inl e ↦ inr (subst (λ z. BoxForm bs g.root now z) (sym e.0) form) | inr e ↦ inl e.1 ])
      (put-sound bs g.root p.0 o f m) (λ b q t. sym (same-look bs g.root p.0 o f m b q) ∙ t) (λ x a d j k e t. (a.id, same-look bs g.root p.0 o f m d.over a.id ∙ t))

-- ---- the graph after it

module _ (g : QueryGraph) (u : EachOnce (numbers g.boxes)) (c : fault g ≡ None) (o : Node) (f : Node → Node) (m : PutsBox g.boxes g.root o f) where
  abbrev after : QueryGraph
  after = on_boxes (map (at o.id f)) g

  pub once-put : EachOnce (numbers after.boxes)
  once-put = numbers-once after.boxes (ordered-h g.boxes g.root (sound g u c) o f m)

  pub bases-put : (tables : List Table) → Satisfies tables g.boxes → Satisfies tables after.boxes
  bases-put tables s = satisfies-by tables (at o.id f) g.boxes (λ y j b. elim (cases g.boxes g.root (sound g u c) o f m y j) [
    | inl e ↦ subst (λ (z : Node). SatisfiesBy z.parts.kind tables) (sym e.1) (subst (λ k. SatisfiesBy k tables) (sym m.select) tt)
    | inr e ↦ subst (λ (z : Node). SatisfiesBy z.parts.kind tables) (sym e.1) b
  ]) s
