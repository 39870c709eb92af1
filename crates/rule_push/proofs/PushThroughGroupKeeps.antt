-- P2: a conjunct on keys goes through a group into the clean select that it groups.
use Rattle.std.proofs.Common.{ℕ, suc, ◌==◌, ◌≡◌, ◌&&◌, ◌≤◌, ◌<◌, not, cond, Bool, true, false, List, ◌∷◌, ◌++◌, map, take, length, Some, None, refl, sym, ap, ap₂, subst, ◌∙◌, eqb-true, inl, inr, arith, [], ◌||◌}
use Rattle.std.specs.List.{flat_map, list_all, list_any}
use Rattle.std.specs.Prelude.{nat_le}
use Rattle.std.proofs.lemmas.Bool.{and_parts, cases_Bool, eq-eqb, leb-true, not-true, or_left}
use Rattle.row_bag.specs.Bags.{Agree}
use Rattle.row_bag.specs.Errors.{error_among, error_in}
use Rattle.row_bag.specs.AsSets.{is_decided, stands, is_clean}
use Rattle.row_bag.specs.Order.{cell_of}
use Rattle.row_bag.specs.Sets.{same_cells}
use Rattle.row_bag.specs.declared.tables.Table.{Table}
use Rattle.sql_value.specs.declared.cell.Cell.{Cell}
use Rattle.qgm_core.specs.Boxes.{QueryGraph, is_quant, numbers, owns, overs_in}
use Rattle.qgm_core.specs.Edits.{on_boxes}
use Rattle.qgm_core.specs.Kinds.{is_F, is_S, is_E, is_A, is_fed, is_plain, width_by}
use Rattle.list_laws.specs.Lists.{EachOnce, In, times}
use Rattle.qgm_core.specs.declared.kinds.BoxKind.TheVariants.{Group, Select}
use Rattle.qgm_core.specs.declared.kinds.QuantKind.{QuantKind}
use Rattle.qgm_core.specs.declared.kinds.QuantKind.TheVariants.{F, E, A, S}
use Rattle.qgm_core.specs.declared.node.Node.{Node}
use Rattle.qgm_core.specs.declared.owned.OwnedQuant.{OwnedQuant}
use Rattle.qgm_wellformed.specs.Shapes.{all_F, are_F, head_folds, head_is_own, is_aggregate, is_group, is_none, kind_fits, node_fits, nodes_of}
use Rattle.qgm_wellformed.specs.Types.{cond_fits, lookup_of, term_type, types_by}
use Rattle.qgm_wellformed.specs.WellFormed.{fault}
use Rattle.qgm_meaning.specs.Fits.{fits}
use Rattle.qgm_meaning.specs.Laws.{Stays, occurs}
use Rattle.qgm_meaning.specs.Meaning.{Family, bag_in, key_cells, nothing, quant_rows, rows_found, rows_of}
use Rattle.qgm_meaning.specs.Satisfies.{Satisfies}
use Rattle.qgm_meaning.specs.Values.{Environment, bound, value}
use Rattle.qgm_meaning.proofs.Fitting.{hereditary}
use Rattle.qgm_props.specs.Facts.{is_sound}
use Rattle.qgm_props.specs.Inferred.{Facts, Inferred, clean, cond_free, is_free}
use Rattle.qgm_props.specs.Laws.{Premises, Tells}
use Rattle.qgm_props.proofs.EachClean.{clean-each}
use Rattle.qgm_props.proofs.HeldGroups.{no-key-error, nothing-sound}
use Rattle.qgm_props.proofs.Terms.{SoundColumns, no-cell, truth-decided, value-sound}
use Rattle.qgm_terms.specs.Named.{nodes_in, nodes_in_cond}
use Rattle.qgm_terms.specs.Substitution.{cell_at, column_substituted, substituted_cond}
use Rattle.qgm_terms.specs.Terms as tm
use Rattle.qgm_terms.specs.Terms.{Cond, Term, null_int}
use Rattle.qgm_terms.specs.Wanted.{any_in, any_in_cond, has_aggregate, has_aggregate_cond, reads, reads_at, reads_at_cond, reads_cond, wanted}
use Rattle.qgm_terms.specs.declared.named.QuantNode.{QuantNode}
use Rattle.qgm_terms.specs.declared.named.QuantNode.TheVariants as node
use Rattle.qgm_terms.specs.declared.sought.Sought.TheVariants as sought
use Rattle.qgm_edit_laws.specs.Graph.{Sound, reads_in}
use Rattle.qgm_edit_laws.specs.Conditioned.{conditioned}
use Rattle.qgm_edit_laws.specs.Shaped.{Shaped, Typed}
use Rattle.qgm_edit_laws.proofs.AnyPut as put
use Rattle.qgm_edit_laws.proofs.AnyPut.{cell-any}
use Rattle.std.specs.Prelude as prelude
use Rattle.qgm_edit_laws.proofs.ConjunctForms.{each-in, names-none}
use Rattle.qgm_edit_laws.proofs.Conjuncts.{test}
use Rattle.qgm_edit_laws.proofs.Formed.{sound-checked}
use Rattle.qgm_edit_laws.proofs.OneBox.{at}
use Rattle.qgm_edit_laws.proofs.PartForms.{at-all}
use Rattle.qgm_edit_laws.proofs.Ranks.{place, same-box}
use Rattle.qgm_edit_laws.proofs.Rules.{same-agree}
use Rattle.qgm_edit_laws.proofs.Scoped.{few-ids}
use Rattle.qgm_edit_laws.proofs.ShapeParts.{shape-parts}
use Rattle.qgm_edit_laws.proofs.ShapedPut.{own-unread}
use Rattle.qgm_edit_laws.proofs.Turns.{first-own}
use Rattle.qgm_edit_laws.proofs.CondTypes as typed
use Rattle.qgm_edit_laws.specs.ConjunctEdits.{MayAddConjunct, more}
use Rattle.qgm_edit_laws.specs.PushDown.{PushesFrom}
use Rattle.qgm_edit_laws.proofs.AddConjunctForms.{added-formed}
use Rattle.qgm_edit_laws.proofs.DropConjunctForms.{dropped-formed}
use Rattle.qgm_props.proofs.FactsIn.{clean-in, sound-in}
use Rattle.rule_facts.proofs.Premises.{premises}
use Rattle.qgm_edit_laws.proofs.PushedRows.{cell-map, cell-take, group-back, more-back, pushed-agree, reads-of}
use Rattle.rule_push.proofs.Leaves.{checked, in-r, lose, p-column, p-fits, p-folded}
use Rattle.qgm_edit_laws.proofs.PutConjunct.{cell-in, head-type, put-may}
use Rattle.qgm_edit_laws.specs.SiftedBags.{Tests, sifted}
use Rattle.qgm_edit_laws.proofs.SiftedBags.{stay-in, untouched}
use Rattle.qgm_edit_laws.proofs.PutThrough.{node-found, cond-unfolded, some_of, through-free, through-own}
use Rattle.qgm_edit_laws.proofs.OneUse as used
use Rattle.qgm_edit_laws.proofs.OneUse.{map-map}
use Rattle.rule_facts.proofs.Compacted.{numbers-map}
use Rattle.list_laws.proofs.Membership.{all-in, any-from, any-none, eq-false-sym, eq-itself, in-left, map-in}
use Rattle.list_laws.proofs.Booleans.{clash}

-- ---- the shape of a group

pub record GroupShape (c : Node) (k : ℕ) : Type 0 where
  pub quant : OwnedQuant
  pub alone : c.quants ≡ quant ∷ []
  pub is_f : is_F quant.kind ≡ true
  pub long : k ≤ length c.parts.head
  pub keys : list_any has_aggregate (take k c.parts.head) ≡ false
  pub own : head_is_own c ≡ true

pub group-shape : (c : Node) (k : ℕ) → is_group k c ≡ true → GroupShape c k
group-shape c k h =
    let a = and_parts (are_F 1 c.quants && is_none c.parts.conds.items && is_plain c.parts.role && head_folds k c.parts.head) (head_is_own c) h in
    let d = and_parts (are_F 1 c.quants && is_none c.parts.conds.items && is_plain c.parts.role) (head_folds k c.parts.head) a.0 in
    let e = and_parts (are_F 1 c.quants && is_none c.parts.conds.items) (is_plain c.parts.role) d.0 in
    let l = and_parts (are_F 1 c.quants) (is_none c.parts.conds.items) e.0 in
    let x = one c.quants l.0 in
    let y = and_parts (nat_le k (length c.parts.head) && not (list_any has_aggregate (take k c.parts.head))) (list_all is_aggregate (prelude.drop k c.parts.head)) d.1 in
    let z = and_parts (nat_le k (length c.parts.head)) (not (list_any has_aggregate (take k c.parts.head))) y.0 in
    record { quant = x.0; alone = x.1.0; is_f = x.1.1; long = leb-true k (length c.parts.head) z.0; keys = not-true (list_any has_aggregate (take k c.parts.head)) z.1; own = a.1 }
  where
    one : (rs : List OwnedQuant) → are_F 1 rs ≡ true → (r : OwnedQuant) × ((rs ≡ r ∷ []) × (is_F r.kind ≡ true))
    one [] h = absurd (let z : ⊥ = cc in z)
    one (r ∷ []) h = (r, (refl, (and_parts (is_F r.kind) true h).0))
    one (r ∷ (s ∷ rs)) h = absurd (let y = eqb-true (length (r ∷ (s ∷ rs))) 1 (and_parts (length (r ∷ (s ∷ rs)) == 1) (all_F (r ∷ (s ∷ rs))) h).0 in let v : length (r ∷ (s ∷ rs)) ≡ suc (suc (length rs)) = refl in let z : ⊥ = omega (arith, y, v) in z)

-- no node is of an F quantifier
none-fits : (r : OwnedQuant) → is_F r.kind ≡ true → (x : QuantNode) → node_fits (r ∷ []) x ≡ false
none-fits r h x = by r.kind h x
  where
    or-and : (b c : Bool) → c ≡ false → ((b && c) || false) ≡ false
    or-and true c e = ap (λ z. z || false) e
    or-and false c e = refl

    by : (k : QuantKind) → is_F k ≡ true → (x : QuantNode) → node_fits (record { id = r.id; kind = k; over = r.over } ∷ []) x ≡ false
    by F h (node.Scalar q) = or-and (r.id == q) (is_S F) refl
    by F h (node.Some q) = or-and (r.id == q) (is_E F) refl
    by F h (node.Every q) = or-and (r.id == q) (is_A F) refl
    by E h x = absurd (let z : ⊥ = cc in z)
    by A h x = absurd (let z : ⊥ = cc in z)
    by S h x = absurd (let z : ⊥ = cc in z)

-- ---- P2

module _ (g : QueryGraph) (u : EachOnce (numbers g.boxes)) (f : fault g ≡ None) (b : Node) (ps : List Cond) (p : Cond) (qs : List Cond) (us : List OwnedQuant) (r : OwnedQuant) (vs : List OwnedQuant) (m : PushesFrom g.boxes b ps p qs us r vs)
    (c : Node) (in-c : In c g.boxes) (over : c.id ≡ r.over) (k : ℕ) (kind : c.parts.kind ≡ Group (suc k)) (s : OwnedQuant) (alone : c.quants ≡ s ∷ [])
    (n : Node) (in-n : In n g.boxes) (under : n.id ≡ s.over) (once : times n.id (overs_in g.boxes) ≡ 1) (select : n.parts.kind ≡ Select) (not_fed : is_fed n.parts.role ≡ false)
    (keys : (j : ℕ) → reads_at_cond r.id j p ≡ true → j ≤ suc k) where
  abbrev bs : List Node
  bs = g.boxes

  ok : Sound g.boxes g.root × Typed g.boxes × Shaped g.boxes g.root
  ok = checked g u f b ps p qs us r vs m

  w : Sound g.boxes g.root
  w = ok.0

  r-in : In r b.quants
  r-in = in-r g u f b ps p qs us r vs m

  s-in : In s c.quants
  s-in = subst (λ z. In s z) (sym alone) (inl refl)

  shape : GroupShape c (suc k)
  shape = group-shape c (suc k) (subst (λ z. kind_fits g.root bs c z ≡ true) kind (shape-parts g.root bs c (ok.2.shapes c in-c)).kind)

  s-f : is_F s.kind ≡ true
  s-f = let e : shape.quant ∷ [] ≡ s ∷ [] = sym shape.alone ∙ alone in let x : shape.quant ≡ s = cc in subst (λ (z : OwnedQuant). is_F z.kind ≡ true) x shape.is_f

  abbrev head : List Term
  head = c.parts.head

  abbrev p1 : Cond
  p1 = substituted_cond r.id c.parts.head p

  abbrev p2 : Cond
  p2 = substituted_cond s.id n.parts.head p1

  -- the cells of a group hold no node, and read its rows
  bare : (j : ℕ) → any_in (wanted sought.Node) (cell_at j head) ≡ false
  bare j = node-found (cell_at j head) ∙ (elim (cell-in head j) [ inr e ↦ ap (λ x. some_of (nodes_in x)) e | inl i ↦ none (nodes_in (cell_at j head)) (λ x l. each-in nodes_in x (cell_at j head) head i l) ])
    where
      none : (xs : List QuantNode) → ((x : QuantNode) → In x xs → In x (flat_map nodes_in c.parts.head)) → some_of xs ≡ false
      none [] h = refl
      none (x ∷ xs) h = absurd (clash (node_fits c.quants x) (all-in (node_fits c.quants) x (nodes_of c) (shape-parts g.root bs c (ok.2.shapes c in-c)).nodes (in-left x (flat_map nodes_in c.parts.head) (flat_map nodes_in_cond c.parts.conds.items) (h x (inl refl))))
          (ap (λ rs. node_fits rs x) alone ∙ none-fits s s-f x))

  reads_s : (j x : ℕ) → reads x (cell_at j head) ≡ true → x ≡ s.id
  reads_s j x h = elim (cell-in head j) [
    | inr e ↦ absurd (let z : reads x null_int ≡ true = sym (ap (reads x) e) ∙ h in let y : ⊥ = cc in y)
    | inl i ↦ elim (cases_Bool (owns x c)) [
      | inr o ↦ absurd (clash (list_any (reads x) head) (any-from (reads x) (cell_at j head) head i h) (own-unread x c shape.own o))
      | inl o ↦ (let y : ((s.id == x) || false) ≡ true = sym (ap (list_any (is_quant x)) alone) ∙ o in sym (eqb-true s.id x (one (s.id == x) y)))
    ]
  ]
    where
      one : (a : Bool) → (a || false) ≡ true → a ≡ true
      one true h = refl
      one false h = absurd (let z : ⊥ = cc in z)

  folded : (j : ℕ) → j ≤ suc k → has_aggregate (cell_at j head) ≡ false
  folded j l = ap has_aggregate (sym (cell-take head null_int (suc k) j l)) ∙ (elim (cell-in (take (suc k) head) j) [ inr e ↦ ap has_aggregate e | inl i ↦ any-none has_aggregate (cell_at j (take (suc k) head)) (take (suc k) head) shape.keys i ])

  free1 : any_in_cond (wanted sought.Node) p1 ≡ false
  free1 = through-free r.id head s.id p m.node_free m.own (λ j h. bare j) (λ j h x t. reads_s j x t)

  own1 : (x : ℕ) → reads_cond x p1 ≡ true → x ≡ s.id
  own1 = through-own r.id head s.id p m.node_free m.own (λ j h. bare j) (λ j h x t. reads_s j x t)

  folded1 : has_aggregate_cond p1 ≡ false
  folded1 = cond-unfolded r.id head p (p-folded g u f b ps p qs us r vs m) m.node_free (λ j h. folded j (keys j h))

  type-c : (j : ℕ) → reads_at_cond r.id j p ≡ true → term_type (lookup_of bs) (cell_at j head) ≡ lookup_of bs r.id j
  type-c j h =
      let l = p-column g u f b ps p qs us r vs m c in-c over j h in
      head-type g u f b r c m.in_b r-in in-c over (ap (λ z. types_by (lookup_of bs) z head) kind) j l.0 (subst (λ z. j ≤ z) (ap (λ z. width_by z (length head)) kind) l.1)

  fits1 : cond_fits (lookup_of bs) p1 ≡ true
  fits1 = typed.cond-put (lookup_of bs) r.id head p m.node_free (λ x j h. (let e = m.own x (reads-of x j p h) in subst (λ z. term_type (lookup_of bs) (column_substituted r.id head z j) ≡ lookup_of bs z j) (sym e)
      (ap (λ (z : Bool). term_type (lookup_of bs) (cond z (cell_at j head) (tm.col r.id j))) (eq-itself r.id) ∙ type-c j (subst (λ z. reads_at_cond z j p ≡ true) e h)))) ∙ p-fits g u f b ps p qs us r vs m

  -- a column of s that is read through c's cells is one of n
  type-n : (j : ℕ) → reads_at_cond s.id j p1 ≡ true → term_type (lookup_of bs) (cell_at j n.parts.head) ≡ lookup_of bs s.id j
  type-n j h =
      let here = in-cell in
      let l = w.fits c in-c s.id j here c s n in-c s-in refl in-n under in
      head-type g u f c s n in-c s-in in-n under (ap (λ z. types_by (lookup_of bs) z n.parts.head) select) j l.0 (subst (λ z. j ≤ z) (ap (λ z. width_by z (length n.parts.head)) select) l.1)
    where
      in-cell : reads_in s.id j c ≡ true
      in-cell = or_left (list_any (reads_at s.id j) c.parts.head) (list_any (reads_at_cond s.id j) c.parts.conds.items) (elim (put.cond-put r.id head (λ x i. (x == s.id) && (i == j)) (λ x. false) (λ x. false) (λ x. prelude.not (x == s.id)) ((s.id == r.id) ≡ false) (λ x i m h. subst (λ z. (z == r.id) ≡ false) (eqb-true x s.id (and_parts (x == s.id) (i == j) h).0) m) (λ x m h. absurd (let z : ⊥ = cc in z)) (λ x m h. absurd (let z : ⊥ = cc in z)) p (names-none p m.node_free r.id) h) [
        | inl a ↦ absurd (clash (s.id == r.id) (eq-eqb s.id r.id (m.own s.id (reads-of s.id j p a.0))) a.1)
        | inr a ↦ cell-any (reads_at s.id j) head a.0 refl a.1.1
      ])

  may : MayAddConjunct g n p2
  may = put-may g u f n in-n select not_fed s.id p1 free1 own1 fits1 folded1 type-n

  abbrev a : Node → Node
  a = at n.id (more p2)

  abbrev d : Node → Node
  d = at b.id (conditioned (ps ++ qs))

  abbrev g1 : QueryGraph
  g1 = on_boxes (map a) g

  b-not-c : (b.id == c.id) ≡ false
  b-not-c = used.apart bs g.root w b r m.in_b r-in c.id (sym over)

  c-not-n : (c.id == n.id) ≡ false
  c-not-n = used.apart bs g.root w c s in-c s-in n.id (sym under)

  b-not-n : (b.id == n.id) ≡ false
  b-not-n = elim (cases_Bool (b.id == n.id)) [
    | inr z ↦ z
    | inl z ↦ absurd (
        let x : place bs b.id < place bs c.id = subst (λ z. place bs b.id < place bs z) (sym over) (used.below bs g.root w b r m.in_b r-in) in
        let y : place bs c.id < place bs n.id = subst (λ z. place bs c.id < place bs z) (sym under) (used.below bs g.root w c s in-c s-in) in
        let e : place bs b.id ≡ place bs n.id = ap (place bs) (eqb-true b.id n.id z) in let q : ⊥ = omega arith in q)
  ]

  a-b : a b ≡ b
  a-b = ap (λ (z : Bool). cond z (more p2 b) b) b-not-n

  formed-1 : fault g1 ≡ None
  formed-1 = added-formed g u f n p2 may

  once-1 : EachOnce (numbers g1.boxes)
  once-1 = subst (λ z. EachOnce z) (sym (numbers-map a (λ y. at-all n.id (more p2) (λ z. z.id) (λ z. refl) y) bs)) u

  pub push-through-group-formed : fault (on_boxes (map (at b.id (conditioned (ps ++ qs)))) (on_boxes (map (at n.id (more (substituted_cond s.id n.parts.head (substituted_cond r.id c.parts.head p))))) g)) ≡ None
  push-through-group-formed = dropped-formed g1 once-1 formed-1 b ps p qs (lose g u f b ps p qs us r vs m g1 (subst (λ z. In z g1.boxes) a-b (map-in a b bs m.in_b)))

  abbrev h : Node → Node
  h y = d (a y)

  sound-h : Sound (map h bs) g.root
  sound-h = subst (λ z. Sound z g.root) (map-map d a bs) ((sound-checked (on_boxes (map d) g1) (subst (λ z. EachOnce z) (sym (numbers-map d (λ y. at-all b.id (conditioned (ps ++ qs)) (λ z. z.id) (λ z. refl) y) g1.boxes)) once-1)).0 push-through-group-formed).0

  -- ---- the bags, where the keys and the conjunct are error-free and n is clean

  module _ (known : Facts) (tells : Tells known g.boxes) (keys_free : list_all (is_free g.boxes known false) (take (suc k) c.parts.head) ≡ true) (p_free : cond_free g.boxes known false p ≡ true) (clean_n : Inferred g.boxes (clean n.id))
      (tables : List Table) (sat : Satisfies tables g.boxes) where
    abbrev fam : Family
    fam = bag_in tables bs

    given : Premises tables bs
    given = premises bs g.root w tables sat

    abbrev t : Tests
    t x = cond (x == c.id) (Some (test r.id p)) (cond (x == n.id) (Some (test s.id p1)) None)

    none-at : (x : ℕ) → (x == c.id) ≡ false → (x == n.id) ≡ false → t x ≡ None
    none-at x i j = ap₂ (λ (y z : Bool). cond y (Some (test r.id p)) (cond z (Some (test s.id p1)) None)) i j

    at-c : (x : ℕ) → x ≡ c.id → t x ≡ Some (test r.id p)
    at-c x e = ap (λ (y : Bool). cond y (Some (test r.id p)) (cond (x == n.id) (Some (test s.id p1)) None)) (eq-eqb x c.id e)

    at-n : (x : ℕ) → x ≡ n.id → t x ≡ Some (test s.id p1)
    at-n x e = ap₂ (λ (y z : Bool). cond y (Some (test r.id p)) (cond z (Some (test s.id p1)) None)) (ap (λ z. z == c.id) e ∙ eq-false-sym c.id n.id c-not-n) (eq-eqb x n.id e)

    one : times c.id (overs_in bs) ≡ 1
    one = subst (λ z. times z (overs_in bs) ≡ 1) (sym over) m.one_use

    -- in an environment that fits
    module _ (e : Environment) (fit : fits (bag_in tables g.boxes) g.boxes e ≡ true) where
      stay : Stays (λ e. fits fam bs e) (quant_rows c fam) (s ∷ [])
      stay = subst (λ z. Stays (λ e. fits fam bs e) (quant_rows c fam) z) alone (stay-in (λ e. fits fam bs e) fam bs (hereditary fam bs) c in-c)

      rows-are : quant_rows c fam s.id e ≡ fam s.over e
      rows-are = ap (λ o. rows_found o fam e) (first-own s c.quants (few-ids bs c s.id (w.once s.id) in-c) s-in)

      columns : (cells : List Cell) → occurs cells (fam s.over e) ≡ true → SoundColumns bs known (bound s.id cells e)
      columns cells o = sound-in tables bs given (bound s.id cells e) (stay.0 e cells s-f fit (ap (occurs cells) rows-are ∙ o)) known tells

      no-error : error_among (λ cells. error_in (key_cells (suc k) head s.id e cells)) (fam s.over e) ≡ None
      no-error = no-key-error bs known s.id head e (fam s.over e) columns (suc k) (clean-each (fam s.over e) (subst (λ z. is_clean (fam z e) ≡ true) under (clean-in tables bs given e fit n.id clean_n))) keys_free

      decided : (cells : List Cell) → stands same_cells cells (fam s.over e) ≡ true → is_decided (test r.id p (key_cells (suc k) head s.id e cells)) ≡ true
      decided cells o = (truth-decided bs known nothing (nothing-sound bs known) false p (bound r.id (key_cells (suc k) head s.id e cells) []) sound-keys p_free).0
        where
          sound-cell : (j : ℕ) → is_sound (cell_of j (key_cells (suc k) c.parts.head s.id e cells)) ≡ true
          sound-cell j = ap is_sound (cell-map (λ x. value nothing x (bound s.id cells e)) refl (take (suc k) c.parts.head) j) ∙ (elim (cell-in (take (suc k) c.parts.head) j) [
            | inr q ↦ ap (λ x. is_sound (value nothing x (bound s.id cells e))) q
            | inl i ↦ value-sound bs known nothing (nothing-sound bs known) false (cell_at j (take (suc k) c.parts.head)) (bound s.id cells e) (columns cells o) (all-in (is_free bs known false) (cell_at j (take (suc k) c.parts.head)) (take (suc k) c.parts.head) keys_free i)
          ])

          sound-keys : SoundColumns bs known (bound r.id (key_cells (suc k) c.parts.head s.id e cells) [])
          sound-keys x j q = elim (r.id == x) as (λ (z : Bool). is_sound (cell_of j (cond z (key_cells (suc k) c.parts.head s.id e cells) [])) ≡ true) [ true ↦ sound-cell j | false ↦ no-cell j ]

    other : (y : Node) → (y.id == b.id) ≡ false → h y ≡ a y
    other y z = ap (λ (x : Bool). cond x (conditioned (ps ++ qs) (a y)) (a y)) (ap (λ z. z == b.id) (at-all n.id (more p2) (λ z. z.id) (λ z. refl) y) ∙ z)

    pub push-through-group-agree : Agree same_cells (bag_in tables (map h bs) g.root []) (bag_in tables bs g.root [])
    push-through-group-agree = pushed-agree bs g.root w b ps p qs us r vs m tables t (at-c r.over (sym over))
        (λ x j z. none-at x.over (used.not-beside bs g.root w b r c.id m.in_b r-in (sym over) one x j z) (used.not-other bs g.root w c s n.id in-c s-in (sym under) once b m.in_b b-not-c x j))
        h (λ y. at-all b.id (conditioned (ps ++ qs)) (λ z. z.id) (λ z. refl) (a y) ∙ at-all n.id (more p2) (λ z. z.id) (λ z. refl) y)
        (λ y i. at-all b.id (conditioned (ps ++ qs)) (λ z. z.quants) (λ z. refl) (a y) ∙ at-all n.id (more p2) (λ z. z.quants) (λ z. refl) y)
        sound-h
        (none-at g.root (used.not-root bs g.root w b r c.id m.in_b r-in (sym over) one) (used.not-root bs g.root w c s n.id in-c s-in (sym under) once))
        (none-at b.id b-not-c b-not-n)
        (ap d a-b ∙ ap (λ (z : Bool). cond z (conditioned (ps ++ qs) b) b) (eq-itself b.id))
        (λ y i z e fit. elim (cases_Bool (y.id == n.id)) [
          | inl q ↦ (
              let same : y ≡ n = same-box bs y n w.ordered i in-n (eqb-true y.id n.id q) in
              subst (λ (v : Node). Agree same_cells (rows_of tables (h v) (sifted t fam) e) (sifted t fam v.id e)) (sym same)
              (subst (λ v. Agree same_cells (rows_of tables v (sifted t fam) e) (sifted t fam n.id e)) (sym (other n (eq-false-sym b.id n.id b-not-n) ∙ ap (λ (z : Bool). cond z (more p2 n) n) (eq-itself n.id)))
              (more-back bs g.root w tables t n in-n select s.id p1 (names-none p1 free1) own1 (at-n n.id refl)
              (λ x j. none-at x.over (used.not-other bs g.root w b r c.id m.in_b r-in (sym over) one n in-n (eq-false-sym b.id n.id b-not-n) x j) (eq-false-sym n.id x.over (used.apart bs g.root w n x in-n j x.over refl))) e)))
          | inr q ↦ (
              let plain : h y ≡ y = other y z ∙ ap (λ (z : Bool). cond z (more p2 y) y) q in
              subst (λ v. Agree same_cells (rows_of tables v (sifted t fam) e) (sifted t fam y.id e)) (sym plain)
              (elim (cases_Bool (y.id == c.id)) [
                | inl v ↦ (
                    let same : y ≡ c = same-box bs y c w.ordered i in-c (eqb-true y.id c.id v) in
                    subst (λ (v : Node). Agree same_cells (rows_of tables v (sifted t fam) e) (sifted t fam v.id e)) (sym same)
                    (group-back bs g.root w tables t c in-c k kind shape.long s alone r.id p (names-none p m.node_free) m.own (λ j q. ((p-column g u f b ps p qs us r vs m c in-c over j q).0, keys j q)) (λ j x l q. reads_s j x q)
                    (at-c c.id refl) (at-n s.over (sym under)) e (no-error e fit) (decided e fit)))
                | inr v ↦ same-agree (untouched bs g.root w tables t y i (none-at y.id v q) (λ x j. none-at x.over (used.not-other bs g.root w b r c.id m.in_b r-in (sym over) one y i z x j) (used.not-other bs g.root w c s n.id in-c s-in (sym under) once y i v x j)) e)
              ]))
        ])
