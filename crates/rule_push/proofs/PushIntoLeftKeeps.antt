-- P4: a conjunct on left columns goes through an outer join into its left arm.
use Rattle.std.proofs.Common.{ℕ, ◌==◌, ◌≡◌, ◌&&◌, ◌≤◌, ◌<◌, not, cond, Bool, true, false, List, ◌∷◌, ◌++◌, map, length, Some, None, refl, sym, ap, ap₂, subst, ◌∙◌, eqb-true, inl, inr, arith, []}
use Rattle.std.specs.List.{list_any}
use Rattle.std.specs.Prelude as prelude
use Rattle.std.proofs.lemmas.Bool.{and_parts, cases_Bool, eq-eqb, or_left}
use Rattle.row_bag.specs.Bags.{Agree}
use Rattle.row_bag.specs.Sets.{same_cells}
use Rattle.row_bag.specs.declared.tables.Table.{Table}
use Rattle.qgm_core.specs.Boxes.{QueryGraph, numbers, overs_in}
use Rattle.qgm_core.specs.Edits.{on_boxes}
use Rattle.qgm_core.specs.Kinds.{is_fed, width_by}
use Rattle.list_laws.specs.Lists.{EachOnce, In, times}
use Rattle.qgm_core.specs.declared.kinds.BoxKind.TheVariants.{OuterJoin, Select}
use Rattle.qgm_core.specs.declared.node.Node.{Node}
use Rattle.qgm_core.specs.declared.owned.OwnedQuant.{OwnedQuant}
use Rattle.qgm_wellformed.specs.Types.{cond_fits, lookup_of, term_type, types_by}
use Rattle.qgm_wellformed.specs.WellFormed.{fault}
use Rattle.qgm_meaning.specs.Meaning.{Family, bag_in, rows_of}
use Rattle.qgm_terms.specs.Substitution.{cell_at, column_substituted, substituted_cond}
use Rattle.qgm_terms.specs.Terms as tm
use Rattle.qgm_terms.specs.Terms.{Cond, Term}
use Rattle.qgm_terms.specs.Wanted.{any_in, any_in_cond, has_aggregate, has_aggregate_cond, reads, reads_at, reads_at_cond, reads_cond, wanted}
use Rattle.qgm_terms.specs.declared.sought.Sought.TheVariants as sought
use Rattle.qgm_edit_laws.specs.Graph.{Sound, reads_in}
use Rattle.qgm_edit_laws.specs.Conditioned.{conditioned}
use Rattle.qgm_edit_laws.specs.Shaped.{Shaped, Typed}
use Rattle.qgm_edit_laws.proofs.AnyPut as put
use Rattle.qgm_edit_laws.proofs.AnyPut.{cell-any}
use Rattle.qgm_edit_laws.proofs.ConjunctForms.{names-none}
use Rattle.qgm_edit_laws.proofs.Conjuncts.{test}
use Rattle.qgm_edit_laws.proofs.Edits.{split-once}
use Rattle.qgm_edit_laws.proofs.Formed.{sound-checked}
use Rattle.qgm_edit_laws.proofs.OneBox.{at}
use Rattle.qgm_edit_laws.proofs.PartForms.{at-all}
use Rattle.qgm_edit_laws.proofs.Ranks.{place, same-box}
use Rattle.qgm_edit_laws.proofs.Rules.{same-agree}
use Rattle.qgm_edit_laws.proofs.Scoped.{few-ids}
use Rattle.qgm_edit_laws.proofs.CondTypes as typed
use Rattle.qgm_edit_laws.specs.ConjunctEdits.{MayAddConjunct, more}
use Rattle.qgm_edit_laws.specs.PushDown.{PushesFrom}
use Rattle.qgm_edit_laws.proofs.AddConjunctForms.{added-formed}
use Rattle.qgm_edit_laws.proofs.DropConjunctForms.{dropped-formed}
use Rattle.qgm_edit_laws.proofs.PushedRows.{more-back, outer-back, pushed-agree, reads-of}
use Rattle.rule_push.proofs.Leaves.{checked, in-r, lose, p-column, p-fits, p-folded}
use Rattle.qgm_edit_laws.proofs.PutConjunct.{head-type, put-may}
use Rattle.qgm_edit_laws.specs.SiftedBags.{Tests, sifted}
use Rattle.qgm_edit_laws.proofs.SiftedBags.{untouched}
use Rattle.qgm_edit_laws.proofs.PutThrough.{cond-unfolded, through-free, through-own}
use Rattle.qgm_edit_laws.proofs.OneUse as used
use Rattle.qgm_edit_laws.proofs.OneUse.{map-map}
use Rattle.rule_facts.proofs.Compacted.{numbers-map}
use Rattle.list_laws.proofs.Membership.{eq-false-sym, eq-itself, map-in}
use Rattle.list_laws.proofs.Booleans.{clash}

module _ (g : QueryGraph) (u : EachOnce (numbers g.boxes)) (f : fault g ≡ None) (b : Node) (ps : List Cond) (p : Cond) (qs : List Cond) (us : List OwnedQuant) (r : OwnedQuant) (vs : List OwnedQuant) (m : PushesFrom g.boxes b ps p qs us r vs)
    (c : Node) (in-c : In c g.boxes) (over : c.id ≡ r.over) (kind : c.parts.kind ≡ OuterJoin) (s s2 : OwnedQuant) (two : c.quants ≡ s ∷ (s2 ∷ []))
    (n : Node) (in-n : In n g.boxes) (under : n.id ≡ s.over) (once : times n.id (overs_in g.boxes) ≡ 1) (select : n.parts.kind ≡ Select) (not_fed : is_fed n.parts.role ≡ false)
    (lefts : (j : ℕ) → reads_at_cond r.id j p ≡ true → (i : ℕ) × (cell_at j c.parts.head ≡ tm.col s.id i)) where
  abbrev bs : List Node
  bs = g.boxes

  ok : Sound g.boxes g.root × Typed g.boxes × Shaped g.boxes g.root
  ok = checked g u f b ps p qs us r vs m

  w : Sound g.boxes g.root
  w = ok.0

  r-in : In r b.quants
  r-in = in-r g u f b ps p qs us r vs m

  s-in : In s c.quants
  s-in = subst (λ z. In s z) (sym two) (inl refl)

  s2-in : In s2 c.quants
  s2-in = subst (λ z. In s2 z) (sym two) (inr (inl refl))

  abbrev head : List Term
  head = c.parts.head

  abbrev p1 : Cond
  p1 = substituted_cond r.id c.parts.head p

  abbrev p2 : Cond
  p2 = substituted_cond s.id n.parts.head p1

  bare : (j : ℕ) → reads_at_cond r.id j p ≡ true → any_in (wanted sought.Node) (cell_at j head) ≡ false
  bare j h = ap (any_in (wanted sought.Node)) (lefts j h).1

  reads_s : (j : ℕ) → reads_at_cond r.id j p ≡ true → (x : ℕ) → reads x (cell_at j head) ≡ true → x ≡ s.id
  reads_s j h x t = sym (eqb-true s.id x (sym (ap (reads x) (lefts j h).1) ∙ t))

  folded : (j : ℕ) → reads_at_cond r.id j p ≡ true → has_aggregate (cell_at j head) ≡ false
  folded j h = ap has_aggregate (lefts j h).1

  free1 : any_in_cond (wanted sought.Node) p1 ≡ false
  free1 = through-free r.id head s.id p m.node_free m.own bare reads_s

  own1 : (x : ℕ) → reads_cond x p1 ≡ true → x ≡ s.id
  own1 = through-own r.id head s.id p m.node_free m.own bare reads_s

  folded1 : has_aggregate_cond p1 ≡ false
  folded1 = cond-unfolded r.id head p (p-folded g u f b ps p qs us r vs m) m.node_free folded

  type-c : (j : ℕ) → reads_at_cond r.id j p ≡ true → term_type (lookup_of bs) (cell_at j head) ≡ lookup_of bs r.id j
  type-c j h =
      let l = p-column g u f b ps p qs us r vs m c in-c over j h in
      head-type g u f b r c m.in_b r-in in-c over (ap (λ z. types_by (lookup_of bs) z head) kind) j l.0 (subst (λ z. j ≤ z) (ap (λ z. width_by z (length head)) kind) l.1)

  fits1 : cond_fits (lookup_of bs) p1 ≡ true
  fits1 = typed.cond-put (lookup_of bs) r.id head p m.node_free (λ x j h. (let e = m.own x (reads-of x j p h) in subst (λ z. term_type (lookup_of bs) (column_substituted r.id head z j) ≡ lookup_of bs z j) (sym e)
      (ap (λ (z : Bool). term_type (lookup_of bs) (cond z (cell_at j head) (tm.col r.id j))) (eq-itself r.id) ∙ type-c j (subst (λ z. reads_at_cond z j p ≡ true) e h)))) ∙ p-fits g u f b ps p qs us r vs m

  type-n : (j : ℕ) → reads_at_cond s.id j p1 ≡ true → term_type (lookup_of bs) (cell_at j n.parts.head) ≡ lookup_of bs s.id j
  type-n j h =
      let l = w.fits c in-c s.id j in-cell c s n in-c s-in refl in-n under in
      head-type g u f c s n in-c s-in in-n under (ap (λ z. types_by (lookup_of bs) z n.parts.head) select) j l.0 (subst (λ z. j ≤ z) (ap (λ z. width_by z (length n.parts.head)) select) l.1)
    where
      in-cell : reads_in s.id j c ≡ true
      in-cell = or_left (list_any (reads_at s.id j) c.parts.head) (list_any (reads_at_cond s.id j) c.parts.conds.items) (elim (put.cond-put r.id head (λ x i. (x == s.id) && (i == j)) (λ x. false) (λ x. false) (λ x. prelude.not (x == s.id)) ((s.id == r.id) ≡ false) (λ x i m h. subst (λ z. (z == r.id) ≡ false) (eqb-true x s.id (and_parts (x == s.id) (i == j) h).0) m) (λ x m h. absurd (let z : ⊥ = cc in z)) (λ x m h. absurd (let z : ⊥ = cc in z)) p (names-none p m.node_free r.id) h) [
        | inl a ↦ absurd (clash (s.id == r.id) (eq-eqb s.id r.id (m.own s.id (reads-of s.id j p a.0))) a.1)
        | inr a ↦ cell-any (reads_at s.id j) head a.0 refl a.1.1
      ])

  may : MayAddConjunct g n p2
  may = put-may g u f n in-n select not_fed s.id p1 free1 own1 fits1 folded1 type-n

  abbrev a : Node → Node
  a = at n.id (more p2)

  abbrev d : Node → Node
  d = at b.id (conditioned (ps ++ qs))

  abbrev g1 : QueryGraph
  g1 = on_boxes (map a) g

  b-not-c : (b.id == c.id) ≡ false
  b-not-c = used.apart bs g.root w b r m.in_b r-in c.id (sym over)

  c-not-n : (c.id == n.id) ≡ false
  c-not-n = used.apart bs g.root w c s in-c s-in n.id (sym under)

  b-not-n : (b.id == n.id) ≡ false
  b-not-n = elim (cases_Bool (b.id == n.id)) [
    | inr z ↦ z
    | inl z ↦ absurd (
        let x : place bs b.id < place bs c.id = subst (λ z. place bs b.id < place bs z) (sym over) (used.below bs g.root w b r m.in_b r-in) in
        let y : place bs c.id < place bs n.id = subst (λ z. place bs c.id < place bs z) (sym under) (used.below bs g.root w c s in-c s-in) in
        let e : place bs b.id ≡ place bs n.id = ap (place bs) (eqb-true b.id n.id z) in let q : ⊥ = omega arith in q)
  ]

  a-b : a b ≡ b
  a-b = ap (λ (z : Bool). cond z (more p2 b) b) b-not-n

  formed-1 : fault g1 ≡ None
  formed-1 = added-formed g u f n p2 may

  once-1 : EachOnce (numbers g1.boxes)
  once-1 = subst (λ z. EachOnce z) (sym (numbers-map a (λ y. at-all n.id (more p2) (λ z. z.id) (λ z. refl) y) bs)) u

  pub push-into-left-formed : fault (on_boxes (map (at b.id (conditioned (ps ++ qs)))) (on_boxes (map (at n.id (more (substituted_cond s.id n.parts.head (substituted_cond r.id c.parts.head p))))) g)) ≡ None
  push-into-left-formed = dropped-formed g1 once-1 formed-1 b ps p qs (lose g u f b ps p qs us r vs m g1 (subst (λ z. In z g1.boxes) a-b (map-in a b bs m.in_b)))

  abbrev h : Node → Node
  h y = d (a y)

  sound-h : Sound (map h bs) g.root
  sound-h = subst (λ z. Sound z g.root) (map-map d a bs) ((sound-checked (on_boxes (map d) g1) (subst (λ z. EachOnce z) (sym (numbers-map d (λ y. at-all b.id (conditioned (ps ++ qs)) (λ z. z.id) (λ z. refl) y) g1.boxes)) once-1)).0 push-into-left-formed).0

  module _ (tables : List Table) where
    abbrev fam : Family
    fam = bag_in tables bs

    abbrev t : Tests
    t x = cond (x == c.id) (Some (test r.id p)) (cond (x == n.id) (Some (test s.id p1)) None)

    none-at : (x : ℕ) → (x == c.id) ≡ false → (x == n.id) ≡ false → t x ≡ None
    none-at x i j = ap₂ (λ (y z : Bool). cond y (Some (test r.id p)) (cond z (Some (test s.id p1)) None)) i j

    at-c : (x : ℕ) → x ≡ c.id → t x ≡ Some (test r.id p)
    at-c x e = ap (λ (y : Bool). cond y (Some (test r.id p)) (cond (x == n.id) (Some (test s.id p1)) None)) (eq-eqb x c.id e)

    at-n : (x : ℕ) → x ≡ n.id → t x ≡ Some (test s.id p1)
    at-n x e = ap₂ (λ (y z : Bool). cond y (Some (test r.id p)) (cond z (Some (test s.id p1)) None)) (ap (λ z. z == c.id) e ∙ eq-false-sym c.id n.id c-not-n) (eq-eqb x n.id e)

    one : times c.id (overs_in bs) ≡ 1
    one = subst (λ z. times z (overs_in bs) ≡ 1) (sym over) m.one_use

    beside : (s2.id == s.id) ≡ false
    beside = split-once (λ (x : OwnedQuant). x.id) [] s (s2 ∷ []) (subst (λ z. times s.id (map (λ (x : OwnedQuant). x.id) z) ≤ 1) two (few-ids bs c s.id (w.once s.id) in-c)) s2 (inr (inl refl))

    other : (y : Node) → (y.id == b.id) ≡ false → h y ≡ a y
    other y z = ap (λ (x : Bool). cond x (conditioned (ps ++ qs) (a y)) (a y)) (ap (λ z. z == b.id) (at-all n.id (more p2) (λ z. z.id) (λ z. refl) y) ∙ z)

    pub push-into-left-agree : Agree same_cells (bag_in tables (map h bs) g.root []) (bag_in tables bs g.root [])
    push-into-left-agree = pushed-agree bs g.root w b ps p qs us r vs m tables t (at-c r.over (sym over))
        (λ x j z. none-at x.over (used.not-beside bs g.root w b r c.id m.in_b r-in (sym over) one x j z) (used.not-other bs g.root w c s n.id in-c s-in (sym under) once b m.in_b b-not-c x j))
        h (λ y. at-all b.id (conditioned (ps ++ qs)) (λ z. z.id) (λ z. refl) (a y) ∙ at-all n.id (more p2) (λ z. z.id) (λ z. refl) y)
        (λ y i. at-all b.id (conditioned (ps ++ qs)) (λ z. z.quants) (λ z. refl) (a y) ∙ at-all n.id (more p2) (λ z. z.quants) (λ z. refl) y)
        sound-h
        (none-at g.root (used.not-root bs g.root w b r c.id m.in_b r-in (sym over) one) (used.not-root bs g.root w c s n.id in-c s-in (sym under) once))
        (none-at b.id b-not-c b-not-n)
        (ap d a-b ∙ ap (λ (z : Bool). cond z (conditioned (ps ++ qs) b) b) (eq-itself b.id))
        (λ y i z e fit. elim (cases_Bool (y.id == n.id)) [
          | inl q ↦ (
              let same : y ≡ n = same-box bs y n w.ordered i in-n (eqb-true y.id n.id q) in
              subst (λ (v : Node). Agree same_cells (rows_of tables (h v) (sifted t fam) e) (sifted t fam v.id e)) (sym same)
              (subst (λ v. Agree same_cells (rows_of tables v (sifted t fam) e) (sifted t fam n.id e)) (sym (other n (eq-false-sym b.id n.id b-not-n) ∙ ap (λ (z : Bool). cond z (more p2 n) n) (eq-itself n.id)))
              (more-back bs g.root w tables t n in-n select s.id p1 (names-none p1 free1) own1 (at-n n.id refl)
              (λ x j. none-at x.over (used.not-other bs g.root w b r c.id m.in_b r-in (sym over) one n in-n (eq-false-sym b.id n.id b-not-n) x j) (eq-false-sym n.id x.over (used.apart bs g.root w n x in-n j x.over refl))) e)))
          | inr q ↦ (
              let plain : h y ≡ y = other y z ∙ ap (λ (z : Bool). cond z (more p2 y) y) q in
              subst (λ v. Agree same_cells (rows_of tables v (sifted t fam) e) (sifted t fam y.id e)) (sym plain)
              (elim (cases_Bool (y.id == c.id)) [
                | inl v ↦ (
                    let same : y ≡ c = same-box bs y c w.ordered i in-c (eqb-true y.id c.id v) in
                    subst (λ (v : Node). Agree same_cells (rows_of tables v (sifted t fam) e) (sifted t fam v.id e)) (sym same)
                    (same-agree (outer-back bs g.root w tables t c in-c kind s s2 two (eq-false-sym s2.id s.id beside) r.id p (names-none p m.node_free) m.own (λ j x q l. reads_s j q x l)
                    (at-c c.id refl) (at-n s.over (sym under))
                    (none-at s2.over (eq-false-sym c.id s2.over (used.apart bs g.root w c s2 in-c s2-in s2.over refl)) (used.not-beside bs g.root w c s n.id in-c s-in (sym under) once s2 s2-in beside)) e)))
                | inr v ↦ same-agree (untouched bs g.root w tables t y i (none-at y.id v q) (λ x j. none-at x.over (used.not-other bs g.root w b r c.id m.in_b r-in (sym over) one y i z x j) (used.not-other bs g.root w c s n.id in-c s-in (sym under) once y i v x j)) e)
              ]))
        ])
