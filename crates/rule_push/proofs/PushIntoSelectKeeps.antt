-- P1 keeps: a conjunct goes into a select, with DISTINCT or without.
use Rattle.std.proofs.Common.{ℕ, ◌==◌, ◌≡◌, ◌≤◌, cond, Bool, false, List, ◌++◌, map, length, Some, None, refl, sym, ap, subst, ◌∙◌, eqb-true, inl, inr, []}
use Rattle.std.proofs.lemmas.Bool.{cases_Bool, eq-eqb}
use Rattle.row_bag.specs.Bags.{Agree}
use Rattle.row_bag.specs.Sets.{same_cells}
use Rattle.row_bag.specs.declared.tables.Table.{Table}
use Rattle.qgm_core.specs.Boxes.{QueryGraph, numbers, overs_in}
use Rattle.qgm_core.specs.Edits.{on_boxes}
use Rattle.qgm_core.specs.Kinds.{is_fed, width_by}
use Rattle.list_laws.specs.Lists.{EachOnce, In, times}
use Rattle.qgm_core.specs.declared.kinds.BoxKind.TheVariants.{Select}
use Rattle.qgm_core.specs.declared.node.Node.{Node}
use Rattle.qgm_core.specs.declared.owned.OwnedQuant.{OwnedQuant}
use Rattle.qgm_wellformed.specs.Types.{lookup_of, types_by}
use Rattle.qgm_wellformed.specs.WellFormed.{fault}
use Rattle.qgm_meaning.specs.Meaning.{bag_in, rows_of}
use Rattle.qgm_terms.specs.Substitution.{substituted_cond}
use Rattle.qgm_terms.specs.Terms.{Cond}
use Rattle.qgm_edit_laws.specs.Graph.{Sound}
use Rattle.qgm_edit_laws.specs.Conditioned.{conditioned}
use Rattle.qgm_edit_laws.proofs.ConjunctForms.{names-none}
use Rattle.qgm_edit_laws.proofs.Conjuncts.{test}
use Rattle.qgm_edit_laws.proofs.Formed.{sound-checked}
use Rattle.qgm_edit_laws.proofs.OneBox.{at}
use Rattle.qgm_edit_laws.proofs.PartForms.{at-all}
use Rattle.qgm_edit_laws.proofs.Ranks.{same-box}
use Rattle.qgm_edit_laws.proofs.Rules.{same-agree}
use Rattle.qgm_edit_laws.specs.ConjunctEdits.{MayAddConjunct, more}
use Rattle.qgm_edit_laws.specs.PushDown.{PushesFrom}
use Rattle.qgm_edit_laws.proofs.AddConjunctForms.{added-formed}
use Rattle.qgm_edit_laws.proofs.DropConjunctForms.{dropped-formed}
use Rattle.qgm_edit_laws.proofs.PushedRows.{more-back, pushed-agree}
use Rattle.qgm_edit_laws.proofs.PutConjunct.{head-type, put-may}
use Rattle.qgm_edit_laws.specs.SiftedBags.{Tests, sifted}
use Rattle.qgm_edit_laws.proofs.SiftedBags.{untouched}
use Rattle.qgm_edit_laws.proofs.OneUse as used
use Rattle.qgm_edit_laws.proofs.OneUse.{map-map}
use Rattle.rule_facts.proofs.Compacted.{numbers-map}
use Rattle.rule_push.proofs.Leaves.{checked, in-r, lose, p-column, p-fits, p-folded}
use Rattle.list_laws.proofs.Membership.{eq-false-sym, eq-itself, map-in}

module _ (g : QueryGraph) (u : EachOnce (numbers g.boxes)) (f : fault g ≡ None) (b : Node) (ps : List Cond) (p : Cond) (qs : List Cond) (us : List OwnedQuant) (r : OwnedQuant) (vs : List OwnedQuant) (m : PushesFrom g.boxes b ps p qs us r vs)
    (c : Node) (in-c : In c g.boxes) (over : c.id ≡ r.over) (select : c.parts.kind ≡ Select) (not_fed : is_fed c.parts.role ≡ false) where
  abbrev bs : List Node
  bs = g.boxes

  w : Sound g.boxes g.root
  w = (checked g u f b ps p qs us r vs m).0

  r-in : In r b.quants
  r-in = in-r g u f b ps p qs us r vs m

  abbrev p' : Cond
  p' = substituted_cond r.id c.parts.head p

  may : MayAddConjunct g c p'
  may = put-may g u f c in-c select not_fed r.id p m.node_free m.own (p-fits g u f b ps p qs us r vs m) (p-folded g u f b ps p qs us r vs m) (λ k h.
      let l = p-column g u f b ps p qs us r vs m c in-c over k h in
      head-type g u f b r c m.in_b r-in in-c over (ap (λ z. types_by (lookup_of bs) z c.parts.head) select) k l.0 (subst (λ z. k ≤ z) (ap (λ z. width_by z (length c.parts.head)) select) l.1))

  abbrev a : Node → Node
  a = at c.id (more (substituted_cond r.id c.parts.head p))

  abbrev d : Node → Node
  d = at b.id (conditioned (ps ++ qs))

  abbrev g1 : QueryGraph
  g1 = on_boxes (map (at c.id (more (substituted_cond r.id c.parts.head p)))) g

  b-not-c : (b.id == c.id) ≡ false
  b-not-c = used.apart bs g.root w b r m.in_b r-in c.id (sym over)

  a-b : a b ≡ b
  a-b = ap (λ (z : Bool). cond z (more p' b) b) b-not-c

  formed-1 : fault g1 ≡ None
  formed-1 = added-formed g u f c p' may

  once-1 : EachOnce (numbers g1.boxes)
  once-1 = subst (λ z. EachOnce z) (sym (numbers-map a (λ y. at-all c.id (more p') (λ z. z.id) (λ z. refl) y) bs)) u

  pub push-into-select-formed : fault (on_boxes (map (at b.id (conditioned (ps ++ qs)))) (on_boxes (map (at c.id (more (substituted_cond r.id c.parts.head p)))) g)) ≡ None
  push-into-select-formed = dropped-formed g1 once-1 formed-1 b ps p qs (lose g u f b ps p qs us r vs m g1 (subst (λ z. In z g1.boxes) a-b (map-in a b bs m.in_b)))

  abbrev h : Node → Node
  h y = d (a y)

  fused : map d (map a bs) ≡ map h bs
  fused = map-map d a bs

  sound-h : Sound (map h bs) g.root
  sound-h = subst (λ z. Sound z g.root) fused ((sound-checked (on_boxes (map d) g1) (subst (λ z. EachOnce z) (sym (numbers-map d (λ y. at-all b.id (conditioned (ps ++ qs)) (λ z. z.id) (λ z. refl) y) g1.boxes)) once-1)).0 push-into-select-formed).0

  module _ (tables : List Table) where
    abbrev t : Tests
    t x = cond (x == c.id) (Some (test r.id p)) None

    none-at : (x : ℕ) → (x == c.id) ≡ false → t x ≡ None
    none-at x n = ap (λ (z : Bool). cond z (Some (test r.id p)) None) n

    some-at : (x : ℕ) → x ≡ c.id → t x ≡ Some (test r.id p)
    some-at x e = ap (λ (z : Bool). cond z (Some (test r.id p)) None) (eq-eqb x c.id e)

    id-h : (y : Node) → (h y).id ≡ y.id
    id-h y = at-all b.id (conditioned (ps ++ qs)) (λ z. z.id) (λ z. refl) (a y) ∙ at-all c.id (more p') (λ z. z.id) (λ z. refl) y

    quants-h : (y : Node) → (h y).quants ≡ y.quants
    quants-h y = at-all b.id (conditioned (ps ++ qs)) (λ z. z.quants) (λ z. refl) (a y) ∙ at-all c.id (more p') (λ z. z.quants) (λ z. refl) y

    -- another box than b
    other : (y : Node) → (y.id == b.id) ≡ false → h y ≡ a y
    other y n = ap (λ (z : Bool). cond z (conditioned (ps ++ qs) (a y)) (a y)) (ap (λ z. z == b.id) (at-all c.id (more p') (λ z. z.id) (λ z. refl) y) ∙ n)

    pub push-into-select-agree : Agree same_cells (bag_in tables (map h bs) g.root []) (bag_in tables bs g.root [])
    push-into-select-agree = pushed-agree bs g.root w b ps p qs us r vs m tables t (some-at r.over (sym over)) (λ x j n. none-at x.over (used.not-beside bs g.root w b r c.id m.in_b r-in (sym over) one x j n))
        h id-h (λ y i. quants-h y) sound-h (none-at g.root (used.not-root bs g.root w b r c.id m.in_b r-in (sym over) one)) (none-at b.id b-not-c)
        (ap d a-b ∙ ap (λ (z : Bool). cond z (conditioned (ps ++ qs) b) b) (eq-itself b.id))
        (λ y i n e ok. elim (cases_Bool (y.id == c.id)) [
          | inl k ↦ (
              let same : y ≡ c = same-box bs y c w.ordered i in-c (eqb-true y.id c.id k) in
              subst (λ (z : Node). Agree same_cells (rows_of tables (h z) (sifted t (bag_in tables bs)) e) (sifted t (bag_in tables bs) z.id e)) (sym same)
              (subst (λ z. Agree same_cells (rows_of tables z (sifted t (bag_in tables bs)) e) (sifted t (bag_in tables bs) c.id e)) (sym (other c (eq-false-sym b.id c.id b-not-c) ∙ ap (λ (z : Bool). cond z (more p' c) c) (eq-itself c.id)))
              (more-back bs g.root w tables t c in-c select r.id p (names-none p m.node_free) m.own (some-at c.id refl) (λ x j. none-at x.over (eq-false-sym c.id x.over (used.apart bs g.root w c x in-c j x.over refl))) e)))
          | inr k ↦ same-agree (ap (λ z. rows_of tables z (sifted t (bag_in tables bs)) e) (other y n ∙ ap (λ (z : Bool). cond z (more p' y) y) k)
              ∙ untouched bs g.root w tables t y i (none-at y.id k) (λ x j. none-at x.over (used.not-other bs g.root w b r c.id m.in_b r-in (sym over) one y i n x j)) e)
        ])
      where
        one : times c.id (overs_in bs) ≡ 1
        one = subst (λ z. times z (overs_in bs) ≡ 1) (sym over) m.one_use
