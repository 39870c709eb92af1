-- P1 to P4 preserve, at a place.
use Rattle.std.proofs.Common.{◌≡◌, true, List, ◌++◌, map, length, None, refl, sym, ap, subst, ◌∙◌, eqb-true, []}
use Rattle.row_bag.specs.Bags.{Agree}
use Rattle.row_bag.specs.Sets.{same_cells}
use Rattle.row_bag.specs.declared.tables.Table.{Table}
use Rattle.qgm_core.specs.declared.kinds.SetOperator.{SetOperator}
use Rattle.qgm_core.specs.declared.kinds.SetOperator.TheVariants.{UnionAll, Union, IntersectAll, Intersect, ExceptAll, Except}
use Rattle.qgm_core.specs.Boxes.{QueryGraph, is_box, numbers}
use Rattle.qgm_core.specs.Edits.{compact, on_boxes}
use Rattle.qgm_core.specs.Kinds.{is_fed}
use Rattle.list_laws.specs.Lists.{EachOnce, In}
use Rattle.qgm_core.specs.declared.node.Node.{Node}
use Rattle.qgm_core.specs.declared.owned.OwnedQuant.{OwnedQuant}
use Rattle.qgm_wellformed.specs.Sentences.{WellFormed}
use Rattle.qgm_wellformed.specs.WellFormed.{fault}
use Rattle.qgm_wellformed.proofs.Faults.{finds-none}
use Rattle.qgm_core.specs.declared.kinds.BoxKind.TheVariants.{SetOp}
use Rattle.qgm_meaning.specs.Filters.{PassableBy}
use Rattle.qgm_meaning.specs.Fits.{fits}
use Rattle.qgm_meaning.specs.Meaning.{bag_in}
use Rattle.qgm_meaning.specs.Satisfies.{Satisfies}
use Rattle.qgm_meaning.specs.Values.{Environment}
use Rattle.qgm_props.specs.Inferred.{Facts}
use Rattle.qgm_props.specs.Laws.{Tells}
use Rattle.qgm_terms.specs.Substitution.{substituted_cond}
use Rattle.qgm_terms.specs.Terms.{Cond}
use Rattle.qgm_edit_laws.specs.Conditioned.{conditioned}
use Rattle.qgm_edit_laws.proofs.Conjuncts.{test}
use Rattle.qgm_edit_laws.proofs.Levels.{some-in}
use Rattle.qgm_edit_laws.proofs.OneBox.{at}
use Rattle.qgm_edit_laws.proofs.PartForms.{at-all}
use Rattle.rule_api.specs.Rules.{Preserves}
use Rattle.rule_push.specs.PushIntoArms.{ArmsDecided, DecidedBy, IsSetOpUnder}
use Rattle.rule_push.specs.Pushable.{Input, Pushable}
use Rattle.rule_push.specs.PushIntoLeft.{IsOuterJoinUnder}
use Rattle.rule_push.specs.PushIntoSelect.{IsSelectUnder}
use Rattle.rule_push.specs.PushThroughGroup.{IsGroupUnder}
use Rattle.rule_push.specs.Laws.{PushIntoArmsPreserves, PushIntoLeftPreserves, PushIntoSelectPreserves, PushThroughGroupPreserves}
use Rattle.qgm_edit_laws.specs.ConjunctEdits.{put_conjunct, with_conjuncts, more}
use Rattle.rule_facts.proofs.Compacted.{mapped-preserves}
use Rattle.rule_push.proofs.PushIntoLeftKeeps.{push-into-left-agree, push-into-left-formed}
use Rattle.rule_push.proofs.PushIntoSelectKeeps.{push-into-select-agree, push-into-select-formed}
use Rattle.rule_push.proofs.PushIntoArmsKeeps.{push-into-arms-agree, push-into-arms-formed, sets-passable}
use Rattle.rule_push.proofs.PushThroughGroupKeeps.{push-through-group-agree, push-through-group-formed}
use Rattle.qgm_edit_laws.proofs.OneUse.{map-map}

module _ (g : QueryGraph) (u : EachOnce (numbers g.boxes)) (w : WellFormed g) (b c : Node) (ps : List Cond) (p : Cond) (qs : List Cond) (us : List OwnedQuant) (r : OwnedQuant) (vs : List OwnedQuant) (m : Pushable g b c ps p qs us r vs) where
  none : fault g ≡ None
  none = (finds-none g u).1 w

  in-c : In c g.boxes
  in-c = (some-in (is_box r.over) g.boxes c m.under).0

  over-c : c.id ≡ r.over
  over-c = eqb-true c.id r.over (some-in (is_box r.over) g.boxes c m.under).1

  in-input : (s : OwnedQuant) (n : Node) → Input g s n → In n g.boxes
  in-input s n i = (some-in (is_box s.over) g.boxes n i.under).0

  over-input : (s : OwnedQuant) (n : Node) → Input g s n → n.id ≡ s.over
  over-input s n i = eqb-true n.id s.over (some-in (is_box s.over) g.boxes n i.under).1

  -- a conjunct is put in n, and b's goes
  one : (n : Node) (p' : Cond) → fault (with_conjuncts b (ps ++ qs) (put_conjunct n p' g)) ≡ None
      → ((tables : List Table) → Satisfies tables g.boxes → Agree same_cells (bag_in tables (map (λ y. at b.id (conditioned (ps ++ qs)) (at n.id (more p') y)) g.boxes) g.root []) (bag_in tables g.boxes g.root []))
      → Preserves g (compact (with_conjuncts b (ps ++ qs) (put_conjunct n p' g)))
  one n p' f agree =
      let d : Node → Node = at b.id (conditioned (ps ++ qs)) in
      let a : Node → Node = at n.id (more p') in
      let fused : on_boxes (map d) (on_boxes (map a) g) ≡ on_boxes (map (λ y. d (a y))) g = ap (λ (z : List Node). record g { boxes = z }) (map-map d a g.boxes) in
      subst (λ z. Preserves g (compact z)) (sym fused)
      (mapped-preserves g u (λ y. d (a y)) (λ y. at-all b.id (conditioned (ps ++ qs)) (λ z. z.id) (λ z. refl) (a y) ∙ at-all n.id (more p') (λ z. z.id) (λ z. refl) y)
      (λ y. at-all b.id (conditioned (ps ++ qs)) (λ z. z.parts.kind) (λ z. refl) (a y) ∙ at-all n.id (more p') (λ z. z.parts.kind) (λ z. refl) y)
      (subst (λ z. fault z ≡ None) fused f) agree)

  pub into-select : IsSelectUnder p r c → Preserves g (compact (with_conjuncts b (ps ++ qs) (put_conjunct c (substituted_cond r.id c.parts.head p) g)))
  into-select x = one c (substituted_cond r.id c.parts.head p)
      (push-into-select-formed g u none b ps p qs us r vs m.from c in-c over-c x.select (ap is_fed x.plain))
      (λ tables s. push-into-select-agree g u none b ps p qs us r vs m.from c in-c over-c x.select (ap is_fed x.plain) tables)

  pub through-group : (known : Facts) → Tells known g.boxes → (x : IsGroupUnder g known p r c)
      → Preserves g (compact (with_conjuncts b (ps ++ qs) (put_conjunct x.n (substituted_cond x.s.id x.n.parts.head (substituted_cond r.id c.parts.head p)) g)))
  through-group known tells x = one x.n (substituted_cond x.s.id x.n.parts.head (substituted_cond r.id c.parts.head p))
      (push-through-group-formed g u none b ps p qs us r vs m.from c in-c over-c x.k x.kind x.s x.alone x.n (in-input x.s x.n x.input) (over-input x.s x.n x.input) x.input.one_use x.input.select (ap is_fed x.input.plain) x.keys)
      (λ tables sat. push-through-group-agree g u none b ps p qs us r vs m.from c in-c over-c x.k x.kind x.s x.alone x.n (in-input x.s x.n x.input) (over-input x.s x.n x.input) x.input.one_use x.input.select (ap is_fed x.input.plain) x.keys known tells x.keys_free x.p_free x.clean tables sat)

  pub into-left : (x : IsOuterJoinUnder g p r c) → Preserves g (compact (with_conjuncts b (ps ++ qs) (put_conjunct x.n (substituted_cond x.s.id x.n.parts.head (substituted_cond r.id c.parts.head p)) g)))
  into-left x = one x.n (substituted_cond x.s.id x.n.parts.head (substituted_cond r.id c.parts.head p))
      (push-into-left-formed g u none b ps p qs us r vs m.from c in-c over-c x.kind x.s x.t x.two x.n (in-input x.s x.n x.input) (over-input x.s x.n x.input) x.input.one_use x.input.select (ap is_fed x.input.plain) x.lefts)
      (λ tables sat. push-into-left-agree g u none b ps p qs us r vs m.from c in-c over-c x.kind x.s x.t x.two x.n (in-input x.s x.n x.input) (over-input x.s x.n x.input) x.input.one_use x.input.select (ap is_fed x.input.plain) x.lefts tables)

  module _ (known : Facts) (x : IsSetOpUnder g known p r c) where
    in-1 : In x.n g.boxes
    in-1 = in-input x.s x.n x.first

    in-2 : In x.m g.boxes
    in-2 = in-input x.t x.m x.second

    decided : (form : SetOperator) → c.parts.kind ≡ SetOp form x.types → ArmsDecided g known p (length x.types) x.n x.m → (tables : List Table) → Satisfies tables g.boxes → (e : Environment) → fits (bag_in tables g.boxes) g.boxes e ≡ true
        → PassableBy form (test r.id p) (bag_in tables g.boxes x.s.over e) (bag_in tables g.boxes x.t.over e)
    decided form k d tables sat e fit = sets-passable g u none b ps p qs us r vs m.from c in-c over-c form x.types k x.s x.t x.two x.n x.m in-1 in-2 (over-input x.s x.n x.first) (over-input x.t x.m x.second) x.first.one_use x.second.one_use x.first.select x.second.select (ap is_fed x.first.plain) (ap is_fed x.second.plain)
        known d.p_free d.clean_first d.clean_second d.free_first d.free_second tables sat e fit

    passable-by : (form : SetOperator) → c.parts.kind ≡ SetOp form x.types → DecidedBy form g known p (length x.types) x.n x.m → (tables : List Table) → Satisfies tables g.boxes → (e : Environment) → fits (bag_in tables g.boxes) g.boxes e ≡ true
        → PassableBy form (test r.id p) (bag_in tables g.boxes x.s.over e) (bag_in tables g.boxes x.t.over e)
    passable-by UnionAll k d tables sat e fit = tt
    passable-by Union k d tables sat e fit = tt
    passable-by IntersectAll k d tables sat e fit = decided IntersectAll k d tables sat e fit
    passable-by Intersect k d tables sat e fit = decided Intersect k d tables sat e fit
    passable-by ExceptAll k d tables sat e fit = decided ExceptAll k d tables sat e fit
    passable-by Except k d tables sat e fit = decided Except k d tables sat e fit

    pub into-arms : Preserves g (compact (with_conjuncts b (ps ++ qs) (put_conjunct x.m (substituted_cond r.id x.m.parts.head p) (put_conjunct x.n (substituted_cond r.id x.n.parts.head p) g))))
    into-arms =
        let d : Node → Node = at b.id (conditioned (ps ++ qs)) in
        let p1 : Cond = substituted_cond r.id x.n.parts.head p in
        let p2 : Cond = substituted_cond r.id x.m.parts.head p in
        let a1 : Node → Node = at x.n.id (more p1) in
        let a2 : Node → Node = at x.m.id (more p2) in
        let fused : on_boxes (map d) (on_boxes (map a2) (on_boxes (map a1) g)) ≡ on_boxes (map (λ y. d (a2 (a1 y)))) g = ap (λ (z : List Node). record g { boxes = z }) (ap (map d) (map-map a2 a1 g.boxes) ∙ map-map d (λ y. a2 (a1 y)) g.boxes) in
        subst (λ z. Preserves g (compact z)) (sym fused)
        (mapped-preserves g u (λ y. d (a2 (a1 y)))
        (λ y. at-all b.id (conditioned (ps ++ qs)) (λ z. z.id) (λ z. refl) (a2 (a1 y)) ∙ at-all x.m.id (more p2) (λ z. z.id) (λ z. refl) (a1 y) ∙ at-all x.n.id (more p1) (λ z. z.id) (λ z. refl) y)
        (λ y. at-all b.id (conditioned (ps ++ qs)) (λ z. z.parts.kind) (λ z. refl) (a2 (a1 y)) ∙ at-all x.m.id (more p2) (λ z. z.parts.kind) (λ z. refl) (a1 y) ∙ at-all x.n.id (more p1) (λ z. z.parts.kind) (λ z. refl) y)
        (subst (λ z. fault z ≡ None) fused (push-into-arms-formed g u none b ps p qs us r vs m.from c in-c over-c x.form x.types x.kind x.s x.t x.two x.n x.m in-1 in-2 (over-input x.s x.n x.first) (over-input x.t x.m x.second) x.first.one_use x.second.one_use x.first.select x.second.select (ap is_fed x.first.plain) (ap is_fed x.second.plain)))
        (λ tables sat. push-into-arms-agree g u none b ps p qs us r vs m.from c in-c over-c x.form x.types x.kind x.s x.t x.two x.n x.m in-1 in-2 (over-input x.s x.n x.first) (over-input x.t x.m x.second) x.first.one_use x.second.one_use x.first.select x.second.select (ap is_fed x.first.plain) (ap is_fed x.second.plain) tables
        (λ e fit. passable-by x.form x.kind x.decided tables sat e fit)))

-- ---- at a place

pub push-into-select-preserves : PushIntoSelectPreserves
push-into-select-preserves g h u w at x =
    let m = x.may in
    subst (λ z. Preserves g z) (sym x.after) (into-select g u w m.b m.c m.ps m.p m.qs m.us m.r m.vs m.pushable m.fits)

pub push-through-group-preserves : PushThroughGroupPreserves
push-through-group-preserves g h u w at x =
    let m = x.given.may in
    subst (λ z. Preserves g z) (sym x.after) (through-group g u w m.b m.c m.ps m.p m.qs m.us m.r m.vs m.pushable x.given.known x.given.tells m.fits)

pub push-into-arms-preserves : PushIntoArmsPreserves
push-into-arms-preserves g h u w at x =
    let m = x.given.may in
    subst (λ z. Preserves g z) (sym x.after) (into-arms g u w m.b m.c m.ps m.p m.qs m.us m.r m.vs m.pushable x.given.known m.fits)

pub push-into-left-preserves : PushIntoLeftPreserves
push-into-left-preserves g h u w at x =
    let m = x.may in
    subst (λ z. Preserves g z) (sym x.after) (into-left g u w m.b m.c m.ps m.p m.qs m.us m.r m.vs m.pushable m.fits)
