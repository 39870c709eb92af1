-- N2 preserves.
use Rattle.std.proofs.Common.{ℕ, ◌==◌, ◌≡◌, ◌&&◌, ◌≤◌, not, cond, Bool, true, false, List, ◌∷◌, ◌++◌, map, filter, Some, None, refl, sym, ap, ap₂, subst, ◌∙◌, eqb-true, inl, inr, []}
use Rattle.std.specs.List.{list_any}
use Rattle.std.proofs.lemmas.Bool.{cases_Bool, or_parts}
use Rattle.row_bag.specs.Bags.{Agree, unit}
use Rattle.row_bag.specs.Sets.{same_cells}
use Rattle.row_bag.specs.declared.tables.Table.{Table}
use Rattle.qgm_core.specs.Boxes.{QueryGraph, box_of, is_box, is_quant, numbers, owns}
use Rattle.qgm_core.specs.Free.{reached}
use Rattle.qgm_core.specs.Kinds.{is_F, is_fed}
use Rattle.list_laws.specs.Lists.{EachOnce, In, change, holds, times}
use Rattle.qgm_core.specs.declared.kinds.BoxKind.{BoxKind}
use Rattle.qgm_core.specs.declared.node.Node.{Node}
use Rattle.qgm_core.specs.declared.owned.OwnedQuant.{OwnedQuant}
use Rattle.qgm_wellformed.specs.Sentences.{WellFormed}
use Rattle.qgm_wellformed.specs.WellFormed.{fault}
use Rattle.qgm_wellformed.proofs.Faults.{finds-none}
use Rattle.qgm_meaning.specs.Fits.{fits}
use Rattle.qgm_meaning.specs.Meaning.{bag_in, root_bag}
use Rattle.qgm_meaning.specs.Rules.{selecting}
use Rattle.qgm_meaning.specs.Satisfies.{Satisfies}
use Rattle.qgm_meaning.specs.Scope.{loose, read_by, under_any}
use Rattle.qgm_meaning.specs.Searches.{names, names_cond}
use Rattle.qgm_meaning.specs.Values.{Environment}
use Rattle.qgm_meaning.proofs.Gone.{one-row_goes}
use Rattle.qgm_edit_laws.specs.Graph.{Sound, binds_row, nodes_in}
use Rattle.qgm_edit_laws.specs.Shaped.{Shaped, Typed}
use Rattle.qgm_edit_laws.proofs.Compact.{nearly-bag}
use Rattle.qgm_edit_laws.proofs.Edits.{once-each, split-once}
use Rattle.qgm_edit_laws.proofs.Formed.{sound-checked}
use Rattle.qgm_edit_laws.proofs.OneBox.{at, change-at}
use Rattle.qgm_edit_laws.proofs.PartForms.{at-all}
use Rattle.qgm_edit_laws.proofs.Quants.{unlooked}
use Rattle.qgm_edit_laws.proofs.Ranks.{same-box}
use Rattle.qgm_edit_laws.proofs.Scope.{in-first}
use Rattle.qgm_edit_laws.proofs.Scoped.{few-ids}
use Rattle.qgm_edit_laws.proofs.WellFormedKept.{numbers-once}
use Rattle.rule_api.specs.Rules.{Preserves}
use Rattle.rule_prune.specs.DropQuantifier.{IsUnreadRow, others}
use Rattle.qgm_edit_laws.specs.DropQuants.{MayLose, with_those, without_those}
use Rattle.qgm_props.proofs.FactsIn.{clean-in, exactly-in}
use Rattle.qgm_meaning.proofs.OneClean.{one-agrees, the_row}
use Rattle.rule_facts.proofs.Premises.{premises}
use Rattle.rule_facts.proofs.Preserved.{satisfies-kept, satisfies-map}
use Rattle.qgm_edit_laws.proofs.DropQuants.{those-formed, those-nearly, those-sound}
use Rattle.list_laws.proofs.Membership.{any-from, any-not, eq-itself}
use Rattle.list_laws.proofs.Booleans.{clash}

-- of a list in which one stands, the others
left-out : (q : ℕ) (rs : List OwnedQuant) → list_any (is_quant q) rs ≡ false → filter (λ (x : OwnedQuant). not (x.id == q)) rs ≡ rs
left-out q [] h = refl
left-out q (r ∷ rs) h =
    let a = or_parts (r.id == q) (list_any (is_quant q) rs) h in
    ap (λ (t : Bool). cond (not t) (r ∷ filter (λ (x : OwnedQuant). not (x.id == q)) rs) (filter (λ (x : OwnedQuant). not (x.id == q)) rs)) a.0 ∙ ap (λ z. r ∷ z) (left-out q rs a.1)

one-out : (r : OwnedQuant) (us vs : List OwnedQuant) → list_any (is_quant r.id) us ≡ false → list_any (is_quant r.id) vs ≡ false → filter (λ (x : OwnedQuant). not (x.id == r.id)) (us ++ r ∷ vs) ≡ us ++ vs
one-out r [] vs hu hv = ap (λ (t : Bool). cond (not t) (r ∷ filter (λ (x : OwnedQuant). not (x.id == r.id)) vs) (filter (λ (x : OwnedQuant). not (x.id == r.id)) vs)) (eq-itself r.id) ∙ left-out r.id vs hv
one-out r (u ∷ us) vs hu hv =
    let a = or_parts (u.id == r.id) (list_any (is_quant r.id) us) hu in
    ap (λ (t : Bool). cond (not t) (u ∷ filter (λ (x : OwnedQuant). not (x.id == r.id)) (us ++ r ∷ vs)) (filter (λ (x : OwnedQuant). not (x.id == r.id)) (us ++ r ∷ vs))) a.0 ∙ ap (λ z. u ∷ z) (one-out r us vs a.1 hv)

module _ (g : QueryGraph) (u : EachOnce (numbers g.boxes)) (wf : WellFormed g) (b : Node) (us : List OwnedQuant) (r : OwnedQuant) (vs : List OwnedQuant) (m : IsUnreadRow g b us r vs) where
  abbrev bs : List Node
  bs = g.boxes

  none : fault g ≡ None
  none = (finds-none g u).1 wf

  ok : Sound g.boxes g.root × Typed g.boxes × Shaped g.boxes g.root
  ok = (sound-checked g u).0 none

  w : Sound g.boxes g.root
  w = ok.0

  abbrev keep : ℕ → Bool
  keep = others r.id

  in-mid : (xs : List OwnedQuant) → In r (xs ++ r ∷ vs)
  in-mid [] = inl refl
  in-mid (x ∷ xs) = inr (in-mid xs)

  in-r : In r b.quants
  in-r = subst (λ z. In r z) (sym m.split) (in-mid us)

  own : owns r.id b ≡ true
  own = any-from (is_quant r.id) r b.quants in-r (eq-itself r.id)

  same-id : (x : OwnedQuant) → others r.id x.id ≡ false → x.id ≡ r.id
  same-id x n = elim (cases_Bool (x.id == r.id)) [ inl t ↦ eqb-true x.id r.id t | inr f ↦ absurd (let z : not (x.id == r.id) ≡ true = ap not f in clash (not (x.id == r.id)) z n) ]

  -- no node is of an F quantifier
  no-node : nodes_in r.id b ≡ false
  no-node = elim (cases_Bool (nodes_in r.id b)) [
    | inr f ↦ f
    | inl t ↦ absurd (clash (binds_row r.id b.quants) (any-from (λ x. is_F x.kind && is_quant r.id x) r b.quants in-r (ap₂ (λ x y. x && y) m.is_f (eq-itself r.id))) (w.own_nodes b m.within r.id t).1)
  ]

  lose : MayLose bs b (others r.id)
  lose = record {
    within = m.within;
    select = m.select;
    not_fed = ap is_fed m.plain;
    unread = λ x i n y j. subst (λ z. read_by y z ≡ false) (sym (same-id x n)) (m.unread y j);
    no_node = λ x i n. subst (λ z. nodes_in z b ≡ false) (sym (same-id x n)) no-node;
  }

  few : times r.id (map (λ (x : OwnedQuant). x.id) (us ++ r ∷ vs)) ≤ 1
  few = subst (λ z. times r.id (map (λ (x : OwnedQuant). x.id) z) ≤ 1) m.split (few-ids bs b r.id (w.once r.id) m.within)

  not-us : list_any (is_quant r.id) us ≡ false
  not-us = any-not (is_quant r.id) us (λ x i. split-once (λ (x : OwnedQuant). x.id) us r vs few x (inl i))

  not-vs : list_any (is_quant r.id) vs ≡ false
  not-vs = any-not (is_quant r.id) vs (λ x i. split-once (λ (x : OwnedQuant). x.id) us r vs few x (inr i))

  node-is : b ≡ selecting b.id b.parts b.parts.distinct b.parts.conds.items b.parts.head (us ++ r ∷ vs)
  node-is = ap₂ (λ (k : BoxKind) (rs : List OwnedQuant). record b { parts = record b.parts { kind = k }; quants = rs }) m.select m.split

  abbrev less : Node
  less = selecting b.id b.parts b.parts.distinct b.parts.conds.items b.parts.head (us ++ vs)

  less-is : with_those (others r.id) b ≡ selecting b.id b.parts b.parts.distinct b.parts.conds.items b.parts.head (us ++ vs)
  less-is = ap₂ (λ (k : BoxKind) (rs : List OwnedQuant). record b { parts = record b.parts { kind = k }; quants = rs }) m.select (ap (λ (rs : List OwnedQuant). filter (λ (x : OwnedQuant). not (x.id == r.id)) rs) m.split ∙ one-out r us vs not-us not-vs)

  found : box_of b.id g ≡ Some (selecting b.id b.parts b.parts.distinct b.parts.conds.items b.parts.head (us ++ r ∷ vs))
  found = in-first b bs w.ordered m.within ∙ ap Some node-is

  changed : change (is_box b.id) (λ _. selecting b.id b.parts b.parts.distinct b.parts.conds.items b.parts.head (us ++ vs)) bs ≡ map (at b.id (with_those (others r.id))) bs
  changed = change-at b.id (λ _. less) bs (once-each bs w.ordered) ∙ each bs (λ y i. i)
    where
      each : (ns : List Node) → ((y : Node) → In y ns → In y bs) → map (at b.id (λ _. less)) ns ≡ map (at b.id (with_those (others r.id))) ns
      each [] sub = refl
      each (y ∷ ns) sub = ap₂ (λ (z : Node) (zs : List Node). z ∷ zs) (elim (cases_Bool (y.id == b.id)) [
        | inr n ↦ ap (λ (t : Bool). cond t less y) n ∙ sym (ap (λ (t : Bool). cond t (with_those (others r.id) y) y) n)
        | inl t ↦ (
            let same : y ≡ b = same-box bs y b w.ordered (sub y (inl refl)) m.within (eqb-true y.id b.id t) in
            ap (λ (t : Bool). cond t less y) t ∙ sym (ap (λ (t : Bool). cond t (with_those (others r.id) y) y) t ∙ ap (with_those (others r.id)) same ∙ less-is))
      ]) (each ns (λ x i. sub x (inr i)))

  names-none : (list_any (names r.id) b.parts.head ≡ false) × (list_any (names_cond r.id) b.parts.conds.items ≡ false)
  names-none = or_parts (list_any (names r.id) b.parts.head) (list_any (names_cond r.id) b.parts.conds.items) no-node

  unlooked-r : under_any (us ++ r ∷ vs) (loose bs) r.id ≡ false
  unlooked-r = any-not (λ x. loose bs x.over r.id) (us ++ r ∷ vs) (λ x i. unlooked bs r.id w.once m.unread x.over)

  module _ (tables : List Table) (sat : Satisfies tables g.boxes) where
    one : (e : Environment) → fits (bag_in tables bs) bs e ≡ true → Agree same_cells (bag_in tables bs r.over e) (unit (the_row (bag_in tables bs r.over e)))
    one e fit = one-agrees (bag_in tables bs r.over e) (clean-in tables bs (premises bs g.root w tables sat) e fit r.over m.clean) (exactly-in tables bs (premises bs g.root w tables sat) e fit r.over m.one)

    pub quantifier-agree : Agree same_cells (root_bag tables (without_those b (others r.id) g)) (root_bag tables g)
    quantifier-agree =
        let v = those-nearly bs g.root w b (others r.id) lose in
        subst (λ z. Agree same_cells z (root_bag tables g)) (sym (nearly-bag (map (at b.id (with_those (others r.id))) bs) g.root v tables []))
        (subst (λ z. Agree same_cells (bag_in tables z g.root []) (root_bag tables g)) changed
        (one-row_goes tables g b.id b.parts b.parts.distinct b.parts.conds.items b.parts.head us r vs (λ e. the_row (bag_in tables bs r.over e)) w.ordered found m.is_f not-us not-vs names-none.0 names-none.1
        (subst (λ (z : Node). read_by z r.id ≡ false) node-is (m.unread b m.within)) unlooked-r one g.root w.rooted [] refl))

  pub quantifier-preserves : Preserves g (without_those b (others r.id) g)
  quantifier-preserves =
      let f = those-formed g u none b (others r.id) lose m.last in
      let v = those-sound bs g.root w b (others r.id) lose in
      record {
        formed = (finds-none (without_those b (others r.id) g) (numbers-once (without_those b (others r.id) g).boxes v.ordered)).0 f;
        bag = λ tables s. quantifier-agree tables s;
        bases = λ tables s. satisfies-kept tables (λ x. holds x (reached (g.root ∷ []) (map (at b.id (with_those (others r.id))) bs))) (map (at b.id (with_those (others r.id))) bs)
            (satisfies-map tables (at b.id (with_those (others r.id))) (λ y. at-all b.id (with_those (others r.id)) (λ z. z.parts.kind) (λ z. refl) y) bs s);
        names = refl;
        order = refl;
      }
