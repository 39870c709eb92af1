-- U2 preserves where it may fire.
use Rattle.std.proofs.Common.{ℕ, ◌==◌, ◌≡◌, ◌≤◌, true, false, List, [], ◌∷◌, ◌++◌, None, refl, sym, ap, subst, ◌∙◌, eqb-true, inl, inr, arith}
use Rattle.std.specs.List.{list_any}
use Rattle.std.proofs.lemmas.Bool.{cases_Bool, ltb-true}
use Rattle.sql_value.specs.Cells.{error_of}
use Rattle.sql_value.specs.declared.cell.Cell.{Cell}
use Rattle.sql_value.specs.declared.cell.Cell.TheVariants.{Err, Int, Null, Text}
use Rattle.row_bag.specs.Order.{cell_of}
use Rattle.row_bag.specs.Verdict.{is_there}
use Rattle.row_bag.specs.declared.row.Row.{Row}
use Rattle.row_bag.specs.declared.tables.Table.{Table}
use Rattle.qgm_core.specs.Boxes.{QueryGraph, has_box, is_box, numbers, overs_in, overs_of, owns, width}
use Rattle.qgm_core.specs.Kinds.{is_S}
use Rattle.list_laws.specs.Lists.{EachOnce, In, times}
use Rattle.qgm_core.specs.declared.node.Node.{Node}
use Rattle.qgm_core.specs.declared.owned.OwnedQuant.{OwnedQuant}
use Rattle.qgm_wellformed.specs.WellFormed.{fault}
use Rattle.qgm_wellformed.proofs.Faults.{finds-none}
use Rattle.qgm_meaning.specs.Meaning.{bag_in}
use Rattle.qgm_meaning.specs.Satisfies.{Satisfies, SatisfiesBy}
use Rattle.qgm_meaning.specs.Searches.{binds, binds_cond}
use Rattle.qgm_meaning.specs.Values.{Bag}
use Rattle.qgm_props.specs.Facts as props
use Rattle.qgm_edit_laws.specs.Adds.{onto}
use Rattle.qgm_edit_laws.specs.Graph.{Sound}
use Rattle.qgm_edit_laws.specs.KeepsOver.{KeepsOver}
use Rattle.rule_subquery.specs.ScalarToGroupLaws.{MaySingle, SafeSingle, single_box, singled}
use Rattle.qgm_edit_laws.proofs.BoxForms.{scalar-column}
use Rattle.qgm_edit_laws.proofs.Interposed.{onto-kind}
use Rattle.qgm_edit_laws.proofs.Levels.{some-in}
use Rattle.rule_subquery.proofs.ScalarToGroupFormed.{single-formed}
use Rattle.rule_subquery.proofs.ScalarToGroupMeans.{single-keeps}
use Rattle.qgm_edit_laws.proofs.WellFormedKept.{numbers-once}
use Rattle.qgm_edit_laws.proofs.Satisfied.{satisfies-by}
use Rattle.qgm_edit_laws.proofs.CheckedParts.{shaped, sound, typed}
use Rattle.qgm_edit_laws.proofs.ScalarUnbound.{unbound}
use Rattle.qgm_edit_laws.specs.Facts as laws
use Rattle.rule_api.specs.Rules.{Preserves}
use Rattle.rule_api.specs.declared.place.Place.{Place}
use Rattle.rule_facts.proofs.FactsThere.{here-at, there}
use Rattle.rule_facts.proofs.Actions.{then-compact}
use Rattle.rule_facts.specs.Places.{ActionPreserves}
use Rattle.rule_subquery.specs.ScalarToGroup.{GroupsBox, MayScalarToGroupAt, MayScalarToGroup, GroupsScalar}
use Rattle.list_laws.proofs.Booleans.{neither-left, neither-right}
use Rattle.list_laws.proofs.Membership.{in-right}
use Rattle.list_laws.proofs.Counting.{in-times, times-in}

-- what is inferred of a column says that it holds no error
sound-cell : (x : Cell) → props.is_sound x ≡ true → error_of x ≡ None
sound-cell (Int n) h = refl
sound-cell (Text s) h = refl
sound-cell Null h = refl
sound-cell (Err k) h = absurd (let z : ⊥ = cc in z)

free-rows : (k : ℕ) (rows : Bag) → props.IsErrorFree k rows → laws.IsErrorFree k rows
free-rows k [] h r i t = elim i [ ]
free-rows k (x ∷ xs) h r i t = elim i [
  | inl e ↦ subst (λ (z : Row (List Cell)). is_there z ≡ true → error_of (cell_of k z.cells) ≡ None) e (λ t. sound-cell (cell_of k x.cells) (h.0 t)) t
  | inr j ↦ free-rows k xs h.1 r j t
]

inserted : (tables : List Table) (s : Node) → SatisfiesBy s.parts.kind tables → (xs ys : List Node) → Satisfies tables (xs ++ ys) → Satisfies tables (xs ++ s ∷ ys)
inserted tables s h [] ys k = (h, k)
inserted tables s h (x ∷ xs) ys k = (k.0, inserted tables s h xs ys k.1)

module _ (g : QueryGraph) (u : EachOnce (numbers g.boxes)) (f : fault g ≡ None) (p : Place) (b : Node) (us : List OwnedQuant) (r : OwnedQuant) (vs : List OwnedQuant) (m : MayScalarToGroupAt p g b us r vs) (h : QueryGraph) (a : GroupsBox g h b r) where
  pub in-b : In b g.boxes
  in-b = here-at g u f b p.at m.at

  in-c : In a.c g.boxes
  in-c = here-at g u f a.c r.over a.under

  pub c-is : a.c.id ≡ r.over
  c-is = eqb-true a.c.id r.over (some-in (is_box r.over) g.boxes a.c a.under).1

  pub in-r : In r b.quants
  in-r = subst (λ z. In r z) (sym m.split) (in-right r us (r ∷ vs) (inl refl))

  w : Sound g.boxes g.root
  w = sound g u f

  loose-nodes : list_any (binds r.id) b.parts.head ≡ false × (list_any (binds_cond r.id) b.parts.conds.items ≡ false)
  loose-nodes = let z = unbound g.boxes g.root w (shaped g u f) b in-b r in-r m.is_s in
      (neither-left (list_any (binds r.id) b.parts.head) (list_any (binds_cond r.id) b.parts.conds.items) z, neither-right (list_any (binds r.id) b.parts.head) (list_any (binds_cond r.id) b.parts.conds.items) z)

  root-away : (a.c.id == g.root) ≡ false
  root-away = elim (cases_Bool (a.c.id == g.root)) [
    | inr n ↦ n
    | inl t ↦ absurd (
        let s : r.over ≡ g.root = sym c-is ∙ eqb-true a.c.id g.root t in
        let x : 1 ≤ times r.over (overs_of b) = in-times (λ (x : OwnedQuant). x.over) r b.quants in-r in
        let y = times-in overs_of r.over b g.boxes in-b in
        let z : times r.over (overs_in g.boxes) ≡ 0 = ap (λ z. times z (overs_in g.boxes)) s ∙ w.top in omega arith)
  ]

  pub single : MaySingle a.xs a.ys g.root a.group a.quant b a.c r
  single = record {
    in_o = a.before;
    in_c = a.behind;
    a_select = m.select;
    owned = in-r;
    is_s = m.is_s;
    over_c = sym c-is;
    column = ltb-true 0 (width a.c) (scalar-column g.boxes g.root (typed g u f) (shaped g u f) b a.c r in-b in-r (ap is_S m.is_s) in-c c-is);
    not_root = root-away;
    new_box = subst (λ z. has_box z a.group ≡ false) a.parted a.new_box;
    new_quant = subst (λ z. list_any (owns a.quant) z ≡ false) a.parted a.new_quant;
    scalars = loose-nodes.0;
    scalars_conds = loose-nodes.1;
  }

  safe : SafeSingle g.boxes a.c
  safe tables s env fit = elim m.safe [
    | inl e ↦ inl (free-rows 1 (bag_in tables g.boxes a.c.id env) (subst (λ z. props.IsErrorFree 1 (bag_in tables g.boxes z env)) (sym c-is) ((there g u f tables s env fit).error_free r.over 1 e)))
    | inr e ↦ inr (subst (λ z. props.HasAtMostOne (bag_in tables g.boxes z env)) (sym c-is) ((there g u f tables s env fit).at_most_one r.over e))
  ]

  abbrev made : QueryGraph
  made = singled a.xs a.ys a.group a.quant b a.c r g

  pub group-preserves : Preserves g made
  group-preserves = record {
    formed = (finds-none made once).0 (single-formed a.xs a.ys g a.parted u f a.group a.quant b a.c r single);
    bag = k.bag;
    bases = λ tables s. satisfies-by tables (onto b.id r.id a.group) (a.xs ++ (single_box a.group a.quant a.c.id) ∷ a.ys) (λ y j i. subst (λ z. SatisfiesBy z tables) (sym (onto-kind b.id r.id a.group y)) i)
        (inserted tables (single_box a.group a.quant a.c.id) tt a.xs a.ys (subst (Satisfies tables) a.parted s));
    names = refl;
    order = refl;
  }
    where
      k : KeepsOver g made
      k = single-keeps a.xs a.ys g a.parted w a.group a.quant b a.c r single safe

      once : EachOnce (numbers made.boxes)
      once = numbers-once made.boxes k.well.ordered

  pub scalar-grouped-keeps : Preserves g h
  scalar-grouped-keeps = subst (λ z. Preserves g z) (sym a.after) (then-compact g made (numbers-once made.boxes (single-keeps a.xs a.ys g a.parted w a.group a.quant b a.c r single safe).well.ordered) group-preserves)

pub scalar-to-group-preserves : ActionPreserves MayScalarToGroup GroupsScalar
unfolding GroupsScalar
scalar-to-group-preserves g h u w p may e = scalar-grouped-keeps g u ((finds-none g u).1 w) p e.0 e.1.0 e.1.1.0 e.1.1.1.0 e.1.1.1.1.0 h e.1.1.1.1.1
