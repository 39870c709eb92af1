-- N1 preserves.
use Rattle.std.proofs.Common.{ℕ, ◌==◌, ◌≡◌, ◌&&◌, ◌<◌, ◌-◌, cond, Bool, true, false, List, ◌∷◌, map, filter, length, None, refl, sym, ap, subst, ◌∙◌, eqb-true, arith, inl, inr, []}
use Rattle.std.specs.List.{list_all, list_any}
use Rattle.std.proofs.lemmas.Bool.{and_from, and_parts, cases_Bool, or_left, or_parts}
use Rattle.row_bag.specs.declared.tables.Table.{Table}
use Rattle.qgm_core.specs.Boxes.{QueryGraph, is_box, is_quant, numbers}
use Rattle.qgm_core.specs.Edits.{compact, drop_column, on_boxes, shift_node, without_cell}
use Rattle.qgm_core.specs.Free.{reached}
use Rattle.qgm_core.specs.Kinds.{is_F, is_enforce, is_fed, is_plain}
use Rattle.list_laws.specs.Lists.{EachOnce, In, holds}
use Rattle.qgm_core.specs.declared.kinds.BoxKind.{BoxKind}
use Rattle.qgm_core.specs.declared.kinds.BoxKind.TheVariants.{Group, OuterJoin, Select}
use Rattle.qgm_core.specs.declared.node.Node.{Node}
use Rattle.qgm_core.specs.declared.owned.OwnedQuant.{OwnedQuant}
use Rattle.qgm_wellformed.specs.Sentences.{WellFormed}
use Rattle.qgm_wellformed.specs.Shapes.{all_F, are_F, head_folds, head_is_own, is_column, is_group, is_none, is_outer_join, is_unfolded, kind_fits}
use Rattle.qgm_wellformed.specs.WellFormed.{fault}
use Rattle.qgm_wellformed.proofs.Faults.{finds-none}
use Rattle.qgm_meaning.specs.Meaning.{root_bag}
use Rattle.qgm_meaning.specs.Satisfies.{Satisfies}
use Rattle.qgm_edit_laws.specs.FormedColumn.{keys_of}
use Rattle.qgm_edit_laws.specs.Graph.{Sound, nodes_in}
use Rattle.qgm_edit_laws.specs.Shaped.{Shaped, Typed}
use Rattle.qgm_edit_laws.proofs.Column as c
use Rattle.qgm_edit_laws.proofs.Column.{shift_each}
use Rattle.qgm_edit_laws.proofs.ColumnForms.{drop-column-formed}
use Rattle.qgm_edit_laws.proofs.Formed.{sound-checked}
use Rattle.qgm_edit_laws.proofs.Levels.{some-in}
use Rattle.qgm_edit_laws.proofs.OneBox.{at}
use Rattle.qgm_edit_laws.proofs.PartForms.{at-all}
use Rattle.qgm_edit_laws.proofs.Ranks.{same-box}
use Rattle.qgm_edit_laws.proofs.Rules.{same-agree}
use Rattle.qgm_edit_laws.proofs.ShapeParts.{shape-parts}
use Rattle.qgm_edit_laws.proofs.WellFormedKept.{numbers-once}
use Rattle.rule_api.specs.Rules.{Preserves}
use Rattle.rule_prune.specs.DropColumn.{IsUnnamedColumn, stays}
use Rattle.qgm_edit_laws.specs.DropQuants.{MayLose, with_those, without_those}
use Rattle.qgm_edit_laws.proofs.ColumnBag.{drop-column-bag}
use Rattle.rule_facts.proofs.Compacted.{compact-preserves}
use Rattle.rule_facts.proofs.Preserved.{satisfies-kept, satisfies-map}
use Rattle.qgm_edit_laws.proofs.DropQuants.{those-bag, those-formed, those-sound}
use Rattle.qgm_edit_laws.proofs.RowlessQuants.{rowless-unread}
use Rattle.list_laws.proofs.Membership.{all-in, any-from, eq-itself, in-map}
use Rattle.list_laws.proofs.Booleans.{clash}

pub each-role : (k : ℕ) (qs : List ℕ) (n : Node) → (shift_each k qs n).parts.role ≡ n.parts.role
each-role k [] n = refl
each-role k (q ∷ qs) n = each-role k qs (shift_node k q n)

-- all pass
pub all-pass : (p : ℕ → Bool) (rs : List OwnedQuant) → ((r : OwnedQuant) → In r rs → p r.id ≡ true) → filter (λ (r : OwnedQuant). p r.id) rs ≡ rs
all-pass p [] h = refl
all-pass p (r ∷ rs) h = ap (λ (t : Bool). cond t (r ∷ filter (λ (r : OwnedQuant). p r.id) rs) (filter (λ (r : OwnedQuant). p r.id) rs)) (h r (inl refl)) ∙ ap (λ z. r ∷ z) (all-pass p rs (λ x i. h x (inr i)))

pub map-same : (f : Node → Node) (ns : List Node) → ((n : Node) → In n ns → f n ≡ n) → map f ns ≡ ns
map-same f [] h = refl
map-same f (n ∷ ns) h = ap (λ z. z ∷ map f ns) (h n (inl refl)) ∙ ap (λ z. n ∷ z) (map-same f ns (λ x i. h x (inr i)))

module _ (g : QueryGraph) (u : EachOnce (numbers g.boxes)) (wf : WellFormed g) (b : Node) (k : ℕ) (b' : Node) (m : IsUnnamedColumn g b k b') where
  abbrev bs : List Node
  bs = g.boxes

  none : fault g ≡ None
  none = (finds-none g u).1 wf

  ok : Sound g.boxes g.root × Typed g.boxes × Shaped g.boxes g.root
  ok = (sound-checked g u).0 none

  w : Sound g.boxes g.root
  w = ok.0

  no-key : keys_of b.parts.kind < k
  no-key = elim m.kind [
    | inl s ↦ (let e : keys_of b.parts.kind ≡ 0 = ap keys_of s.0 in let l = m.loses.from_one in omega (arith, e, l))
    | inr x ↦ elim x [
      | inl o ↦ (let e : keys_of b.parts.kind ≡ 0 = ap keys_of o in let l = m.loses.from_one in omega (arith, e, l))
      | inr y ↦ (let e : keys_of b.parts.kind ≡ y.0 = ap keys_of y.1.0 in let l = y.1.1 in omega (arith, e, l))
    ]
  ]

  not-enforced : b.parts.kind ≡ Select → is_enforce b.parts.distinct ≡ false
  not-enforced e = elim m.kind [
    | inl s ↦ s.1
    | inr x ↦ elim x [
      | inl o ↦ absurd (let z : OuterJoin ≡ Select = sym o ∙ e in let y : ⊥ = cc in y)
      | inr y ↦ absurd (let z : Group y.0 ≡ Select = sym y.1.0 ∙ e in let y : ⊥ = cc in y)
    ]
  ]

  abbrev g1 : QueryGraph
  g1 = drop_column b.id k g

  formed-1 : fault (drop_column b.id k g) ≡ None
  formed-1 = drop-column-formed g u none b k (record {
    loses = m.loses;
    unasked = m.unasked;
    not_fed = ap is_fed m.plain;
    no_key = no-key;
    left = λ t. m.two;
    fed_open = m.middle;
  })

  w1 : Sound (drop_column b.id k g).boxes g.root
  w1 = c.dropped-column bs g.root w b k m.loses g refl

  once-1 : EachOnce (numbers (drop_column b.id k g).boxes)
  once-1 = numbers-once (drop_column b.id k g).boxes w1.ordered

  abbrev h : Node → Node
  h = c.g bs g.root w b k m.loses

  boxes-1 : (drop_column b.id k g).boxes ≡ map h bs
  boxes-1 = c.column-boxes bs g.root w b k m.loses

  in-b' : In b' (drop_column b.id k g).boxes
  in-b' = (some-in (is_box b.id) (drop_column b.id k g).boxes b' m.after).0

  -- b' is what b becomes
  was : b' ≡ h b
  was =
      let y = in-map h b' bs (subst (λ z. In b' z) boxes-1 in-b') in
      let e : y.0.id ≡ b.id = sym (c.g-id bs g.root w b k m.loses y.0) ∙ ap (λ (z : Node). z.id) y.1.1 ∙ eqb-true b'.id b.id (some-in (is_box b.id) (drop_column b.id k g).boxes b' m.after).1 in
      sym y.1.1 ∙ ap h (same-box bs y.0 b w.ordered y.1.0 m.loses.within e)

  kind' : b'.parts.kind ≡ b.parts.kind
  kind' = ap (λ (z : Node). z.parts.kind) was ∙ c.g-kind bs g.root w b k m.loses b

  quants' : b'.quants ≡ b.quants
  quants' = ap (λ (z : Node). z.quants) was ∙ c.g-quants bs g.root w b k m.loses b

  role' : b'.parts.role ≡ b.parts.role
  role' = ap (λ (z : Node). z.parts.role) was ∙ each-role k (c.qs bs g.root w b k m.loses) (at b.id (without_cell (k - 1)) b) ∙ at-all b.id (without_cell (k - 1)) (λ z. z.parts.role) (λ z. refl) b

  bases-1 : (tables : List Table) → Satisfies tables g.boxes → Satisfies tables (drop_column b.id k g).boxes
  bases-1 tables s = subst (λ z. Satisfies tables z) (sym boxes-1) (satisfies-map tables h (c.g-kind bs g.root w b k m.loses) bs s)

  bag-1 : (tables : List Table) → root_bag tables (drop_column b.id k g) ≡ root_bag tables g
  bag-1 tables = drop-column-bag g w b k m.loses m.unasked no-key not-enforced m.not_root tables

  -- those that don't stay are no F quantifiers, and no node of theirs stands in b'
  rowless : (r : OwnedQuant) → In r b'.quants → stays b' r.id ≡ false → is_F r.kind ≡ false
  rowless r i n = elim (cases_Bool (is_F r.kind)) [
    | inr f ↦ f
    | inl t ↦ absurd (clash (list_any (λ x. is_F x.kind && is_quant r.id x) b'.quants) (any-from (λ x. is_F x.kind && is_quant r.id x) r b'.quants i (and_from (is_F r.kind) (r.id == r.id) t (eq-itself r.id))) (or_parts (list_any (λ x. is_F x.kind && is_quant r.id x) b'.quants) (nodes_in r.id b') n).0)
  ]

  lose : b.parts.kind ≡ Select → MayLose (drop_column b.id k g).boxes b' (stays b')
  lose e = record {
    within = in-b';
    select = kind' ∙ e;
    not_fed = ap is_fed (role' ∙ m.plain);
    unread = λ r i n y j. rowless-unread (drop_column b.id k g).boxes g.root w1 b' in-b' (kind' ∙ e) r i (rowless r i n) (any-from (is_quant r.id) r b'.quants i (eq-itself r.id)) y j;
    no_node = λ r i n. (or_parts (list_any (λ x. is_F x.kind && is_quant r.id x) b'.quants) (nodes_in r.id b') n).1;
  }

  -- of a select
  of-select : b.parts.kind ≡ Select → Preserves g (without_those b' (stays b') (drop_column b.id k g))
  of-select e =
      let f = those-formed (drop_column b.id k g) once-1 formed-1 b' (stays b') (lose e) m.last in
      let v = those-sound (drop_column b.id k g).boxes g.root w1 b' (stays b') (lose e) in
      record {
        formed = (finds-none (without_those b' (stays b') (drop_column b.id k g)) (numbers-once (without_those b' (stays b') (drop_column b.id k g)).boxes v.ordered)).0 f;
        bag = λ tables s. same-agree (those-bag (drop_column b.id k g).boxes g.root w1 b' (stays b') (lose e) rowless tables ∙ bag-1 tables);
        bases = λ tables s. satisfies-kept tables (λ x. holds x (reached (g.root ∷ []) (map (at b'.id (with_those (stays b'))) (drop_column b.id k g).boxes))) (map (at b'.id (with_those (stays b'))) (drop_column b.id k g).boxes)
            (satisfies-map tables (at b'.id (with_those (stays b'))) (λ y. at-all b'.id (with_those (stays b')) (λ z. z.parts.kind) (λ z. refl) y) (drop_column b.id k g).boxes (bases-1 tables s));
        names = refl;
        order = refl;
      }

  -- of a box all of whose quantifiers are F
  of-rows : all_F b.quants ≡ true → Preserves g (without_those b' (stays b') (drop_column b.id k g))
  of-rows f =
      subst (λ z. Preserves g (compact (on_boxes (λ _. z) (drop_column b.id k g)))) (sym unchanged)
      (compact-preserves g (drop_column b.id k g) w1 once-1 formed-1 refl refl (λ tables s. same-agree (bag-1 tables)) bases-1)
    where
      stay : (r : OwnedQuant) → In r b'.quants → stays b' r.id ≡ true
      stay r i = or_left (list_any (λ x. is_F x.kind && is_quant r.id x) b'.quants) (nodes_in r.id b')
          (any-from (λ x. is_F x.kind && is_quant r.id x) r b'.quants i (and_from (is_F r.kind) (r.id == r.id) (all-in (λ (x : OwnedQuant). is_F x.kind) r b.quants f (subst (λ z. In r z) quants' i)) (eq-itself r.id)))

      unchanged : map (at b'.id (with_those (stays b'))) (drop_column b.id k g).boxes ≡ (drop_column b.id k g).boxes
      unchanged = map-same (at b'.id (with_those (stays b'))) (drop_column b.id k g).boxes (λ y i. elim (cases_Bool (y.id == b'.id)) [
        | inr n ↦ ap (λ (t : Bool). cond t (with_those (stays b') y) y) n
        | inl t ↦ (
            let same : y ≡ b' = same-box (drop_column b.id k g).boxes y b' w1.ordered i in-b' (eqb-true y.id b'.id t) in
            ap (λ (t : Bool). cond t (with_those (stays b') y) y) t
            ∙ subst (λ (z : Node). with_those (stays b') z ≡ z) (sym same) (ap (λ (rs : List OwnedQuant). record b' { quants = rs }) (all-pass (stays b') b'.quants stay)))
      ])

  shape-of : (kind : BoxKind) → b.parts.kind ≡ kind → kind_fits g.root bs b kind ≡ true
  shape-of kind e = subst (λ z. kind_fits g.root bs b z ≡ true) e (shape-parts g.root bs b (ok.2.shapes b m.loses.within)).kind

  outer-rows : is_outer_join b ≡ true → all_F b.quants ≡ true
  outer-rows s =
      let a = and_parts (are_F 2 b.quants && list_all is_column b.parts.head && head_is_own b && is_unfolded b) (is_plain b.parts.role) s in
      let d = and_parts (are_F 2 b.quants && list_all is_column b.parts.head && head_is_own b) (is_unfolded b) a.0 in
      let e = and_parts (are_F 2 b.quants && list_all is_column b.parts.head) (head_is_own b) d.0 in
      let f = and_parts (are_F 2 b.quants) (list_all is_column b.parts.head) e.0 in
      (and_parts (length b.quants == 2) (all_F b.quants) f.0).1

  group-rows : (n : ℕ) → is_group n b ≡ true → all_F b.quants ≡ true
  group-rows n s =
      let a = and_parts (are_F 1 b.quants && is_none b.parts.conds.items && is_plain b.parts.role && head_folds n b.parts.head) (head_is_own b) s in
      let d = and_parts (are_F 1 b.quants && is_none b.parts.conds.items && is_plain b.parts.role) (head_folds n b.parts.head) a.0 in
      let e = and_parts (are_F 1 b.quants && is_none b.parts.conds.items) (is_plain b.parts.role) d.0 in
      let f = and_parts (are_F 1 b.quants) (is_none b.parts.conds.items) e.0 in
      (and_parts (length b.quants == 1) (all_F b.quants) f.0).1

  pub column-preserves : Preserves g (without_those b' (stays b') (drop_column b.id k g))
  column-preserves = elim m.kind [
    | inl s ↦ of-select s.0
    | inr x ↦ elim x [
      | inl o ↦ of-rows (outer-rows (shape-of OuterJoin o))
      | inr y ↦ of-rows (group-rows y.0 (shape-of (Group y.0) y.1.0))
    ]
  ]
