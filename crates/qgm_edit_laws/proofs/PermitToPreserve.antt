-- A PERMIT box that becomes PRESERVE gives the same rows.
use Rattle.std.proofs.Common.{ℕ, ◌==◌, ◌≡◌, ◌&&◌, ◌||◌, cond, Bool, true, false, List, [], ◌∷◌, map, None, Option, Some, refl, sym, ap, ap₂, subst, ◌∙◌, eqb-true, nat_lt, inl, inr}
use Rattle.std.specs.List.{list_all}
use Rattle.std.proofs.lemmas.Bool.{and_parts, cases_Bool, eq-eqb}
use mathlib.Core.Path.{fun_ext}
use Rattle.sql_value.specs.declared.cell.Cell.{Cell}
use Rattle.row_bag.specs.declared.tables.Table.{Table}
use Rattle.qgm_core.specs.Boxes.{QueryGraph, box_of, has_box, is_box, numbers, owns, width}
use Rattle.qgm_core.specs.Edits.{set_distinct, with_distinct}
use Rattle.qgm_core.specs.Kinds.{is_enforce, is_magic, is_permit, is_plain}
use Rattle.list_laws.specs.Lists.{EachOnce, In, change}
use Rattle.qgm_core.specs.declared.kinds.BoxKind.{BoxKind}
use Rattle.qgm_core.specs.declared.kinds.BoxKind.TheVariants.{Base, Select, Group, SetOp, OuterJoin}
use Rattle.qgm_core.specs.declared.kinds.Distinct.{Distinct}
use Rattle.qgm_core.specs.declared.kinds.Distinct.TheVariants.{Enforce, Preserve, Permit}
use Rattle.qgm_core.specs.declared.kinds.Role.{Role}
use Rattle.qgm_core.specs.declared.kinds.Role.TheVariants.{Plain, Magic, Fed}
use Rattle.qgm_core.specs.declared.node.Node.{Node}
use Rattle.qgm_wellformed.specs.Shapes.{all_F, is_unfolded, kind_fits, role_fits}
use Rattle.qgm_wellformed.specs.WellFormed.{fault}
use Rattle.qgm_wellformed.specs.Shapes as shapes
use Rattle.qgm_meaning.specs.Fits.{fits, has_row}
use Rattle.qgm_meaning.specs.Laws.{occurs}
use Rattle.qgm_meaning.specs.Meaning.{Family, bag_in, given_by, once_if, over_each, quant_rows, rows_by, rows_of}
use Rattle.qgm_meaning.specs.Satisfies.{Satisfies, SatisfiesBy}
use Rattle.qgm_meaning.specs.Values.{Bag, Environment}
use Rattle.qgm_edit_laws.specs.Adds.{at}
use Rattle.qgm_edit_laws.specs.Graph.{Sound}
use Rattle.qgm_edit_laws.proofs.Changes.{same-bags}
use Rattle.qgm_edit_laws.proofs.DistinctForms.{set-distinct-formed}
use Rattle.qgm_edit_laws.proofs.Edits.{once-each}
use Rattle.qgm_edit_laws.proofs.Levels.{some-in}
use Rattle.qgm_edit_laws.proofs.Scope.{in-first}
use Rattle.qgm_edit_laws.proofs.OneBox.{change-at, has-map}
use Rattle.qgm_edit_laws.proofs.Ranks.{same-box}
use Rattle.qgm_edit_laws.proofs.ShapeParts.{shape-parts}
use Rattle.qgm_edit_laws.specs.PermitToPreserve.{PermitToPreserveKeeps, permit_found, permit_to_preserve}
use Rattle.qgm_edit_laws.proofs.Satisfied.{satisfies-by}
use Rattle.qgm_edit_laws.proofs.CheckedParts.{shaped, sound}
use Rattle.list_laws.proofs.Membership.{in-map, map-in}
use Rattle.list_laws.proofs.Booleans.{clash}

absent : (tables : List Table) (ns : List Node) (b : ℕ) → has_box ns b ≡ false → bag_in tables ns b ≡ (λ e. [])
absent tables [] b h = refl
absent tables (n ∷ ns) b h = elim (n.id == b) as (λ t. (t || has_box ns b) ≡ false → ◌≡◌ {A = Environment → Bag} (cond t (rows_of tables n (bag_in tables ns)) (bag_in tables ns b)) (λ e. [])) [
  | true ↦ λ h. absurd (let z : ⊥ = cc in z)
  | false ↦ λ h. absent tables ns b h
] h

-- rows don't tell PERMIT from PRESERVE
rows-same : (tables : List Table) (n : Node) (d : Distinct) → is_enforce d ≡ is_enforce n.parts.distinct → (F : Family) (e : Environment) → rows_of tables (with_distinct d n) F e ≡ rows_of tables n F e
rows-same tables n d h F e = by n.parts.kind
  where
    by : (k : BoxKind) → rows_by k tables (with_distinct d n) (quant_rows n F) e ≡ rows_by k tables n (quant_rows n F) e
    by (Base t) = refl
    by Select = ap (λ (b : Bool). once_if b (over_each n.quants (quant_rows n F) (given_by (quant_rows n F) n) e)) h
    by (Group k) = refl
    by (SetOp form types) = refl
    by OuterJoin = refl

module _ (g : QueryGraph) (u : EachOnce (numbers g.boxes)) (k : fault g ≡ None) (c : Node) (i : In c g.boxes) (p : is_permit c.parts.distinct ≡ true) where
  abbrev bs : List Node
  bs = g.boxes

  w : Sound bs g.root
  w = sound g u k

  abbrev f : Node → Node
  f = with_distinct Preserve

  abbrev hs : List Node
  hs = map (at c.id f) bs

  is : change (is_box c.id) f bs ≡ hs
  is = change-at c.id f bs (once-each bs w.ordered)

  not-enforce : is_enforce c.parts.distinct ≡ false
  not-enforce = by c.parts.distinct p
    where
      by : (d : Distinct) → is_permit d ≡ true → is_enforce d ≡ false
      by Enforce h = absurd (let z : ⊥ = cc in z)
      by Preserve h = refl
      by Permit h = refl

  -- a magic box is ENFORCE
  not-magic : is_magic c.parts.role ≡ true → is_enforce Preserve ≡ true
  not-magic h = absurd (by c.parts.kind refl (shape-parts g.root bs c ((shaped g u k).shapes c i)).kind)
    where
      plain-magic : (r : Role) → is_magic r ≡ true → is_plain r ≡ true → ⊥
      plain-magic Plain h q = let z : ⊥ = cc in z
      plain-magic Magic h q = let z : ⊥ = cc in z
      plain-magic Fed h q = let z : ⊥ = cc in z

      role : (r : Role) → is_magic r ≡ true → role_fits g.root bs c r ≡ true → ⊥
      role Plain h q = let z : ⊥ = cc in z
      role Magic h q = clash (is_enforce c.parts.distinct) (and_parts (is_enforce c.parts.distinct) (all_F c.quants) q).0 not-enforce
      role Fed h q = let z : ⊥ = cc in z

      by : (k : BoxKind) → c.parts.kind ≡ k → kind_fits g.root bs c k ≡ true → ⊥
      by (Base t) e q = plain-magic c.parts.role h (and_parts (shapes.is_none c.quants && shapes.is_none c.parts.conds.items && shapes.is_none c.parts.head) (is_plain c.parts.role) q).1
      by Select e q = role c.parts.role h (and_parts (is_unfolded c) (role_fits g.root bs c c.parts.role) q).1
      by (Group keys) e q =
          let a = and_parts (((shapes.are_F 1 c.quants && shapes.is_none c.parts.conds.items) && is_plain c.parts.role) && shapes.head_folds keys c.parts.head) (shapes.head_is_own c) q in
          let b = and_parts ((shapes.are_F 1 c.quants && shapes.is_none c.parts.conds.items) && is_plain c.parts.role) (shapes.head_folds keys c.parts.head) a.0 in
          plain-magic c.parts.role h (and_parts (shapes.are_F 1 c.quants && shapes.is_none c.parts.conds.items) (is_plain c.parts.role) b.0).1
      by (SetOp form types) e q = plain-magic c.parts.role h (and_parts ((((shapes.are_F 2 c.quants && list_all (shapes.arm_fits bs (width c)) c.quants) && nat_lt 0 (width c)) && shapes.is_none c.parts.conds.items) && shapes.is_none c.parts.head) (is_plain c.parts.role) q).1
      by OuterJoin e q = plain-magic c.parts.role h (and_parts (((shapes.are_F 2 c.quants && list_all shapes.is_column c.parts.head) && shapes.head_is_own c) && is_unfolded c) (is_plain c.parts.role) q).1

  formed : fault (set_distinct c.id Preserve g) ≡ None
  formed = set-distinct-formed g u k c Preserve (record {
    within = i;
    not_root = λ t. absurd (let z : ⊥ = cc in z);
    unseen = λ t. absurd (let z : ⊥ = cc in z);
    magic = not-magic;
    fed = λ t. refl;
  })

  once : EachOnce (numbers (set_distinct c.id Preserve g).boxes)
  once = subst (λ z. EachOnce (numbers z)) (sym is) (numbers-same bs u)
    where
      numbers-is : (ns : List Node) → numbers (map (at c.id f) ns) ≡ numbers ns
      numbers-is [] = refl
      numbers-is (n ∷ ns) = ap₂ (λ x xs. x ∷ xs) (elim (n.id == c.id) as (λ t. (λ (z : Node). z.id) (cond t (f n) n) ≡ n.id) [ true ↦ refl | false ↦ refl ]) (numbers-is ns)

      numbers-same : (ns : List Node) → EachOnce (numbers ns) → EachOnce (numbers (map (at c.id f) ns))
      numbers-same ns h = subst EachOnce (sym (numbers-is ns)) h

  v : Sound hs g.root
  v = subst (λ z. Sound z g.root) is (sound (set_distinct c.id Preserve g) once formed)

  gid : (y : Node) → (at c.id f y).id ≡ y.id
  gid y = elim (y.id == c.id) as (λ t. (λ (z : Node). z.id) (cond t (f y) y) ≡ y.id) [ true ↦ refl | false ↦ refl ]

  module _ (tables : List Table) where
    each-row : (y : Node) → In y bs → (e : Environment) → rows_of tables (at c.id f y) (bag_in tables bs) e ≡ rows_of tables y (bag_in tables bs) e
    each-row y j e = elim (cases_Bool (y.id == c.id)) [
      | inr n ↦ ap (λ t. rows_of tables (cond t (f y) y) (bag_in tables bs) e) n
      | inl t ↦ ap (λ t. rows_of tables (cond t (f y) y) (bag_in tables bs) e) t
          ∙ rows-same tables y Preserve (sym not-enforce ∙ ap (λ (z : Node). is_enforce z.parts.distinct) (same-box bs c y w.ordered i j (sym (eqb-true y.id c.id t)))) (bag_in tables bs) e
    ]

    bag-same : bag_in tables (set_distinct c.id Preserve g).boxes ≡ bag_in tables bs
    bag-same = ap (bag_in tables) is ∙ fun_ext (λ b. elim (cases_Bool (has_box bs b)) [
      | inl h ↦ fun_ext (λ e. same-bags tables bs (at c.id f) gid w.ordered v.ordered each-row b h e)
      | inr h ↦ absent tables hs b (has-map (at c.id f) gid bs b ∙ h) ∙ sym (absent tables bs b h)
    ])

    row-same : (F : Family) (q : ℕ) (cells : List Cell) (e : Environment) (ns : List Node) → has_row F (map (at c.id f) ns) q cells e ≡ has_row F ns q cells e
    row-same F q cells e [] = refl
    row-same F q cells e (n ∷ ns) = ap₂ (λ a b. a || b) (elim (n.id == c.id) as (λ t. (owns q (cond t (f n) n) && occurs cells (quant_rows (cond t (f n) n) F q e)) ≡ (owns q n && occurs cells (quant_rows n F q e))) [ true ↦ refl | false ↦ refl ]) (row-same F q cells e ns)

    fits-same : (F : Family) (e : Environment) → fits F (set_distinct c.id Preserve g).boxes e ≡ fits F bs e
    fits-same F e = ap (λ z. fits F z e) is ∙ go e
      where
        go : (e : Environment) → fits F hs e ≡ fits F bs e
        go [] = refl
        go (x ∷ e) = ap₂ (λ a b. a && b) (row-same F x.0 x.1 e bs) (go e)

  bases : (tables : List Table) → Satisfies tables bs → Satisfies tables (set_distinct c.id Preserve g).boxes
  bases tables s = subst (Satisfies tables) (sym is) (satisfies-by tables (at c.id f) bs (λ y j b. elim (y.id == c.id) as (λ t. SatisfiesBy ((λ (z : Node). z.parts.kind) (cond t (f y) y)) tables) [ true ↦ b | false ↦ b ]) s)

module _ (g : QueryGraph) (u : EachOnce (numbers g.boxes)) (k : fault g ≡ None) (c : Node) (i : In c g.boxes) (p : is_permit c.parts.distinct ≡ true) where
  after-is : (set_distinct c.id Preserve g).boxes ≡ map (at c.id (with_distinct Preserve)) g.boxes
  after-is = is g u k c i p

  kept-back : (tables : List Table) → Satisfies tables (set_distinct c.id Preserve g).boxes → Satisfies tables g.boxes
  kept-back tables s = go g.boxes (subst (Satisfies tables) after-is s)
    where
      go : (ns : List Node) → Satisfies tables (map (at c.id (with_distinct Preserve)) ns) → Satisfies tables ns
      go [] h = tt
      go (n ∷ ns) h = (elim (n.id == c.id) as (λ t. SatisfiesBy ((λ (z : Node). z.parts.kind) (cond t (with_distinct Preserve n) n)) tables → SatisfiesBy n.parts.kind tables) [ true ↦ λ h. h | false ↦ λ h. h ] h.0, go ns h.1)

  kept-others : (y : Node) → In y g.boxes → (y.id == c.id) ≡ false → In y (set_distinct c.id Preserve g).boxes
  kept-others y j n = subst (In y) (sym after-is) (subst (λ z. In z (map (at c.id (with_distinct Preserve)) g.boxes)) (ap (λ t. cond t (with_distinct Preserve y) y) n) (map-in (at c.id (with_distinct Preserve)) y g.boxes j))

  kept-plain : (y : Node) → In y (set_distinct c.id Preserve g).boxes → y.id ≡ c.id → is_permit y.parts.distinct ≡ false
  kept-plain y j e =
      let x = in-map (at c.id (with_distinct Preserve)) y g.boxes (subst (In y) after-is j) in
      let t : (x.0.id == c.id) ≡ true = eq-eqb x.0.id c.id (sym (gid g u k c i p x.0) ∙ ap (λ (z : Node). z.id) x.1.1 ∙ e) in
      ap (λ (z : Node). is_permit z.parts.distinct) (sym x.1.1) ∙ ap (λ b. is_permit ((λ (z : Node). z.parts.distinct) (cond b (with_distinct Preserve x.0) x.0))) t

pub permit-to-preserve : (g : QueryGraph) (u : EachOnce (numbers g.boxes)) (k : fault g ≡ None) (b : ℕ) → PermitToPreserveKeeps b g
permit-to-preserve g u k b = by (box_of b g) refl
  where
    none : permit_found (box_of b g) ≡ false → PermitToPreserveKeeps b g
    none h =
        let unpermitted : (y : Node) → In y g.boxes → y.id ≡ b → is_permit y.parts.distinct ≡ false = λ y j q. sym (ap permit_found (ap (λ z. box_of z g) (sym q) ∙ in-first y g.boxes (sound g u k).ordered j)) ∙ h in
        let e : permit_to_preserve b g ≡ g = ap (λ t. cond t (set_distinct b Preserve g) g) h in
        record {
          once = subst (λ (z : QueryGraph). EachOnce (numbers z.boxes)) (sym e) u;
          back = λ tables s. subst (λ (z : QueryGraph). Satisfies tables z.boxes) e s;
          others = λ y j n. subst (λ (z : QueryGraph). In y z.boxes) (sym e) j;
          not_permit = λ y j q. unpermitted y (subst (λ (z : QueryGraph). In y z.boxes) e j) q;
          formed = ap fault e ∙ k;
          root = ap (λ (z : QueryGraph). z.root) e;
          names = ap (λ (z : QueryGraph). z.names) e;
          order = ap (λ (z : QueryGraph). z.order) e;
          bases = λ tables s. subst (λ (z : QueryGraph). Satisfies tables z.boxes) (sym e) s;
          bag = λ tables. ap (λ (z : QueryGraph). bag_in tables z.boxes) e;
          fits = λ tables x. ap (λ (z : QueryGraph). fits (bag_in tables g.boxes) z.boxes x) e;
        }

    some : (c : Node) → box_of b g ≡ Some c → is_permit c.parts.distinct ≡ true → PermitToPreserveKeeps b g
    some c h p =
        let i = some-in (is_box b) g.boxes c h in
        let same : c.id ≡ b = eqb-true c.id b i.1 in
        let e : permit_to_preserve b g ≡ set_distinct c.id Preserve g = ap (λ t. cond t (set_distinct b Preserve g) g) (ap permit_found h ∙ p) ∙ ap (λ z. set_distinct z Preserve g) (sym same) in
        record {
          once = subst (λ (z : QueryGraph). EachOnce (numbers z.boxes)) (sym e) (once g u k c i.0 p);
          back = λ tables s. kept-back g u k c i.0 p tables (subst (λ (z : QueryGraph). Satisfies tables z.boxes) e s);
          others = λ y j n. subst (λ (z : QueryGraph). In y z.boxes) (sym e) (kept-others g u k c i.0 p y j (ap (λ z. y.id == z) same ∙ n));
          not_permit = λ y j q. kept-plain g u k c i.0 p y (subst (λ (z : QueryGraph). In y z.boxes) e j) (q ∙ sym same);
          formed = ap fault e ∙ formed g u k c i.0 p;
          root = ap (λ (z : QueryGraph). z.root) e;
          names = ap (λ (z : QueryGraph). z.names) e;
          order = ap (λ (z : QueryGraph). z.order) e;
          bases = λ tables s. subst (λ (z : QueryGraph). Satisfies tables z.boxes) (sym e) (bases g u k c i.0 p tables s);
          bag = λ tables. ap (λ (z : QueryGraph). bag_in tables z.boxes) e ∙ bag-same g u k c i.0 p tables;
          fits = λ tables x. ap (λ (z : QueryGraph). fits (bag_in tables g.boxes) z.boxes x) e ∙ fits-same g u k c i.0 p tables (bag_in tables g.boxes) x;
        }

    by : (found : Option Node) → box_of b g ≡ found → PermitToPreserveKeeps b g
    by None h = none (ap permit_found h)
    by (Some c) h = elim (cases_Bool (is_permit c.parts.distinct)) [ inl p ↦ some c h p | inr n ↦ none (ap permit_found h ∙ n) ]
