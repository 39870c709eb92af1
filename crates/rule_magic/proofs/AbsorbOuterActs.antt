-- The steps of G5 come to its action, which preserves.
use Rattle.std.proofs.Common.{ℕ, ◌==◌, ◌≡◌, ◌||◌, true, false, List, [], ◌∷◌, ◌++◌, Some, None, map, refl, sym, ap, ap₂, subst, ◌∙◌, inl, inr}
use Rattle.std.specs.List.{list_any}
use Rattle.std.proofs.lemmas.Bool.{or_left, or_right}
use Rattle.qgm_core.specs.Boxes.{QueryGraph, bare_box, is_box, numbers, owns, width}
use Rattle.qgm_core.specs.Edits.{compact, on_quant, parted, put_range, range, with_distinct}
use Rattle.qgm_core.specs.Free.{IsFree}
use Rattle.list_laws.specs.Lists.{EachOnce, change, put_below}
use Rattle.qgm_core.specs.declared.kinds.BoxKind.{BoxKind}
use Rattle.qgm_core.specs.declared.kinds.BoxKind.TheVariants.{OuterJoin, Select}
use Rattle.qgm_core.specs.declared.kinds.Distinct.TheVariants.{Preserve}
use Rattle.qgm_core.specs.declared.kinds.QuantKind.TheVariants.{F}
use Rattle.qgm_core.specs.declared.kinds.Role.{Role}
use Rattle.qgm_core.specs.declared.kinds.Role.TheVariants.{Plain}
use Rattle.qgm_core.specs.declared.node.Node.{Node}
use Rattle.qgm_core.specs.declared.owned.OwnedQuant.{OwnedQuant}
use Rattle.qgm_core.proofs.KindTests.{plain-is}
use Rattle.qgm_edit_laws.specs.Graph.{Sound}
use Rattle.qgm_edit_laws.proofs.FreeLoose.{looks-free}
use Rattle.qgm_edit_laws.proofs.OneUse.{map-map}
use Rattle.qgm_edit_laws.proofs.WellFormedKept.{numbers-once}
use Rattle.qgm_meaning.specs.Scope.{loose}
use Rattle.qgm_meaning.specs.Tags.{columns_from}
use Rattle.qgm_props.specs.Calm.{is_closed}
use Rattle.qgm_terms.specs.Substitution.{substituted, substituted_cond}
use Rattle.qgm_terms.specs.Terms.{Cond, Term}
use Rattle.qgm_wellformed.specs.Sentences.{WellFormed}
use Rattle.qgm_wellformed.proofs.Faults.{well-ordered}
use Rattle.rule_api.specs.Rules.{Preserves}
use Rattle.rule_api.specs.declared.place.Place.{Place}
use Rattle.rule_magic.specs.AbsorbArms.{IsFreshSelect, role_over}
use Rattle.rule_magic.specs.AbsorbExact.{feeding_by, inferred-told, is-feeding, may-found}
use Rattle.rule_magic.specs.AbsorbOuterJoin.{AbsorbsArmsAt, AbsorbsLeftAt, AbsorbsOuter, AreOver, MayAbsorbOuter, MayAbsorbOuterAt, OuterAt, absorbed_arms, absorbed_left, renamed_arms}
use Rattle.rule_magic.specs.AbsorbOuterSteps.{CanAbsorbOuter, StepsArms, arms_steps, both_head, both_on, left_head, left_on, left_steps, swapped, with_arm, with_left, with_outer}
use Rattle.rule_magic.specs.AbsorbSetSteps.{IsSelectNew}
use Rattle.rule_magic.specs.Boxes.{arms_box, both_cond, both_term, later, led_cond, led_term, left_box, new_parts, no_conds, of_both, pair_box, same_each}
use Rattle.rule_magic.specs.Feeding.{Feeding, feeding, inferred_facts}
use Rattle.rule_magic.specs.Operands.{OperandPair, pair_under}
use Rattle.rule_magic.specs.RenameSteps.{rename_below}
use Rattle.rule_magic.specs.declared.absorb_set.action.NewSelect.{NewSelect}
use Rattle.rule_magic.proofs.AbsorbArmsFormed as opened
use Rattle.rule_magic.proofs.AbsorbArmsKeeps.{outer-arms-preserves}
use Rattle.rule_magic.proofs.AbsorbArmsPlaced as base
use Rattle.rule_magic.proofs.AbsorbGroupBelow as below
use Rattle.rule_magic.proofs.AbsorbGroupBelow.{as-range}
use Rattle.rule_magic.proofs.AbsorbLeftKeeps.{outer-left-preserves}
use Rattle.rule_magic.proofs.AbsorbOuterFacts as outer
use Rattle.rule_magic.proofs.AbsorbOuterSwap as steps
use Rattle.rule_magic.proofs.AbsorbShared.{no-box, no-quant}
use Rattle.rule_magic.proofs.Adjacent.{change-here, change-there}
use Rattle.rule_magic.proofs.Amid.{change-amid, change-second, change-third, put-amid}
use Rattle.rule_magic.proofs.CalmFires.{closed-is}
use Rattle.rule_magic.proofs.RenameSteps.{rename-below-is}
use Rattle.list_laws.proofs.Membership.{any-none, any-not, eq-false-sym, eq-itself}

module _ (g : QueryGraph) (once : EachOnce (numbers g.boxes)) (wf : WellFormed g) (p : Place) (d : Node) (may : MayAbsorbOuterAt p g d) where
  abbrev c : Node
  c = may.ready.c

  abbrev m : Node
  m = may.ready.m

  abbrev a : OwnedQuant
  a = may.ready.a

  abbrev r : OwnedQuant
  r = may.ready.r

  abbrev l : OwnedQuant
  l = (steps.both g once wf p d may).l

  abbrev r1 : OwnedQuant
  r1 = (steps.both g once wf p d may).r1

  abbrev x : Node
  x = (steps.both g once wf p d may).x

  abbrev y : Node
  y = (steps.both g once wf p d may).y

  abbrev f : Feeding
  f = steps.f g once wf p d may

  abbrev k : OperandPair
  k = steps.k g once wf p d may

  abbrev up : List Node
  up = steps.up g once wf p d may

  abbrev l1 : List Node
  l1 = steps.l1 g once wf p d may

  abbrev l2 : List Node
  l2 = steps.l2 g once wf p d may

  abbrev l' : OwnedQuant
  l' = steps.l' g once wf p d may

  abbrev r' : OwnedQuant
  r' = steps.r' g once wf p d may

  at : OuterAt g (inferred_facts g.boxes) d may.ready l r1 x y up l1 l2
  at = steps.at g once wf p d may

  no-d : list_any (is_box d.id) up ≡ false
  no-d = steps.no-d g once wf p d may

  up-no-c : list_any (is_box c.id) up ≡ false
  up-no-c = steps.up-no-c g once wf p d may

  d-not-c : (d.id == c.id) ≡ false
  d-not-c = steps.d-not-c g once wf p d may

  -- ---- the boxes that are made

  -- the outer join with these conditions, cells and quantifiers
  abbrev outer_by : BoxKind → Role → List Cond → List Term → List OwnedQuant → Node
  outer_by kind role items head quants = record {
    id = d.id;
    parts = record { kind = kind; distinct = may.ready.c.parts.distinct; role = role; conds = record { items = items; spare = may.ready.c.parts.conds.spare }; head = head };
    quants = quants;
  }

  outer-is : (items : List Cond) (head : List Term) (quants : List OwnedQuant) → outer_by OuterJoin Plain items head quants ≡ outer_by c.parts.kind c.parts.role items head quants
  outer-is items head quants = ap₂ (λ kind role. outer_by kind role items head quants) (sym may.an_outer) (sym (plain-is c.parts.role (outer.plain-c g (inferred_facts g.boxes) d may.ready l r1 x y up l1 l2 at)))

  l-range : l' ≡ range l.id F c.id
  l-range = as-range l' c.id (outer.rows-c g (inferred_facts g.boxes) d may.ready l r1 x y up l1 l2 at).0 refl

  select-is : (left : Role) → with_distinct Preserve (parted Select left no_conds (of_both a.id (width m) r.id (width x)) (record c { quants = a ∷ (r' ∷ []) })) ≡ pair_box c.id left a.id m.id (width m) r.id x.id (width x)
  select-is left = ap₂ (λ (q v : OwnedQuant). record { id = c.id; parts = record { kind = Select; distinct = Preserve; role = left; conds = no_conds; head = of_both a.id (width m) r.id (width x) }; quants = q ∷ (v ∷ []) }) (below.a-range g once wf d may.ready) (as-range r' x.id (below.f-r g once wf d may.ready) refl)

  left-cells-are : left_head f k ≡ columns_from l.id 1 (width m) ++ map (led_term a.id l.id (width m) (width x)) c.parts.head
  left-cells-are = ap (λ (z : List Term). columns_from l.id 1 (width m) ++ z) (map-map (substituted a.id (columns_from l.id 1 (width m))) (substituted l.id (later l.id (width m) (width x))) c.parts.head)

  left-on-is : (left_on f k).items ≡ map (led_cond a.id l.id (width m) (width x)) c.parts.conds.items
  left-on-is = map-map (substituted_cond a.id (columns_from l.id 1 (width m))) (substituted_cond l.id (later l.id (width m) (width x))) c.parts.conds.items

  -- ---- where the right operand is closed

  abbrev left_d : Node
  left_d = left_box d.id a.id l.id (width m) (width x) c (range l.id F c.id ∷ (range r1.id F y.id ∷ []))

  left-d-is : with_distinct c.parts.distinct (parted OuterJoin Plain (left_on f k) (left_head f k) (record d { quants = l' ∷ (r1 ∷ []) })) ≡ left_d
  left-d-is =
      outer-is (left_on f k).items (left_head f k) (l' ∷ (r1 ∷ []))
      ∙ ap₂ (λ (items : List Cond) (head : List Term). outer_by c.parts.kind c.parts.role items head (l' ∷ (r1 ∷ []))) left-on-is left-cells-are
      ∙ ap₂ (λ (q v : OwnedQuant). outer_by c.parts.kind c.parts.role (map (led_cond a.id l.id (width m) (width x)) c.parts.conds.items) (columns_from l.id 1 (width m) ++ map (led_term a.id l.id (width m) (width x)) c.parts.head) (q ∷ (v ∷ []))) l-range
      (as-range r1 y.id (outer.rows-c g (inferred_facts g.boxes) d may.ready l r1 x y up l1 l2 at).1 (steps.both g once wf p d may).over_y)

  left-is : (left : Role) → (with_left f k left (with_outer f (left_on f k) (left_head f k) (swapped f k g))).boxes ≡ (absorbed_left g (inferred_facts g.boxes) d may.ready l r1 x y left up l1 l2).boxes
  left-is left =
      ap (λ (z : List Node). cells_of_c (change (is_box d.id) (with_distinct c.parts.distinct) (change (is_box d.id) (parted OuterJoin Plain (left_on f k) (left_head f k)) z))) (steps.swapped-is g once wf p d may)
      ∙ ap (λ (z : List Node). cells_of_c (change (is_box d.id) (with_distinct c.parts.distinct) z)) (change-amid (is_box d.id) (parted OuterJoin Plain (left_on f k) (left_head f k)) up (record d { quants = l' ∷ (r1 ∷ []) }) (c5 ∷ (l1 ++ l2)) no-d (eq-itself d.id))
      ∙ ap cells_of_c (change-amid (is_box d.id) (with_distinct c.parts.distinct) up (parted OuterJoin Plain (left_on f k) (left_head f k) (record d { quants = l' ∷ (r1 ∷ []) })) (c5 ∷ (l1 ++ l2)) no-d (eq-itself d.id) ∙ ap (λ (z : Node). up ++ z ∷ (c5 ∷ (l1 ++ l2))) left-d-is)
      ∙ ap (change (is_box c.id) (with_distinct Preserve)) (change-second (is_box c.id) put_c up left_d c5 (l1 ++ l2) up-no-c d-not-c (eq-itself c.id))
      ∙ change-second (is_box c.id) (with_distinct Preserve) up left_d (put_c c5) (l1 ++ l2) up-no-c d-not-c (eq-itself c.id)
      ∙ ap (λ (z : Node). up ++ left_d ∷ (z ∷ (l1 ++ l2))) (select-is left)
    where
      c5 : Node
      c5 = record may.ready.c { quants = a ∷ (r' ∷ []) }

      put_c : Node → Node
      put_c z = parted Select left no_conds (of_both a.id (width m) r.id (width x)) z

      cells_of_c : List Node → List Node
      cells_of_c z = change (is_box c.id) (with_distinct Preserve) (change (is_box c.id) (parted Select left no_conds (of_both a.id (width m) r.id (width x))) z)

  pub acts-closed : (h : QueryGraph) → is_closed g.boxes y.id ≡ true → h ≡ left_steps f k g → AbsorbsLeftAt p g h d
  acts-closed h t e = record {
    may = may;
    l = l;
    r = r1;
    x = x;
    y = y;
    operands = steps.are-over g once wf p d may;
    shut = t;
    up = up;
    l1 = l1;
    l2 = l2;
    before = steps.before g once wf p d may;
    after = e ∙ ap (λ (z : List Node). compact (record g { boxes = z })) (left-is (role_over g.boxes x.id));
  }

  -- ---- where it is open

  module _ (z : NewSelect) (new : IsSelectNew g z) where
    pub is-fresh : IsFreshSelect g z.s z.u z.p
    is-fresh = record { s_new = no-box g z.s new.s; u_new = no-quant g z.u new.u; p_new = no-quant g z.p new.p; apart = new.apart }

    up-no-s : list_any (is_box z.s) up ≡ false
    up-no-s = any-not (is_box z.s) up (λ n i. any-none (is_box z.s) n g.boxes is-fresh.s_new (below.in-up g once wf d may.ready n i))

    d-not-s : (d.id == z.s) ≡ false
    d-not-s = any-none (is_box z.s) d g.boxes is-fresh.s_new may.ready.in_d

    s-not-c : (z.s == c.id) ≡ false
    s-not-c = eq-false-sym c.id z.s (any-none (is_box z.s) c g.boxes is-fresh.s_new may.ready.in_c)

    abbrev d5 : Node
    d5 = record d { quants = l' ∷ (r1 ∷ []) }

    abbrev c5 : Node
    c5 = record may.ready.c { quants = a ∷ (r' ∷ []) }

    abbrev over_s : OwnedQuant
    over_s = record r1 { over = z.s }

    abbrev d6 : Node
    d6 = record d { quants = l' ∷ (over_s ∷ []) }

    module _ (left right : Role) where
      abbrev s' : Node
      s' = pair_box z.s right z.p m.id (width m) z.u y.id (width y)

      abbrev s0 : Node
      s0 = bare_box z.s (new_parts Select)

      abbrev s1 : Node
      s1 = record (bare_box z.s (new_parts Select)) { quants = range z.u F y.id ∷ [] }

      abbrev s2 : Node
      s2 = record (bare_box z.s (new_parts Select)) { quants = range z.p F m.id ∷ (range z.u F y.id ∷ []) }

      abbrev put_s : Node → Node
      put_s n = parted Select right no_conds (of_both z.p (width m) z.u (width y)) n

      arm-is : (with_arm f k z right (swapped f k g)).boxes ≡ up ++ d6 ∷ (s' ∷ (c5 ∷ (l1 ++ l2)))
      arm-is =
          ap (λ (w : List Node). redirected (change (is_box z.s) put_s (change (is_box z.s) (put_range 0 (range z.p F m.id)) (change (is_box z.s) (put_range 0 (range z.u F y.id)) (put_below (is_box d.id) s0 w))))) (steps.swapped-is g once wf p d may)
          ∙ ap (λ (w : List Node). redirected (change (is_box z.s) put_s (change (is_box z.s) (put_range 0 (range z.p F m.id)) (change (is_box z.s) (put_range 0 (range z.u F y.id)) w)))) (put-amid (is_box d.id) s0 up d5 (c5 ∷ (l1 ++ l2)) no-d (eq-itself d.id))
          ∙ ap (λ (w : List Node). redirected (change (is_box z.s) put_s (change (is_box z.s) (put_range 0 (range z.p F m.id)) w))) (change-second (is_box z.s) (put_range 0 (range z.u F y.id)) up d5 s0 (c5 ∷ (l1 ++ l2)) up-no-s d-not-s (eq-itself z.s))
          ∙ ap (λ (w : List Node). redirected (change (is_box z.s) put_s w)) (change-second (is_box z.s) (put_range 0 (range z.p F m.id)) up d5 s1 (c5 ∷ (l1 ++ l2)) up-no-s d-not-s (eq-itself z.s))
          ∙ ap redirected (change-second (is_box z.s) put_s up d5 s2 (c5 ∷ (l1 ++ l2)) up-no-s d-not-s (eq-itself z.s))
          ∙ change-amid (owns r1.id) (on_quant r1.id (λ q. record q { over = z.s })) up d5 (s' ∷ (c5 ∷ (l1 ++ l2))) (steps.up-no g once wf p d may r1 (outer.in-r1 g (inferred_facts g.boxes) d may.ready l r1 x y up l1 l2 at))
          (or_right (l.id == r1.id) ((r1.id == r1.id) || false) (or_left (r1.id == r1.id) false (eq-itself r1.id)))
          ∙ ap (λ (rs : List OwnedQuant). up ++ record d { quants = rs } ∷ (s' ∷ (c5 ∷ (l1 ++ l2))))
          (change-there (λ q. record q { over = z.s }) r1.id l' (r1 ∷ []) (steps.l-not-r1 g once wf p d may) ∙ ap (λ (rs : List OwnedQuant). l' ∷ rs) (change-here (λ q. record q { over = z.s }) r1 []))
        where
          redirected : List Node → List Node
          redirected w = change (owns r1.id) (on_quant r1.id (λ q. record q { over = z.s })) w

      abbrev arms_d : Node
      arms_d = arms_box d.id a.id l.id (width m) (width x) r1.id (width y) c (range l.id F c.id ∷ (range r1.id F z.s ∷ []))

      both-cells-are : both_head f k ≡ columns_from l.id 1 (width m) ++ map (both_term a.id l.id (width m) (width x) r1.id (width y)) c.parts.head
      both-cells-are = ap (λ (w : List Term). columns_from l.id 1 (width m) ++ w) (
          ap (map (substituted r1.id (later r1.id (width m) (width y)))) (map-map (substituted a.id (columns_from l.id 1 (width m))) (substituted l.id (later l.id (width m) (width x))) c.parts.head)
          ∙ map-map (substituted r1.id (later r1.id (width m) (width y))) (led_term a.id l.id (width m) (width x)) c.parts.head)

      both-on-is : (both_on f k).items ≡ map (both_cond a.id l.id (width m) (width x) r1.id (width y)) c.parts.conds.items ++ same_each l.id r1.id 1 (width m)
      both-on-is = ap (λ (w : List Cond). w ++ same_each l.id r1.id 1 (width m)) (
          ap (map (substituted_cond r1.id (later r1.id (width m) (width y)))) left-on-is
          ∙ map-map (substituted_cond r1.id (later r1.id (width m) (width y))) (led_cond a.id l.id (width m) (width x)) c.parts.conds.items)

      arms-d-is : with_distinct c.parts.distinct (parted OuterJoin Plain (both_on f k) (both_head f k) d6) ≡ arms_d
      arms-d-is =
          outer-is (both_on f k).items (both_head f k) (l' ∷ (over_s ∷ []))
          ∙ ap₂ (λ (items : List Cond) (head : List Term). outer_by c.parts.kind c.parts.role items head (l' ∷ (over_s ∷ []))) both-on-is both-cells-are
          ∙ ap₂ (λ (q v : OwnedQuant). outer_by c.parts.kind c.parts.role (map (both_cond a.id l.id (width m) (width x) r1.id (width y)) c.parts.conds.items ++ same_each l.id r1.id 1 (width m)) (columns_from l.id 1 (width m) ++ map (both_term a.id l.id (width m) (width x) r1.id (width y)) c.parts.head) (q ∷ (v ∷ []))) l-range
          (as-range over_s z.s (outer.rows-c g (inferred_facts g.boxes) d may.ready l r1 x y up l1 l2 at).1 refl)

      abbrev put_c : Node → Node
      put_c n = parted Select left no_conds (of_both a.id (width m) r.id (width x)) n

      arms-are : (with_left f k left (with_outer f (both_on f k) (both_head f k) (with_arm f k z right (swapped f k g)))).boxes ≡ (absorbed_arms g (inferred_facts g.boxes) d may.ready l r1 x y z.s z.u z.p left right up l1 l2).boxes
      arms-are =
          ap (λ (w : List Node). cells_of_c (change (is_box d.id) (with_distinct c.parts.distinct) (change (is_box d.id) (parted OuterJoin Plain (both_on f k) (both_head f k)) w))) arm-is
          ∙ ap (λ (w : List Node). cells_of_c (change (is_box d.id) (with_distinct c.parts.distinct) w)) (change-amid (is_box d.id) (parted OuterJoin Plain (both_on f k) (both_head f k)) up d6 (s' ∷ (c5 ∷ (l1 ++ l2))) no-d (eq-itself d.id))
          ∙ ap cells_of_c (change-amid (is_box d.id) (with_distinct c.parts.distinct) up (parted OuterJoin Plain (both_on f k) (both_head f k) d6) (s' ∷ (c5 ∷ (l1 ++ l2))) no-d (eq-itself d.id) ∙ ap (λ (w : Node). up ++ w ∷ (s' ∷ (c5 ∷ (l1 ++ l2)))) arms-d-is)
          ∙ ap (change (is_box c.id) (with_distinct Preserve)) (change-third (is_box c.id) put_c up arms_d s' c5 (l1 ++ l2) up-no-c d-not-c s-not-c (eq-itself c.id))
          ∙ change-third (is_box c.id) (with_distinct Preserve) up arms_d s' (put_c c5) (l1 ++ l2) up-no-c d-not-c s-not-c (eq-itself c.id)
          ∙ ap (λ (w : Node). up ++ arms_d ∷ (s' ∷ (w ∷ (l1 ++ l2)))) (select-is left)
        where
          cells_of_c : List Node → List Node
          cells_of_c w = change (is_box c.id) (with_distinct Preserve) (change (is_box c.id) put_c w)

      -- and with names changed below y
      abbrev made : QueryGraph
      made = absorbed_arms g (inferred_facts g.boxes) d may.ready l r1 x y z.s z.u z.p left right up l1 l2

      names-are : loose g.boxes y.id a.id ≡ true → rename_below g.boxes r1.over a.id (columns_from z.p 1 (width m)) made ≡ renamed_arms g (inferred_facts g.boxes) d may.ready l r1 x y z.s z.u z.p left right up l1 l2
      names-are o = rename-below-is g.boxes r1.over a.id (columns_from z.p 1 (width m)) made once
          (numbers-once made.boxes (base.ordered g (inferred_facts g.boxes) d may.ready l r1 x y z.s z.u z.p left right up l1 l2 at is-fresh))
          (opened.region g (inferred_facts g.boxes) d may.ready l r1 x y z.s z.u z.p left right up l1 l2 at is-fresh o).there

    pub acts-open : (h : QueryGraph) → is_closed g.boxes y.id ≡ false → h ≡ arms_steps f k z g → AbsorbsArmsAt p g h d
    acts-open h t e = record {
      may = may;
      l = l;
      r = r1;
      x = x;
      y = y;
      operands = steps.are-over g once wf p d may;
      opened = t;
      s = z.s;
      u = z.u;
      t = z.p;
      fresh = is-fresh;
      up = up;
      l1 = l1;
      l2 = l2;
      before = steps.before g once wf p d may;
      after = e
          ∙ ap (λ (w : List Node). compact (rename_below g.boxes r1.over a.id (columns_from z.p 1 (width m)) (record g { boxes = w }))) (arms-are (role_over g.boxes x.id) (role_over g.boxes y.id))
          ∙ ap compact (names-are (role_over g.boxes x.id) (role_over g.boxes y.id) (outer.open-arm g (inferred_facts g.boxes) d may.ready l r1 x y up l1 l2 at t));
    }

-- ---- the action preserves

module _ (g h : QueryGraph) (once : EachOnce (numbers g.boxes)) (wf : WellFormed g) (p : Place) (d : Node) where
  outer-at : (may : MayAbsorbOuterAt p g d) (l r : OwnedQuant) (x y : Node) (up l1 l2 : List Node) → AreOver g may.ready.c l r x y → g.boxes ≡ up ++ d ∷ (l1 ++ may.ready.c ∷ l2) → OuterAt g (inferred_facts g.boxes) d may.ready l r x y up l1 l2
  outer-at may l r x y up l1 l2 o before = record { once = once; formed = wf; tells = inferred-told g.boxes; an_outer = may.an_outer; two = o.two; in_x = o.in_x; over_x = o.over_x; in_y = o.in_y; over_y = o.over_y; before = before }

  -- where the right operand is closed
  module _ (v : AbsorbsLeftAt p g h d) where
    pub left-at : OuterAt g (inferred_facts g.boxes) d v.may.ready v.l v.r v.x v.y v.up v.l1 v.l2
    left-at = outer-at v.may v.l v.r v.x v.y v.up v.l1 v.l2 v.operands v.before

    pub left-shut : (q : ℕ) → IsFree g.boxes v.y.id q → ⊥
    left-shut = closed-is g.boxes (well-ordered g once wf) v.y.id v.shut

    pub left-acts-preserves : Preserves g h
    left-acts-preserves = subst (Preserves g) (sym v.after) (outer-left-preserves g (inferred_facts g.boxes) d v.may.ready v.l v.r v.x v.y v.up v.l1 v.l2 left-at left-shut)

  -- where it is open
  module _ (v : AbsorbsArmsAt p g h d) where
    pub arms-at : OuterAt g (inferred_facts g.boxes) d v.may.ready v.l v.r v.x v.y v.up v.l1 v.l2
    arms-at = outer-at v.may v.l v.r v.x v.y v.up v.l1 v.l2 v.operands v.before

    sound : Sound g.boxes g.root
    sound = outer.w g (inferred_facts g.boxes) d v.may.ready v.l v.r v.x v.y v.up v.l1 v.l2 arms-at

    pub arms-open : loose g.boxes v.y.id v.may.ready.a.id ≡ true
    arms-open = outer.open-arm g (inferred_facts g.boxes) d v.may.ready v.l v.r v.x v.y v.up v.l1 v.l2 arms-at v.opened

    pub arms-acts-preserves : Preserves g h
    arms-acts-preserves = subst (Preserves g) (sym v.after)
        (outer-arms-preserves g (inferred_facts g.boxes) d v.may.ready v.l v.r v.x v.y v.s v.u v.t v.up v.l1 v.l2 arms-at v.fresh (looks-free g.boxes g.root sound v.y.id v.may.ready.a.id arms-open))

-- ---- at a place

module _ (g : QueryGraph) (once : EachOnce (numbers g.boxes)) (wf : WellFormed g) (p : Place) (may : MayAbsorbOuter p g) where
  -- one is found
  pub found : feeding g p.at ≡ None → ⊥
  unfolding MayAbsorbOuter
  found e = absurd (
      let m = may.1 in
      let k : Some (feeding_by g may.0 m.ready) ≡ None = sym (is-feeding g p.at (feeding_by g may.0 m.ready) (may-found g (well-ordered g once wf) p.at may.0 m.at m.ready)) ∙ e in
      let z : ⊥ = cc in z)

  module _ (f : Feeding) (e : feeding g p.at ≡ Some f) where
    found-is : (d : Node) (m : MayAbsorbOuterAt p g d) → feeding_by g d m.ready ≡ f
    found-is d m =
        let k : Some (feeding_by g d m.ready) ≡ Some f = sym (is-feeding g p.at (feeding_by g d m.ready) (may-found g (well-ordered g once wf) p.at d m.at m.ready)) ∙ e in
        cc

    found-pair : (d : Node) (m : MayAbsorbOuterAt p g d) → pair_under g.boxes f.c.quants ≡ Some (steps.k g once wf p d m)
    found-pair d m = subst (λ (z : Feeding). pair_under g.boxes z.c.quants ≡ Some (steps.k g once wf p d m)) (found-is d m) (steps.pair-found g once wf p d m)

    -- with its operands
    pub pair-there : pair_under g.boxes f.c.quants ≡ None → ⊥
    unfolding MayAbsorbOuter
    pair-there n = absurd (let z : Some (steps.k g once wf p may.0 may.1) ≡ None = sym (found-pair may.0 may.1) ∙ n in let y : ⊥ = cc in y)

    module _ (k : OperandPair) (are : pair_under g.boxes f.c.quants ≡ Some k) where
      pair-is : (d : Node) (m : MayAbsorbOuterAt p g d) → k ≡ steps.k g once wf p d m
      pair-is d m = let z : Some k ≡ Some (steps.k g once wf p d m) = sym are ∙ found-pair d m in cc

      pub can-there : CanAbsorbOuter g f k
      unfolding MayAbsorbOuter
      can-there = subst (λ (z : OperandPair). CanAbsorbOuter g f z) (sym (pair-is may.0 may.1)) (subst (λ (z : Feeding). CanAbsorbOuter g z (steps.k g once wf p may.0 may.1)) (found-is may.0 may.1) (steps.can g once wf p may.0 may.1))

      left-there : (h : QueryGraph) → is_closed g.boxes k.y.id ≡ true → h ≡ left_steps f k g → (d : Node) → MayAbsorbOuterAt p g d → AbsorbsLeftAt p g h d
      left-there h t s d m = acts-closed g once wf p d m h (subst (λ (z : OperandPair). is_closed g.boxes z.y.id ≡ true) (pair-is d m) t)
          (s ∙ ap₂ (λ (u : Feeding) (v : OperandPair). left_steps u v g) (sym (found-is d m)) (pair-is d m))

      arms-there : (h : QueryGraph) → is_closed g.boxes k.y.id ≡ false → StepsArms g h f k → (d : Node) → MayAbsorbOuterAt p g d → AbsorbsArmsAt p g h d
      arms-there h t s d m = acts-open g once wf p d m s.z s.fresh h (subst (λ (z : OperandPair). is_closed g.boxes z.y.id ≡ false) (pair-is d m) t)
          (s.after ∙ ap₂ (λ (u : Feeding) (v : OperandPair). arms_steps u v s.z g) (sym (found-is d m)) (pair-is d m))

      pub acts-shut : is_closed g.boxes k.y.id ≡ true → (h : QueryGraph) → h ≡ left_steps f k g → AbsorbsOuter p g h
      unfolding MayAbsorbOuter AbsorbsOuter
      acts-shut t h s = (may.0, inl (left-there h t s may.0 may.1))

      pub preserves-shut : is_closed g.boxes k.y.id ≡ true → (h : QueryGraph) → h ≡ left_steps f k g → Preserves g h
      unfolding MayAbsorbOuter
      preserves-shut t h s = left-acts-preserves g h once wf p may.0 (left-there h t s may.0 may.1)

      pub acts-opened : is_closed g.boxes k.y.id ≡ false → (h : QueryGraph) → StepsArms g h f k → AbsorbsOuter p g h
      unfolding MayAbsorbOuter AbsorbsOuter
      acts-opened t h s = (may.0, inr (arms-there h t s may.0 may.1))

      pub preserves-opened : is_closed g.boxes k.y.id ≡ false → (h : QueryGraph) → StepsArms g h f k → Preserves g h
      unfolding MayAbsorbOuter
      preserves-opened t h s = arms-acts-preserves g h once wf p may.0 (arms-there h t s may.0 may.1)
