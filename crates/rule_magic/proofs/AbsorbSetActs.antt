-- The steps of G4 come to its action.
use Rattle.std.proofs.Common.{suc, ◌==◌, ◌≡◌, ◌≤◌, ◌&&◌, ◌||◌, nat_lt, Bool, true, false, List, [], ◌∷◌, ◌++◌, Option, Some, cond, insert, length, refl, sym, ap, subst, ◌∙◌, eqb-true, inl, inr, arith}
use Rattle.std.specs.List.{list_all, list_any}
use Rattle.std.proofs.lemmas.Bool.{and_parts, cases_Bool, eq-eqb}
use Rattle.sql_value.specs.declared.order_key.SqlType.{SqlType}
use Rattle.qgm_core.specs.Boxes.{QueryGraph, bare_box, has_box, is_box, is_quant, numbers, owns, quants_in, range_in, width}
use Rattle.qgm_core.specs.Edits.{moved_below, parted, put_found, put_range, put_range_found, quant_moved, range, with_distinct, without_quant}
use Rattle.qgm_core.specs.Kinds.{is_F, is_plain}
use Rattle.list_laws.specs.Lists.{EachOnce, In, change, first, put_below, without}
use Rattle.qgm_core.specs.declared.kinds.BoxKind.{BoxKind}
use Rattle.qgm_core.specs.declared.kinds.BoxKind.TheVariants.{Select, SetOp}
use Rattle.qgm_core.specs.declared.kinds.Distinct.{Distinct}
use Rattle.qgm_core.specs.declared.kinds.Distinct.TheVariants.{Preserve}
use Rattle.qgm_core.specs.declared.kinds.QuantKind.TheVariants.{F}
use Rattle.qgm_core.specs.declared.kinds.Role.{Role}
use Rattle.qgm_core.specs.declared.kinds.Role.TheVariants.{Plain}
use Rattle.qgm_core.specs.declared.kinds.SetOperator.{SetOperator}
use Rattle.qgm_core.specs.declared.node.Node.{Node}
use Rattle.qgm_core.specs.declared.owned.OwnedQuant.{OwnedQuant}
use Rattle.qgm_core.proofs.Reaching.{overs-held}
use Rattle.qgm_edit_laws.specs.Graph.{Sound}
use Rattle.qgm_edit_laws.proofs.PlacedLists.{first-in}
use Rattle.qgm_edit_laws.proofs.Scope.{one-owner}
use Rattle.qgm_terms.specs.Terms.{Term}
use Rattle.qgm_wellformed.specs.Sentences.{WellFormed}
use Rattle.qgm_wellformed.specs.Shapes as shape
use Rattle.qgm_wellformed.specs.Shapes.{arm_fits, is_none, kind_fits}
use Rattle.qgm_wellformed.proofs.Faults.{well-ordered}
use Rattle.rule_api.specs.declared.place.Place.{Place}
use Rattle.rule_magic.specs.AbsorbArms.{IsFreshSelect}
use Rattle.rule_magic.specs.AbsorbExact.{feeding_by, inferred-told}
use Rattle.rule_magic.specs.AbsorbSetOperation.{MayAbsorbSetAt, absorbed_set}
use Rattle.rule_magic.specs.AbsorbSetSteps.{CanAbsorbSet, IsSelectNew, put_selects, with_select, with_set}
use Rattle.rule_magic.specs.Boxes.{new_parts, no_conds, of_both, pair_box, set_box}
use Rattle.rule_magic.specs.Feeding.{Feeding, inferred_facts}
use Rattle.rule_magic.specs.Operands.{OperandPair, both_under, pair_under}
use Rattle.rule_magic.specs.declared.absorb_set.action.NewSelect.{NewSelect}
use Rattle.rule_magic.proofs.AbsorbFacts as fed
use Rattle.rule_magic.proofs.AbsorbGroupBelow as below
use Rattle.rule_magic.proofs.AbsorbGroupBelow.{as-range}
use Rattle.rule_magic.proofs.AbsorbSelectFormed as placed
use Rattle.rule_magic.proofs.AbsorbShared.{apart-two, no-box, no-quant}
use Rattle.rule_magic.proofs.Amid.{change-amid, change-far, change-second, first-amid, first-far, put-amid, put-second, without-far}
use Rattle.rule_magic.proofs.CalmFires.{shape-kind}
use Rattle.list_laws.proofs.Booleans.{clash}
use Rattle.list_laws.proofs.Membership.{any-from, any-none, any-not, eq-false-sym, eq-itself}

-- ---- a set operation has two F quantifiers, over boxes

pub record AreTwo (rs : List OwnedQuant) : Type 0 where
  pub l : OwnedQuant
  pub r : OwnedQuant
  pub are : rs ≡ l ∷ (r ∷ [])
  pub row_l : is_F l.kind ≡ true
  pub row_r : is_F r.kind ≡ true

pub are-two : (rs : List OwnedQuant) → shape.are_F 2 rs ≡ true → AreTwo rs
are-two [] h = absurd (let z : ⊥ = cc in z)
are-two (l ∷ []) h = absurd (let z : ⊥ = cc in z)
are-two (l ∷ (r ∷ [])) h =
    let a = (and_parts (length (l ∷ (r ∷ [])) == 2) (shape.all_F (l ∷ (r ∷ []))) h).1 in
    let b = and_parts (is_F l.kind) (is_F r.kind && true) a in
    record { l = l; r = r; are = refl; row_l = b.0; row_r = (and_parts (is_F r.kind) true b.1).0 }
are-two (l ∷ (r ∷ (s ∷ rs))) h = absurd (let e = eqb-true (length (l ∷ (r ∷ (s ∷ rs)))) 2 (and_parts (length (l ∷ (r ∷ (s ∷ rs))) == 2) (shape.all_F (l ∷ (r ∷ (s ∷ rs)))) h).0 in let z : suc (suc (suc (length rs))) ≡ 2 = e in omega (arith, z))

module _ (g : QueryGraph) (once : EachOnce (numbers g.boxes)) (wf : WellFormed g) (c : Node) (i : In c g.boxes) (form : SetOperator) (types : List SqlType) (kind : c.parts.kind ≡ SetOp form types) where
  pub record HasOperands : Type 0 where
    pub l : OwnedQuant
    pub x : Node
    pub r : OwnedQuant
    pub y : Node
    pub two : c.quants ≡ l ∷ (r ∷ [])
    pub row_l : is_F l.kind ≡ true
    pub row_r : is_F r.kind ≡ true
    pub under_l : first (is_box l.over) g.boxes ≡ Some x
    pub in_x : In x g.boxes
    pub over_x : l.over ≡ x.id
    pub under_r : first (is_box r.over) g.boxes ≡ Some y
    pub in_y : In y g.boxes
    pub over_y : r.over ≡ y.id

  pub has-operands : HasOperands
  has-operands =
      let arms = list_all (arm_fits g.boxes (width c)) c.quants in
      let h : shape.is_set_op g.boxes c ≡ true = subst (λ (k : BoxKind). kind_fits g.root g.boxes c k ≡ true) kind (shape-kind g once wf c i) in
      let h1 = and_parts (shape.are_F 2 c.quants && arms && nat_lt 0 (width c) && is_none c.parts.conds.items && is_none c.parts.head) (is_plain c.parts.role) h in
      let h2 = and_parts (shape.are_F 2 c.quants && arms && nat_lt 0 (width c) && is_none c.parts.conds.items) (is_none c.parts.head) h1.0 in
      let h3 = and_parts (shape.are_F 2 c.quants && arms && nat_lt 0 (width c)) (is_none c.parts.conds.items) h2.0 in
      let h4 = and_parts (shape.are_F 2 c.quants && arms) (nat_lt 0 (width c)) h3.0 in
      let q = are-two c.quants (and_parts (shape.are_F 2 c.quants) arms h4.0).0 in
      let x = first-in (is_box q.l.over) g.boxes (overs-held g.boxes c q.l (well-ordered g once wf) i (subst (λ (rs : List OwnedQuant). In q.l rs) (sym q.are) (inl refl))) in
      let y = first-in (is_box q.r.over) g.boxes (overs-held g.boxes c q.r (well-ordered g once wf) i (subst (λ (rs : List OwnedQuant). In q.r rs) (sym q.are) (inr (inl refl)))) in
      record {
        l = q.l;
        x = x.0;
        r = q.r;
        y = y.0;
        two = q.are;
        row_l = q.row_l;
        row_r = q.row_r;
        under_l = x.1.0;
        in_x = x.1.1.0;
        over_x = sym (eqb-true x.0.id q.l.over x.1.1.1);
        under_r = y.1.0;
        in_y = y.1.1.0;
        over_y = sym (eqb-true y.0.id q.r.over y.1.1.1);
      }

-- ---- the steps at a fed box over a set operation

module _ (g : QueryGraph) (once : EachOnce (numbers g.boxes)) (wf : WellFormed g) (p : Place) (d : Node) (may : MayAbsorbSetAt p g d) where
  abbrev c : Node
  c = may.ready.c

  abbrev m : Node
  m = may.ready.m

  abbrev a : OwnedQuant
  a = may.ready.a

  abbrev r : OwnedQuant
  r = may.ready.r

  abbrev pub f : Feeding
  f = feeding_by g d may.ready

  pub both : HasOperands g once wf c may.ready.in_c may.form may.types may.a_set
  both = has-operands g once wf c may.ready.in_c may.form may.types may.a_set

  abbrev l : OwnedQuant
  l = both.l

  abbrev r1 : OwnedQuant
  r1 = both.r

  abbrev x : Node
  x = both.x

  abbrev y : Node
  y = both.y

  abbrev pub k : OperandPair
  k = record { l = both.l; x = both.x; r = both.r; y = both.y }

  -- what is found of it
  pub pair-found : pair_under g.boxes c.quants ≡ Some k
  pair-found =
      ap (pair_under g.boxes) both.two
      ∙ ap (λ (z : Option Node). both_under l r1 z (first (is_box r1.over) g.boxes)) both.under_l
      ∙ ap (both_under l r1 (Some x)) both.under_r

  abbrev pub up : List Node
  up = (below.amid g once wf d may.ready).up

  abbrev pub l1 : List Node
  l1 = (below.amid g once wf d may.ready).l1

  abbrev pub l2 : List Node
  l2 = (below.amid g once wf d may.ready).l2

  pub before : g.boxes ≡ up ++ d ∷ (l1 ++ c ∷ l2)
  before = (below.amid g once wf d may.ready).before

  no-d : list_any (is_box d.id) up ≡ false
  no-d = below.no-d g once wf d may.ready

  up-no-c : list_any (is_box c.id) up ≡ false
  up-no-c = below.up-no-c g once wf d may.ready

  l1-no-c : list_any (is_box c.id) l1 ≡ false
  l1-no-c = below.l1-no-c g once wf d may.ready

  d-not-c : (d.id == c.id) ≡ false
  d-not-c = below.d-not-c g once wf d may.ready

  sound : Sound g.boxes g.root
  sound = fed.w g once wf (inferred_facts g.boxes) (inferred-told g.boxes) d may.ready

  owned-r1 : owns r1.id c ≡ true
  owned-r1 = ap (λ (rs : List OwnedQuant). list_any (is_quant r1.id) rs) both.two ∙ or-last (l.id == r1.id) (r1.id == r1.id) (eq-itself r1.id)
    where
      or-last : (s t : Bool) → t ≡ true → (s || (t || false)) ≡ true
      or-last true t h = refl
      or-last false t h = ap (λ v. v || false) h

  owned-a : owns a.id d ≡ true
  owned-a = ap (λ (rs : List OwnedQuant). list_any (is_quant a.id) rs) may.ready.quants ∙ ap (λ b. b || ((r.id == a.id) || false)) (eq-itself a.id)

  -- nobody but c owns its quantifier
  unowned : (n : Node) → In n g.boxes → (n.id == c.id) ≡ false → owns r1.id n ≡ false
  unowned n i e = elim (cases_Bool (owns r1.id n)) [
    | inr h ↦ h
    | inl t ↦ absurd (clash (n.id == c.id) (eq-eqb n.id c.id (ap (λ (z : Node). z.id) (one-owner g.boxes g.root sound r1.id n c i may.ready.in_c t owned-r1))) e)
  ]

  up-no-r1 : list_any (owns r1.id) up ≡ false
  up-no-r1 = any-not (owns r1.id) up (λ n i. (let z = placed.other-up g once wf (inferred_facts g.boxes) (inferred-told g.boxes) d may.ready up l1 l2 before n i in unowned n z.0 z.1.1))

  l1-no-r1 : list_any (owns r1.id) l1 ≡ false
  l1-no-r1 = any-not (owns r1.id) l1 (λ n i. (let z = placed.other-left g once wf (inferred_facts g.boxes) (inferred-told g.boxes) d may.ready up l1 l2 before n i in unowned n z.0 z.1.1))

  d-no-r1 : ((a.id == r1.id) || ((r.id == r1.id) || false)) ≡ false
  d-no-r1 = sym (ap (λ (rs : List OwnedQuant). list_any (is_quant r1.id) rs) may.ready.quants) ∙ unowned d may.ready.in_d d-not-c

  l-not-r1 : (l.id == r1.id) ≡ false
  l-not-r1 = apart-two g.boxes c l r1 (sound.once r1.id) may.ready.in_c both.two

  pub can : CanAbsorbSet g f k
  can = record {
    held_d = any-from (is_box d.id) d g.boxes may.ready.in_d (eq-itself d.id);
    held_m = any-from (is_box m.id) m g.boxes may.ready.in_m (eq-itself m.id);
    held_c = any-from (is_box c.id) c g.boxes may.ready.in_c (eq-itself c.id);
    owned_a = any-from (owns a.id) d g.boxes may.ready.in_d owned-a;
    owned_r = any-from (owns r1.id) c g.boxes may.ready.in_c owned-r1;
    two = λ s. (
        let e : quants_in (first (is_box d.id) (put_below (is_box d.id) (bare_box s (new_parts Select)) g.boxes)) ≡ a ∷ (r ∷ []) =
        ap (λ (z : List Node). quants_in (first (is_box d.id) (put_below (is_box d.id) (bare_box s (new_parts Select)) z))) before
        ∙ ap (λ (z : List Node). quants_in (first (is_box d.id) z)) (put-amid (is_box d.id) (bare_box s (new_parts Select)) up d (l1 ++ c ∷ l2) no-d (eq-itself d.id))
        ∙ ap quants_in (first-amid (is_box d.id) up d (bare_box s (new_parts Select) ∷ (l1 ++ c ∷ l2)) no-d (eq-itself d.id))
        ∙ may.ready.quants in
        subst (λ (rs : List OwnedQuant). 2 ≤ length rs) (sym e) (omega arith));
  }

  -- ---- numbers that are new

  module _ (z : NewSelect) (new : IsSelectNew g z) where
    not-has : has_box g.boxes z.s ≡ false
    not-has = no-box g z.s new.s

    pub is-fresh : IsFreshSelect g z.s z.u z.p
    is-fresh = record { s_new = not-has; u_new = no-quant g z.u new.u; p_new = no-quant g z.p new.p; apart = new.apart }

    up-no-s : list_any (is_box z.s) up ≡ false
    up-no-s = any-not (is_box z.s) up (λ n i. any-none (is_box z.s) n g.boxes not-has (below.in-up g once wf d may.ready n i))

    d-not-s : (d.id == z.s) ≡ false
    d-not-s = any-none (is_box z.s) d g.boxes not-has may.ready.in_d

    s-not-c : (z.s == c.id) ≡ false
    s-not-c = eq-false-sym c.id z.s (any-none (is_box z.s) c g.boxes not-has may.ready.in_c)

    u-not-r1 : (z.u == r1.id) ≡ false
    u-not-r1 = elim (cases_Bool (z.u == r1.id)) [ inr e ↦ e | inl t ↦ absurd (new.u (any-from (owns z.u) c g.boxes may.ready.in_c (subst (λ i. owns i c ≡ true) (sym (eqb-true z.u r1.id t)) owned-r1))) ]

    -- ---- the boxes, step by step

    abbrev uq : OwnedQuant
    uq = range z.u F z.s

    abbrev pq : OwnedQuant
    pq = range z.p F m.id

    abbrev s0 : Node
    s0 = bare_box z.s (new_parts Select)

    abbrev d1 : Node
    d1 = record d { quants = a ∷ (r ∷ (range z.u F z.s ∷ [])) }

    abbrev c0 : Node
    c0 = record c { quants = both.l ∷ [] }

    abbrev s2 : Node
    s2 = record (bare_box z.s (new_parts Select)) { quants = range z.p F m.id ∷ (both.r ∷ []) }

    d1-no-r1 : owns r1.id d1 ≡ false
    d1-no-r1 = by (a.id == r1.id) (r.id == r1.id) (z.u == r1.id) d-no-r1 u-not-r1
      where
        by : (i j k : Bool) → (i || (j || false)) ≡ false → k ≡ false → (i || (j || (k || false))) ≡ false
        by true j k h e = absurd (let z : ⊥ = cc in z)
        by false true k h e = absurd (let z : ⊥ = cc in z)
        by false false k h e = ap (λ v. v || false) e

    -- with s, over the magic box and y
    select-is : (with_select f k z g).boxes ≡ up ++ d1 ∷ (s2 ∷ (l1 ++ c0 ∷ l2))
    select-is =
        ap (λ (w : List Node). last (change (is_box d.id) (put_range 2 uq) w)) (ap (put_below (is_box d.id) s0) before ∙ put-amid (is_box d.id) s0 up d (l1 ++ c ∷ l2) no-d (eq-itself d.id))
        ∙ ap last (change-amid (is_box d.id) (put_range 2 uq) up d (s0 ∷ (l1 ++ c ∷ l2)) no-d (eq-itself d.id) ∙ ap (λ (rs : List OwnedQuant). up ++ record d { quants = insert rs 2 uq } ∷ (s0 ∷ (l1 ++ c ∷ l2))) may.ready.quants)
        ∙ ap (change (is_box z.s) (put_range 0 pq)) moved
        ∙ change-second (is_box z.s) (put_range 0 pq) up d1 (record s0 { quants = r1 ∷ [] }) (l1 ++ c0 ∷ l2) up-no-s d-not-s (eq-itself z.s)
      where
        last : List Node → List Node
        last w = change (is_box z.s) (put_range 0 pq) (quant_moved r1.id z.s 0 w)

        without-r1 : without (is_quant r1.id) c.quants ≡ l ∷ []
        without-r1 = ap (without (is_quant r1.id)) both.two
            ∙ ap (λ b. cond b (r1 ∷ []) (l ∷ without (is_quant r1.id) (r1 ∷ []))) l-not-r1
            ∙ ap (λ b. l ∷ cond b [] (r1 ∷ without (is_quant r1.id) [])) (eq-itself r1.id)

        found-r1 : first (is_quant r1.id) c.quants ≡ Some r1
        found-r1 = ap (first (is_quant r1.id)) both.two
            ∙ ap (λ b. cond b (Some l) (first (is_quant r1.id) (r1 ∷ []))) l-not-r1
            ∙ ap (λ b. cond b (Some r1) (first (is_quant r1.id) [])) (eq-itself r1.id)

        moved : quant_moved r1.id z.s 0 (up ++ d1 ∷ (s0 ∷ (l1 ++ c ∷ l2))) ≡ up ++ d1 ∷ (record s0 { quants = r1 ∷ [] } ∷ (l1 ++ c0 ∷ l2))
        moved =
            ap (λ (w : Option Node). put_range_found z.s 0 (range_in r1.id w) (change (owns r1.id) (without_quant r1.id) (up ++ d1 ∷ (s0 ∷ (l1 ++ c ∷ l2))))) (first-far (owns r1.id) up d1 s0 l1 c l2 up-no-r1 d1-no-r1 refl l1-no-r1 owned-r1)
            ∙ ap (λ (w : Option OwnedQuant). put_range_found z.s 0 w (change (owns r1.id) (without_quant r1.id) (up ++ d1 ∷ (s0 ∷ (l1 ++ c ∷ l2))))) found-r1
            ∙ ap (change (is_box z.s) (put_range 0 r1)) (change-far (owns r1.id) up d1 s0 l1 c l2 (without_quant r1.id) up-no-r1 d1-no-r1 refl l1-no-r1 owned-r1 ∙ ap (λ (rs : List OwnedQuant). up ++ d1 ∷ (s0 ∷ (l1 ++ record c { quants = rs } ∷ l2))) without-r1)
            ∙ change-second (is_box z.s) (put_range 0 r1) up d1 s0 (l1 ++ c0 ∷ l2) up-no-s d-not-s (eq-itself z.s)

    abbrev d2 : Node
    d2 = record d { quants = r ∷ (range z.u F z.s ∷ []) }

    abbrev c1 : Node
    c1 = record c { quants = a ∷ (both.l ∷ []) }

    -- c is behind d and s
    change-c : (h : Node → Node) (w s y : Node) → w.id ≡ d.id → s.id ≡ z.s → y.id ≡ c.id → change (is_box c.id) h (up ++ w ∷ (s ∷ (l1 ++ y ∷ l2))) ≡ up ++ w ∷ (s ∷ (l1 ++ h y ∷ l2))
    change-c h w s y i j e = change-far (is_box c.id) up w s l1 y l2 h up-no-c (subst (λ b. (b == c.id) ≡ false) (sym i) d-not-c) (subst (λ b. (b == c.id) ≡ false) (sym j) s-not-c) l1-no-c (eq-eqb y.id c.id e)

    moved-a : quant_moved a.id c.id 0 (up ++ d1 ∷ (s2 ∷ (l1 ++ c0 ∷ l2))) ≡ up ++ d2 ∷ (s2 ∷ (l1 ++ c1 ∷ l2))
    moved-a =
        ap (λ (w : Option Node). put_range_found c.id 0 (range_in a.id w) (change (owns a.id) (without_quant a.id) (up ++ d1 ∷ (s2 ∷ (l1 ++ c0 ∷ l2))))) (first-amid (owns a.id) up d1 (s2 ∷ (l1 ++ c0 ∷ l2)) up-no-a owned)
        ∙ ap (λ b. put_range_found c.id 0 (cond b (Some a) (first (is_quant a.id) (r ∷ (uq ∷ [])))) (change (owns a.id) (without_quant a.id) (up ++ d1 ∷ (s2 ∷ (l1 ++ c0 ∷ l2))))) (eq-itself a.id)
        ∙ ap (change (is_box c.id) (put_range 0 a)) (change-amid (owns a.id) (without_quant a.id) up d1 (s2 ∷ (l1 ++ c0 ∷ l2)) up-no-a owned ∙ ap (λ b. up ++ record d { quants = cond b (r ∷ (uq ∷ [])) (a ∷ without (is_quant a.id) (r ∷ (uq ∷ []))) } ∷ (s2 ∷ (l1 ++ c0 ∷ l2))) (eq-itself a.id))
        ∙ change-c (put_range 0 a) d2 s2 c0 refl refl refl
      where
        owned : owns a.id d1 ≡ true
        owned = ap (λ b. b || ((r.id == a.id) || ((z.u == a.id) || false))) (eq-itself a.id)

        up-no-a : list_any (owns a.id) up ≡ false
        up-no-a = below.unowned g once wf d may.ready a (subst (λ (rs : List OwnedQuant). In a rs) (sym may.ready.quants) (inl refl))

    module _ (left right : Role) (mt : List SqlType) where
      abbrev s' : Node
      s' = pair_box z.s right z.p m.id (width m) both.r.id both.y.id (width both.y)

      abbrev c' : Node
      c' = pair_box c.id left a.id m.id (width m) both.l.id both.x.id (width both.x)

      abbrev d' : Node
      d' = set_box d.id may.form mt r.id c.id z.u z.s

      abbrev head_s : List Term
      head_s = of_both z.p (width m) both.r.id (width both.y)

      abbrev head_c : List Term
      head_c = of_both a.id (width m) both.l.id (width both.x)

      s-is : parted Select right no_conds head_s s2 ≡ s'
      s-is = ap (λ (q : OwnedQuant). record { id = z.s; parts = record { kind = Select; distinct = Preserve; role = right; conds = no_conds; head = head_s }; quants = range z.p F m.id ∷ (q ∷ []) }) (as-range r1 y.id both.row_r both.over_y)

      c-is : with_distinct Preserve (parted Select left no_conds head_c c1) ≡ c'
      c-is =
          ap (λ (q : OwnedQuant). record { id = c.id; parts = record { kind = Select; distinct = Preserve; role = left; conds = no_conds; head = head_c }; quants = q ∷ (l ∷ []) }) (below.a-range g once wf d may.ready)
          ∙ ap (λ (q : OwnedQuant). record { id = c.id; parts = record { kind = Select; distinct = Preserve; role = left; conds = no_conds; head = head_c }; quants = range a.id F m.id ∷ (q ∷ []) }) (as-range l x.id both.row_l both.over_x)

      d-is : parted (SetOp may.form mt) Plain no_conds [] d2 ≡ d'
      d-is =
          ap (λ (v : Distinct). record { id = d.id; parts = record { kind = SetOp may.form mt; distinct = v; role = Plain; conds = no_conds; head = [] }; quants = r ∷ (uq ∷ []) }) (below.preserve-d g once wf d may.ready)
          ∙ ap (λ (q : OwnedQuant). record { id = d.id; parts = record { kind = SetOp may.form mt; distinct = Preserve; role = Plain; conds = no_conds; head = [] }; quants = q ∷ (uq ∷ []) }) (below.r-range g once wf d may.ready)

      selects-are : (put_selects f k z left right (with_select f k z g)).boxes ≡ up ++ d2 ∷ (s' ∷ (l1 ++ c' ∷ l2))
      selects-are =
          ap (λ (w : List Node). change (is_box c.id) (with_distinct Preserve) (change (is_box c.id) (parted Select left no_conds head_c) (change (is_box z.s) (parted Select right no_conds head_s) w))) (ap (quant_moved a.id c.id 0) select-is ∙ moved-a)
          ∙ ap (λ (w : List Node). change (is_box c.id) (with_distinct Preserve) (change (is_box c.id) (parted Select left no_conds head_c) w)) (change-second (is_box z.s) (parted Select right no_conds head_s) up d2 s2 (l1 ++ c1 ∷ l2) up-no-s d-not-s (eq-itself z.s) ∙ ap (λ (w : Node). up ++ d2 ∷ (w ∷ (l1 ++ c1 ∷ l2))) s-is)
          ∙ ap (change (is_box c.id) (with_distinct Preserve)) (change-c (parted Select left no_conds head_c) d2 s' c1 refl refl refl)
          ∙ change-c (with_distinct Preserve) d2 s' (parted Select left no_conds head_c c1) refl refl refl
          ∙ ap (λ (w : Node). up ++ d2 ∷ (s' ∷ (l1 ++ w ∷ l2))) c-is

      -- so it is the set operation of both
      pub set-is : (with_set f may.form k z left right mt g).boxes ≡ (absorbed_set g (inferred_facts g.boxes) d may.ready may.form mt l r1 x y z.s z.u z.p left right up l1 l2).boxes
      set-is =
          ap (λ (w : List Node). moved_below c.id z.s (change (is_box d.id) (parted (SetOp may.form mt) Plain no_conds []) w)) selects-are
          ∙ ap (moved_below c.id z.s) (change-amid (is_box d.id) (parted (SetOp may.form mt) Plain no_conds []) up d2 (s' ∷ (l1 ++ c' ∷ l2)) no-d (eq-itself d.id) ∙ ap (λ (w : Node). up ++ w ∷ (s' ∷ (l1 ++ c' ∷ l2))) d-is)
          ∙ ap (λ (w : Option Node). put_found z.s w (without (is_box c.id) (up ++ d' ∷ (s' ∷ (l1 ++ c' ∷ l2))))) (first-far (is_box c.id) up d' s' l1 c' l2 up-no-c d-not-c s-not-c l1-no-c (eq-itself c.id))
          ∙ ap (put_below (is_box z.s) c') (without-far (is_box c.id) up d' s' l1 c' l2 up-no-c d-not-c s-not-c l1-no-c (eq-itself c.id))
          ∙ put-second (is_box z.s) c' up d' s' (l1 ++ l2) up-no-s d-not-s (eq-itself z.s)
