-- G5 at a place: the operands of the outer join, and the boxes after the fed box and it have changed their quantifiers.
use Rattle.std.proofs.Common.{◌==◌, ◌≡◌, ◌&&◌, ◌||◌, true, false, List, [], ◌∷◌, ◌++◌, Option, Some, append_assoc, refl, sym, ap, ap₂, subst, ◌∙◌, eqb-true, inl, inr}
use Rattle.std.specs.List.{list_all, list_any}
use Rattle.std.proofs.lemmas.Bool.{and_parts, cases_Bool, eq-eqb, or_from, or_left, or_right}
use Rattle.qgm_core.specs.Boxes.{QueryGraph, is_box, is_quant, numbers, owns}
use Rattle.qgm_core.specs.Edits.{moved_below, on_quant, put_found, quant_moved}
use Rattle.qgm_core.specs.Kinds.{is_plain}
use Rattle.list_laws.specs.Lists.{EachOnce, In, change, first, put_below, without}
use Rattle.qgm_core.specs.declared.kinds.BoxKind.{BoxKind}
use Rattle.qgm_core.specs.declared.node.Node.{Node}
use Rattle.qgm_core.specs.declared.owned.OwnedQuant.{OwnedQuant}
use Rattle.qgm_core.proofs.Reaching.{overs-held}
use Rattle.qgm_edit_laws.proofs.PlacedLists.{first-in}
use Rattle.qgm_wellformed.specs.Sentences.{WellFormed}
use Rattle.qgm_wellformed.specs.Shapes as shape
use Rattle.qgm_wellformed.specs.Shapes.{head_is_own, is_column, is_outer_join, is_unfolded, kind_fits}
use Rattle.qgm_wellformed.proofs.Faults.{well-ordered}
use Rattle.rule_api.specs.declared.place.Place.{Place}
use Rattle.rule_magic.specs.AbsorbExact.{feeding_by, inferred-told}
use Rattle.rule_magic.specs.AbsorbOuterJoin.{AreOver, MayAbsorbOuterAt, OuterAt}
use Rattle.rule_magic.specs.AbsorbOuterSteps.{CanAbsorbOuter, swapped}
use Rattle.rule_magic.specs.Feeding.{Feeding, inferred_facts}
use Rattle.rule_magic.specs.Operands.{OperandPair, both_under, pair_under}
use Rattle.rule_magic.proofs.AbsorbGroupBelow as below
use Rattle.rule_magic.proofs.AbsorbOuterFacts as outer
use Rattle.rule_magic.proofs.AbsorbSelectFormed as placed
use Rattle.rule_magic.proofs.AbsorbSetActs.{are-two}
use Rattle.rule_magic.proofs.AbsorbFacts as fed
use Rattle.rule_magic.proofs.Adjacent.{change-first, change-here, change-next, change-there, first-here, first-there, to-first, to-second, without-here, without-there}
use Rattle.rule_magic.proofs.Amid.{first-amid, none-append, put-amid, without-amid}
use Rattle.rule_magic.proofs.CalmFires.{shape-kind}
use Rattle.list_laws.proofs.Booleans.{clash}
use Rattle.list_laws.proofs.Membership.{any-from, any-not, eq-false-sym, eq-itself}

module _ (g : QueryGraph) (once : EachOnce (numbers g.boxes)) (wf : WellFormed g) (p : Place) (d : Node) (may : MayAbsorbOuterAt p g d) where
  abbrev c : Node
  c = may.ready.c

  abbrev m : Node
  m = may.ready.m

  abbrev a : OwnedQuant
  a = may.ready.a

  abbrev r : OwnedQuant
  r = may.ready.r

  abbrev pub f : Feeding
  f = feeding_by g d may.ready

  -- ---- the operands

  pub record HasTwo : Type 0 where
    pub l : OwnedQuant
    pub x : Node
    pub r1 : OwnedQuant
    pub y : Node
    pub two : c.quants ≡ l ∷ (r1 ∷ [])
    pub under_l : first (is_box l.over) g.boxes ≡ Some x
    pub in_x : In x g.boxes
    pub over_x : l.over ≡ x.id
    pub under_r : first (is_box r1.over) g.boxes ≡ Some y
    pub in_y : In y g.boxes
    pub over_y : r1.over ≡ y.id

  pub both : HasTwo
  both =
      let h : is_outer_join c ≡ true = subst (λ (k : BoxKind). kind_fits g.root g.boxes c k ≡ true) may.an_outer (shape-kind g once wf c may.ready.in_c) in
      let h1 = and_parts (shape.are_F 2 c.quants && list_all is_column c.parts.head && head_is_own c && is_unfolded c) (is_plain c.parts.role) h in
      let h2 = and_parts (shape.are_F 2 c.quants && list_all is_column c.parts.head && head_is_own c) (is_unfolded c) h1.0 in
      let h3 = and_parts (shape.are_F 2 c.quants && list_all is_column c.parts.head) (head_is_own c) h2.0 in
      let q = are-two c.quants (and_parts (shape.are_F 2 c.quants) (list_all is_column c.parts.head) h3.0).0 in
      let x = first-in (is_box q.l.over) g.boxes (overs-held g.boxes c q.l (well-ordered g once wf) may.ready.in_c (subst (λ (rs : List OwnedQuant). In q.l rs) (sym q.are) (inl refl))) in
      let y = first-in (is_box q.r.over) g.boxes (overs-held g.boxes c q.r (well-ordered g once wf) may.ready.in_c (subst (λ (rs : List OwnedQuant). In q.r rs) (sym q.are) (inr (inl refl)))) in
      record {
        l = q.l;
        x = x.0;
        r1 = q.r;
        y = y.0;
        two = q.are;
        under_l = x.1.0;
        in_x = x.1.1.0;
        over_x = sym (eqb-true x.0.id q.l.over x.1.1.1);
        under_r = y.1.0;
        in_y = y.1.1.0;
        over_y = sym (eqb-true y.0.id q.r.over y.1.1.1);
      }

  abbrev l : OwnedQuant
  l = both.l

  abbrev r1 : OwnedQuant
  r1 = both.r1

  abbrev x : Node
  x = both.x

  abbrev y : Node
  y = both.y

  abbrev pub k : OperandPair
  k = record { l = both.l; x = both.x; r = both.r1; y = both.y }

  -- what is found of it
  pub pair-found : pair_under g.boxes c.quants ≡ Some k
  pair-found = ap (pair_under g.boxes) both.two ∙ ap (λ (z : Option Node). both_under l r1 z (first (is_box r1.over) g.boxes)) both.under_l ∙ ap (both_under l r1 (Some x)) both.under_r

  pub are-over : AreOver g c l r1 x y
  are-over = record { two = both.two; in_x = both.in_x; over_x = both.over_x; in_y = both.in_y; over_y = both.over_y }

  abbrev pub up : List Node
  up = (below.amid g once wf d may.ready).up

  abbrev pub l1 : List Node
  l1 = (below.amid g once wf d may.ready).l1

  abbrev pub l2 : List Node
  l2 = (below.amid g once wf d may.ready).l2

  pub before : g.boxes ≡ up ++ d ∷ (l1 ++ c ∷ l2)
  before = (below.amid g once wf d may.ready).before

  pub at : OuterAt g (inferred_facts g.boxes) d may.ready l r1 x y up l1 l2
  at = record { once = once; formed = wf; tells = inferred-told g.boxes; an_outer = may.an_outer; two = both.two; in_x = both.in_x; over_x = both.over_x; in_y = both.in_y; over_y = both.over_y; before = before }

  pub no-d : list_any (is_box d.id) up ≡ false
  no-d = below.no-d g once wf d may.ready

  pub up-no-c : list_any (is_box c.id) up ≡ false
  up-no-c = below.up-no-c g once wf d may.ready

  pub d-not-c : (d.id == c.id) ≡ false
  d-not-c = below.d-not-c g once wf d may.ready

  -- ---- their numbers

  in-l : In l c.quants
  in-l = outer.in-l g (inferred_facts g.boxes) d may.ready l r1 x y up l1 l2 at

  in-r1 : In r1 c.quants
  in-r1 = outer.in-r1 g (inferred_facts g.boxes) d may.ready l r1 x y up l1 l2 at

  l-not-a : (l.id == a.id) ≡ false
  l-not-a = outer.not-a g (inferred_facts g.boxes) d may.ready l r1 x y up l1 l2 at l in-l

  r1-not-a : (r1.id == a.id) ≡ false
  r1-not-a = outer.not-a g (inferred_facts g.boxes) d may.ready l r1 x y up l1 l2 at r1 in-r1

  l-not-r : (l.id == r.id) ≡ false
  l-not-r = outer.not-r g (inferred_facts g.boxes) d may.ready l r1 x y up l1 l2 at l in-l

  r1-not-r : (r1.id == r.id) ≡ false
  r1-not-r = outer.not-r g (inferred_facts g.boxes) d may.ready l r1 x y up l1 l2 at r1 in-r1

  pub l-not-r1 : (l.id == r1.id) ≡ false
  l-not-r1 = outer.l-not-r1 g (inferred_facts g.boxes) d may.ready l r1 x y up l1 l2 at

  r-not-a : (r.id == a.id) ≡ false
  r-not-a = fed.apart g once wf (inferred_facts g.boxes) (inferred-told g.boxes) d may.ready

  -- nobody above owns one of these
  pub up-no : (z : OwnedQuant) → In z c.quants → list_any (owns z.id) up ≡ false
  up-no z j = any-not (owns z.id) up (λ n i. elim (cases_Bool (owns z.id n)) [
    | inr e ↦ e
    | inl t ↦ absurd (
        let v = placed.other-up g once wf (inferred_facts g.boxes) (inferred-told g.boxes) d may.ready up l1 l2 before n i in
        clash (n.id == c.id) (eq-eqb n.id c.id (ap (λ (z : Node). z.id) (outer.same-owner g (inferred_facts g.boxes) d may.ready l r1 x y up l1 l2 at z n j v.0 t))) v.1.1)
  ])

  up-no-a : list_any (owns a.id) up ≡ false
  up-no-a = below.unowned g once wf d may.ready a (fed.in-a g once wf (inferred_facts g.boxes) (inferred-told g.boxes) d may.ready)

  up-no-r : list_any (owns r.id) up ≡ false
  up-no-r = below.unowned-r g once wf d may.ready

  pub can : CanAbsorbOuter g f k
  can = record {
    held_d = any-from (is_box d.id) d g.boxes may.ready.in_d (eq-itself d.id);
    held_m = any-from (is_box m.id) m g.boxes may.ready.in_m (eq-itself m.id);
    held_c = any-from (is_box c.id) c g.boxes may.ready.in_c (eq-itself c.id);
    held_x = any-from (is_box x.id) x g.boxes both.in_x (eq-itself x.id);
    held_y = any-from (is_box y.id) y g.boxes both.in_y (eq-itself y.id);
    apart = eq-false-sym d.id c.id d-not-c;
    owned_a = any-from (owns a.id) d g.boxes may.ready.in_d (any-from (is_quant a.id) a d.quants (fed.in-a g once wf (inferred_facts g.boxes) (inferred-told g.boxes) d may.ready) (eq-itself a.id));
    owned_r = any-from (owns r.id) d g.boxes may.ready.in_d (any-from (is_quant r.id) r d.quants (fed.in-r g once wf (inferred_facts g.boxes) (inferred-told g.boxes) d may.ready) (eq-itself r.id));
    owned_l = any-from (owns l.id) c g.boxes may.ready.in_c (any-from (is_quant l.id) l c.quants in-l (eq-itself l.id));
    owned_q = any-from (owns r1.id) c g.boxes may.ready.in_c (any-from (is_quant r1.id) r1 c.quants in-r1 (eq-itself r1.id));
  }

  -- ---- the boxes, step by step

  abbrev low : List Node
  low = l1 ++ l2

  abbrev pub l' : OwnedQuant
  l' = record both.l { over = may.ready.c.id }

  abbrev pub r' : OwnedQuant
  r' = record may.ready.r { over = both.x.id }

  abbrev two_boxes : List OwnedQuant → List OwnedQuant → List Node
  two_boxes ds cs = up ++ record d { quants = ds } ∷ (record may.ready.c { quants = cs } ∷ (l1 ++ l2))

  moved-c : moved_below c.id d.id g.boxes ≡ two_boxes (a ∷ (r ∷ [])) (l ∷ (r1 ∷ []))
  moved-c =
      ap (moved_below c.id d.id) (before ∙ sym (append_assoc up (d ∷ l1) (c ∷ l2)))
      ∙ ap (λ (z : Option Node). put_found d.id z (without (is_box c.id) ((up ++ d ∷ l1) ++ c ∷ l2))) (first-amid (is_box c.id) (up ++ d ∷ l1) c l2 none (eq-itself c.id))
      ∙ ap (put_below (is_box d.id) c) (without-amid (is_box c.id) (up ++ d ∷ l1) c l2 none (eq-itself c.id) ∙ append_assoc up (d ∷ l1) l2)
      ∙ put-amid (is_box d.id) c up d low no-d (eq-itself d.id)
      ∙ ap₂ (λ (ds cs : List OwnedQuant). two_boxes ds cs) may.ready.quants both.two
    where
      none : list_any (is_box c.id) (up ++ d ∷ l1) ≡ false
      none = none-append (is_box c.id) up (d ∷ l1) up-no-c (or_from (d.id == c.id) (list_any (is_box c.id) l1) d-not-c (below.l1-no-c g once wf d may.ready))

  -- r1 and then l come to d, and r and then a to c
  step-r1 : quant_moved r1.id d.id 0 (two_boxes (a ∷ (r ∷ [])) (l ∷ (r1 ∷ []))) ≡ two_boxes (r1 ∷ (a ∷ (r ∷ []))) (l ∷ [])
  step-r1 = to-first up low d c no-d up-no-c d-not-c r1 (a ∷ (r ∷ [])) (l ∷ (r1 ∷ [])) (l ∷ []) (up-no r1 in-r1)
      (or_from (a.id == r1.id) ((r.id == r1.id) || false) (eq-false-sym r1.id a.id r1-not-a) (or_from (r.id == r1.id) false (eq-false-sym r1.id r.id r1-not-r) refl))
      (or_right (l.id == r1.id) ((r1.id == r1.id) || false) (or_left (r1.id == r1.id) false (eq-itself r1.id)))
      (first-there r1.id l (r1 ∷ []) l-not-r1 ∙ first-here r1 []) (without-there r1.id l (r1 ∷ []) l-not-r1 ∙ ap (λ (rs : List OwnedQuant). l ∷ rs) (without-here r1 []))

  step-l : quant_moved l.id d.id 0 (two_boxes (r1 ∷ (a ∷ (r ∷ []))) (l ∷ [])) ≡ two_boxes (l ∷ (r1 ∷ (a ∷ (r ∷ [])))) []
  step-l = to-first up low d c no-d up-no-c d-not-c l (r1 ∷ (a ∷ (r ∷ []))) (l ∷ []) [] (up-no l in-l)
      (or_from (r1.id == l.id) ((a.id == l.id) || ((r.id == l.id) || false)) (eq-false-sym l.id r1.id l-not-r1)
      (or_from (a.id == l.id) ((r.id == l.id) || false) (eq-false-sym l.id a.id l-not-a) (or_from (r.id == l.id) false (eq-false-sym l.id r.id l-not-r) refl)))
      (or_left (l.id == l.id) false (eq-itself l.id)) (first-here l []) (without-here l [])

  step-r : quant_moved r.id c.id 0 (two_boxes (l ∷ (r1 ∷ (a ∷ (r ∷ [])))) []) ≡ two_boxes (l ∷ (r1 ∷ (a ∷ []))) (r ∷ [])
  step-r = to-second up low d c no-d up-no-c d-not-c r (l ∷ (r1 ∷ (a ∷ (r ∷ [])))) [] (l ∷ (r1 ∷ (a ∷ []))) up-no-r
      (or_right (l.id == r.id) ((r1.id == r.id) || ((a.id == r.id) || ((r.id == r.id) || false))) (or_right (r1.id == r.id) ((a.id == r.id) || ((r.id == r.id) || false)) (or_right (a.id == r.id) ((r.id == r.id) || false) (or_left (r.id == r.id) false (eq-itself r.id)))))
      (first-there r.id l (r1 ∷ (a ∷ (r ∷ []))) l-not-r ∙ first-there r.id r1 (a ∷ (r ∷ [])) r1-not-r ∙ first-there r.id a (r ∷ []) (eq-false-sym r.id a.id r-not-a) ∙ first-here r [])
      (without-there r.id l (r1 ∷ (a ∷ (r ∷ []))) l-not-r
      ∙ ap (λ (rs : List OwnedQuant). l ∷ rs) (without-there r.id r1 (a ∷ (r ∷ [])) r1-not-r ∙ ap (λ (rs : List OwnedQuant). r1 ∷ rs) (without-there r.id a (r ∷ []) (eq-false-sym r.id a.id r-not-a) ∙ ap (λ (rs : List OwnedQuant). a ∷ rs) (without-here r []))))

  step-a : quant_moved a.id c.id 0 (two_boxes (l ∷ (r1 ∷ (a ∷ []))) (r ∷ [])) ≡ two_boxes (l ∷ (r1 ∷ [])) (a ∷ (r ∷ []))
  step-a = to-second up low d c no-d up-no-c d-not-c a (l ∷ (r1 ∷ (a ∷ []))) (r ∷ []) (l ∷ (r1 ∷ [])) up-no-a
      (or_right (l.id == a.id) ((r1.id == a.id) || ((a.id == a.id) || false)) (or_right (r1.id == a.id) ((a.id == a.id) || false) (or_left (a.id == a.id) false (eq-itself a.id))))
      (first-there a.id l (r1 ∷ (a ∷ [])) l-not-a ∙ first-there a.id r1 (a ∷ []) r1-not-a ∙ first-here a [])
      (without-there a.id l (r1 ∷ (a ∷ [])) l-not-a ∙ ap (λ (rs : List OwnedQuant). l ∷ rs) (without-there a.id r1 (a ∷ []) r1-not-a ∙ ap (λ (rs : List OwnedQuant). r1 ∷ rs) (without-here a [])))

  -- l ranges over c, and r over x
  step-over-c : change (owns l.id) (on_quant l.id (λ q. record q { over = c.id })) (two_boxes (l ∷ (r1 ∷ [])) (a ∷ (r ∷ []))) ≡ two_boxes (l' ∷ (r1 ∷ [])) (a ∷ (r ∷ []))
  step-over-c = change-first up low d c no-d up-no-c d-not-c l.id (λ q. record q { over = c.id }) (l ∷ (r1 ∷ [])) (a ∷ (r ∷ [])) (l' ∷ (r1 ∷ [])) (up-no l in-l) (or_left (l.id == l.id) ((r1.id == l.id) || false) (eq-itself l.id)) (change-here (λ q. record q { over = c.id }) l (r1 ∷ []))

  step-over-x : change (owns r.id) (on_quant r.id (λ q. record q { over = x.id })) (two_boxes (l' ∷ (r1 ∷ [])) (a ∷ (r ∷ []))) ≡ two_boxes (l' ∷ (r1 ∷ [])) (a ∷ (r' ∷ []))
  step-over-x = change-next up low d c no-d up-no-c d-not-c r.id (λ q. record q { over = x.id }) (l' ∷ (r1 ∷ [])) (a ∷ (r ∷ [])) (a ∷ (r' ∷ [])) up-no-r
      (or_from (l.id == r.id) ((r1.id == r.id) || false) l-not-r (or_from (r1.id == r.id) false r1-not-r refl)) (or_right (a.id == r.id) ((r.id == r.id) || false) (or_left (r.id == r.id) false (eq-itself r.id)))
      (change-there (λ q. record q { over = x.id }) r.id a (r ∷ []) (eq-false-sym r.id a.id r-not-a) ∙ ap (λ (rs : List OwnedQuant). a ∷ rs) (change-here (λ q. record q { over = x.id }) r []))

  pub swapped-is : (swapped f k g).boxes ≡ up ++ record d { quants = l' ∷ (r1 ∷ []) } ∷ (record may.ready.c { quants = a ∷ (r' ∷ []) } ∷ (l1 ++ l2))
  swapped-is =
      ap (λ (z : List Node). redirected (quant_moved a.id c.id 0 (quant_moved r.id c.id 0 (quant_moved l.id d.id 0 (quant_moved r1.id d.id 0 z))))) moved-c
      ∙ ap (λ (z : List Node). redirected (quant_moved a.id c.id 0 (quant_moved r.id c.id 0 (quant_moved l.id d.id 0 z)))) step-r1
      ∙ ap (λ (z : List Node). redirected (quant_moved a.id c.id 0 (quant_moved r.id c.id 0 z))) step-l
      ∙ ap (λ (z : List Node). redirected (quant_moved a.id c.id 0 z)) step-r
      ∙ ap redirected step-a
      ∙ ap (change (owns r.id) (on_quant r.id (λ q. record q { over = x.id }))) step-over-c
      ∙ step-over-x
    where
      redirected : List Node → List Node
      redirected z = change (owns r.id) (on_quant r.id (λ q. record q { over = x.id })) (change (owns l.id) (on_quant l.id (λ q. record q { over = c.id })) z)
