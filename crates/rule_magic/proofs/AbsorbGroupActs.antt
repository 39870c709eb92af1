-- The steps of G3 come to its action, which preserves.
use Rattle.std.proofs.Common.{ℕ, zero, suc, ◌==◌, ◌≡◌, ◌+◌, ◌&&◌, ◌||◌, true, false, List, [], ◌∷◌, ◌++◌, Option, Some, None, cond, length, append_assoc, refl, sym, ap, ap₂, subst, ◌∙◌, eqb-true, inl, inr, arith}
use Rattle.std.specs.List.{list_any}
use Rattle.std.proofs.lemmas.Bool.{and_parts}
use Rattle.qgm_core.specs.Boxes.{QueryGraph, bare_box, has_box, is_box, is_quant, numbers, owns, width}
use Rattle.qgm_core.specs.Edits.{compact, moved_below, on_boxes, on_quant, parted, put_found, put_range, range, with_terms}
use Rattle.qgm_core.specs.Kinds.{is_F, is_plain}
use Rattle.list_laws.specs.Lists.{EachOnce, In, change, first, put_below, without}
use Rattle.qgm_core.specs.declared.kinds.BoxKind.{BoxKind}
use Rattle.qgm_core.specs.declared.kinds.BoxKind.TheVariants.{Group, OuterJoin, Select}
use Rattle.qgm_core.specs.declared.kinds.Distinct.{Distinct}
use Rattle.qgm_core.specs.declared.kinds.Distinct.TheVariants.{Preserve}
use Rattle.qgm_core.specs.declared.kinds.QuantKind.TheVariants.{F}
use Rattle.qgm_core.specs.declared.kinds.Role.TheVariants.{Fed, Plain}
use Rattle.qgm_core.specs.declared.node.Node.{Node}
use Rattle.qgm_core.specs.declared.owned.OwnedQuant.{OwnedQuant}
use Rattle.qgm_meaning.specs.Tags.{columns_from}
use Rattle.qgm_terms.specs.Terms.{Term}
use Rattle.qgm_wellformed.specs.Sentences.{WellFormed}
use Rattle.qgm_wellformed.specs.Shapes as shape
use Rattle.qgm_wellformed.specs.Shapes.{is_none, kind_fits}
use Rattle.qgm_wellformed.proofs.Faults.{well-ordered}
use Rattle.rule_api.specs.Rules.{Preserves}
use Rattle.rule_api.specs.declared.place.Place.{Place}
use Rattle.rule_magic.specs.AbsorbExact.{feeding_by, inferred-told, is-feeding, may-found}
use Rattle.rule_magic.specs.AbsorbGroup.{AbsorbsGroup, AbsorbsKeyedAt, AbsorbsKeylessAt, AreFresh, MayAbsorbGroup, MayAbsorbGroupAt, absorbed_group, absorbed_keyless}
use Rattle.rule_magic.specs.AbsorbGroupSteps.{AreNumbersNew, CanAbsorbGroup, Grouping, StepsKeyless, fed_below, grouping, grouping_by, keyed_steps, keyless_steps, over_found, over_one, with_boxes, with_cells, with_join}
use Rattle.rule_magic.specs.Boxes.{counted, counted_box, joined_box, keyed, keyed_box, later, new_parts, no_conds, pair_box, same_each}
use Rattle.rule_magic.specs.Feeding.{Feeding, feeding, inferred_facts}
use Rattle.rule_magic.specs.declared.absorb_group.keyless.NewNumbers.{NewNumbers}
use Rattle.rule_magic.proofs.AbsorbGroupBelow as below
use Rattle.rule_magic.proofs.AbsorbGroupBelow.{as-range}
use Rattle.rule_magic.proofs.AbsorbGroupKeeps.{group-preserves}
use Rattle.rule_magic.proofs.AbsorbKeylessKeeps.{keyless-preserves}
use Rattle.rule_magic.proofs.AbsorbShared.{no-box, no-quant}
use Rattle.rule_magic.proofs.Amid.{change-amid, change-second, change-third, first-amid, none-append, put-amid, put-second, without-amid}
use Rattle.rule_magic.proofs.CalmFires.{shape-kind}
use Rattle.qgm_edit_laws.proofs.PlacedLists.{first-in}
use Rattle.qgm_core.proofs.Reaching.{overs-held}
use Rattle.list_laws.proofs.Membership.{any-none, any-not, eq-false-sym, eq-itself}

-- ---- a group has one F quantifier, over a box

one-quant : (rs : List OwnedQuant) → shape.are_F 1 rs ≡ true → (q : OwnedQuant) × ((rs ≡ q ∷ []) × (is_F q.kind ≡ true))
one-quant [] h = absurd (let z : ⊥ = cc in z)
one-quant (q ∷ []) h = (q, (refl, (and_parts (is_F q.kind) true (and_parts (length (q ∷ []) == 1) (is_F q.kind && true) h).1).0))
one-quant (q ∷ (r ∷ rs)) h = absurd (let e = eqb-true (length (q ∷ (r ∷ rs))) 1 (and_parts (length (q ∷ (r ∷ rs)) == 1) (shape.all_F (q ∷ (r ∷ rs))) h).0 in let z : suc (suc (length rs)) ≡ 1 = e in omega (arith, z))

module _ (g : QueryGraph) (once : EachOnce (numbers g.boxes)) (wf : WellFormed g) (c : Node) (i : In c g.boxes) (keys : ℕ) (kind : c.parts.kind ≡ Group keys) where
  pub record IsOne : Type 0 where
    pub q : OwnedQuant
    pub x : Node
    pub alone : c.quants ≡ q ∷ []
    pub row : is_F q.kind ≡ true
    pub under : first (is_box q.over) g.boxes ≡ Some x
    pub in_x : In x g.boxes
    pub over_x : q.over ≡ x.id

  pub is-one : IsOne
  is-one =
      let h : shape.is_group keys c ≡ true = subst (λ (k : BoxKind). kind_fits g.root g.boxes c k ≡ true) kind (shape-kind g once wf c i) in
      let h1 = and_parts (shape.are_F 1 c.quants && is_none c.parts.conds.items && is_plain c.parts.role && shape.head_folds keys c.parts.head) (shape.head_is_own c) h in
      let h2 = and_parts (shape.are_F 1 c.quants && is_none c.parts.conds.items && is_plain c.parts.role) (shape.head_folds keys c.parts.head) h1.0 in
      let h3 = and_parts (shape.are_F 1 c.quants && is_none c.parts.conds.items) (is_plain c.parts.role) h2.0 in
      let q = one-quant c.quants (and_parts (shape.are_F 1 c.quants) (is_none c.parts.conds.items) h3.0).0 in
      let held = overs-held g.boxes c q.0 (well-ordered g once wf) i (subst (λ (rs : List OwnedQuant). In q.0 rs) (sym q.1.0) (inl refl)) in
      let x = first-in (is_box q.0.over) g.boxes held in
      record { q = q.0; x = x.0; alone = q.1.0; row = q.1.1; under = x.1.0; in_x = x.1.1.0; over_x = sym (eqb-true x.0.id q.0.over x.1.1.1) }

-- ---- the steps at a fed box over a group

module _ (g : QueryGraph) (once : EachOnce (numbers g.boxes)) (wf : WellFormed g) (p : Place) (d : Node) (may : MayAbsorbGroupAt p g d) where
  abbrev c : Node
  c = may.ready.c

  abbrev m : Node
  m = may.ready.m

  abbrev a : OwnedQuant
  a = may.ready.a

  abbrev r : OwnedQuant
  r = may.ready.r

  abbrev f : Feeding
  f = feeding_by g d may.ready

  pub one : IsOne g once wf c may.ready.in_c may.keys may.a_group
  one = is-one g once wf c may.ready.in_c may.keys may.a_group

  abbrev q : OwnedQuant
  q = one.q

  abbrev x : Node
  x = one.x

  abbrev k : Grouping
  k = record { keys = may.keys; q = one.q; x = one.x }

  -- what is found of it
  group-found : grouping g.boxes c ≡ Some k
  group-found = ap (grouping_by g.boxes c.quants) may.a_group ∙ ap (over_one g.boxes may.keys) one.alone ∙ ap (over_found may.keys q) one.under

  abbrev up : List Node
  up = (below.amid g once wf d may.ready).up

  abbrev l1 : List Node
  l1 = (below.amid g once wf d may.ready).l1

  abbrev l2 : List Node
  l2 = (below.amid g once wf d may.ready).l2

  before : g.boxes ≡ up ++ d ∷ (l1 ++ c ∷ l2)
  before = (below.amid g once wf d may.ready).before

  abbrev d0 : Node
  d0 = record d { quants = r ∷ [] }

  abbrev c1 : Node
  c1 = pair_box c.id Fed a.id m.id (width m) q.id x.id (width x)

  below-is : (fed_below f q x g).boxes ≡ up ++ d0 ∷ (l1 ++ c1 ∷ l2)
  below-is = below.below-is g once wf d may.ready q one.alone one.row x one.over_x

  no-d : list_any (is_box d.id) up ≡ false
  no-d = below.no-d g once wf d may.ready

  up-no-c : list_any (is_box c.id) up ≡ false
  up-no-c = below.up-no-c g once wf d may.ready

  l1-no-c : list_any (is_box c.id) l1 ≡ false
  l1-no-c = below.l1-no-c g once wf d may.ready

  d-not-c : (d.id == c.id) ≡ false
  d-not-c = below.d-not-c g once wf d may.ready

  -- c stands below the box that is behind these
  c-moved : (at : ℕ) (us : List Node) (n : Node) → list_any (is_box c.id) (us ++ n ∷ l1) ≡ false → list_any (is_box at) us ≡ false → n.id ≡ at
      → moved_below c.id at (us ++ n ∷ (l1 ++ c1 ∷ l2)) ≡ us ++ n ∷ (c1 ∷ (l1 ++ l2))
  c-moved at us n none apart e =
      let grouped : us ++ n ∷ (l1 ++ c1 ∷ l2) ≡ (us ++ n ∷ l1) ++ c1 ∷ l2 = sym (append_assoc us (n ∷ l1) (c1 ∷ l2)) in
      ap (moved_below c.id at) grouped
      ∙ ap (λ (z : Option Node). put_found at z (without (is_box c.id) ((us ++ n ∷ l1) ++ c1 ∷ l2))) (first-amid (is_box c.id) (us ++ n ∷ l1) c1 l2 none (eq-itself c.id))
      ∙ ap (put_below (is_box at) c1) (without-amid (is_box c.id) (us ++ n ∷ l1) c1 l2 none (eq-itself c.id) ∙ append_assoc us (n ∷ l1) l2)
      ∙ put-amid (is_box at) c1 us n (l1 ++ l2) apart (subst (λ z. (n.id == z) ≡ true) e (eq-itself n.id))

  -- ---- with keys

  module _ (j : ℕ) (more : may.keys ≡ suc j) where
    abbrev head : List Term
    head = keyed q.id r.id (width m) (width x) c.parts.head

    abbrev d1 : Node
    d1 = keyed_box d.id (width m + suc j) q.id r.id (width m) (width x) c.parts.head c.id

    keyed-is : parted (Group (width m + may.keys)) Plain no_conds head d0 ≡ d1
    keyed-is =
        ap (λ (n : ℕ). record { id = d.id; parts = record { kind = Group (width m + n); distinct = d.parts.distinct; role = Plain; conds = no_conds; head = head }; quants = r ∷ [] }) more
        ∙ ap (λ (z : Distinct). record { id = d.id; parts = record { kind = Group (width m + suc j); distinct = z; role = Plain; conds = no_conds; head = head }; quants = r ∷ [] }) (below.preserve-d g once wf d may.ready)
        ∙ ap (λ (z : OwnedQuant). record { id = d.id; parts = record { kind = Group (width m + suc j); distinct = Preserve; role = Plain; conds = no_conds; head = head }; quants = z ∷ [] }) (below.r-range g once wf d may.ready)

    keyed-steps-are : keyed_steps f k g ≡ compact (absorbed_group g (inferred_facts g.boxes) d may.ready j q x up l1 l2)
    keyed-steps-are = ap (λ (z : List Node). compact (record g { boxes = z })) (
        ap (λ (z : List Node). moved_below c.id d.id (change (is_box d.id) (parted (Group (width m + may.keys)) Plain no_conds head) z)) below-is
        ∙ ap (moved_below c.id d.id) (change-amid (is_box d.id) (parted (Group (width m + may.keys)) Plain no_conds head) up d0 (l1 ++ c1 ∷ l2) no-d (eq-itself d.id) ∙ ap (λ (z : Node). up ++ z ∷ (l1 ++ c1 ∷ l2)) keyed-is)
        ∙ c-moved d.id up d1 (none-append (is_box c.id) up (d1 ∷ l1) up-no-c (ap (λ b. b || list_any (is_box c.id) l1) d-not-c ∙ l1-no-c)) no-d refl)

    pub acts-keyed : (h : QueryGraph) → h ≡ keyed_steps f k g → AbsorbsKeyedAt p g h d
    acts-keyed h e = record { may = may; k = j; keyed = more; q = q; x = x; alone = one.alone; in_x = one.in_x; over_x = one.over_x; up = up; l1 = l1; l2 = l2; before = before; after = e ∙ keyed-steps-are }

  -- ---- without keys

  module _ (z : NewNumbers) (fresh : AreNumbersNew g z) (less : may.keys ≡ 0) where
    pub are-fresh : AreFresh g z.o z.n z.om z.oc z.p
    are-fresh = record {
      o_new = no-box g z.o fresh.o;
      n_new = no-box g z.n fresh.n;
      two = fresh.two;
      om_new = no-quant g z.om fresh.om;
      oc_new = no-quant g z.oc fresh.oc;
      p_new = no-quant g z.p fresh.p;
      om_oc = fresh.om_oc;
      om_p = fresh.om_p;
      oc_p = fresh.oc_p;
    }

    -- no box of these is new
    none-of : (b : ℕ) → has_box g.boxes b ≡ false → list_any (is_box b) up ≡ false
    none-of b e = any-not (is_box b) up (λ n i. any-none (is_box b) n g.boxes e (below.in-up g once wf d may.ready n i))

    d-not : (b : ℕ) → has_box g.boxes b ≡ false → (d.id == b) ≡ false
    d-not b e = any-none (is_box b) d g.boxes e may.ready.in_d

    c-not : (b : ℕ) → has_box g.boxes b ≡ false → (b == c.id) ≡ false
    c-not b e = eq-false-sym c.id b (any-none (is_box b) c g.boxes e may.ready.in_c)

    up-no-o : list_any (is_box z.o) up ≡ false
    up-no-o = none-of z.o are-fresh.o_new

    up-no-n : list_any (is_box z.n) up ≡ false
    up-no-n = none-of z.n are-fresh.n_new

    d-not-o : (d.id == z.o) ≡ false
    d-not-o = d-not z.o are-fresh.o_new

    d-not-n : (d.id == z.n) ≡ false
    d-not-n = d-not z.n are-fresh.n_new

    abbrev rest : List Node
    rest = l1 ++ c1 ∷ l2

    abbrev g1 : QueryGraph
    g1 = record g { boxes = up ++ d0 ∷ (l1 ++ c1 ∷ l2) }

    abbrev o0 : Node
    o0 = bare_box z.o (new_parts OuterJoin)

    abbrev n0 : Node
    n0 = bare_box z.n (new_parts (Group (width m)))

    boxes-are : (with_boxes d.id (width m) z.o z.n g1).boxes ≡ up ++ d0 ∷ (o0 ∷ (n0 ∷ rest))
    boxes-are = ap (put_below (is_box z.o) n0) (put-amid (is_box d.id) o0 up d0 rest no-d (eq-itself d.id)) ∙ put-second (is_box z.o) n0 up d0 o0 rest up-no-o d-not-o (eq-itself z.o)

    abbrev o1 : Node
    o1 = record o0 { quants = range z.om F m.id ∷ (range z.oc F z.n ∷ []) }

    abbrev n1 : Node
    n1 = record n0 { quants = range z.p F c.id ∷ [] }

    join-is : (with_join f z g1).boxes ≡ up ++ d0 ∷ (o1 ∷ (n1 ∷ rest))
    join-is =
        ap (λ (w : List Node). change (is_box z.n) (put_range 0 (range z.p F c.id)) (change (is_box z.o) (put_range 0 (range z.om F m.id)) (change (is_box z.o) (put_range 0 (range z.oc F z.n)) w))) boxes-are
        ∙ ap (λ (w : List Node). change (is_box z.n) (put_range 0 (range z.p F c.id)) (change (is_box z.o) (put_range 0 (range z.om F m.id)) w)) (change-second (is_box z.o) (put_range 0 (range z.oc F z.n)) up d0 o0 (n0 ∷ rest) up-no-o d-not-o (eq-itself z.o))
        ∙ ap (change (is_box z.n) (put_range 0 (range z.p F c.id))) (change-second (is_box z.o) (put_range 0 (range z.om F m.id)) up d0 (put_range 0 (range z.oc F z.n) o0) (n0 ∷ rest) up-no-o d-not-o (eq-itself z.o))
        ∙ change-third (is_box z.n) (put_range 0 (range z.p F c.id)) up d0 o1 n0 rest up-no-n d-not-n fresh.two (eq-itself z.n)

    abbrev o' : Node
    o' = joined_box z.o z.om m.id z.oc z.n (width m) (length c.parts.head)

    abbrev n' : Node
    n' = keyed_box z.n (width m) q.id z.p (width m) (width x) c.parts.head c.id

    abbrev head' : List Term
    head' = columns_from r.id 1 (width m) ++ counted r.id (suc (width m)) c.parts.head

    abbrev d' : Node
    d' = counted_box d.id r.id (width m) c.parts.head z.o

    abbrev to-o : OwnedQuant → OwnedQuant
    to-o s = record s { over = z.o }

    turned : change (is_quant r.id) to-o (r ∷ []) ≡ range r.id F z.o ∷ []
    turned =
        ap (λ b. cond b (to-o r ∷ []) (r ∷ change (is_quant r.id) to-o [])) (eq-itself r.id)
        ∙ ap (λ (s : OwnedQuant). s ∷ []) (as-range (to-o r) z.o (below.f-r g once wf d may.ready) refl)

    counted-is : parted Select Plain no_conds head' (on_quant r.id to-o d0) ≡ d'
    counted-is =
        ap (λ (v : Distinct). record { id = d.id; parts = record { kind = Select; distinct = v; role = Plain; conds = no_conds; head = head' }; quants = change (is_quant r.id) to-o (r ∷ []) }) (below.preserve-d g once wf d may.ready)
        ∙ ap (λ (rs : List OwnedQuant). record { id = d.id; parts = record { kind = Select; distinct = Preserve; role = Plain; conds = no_conds; head = head' }; quants = rs }) turned

    owns-r : owns r.id d0 ≡ true
    owns-r = ap (λ b. b || false) (eq-itself r.id)

    cells-are : (with_cells f k z (with_join f z g1)).boxes ≡ up ++ d' ∷ (o' ∷ (n' ∷ rest))
    cells-are =
        ap (λ (w : List Node). change (is_box d.id) (parted Select Plain no_conds head') (change (owns r.id) (on_quant r.id to-o) (change (is_box z.n) (with_terms no_conds (keyed q.id z.p (width m) (width x) c.parts.head)) (change (is_box z.o) (with_terms (record { items = same_each z.om z.oc 1 (width m); spare = 0 }) (columns_from z.om 1 (width m) ++ later z.oc (width m) (length c.parts.head))) w)))) join-is
        ∙ ap (λ (w : List Node). change (is_box d.id) (parted Select Plain no_conds head') (change (owns r.id) (on_quant r.id to-o) (change (is_box z.n) (with_terms no_conds (keyed q.id z.p (width m) (width x) c.parts.head)) w)))
        (change-second (is_box z.o) (with_terms (record { items = same_each z.om z.oc 1 (width m); spare = 0 }) (columns_from z.om 1 (width m) ++ later z.oc (width m) (length c.parts.head))) up d0 o1 (n1 ∷ rest) up-no-o d-not-o (eq-itself z.o))
        ∙ ap (λ (w : List Node). change (is_box d.id) (parted Select Plain no_conds head') (change (owns r.id) (on_quant r.id to-o) w))
        (change-third (is_box z.n) (with_terms no_conds (keyed q.id z.p (width m) (width x) c.parts.head)) up d0 o' n1 rest up-no-n d-not-n fresh.two (eq-itself z.n))
        ∙ ap (change (is_box d.id) (parted Select Plain no_conds head')) (change-amid (owns r.id) (on_quant r.id to-o) up d0 (o' ∷ (n' ∷ rest)) (below.unowned-r g once wf d may.ready) owns-r)
        ∙ change-amid (is_box d.id) (parted Select Plain no_conds head') up (on_quant r.id to-o d0) (o' ∷ (n' ∷ rest)) no-d (eq-itself d.id)
        ∙ ap (λ (v : Node). up ++ v ∷ (o' ∷ (n' ∷ rest))) counted-is

    -- at the end c comes below n
    ends : moved_below c.id z.n (up ++ d' ∷ (o' ∷ (n' ∷ rest))) ≡ up ++ d' ∷ (o' ∷ (n' ∷ (c1 ∷ (l1 ++ l2))))
    ends =
        let us : List Node = up ++ d' ∷ (o' ∷ []) in
        let two : up ++ d' ∷ (o' ∷ (n' ∷ rest)) ≡ us ++ n' ∷ rest = sym (append_assoc up (d' ∷ (o' ∷ [])) (n' ∷ rest)) in
        let last : us ++ n' ∷ (c1 ∷ (l1 ++ l2)) ≡ up ++ d' ∷ (o' ∷ (n' ∷ (c1 ∷ (l1 ++ l2)))) = append_assoc up (d' ∷ (o' ∷ [])) (n' ∷ (c1 ∷ (l1 ++ l2))) in
        ap (moved_below c.id z.n) two ∙ c-moved z.n us n' none apart refl ∙ last
      where
        none : list_any (is_box c.id) ((up ++ d' ∷ (o' ∷ [])) ++ n' ∷ l1) ≡ false
        none = none-append (is_box c.id) (up ++ d' ∷ (o' ∷ [])) (n' ∷ l1)
            (none-append (is_box c.id) up (d' ∷ (o' ∷ [])) up-no-c (ap₂ (λ b e. b || (e || false)) d-not-c (c-not z.o are-fresh.o_new)))
            (ap (λ b. b || list_any (is_box c.id) l1) (c-not z.n are-fresh.n_new) ∙ l1-no-c)

        apart : list_any (is_box z.n) (up ++ d' ∷ (o' ∷ [])) ≡ false
        apart = none-append (is_box z.n) up (d' ∷ (o' ∷ [])) up-no-n (ap₂ (λ b e. b || (e || false)) d-not-n fresh.two)

    keyless-steps-are : keyless_steps f k z g ≡ compact (absorbed_keyless g (inferred_facts g.boxes) d may.ready q x z.o z.n z.om z.oc z.p up l1 l2)
    keyless-steps-are =
        ap (λ (w : List Node). compact (on_boxes (moved_below c.id z.n) (with_cells f k z (with_join f z (record g { boxes = w }))))) below-is
        ∙ ap (λ (w : List Node). compact (record g { boxes = w })) (ap (moved_below c.id z.n) cells-are ∙ ends)

    pub acts-keyless : (h : QueryGraph) → h ≡ keyless_steps f k z g → AbsorbsKeylessAt p g h d
    acts-keyless h e = record {
      may = may;
      keyless = less;
      q = q;
      x = x;
      alone = one.alone;
      in_x = one.in_x;
      over_x = one.over_x;
      o = z.o;
      n = z.n;
      om = z.om;
      oc = z.oc;
      t = z.p;
      fresh = are-fresh;
      up = up;
      l1 = l1;
      l2 = l2;
      before = before;
      after = e ∙ keyless-steps-are;
    }

-- ---- the action preserves

pub keyed-acts-preserves : (g h : QueryGraph) → EachOnce (numbers g.boxes) → WellFormed g → (p : Place) (d : Node) → AbsorbsKeyedAt p g h d → Preserves g h
keyed-acts-preserves g h once wf p d x = subst (Preserves g) (sym x.after) (group-preserves g (inferred_facts g.boxes) d x.may.ready x.k x.q x.x x.up x.l1 x.l2 (record {
  once = once;
  formed = wf;
  tells = inferred-told g.boxes;
  a_group = x.may.a_group ∙ ap Group x.keyed;
  alone = x.alone;
  in_x = x.in_x;
  over_x = x.over_x;
  before = x.before;
}))

pub keyless-acts-preserves : (g h : QueryGraph) → EachOnce (numbers g.boxes) → WellFormed g → (p : Place) (d : Node) → AbsorbsKeylessAt p g h d → Preserves g h
keyless-acts-preserves g h once wf p d x = subst (Preserves g) (sym x.after) (keyless-preserves g (inferred_facts g.boxes) d x.may.ready x.q x.x x.o x.n x.om x.oc x.t x.up x.l1 x.l2 (record {
  once = once;
  formed = wf;
  tells = inferred-told g.boxes;
  a_group = x.may.a_group ∙ ap Group x.keyless;
  alone = x.alone;
  in_x = x.in_x;
  over_x = x.over_x;
  fresh = x.fresh;
  before = x.before;
}))

-- ---- at a place

module _ (g : QueryGraph) (once : EachOnce (numbers g.boxes)) (wf : WellFormed g) (p : Place) (may : MayAbsorbGroup p g) where
  -- one is found
  pub found : feeding g p.at ≡ None → ⊥
  unfolding MayAbsorbGroup
  found e = absurd (
      let m = may.1 in
      let k : Some (feeding_by g may.0 m.ready) ≡ None = sym (is-feeding g p.at (feeding_by g may.0 m.ready) (may-found g (well-ordered g once wf) p.at may.0 m.at m.ready)) ∙ e in
      let z : ⊥ = cc in z)

  module _ (f : Feeding) (e : feeding g p.at ≡ Some f) where
    found-is : (d : Node) (m : MayAbsorbGroupAt p g d) → feeding_by g d m.ready ≡ f
    found-is d m =
        let k : Some (feeding_by g d m.ready) ≡ Some f = sym (is-feeding g p.at (feeding_by g d m.ready) (may-found g (well-ordered g once wf) p.at d m.at m.ready)) ∙ e in
        cc

    pub can-there : CanAbsorbGroup g f
    unfolding MayAbsorbGroup
    can-there = subst (CanAbsorbGroup g) (found-is may.0 may.1) (below.can g once wf may.0 may.1.ready)

    -- a group is found
    found-group : (d : Node) (m : MayAbsorbGroupAt p g d) → grouping g.boxes f.c ≡ Some (k g once wf p d m)
    found-group d m = subst (λ (z : Feeding). grouping g.boxes z.c ≡ Some (k g once wf p d m)) (found-is d m) (group-found g once wf p d m)

    pub group-there : grouping g.boxes f.c ≡ None → ⊥
    unfolding MayAbsorbGroup
    group-there n = absurd (let z : Some (k g once wf p may.0 may.1) ≡ None = sym (found-group may.0 may.1) ∙ n in let y : ⊥ = cc in y)

    module _ (y : Grouping) (is : grouping g.boxes f.c ≡ Some y) where
      group-is : (d : Node) (m : MayAbsorbGroupAt p g d) → y ≡ k g once wf p d m
      group-is d m = let z : Some y ≡ Some (k g once wf p d m) = sym is ∙ found-group d m in cc

      keyed-there : (h : QueryGraph) → h ≡ keyed_steps f y g → (y.keys ≡ 0 → ⊥) → (d : Node) → MayAbsorbGroupAt p g d → AbsorbsKeyedAt p g h d
      keyed-there h e n d m =
          let j = some-more m.keys (subst (λ (z : Grouping). z.keys ≡ 0 → ⊥) (group-is d m) n) in
          acts-keyed g once wf p d m j.0 j.1 h (e ∙ ap₂ (λ (u : Feeding) (v : Grouping). keyed_steps u v g) (sym (found-is d m)) (group-is d m))
        where
          some-more : (n : ℕ) → (n ≡ 0 → ⊥) → (j : ℕ) × (n ≡ suc j)
          some-more zero h = absurd (h refl)
          some-more (suc n) h = (n, refl)

      keyless-there : (h : QueryGraph) → StepsKeyless g h f y → y.keys ≡ 0 → (d : Node) → MayAbsorbGroupAt p g d → AbsorbsKeylessAt p g h d
      keyless-there h s n d m = acts-keyless g once wf p d m s.z s.fresh (subst (λ (z : Grouping). z.keys ≡ 0) (group-is d m) n) h
          (s.after ∙ ap₂ (λ (u : Feeding) (v : Grouping). keyless_steps u v s.z g) (sym (found-is d m)) (group-is d m))

      pub acts-with : (h : QueryGraph) → h ≡ keyed_steps f y g → (y.keys ≡ 0 → ⊥) → AbsorbsGroup p g h
      unfolding MayAbsorbGroup AbsorbsGroup
      acts-with h e n = (may.0, inl (keyed-there h e n may.0 may.1))

      pub preserves-with : (h : QueryGraph) → h ≡ keyed_steps f y g → (y.keys ≡ 0 → ⊥) → Preserves g h
      unfolding MayAbsorbGroup
      preserves-with h e n = keyed-acts-preserves g h once wf p may.0 (keyed-there h e n may.0 may.1)

      pub acts-without : (h : QueryGraph) → StepsKeyless g h f y → y.keys ≡ 0 → AbsorbsGroup p g h
      unfolding MayAbsorbGroup AbsorbsGroup
      acts-without h s n = (may.0, inr (keyless-there h s n may.0 may.1))

      pub preserves-without : (h : QueryGraph) → StepsKeyless g h f y → y.keys ≡ 0 → Preserves g h
      unfolding MayAbsorbGroup
      preserves-without h s n = keyless-acts-preserves g h once wf p may.0 (keyless-there h s n may.0 may.1)
