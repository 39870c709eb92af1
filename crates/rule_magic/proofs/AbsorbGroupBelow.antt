-- The edits by which the fed box comes below stand amid the boxes.
use Rattle.std.proofs.Common.{ℕ, ◌==◌, ◌≡◌, ◌||◌, ◌&&◌, true, false, List, [], ◌∷◌, ◌++◌, Option, Some, cond, insert, append_assoc, refl, sym, ap, ap₂, subst, ◌∙◌, inl, inr}
use Rattle.std.specs.List.{list_any}
use Rattle.std.proofs.lemmas.Bool.{and_parts, cases_Bool}
use Rattle.qgm_core.specs.Boxes.{Ordered, QueryGraph, is_box, is_quant, numbers, owns, range_in, width}
use Rattle.qgm_core.specs.Edits.{parted, put_range, put_range_found, quant_moved, range, with_distinct, without_quant}
use Rattle.qgm_core.specs.Kinds.{is_F}
use Rattle.list_laws.specs.Lists.{EachOnce, In, change, first, without}
use Rattle.qgm_core.specs.declared.kinds.BoxKind.TheVariants.{Select}
use Rattle.qgm_core.specs.declared.kinds.Distinct.TheVariants.{Preserve}
use Rattle.qgm_core.specs.declared.kinds.QuantKind.{QuantKind}
use Rattle.qgm_core.specs.declared.kinds.QuantKind.TheVariants.{F}
use Rattle.qgm_core.specs.declared.kinds.Role.TheVariants.{Fed}
use Rattle.qgm_core.specs.declared.node.Node.{Node}
use Rattle.qgm_core.specs.declared.owned.OwnedQuant.{OwnedQuant}
use Rattle.qgm_wellformed.specs.Sentences.{WellFormed}
use Rattle.qgm_wellformed.proofs.Faults.{well-ordered}
use Rattle.qgm_edit_laws.specs.Graph.{Sound}
use Rattle.qgm_edit_laws.proofs.Scope.{one-owner}
use Rattle.rule_magic.specs.AbsorbExact.{feeding_by, inferred-told}
use Rattle.rule_magic.specs.AbsorbGroupSteps.{CanAbsorbGroup, fed_below}
use Rattle.rule_magic.specs.Boxes.{no_conds, of_both, pair_box}
use Rattle.rule_magic.specs.Feeding.{Feeding, inferred_facts}
use Rattle.rule_magic.specs.Places.{MayAbsorb}
use Rattle.rule_magic.proofs.AbsorbFacts as fed
use Rattle.rule_magic.proofs.Amid.{Behind, behind, change-amid, first-amid, none-append, none-before}
use Rattle.rule_magic.proofs.AbsorbSelectFormed.{ordered-tail}
use Rattle.qgm_core.proofs.KindTests.{f-is, preserve-is}
use Rattle.list_laws.proofs.Booleans.{clash}
use Rattle.list_laws.proofs.Membership.{any-from, any-not, eq-false-sym, eq-itself, in-left, in-right}

-- an F quantifier over a box
pub as-range : (r : OwnedQuant) (over : ℕ) → is_F r.kind ≡ true → r.over ≡ over → r ≡ range r.id F over
as-range r over f e = ap₂ (λ (k : QuantKind) (b : ℕ). record { id = r.id; kind = k; over = b }) (f-is r.kind f) e

module _ (g : QueryGraph) (once : EachOnce (numbers g.boxes)) (wf : WellFormed g) (d : Node) (may : MayAbsorb g.boxes (inferred_facts g.boxes) d) where
  abbrev c : Node
  c = may.c

  abbrev m : Node
  m = may.m

  abbrev a : OwnedQuant
  a = may.a

  abbrev r : OwnedQuant
  r = may.r

  abbrev f : Feeding
  f = feeding_by g d may

  o : Ordered g.boxes
  o = well-ordered g once wf

  sound : Sound g.boxes g.root
  sound = fed.w g once wf (inferred_facts g.boxes) (inferred-told g.boxes) d may

  pub d-not-c : (d.id == c.id) ≡ false
  d-not-c = fed.d-not-c g once wf (inferred_facts g.boxes) (inferred-told g.boxes) d may

  in-a : In a d.quants
  in-a = fed.in-a g once wf (inferred_facts g.boxes) (inferred-told g.boxes) d may

  in-r : In r d.quants
  in-r = fed.in-r g once wf (inferred_facts g.boxes) (inferred-told g.boxes) d may

  apart : (r.id == a.id) ≡ false
  apart = fed.apart g once wf (inferred_facts g.boxes) (inferred-told g.boxes) d may

  kinds : (is_F a.kind && is_F r.kind) ≡ true
  kinds = (fed.two g once wf (inferred_facts g.boxes) (inferred-told g.boxes) d may).kinds

  pub a-range : a ≡ range a.id F m.id
  a-range = as-range a m.id (and_parts (is_F a.kind) (is_F r.kind) kinds).0 (sym may.over_m)

  pub f-r : is_F r.kind ≡ true
  f-r = (and_parts (is_F a.kind) (is_F r.kind) kinds).1

  pub r-range : r ≡ range r.id F c.id
  r-range = as-range r c.id f-r (sym may.over_c)

  pub preserve-d : d.parts.distinct ≡ Preserve
  preserve-d = preserve-is d.parts.distinct (fed.parts g once wf (inferred_facts g.boxes) (inferred-told g.boxes) d may).preserve

  pub amid : Behind g.boxes d c
  amid = behind g.boxes o d c r may.in_d may.in_c in-r may.over_c

  abbrev up : List Node
  up = amid.up

  abbrev l1 : List Node
  l1 = amid.l1

  abbrev l2 : List Node
  l2 = amid.l2

  o2 : Ordered (up ++ d ∷ (l1 ++ c ∷ l2))
  o2 = subst Ordered amid.before o

  pub no-d : list_any (is_box d.id) up ≡ false
  no-d = none-before up (d ∷ (l1 ++ c ∷ l2)) d o2 (inl refl)

  pub up-no-c : list_any (is_box c.id) up ≡ false
  up-no-c = none-before up (d ∷ (l1 ++ c ∷ l2)) c o2 (inr (in-right c l1 (c ∷ l2) (inl refl)))

  pub l1-no-c : list_any (is_box c.id) l1 ≡ false
  l1-no-c = none-before l1 (c ∷ l2) c (ordered-tail up (d ∷ (l1 ++ c ∷ l2)) o2).2 (inl refl)

  pub in-up : (n : Node) → In n up → In n g.boxes
  in-up n i = subst (In n) (sym amid.before) (in-left n up (d ∷ (l1 ++ c ∷ l2)) i)

  -- nobody above owns a quantifier of d
  pub unowned : (s : OwnedQuant) → In s d.quants → list_any (owns s.id) up ≡ false
  unowned s j = any-not (owns s.id) up (λ n i. elim (cases_Bool (owns s.id n)) [
    | inr e ↦ e
    | inl t ↦ absurd (
        let same : n ≡ d = one-owner g.boxes g.root sound s.id n d (in-up n i) may.in_d t (any-from (is_quant s.id) s d.quants j (eq-itself s.id)) in
        clash (list_any (is_box d.id) up) (any-from (is_box d.id) n up i (subst (λ (z : Node). (n.id == z.id) ≡ true) same (eq-itself n.id))) no-d)
  ])

  pub unowned-r : list_any (owns r.id) up ≡ false
  unowned-r = unowned r in-r

  owned-a : owns a.id d ≡ true
  owned-a = any-from (is_quant a.id) a d.quants in-a (eq-itself a.id)

  owned-r : owns r.id d ≡ true
  owned-r = any-from (is_quant r.id) r d.quants in-r (eq-itself r.id)

  -- d with r alone
  abbrev pub d0 : Node
  d0 = record d { quants = r ∷ [] }

  without-a : without (is_quant a.id) d.quants ≡ r ∷ []
  without-a = ap (without (is_quant a.id)) may.quants ∙ ap (λ b. cond b (r ∷ []) (a ∷ without (is_quant a.id) (r ∷ []))) (eq-itself a.id)

  found-a : first (is_quant a.id) d.quants ≡ Some a
  found-a = ap (first (is_quant a.id)) may.quants ∙ ap (λ b. cond b (Some a) (first (is_quant a.id) (r ∷ []))) (eq-itself a.id)

  -- at c, behind all of these
  pub no-c : (n : Node) → n.id ≡ d.id → list_any (is_box c.id) (up ++ n ∷ l1) ≡ false
  no-c n e = none-append (is_box c.id) up (n ∷ l1) up-no-c (ap (λ b. b || list_any (is_box c.id) l1) (subst (λ z. (z == c.id) ≡ false) (sym e) d-not-c) ∙ l1-no-c)

  change-c : (k : Node → Node) (n y : Node) → n.id ≡ d.id → y.id ≡ c.id → change (is_box c.id) k (up ++ n ∷ (l1 ++ y ∷ l2)) ≡ up ++ n ∷ (l1 ++ k y ∷ l2)
  change-c k n y e i =
      ap (change (is_box c.id) k) (sym (append_assoc up (n ∷ l1) (y ∷ l2)))
      ∙ change-amid (is_box c.id) k (up ++ n ∷ l1) y l2 (no-c n e) (subst (λ z. (y.id == z) ≡ true) i (eq-itself y.id))
      ∙ append_assoc up (n ∷ l1) (k y ∷ l2)

  moved-a : quant_moved a.id c.id 0 g.boxes ≡ up ++ d0 ∷ (l1 ++ put_range 0 a c ∷ l2)
  moved-a =
      ap (quant_moved a.id c.id 0) amid.before
      ∙ ap (λ (z : Option Node). put_range_found c.id 0 (range_in a.id z) (change (owns a.id) (without_quant a.id) (up ++ d ∷ (l1 ++ c ∷ l2)))) (first-amid (owns a.id) up d (l1 ++ c ∷ l2) (unowned a in-a) owned-a)
      ∙ ap (λ (z : Option OwnedQuant). put_range_found c.id 0 z (change (owns a.id) (without_quant a.id) (up ++ d ∷ (l1 ++ c ∷ l2)))) found-a
      ∙ ap (change (is_box c.id) (put_range 0 a)) (change-amid (owns a.id) (without_quant a.id) up d (l1 ++ c ∷ l2) (unowned a in-a) owned-a ∙ ap (λ (rs : List OwnedQuant). up ++ record d { quants = rs } ∷ (l1 ++ c ∷ l2)) without-a)
      ∙ change-c (put_range 0 a) d0 c refl refl

  module _ (q : OwnedQuant) (alone : c.quants ≡ q ∷ []) (f-q : is_F q.kind ≡ true) (x : Node) (over_x : q.over ≡ x.id) where
    -- c is the fed box
    abbrev pub c1 : Node
    c1 = pair_box c.id Fed a.id m.id (width m) q.id x.id (width x)

    pair-is : with_distinct Preserve (parted Select Fed no_conds (of_both a.id (width m) q.id (width x)) (put_range 0 a c)) ≡ c1
    pair-is = ap (λ (rs : List OwnedQuant). record { id = c.id; parts = record { kind = Select; distinct = Preserve; role = Fed; conds = no_conds; head = of_both a.id (width m) q.id (width x) }; quants = rs }) (
        ap (λ (rs : List OwnedQuant). insert rs 0 a) alone
        ∙ ap (λ (z : OwnedQuant). z ∷ (q ∷ [])) a-range
        ∙ ap (λ (z : OwnedQuant). range a.id F m.id ∷ (z ∷ [])) (as-range q x.id f-q over_x))

    pub below-is : (fed_below f q x g).boxes ≡ up ++ d0 ∷ (l1 ++ c1 ∷ l2)
    below-is =
        ap (λ (z : List Node). change (is_box c.id) (with_distinct Preserve) (change (is_box c.id) (parted Select Fed no_conds (of_both a.id (width m) q.id (width x))) z)) moved-a
        ∙ ap (change (is_box c.id) (with_distinct Preserve)) (change-c (parted Select Fed no_conds (of_both a.id (width m) q.id (width x))) d0 (put_range 0 a c) refl refl)
        ∙ change-c (with_distinct Preserve) d0 (parted Select Fed no_conds (of_both a.id (width m) q.id (width x)) (put_range 0 a c)) refl refl
        ∙ ap (λ (z : Node). up ++ d0 ∷ (l1 ++ z ∷ l2)) pair-is

  pub can : CanAbsorbGroup g f
  can = record {
    held_d = any-from (is_box d.id) d g.boxes may.in_d (eq-itself d.id);
    held_m = any-from (is_box m.id) m g.boxes may.in_m (eq-itself m.id);
    held_c = any-from (is_box c.id) c g.boxes may.in_c (eq-itself c.id);
    owned_a = any-from (owns a.id) d g.boxes may.in_d owned-a;
    owned_r = any-from (owns r.id) d g.boxes may.in_d owned-r;
    apart = eq-false-sym d.id c.id d-not-c;
  }
