-- A firing on a settled graph leaves a settled graph.
use Rattle.std.proofs.Common.{◌≡◌, List, ◌∷◌, None, refl, sym, ap, subst, ◌∙◌, inl, inr}
use Rattle.list_laws.specs.Lists.{EachOnce, In}
use Rattle.qgm_core.specs.Boxes.{QueryGraph, is_box, numbers}
use Rattle.qgm_core.specs.Edits.{compact}
use Rattle.qgm_core.specs.declared.kinds.BoxKind.{BoxKind}
use Rattle.qgm_core.specs.declared.kinds.BoxKind.TheVariants.{Group}
use Rattle.qgm_core.specs.declared.node.Node.{Node}
use Rattle.qgm_core.specs.declared.owned.OwnedQuant.{OwnedQuant}
use Rattle.qgm_core.specs.Kinds.{is_S}
use Rattle.list_laws.proofs.Membership.{in-right}
use Rattle.qgm_wellformed.specs.WellFormed.{fault}
use Rattle.qgm_wellformed.proofs.Faults.{well-ordered}
use Rattle.qgm_edit_laws.proofs.CheckedParts.{shaped, sound}
use Rattle.qgm_edit_laws.proofs.WellFormedKept.{numbers-once}
use Rattle.qgm_edit_laws.proofs.Levels.{some-in}
use Rattle.qgm_props.specs.Inferred.{Facts, exactly_one}
use Rattle.qgm_props.specs.Laws.{Tells}
use Rattle.rule_api.specs.declared.rule_id.RuleId.TheVariants.{U2, G2, G3}
use Rattle.rule_feed.specs.Knowing.{facts-are}
use Rattle.rule_magic.specs.AbsorbExact.{inferred-told}
use Rattle.rule_magic.specs.AbsorbGroup.{AbsorbsGroup, GroupAt, KeylessAt, absorbed_group, absorbed_keyless}
use Rattle.rule_magic.specs.AbsorbSelect.{AbsorbsSelect, SelectAt, absorbed_select}
use Rattle.rule_magic.specs.Feeding.{inferred_facts}
use Rattle.rule_magic.specs.Places.{AbsorbsBy}
use Rattle.rule_magic.proofs.AbsorbGroupKeeps as keyed
use Rattle.rule_magic.proofs.AbsorbKeylessKeeps as keyless
use Rattle.rule_magic.proofs.AbsorbSelectKeeps as select
use Rattle.rule_subquery.specs.ScalarToGroup.{GroupsScalar}
use Rattle.rule_calm.specs.Settled.{IsSettled, SettledBox}
use Rattle.rule_calm.specs.SettledKept.{KeepsSettled}
use Rattle.rule_calm.proofs.CompactSettled.{compact-settled}
use Rattle.rule_calm.proofs.Framed.{firm-exactly, told-closed}
use Rattle.rule_calm.proofs.GroupSettled.{group-settled}
use Rattle.rule_calm.proofs.KeylessSettled.{keyless-settled}
use Rattle.rule_calm.proofs.SelectSettled.{select-settled}

-- facts that are told are those that are inferred
same-facts : (bs : List Node) (known : Facts) → Tells known bs → known ≡ inferred_facts bs
same-facts bs known tells = facts-are bs known tells ∙ sym (facts-are bs (inferred_facts bs) (inferred-told bs))

-- by what is inferred each box is settled
pub by-inferred : (g : QueryGraph) → IsSettled g → (n : Node) → In n g.boxes → SettledBox g.boxes (inferred_facts g.boxes) g.root n
by-inferred g s = subst (λ (k : Facts). (n : Node) → In n g.boxes → SettledBox g.boxes k g.root n) (same-facts g.boxes s.known s.tells) s.each

-- a settled graph in which the check finds nothing is settled without the boxes that the root doesn't reach
pub settled-compact : (h : QueryGraph) → EachOnce (numbers h.boxes) → fault h ≡ None → IsSettled h → IsSettled (compact h)
settled-compact h u f s = compact-settled h (sound h u f) (shaped h u f) s

pub select-keeps : KeepsSettled G2
unfolding AbsorbsSelect
select-keeps = λ p g h once wf s acts. (
    let d = acts.0 in
    let x = acts.1 in
    let known = inferred_facts g.boxes in
    let may = x.may.ready in
    let at : SelectAt g known d may x.up x.l1 x.l2 = record {
      once = once;
      formed = wf;
      tells = inferred-told g.boxes;
      a_select = x.may.a_select;
      plain = subst (λ (k : BoxKind). AbsorbsBy g.boxes (inferred_facts g.boxes) k may.c) x.may.a_select may.absorbs;
      before = x.before;
    } in
    let after = absorbed_select g known d may x.up x.l1 x.l2 in
    subst IsSettled (sym x.after)
    (settled-compact after (numbers-once after.boxes (select.ordered g known d may x.up x.l1 x.l2 at)) (select.faultless g known d may x.up x.l1 x.l2 at) (select-settled g known d may x.up x.l1 x.l2 at (by-inferred g s))))

pub group-keeps : KeepsSettled G3
unfolding AbsorbsGroup
group-keeps = λ p g h once wf s acts. (
    let d = acts.0 in
    let known = inferred_facts g.boxes in
    elim acts.1 [
      | inl x ↦ (
          let may = x.may.ready in
          let at : GroupAt g known d may x.k x.q x.x x.up x.l1 x.l2 = record {
            once = once;
            formed = wf;
            tells = inferred-told g.boxes;
            a_group = x.may.a_group ∙ ap Group x.keyed;
            alone = x.alone;
            in_x = x.in_x;
            over_x = x.over_x;
            before = x.before;
          } in
          let after = absorbed_group g known d may x.k x.q x.x x.up x.l1 x.l2 in
          subst IsSettled (sym x.after)
          (settled-compact after (numbers-once after.boxes (keyed.ordered g known d may x.k x.q x.x x.up x.l1 x.l2 at)) (keyed.faultless g known d may x.k x.q x.x x.up x.l1 x.l2 at) (group-settled g known d may x.k x.q x.x x.up x.l1 x.l2 at (by-inferred g s))))
      | inr x ↦ (
          let may = x.may.ready in
          let at : KeylessAt g known d may x.q x.x x.o x.n x.om x.oc x.t x.up x.l1 x.l2 = record {
            once = once;
            formed = wf;
            tells = inferred-told g.boxes;
            a_group = x.may.a_group ∙ ap Group x.keyless;
            alone = x.alone;
            in_x = x.in_x;
            over_x = x.over_x;
            fresh = x.fresh;
            before = x.before;
          } in
          let after = absorbed_keyless g known d may x.q x.x x.o x.n x.om x.oc x.t x.up x.l1 x.l2 in
          subst IsSettled (sym x.after)
          (settled-compact after (numbers-once after.boxes (keyless.ordered-after g known d may x.q x.x x.o x.n x.om x.oc x.t x.up x.l1 x.l2 at)) (keyless.faultless-after g known d may x.q x.x x.o x.n x.om x.oc x.t x.up x.l1 x.l2 at)
          (keyless-settled g known d may x.q x.x x.o x.n x.om x.oc x.t x.up x.l1 x.l2 at (by-inferred g s))))
    ])

-- U2 has no place: each S quantifier ranges over a box of exactly one row
pub scalar-keeps : KeepsSettled U2
unfolding GroupsScalar
scalar-keeps = λ p g h once wf s acts. absurd (
    let b = acts.0 in
    let us = acts.1.0 in
    let r = acts.1.1.0 in
    let vs = acts.1.1.1.0 in
    let m = acts.1.1.1.1.0 in
    let i : In b g.boxes = (some-in (is_box p.at) g.boxes b m.at).0 in
    let j : In r b.quants = subst (λ (z : List OwnedQuant). In r z) (sym m.split) (in-right r us (r ∷ vs) (inl refl)) in
    let firm = (s.each b i).scalars r j (ap is_S m.is_s) in
    let one = firm-exactly g.boxes (well-ordered g once wf) s.known (told-closed g.boxes s.known s.tells) r.over firm in
    m.not_one ((s.tells (exactly_one r.over)).0 one))
