-- G5 keeps a graph settled.
use Rattle.std.proofs.Common.{sym, subst, inl, inr}
use Rattle.qgm_edit_laws.proofs.WellFormedKept.{numbers-once}
use Rattle.rule_api.specs.declared.rule_id.RuleId.TheVariants.{G5}
use Rattle.rule_magic.specs.AbsorbArms.{role_over}
use Rattle.rule_magic.specs.AbsorbOuterJoin.{AbsorbsOuter, absorbed_left, renamed_arms}
use Rattle.rule_magic.specs.Feeding.{inferred_facts}
use Rattle.rule_magic.proofs.AbsorbArmsFormed as opened
use Rattle.rule_magic.proofs.AbsorbLeftKeeps as left
use Rattle.rule_magic.proofs.AbsorbOuterActs.{arms-at, arms-open, left-at, left-shut}
use Rattle.rule_magic.proofs.AbsorbOuterFacts as outer
use Rattle.rule_magic.proofs.AbsorbShared.{role-over-is}
use Rattle.rule_calm.specs.Settled.{IsSettled}
use Rattle.rule_calm.specs.SettledKept.{KeepsSettled}
use Rattle.rule_calm.proofs.ArmsSettled.{arms-settled}
use Rattle.rule_calm.proofs.FiringSettled.{by-inferred, settled-compact}
use Rattle.rule_calm.proofs.LeftSettled.{left-settled}

pub outer-keeps : KeepsSettled G5
unfolding AbsorbsOuter
outer-keeps = λ p g h once wf s acts. (
    let d = acts.0 in
    let known = inferred_facts g.boxes in
    elim acts.1 [
      | inl x ↦ (
          let may = x.may.ready in
          let role = role_over g.boxes x.x.id in
          let at = left-at g h once wf p d x in
          let fits = role-over-is g.boxes g.root (outer.w g known d may x.l x.r x.x x.y x.up x.l1 x.l2 at) x.x.id in
          let shut = left-shut g h once wf p d x in
          let after = absorbed_left g known d may x.l x.r x.x x.y role x.up x.l1 x.l2 in
          let u = numbers-once after.boxes (left.ordered g known d may x.l x.r x.x x.y role x.up x.l1 x.l2 at fits shut) in
          let f = left.faultless g known d may x.l x.r x.x x.y role x.up x.l1 x.l2 at fits shut in
          subst IsSettled (sym x.after) (settled-compact after u f (left-settled g known d may x.l x.r x.x x.y role x.up x.l1 x.l2 at fits shut (by-inferred g s))))
      | inr x ↦ (
          let may = x.may.ready in
          let lr = role_over g.boxes x.x.id in
          let rr = role_over g.boxes x.y.id in
          let at = arms-at g h once wf p d x in
          let w = outer.w g known d may x.l x.r x.x x.y x.up x.l1 x.l2 at in
          let o = arms-open g h once wf p d x in
          let after = renamed_arms g known d may x.l x.r x.x x.y x.s x.u x.t lr rr x.up x.l1 x.l2 in
          let fl = role-over-is g.boxes g.root w x.x.id in
          let fr = role-over-is g.boxes g.root w x.y.id in
          let u = numbers-once after.boxes (opened.ordered g known d may x.l x.r x.x x.y x.s x.u x.t lr rr x.up x.l1 x.l2 at x.fresh o) in
          let f = opened.arms-formed g known d may x.l x.r x.x x.y x.s x.u x.t lr rr x.up x.l1 x.l2 at x.fresh o fl fr in
          subst IsSettled (sym x.after) (settled-compact after u f (arms-settled g known d may x.l x.r x.x x.y x.s x.u x.t lr rr x.up x.l1 x.l2 at x.fresh o fl fr (by-inferred g s))))
    ])
