use Rattle.std.proofs.Common.{◌≡◌, All, List, rules, subst}
use Rattle.list_laws.specs.Lists.{In}
use Rattle.qgm_terms.specs.Shown.{cond}
use Rattle.qgm_terms.specs.Terms.{Cond}
use Rattle.box_exec.specs.Equalities.{IsKey}
use Rattle.box_exec.specs.Lookup.{RejectsBy}
use Rattle.box_exec.proofs.Lookups.{some-is}
use Rattle.box_exec.specs.Outer.{rejects_on}
use Rattle.box_exec.specs.declared.key.Key.{Key}
use Rattle.box_exec.proofs.Partners.{on-rejects}
use Rattle.box_exec.proofs.Rejections.{all-more, in-map-at}
use Rattle.box_exec.proofs.joining.keys_on.Goals.{in-Some+in_ok-push, in_default}
use Rattle.box_exec.proofs.joining.keys_on.Goals as goal

pub loop-c-preserved : goal.loop-c-preserved
loop-c-preserved c =
    let node = c.args.node.now in
    let P = λ (k : Key). RejectsBy (rejects_on node) c.args.right k in
    let stands : In (cond c.c-item.result) node.parts.conds.items =
    subst (λ (cs : List Cond). In (cond c.c-item.result) cs) c.as_slice-c-items.ensures (in-map-at cond c.as_slice-c-items.result.now c.loop-c.c-index c.c-item.result c.loop-c-test.true c.c-item.is) in
    elim c.match-branch-2.branch [
      | in-Some+in_ok-push w ↦
          let put : w.push.new.self.items ≡ c.match-branch-2.made.items = search rules in
          subst (All P) put
          (all-more P c.loop-c.made.items w.push.new.self.items w.in_ok-push.ensures.items c.loop-c.invariant
          (on-rejects node (cond c.c-item.result) c.args.right w.in-Some.key stands
          (some-is (λ (k : Key). IsKey c.args.right (cond c.c-item.result) k) c.in_ok-key.field-0 w.in-Some.key w.in-Some.is c.in_ok-key.ensures.key)))
      | in_default w ↦
          let same : c.loop-c.made.items ≡ c.match-branch-2.made.items = search rules in
          subst (All P) same c.loop-c.invariant
    ]
