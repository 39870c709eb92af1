use Rattle.std.proofs.Common.{◌≡◌, ◌∙◌, ap, arith, List, ℕ, true, false}
use Rattle.std.specs.List.{list_all}
use Rattle.std.proofs.lemmas.Grind.{common_steps}
use Rattle.std.proofs.lemmas.Result.{IfOk-weaker}
use Rattle.qgm_wellformed.specs.Closed.{names_owned}
use Rattle.qgm_wellformed.proofs.ClosedLaws.{alone-no, alone-so}
use Rattle.qgm_wellformed.proofs.closed.is_free_alone.Goals as goal

pub returns-then-branch : goal.returns-then-branch
returns-then-branch c =
    let h : list_all (names_owned c.in_ok-marks.marks c.in_ok-owned.owned) c.args.nodes.now ≡ true = grind (arith, common_steps, c.in_ok-all_names_owned.ensures, c.if-branch.true) in
    alone-no c.args.nodes.now c.args.b c.args.q c.in_ok-marks.marks c.in_ok-owned.owned c.in_ok-marks.ensures c.in_ok-owned.ensures h

pub returns : goal.returns
returns c =
    let h : list_all (names_owned c.in_ok-marks.marks c.in_ok-owned.owned) c.args.nodes.now ≡ false = grind (arith, common_steps, c.in_ok-all_names_owned.ensures, c.if-branch.false) in
    IfOk-weaker c.all_names_owned-2.result _ _ (λ a k. k ∙ ap (λ (os : List ℕ). list_all (names_owned c.in_ok-marks.marks os) c.args.nodes.now) c.in_ok-push.ensures ∙ alone-so c.args.nodes.now c.args.b c.args.q c.in_ok-marks.marks c.in_ok-owned.owned c.in_ok-marks.ensures c.in_ok-owned.ensures h) c.all_names_owned-2.ensures
