use Rattle.std.proofs.Common.{◌≡◌, Ok, rules, subst, sym}
use Rattle.std.proofs.lemmas.Option.{IfSome_then}
use Rattle.std.proofs.lemmas.Result.{IfOk-at_ok}
use Rattle.qgm_meaning.specs.Values.{Bag}
use Rattle.box_exec.specs.Lookup.{Hashes}
use Rattle.box_exec.specs.Outer.{rejects_on}
use Rattle.box_exec.specs.Sources.{held}
use Rattle.box_exec.proofs.joining.outer_joined.Goals as goal

pub all_joined-requires : goal.all_joined-requires
all_joined-requires c =
    let join = c.args.join.now in
    let is : c.args.ys ≡ Ok c.in_ok-ys.ys = search rules in
    IfSome_then join.made c.requires
    (λ h f. subst (λ (rs : Bag). Hashes (rejects_on join.node.now) join.right rs h.now) (sym c.rows-2.ensures)
    (IfOk-at_ok (λ t. Hashes (rejects_on join.node.now) join.right (held t) h.now) is f))
