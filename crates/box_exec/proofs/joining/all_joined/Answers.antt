use Rattle.box_exec.specs.Lookup.{Hashes}
use Rattle.box_exec.specs.Outer.{rejects_on}
use Rattle.box_exec.proofs.Lookups.{some-is}
use Rattle.box_exec.proofs.Partners.{if-borrowed}
use Rattle.box_exec.proofs.joining.all_joined.Goals as goal

pub each_joined-requires : goal.each_joined-requires
each_joined-requires c =
    let join = c.args.join.now in
    some-is (λ (h : _). Hashes (rejects_on join.node.now) join.right c.args.ys.now h.now) join.made c.in-Some.made c.in-Some.is c.requires

pub each_joined-requires-2 : goal.each_joined-requires-2
each_joined-requires-2 c =
    let join = c.args.join.now in
    if-borrowed (λ h. Hashes (rejects_on join.node.now) join.right c.args.ys.now h) c.as_ref.result c.in_ok-hashed.hashed c.as_ref.ensures.value c.in_ok-hashed.ensures
