use Rattle.std.proofs.Common.{slice_get}
use Rattle.std.proofs.lemmas.Option.{IfSome_then}
use Rattle.box_exec.proofs.Places.{entry-holds}
use Rattle.box_exec.proofs.handed_on.lent.Goals as goal

pub returns : goal.returns
returns c = λ tables ready.
    let n = c.args.place.now.node.now in
    let below = c.args.place.now.below.now in
    IfSome_then c.borrowed.result c.borrowed.ensures
    (λ rows held env. entry-holds tables n below (slice_get c.args.memo.now c.in-Some.k) rows.now env (c.in-Some.ensures.entry tables ready) held)
