use Rattle.box_exec.proofs.Asking.{asked-more}
use Rattle.box_exec.proofs.Hashing.{keyed-more, one-longer}
use Rattle.box_exec.proofs.plan.all_keyed.Goals as goal

pub loop-i-preserved : goal.loop-i-preserved
loop-i-preserved c =
    let es = c.args.early.now in
    let ls = c.args.loops.now in
    let ks = c.loop-i.made.items in
    let o = c.in_ok-keyed.keyed in
    let i = c.loop-i.i in
    let l = c.index-loops-i.result in
    record {
      long = one-longer ks c.push.new.self.items o i c.loop-i.invariant.long c.in_ok-push.ensures.items;
      keyed = keyed-more es ls ks c.push.new.self.items o i l c.loop-i.invariant.long c.loop-i-test.true c.index-loops-i.is c.in_ok-push.ensures.items c.in_ok-keyed.ensures.fits c.loop-i.invariant.keyed;
      asked = asked-more es ls ks c.push.new.self.items o i l c.loop-i.invariant.long c.loop-i-test.true c.index-loops-i.is c.in_ok-push.ensures.items c.in_ok-keyed.ensures.made c.loop-i.invariant.asked;
    }
