use Rattle.box_exec.proofs.Hashing.{idle-more, one-longer}
use Rattle.box_exec.proofs.plan.all_idle.Goals as goal

pub loop-i-preserved : goal.loop-i-preserved
loop-i-preserved c =
    let ls = c.args.over.now in
    let xs = c.loop-i.made.items in
    let o = c.in_ok-index.index in
    record {
      long = one-longer xs c.push.new.self.items o c.loop-i.i c.loop-i.invariant.long c.in_ok-push.ensures.items;
      indexed = idle-more ls xs c.push.new.self.items o c.loop-i.i c.index-over-i.result c.loop-i.invariant.long c.loop-i-test.true c.index-over-i.is c.in_ok-push.ensures.items
          c.in_ok-index.ensures c.loop-i.invariant.indexed;
    }
