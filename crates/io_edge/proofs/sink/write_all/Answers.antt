use Rattle.std.proofs.Common.{rules, arith, ◌≡◌}
use Rattle.std.proofs.lemmas.Result.{err_from_is_err_and}
use Rattle.io_edge.specs.Outside.{taken}
use Rattle.io_edge.proofs.Written.{written-more, written-same, written-all}
use Rattle.io_edge.proofs.sink.write_all.Goals as goal

pub loop-done-preserved : goal.loop-done-preserved
loop-done-preserved g c =
    let inv = c.loop-done.invariant in
    record {
      bound = search rules;
      written = written-more c.loop-done.done c.in_ok-count.count c.args.bytes.now _ _ _ inv.bound inv.written c.in_ok-count.ensures.appends;
      later = omega (arith, c.write.ensures.later);
      same = λ e. absurd (omega arith);
    }

pub returns-clause-all : goal.returns-clause-all
returns-clause-all g c =
    let inv = c.loop-done.invariant in
    written-all c.loop-done.done c.args.bytes.now _ _ inv.bound c.loop-done-test.false inv.written

pub returns-in_err-count-clause-short : goal.returns-in_err-count-clause-short
returns-in_err-count-clause-short g c =
    let inv = c.loop-done.invariant in
    let p = err_from_is_err_and c.from_residual.result c.from_residual.ensures.1 in
    let took : taken c.write.result ≡ 0 = search rules in
    rw p.1 (c.loop-done.done, c.loop-done-test.true, written-same c.loop-done.done c.args.bytes.now _ _ _ inv.bound inv.written (rw took at c.write.ensures.appends))
