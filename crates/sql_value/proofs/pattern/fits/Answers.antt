use Rattle.std.proofs.Common.{◌+◌, ◌∙◌, sym, arith}
use Rattle.sql_value.specs.Characters.{listed}
use Rattle.sql_value.proofs.Greedy.{all-tried, any-more, any-within, follows-itself, follows-more, none-more, one-more, one-within, retry-more}
use Rattle.sql_value.proofs.pattern.fits.Goals as goal

pub loop-i-preserved-then-any_at : goal.loop-i-preserved-then-any_at
loop-i-preserved-then-any_at c =
    let inv = c.loop-i.invariant in
    let p = listed c.args.pattern in
    let t = listed c.args.text in
    let any = sym c.any_at.ensures ∙ c.if-any_at.true in
    record {
      whole = any-more p t c.loop-i.i c.loop-i.j c.loop-i.retry inv.whole inv.follows any;
      follows = follows-itself p t c.loop-i.i (c.loop-i.j + 1);
      within = any-within p c.loop-i.j any;
    }

pub loop-i-preserved-then-one_at : goal.loop-i-preserved-then-one_at
loop-i-preserved-then-one_at c =
    let inv = c.loop-i.invariant in
    let p = listed c.args.pattern in
    let t = listed c.args.text in
    let one = sym c.one_at.ensures ∙ c.if-one_at.true in
    let sign = c.at.result in
    record {
      whole = one-more p t c.loop-i.i c.loop-i.j sign 0 c.loop-i.retry (rw c.len.ensures at c.loop-i-test.true) c.at.ensures inv.whole one;
      follows = follows-more p t c.loop-i.i c.loop-i.j sign c.loop-i.retry one inv.follows;
      within = one-within p c.loop-i.j sign one;
    }

pub loop-i-preserved : goal.loop-i-preserved
loop-i-preserved c =
    let inv = c.loop-i.invariant in
    let p = listed c.args.pattern in
    let t = listed c.args.text in
    let sign = c.at.result in
    let none = none-more p t c.loop-i.i c.loop-i.j sign 0 c.loop-i.retry (rw c.len.ensures at c.loop-i-test.true) c.at.ensures inv.whole (sym c.any_at.ensures ∙ c.if-any_at.false) (sym c.one_at.ensures ∙ c.if-one_at.false) in
    let low = (rw c.in-Some.is at inv.follows).0 in
    record {
      whole = rw c.in-Some.is at none ∙ retry-more p t c.in-Some.start c.in-Some.after;
      follows = follows-itself p t (c.in-Some.start + 1) c.in-Some.after;
      within = omega (arith, low, inv.within);
    }

pub returns : goal.returns
returns c =
    let inv = c.loop-i.invariant in
    c.fits_nothing.ensures ∙ sym (all-tried (listed c.args.pattern) (listed c.args.text) c.loop-i.i c.loop-i.j c.loop-i.retry (rw c.len.ensures at c.loop-i-test.false) inv.whole inv.follows)
