use Rattle.std.proofs.Common.{◌+◌, ◌-◌, arith, drop}
use Rattle.row_bag.specs.Ranks.{leading}
use Rattle.row_bag.proofs.Digits.{digits-all, digits-more, low-more, low-power}
use Rattle.row_bag.proofs.sort.leading.Goals as goal

pub loop-i-preserved : goal.loop-i-preserved
loop-i-preserved c =
    let text = c.args.text.now in
    let i = c.loop-i._i in
    let number = c.loop-i.number in
    let rest = drop c.loop-i.place text in
    let within = c.loop-i-test.true in
    record {
      digits = digits-more (8 - (i + 1)) (8 - i) number c.digit_at.result rest (drop c.place_behind-place.result text) (leading 8 text) (omega (arith, within)) c.digit_at.ensures c.place_behind-place.ensures c.loop-i.invariant.digits;
      low = low-more i number c.digit_at.result rest c.digit_at.ensures c.loop-i.invariant.low;
    }

pub overflow_mul-number : goal.overflow_mul-number
overflow_mul-number c =
    let within = c.loop-i-test.true in
    let low = low-power c.loop-i._i 7 c.loop-i.number (omega (arith, within)) c.loop-i.invariant.low in
    omega (arith, low)

pub overflow_add-number : goal.overflow_add-number
overflow_add-number c =
    let within = c.loop-i-test.true in
    let low = low-power (c.loop-i._i + 1) 8 _ (omega (arith, within)) (low-more c.loop-i._i c.loop-i.number c.digit_at.result (drop c.loop-i.place c.args.text.now) c.digit_at.ensures c.loop-i.invariant.low) in
    omega (arith, low)

pub returns-clause-digits : goal.returns-clause-digits
returns-clause-digits c =
    let past = c.loop-i-test.false in
    digits-all (8 - c.loop-i._i) c.loop-i.number (drop c.loop-i.place c.args.text.now) _ (omega (arith, past)) c.loop-i.invariant.digits

pub returns-clause-low : goal.returns-clause-low
returns-clause-low c =
    let end = c.loop-i.auto._i-end in
    let low = low-power c.loop-i._i 8 c.loop-i.number end c.loop-i.invariant.low in
    omega (arith, low)
