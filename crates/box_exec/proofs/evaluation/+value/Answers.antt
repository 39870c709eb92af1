use Rattle.std.proofs.Common.{ℕ, ◌≡◌, ◌<◌, ◌≤◌, ◌+◌, ◌∙◌, List, ap, arith, drop, length, rules, subst, sym}
use Rattle.std.proofs.lemmas.Grind.{common_steps}
use Rattle.std.proofs.lemmas.Option.{get_or_from_slice_get}
use Rattle.row_bag.specs.RowRefs.{lent}
use Rattle.qgm_terms.specs.Shown.{cond, conds, links, term}
use Rattle.box_exec.specs.Bound.{env_of}
use Rattle.box_exec.specs.Sources.{held_by}
use Rattle.sql_value.specs.declared.cell.Cell.{Cell}
use Rattle.sql_value.specs.declared.truth.Truth.{Truth}
use Rattle.row_index.specs.Ways.{StandsFrom, place}
use Rattle.row_index.proofs.Passed.{seen-again, seen-low}
use Rattle.qgm_meaning.specs.Values.{Bag, bound, truth}
use Rattle.box_exec.specs.Idle.{LeadsIdle, joined, quantified}
use Rattle.box_exec.proofs.Units.{unit-joined}
use Rattle.box_exec.proofs.Steps.{all_more, any_more, chain_more, truth_anded, truth_ored, value_linked}
use Rattle.box_exec.proofs.Quantified.{idle-ended, idle-stepped, quantified-done, quantified-more, quantified-none}
use Rattle.qgm_terms.proofs.Lists as listed
use Rattle.box_exec.proofs.evaluation.+value.Goals as goal

pub all_of-loop-p-preserved : goal.all_of-loop-p-preserved
all_of-loop-p-preserved below c =
    all_more (held_by c.args.subs.now) (env_of c.args.env.now) c.args.list.now c.loop-p.p-index c.p-item.result _ _ _ _ c.loop-p-test.true (cc (c.p-item.is)) c.in_ok-hold.ensures c.and-total.ensures c.loop-p.invariant

pub any_of-loop-p-preserved : goal.any_of-loop-p-preserved
any_of-loop-p-preserved below c =
    any_more (held_by c.args.subs.now) (env_of c.args.env.now) c.args.list.now c.loop-p.p-index c.p-item.result _ _ _ _ c.loop-p-test.true (cc (c.p-item.is)) c.in_ok-hold.ensures c.or-total.ensures c.loop-p.invariant

pub chain-loop-link-preserved : goal.chain-loop-link-preserved
chain-loop-link-preserved below c =
    chain_more (held_by c.args.subs.now) (env_of c.args.env.now) c.args.list.now c.loop-link.link-index c.link-item.result c.loop-link.total c.in_ok-next.next c.in_ok-total.total _ c.loop-link-test.true (cc (c.link-item.is)) c.in_ok-next.ensures c.in_ok-total.ensures c.loop-link.invariant

pub hold-returns-in_ok-first-in-All : goal.hold-returns-in_ok-first-in-All
hold-returns-in_ok-first-in-All t c =
    rw (c.in-All.is, listed.conds_hidden c.in-All.list, truth_anded (held_by c.args.subs.now) (cond c.in-All.a.value) (conds c.in-All.list.items) (env_of c.args.env.now), ← c.deref-in-All.ensures, ← c.in_ok-first-in-All.ensures, ← c.deref-in-All-2.ensures.value) c.all_of.ensures

pub hold-returns-in_ok-first-in-Any : goal.hold-returns-in_ok-first-in-Any
hold-returns-in_ok-first-in-Any t c =
    rw (c.in-Any.is, listed.conds_hidden c.in-Any.list, truth_ored (held_by c.args.subs.now) (cond c.in-Any.a.value) (conds c.in-Any.list.items) (env_of c.args.env.now), ← c.deref-in-Any.ensures, ← c.in_ok-first-in-Any.ensures, ← c.deref-in-Any-2.ensures.value) c.any_of.ensures

pub hold-returns-in-Some : goal.hold-returns-in-Some
hold-returns-in-Some t c = rw (c.in-Some.is, ← c.deref-in-Some.ensures) c.quantified.ensures

pub hold-returns-in-Every : goal.hold-returns-in-Every
hold-returns-in-Every t c = rw (c.in-Every.is, ← c.deref-in-Every.ensures) c.quantified-in-Every.ensures

pub value-returns-in_ok-first-in-Chain : goal.value-returns-in_ok-first-in-Chain
value-returns-in_ok-first-in-Chain t c =
    rw (c.in-Chain.is, listed.links_hidden c.in-Chain.list, value_linked (held_by c.args.subs.now) (term c.in-Chain.a.value) (links c.in-Chain.list.items) (env_of c.args.env.now)) (grind (arith, common_steps))

pub value-returns-in-Case : goal.value-returns-in-Case
value-returns-in-Case t c = grind (arith, common_steps, listed.lists)

pub first_true-loop-arm-preserved : goal.first_true-loop-arm-preserved
first_true-loop-arm-preserved t c = grind (arith, common_steps)

pub first_true-returns-in-Yes : goal.first_true-returns-in-Yes
first_true-returns-in-Yes t c = grind (arith, common_steps)

pub hold-returns-in-Compare : goal.hold-returns-in-Compare
hold-returns-in-Compare t c = grind (arith, common_steps)

pub first_true-returns-in-Cardinality : goal.first_true-returns-in-Cardinality
first_true-returns-in-Cardinality t c = grind (arith, common_steps)

pub or_last-returns-in-None : goal.or_last-returns-in-None
or_last-returns-in-None t c = grind (arith, common_steps)

pub chain-loop-link-smaller : goal.chain-loop-link-smaller
chain-loop-link-smaller t c = grind (arith, common_steps)

pub value-returns-in-Neg : goal.value-returns-in-Neg
value-returns-in-Neg t c = grind (arith, common_steps)

pub first_true-returns-in-Overflow : goal.first_true-returns-in-Overflow
first_true-returns-in-Overflow t c = grind (arith, common_steps)

pub hold-returns-in-Not : goal.hold-returns-in-Not
hold-returns-in-Not t c = grind (arith, common_steps)

pub first_true-returns : goal.first_true-returns
first_true-returns t c = grind (arith, common_steps)

pub value-returns-in-Col : goal.value-returns-in-Col
value-returns-in-Col t c = grind (arith, common_steps)

pub all_of-returns : goal.all_of-returns
all_of-returns t c = grind (arith, common_steps)

pub chain-returns : goal.chain-returns
chain-returns t c = grind (arith, common_steps)

pub any_of-returns : goal.any_of-returns
any_of-returns t c = grind (arith, common_steps)

pub hold-returns-in-IsNull : goal.hold-returns-in-IsNull
hold-returns-in-IsNull t c = grind (arith, common_steps)

pub first_true-returns-in-Division : goal.first_true-returns-in-Division
first_true-returns-in-Division t c = grind (arith, common_steps)

pub quantified-returns-in_default : goal.quantified-returns-in_default
quantified-returns-in_default t c =
    let test = λ (cells : List Cell). truth (held_by c.args.subs.now) (cond c.args.p.now) (bound c.args.q cells (env_of c.args.env.now)) in
    c.decided.ensures ∙ sym (quantified-none c.args.holds test) ∙ ap (quantified c.args.holds test) (sym (c.rows_of.ensures.none c.in_default.is))

pub quantified-loop-i-init : goal.quantified-loop-i-init
quantified-loop-i-init t c =
    let holds = c.args.holds in
    let q = c.args.q in
    let subs = held_by c.args.subs.now in
    let p = cond c.args.p.now in
    let env = env_of c.args.env.now in
    let rows = c.in-Some.rows.now in
    let way = c.in_ok-way.way in
    let cursor = c.first_of-c.result in
    let leads : LeadsIdle holds q p rows env way = subst (λ (rs : Bag). LeadsIdle holds q p rs env way) (sym c.in-Some.ensures.some) c.in_ok-way.ensures in
    let whole = quantified holds (λ cells. truth subs p (bound q cells env)) in
    record {
      whole = ap (λ (x : Truth). joined holds x (whole (drop c.place-i.result rows))) c.decided-truth.ensures
          ∙ unit-joined holds (whole (drop c.place-i.result rows))
          ∙ ap (λ (n : ℕ). whole (drop n rows)) c.place-i.ensures
          ∙ sym (idle-stepped holds q subs p rows env way leads 0 cursor (omega arith) c.first_of-c.ensures);
      stands = seen-again way 0 cursor (leads subs).spans (omega arith) c.first_of-c.ensures;
      at = c.place-i.ensures;
    }

pub quantified-loop-i-preserved : goal.quantified-loop-i-preserved
quantified-loop-i-preserved t c =
    let holds = c.args.holds in
    let q = c.args.q in
    let subs = held_by c.args.subs.now in
    let p = cond c.args.p.now in
    let env = env_of c.args.env.now in
    let rows = c.in-Some.rows.now in
    let way = c.in_ok-way.way in
    let i = c.loop-i.i in
    let r = lent c.at.result in
    let new = c.joined-truth.result in
    let cursor = c.next_of-c.result in
    let leads : LeadsIdle holds q p rows env way = subst (λ (rs : Bag). LeadsIdle holds q p rs env way) (sym c.in-Some.ensures.some) c.in_ok-way.ensures in
    let test = λ (cells : List Cell). truth subs p (bound q cells env) in
    let whole = quantified holds test in
    let end = (leads subs).end in
    let inside : i < length rows = search rules in
    let next : i + 1 ≤ way.end = omega (arith, end, inside) in
    let stands : StandsFrom way (i + 1) cursor = subst (λ (n : ℕ). StandsFrom way (n + 1) cursor) (sym c.loop-i.invariant.at) c.next_of-c.ensures in
    let more = quantified-more holds test rows i r c.loop-i.truth c.in_ok-counted.counted new (whole rows) inside (get_or_from_slice_get rows i r r c.at.ensures) c.in_ok-counted.ensures c.joined-truth.ensures c.loop-i.invariant.whole in
    record {
      whole = ap (λ (n : ℕ). joined holds new (whole (drop n rows))) c.place-i-in-loop-i.ensures ∙ ap (joined holds new) (sym (idle-stepped holds q subs p rows env way leads (i + 1) cursor next stands)) ∙ more;
      stands = seen-again way (i + 1) cursor (leads subs).spans next stands;
      at = c.place-i-in-loop-i.ensures;
    }

pub quantified-loop-i-smaller : goal.quantified-loop-i-smaller
quantified-loop-i-smaller t c =
    let way = c.in_ok-way.way in
    let led = c.in_ok-way.ensures (held_by c.args.subs.now) in
    let rows : length c.in-Some.rows.now ≡ way.end = ap (λ (rs : Bag). length rs) c.in-Some.ensures.some ∙ sym led.end in
    let inside : c.loop-i.i < length c.in-Some.rows.now = search rules in
    let at = c.loop-i.invariant.at in
    let to = c.place-i-in-loop-i.ensures in
    let low = seen-low way (place c.loop-i.c + 1) c.next_of-c.result led.spans (omega (arith, rows, inside, at)) c.next_of-c.ensures in
    omega (arith, low, to, at, inside)

pub quantified-next_of-c-requires : goal.quantified-next_of-c-requires
quantified-next_of-c-requires t c =
    let led = c.in_ok-way.ensures (held_by c.args.subs.now) in
    let end : length c.in-Some.rows.now ≡ c.in_ok-way.way.end = ap (λ (rs : Bag). length rs) c.in-Some.ensures.some ∙ sym led.end in
    let inside : c.loop-i.i < length c.in-Some.rows.now = search rules in
    let at = c.loop-i.invariant.at in
    record {
      spans = led.spans;
      stands = c.loop-i.invariant.stands;
      within = omega (arith, at, inside, end);
    }

pub quantified-returns-then-is_wholly : goal.quantified-returns-then-is_wholly
quantified-returns-then-is_wholly t c =
    quantified-done c.args.holds c.loop-i.truth _ _ (c.is_wholly.ensures c.if-is_wholly.true)
    (subst (λ (rs : Bag). joined c.args.holds c.loop-i.truth (quantified c.args.holds (λ cells. truth (held_by c.args.subs.now) (cond c.args.p.now) (bound c.args.q cells (env_of c.args.env.now))) (drop c.loop-i.i c.in-Some.rows.now)) ≡ quantified c.args.holds (λ cells. truth (held_by c.args.subs.now) (cond c.args.p.now) (bound c.args.q cells (env_of c.args.env.now))) rs) c.in-Some.ensures.some c.loop-i.invariant.whole)

pub quantified-returns : goal.quantified-returns
quantified-returns t c =
    let holds = c.args.holds in
    let q = c.args.q in
    let subs = held_by c.args.subs.now in
    let p = cond c.args.p.now in
    let env = env_of c.args.env.now in
    let rows = c.in-Some.rows.now in
    let way = c.in_ok-way.way in
    let leads : LeadsIdle holds q p rows env way = subst (λ (rs : Bag). LeadsIdle holds q p rs env way) (sym c.in-Some.ensures.some) c.in_ok-way.ensures in
    let whole = quantified holds (λ cells. truth subs p (bound q cells env)) in
    let end = (leads subs).end in
    let past : length rows ≤ c.loop-i.i = search rules in
    idle-ended holds q subs p rows env way leads c.loop-i.i c.loop-i.truth (whole rows) (omega (arith, end, past)) c.loop-i.invariant.whole ∙ ap whole c.in-Some.ensures.some
