use Rattle.std.proofs.Common.{ℕ, ◌≤◌, ◌<◌, ◌+◌, List, arith, length, refl, rules, subst, sym, take}
use Rattle.row_bag.specs.Bags.{Alike, bind}
use Rattle.row_bag.specs.RowRefs.{lent}
use Rattle.row_bag.proofs.Agreement.{alike-same}
use Rattle.row_bag.proofs.Places.{read-at}
use Rattle.sql_value.specs.declared.cell.Cell.{Cell}
use Rattle.qgm_meaning.specs.Meaning.{given, nothing}
use Rattle.qgm_meaning.specs.Values.{Bag, bound}
use Rattle.box_exec.specs.Bound.{env_of}
use Rattle.row_index.specs.Ways.{StandsFrom}
use Rattle.row_index.proofs.Passed.{seen-again}
use Rattle.box_exec.proofs.Loops.{bind-more}
use Rattle.box_exec.proofs.Partners.{partners-ended, partners-stepped}
use Rattle.box_exec.proofs.joining.partners.Goals as goal

pub loop-i-init : goal.loop-i-init
loop-i-init c =
    let join = c.args.join.now in
    let ys = c.args.right.now.rows.now in
    let outer = bound join.left c.args.left.now (env_of c.args.env.now) in
    let way = c.in_ok-way.way in
    let cursor = c.first_of-c.result in
    let leads = c.in_ok-way.ensures in
    let f : List Cell → Bag = λ b. given nothing join.node.now (bound join.right b outer) in
    record {
      rows = subst (λ (n : ℕ). Alike c.new-made.result (bind (take n ys) f)) (sym c.place-i.ensures)
          (partners-stepped join.node.now join.right ys outer way leads c.new-made.result 0 cursor (omega arith) c.first_of-c.ensures (alike-same c.new-made.ensures));
      stands = seen-again way 0 cursor leads.spans (omega arith) c.first_of-c.ensures;
      at = c.place-i.ensures;
    }

pub loop-i-preserved : goal.loop-i-preserved
loop-i-preserved c =
    let join = c.args.join.now in
    let ys = c.args.right.now.rows.now in
    let outer = bound join.left c.args.left.now (env_of c.args.env.now) in
    let way = c.in_ok-way.way in
    let i = c.loop-i.i in
    let y = lent c.at-y.result in
    let new = c.add_given.new.out in
    let cursor = c.next_of-c.result in
    let leads = c.in_ok-way.ensures in
    let f : List Cell → Bag = λ b. given nothing join.node.now (bound join.right b outer) in
    let end = leads.end in
    let test = c.loop-i-test.true in
    let inside : i < length ys = omega (arith, end, test) in
    let next : i + 1 ≤ way.end = omega (arith, test) in
    let stands : StandsFrom way (i + 1) cursor = subst (λ (n : ℕ). StandsFrom way (n + 1) cursor) (sym c.loop-i.invariant.at) c.next_of-c.ensures in
    record {
      rows = subst (λ (n : ℕ). Alike new (bind (take n ys) f)) (sym c.place-i-in-loop-i.ensures)
          (partners-stepped join.node.now join.right ys outer way leads new (i + 1) cursor next stands
          (bind-more ys i y f c.loop-i.made new (f y.cells) inside (read-at ys i y c.at-y.ensures) c.loop-i.invariant.rows (alike-same refl) c.in_ok-add_given.ensures));
      stands = seen-again way (i + 1) cursor leads.spans next stands;
      at = c.place-i-in-loop-i.ensures;
    }

pub next_of-c-requires : goal.next_of-c-requires
next_of-c-requires c =
    let at = c.loop-i.invariant.at in
    let test = c.loop-i-test.true in
    record {
      spans = c.in_ok-way.ensures.spans;
      stands = c.loop-i.invariant.stands;
      within = omega (arith, at, test);
    }

pub returns : goal.returns
returns c =
    let join = c.args.join.now in
    let ys = c.args.right.now.rows.now in
    let outer = bound join.left c.args.left.now (env_of c.args.env.now) in
    let way = c.in_ok-way.way in
    let over : way.end ≤ c.loop-i.i = search rules in
    partners-ended join.node.now join.right ys outer way c.in_ok-way.ensures c.loop-i.made c.loop-i.i over c.loop-i.invariant.rows
