use Rattle.std.proofs.Common.{ℕ, All, Bool, Some, cond, slice_get, append-nil, ◌≡◌, ◌≤◌, ◌<◌, ◌+◌, ◌++◌, true, false, List, length, drop, filter, get_or, take, refl, sym, ap, ◌∙◌, subst, arith, rules}
use Rattle.std.proofs.lemmas.Result.{IfOk-weaker, on_ok_weaker}
use Rattle.std.specs.Result.{OnOk}
use Rattle.row_bag.specs.Bags.{Alike, bind, keep}
use Rattle.qgm_core.specs.Kinds.{is_F, is_enforce}
use Rattle.qgm_core.specs.declared.owned.OwnedQuant.{OwnedQuant}
use Rattle.qgm_meaning.specs.Meaning.{grouped_rows, once_if}
use Rattle.qgm_terms.specs.Terms.{Term}
use Rattle.qgm_meaning.specs.Values.{Bag, bound}
use Rattle.sql_value.specs.declared.cell.Cell.{Cell}
use Rattle.sql_value.specs.declared.level.Level.{Level}
use Rattle.box_exec.specs.Bound.{env_of}
use Rattle.box_exec.specs.Plans.{asked_at, asked_takings_at, cost_at, cost_left, family, left_at, ranges, tables_of, takings_at, takings_left}
use Rattle.box_exec.specs.Sought.{OpensAs}
use Rattle.box_exec.specs.Taken.{taken_by, ways}
use Rattle.box_exec.specs.Takings.{PlanSeeks, Seeks}
use Rattle.box_exec.proofs.Rows.{false-not, kind-cost, kind-takings, row-taken, row_takings, takings-bound, takings-over, text-order}
use Rattle.box_exec.proofs.Seeking.{row-counts-more}
use Rattle.qgm_core.specs.declared.kinds.BoxKind.TheVariants.{Select}
use Rattle.std.specs.List.{list_any}
use Rattle.box_exec.specs.Costs.{Between, at_level}
use Rattle.qgm_core.specs.declared.kinds.BoxKind.{BoxKind}
use Rattle.qgm_meaning.specs.Plain.{counted_by, under_others, under_rows}
use Rattle.box_exec.proofs.Evaluations.{all-took, one-under, others-past, others-took, row-gone, row-missed, rows-bound, rows-over}
use Rattle.box_exec.specs.Ready.{IsOpen, Stands, SubsOf, isnt_F, over_left}
use Rattle.box_exec.specs.declared.under.Under.{Under}
use Rattle.std.proofs.lemmas.List.{take_all}
use Rattle.box_exec.proofs.Parts.{is_there, of_part, of_parts, subs_pushed}
use Rattle.box_exec.specs.Sources.{held}
use Rattle.box_exec.proofs.Loops.{each-all, each-more, rows-once}
use Rattle.box_exec.proofs.Lookups.{some-is, stepped}
use Rattle.std.proofs.lemmas.Option.{IfSome_then}
use Rattle.box_exec.specs.Early.{is_open, rejects}
use Rattle.box_exec.specs.Lookup.{Hashes}
use Rattle.box_exec.specs.Outer.{rejects_on}
use Rattle.box_exec.proofs.Hashing.{kept-alike}
use Rattle.box_exec.proofs.Lasting.{idle-at, open-weight, planned-by, stands-at, under-weight}
use Rattle.box_exec.specs.Lasting.{PlanFits, rows_kept, rows_stored}
use Rattle.box_exec.specs.declared.plan.Plan.{Plan}
use Rattle.box_exec.specs.declared.under.Loop.{Loop}
use Rattle.std.specs.Borrow.{Bor}
use Rattle.row_bag.proofs.Agreement.{alike-same}
use Rattle.row_bag.specs.RowRefs.{lent}
use Rattle.row_bag.proofs.Places.{read-at}
use Rattle.row_index.specs.Ways.{StandsFrom, place}
use Rattle.row_index.proofs.Passed.{seen-again, seen-low}
use Rattle.box_exec.proofs.Quantifiers.{bound-of, combined-rows, free-more, free-same, given-at, group-rows, left-bound, left-over, level-none, outer-rows, past-all, past-ranges, placed, range-at, range-past, range-within, stood, two-at}
use Rattle.box_exec.proofs.boxes.+rows.Goals.{each-then-branch-2+in_ok-each, each-else-branch-2, subs-then-not-is_f+in_ok-push_sub, subs-else-not-is_f}
use Rattle.sql_value.specs.Level.{least}
use Rattle.box_exec.proofs.Rejections.{nothing-added, rejects-all}
use Rattle.std.proofs.lemmas.Grind.{common_steps}
use Rattle.box_exec.proofs.boxes.+rows.Goals as goal

pub add_head-returns-clause-rows : goal.add_head-returns-clause-rows
add_head-returns-clause-rows g t c =
    let at = c.args.at.now in
    subst (λ (b : Bag). OnOk c.add_given.result (Alike c.add_given.new.out (c.args.out.now ++ keep c.args.level b)))
    (given-at at c.requires.planned c.in_ok-subs.subs.items c.as_slice.result.now (env_of c.args.env.now) c.as_slice.ensures.value c.in_ok-subs.ensures.rows)
    c.add_given.ensures

pub each-returns-then-not-is_f-clause-rows : goal.each-returns-then-not-is_f-clause-rows
each-returns-then-not-is_f-clause-rows g t c =
    let at = c.args.at.now in
    let l = c.in-Some.l.now in
    let env = env_of c.args.env.now in
    let passed : is_F l.range.kind ≡ false = search rules in
    let here = stood at (bound-of at c.requires.planned) c.args.k l c.in-Some.ensures.lookup.3.0 c.in-Some.ensures.lookup.1 in
    subst (λ (b : Bag). OnOk c.each.result (Alike c.each.new.out (c.args.out.now ++ keep c.args.level b)))
    (sym (left-over (tables_of at) at.node.now at.below.now (ranges at.loops.now) c.args.k l.range env here.0 passed))
    c.each.ensures.rows

pub each-loop-i-init : goal.each-loop-i-init
each-loop-i-init g t c =
    let at = c.args.at.now in
    let l = c.in-Some.l.now in
    let env = env_of c.args.env.now in
    let k = c.args.k in
    let rows = c.rows-rows.result.now in
    let way = c.in_ok-way.way in
    let cursor = c.first_of-c.result in
    let f = λ (cells : List Cell). left_at at (k + 1) (bound l.range.id cells env) in
    record {
      rows = subst (λ (n : ℕ). Alike c.args.out.now (c.args.out.now ++ keep c.args.level (bind (take n rows) f))) (sym c.place-i.ensures)
          (stepped (rejects at.early.now (k + 1)) l.range.id rows env way c.in_ok-way.ensures f (λ cells h. rejects-all at (bound-of at c.requires.planned) (k + 1) (bound l.range.id cells env) h)
          c.args.level c.args.out.now c.args.out.now 0 cursor (omega arith) c.first_of-c.ensures (alike-same (sym (append-nil c.args.out.now))));
      took = λ kept keeps. (omega arith, omega arith);
      taken = λ kept seeks sought. (omega arith, omega arith);
      stands = seen-again way 0 cursor c.in_ok-way.ensures.spans (omega arith) c.first_of-c.ensures;
      at = c.place-i.ensures;
      counted = λ start h. h;
    }

pub each-is_taken-requires : goal.each-is_taken-requires
each-is_taken-requires g t c = record { bound = bound-of c.args.at.now c.requires.planned; within = c.in-Some.ensures.lookup.3.0; at = c.in-Some.ensures.lookup.1 }

pub each-loop-i-preserved : goal.each-loop-i-preserved
each-loop-i-preserved g t c =
    let at = c.args.at.now in
    let l = c.in-Some.l.now in
    let env = env_of c.args.env.now in
    let k = c.args.k in
    let rows = c.rows-rows.result.now in
    let way = c.in_ok-way.way in
    let leads = c.in_ok-way.ensures in
    let i = c.loop-i.i in
    let r = lent c.at-row.result in
    let is-at = read-at rows i r c.at-row.ensures in
    let level = c.args.level in
    let cursor = c.next_of-c.result in
    let f = λ (cells : List Cell). left_at at (k + 1) (bound l.range.id cells env) in
    let cost = λ (kept : ℕ → Bool) (cells : List Cell). cost_left at kept (k + 1) (bound l.range.id cells env) in
    let end = leads.end in
    let test = c.loop-i-test.true in
    let inside : i < length rows = omega (arith, end, test) in
    let next : i + 1 ≤ way.end = omega (arith, test) in
    let stands : StandsFrom way (i + 1) cursor = subst (λ (n : ℕ). StandsFrom way (n + 1) cursor) (sym c.loop-i.invariant.at) c.next_of-c.ensures in
    let low : i + 1 ≤ place cursor = seen-low way (i + 1) cursor leads.spans next stands in
    let rejected = λ (cells : List Cell) (h : rejects at.early.now (k + 1) (bound l.range.id cells env) ≡ true). rejects-all at (bound-of at c.requires.planned) (k + 1) (bound l.range.id cells env) h in
    elim c.if-branch-2.branch [
      | each-then-branch-2+in_ok-each w ↦
          let new = w.each-then-branch-2.new.out in
          let added : Alike new (c.loop-i.out ++ keep w.least-level.result (f r.cells)) = w.in_ok-each.ensures.rows in
          let done = each-more level rows i r f c.args.out.now c.loop-i.out new inside is-at c.loop-i.invariant.rows
          (subst (λ (x : Level). Alike new (c.loop-i.out ++ keep x (f r.cells))) w.least-level.ensures added) in
          let put : new ≡ c.if-branch-2.out = search rules in
          let put-steps : w.each-then-branch-2.new.steps ≡ c.if-branch-2.steps = search rules in
          record {
            rows = subst (λ (o : Bag). Alike o (c.args.out.now ++ keep level (bind (take c.place-i-in-loop-i.result rows) f))) put
                (subst (λ (n : ℕ). Alike new (c.args.out.now ++ keep level (bind (take n rows) f))) (sym c.place-i-in-loop-i.ensures)
                (stepped (rejects at.early.now (k + 1)) l.range.id rows env way leads f rejected level c.args.out.now new (i + 1) cursor next stands done));
            took = λ kept keeps.
                row-gone (cost kept) rows i (place cursor) c.place-i-in-loop-i.result r r.cells level w.least-level.result c.rows_under.new.steps c.loop-i.steps w.each-then-branch-2.new.steps c.if-branch-2.steps
                inside is-at refl w.least-level.ensures low c.place-i-in-loop-i.ensures put-steps (c.loop-i.invariant.took kept keeps) (w.in_ok-each.ensures.took kept keeps);
            taken = λ kept seeks sought.
                let yes : c.in_ok-is_taken.field-0 ≡ true = search rules in
                let bound_to : is_F l.range.kind ≡ true = search rules in
                let row = row_takings at kept k l.range env in
                let within = range-within at.loops.now k c.in-Some.ensures.lookup.3.0 in
                let place-at = range-at at.loops.now k l c.in-Some.ensures.lookup.3.0 c.in-Some.ensures.lookup.1 in
                let is = row-taken at c.requires.planned kept seeks k l c.in-Some.ensures.lookup.3.0 c.in-Some.ensures.lookup.1 sought bound_to env r.cells c.in_ok-is_taken.field-0 yes c.in_ok-is_taken.ensures.taken in
                let more : ℕ = under_rows (drop (k + 1) at.node.now.quants) at.node.now.quants (family at) (asked_takings_at at kept) (bound l.range.id r.cells env) in
                let counts : Between 0 (at_level w.least-level.result (row r.cells)) c.loop-i.tally.taken w.each-then-branch-2.new.tally.taken =
                row-counts-more kept at.node.now (ranges at.loops.now) (family at) k l.range within place-at more w.least-level.result env r.cells c.loop-i.tally.taken w.take.new.taken w.each-then-branch-2.new.tally.taken is w.take.ensures.took (w.in_ok-each.ensures.taken kept seeks sought) in
                row-gone row rows i (place cursor) c.place-i-in-loop-i.result r r.cells level w.least-level.result c.rows_under.new.tally.taken c.loop-i.tally.taken w.each-then-branch-2.new.tally.taken c.if-branch-2.tally.taken
                inside is-at refl w.least-level.ensures low c.place-i-in-loop-i.ensures (search rules) (c.loop-i.invariant.taken kept seeks sought) counts;
            stands = seen-again way (i + 1) cursor leads.spans next stands;
            at = c.place-i-in-loop-i.ensures;
            counted = λ start h. search (rules, w.in_ok-each.ensures.counted start (c.loop-i.invariant.counted start h));
          }
      | each-else-branch-2 w ↦
          let missed : c.in_ok-is_taken.field-0 ≡ false = search rules in
          let gone = rejected r.cells (c.in_ok-is_taken.ensures.passed missed) in
          let done = each-more level rows i r f c.args.out.now c.loop-i.out c.loop-i.out inside is-at c.loop-i.invariant.rows (nothing-added (least level r.level) c.loop-i.out (f r.cells) gone) in
          let put : c.loop-i.out ≡ c.if-branch-2.out = search rules in
          let put-steps : c.loop-i.steps ≡ c.if-branch-2.steps = search rules in
          record {
            rows = subst (λ (o : Bag). Alike o (c.args.out.now ++ keep level (bind (take c.place-i-in-loop-i.result rows) f))) put
                (subst (λ (n : ℕ). Alike c.loop-i.out (c.args.out.now ++ keep level (bind (take n rows) f))) (sym c.place-i-in-loop-i.ensures)
                (stepped (rejects at.early.now (k + 1)) l.range.id rows env way leads f rejected level c.args.out.now c.loop-i.out (i + 1) cursor next stands done));
            took = λ kept keeps. row-missed (cost kept) rows i (place cursor) c.place-i-in-loop-i.result c.rows_under.new.steps c.loop-i.steps c.if-branch-2.steps low c.place-i-in-loop-i.ensures put-steps (c.loop-i.invariant.took kept keeps);
            taken = λ kept seeks sought.
                row-missed (row_takings at kept k l.range env) rows i (place cursor) c.place-i-in-loop-i.result c.rows_under.new.tally.taken c.loop-i.tally.taken c.if-branch-2.tally.taken low c.place-i-in-loop-i.ensures (search rules) (c.loop-i.invariant.taken kept seeks sought);
            stands = seen-again way (i + 1) cursor leads.spans next stands;
            at = c.place-i-in-loop-i.ensures;
            counted = λ start h. search (rules, c.loop-i.invariant.counted start h);
          }
    ]

pub each-next_of-c-requires : goal.each-next_of-c-requires
each-next_of-c-requires g t c =
    let at = c.loop-i.invariant.at in
    let test = c.loop-i-test.true in
    record {
      spans = c.in_ok-way.ensures.spans;
      stands = c.loop-i.invariant.stands;
      within = omega (arith, at, test);
    }

pub each-returns-clause-rows : goal.each-returns-clause-rows
each-returns-clause-rows g t c =
    let at = c.args.at.now in
    let l = c.in-Some.l.now in
    let k = c.args.k in
    let env = env_of c.args.env.now in
    let bound_to : is_F l.range.kind ≡ true = search rules in
    let here = stood at (bound-of at c.requires.planned) k l c.in-Some.ensures.lookup.3.0 c.in-Some.ensures.lookup.1 in
    let end = c.in_ok-way.ensures.end in
    let over : c.in_ok-way.way.end ≤ c.loop-i.i = search rules in
    each-all c.args.level c.rows-rows.result.now (family at l.range.over env) c.loop-i.i
    (λ (cells : List Cell). left_at at (k + 1) (bound l.range.id cells env)) c.args.out.now c.loop-i.out (left_at at k env) (omega (arith, end, over))
    (subst (λ (b : Bag). Alike b (family at l.range.over env)) (sym c.rows-rows.ensures) c.in_ok-source.ensures.rows)
    (left-bound (tables_of at) at.node.now at.below.now (ranges at.loops.now) k l.range env here.0 bound_to here.1)
    c.loop-i.invariant.rows

pub groups-returns-clause-rows : goal.groups-returns-clause-rows
groups-returns-clause-rows g t c =
    let at = c.args.at.now in
    let l = c.in-Some.l.now in
    let env = env_of c.args.env.now in
    of_part c.grouped.result c.rows_under-rows.result _ _ _ c.grouped.ensures c.rows_under-rows.ensures.rows
    (λ bag s h same. group-rows at c.requires.planned l c.args.keys env (held s) bag c.in-Some.ensures.lookup.3.0 c.in-Some.ensures.lookup.1 same
    (subst (λ (head : List Term). Alike bag (grouped_rows c.args.keys head l.range.id env (held s))) c.as_slice-head.ensures h))

pub joined-returns-clause-rows : goal.joined-returns-clause-rows
joined-returns-clause-rows g t c =
    let at = c.args.at.now in
    let p = c.p-item.result in
    let q = c.q-item.result in
    let env = env_of c.args.env.now in
    of_parts c.outer_joined.result c.rows_under-xs.result c.rows_under-ys.result _ _ _ _ c.outer_joined.ensures c.rows_under-xs.ensures.rows c.rows_under-ys.ensures.rows
    (λ bag xs ys h u v. outer-rows at c.requires.planned p q env (held xs) (held ys) bag c.in-len2-up.len_at_least c.p-item.is c.q-item.is u v h)

pub put_together-returns-clause-rows : goal.put_together-returns-clause-rows
put_together-returns-clause-rows g t c =
    let at = c.args.at.now in
    let p = c.p-item.result in
    let q = c.q-item.result in
    let env = env_of c.args.env.now in
    of_parts c.combined.result c.rows_under-xs.result c.rows_under-ys.result _ _ _ _ c.combined.ensures c.rows_under-xs.ensures.rows c.rows_under-ys.ensures.rows
    (λ bag xs ys h u v. combined-rows at c.requires.planned p q c.args.operator c.args.width env (held xs) (held ys) bag c.in-len2-up.len_at_least c.p-item.is c.q-item.is u v h)

pub selected-returns-clause-rows : goal.selected-returns-clause-rows
selected-returns-clause-rows g t c =
    let at = c.args.at.now in
    of_part c.once_added.result c.each-added.result _ _ _ c.once_added.ensures c.each-added.ensures.rows
    (λ bag _ h added. subst (λ (rs : List OwnedQuant). Alike bag (once_if (is_enforce at.node.now.parts.distinct) (over_left (tables_of at) at.node.now at.below.now rs (env_of c.args.env.now)))) c.requires.planned.ranged
    (rows-once (is_enforce at.node.now.parts.distinct) c.new-out.result c.each-added.new.out (left_at at 0 (env_of c.args.env.now)) bag c.new-out.ensures added h))

pub subs-loop-i-preserved : goal.subs-loop-i-preserved
subs-loop-i-preserved g t c =
    let at = c.args.at.now in
    let i = c.loop-i.i in
    let l = get_or at.loops.now i c.index-at-i.result in
    let is : l ≡ get_or at.loops.now i l = subst (λ (x : Loop). x ≡ get_or at.loops.now i x) c.index-at-i.is c.index-at-i.is in
    let r = l.range in
    let rs = ranges at.loops.now in
    let f = family at in
    let env = env_of c.args.env.now in
    let inside = range-within at.loops.now i c.loop-i-test.true in
    let here = range-at at.loops.now i l c.loop-i-test.true is in
    elim c.if-not-is_f.branch [
      | subs-then-not-is_f+in_ok-push_sub w ↦
          let none : is_F c.index-at-i.result.range.kind ≡ false = search rules in
          let free : is_F r.kind ≡ false = subst (λ (x : Loop). is_F x.range.kind ≡ false) c.index-at-i.is none in
          let more : SubsOf f env (filter isnt_F (take (i + 1) rs)) w.push_sub.new.subs.items =
          subst (λ (xs : List OwnedQuant). SubsOf f env xs w.push_sub.new.subs.items) (sym (free-more rs i r inside here free))
          (is_there w.sub_under-rows.result _ _ _ w.in_ok-push_sub.ensures w.sub_under-rows.ensures.rows (λ s e h. subs_pushed f env (filter isnt_F (take i rs)) c.loop-i.subs.items w.push_sub.new.subs.items r s e h c.loop-i.invariant.rows)) in
          let put : w.push_sub.new.subs.items ≡ c.if-not-is_f.subs.items = search rules in
          record {
            rows = subst (λ (ss : _). SubsOf f env (filter isnt_F (take (i + 1) rs)) ss) put more;
            took = λ kept keeps. others-took rs (asked_at at kept) env i r c.args.steps.now c.loop-i.steps w.sub_under-rows.new.steps c.if-not-is_f.steps inside here free (search rules) (c.loop-i.invariant.took kept keeps)
                (is_there w.sub_under-rows.result _ _ _ w.in_ok-push_sub.ensures (w.sub_under-rows.ensures.took kept keeps) (λ s e h. h));
            taken = λ kept seeks. others-took rs (asked_takings_at at kept) env i r c.args.tally.now.taken c.loop-i.tally.taken w.sub_under-rows.new.tally.taken c.if-not-is_f.tally.taken inside here free (search rules) (c.loop-i.invariant.taken kept seeks)
                (is_there w.sub_under-rows.result _ _ _ w.in_ok-push_sub.ensures (w.sub_under-rows.ensures.taken kept seeks) (λ s e h. h));
            counted = λ start h. search (rules, w.sub_under-rows.ensures.counted start (c.loop-i.invariant.counted start h));
          }
      | subs-else-not-is_f w ↦
          let some : is_F c.index-at-i.result.range.kind ≡ true = search rules in
          let bound_to : is_F r.kind ≡ true = subst (λ (x : Loop). is_F x.range.kind ≡ true) c.index-at-i.is some in
          let kept : c.loop-i.subs.items ≡ c.if-not-is_f.subs.items = search rules in
          record {
            rows = subst (λ (ss : _). SubsOf f env (filter isnt_F (take (i + 1) rs)) ss) kept (subst (λ (xs : List OwnedQuant). SubsOf f env xs c.loop-i.subs.items) (sym (free-same rs i r inside here bound_to)) c.loop-i.invariant.rows);
            took = λ kept keeps. others-past rs (asked_at at kept) env i r c.args.steps.now c.loop-i.steps c.if-not-is_f.steps inside here bound_to (search rules) (c.loop-i.invariant.took kept keeps);
            taken = λ kept seeks. others-past rs (asked_takings_at at kept) env i r c.args.tally.now.taken c.loop-i.tally.taken c.if-not-is_f.tally.taken inside here bound_to (search rules) (c.loop-i.invariant.taken kept seeks);
            counted = λ start h. search (rules, c.loop-i.invariant.counted start h);
          }
    ]

pub each-returns-then-is_no-clause-rows : goal.each-returns-then-is_no-clause-rows
each-returns-then-is_no-clause-rows g t c =
    level-none c.args.level c.args.out.now (left_at c.args.at.now c.args.k (env_of c.args.env.now)) (c.is_no.ensures.none c.if-is_no.true)

-- ---- how many evaluations

pub evaluated-returns-in-Some-clause-took : goal.evaluated-returns-in-Some-clause-took
evaluated-returns-in-Some-clause-took g t c = λ kept keeps.
    IfOk-weaker c.of_kind.result _ _ (λ bag h. (omega (arith, h.0, c.step.ensures.ticked), omega (arith, h.1, c.step.ensures.ticked))) (c.of_kind.ensures.took kept keeps)

pub evaluated-returns-clause-took : goal.evaluated-returns-clause-took
evaluated-returns-clause-took g t c = λ kept keeps.
    IfOk-weaker c.of_kind-2.result _ _ (λ bag h. (omega (arith, h.0, c.step.ensures.ticked), omega (arith, h.1, c.step.ensures.ticked))) (c.of_kind-2.ensures.took kept keeps)

pub of_kind-returns-in-Base-clause-took : goal.of_kind-returns-in-Base-clause-took
of_kind-returns-in-Base-clause-took g t c = λ kept keeps.
    let at = c.args.at.now in
    let env = env_of c.args.env.now in
    let e : cost_at at kept env ≡ 1 = ap (λ (k : BoxKind). counted_by k at.node.now (family at) (asked_at at kept) env) c.in-Base.is in
    IfOk-weaker c.copied_rows.result _ _ (λ bag h. (omega arith, omega (arith, e))) c.copied_rows.ensures

pub of_kind-returns-in-Select-clause-took : goal.of_kind-returns-in-Select-clause-took
of_kind-returns-in-Select-clause-took g t c = λ kept keeps.
    let at = c.args.at.now in
    let env = env_of c.args.env.now in
    let e : cost_at at kept env ≡ 1 + cost_left at kept 0 env = ap (λ (k : BoxKind). counted_by k at.node.now (family at) (asked_at at kept) env) c.in-Select.is in
    IfOk-weaker c.selected.result _ _ (λ bag h. (omega (arith, h.0), omega (arith, h.1, e))) (c.selected.ensures.took kept keeps)

pub of_kind-returns-in-Group-clause-took : goal.of_kind-returns-in-Group-clause-took
of_kind-returns-in-Group-clause-took g t c = λ kept keeps.
    let e = kind-cost c.args.at.now kept (env_of c.args.env.now) _ c.in-Group.is in
    IfOk-weaker c.groups.result _ _ (λ bag h. (omega (arith, h.0), omega (arith, h.1, e))) (c.groups.ensures.took kept keeps)

pub of_kind-returns-in-SetOp-clause-took : goal.of_kind-returns-in-SetOp-clause-took
of_kind-returns-in-SetOp-clause-took g t c = λ kept keeps.
    let e = kind-cost c.args.at.now kept (env_of c.args.env.now) _ c.in-SetOp.is in
    IfOk-weaker c.put_together.result _ _ (λ bag h. (omega (arith, h.0), omega (arith, h.1, e))) (c.put_together.ensures.took kept keeps)

pub of_kind-returns-in-OuterJoin-clause-took : goal.of_kind-returns-in-OuterJoin-clause-took
of_kind-returns-in-OuterJoin-clause-took g t c = λ kept keeps.
    let e = kind-cost c.args.at.now kept (env_of c.args.env.now) _ c.in-OuterJoin.is in
    IfOk-weaker c.joined.result _ _ (λ bag h. (omega (arith, h.0), omega (arith, h.1, e))) (c.joined.ensures.took kept keeps)

pub selected-returns-clause-took : goal.selected-returns-clause-took
selected-returns-clause-took g t c = λ kept keeps.
    of_part c.once_added.result c.each-added.result _ _ _ c.once_added.ensures (c.each-added.ensures.took kept keeps) (λ bag _ h took. took)

pub groups-returns-clause-took : goal.groups-returns-clause-took
groups-returns-clause-took g t c = λ kept keeps.
    let at = c.args.at.now in
    let l = c.in-Some.l.now in
    let env = env_of c.args.env.now in
    let less = one-under at.node.now.quants (asked_at at kept) env l.range (drop 1 at.node.now.quants) (placed at c.requires.planned 0 l c.in-Some.ensures.lookup.3.0 c.in-Some.ensures.lookup.1).0 in
    of_part c.grouped.result c.rows_under-rows.result _ _ _ c.grouped.ensures (c.rows_under-rows.ensures.took kept keeps) (λ bag s h took. (omega (arith, took.0), omega (arith, took.1, less)))

pub joined-returns-clause-took : goal.joined-returns-clause-took
joined-returns-clause-took g t c = λ kept keeps.
    let at = c.args.at.now in
    let env = env_of c.args.env.now in
    let less = two-at at c.requires.planned c.p-item.result c.q-item.result (asked_at at kept) env c.in-len2-up.len_at_least c.p-item.is c.q-item.is in
    of_parts c.outer_joined.result c.rows_under-xs.result c.rows_under-ys.result _ _ _ _ c.outer_joined.ensures (c.rows_under-xs.ensures.took kept keeps) (c.rows_under-ys.ensures.took kept keeps)
    (λ bag s t h xs ys. (omega (arith, xs.0, ys.0), omega (arith, xs.1, ys.1, less)))

pub put_together-returns-clause-took : goal.put_together-returns-clause-took
put_together-returns-clause-took g t c = λ kept keeps.
    let at = c.args.at.now in
    let env = env_of c.args.env.now in
    let less = two-at at c.requires.planned c.p-item.result c.q-item.result (asked_at at kept) env c.in-len2-up.len_at_least c.p-item.is c.q-item.is in
    of_parts c.combined.result c.rows_under-xs.result c.rows_under-ys.result _ _ _ _ c.combined.ensures (c.rows_under-xs.ensures.took kept keeps) (c.rows_under-ys.ensures.took kept keeps)
    (λ bag s t h xs ys. (omega (arith, xs.0, ys.0), omega (arith, xs.1, ys.1, less)))

pub each-returns-then-not-is_f-clause-took : goal.each-returns-then-not-is_f-clause-took
each-returns-then-not-is_f-clause-took g t c = λ kept keeps.
    let at = c.args.at.now in
    let l = c.in-Some.l.now in
    let env = env_of c.args.env.now in
    let passed : is_F l.range.kind ≡ false = search rules in
    let here = placed at c.requires.planned c.args.k l c.in-Some.ensures.lookup.3.0 c.in-Some.ensures.lookup.1 in
    subst (λ (n : ℕ). OnOk c.each.result (Between 0 (at_level c.args.level n) c.args.steps.now c.each.new.steps))
    (sym (rows-over at.node.now.quants at.node.now.quants (family at) (asked_at at kept) env c.args.k l.range here.0 passed))
    (c.each.ensures.took kept keeps)

pub each-returns-clause-took : goal.each-returns-clause-took
each-returns-clause-took g t c = λ kept keeps.
    let at = c.args.at.now in
    let l = c.in-Some.l.now in
    let k = c.args.k in
    let env = env_of c.args.env.now in
    let whole : ℕ = cost_left at kept k env in
    let bound_to : is_F l.range.kind ≡ true = search rules in
    let here = placed at c.requires.planned k l c.in-Some.ensures.lookup.3.0 c.in-Some.ensures.lookup.1 in
    let end = c.in_ok-way.ensures.end in
    let over : c.in_ok-way.way.end ≤ c.loop-i.i = search rules in
    let there : at_level c.args.level whole ≡ whole = c.is_no.ensures.there whole ∙ ap (λ (b : Bool). cond b 0 whole) c.if-is_no.false in
    subst (λ (n : ℕ). Between 0 n c.args.steps.now c.loop-i.steps) (sym there)
    (all-took (λ (cells : List Cell). cost_left at kept (k + 1) (bound l.range.id cells env)) c.rows-rows.result.now (family at l.range.over env) c.loop-i.i (asked_at at kept l.range.over env) whole
    c.args.steps.now c.rows_under.new.steps c.loop-i.steps (omega (arith, end, over))
    (subst (λ (b : Bag). Alike b (family at l.range.over env)) (sym c.rows-rows.ensures) c.in_ok-source.ensures.rows)
    (rows-bound at.node.now.quants at.node.now.quants (family at) (asked_at at kept) env k l.range here.0 bound_to)
    (c.in_ok-source.ensures.took kept keeps) (c.loop-i.invariant.took kept keeps))

pub each-returns-in_default-clause-took : goal.each-returns-in_default-clause-took
each-returns-in_default-clause-took g t c = λ kept keeps.
    let at = c.args.at.now in
    let env = env_of c.args.env.now in
    let whole : ℕ = cost_left at kept c.args.k env in
    let past : length at.loops.now ≤ c.args.k = search rules in
    let there : at_level c.args.level whole ≡ whole = c.is_no.ensures.there whole ∙ ap (λ (b : Bool). cond b 0 whole) c.if-is_no.false in
    let none : whole ≡ under_others at.node.now.quants (asked_at at kept) env = ap (λ (rs : List OwnedQuant). under_rows rs at.node.now.quants (family at) (asked_at at kept) env) (past-all at c.requires.planned c.args.k past) in
    subst (λ (n : ℕ). OnOk c.add_head.result (Between 0 n c.args.steps.now c.add_head.new.steps)) (sym (there ∙ none)) (c.add_head.ensures.took kept keeps)

pub add_head-returns-clause-took : goal.add_head-returns-clause-took
add_head-returns-clause-took g t c = λ kept keeps.
    on_ok_weaker c.add_given.result
    (λ h. subst (λ (rs : List OwnedQuant). Between 0 (under_others rs (asked_at c.args.at.now kept) (env_of c.args.env.now)) c.args.steps.now c.subs.new.steps) c.requires.planned.ranged (c.in_ok-subs.ensures.took kept keeps))
    c.add_given.ensures

pub rows_under-returns-in-Open-clause-rows : goal.rows_under-returns-in-Open-clause-rows
rows_under-returns-in-Open-clause-rows g t c =
    let at = c.args.at.now in
    let env = env_of c.args.env.now in
    let anew : IsOpen (tables_of at) at.run.now.memo.now at.below.now c.args.l.now.range.over c.in-Open.node.now c.in-Open.behind.now =
    subst (λ (u : Under). Stands (tables_of at) at.run.now.memo.now at.below.now c.args.l.now.range.over u) c.in-Open.is c.requires.stands in
    of_part c.made.result c.evaluated.result _ _ _ c.made.ensures c.evaluated.ensures.rows
    (λ s bag e h. subst (λ (b : Bag). Alike b (family at c.args.l.now.range.over env)) (sym e) (subst (λ (b : Bag). Alike bag b) (sym (anew.bag env)) h))

pub rows_under-returns-in-Open-clause-took : goal.rows_under-returns-in-Open-clause-took
rows_under-returns-in-Open-clause-took g t c = λ kept keeps.
    let at = c.args.at.now in
    let anew : IsOpen (tables_of at) at.run.now.memo.now at.below.now c.args.l.now.range.over c.in-Open.node.now c.in-Open.behind.now =
    subst (λ (u : Under). Stands (tables_of at) at.run.now.memo.now at.below.now c.args.l.now.range.over u) c.in-Open.is c.requires.stands in
    let below = anew.keeps kept keeps in
    let e = below.1 (env_of c.args.env.now) in
    of_part c.made.result c.evaluated.result _ _ _ c.made.ensures (c.evaluated.ensures.took kept below.0)
    (λ s bag h took. (omega (arith, took.0), omega (arith, took.1, e)))

pub sub_under-sub_rows-requires : goal.sub_under-sub_rows-requires
sub_under-sub_rows-requires g t c = idle-at c.args.at.now c.requires.planned c.args.i c.args.l.now c.requires.within c.requires.at

pub sub_under-rows_under-requires : goal.sub_under-rows_under-requires
sub_under-rows_under-requires g t c κs lives =
    let l = c.args.l.now in
    let anew : is_open l.under ≡ true = search rules in
    let some = open-weight l.under anew in
    (grind (arith, common_steps, some), (grind (arith, common_steps, some), (stands-at c.args.at.now c.requires.planned c.args.i l c.requires.within c.requires.at, c.requires.planned.plans)))

pub subs-sub_under-rows-requires : goal.subs-sub_under-rows-requires
subs-sub_under-rows-requires g t c κs lives =
    let at = c.args.at.now in
    let i = c.loop-i.i in
    let l = get_or at.loops.now i c.index-at-i.result in
    let is : l ≡ get_or at.loops.now i l = subst (λ (x : Loop). x ≡ get_or at.loops.now i x) c.index-at-i.is c.index-at-i.is in
    let less = under-weight at l.range.over l.under (stands-at at c.requires.planned i l c.loop-i-test.true is) in
    (grind (arith, common_steps, less), (grind (arith, common_steps, less), (c.requires.planned, (c.loop-i-test.true, is))))

pub sub_under-returns-clause-took : goal.sub_under-returns-clause-took
sub_under-returns-clause-took g t c = λ kept keeps. (omega arith, omega arith)

pub sub_under-returns-then-is_open-clause-rows : goal.sub_under-returns-then-is_open-clause-rows
sub_under-returns-then-is_open-clause-rows g t c =
    let at = c.args.at.now in
    of_part c.unindexed.result c.rows_under.result _ _ _ c.unindexed.ensures c.rows_under.ensures.rows
    (λ s source e h. subst (λ (b : Bag). Alike b (family at c.args.l.now.range.over (env_of c.args.env.now))) (sym e) h)

pub sub_under-returns-then-is_open-clause-took : goal.sub_under-returns-then-is_open-clause-took
sub_under-returns-then-is_open-clause-took g t c = λ kept keeps.
    of_part c.unindexed.result c.rows_under.result _ _ _ c.unindexed.ensures (c.rows_under.ensures.took kept keeps) (λ s source e h. h)

pub sub_under-returns-clause-rows : goal.sub_under-returns-clause-rows
sub_under-returns-clause-rows g t c =
    let at = c.args.at.now in
    let l = c.args.l.now in
    let closed : is_open l.under ≡ false = search rules in
    subst (λ (b : Bag). Alike b (family at l.range.over (env_of c.args.env.now))) (sym c.sub_rows.ensures)
    (kept-alike (tables_of at) at.run.now.memo.now at.below.now l.range.over l.under (stands-at at c.requires.planned c.args.i l c.requires.within c.requires.at) closed (env_of c.args.env.now))

pub joined-outer_joined-requires : goal.joined-outer_joined-requires
joined-outer_joined-requires g t c =
    let at = c.args.at.now in
    IfSome_then c.made_right.result c.made_right.ensures
    (λ h f. IfOk-weaker c.rows_under-ys.result _ _ (λ s e. subst (λ (b : Bag). Hashes (rejects_on at.node.now) c.q-item.result.range.id b h.now) (sym e) f.1) (c.rows_under-ys.ensures.kept f.0))

pub subs-returns-clause-took : goal.subs-returns-clause-took
subs-returns-clause-took g t c = λ kept keeps.
    let at = c.args.at.now in
    let rs = ranges at.loops.now in
    subst (λ (xs : List OwnedQuant). Between 0 (under_others xs (asked_at at kept) (env_of c.args.env.now)) c.args.steps.now c.loop-i.steps)
    (take_all c.loop-i.i rs (range-past at.loops.now c.loop-i.i c.loop-i-test.false)) (c.loop-i.invariant.took kept keeps)

pub each-returns-then-branch-clause-rows : goal.each-returns-then-branch-clause-rows
each-returns-then-branch-clause-rows g t c =
    let at = c.args.at.now in
    let env = env_of c.args.env.now in
    nothing-added c.args.level c.args.out.now (left_at at c.args.k env) (rejects-all at (bound-of at c.requires.planned) c.args.k env (sym c.in_ok-rejected.ensures ∙ c.if-branch.true))

pub evaluated-of_kind-requires : goal.evaluated-of_kind-requires
evaluated-of_kind-requires g t c κs l =
    let run = c.args.run.now in
    let n = c.args.node.now in
    let below = c.args.below.now in
    let plan = c.in-Some.plan.now in
    let found : slice_get run.plans.now (length below) ≡ Some (Some plan) = some-is (λ (p : Bor Plan). slice_get run.plans.now (length below) ≡ Some (Some p.now)) c.plan_at.result c.in-Some.plan c.in-Some.is c.plan_at.ensures in
    let planned = planned-by _ c.in_ok-loops.loops.items plan c.deref.ensures.value c.deref-in-Some.ensures.value c.deref-in-Some-2.ensures.value c.deref-in-Some-3.ensures.value c.deref-in-Some-4.ensures.value c.deref-in-Some-5.ensures.value
    (c.in_ok-loops.ensures.ranges ∙ c.as_slice.ensures) c.in_ok-loops.ensures.stand c.in_ok-loops.ensures.opens c.in_ok-loops.ensures.kept c.requires.fit
    (subst (PlanFits run.memo.now n below) found c.requires.plans.0) c.requires.plans.1 c.requires.ready in
    (grind (arith, common_steps), (grind (arith, common_steps), planned))

pub evaluated-plan_of-requires : goal.evaluated-plan_of-requires
evaluated-plan_of-requires g t c =
    let run = c.args.run.now in
    let below = c.args.below.now in
    record {
      ready = c.requires.ready;
      ranged = ap ranges c.deref-2.ensures.value ∙ c.in_ok-loops.ensures.ranges ∙ c.as_slice.ensures;
      kept = subst (All (λ (l : Loop). rows_kept l.under ≡ rows_stored run.memo.now below l.range.over)) (sym c.deref-2.ensures.value) c.in_ok-loops.ensures.kept;
    }

pub evaluated-of_kind-requires-2 : goal.evaluated-of_kind-requires-2
evaluated-of_kind-requires-2 g t c κs l =
    let planned = planned-by _ c.in_ok-loops.loops.items c.in_ok-plan.plan c.deref-3.ensures.value c.deref-4.ensures.value c.deref-5.ensures.value c.deref-6.ensures.value c.deref-7.ensures.value c.deref-8.ensures.value
    (c.in_ok-loops.ensures.ranges ∙ c.as_slice.ensures) c.in_ok-loops.ensures.stand c.in_ok-loops.ensures.opens c.in_ok-loops.ensures.kept c.requires.fit
    c.in_ok-plan.ensures.fits c.requires.plans.1 c.requires.ready in
    (grind (arith, common_steps), (grind (arith, common_steps), planned))

pub groups-returns-clause-counted : goal.groups-returns-clause-counted
groups-returns-clause-counted t c = grind (arith, common_steps)

pub groups-returns-in_default-clause-rows : goal.groups-returns-in_default-clause-rows
groups-returns-in_default-clause-rows t c = grind (arith, common_steps)

pub joined-returns-in_default-clause-rows : goal.joined-returns-in_default-clause-rows
joined-returns-in_default-clause-rows t c = grind (arith, common_steps)

pub joined-rows_under-xs-requires : goal.joined-rows_under-xs-requires
joined-rows_under-xs-requires t c = grind (arith, common_steps)

pub joined-rows_under-ys-requires : goal.joined-rows_under-ys-requires
joined-rows_under-ys-requires t c = grind (arith, common_steps)

pub put_together-returns-in_default-clause-rows : goal.put_together-returns-in_default-clause-rows
put_together-returns-in_default-clause-rows t c = grind (arith, common_steps)

pub put_together-rows_under-xs-requires : goal.put_together-rows_under-xs-requires
put_together-rows_under-xs-requires t c = grind (arith, common_steps)

pub put_together-rows_under-ys-requires : goal.put_together-rows_under-ys-requires
put_together-rows_under-ys-requires t c = grind (arith, common_steps)

pub subs-loop-i-init : goal.subs-loop-i-init
subs-loop-i-init g t c = grind (arith, common_steps)

pub joined-bounds-p-0 : goal.joined-bounds-p-0
joined-bounds-p-0 g t c = grind (arith, common_steps)

pub evaluated-returns-clause-rows : goal.evaluated-returns-clause-rows
evaluated-returns-clause-rows g t c = grind (arith, common_steps)

pub add_head-returns-clause-counted : goal.add_head-returns-clause-counted
add_head-returns-clause-counted g t c = grind (arith, common_steps)

pub each-add_head-requires : goal.each-add_head-requires
each-add_head-requires g t c = grind (arith, common_steps)

pub each-returns-then-is_no-clause-took : goal.each-returns-then-is_no-clause-took
each-returns-then-is_no-clause-took g t c = grind (arith, common_steps)

pub put_together-bounds-p-0 : goal.put_together-bounds-p-0
put_together-bounds-p-0 g t c = grind (arith, common_steps)

pub evaluated-returns-clause-counted : goal.evaluated-returns-clause-counted
evaluated-returns-clause-counted g t c = λ start h. c.of_kind-2.ensures.counted start (c.step.ensures.counted start h)

pub rows_under-returns-in-Kept-clause-took : goal.rows_under-returns-in-Kept-clause-took
rows_under-returns-in-Kept-clause-took g t c = grind (arith, common_steps)

pub each-overflow_add-k : goal.each-overflow_add-k
each-overflow_add-k g t c = grind (arith, common_steps)

pub of_kind-put_together-requires : goal.of_kind-put_together-requires
of_kind-put_together-requires g t c = grind (arith, common_steps)

pub rows_under-returns-in-Kept-clause-rows : goal.rows_under-returns-in-Kept-clause-rows
rows_under-returns-in-Kept-clause-rows g t c = grind (arith, common_steps)

pub each-returns-then-branch-clause-took : goal.each-returns-then-branch-clause-took
each-returns-then-branch-clause-took g t c = grind (arith, common_steps)

pub put_together-returns-clause-counted : goal.put_together-returns-clause-counted
put_together-returns-clause-counted g t c = grind (arith, common_steps)

pub rows_under-returns-in-Nothing-clause-rows : goal.rows_under-returns-in-Nothing-clause-rows
rows_under-returns-in-Nothing-clause-rows g t c = grind (arith, common_steps)

pub each-rows_under-requires : goal.each-rows_under-requires
each-rows_under-requires g t c = grind (arith, common_steps)

pub subs-returns-clause-counted : goal.subs-returns-clause-counted
subs-returns-clause-counted g t c = grind (arith, common_steps)

pub each-each-requires : goal.each-each-requires
each-each-requires g t c = grind (arith, common_steps)

pub subs-returns-clause-rows : goal.subs-returns-clause-rows
subs-returns-clause-rows g t c = grind (arith, common_steps)

pub joined-returns-clause-counted : goal.joined-returns-clause-counted
joined-returns-clause-counted g t c = grind (arith, common_steps)

pub put_together-bounds-q-1 : goal.put_together-bounds-q-1
put_together-bounds-q-1 g t c = grind (arith, common_steps)

pub each-returns-clause-counted : goal.each-returns-clause-counted
each-returns-clause-counted g t c = grind (arith, common_steps)

pub each-returns-in_default-clause-rows : goal.each-returns-in_default-clause-rows
each-returns-in_default-clause-rows g t c =
    let at = c.args.at.now in
    let past : length at.loops.now ≤ c.args.k = search rules in
    subst (λ (b : Bag). OnOk c.add_head.result (Alike c.add_head.new.out (c.args.out.now ++ keep c.args.level b)))
    (sym (ap (λ (rs : List OwnedQuant). over_left (tables_of at) at.node.now at.below.now rs (env_of c.args.env.now)) (past-ranges at.loops.now c.args.k past))) c.add_head.ensures.rows

pub rows_under-evaluated-requires : goal.rows_under-evaluated-requires
rows_under-evaluated-requires g t c κs lives =
    let at = c.args.at.now in
    let anew : IsOpen (tables_of at) at.run.now.memo.now at.below.now c.args.l.now.range.over c.in-Open.node.now c.in-Open.behind.now =
    subst (λ (u : Under). Stands (tables_of at) at.run.now.memo.now at.below.now c.args.l.now.range.over u) c.in-Open.is c.requires.stands in
    (grind (arith, common_steps), (grind (arith, common_steps), (anew.ready, (anew.fit, anew.plans at.run.now.plans.now c.requires.plans))))

pub evaluated-returns-in_err-loops-clause-counted : goal.evaluated-returns-in_err-loops-clause-counted
evaluated-returns-in_err-loops-clause-counted g t c = grind (arith, common_steps)

pub each-returns-then-not-is_f-clause-counted : goal.each-returns-then-not-is_f-clause-counted
each-returns-then-not-is_f-clause-counted g t c = grind (arith, common_steps)

pub joined-bounds-q-1 : goal.joined-bounds-q-1
joined-bounds-q-1 g t c = grind (arith, common_steps)

pub groups-returns-in_default-clause-took : goal.groups-returns-in_default-clause-took
groups-returns-in_default-clause-took g t c = grind (arith, common_steps)

pub each-returns-in_default-clause-counted : goal.each-returns-in_default-clause-counted
each-returns-in_default-clause-counted g t c = grind (arith, common_steps)

pub rows_under-returns-in-Nothing-clause-took : goal.rows_under-returns-in-Nothing-clause-took
rows_under-returns-in-Nothing-clause-took g t c = grind (arith, common_steps)

pub of_kind-selected-requires : goal.of_kind-selected-requires
of_kind-selected-requires g t c = grind (arith, common_steps)

pub evaluated-returns-in_err-plan-clause-counted : goal.evaluated-returns-in_err-plan-clause-counted
evaluated-returns-in_err-plan-clause-counted g t c = grind (arith, common_steps)

pub rows_under-returns-in-Open-clause-counted : goal.rows_under-returns-in-Open-clause-counted
rows_under-returns-in-Open-clause-counted g t c = grind (arith, common_steps)

pub each-returns-in_err-rejected-clause-counted : goal.each-returns-in_err-rejected-clause-counted
each-returns-in_err-rejected-clause-counted g t c = grind (arith, common_steps)

pub groups-rows_under-rows-requires : goal.groups-rows_under-rows-requires
groups-rows_under-rows-requires g t c = grind (arith, common_steps)

pub selected-returns-then-all_kept-clause-took : goal.selected-returns-then-all_kept-clause-took
selected-returns-then-all_kept-clause-took g t c = λ kept keeps.
    IfOk-weaker c.kept_selected.result _ _ (λ bag h. (omega arith, omega arith)) c.kept_selected.ensures.rows

-- ---- how many rows are taken

pub evaluated-returns-in-Some-clause-taken : goal.evaluated-returns-in-Some-clause-taken
evaluated-returns-in-Some-clause-taken g t c = λ kept seeks.
    let run = c.args.run.now in
    let n = c.args.node.now in
    let below = c.args.below.now in
    let plan = c.in-Some.plan.now in
    let found : slice_get run.plans.now (length below) ≡ Some (Some plan) = some-is (λ (p : Bor Plan). slice_get run.plans.now (length below) ≡ Some (Some p.now)) c.plan_at.result c.in-Some.plan c.in-Some.is c.plan_at.ensures in
    let planned : PlanSeeks kept n (Some (Some plan)) = subst (PlanSeeks kept n) found seeks.planned.0 in
    IfOk-weaker c.of_kind.result _ _ (λ bag h. (omega (arith, h.0, c.step.ensures.taken), omega (arith, h.1, c.step.ensures.taken)))
    (c.of_kind.ensures.taken kept (record {
      by_keys = seeks.by_keys;
      keeps = seeks.keeps;
      ordered = seeks.ordered;
      planned = seeks.planned.1;
      here = λ select. subst (λ (ks : _). Seeks kept n ks c.deref-in-Some-3.result.now) (sym c.deref-in-Some-2.ensures.value) (subst (Seeks kept n plan.keyed.items) (sym c.deref-in-Some-3.ensures.value) (planned select));
    }))

pub evaluated-returns-clause-taken : goal.evaluated-returns-clause-taken
evaluated-returns-clause-taken g t c = λ kept seeks.
    let run = c.args.run.now in
    let n = c.args.node.now in
    let below = c.args.below.now in
    let plan = c.in_ok-plan.plan in
    let opens = subst (All (λ (l : Loop). OpensAs run.memo.now below l.range.over l.under)) (sym c.deref-2.ensures.value) c.in_ok-loops.ensures.opens in
    IfOk-weaker c.of_kind-2.result _ _ (λ bag h. (omega (arith, h.0, c.step.ensures.taken), omega (arith, h.1, c.step.ensures.taken)))
    (c.of_kind-2.ensures.taken kept (record {
      by_keys = seeks.by_keys;
      keeps = seeks.keeps;
      ordered = seeks.ordered;
      planned = seeks.planned.1;
      here = λ select. subst (λ (ks : _). Seeks kept n ks c.deref-6.result.now) (sym c.deref-5.ensures.value) (subst (Seeks kept n plan.keyed.items) (sym c.deref-6.ensures.value) (c.in_ok-plan.ensures.seeks kept seeks.by_keys seeks.keeps seeks.ordered opens select));
    }))

pub of_kind-returns-in-Base-clause-taken : goal.of_kind-returns-in-Base-clause-taken
of_kind-returns-in-Base-clause-taken g t c = λ kept seeks. IfOk-weaker c.copied_rows.result _ _ (λ bag h. (omega arith, omega arith)) c.copied_rows.ensures

pub of_kind-returns-in-Select-clause-taken : goal.of_kind-returns-in-Select-clause-taken
of_kind-returns-in-Select-clause-taken g t c = λ kept seeks.
    let at = c.args.at.now in
    let env = env_of c.args.env.now in
    let e : takings_at at kept env ≡ taken_by kept Select at.node.now (family at) (asked_takings_at at kept) env = ap (λ (k : BoxKind). taken_by kept k at.node.now (family at) (asked_takings_at at kept) env) c.in-Select.is in
    IfOk-weaker c.selected.result _ _ (λ bag h. (omega (arith, h.0), omega (arith, h.1, e))) (c.selected.ensures.taken kept seeks c.in-Select.is)

pub of_kind-returns-in-Group-clause-taken : goal.of_kind-returns-in-Group-clause-taken
of_kind-returns-in-Group-clause-taken g t c = λ kept seeks.
    let e = kind-takings c.args.at.now kept (env_of c.args.env.now) _ c.in-Group.is in
    IfOk-weaker c.groups.result _ _ (λ bag h. (omega (arith, h.0), omega (arith, h.1, e))) (c.groups.ensures.taken kept seeks)

pub of_kind-returns-in-SetOp-clause-taken : goal.of_kind-returns-in-SetOp-clause-taken
of_kind-returns-in-SetOp-clause-taken g t c = λ kept seeks.
    let e = kind-takings c.args.at.now kept (env_of c.args.env.now) _ c.in-SetOp.is in
    IfOk-weaker c.put_together.result _ _ (λ bag h. (omega (arith, h.0), omega (arith, h.1, e))) (c.put_together.ensures.taken kept seeks)

pub of_kind-returns-in-OuterJoin-clause-taken : goal.of_kind-returns-in-OuterJoin-clause-taken
of_kind-returns-in-OuterJoin-clause-taken g t c = λ kept seeks.
    let e = kind-takings c.args.at.now kept (env_of c.args.env.now) _ c.in-OuterJoin.is in
    IfOk-weaker c.joined.result _ _ (λ bag h. (omega (arith, h.0), omega (arith, h.1, e))) (c.joined.ensures.taken kept seeks)

pub selected-returns-then-all_kept-clause-taken : goal.selected-returns-then-all_kept-clause-taken
selected-returns-then-all_kept-clause-taken g t c = λ kept seeks select.
    IfOk-weaker c.kept_selected.result _ _ (λ bag h. (omega (arith, h.0), omega (arith, h.1))) (c.kept_selected.ensures.took kept seeks select)

pub selected-returns-clause-taken : goal.selected-returns-clause-taken
selected-returns-clause-taken g t c = λ kept seeks select.
    let at = c.args.at.now in
    let env = env_of c.args.env.now in
    let anew : list_any (λ (l : Loop). is_open l.under) at.loops.now ≡ true = false-not _ (sym c.if-all_kept.false ∙ c.all_kept.ensures.exact) in
    let order = text-order at c.requires.planned kept seeks select anew in
    let e : takings_left at kept 0 env ≡ taken_by kept Select at.node.now (family at) (asked_takings_at at kept) env =
    ap (λ (rs : List OwnedQuant). ways kept at.node.now rs (family at) env + under_rows at.node.now.quants at.node.now.quants (family at) (asked_takings_at at kept) env) order.1 in
    of_part c.once_added.result c.each-added.result _ _ _ c.once_added.ensures (c.each-added.ensures.taken kept seeks order.0) (λ bag _ h took. (omega (arith, took.0), omega (arith, took.1, e)))

pub groups-returns-clause-taken : goal.groups-returns-clause-taken
groups-returns-clause-taken g t c = λ kept seeks.
    let at = c.args.at.now in
    let l = c.in-Some.l.now in
    let env = env_of c.args.env.now in
    let less = one-under at.node.now.quants (asked_takings_at at kept) env l.range (drop 1 at.node.now.quants) (placed at c.requires.planned 0 l c.in-Some.ensures.lookup.3.0 c.in-Some.ensures.lookup.1).0 in
    of_part c.grouped.result c.rows_under-rows.result _ _ _ c.grouped.ensures (c.rows_under-rows.ensures.taken kept seeks) (λ bag s h took. (omega (arith, took.0), omega (arith, took.1, less)))

pub joined-returns-clause-taken : goal.joined-returns-clause-taken
joined-returns-clause-taken g t c = λ kept seeks.
    let at = c.args.at.now in
    let env = env_of c.args.env.now in
    let less = two-at at c.requires.planned c.p-item.result c.q-item.result (asked_takings_at at kept) env c.in-len2-up.len_at_least c.p-item.is c.q-item.is in
    of_parts c.outer_joined.result c.rows_under-xs.result c.rows_under-ys.result _ _ _ _ c.outer_joined.ensures (c.rows_under-xs.ensures.taken kept seeks) (c.rows_under-ys.ensures.taken kept seeks)
    (λ bag s t h xs ys. (omega (arith, xs.0, ys.0), omega (arith, xs.1, ys.1, less)))

pub put_together-returns-clause-taken : goal.put_together-returns-clause-taken
put_together-returns-clause-taken g t c = λ kept seeks.
    let at = c.args.at.now in
    let env = env_of c.args.env.now in
    let less = two-at at c.requires.planned c.p-item.result c.q-item.result (asked_takings_at at kept) env c.in-len2-up.len_at_least c.p-item.is c.q-item.is in
    of_parts c.combined.result c.rows_under-xs.result c.rows_under-ys.result _ _ _ _ c.combined.ensures (c.rows_under-xs.ensures.taken kept seeks) (c.rows_under-ys.ensures.taken kept seeks)
    (λ bag s t h xs ys. (omega (arith, xs.0, ys.0), omega (arith, xs.1, ys.1, less)))

pub each-returns-then-not-is_f-clause-taken : goal.each-returns-then-not-is_f-clause-taken
each-returns-then-not-is_f-clause-taken g t c = λ kept seeks sought.
    let at = c.args.at.now in
    let l = c.in-Some.l.now in
    let env = env_of c.args.env.now in
    let passed : is_F l.range.kind ≡ false = search rules in
    subst (λ (n : ℕ). OnOk c.each.result (Between 0 (at_level c.args.level n) c.args.tally.now.taken c.each.new.tally.taken))
    (sym (takings-over at c.requires.planned kept seeks c.args.k l c.in-Some.ensures.lookup.3.0 c.in-Some.ensures.lookup.1 passed env))
    (c.each.ensures.taken kept seeks sought)

pub each-returns-clause-taken : goal.each-returns-clause-taken
each-returns-clause-taken g t c = λ kept seeks sought.
    let at = c.args.at.now in
    let l = c.in-Some.l.now in
    let k = c.args.k in
    let env = env_of c.args.env.now in
    let whole : ℕ = takings_left at kept k env in
    let bound_to : is_F l.range.kind ≡ true = search rules in
    let end = c.in_ok-way.ensures.end in
    let over : c.in_ok-way.way.end ≤ c.loop-i.i = search rules in
    let there : at_level c.args.level whole ≡ whole = c.is_no.ensures.there whole ∙ ap (λ (b : Bool). cond b 0 whole) c.if-is_no.false in
    subst (λ (n : ℕ). Between 0 n c.args.tally.now.taken c.loop-i.tally.taken) (sym there)
    (all-took (row_takings at kept k l.range env) c.rows-rows.result.now (family at l.range.over env) c.loop-i.i (asked_takings_at at kept l.range.over env) whole
    c.args.tally.now.taken c.rows_under.new.tally.taken c.loop-i.tally.taken (omega (arith, end, over))
    (subst (λ (b : Bag). Alike b (family at l.range.over env)) (sym c.rows-rows.ensures) c.in_ok-source.ensures.rows)
    (takings-bound at c.requires.planned kept seeks k l c.in-Some.ensures.lookup.3.0 c.in-Some.ensures.lookup.1 bound_to env)
    (c.in_ok-source.ensures.taken kept seeks) (c.loop-i.invariant.taken kept seeks sought))

pub each-returns-in_default-clause-taken : goal.each-returns-in_default-clause-taken
each-returns-in_default-clause-taken g t c = λ kept seeks sought.
    let at = c.args.at.now in
    let env = env_of c.args.env.now in
    let whole : ℕ = takings_left at kept c.args.k env in
    let past : length at.loops.now ≤ c.args.k = search rules in
    let there : at_level c.args.level whole ≡ whole = c.is_no.ensures.there whole ∙ ap (λ (b : Bool). cond b 0 whole) c.if-is_no.false in
    let under : under_rows (drop c.args.k at.node.now.quants) at.node.now.quants (family at) (asked_takings_at at kept) env ≡ under_others at.node.now.quants (asked_takings_at at kept) env =
    ap (λ (rs : List OwnedQuant). under_rows rs at.node.now.quants (family at) (asked_takings_at at kept) env) (past-all at c.requires.planned c.args.k past) in
    on_ok_weaker c.add_head.result (λ h. subst (λ (n : ℕ). Between 0 n c.args.tally.now.taken c.add_head.new.tally.taken) (sym there) (omega (arith, h.0), omega (arith, h.1, under))) (c.add_head.ensures.taken kept seeks)

pub add_head-returns-clause-taken : goal.add_head-returns-clause-taken
add_head-returns-clause-taken g t c = λ kept seeks.
    on_ok_weaker c.add_given.result
    (λ h. subst (λ (rs : List OwnedQuant). Between 0 (under_others rs (asked_takings_at c.args.at.now kept) (env_of c.args.env.now)) c.args.tally.now.taken c.subs.new.tally.taken) c.requires.planned.ranged (c.in_ok-subs.ensures.taken kept seeks))
    c.add_given.ensures

pub rows_under-returns-in-Open-clause-taken : goal.rows_under-returns-in-Open-clause-taken
rows_under-returns-in-Open-clause-taken g t c = λ kept seeks.
    let at = c.args.at.now in
    let anew : IsOpen (tables_of at) at.run.now.memo.now at.below.now c.args.l.now.range.over c.in-Open.node.now c.in-Open.behind.now =
    subst (λ (u : Under). Stands (tables_of at) at.run.now.memo.now at.below.now c.args.l.now.range.over u) c.in-Open.is c.requires.stands in
    let e = anew.takes kept seeks.keeps (env_of c.args.env.now) in
    of_part c.made.result c.evaluated.result _ _ _ c.made.ensures
    (c.evaluated.ensures.taken kept (record { by_keys = seeks.by_keys; keeps = (anew.keeps kept seeks.keeps).0; ordered = anew.ordered seeks.ordered.2; planned = anew.seeks kept at.run.now.plans.now seeks.planned }))
    (λ s bag h took. (omega (arith, took.0), omega (arith, took.1, e)))

pub sub_under-returns-then-is_open-clause-taken : goal.sub_under-returns-then-is_open-clause-taken
sub_under-returns-then-is_open-clause-taken g t c = λ kept seeks.
    of_part c.unindexed.result c.rows_under.result _ _ _ c.unindexed.ensures (c.rows_under.ensures.taken kept seeks) (λ s source e h. h)

pub sub_under-returns-clause-taken : goal.sub_under-returns-clause-taken
sub_under-returns-clause-taken g t c = λ kept seeks. (omega arith, omega arith)

pub subs-returns-clause-taken : goal.subs-returns-clause-taken
subs-returns-clause-taken g t c = λ kept seeks.
    let at = c.args.at.now in
    let rs = ranges at.loops.now in
    subst (λ (xs : List OwnedQuant). Between 0 (under_others xs (asked_takings_at at kept) (env_of c.args.env.now)) c.args.tally.now.taken c.loop-i.tally.taken)
    (take_all c.loop-i.i rs (range-past at.loops.now c.loop-i.i c.loop-i-test.false)) (c.loop-i.invariant.taken kept seeks)
