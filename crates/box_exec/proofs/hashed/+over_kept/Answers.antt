use Rattle.std.proofs.Common.{ℕ, Bool, ap, ◌≡◌, ◌≤◌, ◌<◌, ◌+◌, ◌++◌, ◌∙◌, List, append-nil, arith, false, length, refl, rules, subst, sym, take, true}
use Rattle.std.specs.Result.{OnOk}
use Rattle.row_bag.specs.Bags.{Alike, bind, keep}
use Rattle.row_bag.specs.RowRefs.{lent}
use Rattle.row_bag.proofs.Agreement.{alike-same}
use Rattle.row_bag.proofs.Places.{read-at}
use Rattle.sql_value.specs.declared.cell.Cell.{Cell}
use Rattle.sql_value.specs.declared.level.Level.{Level}
use Rattle.qgm_core.specs.Kinds.{is_F}
use Rattle.qgm_meaning.specs.Values.{Bag, bound}
use Rattle.box_exec.specs.Bound.{env_of}
use Rattle.box_exec.specs.Early.{rejects}
use Rattle.row_index.specs.Ways.{StandsFrom, place}
use Rattle.row_index.proofs.Passed.{seen-again, seen-low}
use Rattle.sql_value.specs.Level.{least}
use Rattle.box_exec.proofs.hashed.+over_kept.Goals.{then-branch-2+in_ok-over_kept, else-branch-2}
use Rattle.box_exec.specs.Plans.{family, left_at, ranges, tables_of, ways_left}
use Rattle.box_exec.proofs.Hashing.{kept-at, last-given, led}
use Rattle.box_exec.proofs.Lookups.{ended, stepped}
use Rattle.box_exec.proofs.Loops.{bind-added, each-more}
use Rattle.box_exec.proofs.Quantifiers.{left-bound, left-over, level-none, range-at, range-within, stood}
use Rattle.box_exec.proofs.Evaluations.{all-took, each_row, rows-past, rows-took}
use Rattle.box_exec.proofs.Seeking.{row-counts, row_ways, taken-here, there-all, ways-bound, ways-over}
use Rattle.box_exec.specs.Costs.{Between, at_level}
use Rattle.box_exec.specs.Early.{is_none, is_open}
use Rattle.box_exec.specs.declared.under.Loop.{Loop}
use Rattle.box_exec.proofs.Rejections.{none-no, nothing-added, rejects-all}
use Rattle.box_exec.proofs.hashed.+over_kept.Goals as goal

pub returns-then-is_none-clause-rows : goal.returns-then-is_none-clause-rows
returns-then-is_none-clause-rows t c = level-none c.args.level c.args.out.now (left_at c.args.whole.now.at.now c.args.place (env_of c.args.env.now)) (none-no c.args.level (sym c.is_none.ensures ∙ c.if-is_none.true))

pub returns-then-branch-clause-rows : goal.returns-then-branch-clause-rows
returns-then-branch-clause-rows t c =
    let at = c.args.whole.now.at.now in
    let env = env_of c.args.env.now in
    nothing-added c.args.level c.args.out.now (left_at at c.args.place env) (rejects-all at c.requires.bound c.args.place env (sym c.in_ok-rejected.ensures ∙ c.if-branch.true))

pub returns-in_default-clause-rows : goal.returns-in_default-clause-rows
returns-in_default-clause-rows t c =
    let w = c.args.whole.now in
    let past : length w.at.now.loops.now ≤ c.args.place = search rules in
    subst (λ (b : Bag). OnOk c.add_given.result (Alike c.add_given.new.out (c.args.out.now ++ keep c.args.level b))) (last-given w c.requires c.args.place past (env_of c.args.env.now)) c.add_given.ensures

pub returns-then-not-is_f-clause-rows : goal.returns-then-not-is_f-clause-rows
returns-then-not-is_f-clause-rows t c =
    let at = c.args.whole.now.at.now in
    let l = c.in-Some.l.now in
    let env = env_of c.args.env.now in
    let passed : is_F l.range.kind ≡ false = search rules in
    let here = stood at c.requires.bound c.args.place l c.in-Some.ensures.lookup.3.0 c.in-Some.ensures.lookup.1 in
    subst (λ (b : Bag). OnOk c.over_kept.result (Alike c.over_kept.new.out (c.args.out.now ++ keep c.args.level b)))
    (sym (left-over (tables_of at) at.node.now at.below.now (ranges at.loops.now) c.args.place l.range env here.0 passed)) c.over_kept.ensures.rows

pub loop-i-init : goal.loop-i-init
loop-i-init t c =
    let at = c.args.whole.now.at.now in
    let l = c.in-Some.l.now in
    let env = env_of c.args.env.now in
    let rows = c.kept_rows-rows.result.now in
    let way = c.in_ok-way.way in
    let cursor = c.first_of-c.result in
    let f = λ (cells : List Cell). left_at at (c.args.place + 1) (bound l.range.id cells env) in
    let leads = led at c.args.place l rows env way c.kept_rows-rows.ensures c.in_ok-way.ensures in
    record {
      rows = subst (λ (n : ℕ). Alike c.args.out.now (c.args.out.now ++ keep c.args.level (bind (take n rows) f))) (sym c.place-i.ensures)
          (stepped (rejects at.early.now (c.args.place + 1)) l.range.id rows env way leads f (λ cells h. rejects-all at c.requires.bound (c.args.place + 1) (bound l.range.id cells env) h)
          c.args.level c.args.out.now c.args.out.now 0 cursor (omega arith) c.first_of-c.ensures (alike-same (sym (append-nil c.args.out.now))));
      took = λ closed sought. (omega arith, omega arith);
      stands = seen-again way 0 cursor leads.spans (omega arith) c.first_of-c.ensures;
      at = c.place-i.ensures;
    }

pub loop-i-preserved : goal.loop-i-preserved
loop-i-preserved t c =
    let at = c.args.whole.now.at.now in
    let l = c.in-Some.l.now in
    let env = env_of c.args.env.now in
    let place-k = c.args.place in
    let rows = c.kept_rows-rows.result.now in
    let way = c.in_ok-way.way in
    let i = c.loop-i.i in
    let r = lent c.at-row.result in
    let is-at = read-at rows i r c.at-row.ensures in
    let cursor = c.next_of-c.result in
    let level = c.args.level in
    let f = λ (cells : List Cell). left_at at (place-k + 1) (bound l.range.id cells env) in
    let leads = led at place-k l rows env way c.kept_rows-rows.ensures c.in_ok-way.ensures in
    let end = leads.end in
    let test = c.loop-i-test.true in
    let inside : i < length rows = omega (arith, end, test) in
    let next : i + 1 ≤ way.end = omega (arith, test) in
    let stands : StandsFrom way (i + 1) cursor = subst (λ (n : ℕ). StandsFrom way (n + 1) cursor) (sym c.loop-i.invariant.at) c.next_of-c.ensures in
    let low : i + 1 ≤ place cursor = seen-low way (i + 1) cursor leads.spans next stands in
    let rejected = λ (cells : List Cell) (h : rejects at.early.now (place-k + 1) (bound l.range.id cells env) ≡ true). rejects-all at c.requires.bound (place-k + 1) (bound l.range.id cells env) h in
    let cost = λ (closed : ℕ → Bool). row_ways closed at.node.now (ranges at.loops.now) (family at) place-k l.range env in
    elim c.if-branch-2.branch [
      | then-branch-2+in_ok-over_kept w ↦
          let new = w.over_kept-then-branch-2.new.out in
          let added : Alike new (c.loop-i.out ++ keep w.least-level.result (f r.cells)) = w.in_ok-over_kept.ensures.rows in
          let done = each-more level rows i r f c.args.out.now c.loop-i.out new inside is-at c.loop-i.invariant.rows
          (subst (λ (x : Level). Alike new (c.loop-i.out ++ keep x (f r.cells))) w.least-level.ensures added) in
          let put : new ≡ c.if-branch-2.out = search rules in
          let put-taken : w.over_kept-then-branch-2.new.taken ≡ c.if-branch-2.taken = search rules in
          record {
            rows = subst (λ (o : Bag). Alike o (c.args.out.now ++ keep level (bind (take c.place-i-in-loop-i.result rows) f))) put
                (subst (λ (n : ℕ). Alike new (c.args.out.now ++ keep level (bind (take n rows) f))) (sym c.place-i-in-loop-i.ensures)
                (stepped (rejects at.early.now (place-k + 1)) l.range.id rows env way leads f rejected level c.args.out.now new (i + 1) cursor next stands done));
            took = λ closed sought.
                let yes : c.in_ok-is_taken.field-0 ≡ true = search rules in
                let shut : is_open l.under ≡ false = subst (λ (x : Loop). is_open x.under ≡ false) (sym c.in-Some.ensures.lookup.1) (c.requires.kept place-k l c.in-Some.ensures.lookup.3.0) in
                let found = sym (c.in_ok-is_taken.ensures.taken shut) ∙ yes in
                let within = range-within at.loops.now place-k c.in-Some.ensures.lookup.3.0 in
                let here = range-at at.loops.now place-k l c.in-Some.ensures.lookup.3.0 c.in-Some.ensures.lookup.1 in
                let bound_to : is_F l.range.kind ≡ true = search rules in
                let is = taken-here closed at.node.now (ranges at.loops.now) (family at) place-k l.range within here at.keyed.now env r.cells sought bound_to found in
                let counts : Between 0 (at_level w.least-level.result (cost closed r.cells)) c.loop-i.taken w.over_kept-then-branch-2.new.taken =
                row-counts closed at.node.now (ranges at.loops.now) (family at) place-k l.range within here w.least-level.result env r.cells c.loop-i.taken w.take.new.taken w.over_kept-then-branch-2.new.taken is w.take.ensures.took (w.in_ok-over_kept.ensures.took closed sought) in
                subst (λ (n : ℕ). Between 0 (each_row (cost closed) (take n rows)) c.args.taken.now c.if-branch-2.taken) (sym c.place-i-in-loop-i.ensures)
                (subst (λ (u : ℕ). Between 0 (each_row (cost closed) (take (place cursor) rows)) c.args.taken.now u) put-taken
                (rows-past (cost closed) rows (i + 1) (place cursor) c.args.taken.now w.over_kept-then-branch-2.new.taken low
                (rows-took (cost closed) rows i r level (cost closed r.cells) c.args.taken.now c.loop-i.taken w.over_kept-then-branch-2.new.taken inside is-at refl (c.loop-i.invariant.took closed sought)
                (subst (λ (x : Level). Between 0 (at_level x (cost closed r.cells)) c.loop-i.taken w.over_kept-then-branch-2.new.taken) w.least-level.ensures counts))));
            stands = seen-again way (i + 1) cursor leads.spans next stands;
            at = c.place-i-in-loop-i.ensures;
          }
      | else-branch-2 w ↦
          let missed : c.in_ok-is_taken.field-0 ≡ false = search rules in
          let gone = rejected r.cells (c.in_ok-is_taken.ensures.passed missed) in
          let done = each-more level rows i r f c.args.out.now c.loop-i.out c.loop-i.out inside is-at c.loop-i.invariant.rows (nothing-added (least level r.level) c.loop-i.out (f r.cells) gone) in
          let put : c.loop-i.out ≡ c.if-branch-2.out = search rules in
          let put-taken : c.loop-i.taken ≡ c.if-branch-2.taken = search rules in
          record {
            rows = subst (λ (o : Bag). Alike o (c.args.out.now ++ keep level (bind (take c.place-i-in-loop-i.result rows) f))) put
                (subst (λ (n : ℕ). Alike c.loop-i.out (c.args.out.now ++ keep level (bind (take n rows) f))) (sym c.place-i-in-loop-i.ensures)
                (stepped (rejects at.early.now (place-k + 1)) l.range.id rows env way leads f rejected level c.args.out.now c.loop-i.out (i + 1) cursor next stands done));
            took = λ closed sought.
                subst (λ (n : ℕ). Between 0 (each_row (cost closed) (take n rows)) c.args.taken.now c.if-branch-2.taken) (sym c.place-i-in-loop-i.ensures)
                (subst (λ (u : ℕ). Between 0 (each_row (cost closed) (take (place cursor) rows)) c.args.taken.now u) put-taken
                (rows-past (cost closed) rows i (place cursor) c.args.taken.now c.loop-i.taken (omega (arith, low)) (c.loop-i.invariant.took closed sought)));
            stands = seen-again way (i + 1) cursor leads.spans next stands;
            at = c.place-i-in-loop-i.ensures;
          }
    ]

pub next_of-c-requires : goal.next_of-c-requires
next_of-c-requires t c =
    let at = c.loop-i.invariant.at in
    let test = c.loop-i-test.true in
    record {
      spans = c.in_ok-way.ensures.spans;
      stands = c.loop-i.invariant.stands;
      within = omega (arith, at, test);
    }

pub returns-clause-rows : goal.returns-clause-rows
returns-clause-rows t c =
    let at = c.args.whole.now.at.now in
    let l = c.in-Some.l.now in
    let env = env_of c.args.env.now in
    let place = c.args.place in
    let rows = c.kept_rows-rows.result.now in
    let way = c.in_ok-way.way in
    let f = λ (cells : List Cell). left_at at (place + 1) (bound l.range.id cells env) in
    let leads = led at place l rows env way c.kept_rows-rows.ensures c.in_ok-way.ensures in
    let over : way.end ≤ c.loop-i.i = search rules in
    let bound_to : is_F l.range.kind ≡ true = search rules in
    let here = stood at c.requires.bound place l c.in-Some.ensures.lookup.3.0 c.in-Some.ensures.lookup.1 in
    let all = ended (rejects at.early.now (place + 1)) l.range.id rows env way leads f (λ cells h. rejects-all at c.requires.bound (place + 1) (bound l.range.id cells env) h)
    c.args.level c.args.out.now c.loop-i.out c.loop-i.i over c.loop-i.invariant.rows in
    subst (λ (b : Bag). Alike c.loop-i.out (c.args.out.now ++ keep c.args.level b)) (sym (left-bound (tables_of at) at.node.now at.below.now (ranges at.loops.now) place l.range env here.0 bound_to here.1))
    (bind-added c.args.level f rows (family at l.range.over env) c.args.out.now c.loop-i.out
    (subst (λ (b : Bag). Alike b (family at l.range.over env)) (sym c.kept_rows-rows.ensures) (kept-at at c.requires.bound c.requires.kept place l c.in-Some.ensures.lookup.3.0 c.in-Some.ensures.lookup.1 env)) all)

pub returns-then-not-is_f-clause-took : goal.returns-then-not-is_f-clause-took
returns-then-not-is_f-clause-took t c = λ closed sought.
    let at = c.args.whole.now.at.now in
    let l = c.in-Some.l.now in
    let env = env_of c.args.env.now in
    let passed : is_F l.range.kind ≡ false = search rules in
    let e = ways-over closed at.node.now (ranges at.loops.now) (family at) c.args.place l.range (range-within at.loops.now c.args.place c.in-Some.ensures.lookup.3.0) (range-at at.loops.now c.args.place l c.in-Some.ensures.lookup.3.0 c.in-Some.ensures.lookup.1) passed env in
    subst (λ (n : ℕ). OnOk c.over_kept.result (Between 0 (at_level c.args.level n) c.args.taken.now c.over_kept.new.taken)) (sym e) (c.over_kept.ensures.took closed sought)

pub returns-clause-took : goal.returns-clause-took
returns-clause-took t c = λ closed sought.
    let at = c.args.whole.now.at.now in
    let l = c.in-Some.l.now in
    let env = env_of c.args.env.now in
    let place = c.args.place in
    let rows = c.kept_rows-rows.result.now in
    let end = c.in_ok-way.ensures.end in
    let over : c.in_ok-way.way.end ≤ c.loop-i.i = search rules in
    let bound_to : is_F l.range.kind ≡ true = search rules in
    let some : is_none c.args.level ≡ false = sym c.is_none.ensures ∙ c.if-is_none.false in
    let whole : ℕ = ways_left at closed place env in
    let e = ways-bound closed at.node.now (ranges at.loops.now) (family at) place l.range (range-within at.loops.now place c.in-Some.ensures.lookup.3.0) (range-at at.loops.now place l c.in-Some.ensures.lookup.3.0 c.in-Some.ensures.lookup.1) bound_to env in
    let kept = ap (λ (rs : Bag). length rs) c.kept_rows-rows.ensures in
    subst (λ (n : ℕ). Between 0 n c.args.taken.now c.loop-i.taken) (sym (there-all c.args.level whole some))
    (all-took (row_ways closed at.node.now (ranges at.loops.now) (family at) place l.range env) rows (family at l.range.over env) c.loop-i.i 0 whole c.args.taken.now c.args.taken.now c.loop-i.taken (omega (arith, end, over, kept))
    (subst (λ (b : Bag). Alike b (family at l.range.over env)) (sym c.kept_rows-rows.ensures) (kept-at at c.requires.bound c.requires.kept place l c.in-Some.ensures.lookup.3.0 c.in-Some.ensures.lookup.1 env))
    (let all : ℕ = each_row (row_ways closed at.node.now (ranges at.loops.now) (family at) place l.range env) (family at l.range.over env) in omega (arith, e)) (omega arith, omega arith) (c.loop-i.invariant.took closed sought))
