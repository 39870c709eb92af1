use Rattle.std.proofs.Common.{ℕ, Bool, cond, ◌&&◌, ◌≡◌, ◌<◌, ◌+◌, ◌-◌, ◌++◌, ◌∷◌, [], List, Some, length, drop, map, sym, ◌∙◌, ap, subst, arith, rules}
use Rattle.qgm_core.specs.declared.node.Node.{Node}
use Rattle.box_exec.specs.Beyond.{LooksNowhere, beyond, beyond_of, beyonds}
use Rattle.box_exec.specs.Ready.{Entry, Fit, Ready}
use Rattle.list_laws.specs.Lists.{holds}
use Rattle.qgm_meaning.specs.Meaning.{bag_in}
use Rattle.qgm_meaning.specs.Plain.{counted_by}
use Rattle.box_exec.specs.Costs.{Between, Keeps, asked}
use Rattle.box_exec.specs.Kept.{KeptAs, is_nil}
use Rattle.box_exec.proofs.Entries.{beyonds-more, fit-here, keeps-more, kept-here, kept-took, long-more, map-push, ready-more}
use Rattle.box_exec.proofs.Lasting.{plans-first, plans-more}
use Rattle.box_exec.specs.Lasting.{AllPlanned, PlanFits}
use Rattle.box_exec.specs.Taken.{taken_by}
use Rattle.box_exec.specs.Takings.{AllSeek, asked_takings, kept_takings}
use Rattle.box_exec.proofs.Planned.{kept-taken, ordered-here, seek-first, seek-more}
use Rattle.qgm_core.specs.Boxes.{Ordered}
use Rattle.box_exec.proofs.Names.{looks-nowhere}
use Rattle.std.proofs.lemmas.Grind.{common_steps}
use Rattle.box_exec.proofs.memo.memo_of.Goals as goal

pub beyond-requires : goal.beyond-requires
beyond-requires g c =
    let ns = c.args.nodes.now in
    let e : c.boxes.i ≡ c.boxes.i - 1 + 1 = omega (arith, c.boxes-test.true) in
    let below : c.behind-below.result.now ≡ drop c.boxes.i ns = c.behind-below.ensures ∙ ap (λ (k : ℕ). drop k ns) (sym e) in
    ap (map (λ v. v.items)) c.deref-in-boxes.ensures.value ∙ c.boxes.invariant.names ∙ sym (ap beyonds below)

pub entry_if-requires : goal.entry_if-requires
entry_if-requires g c =
    let ns = c.args.nodes.now in
    let n = c.index-nodes-i.result in
    let j = c.boxes.i in
    let i : ℕ = c.boxes.i - 1 in
    let e : j ≡ i + 1 = omega (arith, c.boxes-test.true) in
    let l : i < length ns = omega (arith, c.boxes-test.true, c.boxes.invariant.within) in
    let below : c.behind-below.result.now ≡ drop j ns = c.behind-below.ensures ∙ ap (λ (k : ℕ). drop k ns) (sym e) in
    let fit = fit-here ns i j n e l c.index-nodes-i.is c.requires in
    record {
      ready = subst (λ (m : _). Ready c.args.tables.now m c.behind-below.result.now) (sym c.deref-in-boxes-3.ensures.value) (subst (Ready c.args.tables.now c.boxes.memo.items) (sym below) c.boxes.invariant.ready);
      fit = subst (Fit n) (sym below) fit.0;
      plans = subst (λ (m : _). AllPlanned m c.deref.result.now (n ∷ c.behind-below.result.now)) (sym c.deref-in-boxes-3.ensures.value)
          (subst (λ (ps : _). AllPlanned c.boxes.memo.items ps (n ∷ c.behind-below.result.now)) (sym c.deref.ensures.value)
          (subst (λ (ms : List Node). AllPlanned c.boxes.memo.items c.boxes.plans.items (n ∷ ms)) (sym below) (plans-first c.boxes.memo.items c.boxes.plans.items n (drop j ns) c.boxes.invariant.many c.boxes.invariant.plans)));
      closed = λ k. subst (LooksNowhere n) (sym below)
          (looks-nowhere n (drop j ns) fit.0 fit.1 (sym (c.deref-in-boxes-2.ensures.value ∙ c.in_ok-names.ensures ∙ ap (λ (ms : List Node). beyond_of n (beyond ms)) below) ∙ c.is_kept-keep.ensures.nothing k));
    }

pub plan_if-requires : goal.plan_if-requires
plan_if-requires g c =
    let ns = c.args.nodes.now in
    let e : c.boxes.i ≡ c.boxes.i - 1 + 1 = omega (arith, c.boxes-test.true) in
    let below : c.behind-below.result.now ≡ drop c.boxes.i ns = c.behind-below.ensures ∙ ap (λ (k : ℕ). drop k ns) (sym e) in
    subst (λ (m : _). Ready c.args.tables.now m c.behind-below.result.now) (sym c.deref-in-boxes-4.ensures.value) (subst (Ready c.args.tables.now c.boxes.memo.items) (sym below) c.boxes.invariant.ready)

pub boxes-preserved : goal.boxes-preserved
boxes-preserved g c =
    let ns = c.args.nodes.now in
    let n = c.index-nodes-i.result in
    let j = c.boxes.i in
    let i : ℕ = c.boxes.i - 1 in
    let e : j ≡ i + 1 = omega (arith, c.boxes-test.true) in
    let l : i < length ns = omega (arith, c.boxes-test.true, c.boxes.invariant.within) in
    let below : c.behind-below.result.now ≡ drop j ns = c.behind-below.ensures ∙ ap (λ (k : ℕ). drop k ns) (sym e) in
    let entry : Entry c.args.tables.now n (drop j ns) (Some c.in_ok-rows.rows) = subst (λ (ms : List Node). Entry c.args.tables.now n ms (Some c.in_ok-rows.rows)) below c.in_ok-rows.ensures.rows in
    let put : c.boxes.memo.items ++ c.in_ok-rows.rows ∷ [] ≡ c.push-in-boxes.new.self.items = search rules in
    let flag : (kept : ℕ → Bool) → KeptAs kept c.args.marks.now ns → c.is_kept-keep.result ≡ kept n.id = λ kept how.
    c.is_kept-keep.ensures.kept ∙ ap (λ (xs : List ℕ). is_nil xs && holds n.id c.args.marks.now) (c.deref-in-boxes-2.ensures.value ∙ c.in_ok-names.ensures ∙ ap (λ (ms : List Node). beyond_of n (beyond ms)) below)
    ∙ sym (kept-here kept c.args.marks.now ns i j n e l c.index-nodes-i.is how) in
    let memo-keeps : (kept : ℕ → Bool) → KeptAs kept c.args.marks.now ns → Keeps c.deref-in-boxes-3.result.now kept c.behind-below.result.now = λ kept how.
    subst (λ (m : _). Keeps m kept c.behind-below.result.now) (sym c.deref-in-boxes-3.ensures.value) (subst (Keeps c.boxes.memo.items kept) (sym below) (c.boxes.invariant.keeps kept how)) in
    let fits : PlanFits c.boxes.memo.items n (drop j ns) (Some c.in_ok-plan.plan) =
    subst (λ (m : _). PlanFits m n (drop j ns) (Some c.in_ok-plan.plan)) c.deref-in-boxes-4.ensures.value
    (subst (λ (ms : List Node). PlanFits c.deref-in-boxes-4.result.now n ms (Some c.in_ok-plan.plan)) below c.in_ok-plan.ensures.fits) in
    let put-plan : c.boxes.plans.items ++ c.in_ok-plan.plan ∷ [] ≡ c.push-in-boxes-2.new.self.items = search rules in
    let named : c.boxes.named.items ++ c.in_ok-names.names ∷ [] ≡ c.push.new.self.items = search rules in
    record {
      within = omega (arith, c.boxes.invariant.within);
      ready = subst (λ (m : _). Ready c.args.tables.now m (drop i ns)) put (ready-more c.args.tables.now c.boxes.memo.items c.in_ok-rows.rows ns i j n e l c.index-nodes-i.is c.requires c.boxes.invariant.long entry c.boxes.invariant.ready);
      long = subst (λ (m : _). length m ≡ length (drop i ns)) put (long-more c.boxes.memo.items c.in_ok-rows.rows ns i j n e l c.index-nodes-i.is c.boxes.invariant.long);
      plans = subst (λ (m : _). AllPlanned m c.push-in-boxes-2.new.self.items (drop i ns)) put
          (subst (λ (ps : _). AllPlanned (c.boxes.memo.items ++ c.in_ok-rows.rows ∷ []) ps (drop i ns)) put-plan
          (plans-more c.boxes.memo.items c.in_ok-rows.rows c.boxes.plans.items c.in_ok-plan.plan ns i j n e l c.index-nodes-i.is c.boxes.invariant.long c.boxes.invariant.many fits c.boxes.invariant.plans));
      many = subst (λ (ps : _). length ps ≡ length (drop i ns)) put-plan (long-more c.boxes.plans.items c.in_ok-plan.plan ns i j n e l c.index-nodes-i.is c.boxes.invariant.many);
      names = ap (map (λ v. v.items)) (sym named) ∙ map-push (λ v. v.items) c.boxes.named.items c.in_ok-names.names
          ∙ beyonds-more ns i j n (map (λ v. v.items) c.boxes.named.items) c.in_ok-names.names.items e l c.index-nodes-i.is c.boxes.invariant.names (c.in_ok-names.ensures ∙ ap (λ (ms : List Node). beyond_of n (beyond ms)) below);
      keeps = λ kept how. subst (λ (m : _). Keeps m kept (drop i ns)) put
          (keeps-more c.boxes.memo.items c.in_ok-rows.rows kept ns i j n e l c.index-nodes-i.is c.boxes.invariant.long (c.in_ok-rows.ensures.held ∙ flag kept how) (c.boxes.invariant.keeps kept how));
      took = λ kept how. kept-took c.args.tables.now kept ns i j n e l c.index-nodes-i.is c.is_kept-keep.result (flag kept how) c.args.steps.now c.boxes.steps c.entry_if.new.steps (c.boxes.invariant.took kept how)
          (subst (λ (ms : List Node). Between (cond c.is_kept-keep.result 1 0) (cond c.is_kept-keep.result (counted_by n.parts.kind n (bag_in c.args.tables.now ms) (asked c.args.tables.now kept ms) []) 0) c.boxes.steps c.entry_if.new.steps) below
          (c.in_ok-rows.ensures.took kept (memo-keeps kept how)));
      seeks = λ kept how indexed ordered. subst (λ (ps : _). AllSeek kept ps (drop i ns)) put-plan
          (seek-more kept c.boxes.plans.items c.in_ok-plan.plan ns i j n e l c.index-nodes-i.is c.boxes.invariant.many
          (c.in_ok-plan.ensures.seeks kept indexed (subst (λ (m : _). Keeps m kept c.behind-below.result.now) (sym c.deref-in-boxes-4.ensures.value) (subst (Keeps c.boxes.memo.items kept) (sym below) (c.boxes.invariant.keeps kept how))) (subst (λ (ms : List Node). Ordered (n ∷ ms)) (sym below) (ordered-here ns i j n e l c.index-nodes-i.is ordered)))
          (c.boxes.invariant.seeks kept how indexed ordered));
      taken = λ kept how indexed ordered. kept-taken c.args.tables.now kept ns i j n e l c.index-nodes-i.is c.is_kept-keep.result (flag kept how) c.args.tally.now.taken c.boxes.tally.taken c.entry_if.new.tally.taken (c.boxes.invariant.taken kept how indexed ordered)
          (subst (λ (ms : List Node). Between 0 (cond c.is_kept-keep.result (taken_by kept n.parts.kind n (bag_in c.args.tables.now ms) (asked_takings c.args.tables.now kept ms) []) 0) c.boxes.tally.taken c.entry_if.new.tally.taken) below
          (c.in_ok-rows.ensures.taken kept (record {
            by_keys = indexed;
            keeps = memo-keeps kept how;
            ordered = subst (λ (ms : List Node). Ordered (n ∷ ms)) (sym below) (ordered-here ns i j n e l c.index-nodes-i.is ordered);
            planned = subst (λ (ps : _). AllSeek kept ps (n ∷ c.behind-below.result.now)) (sym c.deref.ensures.value) (subst (λ (ms : List Node). AllSeek kept c.boxes.plans.items (n ∷ ms)) (sym below) (seek-first kept c.boxes.plans.items n (drop j ns) c.boxes.invariant.many (c.boxes.invariant.seeks kept how indexed ordered)));
          })));
      counted = λ start h. c.in_ok-rows.ensures.counted start (c.boxes.invariant.counted start h);
    }

pub returns-clause-keeps : goal.returns-clause-keeps
returns-clause-keeps g c = λ kept how.
    let done : c.boxes.i ≡ 0 = omega (arith, c.boxes-test.false) in
    subst (λ (k : ℕ). Keeps c.boxes.memo.items kept (drop k c.args.nodes.now)) done (c.boxes.invariant.keeps kept how)

pub returns-clause-plans : goal.returns-clause-plans
returns-clause-plans g c = λ n.
    let done : c.boxes.i ≡ 0 = omega (arith, c.boxes-test.false) in
    plans-first c.boxes.memo.items c.boxes.plans.items n c.args.nodes.now (subst (λ (k : ℕ). length c.boxes.plans.items ≡ length (drop k c.args.nodes.now)) done c.boxes.invariant.many)
    (subst (λ (k : ℕ). AllPlanned c.boxes.memo.items c.boxes.plans.items (drop k c.args.nodes.now)) done c.boxes.invariant.plans)

pub boxes-init : goal.boxes-init
boxes-init c = grind (arith, common_steps)

pub returns-clause-took : goal.returns-clause-took
returns-clause-took g c = grind (arith, common_steps)

pub returns-clause-ready : goal.returns-clause-ready
returns-clause-ready g c = grind (arith, common_steps)

pub returns-in_err-names-clause-counted : goal.returns-in_err-names-clause-counted
returns-in_err-names-clause-counted g c = grind (arith, common_steps)

pub returns-clause-counted : goal.returns-clause-counted
returns-clause-counted g c = grind (arith, common_steps)

pub returns-clause-seeks : goal.returns-clause-seeks
returns-clause-seeks g c = λ kept how indexed ordered n.
    let done : c.boxes.i ≡ 0 = omega (arith, c.boxes-test.false) in
    seek-first kept c.boxes.plans.items n c.args.nodes.now (subst (λ (k : ℕ). length c.boxes.plans.items ≡ length (drop k c.args.nodes.now)) done c.boxes.invariant.many)
    (subst (λ (k : ℕ). AllSeek kept c.boxes.plans.items (drop k c.args.nodes.now)) done (c.boxes.invariant.seeks kept how indexed ordered))

pub returns-clause-taken : goal.returns-clause-taken
returns-clause-taken g c = λ kept how indexed ordered.
    let done : c.boxes.i ≡ 0 = omega (arith, c.boxes-test.false) in
    subst (λ (k : ℕ). Between 0 (kept_takings c.args.tables.now kept (drop k c.args.nodes.now)) c.args.tally.now.taken c.boxes.tally.taken) done (c.boxes.invariant.taken kept how indexed ordered)
