use Rattle.std.proofs.Common.{ap, arith}
use Rattle.std.proofs.lemmas.Grind.{common_steps}
use Rattle.std.proofs.lemmas.Result.{on_ok_weaker}
use Rattle.sql_meaning.specs.ResolvedShown as shown
use Rattle.qgm_terms.specs.Shown.{cond}
use Rattle.qgm_build_terms.specs.Site.{sources_at}
use Rattle.qgm_build_terms.specs.Written.{frame_of, map_of, slots_of}
use Rattle.qgm_build_terms.proofs.Afters.{after_append}
use Rattle.qgm_build_terms.proofs.Onning.{joined_read}
use Rattle.qgm_build_terms.proofs.Steps.{appended}
use Rattle.qgm_build_terms.proofs.ons.+on_conds.Goals as goal

pub returns-in_ok-c-in-Joined-clause-conds : goal.returns-in_ok-c-in-Joined-clause-conds
returns-in_ok-c-in-Joined-clause-conds h c =
    rw c.in-Joined.is (on_ok_weaker c.add_boxed.result (λ e. joined_read (sources_at c.args.g.now) (map_of c.args.outer.now) (shown.from c.in-Joined.a.value) (shown.from c.in-Joined.b.value)
    (shown.from c.deref-in-Joined.result.now) (shown.from c.deref-in-Joined-2.result.now) (shown.from c.deref-in-Joined-3.result.now) (shown.from c.deref-in-Joined-4.result.now) (shown.test c.in-Joined.p.value) (shown.test c.deref-in-Joined-6.result.now)
    c.args.os.now.rest.now c.on_conds-in-Joined.new.os.rest.now (slots_of c.args.s.now) (slots_of c.on_conds-in-Joined.new.s) (slots_of c.on_conds-in-Joined-2.new.s)
    (frame_of c.in_ok-seen-in-Joined.seen.items) (frame_of c.deref-in-Joined-5.result.now) c.args.out.now.items c.on_conds-in-Joined.new.out.items c.on_conds-in-Joined-2.new.out.items c.add_boxed.new.out.items (cond c.in_ok-c-in-Joined.c.value)
    (ap shown.from c.deref-in-Joined.ensures) (ap shown.from c.deref-in-Joined-2.ensures) (ap shown.from c.deref-in-Joined-3.ensures) (ap shown.from c.deref-in-Joined-4.ensures) (ap shown.test c.deref-in-Joined-6.ensures) (ap frame_of c.deref-in-Joined-5.ensures.value)
    c.in_ok-on_conds-in-Joined.ensures.conds c.in_ok-on_conds-in-Joined.ensures.slots c.in_ok-on_conds-in-Joined.ensures.past c.in_ok-on_conds-in-Joined-2.ensures.conds c.in_ok-on_conds-in-Joined-2.ensures.slots
    c.in_ok-seen-in-Joined.ensures c.in_ok-c-in-Joined.ensures.cond e) c.add_boxed.ensures.items)

pub returns-in_ok-c-in-Joined-clause-slots : goal.returns-in_ok-c-in-Joined-clause-slots
returns-in_ok-c-in-Joined-clause-slots h c = grind (arith, common_steps, after_append, appended)

pub returns-in_ok-on_conds-in-Crossed-clause-slots : goal.returns-in_ok-on_conds-in-Crossed-clause-slots
returns-in_ok-on_conds-in-Crossed-clause-slots h c = grind (arith, common_steps, after_append, appended)

pub returns-in_ok-on_conds-in-Crossed-clause-past : goal.returns-in_ok-on_conds-in-Crossed-clause-past
returns-in_ok-on_conds-in-Crossed-clause-past t c = grind (arith, common_steps)

pub returns-in_ok-c-in-Joined-clause-spare : goal.returns-in_ok-c-in-Joined-clause-spare
returns-in_ok-c-in-Joined-clause-spare t c = grind (arith, common_steps)

pub returns-in_ok-on_conds-in-Crossed-clause-spare : goal.returns-in_ok-on_conds-in-Crossed-clause-spare
returns-in_ok-on_conds-in-Crossed-clause-spare t c = grind (arith, common_steps)

pub returns-in_ok-on_conds-in-Crossed-clause-conds : goal.returns-in_ok-on_conds-in-Crossed-clause-conds
returns-in_ok-on_conds-in-Crossed-clause-conds t c = grind (arith, common_steps)

pub returns-in-Named-clause-past : goal.returns-in-Named-clause-past
returns-in-Named-clause-past t c = grind (arith, common_steps)

pub returns-in-Named-clause-conds : goal.returns-in-Named-clause-conds
returns-in-Named-clause-conds t c = grind (arith, common_steps)

pub returns-in-Named-clause-slots : goal.returns-in-Named-clause-slots
returns-in-Named-clause-slots t c = grind (arith, common_steps)

pub returns-in_ok-c-in-Joined-clause-past : goal.returns-in_ok-c-in-Joined-clause-past
returns-in_ok-c-in-Joined-clause-past t c = grind (arith, common_steps)
