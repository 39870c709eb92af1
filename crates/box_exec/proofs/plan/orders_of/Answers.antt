use Rattle.std.proofs.Common.{All, List, subst, sym, ◌∙◌, arith}
use Rattle.qgm_core.specs.declared.owned.OwnedQuant.{OwnedQuant}
use Rattle.box_exec.specs.Early.{IsEarly}
use Rattle.box_exec.specs.Lasting.{AllKeyed, IsOrder, rows_stored}
use Rattle.box_exec.specs.declared.early.Early.{Early}
use Rattle.box_exec.specs.declared.order.Order.{Order}
use Rattle.box_exec.specs.declared.under.Loop.{Loop}
use Rattle.box_exec.specs.Asked.{AllAsked, AreEarly}
use Rattle.box_exec.specs.Sought.{AllSought}
use Rattle.box_exec.proofs.Asking.{asked-sought}
use Rattle.box_exec.proofs.Lasting.{indexed-of}
use Rattle.box_exec.proofs.Rejections.{all-more}
use Rattle.box_exec.proofs.plan.orders_of.Goals as goal

pub returns-clause-orders : goal.returns-clause-orders
returns-clause-orders c =
    let n = c.args.node.now in
    let rows = rows_stored c.args.run.now.memo.now c.args.below.now in
    let rs = c.in_ok-ranges.ranges.items in
    let ls = c.in_ok-loops.loops.items in
    let es = c.in_ok-early.early.items in
    let hs = c.in_ok-keyed.keyed.items in
    all-more (λ (o : Order). IsOrder n rows o) c.new-made.result.items c.push.new.self.items c.in_ok-push.ensures.items
    (subst (All (λ (o : Order). IsOrder n rows o)) (sym c.new-made.ensures.items) (λ k d l. absurd (omega (arith, l))))
    (record {
      reordered = c.in_ok-ranges.ensures.reorders;
      plan = record {
        early = subst (λ (qs : List OwnedQuant). All (λ (e : Early). IsEarly n qs e) es) c.deref-3.ensures.value c.in_ok-early.ensures.early;
        indexed = indexed-of rs rows ls es hs (c.in_ok-loops.ensures.ranges ∙ c.deref-2.ensures.value) c.in_ok-loops.ensures.kept
            (subst (λ (xs : List Early). AllKeyed xs ls hs) c.deref-4.ensures.value (subst (λ (ms : List Loop). AllKeyed c.deref-4.result.now ms hs) c.deref-5.ensures.value c.in_ok-keyed.ensures.keyed));
      };
    })

pub returns-clause-keys : goal.returns-clause-keys
returns-clause-keys c = λ indexed select.
    let n = c.args.node.now in
    let rs = c.in_ok-ranges.ranges.items in
    let ls = c.in_ok-loops.loops.items in
    let es = c.in_ok-early.early.items in
    let ks = c.in_ok-keyed.keyed.items in
    all-more (λ (o : Order). AllSought n o.ranges.items o.keyed.items) c.new-made.result.items c.push.new.self.items c.in_ok-push.ensures.items
    (subst (All (λ (o : Order). AllSought n o.ranges.items o.keyed.items)) (sym c.new-made.ensures.items) (λ k d l. absurd (omega (arith, l))))
    (asked-sought n rs es ls ks (c.in_ok-loops.ensures.ranges ∙ c.deref-2.ensures.value) (subst (λ (qs : List OwnedQuant). AreEarly n qs es) c.deref-3.ensures.value (c.in_ok-early.ensures.exact select))
    (subst (λ (xs : List Early). AllAsked xs ls ks) c.deref-4.ensures.value (subst (λ (ms : List Loop). AllAsked c.deref-4.result.now ms ks) c.deref-5.ensures.value (c.in_ok-keyed.ensures.asked indexed))))
