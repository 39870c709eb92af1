use Rattle.std.proofs.Common.{◌<◌, All, List, arith, length, subst}
use Rattle.std.proofs.lemmas.Grind.{common_steps}
use Rattle.box_exec.specs.Asked.{AllAsked, AreEarly}
use Rattle.box_exec.specs.Sought.{AllSought}
use Rattle.box_exec.proofs.Asking.{asked-sought}
use Rattle.box_exec.proofs.Seeking.{keys-either, keys-some, seeks-of}
use Rattle.qgm_core.specs.declared.owned.OwnedQuant.{OwnedQuant}
use Rattle.box_exec.specs.Early.{IsEarly}
use Rattle.box_exec.specs.Lasting.{AllKeyed, rows_stored}
use Rattle.box_exec.proofs.Lasting.{idle-of, indexed-of, none-planned, rights-of}
use Rattle.box_exec.specs.declared.early.Early.{Early}
use Rattle.box_exec.proofs.plan.plan_of.Goals as goal

pub returns-then-not-is_empty-clause-fits : goal.returns-then-not-is_empty-clause-fits
returns-then-not-is_empty-clause-fits c =
    let n = c.args.node.now in
    record {
      text = none-planned n n.quants (rows_stored c.args.run.now.memo.now c.args.below.now) c.new.result.items c.new-then-not-is_empty.result.items c.new.ensures.items c.new-then-not-is_empty.ensures.items;
      orders = c.in_ok-orders.ensures.orders;
      idle = idle-of n.quants (rows_stored c.args.run.now.memo.now c.args.below.now) c.args.over.now c.in_ok-idle.idle.items c.requires.ranged c.requires.kept c.in_ok-idle.ensures;
      right = rights-of n (rows_stored c.args.run.now.memo.now c.args.below.now) c.args.over.now c.in_ok-right.right.items c.requires.ranged c.requires.kept c.in_ok-right.ensures;
    }

pub returns-clause-fits : goal.returns-clause-fits
returns-clause-fits c =
    let n = c.args.node.now in
    let es = c.in_ok-early.early.items in
    let hs = c.in_ok-keyed.keyed.items in
    record {
      text = record {
        early = subst (λ (rs : List OwnedQuant). All (λ (e : Early). IsEarly n rs e) es) c.as_slice.ensures c.in_ok-early.ensures.early;
        indexed = indexed-of n.quants (rows_stored c.args.run.now.memo.now c.args.below.now) c.args.over.now es hs c.requires.ranged c.requires.kept
            (subst (λ (xs : List Early). AllKeyed xs c.args.over.now hs) c.deref.ensures.value c.in_ok-keyed.ensures.keyed);
      };
      orders = c.in_ok-orders.ensures.orders;
      idle = idle-of n.quants (rows_stored c.args.run.now.memo.now c.args.below.now) c.args.over.now c.in_ok-idle.idle.items c.requires.ranged c.requires.kept c.in_ok-idle.ensures;
      right = rights-of n (rows_stored c.args.run.now.memo.now c.args.below.now) c.args.over.now c.in_ok-right.right.items c.requires.ranged c.requires.kept c.in_ok-right.ensures;
    }

pub returns-then-not-is_empty-clause-seeks : goal.returns-then-not-is_empty-clause-seeks
returns-then-not-is_empty-clause-seeks c = λ kept indexed keeps ordered opens select.
    let n = c.args.node.now in
    let os = c.in_ok-orders.orders.items in
    let ks = c.new-then-not-is_empty.result.items in
    let some : 0 < length os = grind (arith, common_steps) in
    seeks-of n c.args.run.now.memo.now c.args.below.now kept c.args.over.now ks os c.requires.ranged keeps ordered opens c.in_ok-orders.ensures.text (c.in_ok-orders.ensures.turn indexed select) (keys-some n ks os some (c.in_ok-orders.ensures.keys indexed select))

pub returns-clause-seeks : goal.returns-clause-seeks
returns-clause-seeks c = λ kept indexed keeps ordered opens select.
    let n = c.args.node.now in
    let os = c.in_ok-orders.orders.items in
    let es = c.in_ok-early.early.items in
    let ks = c.in_ok-keyed.keyed.items in
    let text : AllSought n n.quants ks =
    asked-sought n n.quants es c.args.over.now ks c.requires.ranged (subst (λ (rs : List OwnedQuant). AreEarly n rs es) c.as_slice.ensures (c.in_ok-early.ensures.exact select))
    (subst (λ (xs : List Early). AllAsked xs c.args.over.now ks) c.deref.ensures.value (c.in_ok-keyed.ensures.asked indexed)) in
    seeks-of n c.args.run.now.memo.now c.args.below.now kept c.args.over.now ks os c.requires.ranged keeps ordered opens c.in_ok-orders.ensures.text (c.in_ok-orders.ensures.turn indexed select) (keys-either n ks os (c.in_ok-orders.ensures.keys indexed select) text)
