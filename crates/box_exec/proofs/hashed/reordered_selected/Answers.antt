use Rattle.std.proofs.Common.{List, ◌≡◌, ◌∙◌, ap, false, not, rules, subst, sym, true}
use Rattle.std.specs.List.{list_any}
use Rattle.std.specs.Prelude.{IfOk}
use Rattle.list_laws.specs.Lists.{In}
use Rattle.list_laws.proofs.Booleans.{clash}
use Rattle.qgm_core.specs.Boxes.{has_box}
use Rattle.box_exec.specs.Costs.{Between}
use Rattle.box_exec.specs.Early.{is_open}
use Rattle.box_exec.specs.Sought.{AllSought}
use Rattle.box_exec.specs.Taken.{ways}
use Rattle.box_exec.specs.declared.under.Loop.{Loop}
use Rattle.box_exec.proofs.Orders.{reordered-in}
use Rattle.box_exec.proofs.Seeking.{all-shut, still-shut}
use Rattle.box_exec.proofs.Tails.{overs-here}
use Rattle.std.proofs.lemmas.Result.{IfOk-weaker}
use Rattle.row_bag.specs.Bags.{Alike}
use Rattle.row_bag.proofs.Agreement.{alike-same, alike-trans}
use Rattle.qgm_core.specs.Kinds.{is_enforce}
use Rattle.qgm_core.specs.declared.owned.OwnedQuant.{OwnedQuant}
use Rattle.qgm_meaning.proofs.Alikes.{once_if-alike}
use Rattle.box_exec.specs.Bound.{env_of}
use Rattle.box_exec.specs.Plans.{family, ranges, tables_of}
use Rattle.box_exec.specs.Ready.{over_left}
use Rattle.box_exec.proofs.Lasting.{bound-by}
use Rattle.box_exec.proofs.Quantifiers.{bound-of}
use Rattle.box_exec.proofs.Reordered.{reordered-alike, reordered-own}
use Rattle.box_exec.proofs.hashed.reordered_selected.Goals as goal

pub bound_in_order-requires-clause-bound : goal.bound_in_order-requires-clause-bound
bound_in_order-requires-clause-bound c = bound-of c.args.at.now c.requires.planned

pub bound_in_order-requires-2-clause-bound : goal.bound_in_order-requires-2-clause-bound
bound_in_order-requires-2-clause-bound c =
    let at = c.args.at.now in
    let order = c.args.order.now in
    let ls = c.in_ok-loops.loops.items in
    let ranged : ranges ls ≡ order.ranges.items = c.in_ok-loops.ensures.ranges ∙ c.deref.ensures.value in
    bound-by _ ls order c.deref-3.ensures.value c.deref-4.ensures.value c.deref-5.ensures.value ranged
    (reordered-own at c.requires.planned ls order.ranges.items ranged c.requires.order.reordered)
    c.in_ok-loops.ensures.stand c.in_ok-loops.ensures.kept c.requires.order.plan

pub returns-clause-rows : goal.returns-clause-rows
returns-clause-rows c =
    let at = c.args.at.now in
    let rs = c.args.order.now.ranges.items in
    let env = env_of c.args.env.now in
    let once = is_enforce at.node.now.parts.distinct in
    let left = λ (xs : List OwnedQuant). over_left (tables_of at) at.node.now at.below.now xs env in
    let made : ranges c.deref-3.result.now ≡ rs = ap ranges c.deref-3.ensures.value ∙ c.in_ok-loops.ensures.ranges ∙ c.deref.ensures.value in
    let same : Alike (left (ranges c.deref-3.result.now)) (left (ranges at.loops.now)) =
    alike-trans (alike-same (ap left made)) (alike-trans (reordered-alike at c.requires.planned c.requires.kept rs c.requires.order.reordered env) (alike-same (sym (ap left c.requires.planned.ranged)))) in
    IfOk-weaker c.bound_in_order-2.result _ _ (λ bag h. alike-trans h (once_if-alike once same)) c.bound_in_order-2.ensures.rows

pub returns-clause-took : goal.returns-clause-took
returns-clause-took c = λ kept seeks sought.
    let at = c.args.at.now in
    let order = c.args.order.now in
    let env = env_of c.args.env.now in
    let made : ranges c.deref-3.result.now ≡ order.ranges.items = ap ranges c.deref-3.ensures.value ∙ c.in_ok-loops.ensures.ranges ∙ c.deref.ensures.value in
    subst (λ (xs : List OwnedQuant). IfOk c.bound_in_order-2.result (λ bag. Between 0 (ways kept at.node.now xs (family at) env) c.args.taken.now c.bound_in_order-2.new.taken)) made
    (c.bound_in_order-2.ensures.took kept (subst (AllSought at.node.now (ranges c.deref-3.result.now)) (sym c.deref-5.ensures.value) (subst (λ (xs : List OwnedQuant). AllSought at.node.now xs order.keyed.items) (sym made) sought)))

pub returns-then-not-all_kept-clause-took : goal.returns-then-not-all_kept-clause-took
returns-then-not-all_kept-clause-took c = λ kept seeks sought.
    let at = c.args.at.now in
    let memo = at.run.now.memo.now in
    let below = at.below.now in
    let ls = c.in_ok-loops.loops.items in
    let rs = c.args.order.now.ranges.items in
    let ranged : ranges ls ≡ rs = c.in_ok-loops.ensures.ranges ∙ c.deref.ensures.value in
    let there : (r : OwnedQuant) → In r (ranges at.loops.now) → has_box below r.over ≡ true = λ r i. overs-here below at.node.now r seeks.ordered (subst (In r) c.requires.planned.ranged i) in
    let among : (r : OwnedQuant) → In r (ranges ls) → In r (ranges at.loops.now) = λ r i. subst (In r) (sym c.requires.planned.ranged) (reordered-in at.node.now.quants rs c.requires.order.reordered r (subst (In r) ranged i)) in
    let shut : list_any (λ (l : Loop). is_open l.under) ls ≡ false = still-shut memo below kept at.loops.now ls seeks.keeps c.requires.planned.opens c.in_ok-loops.ensures.opens there among (all-shut at.loops.now c.requires.kept) in
    let yes : c.all_kept.result ≡ true = c.all_kept.ensures.exact ∙ ap (λ (xs : List Loop). not (list_any (λ (l : Loop). is_open l.under) xs)) c.deref-2.ensures.value ∙ ap not shut in
    let no : c.all_kept.result ≡ false = search rules in
    absurd (clash c.all_kept.result yes no)
