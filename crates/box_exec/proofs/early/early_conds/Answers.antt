use Rattle.std.proofs.Common.{ℕ, ◌≡◌, ◌+◌, ◌++◌, ◌∙◌, List, All, ap, drop, false, filter, map, not, rules, subst, sym, true}
use Rattle.list_laws.specs.Lists.{In}
use Rattle.qgm_terms.specs.Terms.{Cond}
use Rattle.qgm_terms.specs.Shown.{cond, conds}
use Rattle.box_exec.specs.Asked.{placed_early, shown_early}
use Rattle.box_exec.specs.Early.{IsEarly, names_any}
use Rattle.box_exec.specs.declared.early.Early.{Early}
use Rattle.box_exec.proofs.Asking.{early-more, named-more}
use Rattle.box_exec.proofs.Rejections.{all-more, in-map-at}
use Rattle.box_exec.proofs.early.early_conds.Goals.{then-not-names_any+in_ok-push, else-not-names_any}
use Rattle.box_exec.proofs.early.early_conds.Goals as goal

pub loop-c-preserved : goal.loop-c-preserved
loop-c-preserved c =
    let node = c.args.node.now in
    let rs = c.args.ranges.now in
    let cs = c.as_slice-c-items.result.now in
    let i = c.loop-c.c-index in
    let d = c.c-item.result in
    let named = λ (x : Cond). names_any x node.quants in
    let whole = map (placed_early rs) (filter (λ x. not (named x)) (conds cs)) in
    let early = λ (e : Early). IsEarly node rs e in
    let stands : In (cond d) node.parts.conds.items =
    subst (λ (cs : List Cond). In (cond d) cs) c.as_slice-c-items.ensures (in-map-at cond cs i d c.loop-c-test.true c.c-item.is) in
    elim c.if-not-names_any.branch [
      | then-not-names_any+in_ok-push w ↦
          let unnamed : names_any (cond d) node.quants ≡ false = search rules in
          let put : w.push.new.self.items ≡ c.if-not-names_any.made.items = search rules in
          record {
            early = subst (All early) put
                (all-more early c.loop-c.made.items w.push.new.self.items w.in_ok-push.ensures.items c.loop-c.invariant.early (record { stands = stands; unnamed = unnamed; unread = w.place_from-place.ensures.unread }));
            exact = subst (λ (es : List Early). map shown_early es ++ map (placed_early rs) (filter (λ x. not (named x)) (conds (drop (i + 1) cs))) ≡ whole) (sym w.in_ok-push.ensures.items ∙ put)
                (early-more named rs cs i d c.loop-c.made.items whole c.loop-c-test.true c.c-item.is _ unnamed (ap (λ (k : ℕ). (k, cond d)) w.place_from-place.ensures.exact) c.loop-c.invariant.exact);
          }
      | else-not-names_any w ↦
          let named-here : names_any (cond d) node.quants ≡ true = search rules in
          let same : c.loop-c.made.items ≡ c.if-not-names_any.made.items = search rules in
          record {
            early = subst (All early) same c.loop-c.invariant.early;
            exact = subst (λ (es : List Early). map shown_early es ++ map (placed_early rs) (filter (λ x. not (named x)) (conds (drop (i + 1) cs))) ≡ whole) same
                (named-more named rs cs i d c.loop-c.made.items whole c.loop-c-test.true c.c-item.is named-here c.loop-c.invariant.exact);
          }
    ]
