use Rattle.std.proofs.Common.{◌≡◌, ◌++◌, All, List, not, subst, sym, rules}
use Rattle.std.proofs.lemmas.Result.{IfOk-weaker}
use Rattle.list_laws.specs.Lists.{In}
use Rattle.qgm_terms.specs.Shown.{cond, conds, term}
use Rattle.qgm_terms.specs.Terms.{Cond}
use Rattle.qgm_terms.specs.Terms.{not as negation}
use Rattle.qgm_terms.specs.declared.tree.Gx.{Gx}
use Rattle.std.specs.Prelude.{IfOk}
use Rattle.std.proofs.lemmas.Option.{IfSome_then}
use Rattle.box_exec.specs.Equalities.{AreEither}
use Rattle.box_exec.proofs.Parts.{of_part}
use Rattle.qgm_terms.proofs.Lists as listed
use Rattle.box_exec.specs.Idle.{Idles, parted}
use Rattle.box_exec.specs.declared.key.Key.{Key}
use Rattle.box_exec.proofs.Counts.{all-joined, all-weaker, idles-in, idles-not, parted-false, parted-true, parts-all}
use Rattle.box_exec.proofs.Rejections.{in-map-at}
use Rattle.box_exec.proofs.idle.+idle_keys.Goals as goal

pub idle_parts-loop-p-init : goal.idle_parts-loop-p-init
idle_parts-loop-p-init t c = λ d h. h

pub idle_parts-loop-p-preserved : goal.idle_parts-loop-p-preserved
idle_parts-loop-p-preserved t c = λ d h.
    let holds = c.args.holds in
    let q = c.args.q in
    let ps = conds c.args.list.now in
    let P : Key → Type 0 = λ k. Idles holds q (parted holds d ps) k in
    let p = c.p-item.result in
    let more : List Key = c.in_ok-more.more.items in
    let stands : In (cond p) ps = in-map-at cond c.args.list.now c.loop-p.p-index p c.loop-p-test.true c.p-item.is in
    let new : All P more = all-weaker (λ k. Idles holds q (cond p) k) P more (λ k i. idles-in holds q d (cond p) ps k stands i) c.in_ok-more.ensures in
    let put : c.extend_from_slice.new.self.items ≡ c.loop-p.made.items ++ more = search rules in
    subst (All P) (sym put) (all-joined P c.loop-p.made.items more (c.loop-p.invariant d h) new)

pub idle_keys-returns-in-Compare : goal.idle_keys-returns-in-Compare
idle_keys-returns-in-Compare t c =
    let q = c.args.q in
    let a = c.in-Compare.a.value in
    let b = c.in-Compare.b.value in
    rw c.in-Compare.is
    (of_part c.idle_sides.result c.sided-found.result _ _ _ c.idle_sides.ensures c.sided-found.ensures.sides
    (λ made o h found. h (term a) (term b)
    (IfSome_then o found
    (λ k s. subst (λ (x : Gx). AreEither q (term a) (term x) k) c.deref-in-Compare.ensures (subst (λ (x : Gx). AreEither q (term x) (term c.deref-in-Compare.result.now) k) c.deref.ensures s.1)))))

pub idle_keys-returns-in-Not : goal.idle_keys-returns-in-Not
idle_keys-returns-in-Not t c =
    let holds = c.args.holds in
    let q = c.args.q in
    let a = cond c.deref-in-Not.result.now in
    rw (c.in-Not.is, ← c.deref-in-Not.ensures)
    (IfOk-weaker c.idle_keys.result _ _ (λ made h. all-weaker (λ (k : Key). Idles (not holds) q a k) (λ (k : Key). Idles holds q (negation a) k) made.items (λ k i. idles-not holds q a k i) h) c.idle_keys.ensures)

pub idle_keys-returns-in_ok-made-in-All : goal.idle_keys-returns-in_ok-made-in-All
idle_keys-returns-in_ok-made-in-All t c =
    let holds = c.args.holds in
    let q = c.args.q in
    let a = cond c.deref-in-All.result.now in
    let ps = conds c.deref-in-All-2.result.now in
    rw (c.in-All.is, listed.conds_hidden c.in-All.list, ← c.deref-in-All.ensures, ← c.deref-in-All-2.ensures.value)
    (subst (λ (x : Cond). IfOk c.idle_parts.result (λ made. All (λ (k : Key). Idles holds q x k) made.items)) (parted-false holds a ps c.if-not-holds.true)
    (c.idle_parts.ensures a (parts-all holds q a ps c.in_ok-made-in-All.made.items c.in_ok-made-in-All.ensures)))

pub idle_keys-returns-in_ok-made-in-Any : goal.idle_keys-returns-in_ok-made-in-Any
idle_keys-returns-in_ok-made-in-Any t c =
    let holds = c.args.holds in
    let q = c.args.q in
    let a = cond c.deref-in-Any.result.now in
    let ps = conds c.deref-in-Any-2.result.now in
    rw (c.in-Any.is, listed.conds_hidden c.in-Any.list, ← c.deref-in-Any.ensures, ← c.deref-in-Any-2.ensures.value)
    (subst (λ (x : Cond). IfOk c.idle_parts-in-Any.result (λ made. All (λ (k : Key). Idles holds q x k) made.items)) (parted-true holds a ps c.if-holds.true)
    (c.idle_parts-in-Any.ensures a (parts-all holds q a ps c.in_ok-made-in-Any.made.items c.in_ok-made-in-Any.ensures)))
