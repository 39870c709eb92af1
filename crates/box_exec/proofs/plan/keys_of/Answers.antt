use Rattle.std.proofs.Common.{◌≡◌, ◌==◌, ◌+◌, ◌++◌, ◌∙◌, All, List, None, ap, drop, false, rules, subst, sym}
use Rattle.box_exec.specs.Asked.{shown_if, shown_keys, tested_at}
use Rattle.box_exec.proofs.Asking.{key-more, none-more, other-more}
use Rattle.box_exec.specs.Early.{rejects}
use Rattle.qgm_terms.specs.Shown.{cond}
use Rattle.box_exec.specs.Equalities.{IsKey}
use Rattle.box_exec.specs.Lookup.{RejectsBy}
use Rattle.box_exec.proofs.Lookups.{some-is}
use Rattle.box_exec.specs.declared.key.Key.{Key}
use Rattle.box_exec.proofs.Hashing.{key-rejects}
use Rattle.box_exec.proofs.Rejections.{all-more}
use Rattle.box_exec.proofs.plan.keys_of.Goals.{then-e-place+in_ok-key+in-Some+in_ok-push, then-e-place+in_ok-key+in_default, else-e-place}
use Rattle.box_exec.proofs.plan.keys_of.Goals as goal

pub loop-e-preserved : goal.loop-e-preserved
loop-e-preserved c =
    let P = λ (k : Key). RejectsBy (rejects c.args.early.now c.args.place) c.args.q k in
    elim c.if-e-place.branch [
      | then-e-place+in_ok-key+in-Some+in_ok-push w ↦
          let here : c.e-item.result.place ≡ c.args.place = search rules in
          let put : w.push.new.self.items ≡ c.if-e-place.made.items = search rules in
          record {
            rejects = subst (All P) put
                (all-more P c.loop-e.made.items w.push.new.self.items w.in_ok-push.ensures.items c.loop-e.invariant.rejects
                (key-rejects c.args.early.now c.loop-e.e-index c.e-item.result c.args.place c.args.q w.in-Some.key c.loop-e-test.true c.e-item.is here
                (some-is (λ (k : Key). IsKey c.args.q (cond c.e-item.result.cond.now) k) w.in_ok-key.field-0 w.in-Some.key w.in-Some.is w.in_ok-key.ensures.key)));
            exact = subst (λ (ks : List Key). shown_keys ks ++ tested_at (drop (c.loop-e.e-index + 1) c.args.early.now) c.args.place c.args.q ≡ tested_at c.args.early.now c.args.place c.args.q) (sym w.in_ok-push.ensures.items ∙ put)
                (key-more c.args.early.now c.loop-e.e-index c.e-item.result c.args.place c.args.q c.loop-e.made.items c.loop-e-test.true c.e-item.is w.in-Some.key here
                (sym (ap shown_if w.in-Some.is) ∙ w.in_ok-key.ensures.exact) c.loop-e.invariant.exact);
          }
      | then-e-place+in_ok-key+in_default w ↦
          let here : c.e-item.result.place ≡ c.args.place = search rules in
          let none : w.in_ok-key.field-0 ≡ None = search rules in
          let same : c.loop-e.made.items ≡ c.if-e-place.made.items = search rules in
          record {
            rejects = subst (All P) same c.loop-e.invariant.rejects;
            exact = subst (λ (ks : List Key). shown_keys ks ++ tested_at (drop (c.loop-e.e-index + 1) c.args.early.now) c.args.place c.args.q ≡ tested_at c.args.early.now c.args.place c.args.q) same
                (none-more c.args.early.now c.loop-e.e-index c.e-item.result c.args.place c.args.q c.loop-e.made.items c.loop-e-test.true c.e-item.is here
                (sym (ap shown_if none) ∙ w.in_ok-key.ensures.exact) c.loop-e.invariant.exact);
          }
      | else-e-place w ↦
          let away : (c.e-item.result.place == c.args.place) ≡ false = search rules in
          let same : c.loop-e.made.items ≡ c.if-e-place.made.items = search rules in
          record {
            rejects = subst (All P) same c.loop-e.invariant.rejects;
            exact = subst (λ (ks : List Key). shown_keys ks ++ tested_at (drop (c.loop-e.e-index + 1) c.args.early.now) c.args.place c.args.q ≡ tested_at c.args.early.now c.args.place c.args.q) same
                (other-more c.args.early.now c.loop-e.e-index c.e-item.result c.args.place c.args.q c.loop-e.made.items c.loop-e-test.true c.e-item.is away c.loop-e.invariant.exact);
          }
    ]
