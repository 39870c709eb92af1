use Rattle.std.proofs.Common.{◌∙◌, ap, ◌≡◌, ◌+◌, ◌++◌, ◌∷◌, [], List, false, filter, rules, subst, sym, take, true}
use Rattle.std.proofs.lemmas.List.{take_all}
use Rattle.row_bag.specs.Bags.{Alike}
use Rattle.qgm_core.specs.Kinds.{is_F}
use Rattle.qgm_core.specs.declared.owned.OwnedQuant.{OwnedQuant}
use Rattle.qgm_meaning.specs.Values.{Bag}
use Rattle.box_exec.specs.Hashed.{IdleUnder, rows_kept}
use Rattle.box_exec.specs.Plans.{family, ranges}
use Rattle.box_exec.specs.declared.under.Loop.{Loop}
use Rattle.box_exec.specs.Ready.{SubsOf, isnt_F}
use Rattle.box_exec.specs.Sources.{rows_held}
use Rattle.box_exec.specs.declared.source.Sub.{Sub}
use Rattle.box_exec.proofs.Hashing.{kept-at}
use Rattle.box_exec.proofs.Lasting.{idle-at}
use Rattle.box_exec.proofs.Quantifiers.{bound-of, free-more, free-same, range-at, range-past, range-within, subs-more}
use Rattle.box_exec.proofs.hashed.kept_subs.Goals.{then-not-is_f+in_ok-push, else-not-is_f}
use Rattle.box_exec.proofs.hashed.kept_subs.Goals as goal

pub sub_rows-rows-requires : goal.sub_rows-rows-requires
sub_rows-rows-requires c =
    subst (λ (x : Loop). IdleUnder c.args.at.now.idle.now c.loop-i.i x.under) c.index-at-i.is
    (idle-at c.args.at.now c.requires.planned c.loop-i.i c.index-at-i.result c.loop-i-test.true c.index-at-i.is)

pub loop-i-preserved : goal.loop-i-preserved
loop-i-preserved c = λ env.
    let at = c.args.at.now in
    let l = c.index-at-i.result in
    let r = l.range in
    let i = c.loop-i.i in
    let rs = ranges at.loops.now in
    let f = family at in
    let inside = range-within at.loops.now i c.loop-i-test.true in
    let here = range-at at.loops.now i l c.loop-i-test.true c.index-at-i.is in
    elim c.if-not-is_f.branch [
      | then-not-is_f+in_ok-push w ↦
          let free : is_F r.kind ≡ false = search rules in
          let rows : Alike (rows_held w.sub_rows-rows.result) (f r.over env) = subst (λ (b : Bag). Alike b (f r.over env)) (sym (w.sub_rows-rows.ensures ∙ sym (ap (λ (x : Loop). rows_kept x.under) c.index-at-i.is))) (kept-at at (bound-of at c.requires.planned) c.requires.kept i l c.loop-i-test.true c.index-at-i.is env) in
          let more : SubsOf f env (filter isnt_F (take (i + 1) rs)) w.push.new.self.items =
          subst (λ (xs : List OwnedQuant). SubsOf f env xs w.push.new.self.items) (sym (free-more rs i r inside here free))
          (subst (λ (ss : List Sub). SubsOf f env (filter isnt_F (take i rs) ++ r ∷ []) ss) (sym w.in_ok-push.ensures.items)
          (subs-more f env (filter isnt_F (take i rs)) c.loop-i.subs.items r _ (sym (ap (λ (x : Loop). x.range.id) c.index-at-i.is)) rows (c.loop-i.invariant env))) in
          let put : w.push.new.self.items ≡ c.if-not-is_f.subs.items = search rules in
          subst (λ (ss : List Sub). SubsOf f env (filter isnt_F (take (i + 1) rs)) ss) put more
      | else-not-is_f w ↦
          let bound_to : is_F r.kind ≡ true = search rules in
          let same : c.loop-i.subs.items ≡ c.if-not-is_f.subs.items = search rules in
          subst (λ (ss : List Sub). SubsOf f env (filter isnt_F (take (i + 1) rs)) ss) same
          (subst (λ (xs : List OwnedQuant). SubsOf f env xs c.loop-i.subs.items) (sym (free-same rs i r inside here bound_to)) (c.loop-i.invariant env))
    ]

pub returns : goal.returns
returns c = λ env.
    let rs = ranges c.args.at.now.loops.now in
    subst (λ (xs : List OwnedQuant). SubsOf (family c.args.at.now) env (filter isnt_F xs) c.loop-i.subs.items) (take_all c.loop-i.i rs (range-past c.args.at.now.loops.now c.loop-i.i c.loop-i-test.false)) (c.loop-i.invariant env)
