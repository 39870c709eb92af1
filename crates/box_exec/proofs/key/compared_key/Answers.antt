use Rattle.std.proofs.Common.{◌∙◌, sym, ap}
use Rattle.std.proofs.lemmas.Option.{IfSome_then}
use Rattle.std.proofs.lemmas.Result.{IfOk-weaker}
use Rattle.qgm_terms.specs.Shown.{sign, term}
use Rattle.box_exec.specs.Asked.{either_way}
use Rattle.box_exec.proofs.Equalities.{key-either}
use Rattle.box_exec.proofs.Lookups.{some-is}
use Rattle.box_exec.proofs.key.compared_key.Goals as goal

pub returns-in-Some-clause-key : goal.returns-in-Some-clause-key
returns-in-Some-clause-key c =
    let q = c.args.q in
    let a = term c.args.a.now in
    let b = term c.args.b.now in
    IfOk-weaker c.sided.result _ _
    (λ o h. IfSome_then o h (λ k s. key-either q (sign c.args.s) a b c.in-Some.by k (some-is _ c.equating.result c.in-Some.by c.in-Some.is c.equating.ensures.equated) s.0 s.1))
    c.sided.ensures.sides

pub returns-in-Some-clause-exact : goal.returns-in-Some-clause-exact
returns-in-Some-clause-exact c =
    let q = c.args.q in
    let a = term c.args.a.now in
    let b = term c.args.b.now in
    IfOk-weaker c.sided.result _ _ (λ o h. h ∙ sym (c.equating.ensures.exact q a b ∙ ap (λ o. either_way q o a b) c.in-Some.is)) c.sided.ensures.exact

pub returns-in-None-clause-exact : goal.returns-in-None-clause-exact
returns-in-None-clause-exact c =
    let q = c.args.q in
    let a = term c.args.a.now in
    let b = term c.args.b.now in
    sym (c.equating.ensures.exact q a b ∙ ap (λ o. either_way q o a b) c.in-None.is)
