use Rattle.std.proofs.Common.{arith, subst, sym, ◌∙◌, ◌≡◌}
use Rattle.std.proofs.lemmas.List.{get_or_default}
use Rattle.std.proofs.lemmas.Result.{IfOk-weaker}
use Rattle.qgm_meaning.specs.Values.{Bag}
use Rattle.box_exec.specs.Hashed.{HashesRight, rows_kept}
use Rattle.box_exec.specs.Lookup.{Hashes}
use Rattle.box_exec.specs.Outer.{rejects_on}
use Rattle.box_exec.specs.declared.lookup.Hashed.{Hashed}
use Rattle.box_exec.specs.declared.under.Loop.{Loop}
use Rattle.box_exec.proofs.Lookups.{some-is}
use Rattle.box_exec.proofs.Lasting.{one-all}
use Rattle.box_exec.proofs.plan.right_of.Goals as goal

pub returns-in-Some : goal.returns-in-Some
returns-in-Some c =
    let n = c.args.node.now in
    let ls = c.args.over.now in
    let q = c.q-item.result in
    let h = c.in-Some.h in
    let many = c.in-len2-up.len_at_least in
    let made : Hashes (rejects_on n) q.range.id c.kept_rows.result.now h =
    some-is (λ (h : Hashed). Hashes (rejects_on n) q.range.id c.kept_rows.result.now h) c.in_ok-h.field-0 h c.in-Some.is c.in_ok-h.ensures in
    let is : HashesRight n ls h = λ m within at.
    let same : q ≡ m = c.q-item.is ∙ get_or_default ls 1 q m (omega (arith, many)) ∙ sym at in
    subst (λ (l : Loop). Hashes (rejects_on n) l.range.id (rows_kept l.under) h) same
    (subst (λ (rs : Bag). Hashes (rejects_on n) q.range.id rs h) c.kept_rows.ensures made) in
    IfOk-weaker c.one.result _ _ (λ hs e. one-all (λ (h : Hashed). HashesRight n ls h) hs.items h e is) c.one.ensures
