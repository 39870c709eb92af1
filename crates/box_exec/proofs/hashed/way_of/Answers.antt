use Rattle.std.proofs.Common.{◌≡◌, ◌+◌, ◌∙◌, Some, ap, length, slice_get}
use Rattle.std.specs.Borrow.{Bor}
use Rattle.std.proofs.lemmas.Result.{IfOk-weaker}
use Rattle.qgm_meaning.specs.Values.{Bag}
use Rattle.box_exec.specs.Bound.{env_of}
use Rattle.box_exec.specs.Early.{rejects}
use Rattle.box_exec.specs.Hashed.{rows_kept}
use Rattle.box_exec.specs.declared.lookup.Keyed.{Keyed}
use Rattle.box_exec.proofs.Lasting.{keyed-at}
use Rattle.box_exec.proofs.Lookups.{leads-all, some-is}
use Rattle.box_exec.proofs.hashed.way_of.Goals as goal

pub returns-in-Some : goal.returns-in-Some
returns-in-Some c =
    let at = c.args.at.now in
    let l = c.args.l.now in
    let i = c.args.i in
    let k = c.in-Some.k.now in
    let found : slice_get at.keyed.now i ≡ Some (Some k) = some-is (λ (x : Bor Keyed). slice_get at.keyed.now i ≡ Some (Some x.now)) c.keyed_at.result c.in-Some.k c.in-Some.is c.keyed_at.ensures.there in
    IfOk-weaker c.keyed_way.result _ _
    (λ way f. f (rejects at.early.now (i + 1)) l.range.id (rows_kept l.under) (c.len-end.ensures ∙ ap (λ (rs : Bag). length rs) c.kept_rows.ensures) (keyed-at at c.requires.bound i l c.requires.within c.requires.at k found))
    c.keyed_way.ensures

pub returns-in-None : goal.returns-in-None
returns-in-None c =
    let at = c.args.at.now in
    let l = c.args.l.now in
    leads-all (rejects at.early.now (c.args.i + 1)) l.range.id (rows_kept l.under) (env_of c.args.env.now) c.all_rows.result (c.all_rows.ensures.end ∙ c.len-end.ensures ∙ ap (λ (rs : Bag). length rs) c.kept_rows.ensures) c.all_rows.ensures.all
