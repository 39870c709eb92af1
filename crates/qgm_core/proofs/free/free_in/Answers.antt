use Rattle.std.proofs.Common.{List, ℕ, [], not, filter, ap, ◌∙◌}
use Rattle.std.proofs.lemmas.Result.{IfOk-weaker}
use Rattle.qgm_core.specs.Free.{put_each}
use Rattle.list_laws.specs.Lists.{holds}
use Rattle.qgm_core.proofs.Owning.{free-owned}
use Rattle.qgm_core.proofs.free.free_in.Goals as goal

pub returns : goal.returns
returns c =
    let owned = c.in_ok-owned.owned in
    IfOk-weaker c.not_owned.result _ _
    (λ free h. h ∙ ap (λ (xs : List ℕ). put_each [] (filter (λ q. not (holds q owned)) xs)) c.deref.ensures.value
    ∙ free-owned c.args.nodes.now c.args.b c.in_ok-marks.marks owned c.in_ok-names.names.items c.in_ok-marks.ensures c.in_ok-owned.ensures c.in_ok-names.ensures)
    c.not_owned.ensures
