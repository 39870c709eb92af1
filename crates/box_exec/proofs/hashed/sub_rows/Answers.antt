use Rattle.std.proofs.Common.{◌≡◌, Some, slice_get, subst, sym}
use Rattle.std.specs.Borrow.{Bor}
use Rattle.qgm_meaning.specs.Values.{Bag}
use Rattle.box_exec.specs.Indexed.{IsIdleIndex}
use Rattle.box_exec.specs.declared.idle_index.IdleIndex.{IdleIndex}
use Rattle.box_exec.proofs.Lookups.{some-is}
use Rattle.box_exec.proofs.hashed.sub_rows.Goals as goal

pub new-requires : goal.new-requires
new-requires c =
    let at = c.args.at.now in
    let x = c.in-Some.index.now in
    subst (λ (rs : Bag). IsIdleIndex rs x) (sym c.kept_rows-rows.ensures)
    (c.requires x (some-is (λ (x : Bor IdleIndex). slice_get at.idle.now c.args.i ≡ Some (Some x.now)) c.index_at.result c.in-Some.index c.in-Some.is c.index_at.ensures))
