use Rattle.std.proofs.Common.{◌≡◌, ◌++◌, drop, map}
use Rattle.qgm_build.specs.Schema.{named_view}
use Rattle.qgm_build.proofs.named.add_views.Given as goal

abbrev pub invariant-loop-view : goal.invariant-loop-view
invariant-loop-view l =
    l.out.items ++ map named_view (drop l.view-index l.views) ≡ l.fn.out.items ++ map named_view l.views
