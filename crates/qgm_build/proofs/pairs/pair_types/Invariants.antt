use Rattle.std.proofs.Common.{◌≡◌, ◌++◌, ◌+◌, ◌-◌, map}
use Rattle.qgm_translation.specs.Shown as w
use Rattle.qgm_translation.specs.Typing.{typed_by}
use Rattle.qgm_build.proofs.pairs.pair_types.Given as goal

abbrev pub invariant-loop-i : goal.invariant-loop-i
invariant-loop-i l = l.types ++ map (typed_by l.st.rows.items) (w.columns_of l.q (l.i + 1) (l.n - l.i)) ≡ map (typed_by l.st.rows.items) (w.columns_of l.q 1 l.n)
