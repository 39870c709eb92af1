use Rattle.std.proofs.Common.{◌≡◌, ◌+◌, ◌-◌, ◌++◌}
use Rattle.rule_magic.specs.Boxes.{same_each}
use Rattle.rule_magic.proofs.tags.add_same.Given as goal

-- what is left adds the rest
abbrev pub invariant-loop-k : goal.invariant-loop-k
invariant-loop-k l = record { items : l.all.items ++ same_each l.p l.q (l.k + 1) (l.w - l.k) ≡ l.initial.all.items ++ same_each l.p l.q 1 l.w; spare : l.all.spare ≡ l.initial.all.spare }
