use Rattle.std.proofs.Common.{◌≡◌, ◌++◌, drop, suc}
use Rattle.qgm_meaning.specs.Tags.{columns_from}
use Rattle.qgm_terms.specs.Shown.{terms}
use Rattle.rule_magic.specs.Boxes.{counted}
use Rattle.rule_magic.proofs.absorb_group.counts.counted.Given as goal

-- what is left adds the rest
abbrev pub invariant-loop-x : goal.invariant-loop-x
invariant-loop-x l = l.head ++ counted l.q (suc l.k) (terms (drop l.x-index l.x-items)) ≡ columns_from l.q 1 l.w ++ counted l.q (suc l.w) (terms l.x-items)
