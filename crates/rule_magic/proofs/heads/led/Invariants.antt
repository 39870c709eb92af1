use Rattle.std.proofs.Common.{◌≡◌, ◌++◌, drop}
use Rattle.qgm_meaning.specs.Tags.{columns_from}
use Rattle.qgm_terms.specs.Shown.{terms}
use Rattle.rule_magic.proofs.heads.led.Given as goal

-- what is left adds the rest
abbrev pub invariant-loop-x : goal.invariant-loop-x
invariant-loop-x l = l.head ++ terms (drop l.x-index l.x-items) ≡ columns_from l.q 1 l.w ++ terms l.x-items
