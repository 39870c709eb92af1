use Rattle.std.proofs.Common.{◌≡◌, ◌++◌, drop, map}
use Rattle.qgm_meaning.specs.Tags.{columns_from}
use Rattle.qgm_terms.specs.Shown.{terms}
use Rattle.qgm_terms.specs.Substitution.{substituted}
use Rattle.rule_magic.specs.Boxes.{later}
use Rattle.rule_magic.proofs.heads.keyed.Given as goal

-- what is left adds the rest
abbrev pub invariant-loop-x : goal.invariant-loop-x
invariant-loop-x l = l.head ++ map (substituted l.q (later l.p l.w l.v)) (terms (drop l.x-index l.x-items)) ≡ columns_from l.p 1 l.w ++ map (substituted l.q (later l.p l.w l.v)) (terms l.x-items)
