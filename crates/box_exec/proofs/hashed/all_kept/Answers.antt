use Rattle.std.proofs.Common.{◌∙◌, ap, not, sym}
use Rattle.box_exec.proofs.Hashing.{none-all, not-true}
use Rattle.box_exec.specs.Early.{is_open}
use Rattle.box_exec.specs.declared.under.Loop.{Loop}
use Rattle.box_exec.proofs.hashed.all_kept.Goals as goal

pub returns-clause-kept : goal.returns-clause-kept
returns-clause-kept c = λ yes. none-all (λ (l : Loop). is_open l.under) c.args.loops.now (sym c.any_open.ensures ∙ not-true c.any_open.result yes)

pub returns-clause-exact : goal.returns-clause-exact
returns-clause-exact c = ap not c.any_open.ensures
