use Rattle.std.proofs.Common.{refl}
use Rattle.qgm_translation.specs.Lay.{laying}
use Rattle.qgm_translation.specs.Whole.{lay_whole}
use Rattle.qgm_translation.proofs.Graphs.{is-laid-for}
use Rattle.qgm_translation.proofs.laid.laid_laws.Goals as goal
use Rattle.qgm_translation.proofs.LaidAll.{laid}
use Rattle.qgm_translation.proofs.Same.{lay-same}
use Rattle.qgm_translation.proofs.Times.{counted-once}
use Rattle.qgm_translation.proofs.Start.{base-ready, nothing-ready, view-ready}

pub returns-clause-lays : goal.returns-clause-lays
returns-clause-lays c = λ sources has query m s h r. laid sources has query m s h r

pub returns-clause-sampled : goal.returns-clause-sampled
returns-clause-sampled c = record { buildable = (((refl, refl, refl, λ fr. refl), tt), (tt, (tt, ((λ fr. refl), tt))), ((refl, tt), (tt, tt), (tt, tt)), (tt, tt), tt, refl); rows = refl }

pub returns-clause-starts : goal.returns-clause-starts
returns-clause-starts c = record {
  none = nothing-ready;
  table = λ sources has more name one s a b d e r. base-ready sources has more name one s a b d e r;
  view = λ sources has more name one body s a b d r. view-ready sources has more name one body s a b d r;
}

pub returns-clause-once : goal.returns-clause-once
returns-clause-once c = λ ns h q. counted-once ns h q

pub returns-clause-alike : goal.returns-clause-alike
returns-clause-alike c = λ known sources has rows query m s told fit ready counted begins. lay-same known sources has s.shared rows told query m s fit ready (record { counted = counted; shared = refl }) begins

pub returns-clause-whole : goal.returns-clause-whole
returns-clause-whole c = λ known sources tables views deep query names order counts over.
    is-laid-for known (laying sources (lay_whole known tables views query).boxes) tables views deep query names order (record { counts = counts; typed = λ x. refl; shared = λ name. refl }) over
