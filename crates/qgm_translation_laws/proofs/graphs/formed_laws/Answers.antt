use Rattle.qgm_translation_laws.proofs.graphs.formed_laws.Goals as goal
use Rattle.qgm_translation_laws.proofs.Agreed.{types-found}
use Rattle.qgm_translation_laws.proofs.LikeGraphs.{same-but-numbers}
use Rattle.qgm_translation_laws.proofs.Formed.{well-formed}
use Rattle.qgm_translation_laws.proofs.OneToOne.{are-one-to-one}
use Rattle.qgm_translation_laws.proofs.Passes.{root-reaches}
use Rattle.qgm_translation_laws.proofs.Reused.{reused}
use Rattle.qgm_translation_laws.proofs.FormedSampled.{sampled}
use Rattle.qgm_translation_laws.proofs.Telling.{told-by}
use Rattle.qgm_translation_laws.proofs.ToldAlike.{type-alike}
use Rattle.graph_alike.specs.Alike.{Stands}

pub returns-clause-types : goal.returns-clause-types
returns-clause-types c = λ kinds sources query types names order g b. types-found kinds sources query types names order g b

pub returns-clause-formed : goal.returns-clause-formed
returns-clause-formed c = λ kinds sources query types names order g b. well-formed kinds sources query types names order g b

pub returns-clause-sampled : goal.returns-clause-sampled
returns-clause-sampled c = sampled

pub returns-clause-told : goal.returns-clause-told
returns-clause-told c = λ at sources boxes back tells steps x t h. told-by at boxes back sources tells steps x t h

pub returns-clause-reaches : goal.returns-clause-reaches
returns-clause-reaches c = λ sources query names order g b ordered n i. root-reaches g.boxes g.root ordered b.used n i

pub returns-clause-alike : goal.returns-clause-alike
returns-clause-alike c = λ sources shared typed query names order g h first second one two told. same-but-numbers sources shared typed query names order g h first second one two told

pub returns-clause-one_to_one : goal.returns-clause-one_to_one
returns-clause-one_to_one c = λ sources shared typed query names order g h first second. are-one-to-one sources shared typed query names order g h first second

pub returns-clause-reused : goal.returns-clause-reused
returns-clause-reused c = reused

pub returns-clause-told_alike : goal.returns-clause-told_alike
returns-clause-told_alike c = λ g h at to same x y l. type-alike (Stands g h) at to same x y l
