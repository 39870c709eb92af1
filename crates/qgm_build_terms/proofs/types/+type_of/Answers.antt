use Rattle.std.proofs.Common.{arith}
use Rattle.std.proofs.lemmas.Grind.{common_steps}
use Rattle.qgm_terms.proofs.Lists.{links_hidden}
use Rattle.qgm_build_terms.proofs.Lists.{chain_typed}
use Rattle.qgm_build_terms.proofs.types.+type_of.Goals as goal

pub returns-in-Chain : goal.returns-in-Chain
returns-in-Chain t c = rw (c.in-Chain.is, links_hidden c.in-Chain.list) (grind (arith, common_steps, chain_typed))
