use Rattle.std.proofs.Common.{arith}
use Rattle.std.proofs.lemmas.Grind.{common_steps}
use Rattle.qgm_props.proofs.TableLaws.{first-terms}
use Rattle.qgm_props.proofs.boxes.are_keys_free.Goals as goal

pub returns : goal.returns
returns c = grind (arith, common_steps, first-terms c.args.k c.args.head.now)
