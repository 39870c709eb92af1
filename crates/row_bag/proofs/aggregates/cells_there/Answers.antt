use Rattle.std.proofs.Common.{rules}
use Rattle.std.proofs.lemmas.Fn.{filter_same}
use Rattle.row_bag.specs.Verdict.{is_there}
use Rattle.row_bag.proofs.aggregates.cells_there.Goals as goal

pub returns : goal.returns
returns c = filter_same _ is_there _ (λ x b f' k. search rules) _ _ c.retain.ensures.filtered
