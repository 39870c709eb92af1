use Rattle.std.proofs.Common.{rules}
use Rattle.std.proofs.lemmas.Fn.{filter_same}
use Rattle.row_bag.specs.Arguments.{is_value}
use Rattle.row_bag.proofs.aggregates.without_nulls.Goals as goal

pub returns : goal.returns
returns c = filter_same _ is_value _ (λ x b f' k. search rules) _ _ c.retain.ensures.filtered
