use Rattle.std.proofs.Common.{arith}
use Rattle.qgm_term_size.proofs.Sizes.{size_positive}
use Rattle.qgm_term_size.specs.Size.{cell_size}
use Rattle.qgm_terms.specs.Shown.{term}
use Rattle.rule_merge.proofs.MergeSelectFew.{copies-least}
use Rattle.rule_merge.proofs.merge_select.copies.left_after.Goals as goal

pub returns-then-left-copies-clause-none : goal.returns-then-left-copies-clause-none
returns-then-left-copies-clause-none c = let h = copies-least (cell_size (term c.args.x.now)) c.args.copies (size_positive (term c.args.x.now)) in omega (arith, h, c.if-left-copies.true)
