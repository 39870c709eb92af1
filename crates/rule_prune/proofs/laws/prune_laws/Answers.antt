use Rattle.std.proofs.Common.{refl, ◌∙◌}
use Rattle.qgm_core.specs.Edits.{drop_column}
use Rattle.qgm_edit_laws.proofs.Formed.{sound-checked}
use Rattle.qgm_wellformed.proofs.Faults.{finds-none}
use Rattle.rule_prune.proofs.DropColumnSteps.{pruned-is, quant-gone}
use Rattle.rule_prune.proofs.Preserving.{drop-column-preserves, drop-quantifier-preserves}
use Rattle.rule_prune.proofs.DropQuantifierKeeps.{quantifier-preserves}
use Rattle.rule_prune.proofs.laws.prune_laws.Goals as goal

pub returns-clause-drop_column : goal.returns-clause-drop_column
returns-clause-drop_column c = drop-column-preserves

pub returns-clause-drop_quantifier : goal.returns-clause-drop_quantifier
returns-clause-drop_quantifier c = drop-quantifier-preserves

pub returns-clause-unread_row : goal.returns-clause-unread_row
returns-clause-unread_row c = quantifier-preserves

pub returns-clause-column_steps : goal.returns-clause-column_steps
returns-clause-column_steps c = λ g h u w b k m x. x.after ∙ pruned-is g u w b k m (drop_column b k g) refl x.left x.found

pub returns-clause-quantifier_steps : goal.returns-clause-quantifier_steps
returns-clause-quantifier_steps c = λ g u w b i q own. quant-gone g (((sound-checked g u).0 ((finds-none g u).1 w)).0) b i q own
