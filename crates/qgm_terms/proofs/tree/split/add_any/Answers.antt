use Rattle.qgm_terms.specs.Shown.{cond}
use Rattle.qgm_terms.proofs.Lists.{conds_hidden}
use Rattle.qgm_terms.proofs.Splitting.{split_ored}
use Rattle.qgm_terms.proofs.tree.split.add_any.Goals as goal

pub returns-clause-items : goal.returns-clause-items
returns-clause-items c = rw (split_ored (cond c.args.first.value) c.args.list.items c.requires.more, ← conds_hidden c.args.list) c.add.ensures.ok
