use Rattle.sql_names.proofs.Known.{tables_then}
use Rattle.sql_names.proofs.views.with_views.Goals as goal

pub returns : goal.returns
returns c = tables_then c.args.tables c.args.known.items c.args.views.items c.truncate.new.self.items c.append.new.self.items c.truncate.ensures.items c.in_ok-append.ensures.items
