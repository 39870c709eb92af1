use Rattle.std.proofs.Common.{refl}
use Rattle.std.specs.Fmt.{digits}
use Rattle.graph_sql.specs.BodyText.{body_text, inner_text, name_text, stored_text}
use Rattle.graph_sql.specs.StatementText.{entry_text, item_text, key_text, source_of}
use Rattle.graph_sql.proofs.laws.examples.Goals as goal

pub returns-clause-graphs : goal.returns-clause-graphs
unfolding digits body_text inner_text name_text stored_text entry_text item_text key_text source_of
returns-clause-graphs c = record { asked = refl; counted = refl; joined = refl }

pub returns-clause-readings : goal.returns-clause-readings
unfolding digits
returns-clause-readings c = record { true = refl; false = refl; not_true = refl; not_false = refl; chain = refl }

pub returns-clause-groups : goal.returns-clause-groups
unfolding digits body_text inner_text
returns-clause-groups c = record { wrapped = refl }
