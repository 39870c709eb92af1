use Rattle.sql_names.proofs.Valid.{is_sound}
use Rattle.sql_names.proofs.Whole.{whole_answer, whole_rows}
use Rattle.sql_names.proofs.laws.place_laws.Goals as goal

pub returns-clause-schema : goal.returns-clause-schema
returns-clause-schema c = λ catalog tables sound q even. whole_rows catalog tables sound q even

pub returns-clause-answers : goal.returns-clause-answers
returns-clause-answers c = λ catalog tables sound text even. whole_answer catalog tables sound text even

pub returns-clause-sound : goal.returns-clause-sound
returns-clause-sound c = λ catalog valid tables loaded wide even. is_sound catalog valid tables loaded wide even
