use Rattle.sql_text.specs.Keys.{key_words}
use Rattle.sql_text.specs.Tokens as spec
use Rattle.sql_text.proofs.words.key_word.Goals as goal

pub returns : goal.returns
unfolding spec.key_word key_words
returns c = c.lookup.ensures
