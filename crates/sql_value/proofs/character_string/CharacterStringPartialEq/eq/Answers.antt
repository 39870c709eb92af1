use Rattle.std.proofs.Common.{◌≡◌, ◌∙◌, ap, ap₂, nat_eq}
use Rattle.std.specs.Cmp.Lexicographic.{pointwise}
use Rattle.std.specs.Ordering.{is_eq}
use Rattle.std.proofs.lemmas.Map.Text.{is_eq-slice_cmp}
use Rattle.sql_value.specs.Characters.{listed}
use Rattle.sql_value.proofs.character_string.CharacterStringPartialEq.eq.Goals as goal

pub returns : goal.returns
returns c =
    c.is_eq.ensures ∙ ap is_eq c.order_of.ensures ∙ is_eq-slice_cmp (listed c.characters.result) (listed c.characters-2.result)
    ∙ ap₂ (pointwise nat_eq) c.characters.ensures c.characters-2.ensures
