-- The sample computes.
use Rattle.std.proofs.Common.{ℕ, Bool, true, false, List, [], ◌∷◌, cond, codes, None, refl}
use Rattle.sql_ast.specs.Names.{same_name}
use Rattle.sql_value.specs.declared.order_key.SqlType.{SqlType}
use Rattle.sql_value.specs.declared.order_key.SqlType.TheVariants.{Integer}
use Rattle.sql_meaning.specs.ResolvedViews.{body_of}
use Rattle.qgm_translation.specs.Samples.{sources, views}
use Rattle.qgm_translation_laws.specs.Formed.{HasColumns}
use Rattle.qgm_translation_laws.specs.FormedSample.{Sampled, kinds}
use Rattle.qgm_translation_laws.proofs.SampledThere.{there}
use Rattle.qgm_translation_laws.specs.Typed.{Scope, open_scope}

abbrev two : List SqlType
two = Integer ∷ Integer ∷ []

abbrev four : List SqlType
four = Integer ∷ Integer ∷ Integer ∷ Integer ∷ []

named : (name : List ℕ) → HasColumns kinds sources name (sources.body name)
named name = elim (same_name (codes "V") name) as (λ (own : Bool). HasColumns kinds sources name (cond own (body_of views (codes "V")) None)) [
  | true ↦ (two, ((two, ([], (refl, refl, refl))), (Integer, (refl, refl)), (refl, (refl, refl))))
  | false ↦ refl
]

abbrev rows : Scope
rows = open_scope four

pub sampled : Sampled
sampled = record {
  typed = record { counted = λ name. refl; named = named };
  gives = (
    four,
    (
      (four, ([], ((two, (two, (refl, refl, refl, (Integer, (refl, refl)), refl))), refl, refl))),
      (Integer ∷ [], (two, ((two, ([], (refl, refl, refl))), (Integer, (refl, refl)), (refl, refl)))),
      (Integer, (refl, tt)),
      (refl, (((rows, refl), refl), ((rows, (refl, (Integer, (refl, refl)))), refl))),
      (Integer, (((rows, refl), refl), refl)),
    ),
  );
  formed = refl;
  there = there;
  text_null = refl;
  integer_null = refl;
}
