-- The sample query with its types, and its graph.
use Rattle.std.specs.Prelude.{◌≡◌, ℕ, List, [], ◌∷◌, None, Some}
use Rattle.sql_value.specs.declared.order_key.SqlType.{SqlType}
use Rattle.sql_value.specs.declared.order_key.SqlType.TheVariants.{Integer}
use Rattle.qgm_core.specs.Boxes.{QueryGraph}
use Rattle.qgm_terms.specs.Terms.{Term, null_int, null_text}
use Rattle.qgm_wellformed.specs.WellFormed.{fault}
use Rattle.qgm_wellformed.specs.declared.clause.Clause.TheVariants.{I5}
use Rattle.qgm_translation.specs.Refused.{texts_boxes}
use Rattle.qgm_translation.specs.Samples.{graph, query, sources}
use Rattle.qgm_translation_laws.specs.Formed.{SourcesTyped}
use Rattle.qgm_translation.specs.There.{EachForOne}
use Rattle.qgm_translation_laws.specs.Typed.{IsOfTypes}

-- each table and view has two INTEGER columns
abbrev pub kinds : List ℕ → List SqlType
kinds name = Integer ∷ Integer ∷ []

-- SELECT CASE WHEN A = 1 THEN 'x' END FROM T, with this NULL at the end
abbrev pub over_texts : Term → QueryGraph
over_texts last = record { boxes = texts_boxes last; root = 1; names = None ∷ []; order = [] }

pub record Sampled : Type 0 where
  pub typed : SourcesTyped kinds sources
  pub gives : IsOfTypes kinds [] query (Integer ∷ Integer ∷ Integer ∷ [])
  pub formed : fault graph ≡ None
  -- U is named twice, by the query and by V
  pub there : EachForOne sources query graph
  -- CASE WHEN A = 1 THEN 'x' END: its NULL is a text, and an INTEGER one fails I5
  pub text_null : fault (over_texts null_text) ≡ None
  pub integer_null : fault (over_texts null_int) ≡ Some (record { clause = I5; at = 1 })
