-- The graph of a valid query is right, and the boxes that are laid make one.
use Rattle.std.proofs.Common.{◌≡◌, ℕ, List, [], Option, refl}
use Rattle.sql_ast.specs.Declarations.{Declared}
use Rattle.sql_ast.specs.Syntax as s
use Rattle.sql_value.specs.declared.order_key.OrderKey.{OrderKey}
use Rattle.sql_value.specs.declared.order_key.SqlType.{SqlType}
use Rattle.sql_names.specs.Resolved.{query}
use Rattle.sql_names.specs.Schema.{schema_columns, view_trees}
use Rattle.graph_alike.specs.Alike.{SameButNumbers}
use Rattle.graph_alike.specs.OneToOne.{AreOneToOne}
use Rattle.graph_alike.proofs.OneText.{checked-text}
use Rattle.graph_print.specs.GraphText.{text_of}
use Rattle.qgm_core.specs.Boxes.{QueryGraph}
use Rattle.qgm_edit_laws.proofs.WellFormedKept.{numbers-once}
use Rattle.qgm_terms.specs.Terms.{Term}
use Rattle.qgm_translation.specs.Lay.{Laid, box_named}
use Rattle.qgm_translation.specs.Sources.{Sources}
use Rattle.qgm_translation.specs.Typing.{typed_by}
use Rattle.qgm_translation.specs.Whole.{graph_of}
use Rattle.qgm_translation.specs.WholeLaw.{IsLaidFor}
use Rattle.qgm_translation.proofs.Graphs.{is-laid-for}
use Rattle.qgm_translation_laws.specs.Joined.{IsFormed, ValidQuery, stated_types}
use Rattle.qgm_translation_laws.specs.Laid.{IsGraphOf, IsRight, graph_tables, known_in, laid_for}
use Rattle.qgm_translation_laws.specs.Sources.{sources_of}
use Rattle.qgm_translation_laws.proofs.Joined.{valid_formed}
use Rattle.qgm_translation_laws.proofs.LaidOver.{deep_in, valid_over}
use Rattle.qgm_translation_laws.proofs.LaidTold.{laid-told}
use Rattle.qgm_translation_laws.proofs.OneToOne.{are-one-to-one}
use Rattle.qgm_translation_laws.proofs.Passes.{root-reaches}
use Rattle.qgm_translation_laws.proofs.Roots.{valid_rows}
use Rattle.qgm_translation_laws.proofs.SchemaSources.{schema_sources_typed}
use Rattle.qgm_translation_laws.proofs.Together.{same-graphs}
use Rattle.qgm_translation_laws.proofs.TypingSchemas.{text_has_types}
use Rattle.qgm_translation_laws.specs.Typing.{kinds_of}
use Rattle.sql_faults.specs.Views.{heads_of}

pub graph_right : (catalog : Declared) (text : s.QueryText) (names : List (Option (List ℕ))) (order : List OrderKey) (g : QueryGraph) → ValidQuery catalog text → IsGraphOf catalog text names order g → IsRight catalog text g
graph_right catalog text names order g valid is =
    let formed : IsFormed (stated_types catalog text) g = valid_formed catalog is.shared is.typed text names order g valid is.built is.stands in
    record {
      formed = formed.formed;
      typed = formed.typed;
      reaches = λ n i. root-reaches g.boxes g.root is.stands.ordered is.built.used n i;
      rows = λ tables fit. valid_rows catalog is.shared is.typed text names order g tables valid is.built fit;
    }

-- what is laid, by the sources that it knows at its end
pub laid_is : (known : Sources) (catalog : Declared) (text : s.QueryText) (names : List (Option (List ℕ))) (order : List OrderKey) → ValidQuery catalog text → ((name : List ℕ) → known.columns name ≡ (known_in catalog).columns name)
    → IsLaidFor (sources_of catalog (box_named (laid_for known catalog text).boxes.shared) (typed_by (laid_for known catalog text).boxes.rows)) (query (schema_columns catalog) [] text.query) names order (laid_for known catalog text)
laid_is known catalog text names order valid counts =
    let r : Laid = laid_for known catalog text in
    let shared : List ℕ → ℕ = box_named r.boxes.shared in
    let typed : Term → SqlType = typed_by r.boxes.rows in
    is-laid-for known (sources_of catalog shared typed) (graph_tables catalog) (view_trees catalog) (deep_in catalog) (query (schema_columns catalog) [] text.query) names order (record { counts = counts; typed = λ x. refl; shared = λ name. refl }) (valid_over catalog shared typed text valid)

pub laid_graph : (known : Sources) (catalog : Declared) (text : s.QueryText) (names : List (Option (List ℕ))) (order : List OrderKey) → ValidQuery catalog text → ((name : List ℕ) → known.columns name ≡ (known_in catalog).columns name)
    → IsGraphOf catalog text names order (graph_of (laid_for known catalog text) names order)
laid_graph known catalog text names order valid counts =
    let r : Laid = laid_for known catalog text in
    let shared : List ℕ → ℕ = box_named r.boxes.shared in
    let typed : Term → SqlType = typed_by r.boxes.rows in
    let sources : Sources = sources_of catalog shared typed in
    let laid : IsLaidFor sources (query (schema_columns catalog) [] text.query) names order r = laid_is known catalog text names order valid counts in
    record {
      shared = shared;
      typed = typed;
      built = laid.built;
      stands = record { ordered = laid.ordered; once = laid.once; told = laid-told r.boxes laid.typed sources (λ x. refl); apart = laid.apart };
      there = laid.there;
    }

pub graphs_one_to_one : (catalog : Declared) (text : s.QueryText) (names : List (Option (List ℕ))) (order : List OrderKey) (g h : QueryGraph) → IsGraphOf catalog text names order g → IsGraphOf catalog text names order h → AreOneToOne g h
graphs_one_to_one catalog text names order g h first second =
    are-one-to-one (sources_of catalog first.shared first.typed) second.shared second.typed (query (schema_columns catalog) [] text.query) names order g h
    (record { built = first.built; ordered = first.stands.ordered; once = first.stands.once; there = first.there })
    (record { built = second.built; ordered = second.stands.ordered; once = second.stands.once; there = second.there })

pub graphs_alike : (catalog : Declared) (text : s.QueryText) (names : List (Option (List ℕ))) (order : List OrderKey) (g h : QueryGraph) → ValidQuery catalog text → IsGraphOf catalog text names order g → IsGraphOf catalog text names order h → SameButNumbers g h
graphs_alike catalog text names order g h valid first second =
    same-graphs (kinds_of (heads_of catalog)) (sources_of catalog first.shared first.typed) second.shared second.typed (query (schema_columns catalog) [] text.query) (stated_types catalog text) names order g h first.built second.built
    first.stands.ordered second.stands.ordered first.stands.once second.stands.once (schema_sources_typed catalog first.shared first.typed valid.schema) first.stands.told second.stands.told (text_has_types catalog valid.schema text valid.grammar valid.valid)

pub graphs_print_alike : (catalog : Declared) (text : s.QueryText) (names : List (Option (List ℕ))) (order : List OrderKey) (g h : QueryGraph) → ValidQuery catalog text → IsGraphOf catalog text names order g → IsGraphOf catalog text names order h
    → text_of g ≡ text_of h
graphs_print_alike catalog text names order g h valid first second =
    checked-text g h (numbers-once g.boxes first.stands.ordered) (numbers-once h.boxes second.stands.ordered) (graph_right catalog text names order g valid first).formed
    (graph_right catalog text names order h valid second).formed (graphs_alike catalog text names order g h valid first second) (graphs_one_to_one catalog text names order g h first second)
