-- What a rewriting and an execution come to together.
use Rattle.std.proofs.Common.{◌≡◌, ℕ, List, ◌++◌, length, refl, ap, ◌∙◌}
use Rattle.std.proofs.lemmas.List.{append_assoc}
use Rattle.qgm_core.specs.Boxes.{QueryGraph}
use Rattle.qgm_meaning.specs.Meaning.{root_bag}
use Rattle.qgm_meaning.specs.Satisfies.{Satisfies}
use Rattle.qgm_meaning.specs.Values.{Bag}
use Rattle.rule_plan.specs.declared.plan.Plan.{Plan}
use Rattle.row_bag.specs.Bags.{Agree}
use Rattle.row_bag.specs.Sets.{same_cells}
use Rattle.row_bag.specs.declared.tables.Table.{Table}
use Rattle.rule_api.specs.Rules.{Preserves}
use Rattle.rule_api.specs.declared.place.Firing.{Firing}
use Rattle.qgm_run.specs.Answers.{Evaluates, IsRewritten}
use Rattle.rule_set.specs.Rewriting.{Rewrites}
use Rattle.qgm_run.specs.Explained.{IsTold, Told, count_lines, graph_lines, lines_along}

-- rows that agree with those of h agree with those of g
agree_before : (tables : List Table) (g h : QueryGraph) (rows : Bag) → Preserves g h → Satisfies tables g.boxes → Agree same_cells rows (root_bag tables h) → Agree same_cells rows (root_bag tables g)
agree_before tables g h rows p s a = record { counts = λ c level l. a.counts c level l ∙ (p.bag tables s).counts c level l }

pub rows_of_rewritten : (tables : List Table) (plan : Plan) (g : QueryGraph) (fs : List Firing) (h : QueryGraph) (rows : Bag) →
    Rewrites plan g fs h → Satisfies tables g.boxes → Agree same_cells rows (root_bag tables h) → Agree same_cells rows (root_bag tables g)
rows_of_rewritten tables plan g fs h rows r s a = agree_before tables g h rows r.preserves s a

pub is_rewritten : (tables : List Table) (plan : Plan) (g : QueryGraph) (fs : List Firing) (h : QueryGraph) (n before after : ℕ) →
    Rewrites plan g fs h → n ≡ length fs → Evaluates tables h before after → IsRewritten tables plan g n before after
is_rewritten tables plan g fs h n before after r many e = record { fs = fs; h = h; rewrites = r; many = many; evaluates = e }

pub rows_of_told : (tables : List Table) (plan : Plan) (g h : QueryGraph) (n : ℕ) (start lines : List ℕ) (rows : Bag) →
    Told plan g h n start lines → Satisfies tables g.boxes → Agree same_cells rows (root_bag tables h) → Agree same_cells rows (root_bag tables g)
rows_of_told tables plan g h n start lines rows t s a = agree_before tables g h rows t.rewrites.preserves s a

pub is_explained : (tables : List Table) (plan : Plan) (g h : QueryGraph) (n evals before after : ℕ) (start lines all : List ℕ) →
    Told plan g h n start lines → Evaluates tables h before after → all ≡ lines ++ count_lines n evals → (text : List ℕ) × (all ≡ start ++ text) × IsTold tables plan g n evals before after text
is_explained tables plan g h n evals before after start lines all t e is =
    let graph = graph_lines 0 g in
    let along = lines_along plan 0 g t.fs h t.rewrites.leads in
    let counts = count_lines n evals in (
      graph ++ along ++ counts,
      is ∙ ap (λ (xs : List ℕ). xs ++ counts) (t.is ∙ append_assoc start graph along) ∙ append_assoc start (graph ++ along) counts,
      record { rewritten = record { fs = t.fs; h = h; rewrites = t.rewrites; many = t.many; evaluates = e }; is = refl },
    )
