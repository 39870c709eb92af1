-- Firings that were told of.
use Rattle.std.proofs.Common.{◌≡◌, ℕ, ◌+◌, ◌≤◌, ◌<◌, List, [], ◌∷◌, ◌++◌, Some, None, length, refl, sym, ap, ap₂, ◌∙◌, arith, subst}
use Rattle.std.proofs.lemmas.Grind.{common_steps}
use Rattle.std.proofs.lemmas.List.{append-nil, append_assoc}
use Rattle.qgm_wellformed.specs.Sentences.{WellFormed}
use Rattle.qgm_core.specs.Boxes.{QueryGraph}
use Rattle.rule_plan.specs.declared.plan.Plan.{Plan}
use Rattle.rule_api.proofs.Chained.{preserves-chained, preserves-itself}
use Rattle.rule_api.specs.Rules.{Preserves}
use Rattle.rule_api.specs.declared.place.Firing.{Firing}
use Rattle.rule_engine.specs.Control.{candidates}
use Rattle.rule_engine.specs.Trace.{Fires, Stepped}
use Rattle.rule_set.specs.Built.{built_act, built_may, built_pairs}
use Rattle.qgm_run.specs.Explained.{LeadsOn, Told, firing_lines, graph_lines, lines_along}

abbrev FiresOn : Plan → ℕ → QueryGraph → Firing → QueryGraph → Type 0
FiresOn plan k g f h = Fires built_pairs built_may built_act plan k g f h

-- firings that lead on, with such lines
abbrev pub LeadsBy : Plan → ℕ → QueryGraph → List Firing → QueryGraph → List ℕ → Type 0
LeadsBy plan k g fs h lines = (leads : LeadsOn plan k g fs h) × (lines_along plan k g fs h leads ≡ lines)

-- one firing more
pub leads_by_more : (plan : Plan) (k n : ℕ) (g : QueryGraph) (fs : List Firing) (m : QueryGraph) (f : Firing) (h : QueryGraph) →
    k + length fs ≡ n → (leads : LeadsOn plan k g fs m) → FiresOn plan n m f h → LeadsBy plan k g (fs ++ f ∷ []) h (lines_along plan k g fs m leads ++ firing_lines n m f h)
leads_by_more plan k n g [] m f h e leads fires =
    let q : n ≡ k = omega arith in (
      (h, (subst (λ x. FiresOn plan k x f h) (sym leads) (subst (λ n. FiresOn plan n m f h) q fires), refl)),
      append-nil (firing_lines k g f h) ∙ ap₂ (λ k g. firing_lines k g f h) (sym q) leads,
    )
leads_by_more plan k n g (x ∷ fs) m f h e leads fires =
    let more = leads_by_more plan (k + 1) n leads.0 fs m f h (omega arith) leads.1.1 fires in (
      (leads.0, (leads.1.0, more.0)),
      ap (λ (lines : List ℕ). firing_lines k g x leads.0 ++ lines) more.1 ∙ sym (append_assoc (firing_lines k g x leads.0) (lines_along plan (k + 1) leads.0 fs m leads.1.1) (firing_lines n m f h)),
    )

-- n firings that lead from g to h, and whose lines stand behind `before`
pub record Fired (plan : Plan) (g h : QueryGraph) (n : ℕ) (before after : List ℕ) : Type 0 where
  pub fs : List Firing
  pub leads : LeadsOn plan 0 g fs h
  pub many : length fs ≡ n
  pub is : after ≡ before ++ lines_along plan 0 g fs h leads
  pub formed : WellFormed h
  pub preserves : Preserves g h

pub ran_none : (plan : Plan) (g : QueryGraph) (before : List ℕ) → WellFormed g → Fired plan g g 0 before before
ran_none plan g before w = record { fs = []; leads = refl; many = refl; is = sym (append-nil before); formed = w; preserves = preserves-itself g w }

pub ran_more : (plan : Plan) (g m h : QueryGraph) (n k : ℕ) (f : Firing) (before between after : List ℕ) →
    Fired plan g m n before between → k ≡ n + 1 → Stepped built_pairs built_may built_act plan n m (Some f) h → after ≡ between ++ firing_lines n m f h → Fired plan g h k before after
ran_more plan g m h n k f before between after ran e steps is =
    let many = ran.many in
    let counted : 0 + length ran.fs ≡ n = omega (arith, many) in
    let more = leads_by_more plan 0 n g ran.fs m f h counted ran.leads steps.0 in
    record {
      fs = ran.fs ++ f ∷ [];
      leads = more.0;
      many = grind (arith, common_steps, many, e);
      is =
          is
          ∙ ap (λ (lines : List ℕ). lines ++ firing_lines n m f h) ran.is
          ∙ append_assoc before (lines_along plan 0 g ran.fs m ran.leads) (firing_lines n m f h)
          ∙ ap (λ (lines : List ℕ). before ++ lines) (sym more.1);
      formed = steps.0.formed;
      preserves = preserves-chained g m h ran.preserves steps.1;
    }

-- where they are as many as the budget, or nothing is left to fire, they are a whole rewriting
pub told_of : (plan : Plan) (g h : QueryGraph) (n : ℕ) (start before after : List ℕ) →
    Fired plan g h n before after → before ≡ start ++ graph_lines 0 g → n ≤ plan.budget → (n < plan.budget → candidates built_pairs plan h ≡ []) → Told plan g h n start after
told_of plan g h n start before after ran begins within ends =
    let many = ran.many in
    record {
      fs = ran.fs;
      rewrites = record {
        leads = ran.leads;
        within = omega arith;
        ends = λ less. ends (omega arith);
        preserves = ran.preserves;
      };
      many = sym many;
      is = ran.is ∙ ap (λ (lines : List ℕ). lines ++ lines_along plan 0 g ran.fs h ran.leads) begins;
    }

-- where a step fires nothing, they are a whole rewriting
pub told_stopped : (plan : Plan) (g m h : QueryGraph) (n : ℕ) (start before between after : List ℕ) →
    Fired plan g m n before between → before ≡ start ++ graph_lines 0 g → n ≤ plan.budget → Stepped built_pairs built_may built_act plan n m None h → after ≡ between ++ [] → Told plan g h n start after
told_stopped plan g m h n start before between after ran begins within steps is =
    subst (λ x. Told plan g x n start after) (sym steps.0)
    (told_of plan g m n start before after (subst (λ lines. Fired plan g m n before lines) (sym (is ∙ append-nil between)) ran) begins within (λ less. steps.1))
