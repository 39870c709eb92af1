-- The text that tells of a rewriting: lines, each with a line feed at its end.
use Rattle.std.specs.Prelude.{ℕ, ◌≡◌, ◌+◌, ◌++◌, List, [], ◌∷◌, length, Option, Some, None, codes, decimal}
use Rattle.graph_print.specs.GraphText.{box_order, text_of}
use Rattle.graph_print.specs.Places.{place_in}
use Rattle.qgm_core.specs.Boxes.{QueryGraph}
use Rattle.rule_plan.specs.declared.plan.Plan.{Plan}
use Rattle.row_bag.specs.declared.tables.Table.{Table}
use Rattle.rule_api.specs.declared.place.Firing.{Firing}
use Rattle.rule_api.specs.RuleIds.{entry_of}
use Rattle.rule_engine.specs.Trace.{Leads}
use Rattle.qgm_run.specs.Answers.{IsRewritten}
use Rattle.rule_set.specs.Rewriting.{Rewrites}
use Rattle.rule_set.specs.Built.{built_act, built_may, built_pairs}

-- ---- lines

-- a line of a word and a number
unfoldable pub count_line : List ℕ → ℕ → List ℕ
count_line word n = word ++ decimal n ++ codes "\n"

-- how many firings there were, and how many evaluations of boxes
abbrev pub count_lines : ℕ → ℕ → List ℕ
count_lines firings evals = count_line (codes "FIRINGS ") firings ++ count_line (codes "EVALS ") evals

-- a graph after k firings
unfoldable pub graph_lines : ℕ → QueryGraph → List ℕ
graph_lines k g = count_line (codes "GRAPH ") k ++ text_of g

abbrev pub spaced : ℕ → List ℕ
spaced n = codes " " ++ decimal n

-- the k-th firing, by its rule, the place of its box in this order, and its two numbers
unfoldable pub fire_line_in : ℕ → List ℕ → Firing → List ℕ
fire_line_in k order f = codes "FIRE " ++ decimal k ++ codes " " ++ (entry_of f.rule).word ++ spaced (place_in order f.place.at) ++ spaced f.place.i ++ spaced f.place.j ++ codes "\n"

-- in a graph, whose boxes have the numbers that its text gives them
abbrev pub fire_line : ℕ → QueryGraph → Firing → List ℕ
fire_line k g f = fire_line_in k (box_order g) f

-- ---- firings in a row

-- after k firings f leads from g to h: its line, by the numbers of g, and h
abbrev pub firing_lines : ℕ → QueryGraph → Firing → QueryGraph → List ℕ
firing_lines k g f h = fire_line (k + 1) g f ++ graph_lines (k + 1) h

-- a step: nothing where nothing fires
abbrev pub step_lines : ℕ → QueryGraph → Option Firing → QueryGraph → List ℕ
step_lines k g None h = []
step_lines k g (Some f) h = firing_lines k g f h

-- after k firings these lead on from g, by the rules that are built
abbrev pub LeadsOn : Plan → ℕ → QueryGraph → List Firing → QueryGraph → Type 0
LeadsOn plan k g fs h = Leads built_pairs built_may built_act plan k g fs h

-- the lines of these firings, each with the graph that it leads to
abbrev pub lines_along : (plan : Plan) (k : ℕ) (g : QueryGraph) (fs : List Firing) (h : QueryGraph) → LeadsOn plan k g fs h → List ℕ
lines_along plan k g [] h leads = []
lines_along plan k g (f ∷ fs) h leads = firing_lines k g f leads.0 ++ lines_along plan (k + 1) leads.0 fs h leads.1.1

-- ---- a whole rewriting

-- n firings rewrite g to h, and after `before` stands g, and then each firing with the graph that it leads to
pub record Told (plan : Plan) (g h : QueryGraph) (n : ℕ) (before after : List ℕ) : Type 0 where
  pub fs : List Firing
  pub rewrites : Rewrites plan g fs h
  pub many : n ≡ length fs
  pub is : after ≡ before ++ graph_lines 0 g ++ lines_along plan 0 g fs h rewrites.leads

-- the text of n firings that rewrite g to a graph whose execution takes the steps from `before` to `after`: g, each firing with the graph that it leads to, how many firings there are, and how many evaluations of boxes are told
pub record IsTold (tables : List Table) (plan : Plan) (g : QueryGraph) (n evals before after : ℕ) (text : List ℕ) : Type 0 where
  pub rewritten : IsRewritten tables plan g n before after
  pub is : text ≡ graph_lines 0 g ++ lines_along plan 0 g rewritten.fs rewritten.h rewritten.rewrites.leads ++ count_lines n evals
