-- What is written within a box, where the FROM items of its quantifiers are given; and the same of lists, as the code has them.
use Rattle.std.specs.Prelude.{ℕ, ◌==◌, ◌++◌, nat_eq, Bool, false, List, [], ◌∷◌, Option, Some, None, codes}
use Rattle.std.specs.HashMap.{get}
use Rattle.std.specs.List.{flat_map}
use Rattle.list_laws.specs.Lists.{first}
use Rattle.graph_print.specs.Places.{place_in}
use Rattle.qgm_terms.specs.Terms.{Choice, Cond, Link, Term}
use Rattle.qgm_props.specs.Table.{facts_of}
use Rattle.qgm_props.specs.declared.facts.BoxFacts.{BoxFacts}
use Rattle.graph_sql.specs.Readings.{Names, cell_sql, cond_sql}
use Rattle.graph_sql.specs.Statement.{Expression, Test, column, compared, not_false, not_true}
use Rattle.graph_sql.specs.Text.{close_chain, close_comparison, connective_word, expression_text, op_word, open_chain, open_comparison, test_text}
use Rattle.graph_sql.specs.declared.form.Form.{Form}
use Rattle.graph_sql.specs.declared.form.Wrap.{Wrap}
use Rattle.graph_sql.specs.declared.form.Wrap.TheVariants.{Bare, NotTrue, NotFalse}
use Rattle.graph_sql.specs.declared.reading.Connective.{Connective}
use Rattle.graph_sql.specs.declared.reading.Reading.{Reading}
use Rattle.graph_sql.specs.declared.reading.Reading.TheVariants as r
use Rattle.graph_sql.specs.declared.scope.Item.{Item}
use Rattle.graph_sql.specs.declared.scope.Scope.{Scope}
use Rattle.graph_sql.specs.declared.scope.Sure.{Sure}

-- ---- names

abbrev pub is_item : ℕ → Item → Bool
is_item q i = i.id == q

abbrev pub text_found : Option Item → List ℕ
text_found None = []
text_found (Some i) = i.text

abbrev pub source_found : Option Item → List ℕ
source_found None = []
source_found (Some i) = i.source

-- a column of the box that is found is known to hold no null
abbrev pub sure_found : List BoxFacts → Option ℕ → ℕ → Bool
sure_found facts None k = false
sure_found facts (Some b) k = (facts_of facts).not_null b k

abbrev pub is_sure : Sure → ℕ → ℕ → Bool
is_sure s q k = sure_found s.facts.now (get nat_eq s.overs q) k

abbrev pub names_in : Scope → Names (List ℕ)
names_in s = record {
  range = λ q. text_found (first (is_item q) s.items.now);
  source = λ q. source_found (first (is_item q) s.items.now);
  column = λ q k. column q k;
  not_null = is_sure s.sure.now;
}

abbrev pub number_in : Scope → ℕ → ℕ
number_in s = place_in s.at.now

-- ---- texts

abbrev pub term_text : Scope → Term → List ℕ
term_text s x = expression_text (number_in s) (cell_sql (names_in s) x)

-- a reading of a condition, by the chain of which it is the first operand
abbrev pub cond_text : Scope → Option Connective → Reading → Cond → List ℕ
cond_text s chain r p = test_text (number_in s) chain (cond_sql (names_in s) r p)

-- an operand behind a first one
abbrev pub link_text : Scope → Link → List ℕ
link_text s l = op_word l.op ++ term_text s l.right ++ codes ")"

abbrev pub links_text : Scope → List Link → List ℕ
links_text s ls = flat_map (link_text s) ls

abbrev pub choice_text : Scope → Choice → List ℕ
choice_text s c = codes " WHEN " ++ cond_text s None r.True c.when ++ codes " THEN " ++ term_text s c.then

abbrev pub choices_text : Scope → List Choice → List ℕ
choices_text s cs = flat_map (choice_text s) cs

-- a condition behind the first of a chain
abbrev pub next_cond : Scope → Reading → Connective → Cond → List ℕ
next_cond s r k p = connective_word k ++ cond_text s None r p

abbrev pub next_conds : Scope → Reading → Connective → List Cond → List ℕ
next_conds s r k ps = flat_map (next_cond s r k) ps

-- the brackets of a first condition and others; none where there are no others
abbrev pub inner_chain : Option Connective → Connective → List Cond → Option Connective
inner_chain chain k [] = chain
inner_chain chain k (q ∷ qs) = Some k

abbrev pub open_list : Option Connective → Connective → List Cond → List ℕ
open_list chain k [] = []
open_list chain k (q ∷ qs) = open_chain chain k

abbrev pub close_list : Option Connective → Connective → List Cond → List ℕ
close_list chain k [] = []
close_list chain k (q ∷ qs) = close_chain chain k

-- the readings of a first condition and others, joined
abbrev pub chain_text : Scope → Option Connective → Reading → Connective → Cond → List Cond → List ℕ
chain_text s chain r k p qs = open_list chain k qs ++ cond_text s (inner_chain chain k qs) r p ++ next_conds s r k qs ++ close_list chain k qs

-- ---- comparisons

-- a comparison in its form
abbrev pub wrapped : {R : Type 0} → Wrap → Test R → Test R
wrapped Bare p = p
wrapped NotTrue p = not_true p
wrapped NotFalse p = not_false p

abbrev pub formed : {R : Type 0} → Form → Expression R → Expression R → Test R
formed f x y = wrapped f.wrap (compared f.comparison x y)

abbrev pub open_wrap : Wrap → List ℕ
open_wrap Bare = []
open_wrap NotTrue = codes "("
open_wrap NotFalse = codes "("

abbrev pub close_wrap : Wrap → List ℕ
close_wrap Bare = []
close_wrap NotTrue = codes " IS NOT TRUE)"
close_wrap NotFalse = codes " IS NOT FALSE)"

abbrev pub open_form : Form → List ℕ
open_form f = open_wrap f.wrap ++ open_comparison f.comparison

abbrev pub close_form : Form → List ℕ
close_form f = close_comparison f.comparison ++ close_wrap f.wrap

-- ---- EXISTS

-- what stands before the rows, for a condition of some row, and of every row
abbrev pub open_some : Reading → List ℕ
open_some r.True = codes "(EXISTS (SELECT 1 FROM "
open_some r.False = codes "(NOT EXISTS (SELECT 1 FROM "
open_some r.NotTrue = codes "(NOT EXISTS (SELECT 1 FROM "
open_some r.NotFalse = codes "(EXISTS (SELECT 1 FROM "

abbrev pub open_every : Reading → List ℕ
open_every r.True = codes "(NOT EXISTS (SELECT 1 FROM "
open_every r.False = codes "(EXISTS (SELECT 1 FROM "
open_every r.NotTrue = codes "(EXISTS (SELECT 1 FROM "
open_every r.NotFalse = codes "(NOT EXISTS (SELECT 1 FROM "
