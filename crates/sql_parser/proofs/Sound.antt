-- What is read is spelled so, with brackets and CASE nested to any depth.
use Rattle.std.proofs.Common.{◌≡◌, ℕ, zero, suc, true, List, Some}
use Rattle.sql_text.specs.declared.token.Token.{Token}
use Rattle.sql_ast.specs.Grammatical.{is_expr, is_cond, is_table, is_query}
use Rattle.sql_ast.specs.Spelling as sp
use Rattle.sql_ast.specs.Syntax as s
use Rattle.sql_parser.specs.Read.{expr, cond, query, table}
use Rattle.sql_parser.proofs.Steps.{none_some}
use Rattle.sql_parser.proofs.SoundSteps.{Sound}
use Rattle.sql_parser.proofs.SoundExpressions.{sum_sound}
use Rattle.sql_parser.proofs.SoundConditions.{disj_sound}
use Rattle.sql_parser.proofs.SoundTables.{tref_sound}
use Rattle.sql_parser.proofs.SoundQueries.{combined_sound}

-- the four readers of a depth
pub record Level (d : ℕ) : Type 0 where
  pub of_expr : Sound is_expr sp.expr (expr d)
  pub of_cond : Sound is_cond sp.cond (cond d)
  pub of_query : Sound is_query sp.query (query d)
  pub of_table : Sound is_table sp.table (table d)

pub level : (d : ℕ) → Level d
level zero = record {
  of_expr = record { holds = λ ts x h. absurd (none_some x h) };
  of_cond = record { holds = λ ts x h. absurd (none_some x h) };
  of_query = record { holds = λ ts x h. absurd (none_some x h) };
  of_table = record { holds = λ ts x h. absurd (none_some x h) };
}
level (suc d) =
    let k = level d in
    record {
      of_expr = record { holds = sum_sound (expr d) (cond d) (query d) (table d) k.of_expr k.of_cond k.of_query k.of_table };
      of_cond = record { holds = disj_sound (expr d) (cond d) (query d) (table d) k.of_expr k.of_cond k.of_query k.of_table };
      of_query = record { holds = combined_sound (expr d) (cond d) (query d) (table d) k.of_expr k.of_cond k.of_query k.of_table };
      of_table = record { holds = tref_sound (expr d) (cond d) (query d) (table d) k.of_expr k.of_cond k.of_query k.of_table };
    }

-- a query that was read is the grammar's, and its tokens are its own
pub query_reads : (d : ℕ) (ts : List Token) (q : s.Query) (us : List Token) → query d ts ≡ Some (q, us) → (is_query q ≡ true) × (ts ≡ sp.query q us)
query_reads d ts q us h =
    let p = (level d).of_query.holds ts (q, us) h in
    (p.grammatical, p.tokens)
