-- A function value that reads what may stand in brackets or in CASE, to a depth.
use Rattle.std.specs.Prelude.{ℕ, List, Result}
use Rattle.std.specs.declared.alloc.Global.{Global}
use denote.Bor.{Bor}
use Rattle.sql_text.specs.declared.token.Spanned.{Spanned}
use Rattle.sql_text.specs.Tokens.{token_list}
use Rattle.sql_parser.specs.declared.nested.Nonterminal.{Nonterminal}
use Rattle.sql_parser.specs.declared.nested.Tree.{Tree}
use Rattle.sql_parser.specs.declared.refusal.ParseRefusal.{ParseRefusal}
use Rattle.sql_parser.specs.Trees.{nested, seen}
use Rattle.sql_parser.specs.Words.{Gives}

-- It may be called at the depth for each kind, and answers with what reading gives.
pub record Nests (depth : ℕ) (pre : Global → ℕ → Nonterminal → Bor (List Spanned) → Type 0)
    (post : Global → ℕ → Nonterminal → Bor (List Spanned) → Result (Tree × Bor (List Spanned)) ParseRefusal → Type 0) : Type 0 where
  pub callable : (alloc : Global) (kind : Nonterminal) (ts : Bor (List Spanned)) → pre alloc depth kind ts
  pub reads : (alloc : Global) (kind : Nonterminal) (ts : Bor (List Spanned)) (r : Result (Tree × Bor (List Spanned)) ParseRefusal) → post alloc depth kind ts r
      → Gives (λ x. (seen x.0, token_list x.1.now)) r (nested kind depth (token_list ts.now))
