use Rattle.std.proofs.Common.{◌≡◌, ◌≤◌, drop}
use Rattle.sql_text.specs.Depth as spec
use Rattle.sql_text.specs.Tokens.{token_list}
use Rattle.sql_text.proofs.Crowds.{running}
use Rattle.sql_text.proofs.depth.is_crowded.Given as goal

abbrev pub invariant-loop-spanned : goal.invariant-loop-spanned
invariant-loop-spanned l = (spec.crowded (spec.is_counted l.counted) l.limit (token_list l.tokens) ≡ running (spec.is_counted l.counted) l.limit l.count (token_list (drop l.spanned-index l.tokens))) × (l.count ≤ l.limit)
