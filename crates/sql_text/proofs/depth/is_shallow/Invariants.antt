use Rattle.std.proofs.Common.{◌≡◌, ◌≤◌, ◌+◌, drop}
use Rattle.sql_text.specs.Depth as spec
use Rattle.sql_text.specs.Tokens.{token_list}
use Rattle.sql_text.proofs.depth.is_shallow.Given as goal

abbrev pub invariant-loop-spanned : goal.invariant-loop-spanned
invariant-loop-spanned l = (spec.shallow 64 (token_list l.tokens) ≡ spec.shallow l.room (token_list (drop l.spanned-index l.tokens))) × (l.room ≤ 64 + l.spanned-index)
