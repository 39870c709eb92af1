use Rattle.std.proofs.Common.{arith}
use Rattle.sql_text.specs.Depth as spec
use Rattle.sql_text.specs.Tokens.{token_list}
use Rattle.sql_text.proofs.Crowds.{crowded_is}
use Rattle.sql_text.proofs.depth.is_crowded.Goals as goal

pub loop-spanned-init : goal.loop-spanned-init
loop-spanned-init c = (crowded_is (spec.is_counted c.args.counted) c.args.limit (token_list c.args.tokens.now), omega arith)
