use Rattle.std.proofs.Common.{◌∙◌, ap, List, ℕ, []}
use Rattle.std.specs.Option.{unwrap_or}
use Rattle.std.specs.Borrow.{Bor}
use Rattle.clap.specs.Words.{found_of}
use Rattle.clap.proofs.WalkLemmas.{first_value-rows}
use Rattle.command_line.proofs.ReaderLemmas.{unwrap_now}
use Rattle.command_line.proofs.reader.text_at.Goals as goal

pub returns : goal.returns
returns c =
    let is = c.get_str.ensures ∙ first_value-rows (found_of c.args.matches.now) c.args.id.now in
    ap (λ (s : Bor (List ℕ)). s.now) c.unwrap_or.ensures ∙ (unwrap_now c.get_str.result _ ∙ ap (λ o. unwrap_or o []) is)
