use Rattle.std.proofs.Common.{◌≡◌, ◌∙◌, ap, map, string_bytes, sym}
use Rattle.std.proofs.lemmas.Result.{IfOk-weaker}
use Rattle.std.specs.Prelude.{option_and_then}
use Rattle.clap.specs.Words.{app_of, is_simple_and_free}
use Rattle.command_line.specs.Reading.{command_at, known_line}
use Rattle.command_line.proofs.ReaderLemmas.{is_simple_of, refused, simple_line, taken}
use Rattle.command_line.proofs.reader.known_line.Goals as goal

pub returns-in-Err-clause-usage : goal.returns-in-Err-clause-usage
returns-in-Err-clause-usage c = λ u.
    let whole = ap app_of c.into_inner.ensures ∙ c.in-Ok.ensures in
    refused _ _ c.in-Err.error whole (c.in-Err.ensures.kinds (ap is_simple_and_free whole ∙ simple_line)) (λ m. c.refusal_of.ensures (cc) (c.kind.ensures ∙ m))

pub returns-clause-ok : goal.returns-clause-ok
returns-clause-ok c =
    let m = c.in-Ok-try_get_matches_from.ensures in
    let whole = ap app_of c.into_inner.ensures ∙ c.in-Ok.ensures in
    let simple = ap is_simple_and_free whole ∙ simple_line in
    let rows = (m.matches (is_simple_of (app_of c.into_inner.result) simple)).1 in
    let is : known_line (map string_bytes c.args.words.now) ≡ _ = taken _ _ whole (m.kinds simple) ∙ ap (option_and_then command_at) (sym rows) in
    IfOk-weaker c.line_of.result _ _ (λ l h. is ∙ h) c.line_of.ensures.ok

pub returns-clause-usage : goal.returns-clause-usage
returns-clause-usage c =
    let m = c.in-Ok-try_get_matches_from.ensures in
    let whole = ap app_of c.into_inner.ensures ∙ c.in-Ok.ensures in
    let simple = ap is_simple_and_free whole ∙ simple_line in
    let rows = (m.matches (is_simple_of (app_of c.into_inner.result) simple)).1 in
    let is : known_line (map string_bytes c.args.words.now) ≡ _ = taken _ _ whole (m.kinds simple) ∙ ap (option_and_then command_at) (sym rows) in
    λ u. is ∙ c.line_of.ensures.usage u
