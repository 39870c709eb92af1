use Rattle.std.proofs.Common.{◌≡◌, ◌∙◌, ap}
use Rattle.std.specs.Prelude.{IsAscii, encode_utf8_all}
use Rattle.std.proofs.lemmas.Result.{IfOk-weaker}
use Rattle.std.proofs.lemmas.Str.{encodes-IsAscii}
use Rattle.sql_value.proofs.character_string.CharacterString.from_utf8.Goals as goal

pub returns-then-is_ascii : goal.returns-then-is_ascii
returns-then-is_ascii c =
    let ascii : IsAscii c.args.text.now = (rw c.if-is_ascii.true at c.is_ascii.ensures).cases in
    IfOk-weaker c.from_ascii.result _ _ (λ t e. ap encode_utf8_all (e ∙ c.as_bytes.ensures.value) ∙ encodes-IsAscii c.args.text.now ascii) c.from_ascii.ensures
