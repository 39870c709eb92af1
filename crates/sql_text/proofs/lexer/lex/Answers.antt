use Rattle.std.proofs.Common.{◌≡◌, ◌∙◌, ap, length, arith}
use Rattle.std.specs.Prelude.{encode_utf8_all}
use Rattle.sql_text.specs.declared.refusal.LexRefusal.TheVariants as r
use Rattle.sql_text.proofs.Lexed.{widths_are, not_utf8_tokens, lexed, lexed_ok, lexed_fault, lexed_ascend, lexed_stand}
use Rattle.sql_text.proofs.lexer.lex.Goals as goal

pub returns-in_default-clause-bad_character : goal.returns-in_default-clause-bad_character
returns-in_default-clause-bad_character c = λ _. not_utf8_tokens c.args.bytes.now c.in_default.ensures.cases.0

pub spans-requires : goal.spans-requires
spans-requires c =
    let written : encode_utf8_all c.as_slice.result.now ≡ c.args.bytes.now = rw c.as_slice.ensures (c.in_ok-text.ensures ∙ c.in-Ok.ensures.cases.0) in
    omega (arith, widths_are c.as_slice.result.now ∙ ap length written)

pub returns-clause-tokens : goal.returns-clause-tokens
returns-clause-tokens c =
    let written : encode_utf8_all c.as_slice.result.now ≡ c.args.bytes.now = rw c.as_slice.ensures (c.in_ok-text.ensures ∙ c.in-Ok.ensures.cases.0) in
    lexed_ok c.spans.result _ (lexed c.args.bytes.now c.as_slice.result.now c.spans.result c.in-Ok.ensures.cases.1 written c.spans.ensures)

pub returns-clause-bad_character : goal.returns-clause-bad_character
returns-clause-bad_character c =
    let written : encode_utf8_all c.as_slice.result.now ≡ c.args.bytes.now = rw c.as_slice.ensures (c.in_ok-text.ensures ∙ c.in-Ok.ensures.cases.0) in
    λ same. lexed_fault c.spans.result _ r.BadCharacter (lexed c.args.bytes.now c.as_slice.result.now c.spans.result c.in-Ok.ensures.cases.1 written c.spans.ensures) same

pub returns-clause-unterminated : goal.returns-clause-unterminated
returns-clause-unterminated c =
    let written : encode_utf8_all c.as_slice.result.now ≡ c.args.bytes.now = rw c.as_slice.ensures (c.in_ok-text.ensures ∙ c.in-Ok.ensures.cases.0) in
    λ same. lexed_fault c.spans.result _ r.Unterminated (lexed c.args.bytes.now c.as_slice.result.now c.spans.result c.in-Ok.ensures.cases.1 written c.spans.ensures) same

pub returns-clause-number_too_large : goal.returns-clause-number_too_large
returns-clause-number_too_large c =
    let written : encode_utf8_all c.as_slice.result.now ≡ c.args.bytes.now = rw c.as_slice.ensures (c.in_ok-text.ensures ∙ c.in-Ok.ensures.cases.0) in
    λ same. lexed_fault c.spans.result _ r.NumberTooLarge (lexed c.args.bytes.now c.as_slice.result.now c.spans.result c.in-Ok.ensures.cases.1 written c.spans.ensures) same

pub returns-clause-ascending : goal.returns-clause-ascending
returns-clause-ascending c =
    let written : encode_utf8_all c.as_slice.result.now ≡ c.args.bytes.now = rw c.as_slice.ensures (c.in_ok-text.ensures ∙ c.in-Ok.ensures.cases.0) in
    lexed_ascend c.args.bytes.now c.as_slice.result.now c.spans.result written c.spans.ensures

pub returns-clause-slices : goal.returns-clause-slices
returns-clause-slices c =
    let written : encode_utf8_all c.as_slice.result.now ≡ c.args.bytes.now = rw c.as_slice.ensures (c.in_ok-text.ensures ∙ c.in-Ok.ensures.cases.0) in
    lexed_stand c.args.bytes.now c.as_slice.result.now c.spans.result written c.spans.ensures
