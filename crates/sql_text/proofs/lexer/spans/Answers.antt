use Rattle.std.proofs.Common.{◌∙◌, refl, arith}
use Rattle.std.proofs.lemmas.List.{length-drop}
use Rattle.std.proofs.lemmas.List.Sums.{sum_by-take-drop}
use Rattle.sql_text.specs.Tokens.{width}
use Rattle.sql_text.proofs.Lexed.{first_is, tokens_step}
use Rattle.sql_text.proofs.lexer.spans.Goals as goal

pub split_at-requires : goal.split_at-requires
split_at-requires c = (first_is c.text.rest.now (c.in_ok-found.found, c.in_ok-found.size) c.in_ok-found.ensures).1

pub text-preserved : goal.text-preserved
text-preserved c =
    let found = first_is c.text.rest.now (c.in_ok-found.found, c.in_ok-found.size) c.in_ok-found.ensures in
    let step = tokens_step c.text.spans.items c.text.place c.text.rest.now (c.in_ok-found.found, c.in_ok-found.size) c.in_ok-found.ensures found.0 in
    let parts = sum_by-take-drop width c.text.rest.now c.in_ok-found.size in (
      c.text.invariant.0 ∙ step ∙ rw (c.in_ok-add.ensures, c.utf8_length-bytes.ensures, c.split_at.ensures.front, c.split_at.ensures.back) refl,
      rw (c.utf8_length-bytes.ensures, c.split_at.ensures.front, c.split_at.ensures.back) (omega (arith, c.text.invariant.1, parts)),
    )

pub text-smaller : goal.text-smaller
text-smaller c =
    let found = first_is c.text.rest.now (c.in_ok-found.found, c.in_ok-found.size) c.in_ok-found.ensures in
    rw c.split_at.ensures.back (omega (arith, found.0, found.1, length-drop c.in_ok-found.size c.text.rest.now))
