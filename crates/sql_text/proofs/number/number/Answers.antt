use Rattle.std.proofs.lemmas.List.Sums.{prefix_len-le-length}
use Rattle.sql_text.specs.Tokens.{is_digit}
use Rattle.sql_text.proofs.Numbers.{digits_pass}
use Rattle.sql_text.proofs.number.number.Goals as goal

pub split_at-requires : goal.split_at-requires
split_at-requires c = rw c.digits_length-size.ensures (prefix_len-le-length is_digit c.args.chars.now)

pub value-requires : goal.value-requires
value-requires c = rw (c.split_at.ensures.front, c.digits_length-size.ensures) (digits_pass c.args.chars.now)
