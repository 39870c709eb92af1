use Rattle.std.proofs.Common.{◌∙◌, Some, None, ap}
use Rattle.std.specs.Option.{option_or}
use Rattle.qgm_core.proofs.ByNumber.{read-within}
use Rattle.qgm_props.proofs.ByNumber.{noted-one}
use Rattle.qgm_props.proofs.range_table.note.Goals as goal

pub returns : goal.returns
returns c =
    let long = c.make_long.new.by_number.items in
    let r = c.args.range in
    let l = c.in_ok-make_long.ensures.within in
    noted-one c.args.by_number.now.items long r c.or.result c.in_ok-make_long.ensures.same l
    (c.or.ensures ∙ ap (λ o. option_or o (Some r)) (c.index.ensures ∙ read-within long r.id c.index.result.now None l))
