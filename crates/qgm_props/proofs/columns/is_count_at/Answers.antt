use Rattle.std.proofs.Common.{◌∙◌, ap, sym, option_map}
use Rattle.qgm_props.specs.Inferred as spec
use Rattle.qgm_props.proofs.Places.{place-none, place-some}
use Rattle.qgm_props.proofs.columns.is_count_at.Goals as goal

pub returns-in-Some : goal.returns-in-Some
returns-in-Some c =
    c.is_count.ensures ∙ sym (place-some (spec.is_count) c.args.head.now c.args.k c.in-Some.x.now (sym c.cell_at.ensures ∙ ap (option_map (λ x. x.now)) c.in-Some.is))

pub returns-in-None : goal.returns-in-None
returns-in-None c =
    sym (place-none (spec.is_count) c.args.head.now c.args.k (sym c.cell_at.ensures ∙ ap (option_map (λ x. x.now)) c.in-None.is))
