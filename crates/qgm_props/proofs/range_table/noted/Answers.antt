use Rattle.std.proofs.Common.{◌≡◌, ◌<◌, ◌∙◌, ℕ, None, List, length, get_or, ap, rules}
use Rattle.std.specs.Option.{option_or}
use Rattle.list_laws.specs.Lists.{first}
use Rattle.qgm_core.specs.Boxes.{is_quant}
use Rattle.qgm_core.specs.declared.owned.OwnedQuant.{OwnedQuant}
use Rattle.qgm_props.proofs.ByNumber.{noted-box-next}
use Rattle.qgm_props.proofs.range_table.noted.Goals as goal

pub loop-node-preserved : goal.loop-node-preserved
loop-node-preserved c =
    let i = c.loop-node.node-index in
    let l : i < length c.args.nodes.now = search rules in
    let own : (q : ℕ) → get_or c.note_all.new.by_number.items q None ≡ option_or (get_or c.loop-node.by_number.items q None) (first (is_quant q) c.node-item.result.quants) =
    λ q. c.in_ok-note_all.ensures q ∙ ap (λ (rs : List OwnedQuant). option_or (get_or c.loop-node.by_number.items q None) (first (is_quant q) rs)) c.as_slice.ensures
    in
    noted-box-next c.loop-node.by_number.items c.note_all.new.by_number.items c.args.nodes.now i c.node-item.result l c.node-item.is c.loop-node.invariant own
