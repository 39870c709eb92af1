use Rattle.std.proofs.Common.{◌≡◌, ℕ, List, length, get_or, ap, sym, ◌∙◌, arith}
use Rattle.qgm_core.specs.declared.owned.OwnedQuant.{OwnedQuant}
use Rattle.qgm_core.proofs.Requanted.{places-other, places-same}
use Rattle.qgm_core.proofs.moves.places_for.Goals as goal

pub returns-then-from-to : goal.returns-then-from-to
returns-then-from-to c =
    let xs = c.args.nodes.now in
    let k = c.owner_place-from.result in
    let j = c.box_place-to.result in
    let d = c.index-nodes-to.result in
    let e = places-same c.args.q c.args.b xs k j d c.owner_place-from.ensures (sym c.box_place-to.ensures.at) c.if-from-to.true in
    ap (λ (rs : List OwnedQuant). length rs) c.as_slice-owned.ensures ∙ ap (λ (i : ℕ). length (get_or xs i d).quants) (sym c.if-from-to.true) ∙ e

pub returns-else-from-to : goal.returns-else-from-to
returns-else-from-to c =
    let xs = c.args.nodes.now in
    let k = c.owner_place-from.result in
    let j = c.box_place-to.result in
    let d = c.index-nodes-to.result in
    let e = places-other c.args.q c.args.b xs k j d c.owner_place-from.ensures (sym c.box_place-to.ensures.at) c.if-from-to.false in
    let f : length c.as_slice-owned.result.now ≡ length (get_or xs j d).quants = ap (λ (rs : List OwnedQuant). length rs) c.as_slice-owned.ensures in
    omega (arith, e, f)
