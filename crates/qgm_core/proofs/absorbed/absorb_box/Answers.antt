use Rattle.std.proofs.Common.{◌≡◌, List, get_or, ap, sym, ◌∙◌, arith}
use Rattle.qgm_core.specs.Edits.{spliced_at, with_quants}
use Rattle.qgm_core.specs.declared.node.Node.{Node}
use Rattle.qgm_core.specs.declared.owned.OwnedQuant.{OwnedQuant}
use Rattle.qgm_core.proofs.ByNumber.{read-within}
use Rattle.qgm_core.proofs.Spliced.{absorbed-at}
use Rattle.std.proofs.lemmas.Grind.{common_steps}
use Rattle.qgm_core.proofs.absorbed.absorb_box.Goals as goal

pub returns-clause-ok : goal.returns-clause-ok
returns-clause-ok c =
    let xs = c.args.nodes.now.items in
    let i = c.args.i in
    let own = rw c.deref.ensures.value at c.box_place-to.ensures.first in
    let at = rw c.deref-2.ensures.value at c.box_place-from.ensures.at in
    let j = c.box_place-to.result in
    let k = c.box_place-from.result in
    let n = c.index_mut.result.now in
    let d = c.index.result.now in
    let e = c.index-2.result.now in
    let cs : List OwnedQuant = (get_or xs k e).quants in
    let mine : c.as_slice.result.now ≡ n.quants = c.as_slice.ensures ∙ ap (λ (n : Node). n.quants) (c.index.ensures ∙ read-within xs j d n own.0 ∙ sym c.index_mut.ensures.value) in
    let others : c.as_slice-2.result.now ≡ cs = c.as_slice-2.ensures ∙ ap (λ (n : Node). n.quants) c.index-2.ensures in
    let all : c.in_ok-quants.quants ≡ spliced_at i cs n.quants = c.in_ok-quants.ensures ∙ ap (λ (rs : List OwnedQuant). spliced_at i rs c.as_slice.result.now) others ∙ ap (λ (rs : List OwnedQuant). spliced_at i cs rs) mine in
    c.remove-dropped.ensures.items
    ∙ absorbed-at c.args.b i c.args.c xs j k _ n e own (sym at) c.requires.apart
    (ap {B = Node} (λ (rs : List OwnedQuant). record n { quants = rs }) all ∙ ap (with_quants (spliced_at i cs)) c.index_mut.ensures.value)

pub spliced-requires : goal.spliced-requires
spliced-requires c = grind (arith, common_steps)

pub remove-dropped-requires : goal.remove-dropped-requires
remove-dropped-requires c = grind (arith, common_steps)
