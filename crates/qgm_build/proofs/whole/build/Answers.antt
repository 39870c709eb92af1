use Rattle.std.proofs.Common.{ap}
use Rattle.std.proofs.lemmas.Result.{IfOk-weaker}
use Rattle.qgm_build_terms.specs.SoFar.{so_far}
use Rattle.qgm_build.proofs.Laying.{built_is, few_is, graph_is, numbered_is, right_is, rows_is}
use Rattle.qgm_build.proofs.whole.build.Goals as goal

pub graph_laid-requires : goal.graph_laid-requires
graph_laid-requires c =
    record { numbered = numbered_is c.args.catalog.now c.args.views.now c.args.checked.now c.requires.query c.laid_graph_laws.ensures.numbered c.in_ok-w.w.root (so_far c.in_ok-w.w.store) c.in_ok-w.ensures.laid }

pub returns-clause-built : goal.returns-clause-built
returns-clause-built c =
    IfOk-weaker c.graph_laid.result _ _ (λ g e.
    built_is c.args.catalog.now c.args.views.now c.args.checked.now c.requires.query c.laid_graph_laws.ensures.laid g
    (graph_is c.args.catalog.now c.args.views.now c.args.checked.now c.requires.query g c.in_ok-w.w.root (so_far c.in_ok-w.w.store) c.in_ok-w.ensures.laid e))
    c.graph_laid.ensures

pub returns-clause-right : goal.returns-clause-right
returns-clause-right c =
    IfOk-weaker c.graph_laid.result _ _ (λ g e.
    right_is c.args.catalog.now c.args.views.now c.args.checked.now c.requires.query c.laid_graph_laws.ensures.laid c.laid_graph_laws.ensures.right g
    (graph_is c.args.catalog.now c.args.views.now c.args.checked.now c.requires.query g c.in_ok-w.w.root (so_far c.in_ok-w.w.store) c.in_ok-w.ensures.laid e))
    c.graph_laid.ensures

pub returns-clause-formed : goal.returns-clause-formed
returns-clause-formed c =
    IfOk-weaker c.graph_laid.result _ _ (λ g e.
    (right_is c.args.catalog.now c.args.views.now c.args.checked.now c.requires.query c.laid_graph_laws.ensures.laid c.laid_graph_laws.ensures.right g
    (graph_is c.args.catalog.now c.args.views.now c.args.checked.now c.requires.query g c.in_ok-w.w.root (so_far c.in_ok-w.w.store) c.in_ok-w.ensures.laid e) c.requires.query.text c.requires.query.is).formed)
    c.graph_laid.ensures

pub returns-clause-reaches : goal.returns-clause-reaches
returns-clause-reaches c =
    IfOk-weaker c.graph_laid.result _ _ (λ g e.
    (right_is c.args.catalog.now c.args.views.now c.args.checked.now c.requires.query c.laid_graph_laws.ensures.laid c.laid_graph_laws.ensures.right g
    (graph_is c.args.catalog.now c.args.views.now c.args.checked.now c.requires.query g c.in_ok-w.w.root (so_far c.in_ok-w.w.store) c.in_ok-w.ensures.laid e) c.requires.query.text c.requires.query.is).reaches)
    c.graph_laid.ensures

pub returns-clause-rows : goal.returns-clause-rows
returns-clause-rows c =
    IfOk-weaker c.graph_laid.result _ _ (λ g e.
    rows_is c.args.catalog.now c.args.views.now c.args.checked.now c.requires.query c.laid_graph_laws.ensures.laid c.laid_graph_laws.ensures.right g
    (graph_is c.args.catalog.now c.args.views.now c.args.checked.now c.requires.query g c.in_ok-w.w.root (so_far c.in_ok-w.w.store) c.in_ok-w.ensures.laid e))
    c.graph_laid.ensures

pub returns-clause-few : goal.returns-clause-few
returns-clause-few c = IfOk-weaker c.graph_laid.result _ _ (λ g e. few_is g (so_far c.in_ok-w.w.store).made c.in_ok-w.w.store.left (ap (λ x. x.boxes) e) c.in_ok-w.w.store.counted) c.graph_laid.ensures
