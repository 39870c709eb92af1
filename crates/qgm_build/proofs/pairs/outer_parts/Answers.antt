use Rattle.std.proofs.Common.{◌++◌, ◌∙◌, ap, map, suc}
use Rattle.std.proofs.lemmas.Result.{IfOk-weaker}
use Rattle.sql_meaning.specs.ResolvedShown as shown
use Rattle.qgm_translation.specs.Lay.{laying}
use Rattle.qgm_translation.specs.Maps.{ref_term}
use Rattle.qgm_translation.specs.Shown.{refs}
use Rattle.qgm_translation.specs.Sources.{from_width}
use Rattle.qgm_build.specs.Laying.{outer_of, told_at}
use Rattle.qgm_build_terms.specs.SoFar.{so_far}
use Rattle.qgm_build_terms.specs.Written.{frame_of}
use Rattle.qgm_build.proofs.Finished.{cond_at}
use Rattle.qgm_build.proofs.Selected.{part_of}
use Rattle.qgm_build.proofs.pairs.outer_parts.Goals as goal

pub returns-clause-head : goal.returns-clause-head
returns-clause-head c =
    IfOk-weaker c.select_parts.result _ _ (λ made e. e ∙ ap (map ref_term) (ap frame_of c.deref-2.ensures.value ∙ c.in_ok-seen.ensures))
    (part_of c.select_parts.result c.seen_head-head.result (λ made. made.head) _ c.select_parts.ensures.head c.seen_head-head.ensures)

pub returns-clause-conds : goal.returns-clause-conds
returns-clause-conds c =
    IfOk-weaker c.select_parts.result _ _ (λ made e. cond_at (laying (told_at c.args.g.now) (so_far c.args.st.now)) (outer_of c.args.g.now) (shown.test c.args.p.now) (frame_of c.deref.result.now) (refs c.args.q 1 (from_width (told_at c.args.g.now) (shown.from c.args.x.now)) ++ refs (suc c.args.q) 1 c.args.n) made.conds.items (ap frame_of c.deref.ensures.value ∙ c.in_ok-seen.ensures) e)
    (part_of c.select_parts.result c.outer_conds-conds.result (λ made. made.conds) _ c.select_parts.ensures.conds c.outer_conds-conds.ensures.conds)

pub returns-clause-spare : goal.returns-clause-spare
returns-clause-spare c = part_of c.select_parts.result c.outer_conds-conds.result (λ made. made.conds) _ c.select_parts.ensures.conds c.outer_conds-conds.ensures.spare
