use Rattle.std.proofs.Common.{ℕ, ◌≡◌, ◌+◌, ◌∙◌, List, ap, ap₂, arith}
use Rattle.std.proofs.lemmas.Grind.{common_steps}
use Rattle.qgm_core.specs.Boxes.{QueryGraph, width}
use Rattle.qgm_core.specs.Edits.{compact, move_below, put_box}
use Rattle.qgm_core.specs.declared.kinds.BoxKind.TheVariants.{Group}
use Rattle.qgm_core.specs.declared.kinds.Role.TheVariants.{Plain}
use Rattle.qgm_terms.specs.Conjuncts.{Conjuncts}
use Rattle.qgm_terms.specs.Terms.{Term}
use Rattle.rule_magic.specs.Boxes.{keyed, no_conds}
use Rattle.rule_magic.specs.Feeding.{as_feeding}
use Rattle.rule_magic.proofs.absorb_group.keyed.keyed_group.Goals as goal

pub returns : goal.returns
returns c =
    let f = as_feeding c.args.fed.now in
    let k = c.args.group.now in
    let x = k.x.now in
    let keys : c.in-Some.keys ≡ width f.m + k.keys = grind (arith, common_steps) in
    let head : c.in_ok-head.head ≡ keyed k.q.id f.r.id (width f.m) (width x) f.c.parts.head =
    c.in_ok-head.ensures ∙ ap₂ (λ w v. keyed k.q.id f.r.id w v f.c.parts.head) c.width-w.ensures c.width-v.ensures in
    c.in_ok-compact.ensures.ok
    ∙ ap compact (
    c.move_below.ensures.graph
    ∙ ap (move_below f.c.id f.d.id) (
    c.put_box.ensures.graph
    ∙ ap (λ (n : ℕ). put_box f.d.id (Group n) Plain c.no_conds.result c.in_ok-head.head c.in_ok-after.after) keys
    ∙ ap (λ (z : Conjuncts). put_box f.d.id (Group (width f.m + k.keys)) Plain z c.in_ok-head.head c.in_ok-after.after) c.no_conds.ensures
    ∙ ap (λ (z : List Term). put_box f.d.id (Group (width f.m + k.keys)) Plain no_conds z c.in_ok-after.after) head
    ∙ ap (λ (z : QueryGraph). put_box f.d.id (Group (width f.m + k.keys)) Plain no_conds (keyed k.q.id f.r.id (width f.m) (width x) f.c.parts.head) z) c.in_ok-after.ensures.graph))
