use Rattle.std.proofs.Common.{◌≡◌, sym, ◌∙◌, ap, List, rules, arith}
use Rattle.qgm_terms.specs.Terms.{Cond}
use Rattle.sql_value.specs.Level.{least}
use Rattle.qgm_meaning.specs.Values.{all_true, head_cells}
use Rattle.sql_value.specs.declared.level.Level.TheVariants.{No}
use Rattle.box_exec.specs.Bound.{env_of}
use Rattle.box_exec.specs.Sources.{held_by}
use Rattle.box_exec.proofs.Loops.{head-absent}
use Rattle.std.proofs.lemmas.Grind.{common_steps}
use Rattle.box_exec.proofs.heads.add_given.Goals as goal

pub returns-then-eq : goal.returns-then-eq
returns-then-eq c =
    let absent : c.in_ok-level.level ≡ No = search rules in
    head-absent c.args.level (all_true (held_by c.args.subs.now) c.args.node.now.parts.conds.items (env_of c.args.env.now)).t (head_cells (held_by c.args.subs.now) c.args.node.now.parts.head (env_of c.args.env.now)) c.args.out.now
    (sym (c.in_ok-level.ensures ∙ ap (λ (ps : List Cond). least c.args.level (all_true (held_by c.args.subs.now) ps (env_of c.args.env.now)).t) c.as_slice.ensures) ∙ absent)

pub returns : goal.returns
returns c = grind (arith, common_steps)
