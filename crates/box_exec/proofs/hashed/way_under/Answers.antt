use Rattle.std.proofs.Common.{◌+◌, ◌∙◌, rules, subst, sym}
use Rattle.std.proofs.lemmas.Result.{IfOk-weaker}
use Rattle.qgm_meaning.specs.Values.{Bag}
use Rattle.box_exec.specs.Bound.{env_of}
use Rattle.box_exec.specs.Early.{rejects}
use Rattle.box_exec.specs.Lookup.{Leads}
use Rattle.box_exec.proofs.Lookups.{leads-all}
use Rattle.box_exec.proofs.Quantifiers.{bound-of}
use Rattle.box_exec.proofs.hashed.way_under.Goals as goal

pub returns-then-is_open : goal.returns-then-is_open
returns-then-is_open c = leads-all (rejects c.args.at.now.early.now (c.args.i + 1)) c.args.l.now.range.id c.args.rows.now (env_of c.args.env.now) c.all_rows.result (c.all_rows.ensures.end ∙ c.len.ensures) c.all_rows.ensures.all

pub way_of-requires : goal.way_of-requires
way_of-requires c = record { bound = bound-of c.args.at.now c.requires.planned; within = c.requires.within; at = c.requires.at }

pub returns : goal.returns
returns c =
    let at = c.args.at.now in
    IfOk-weaker c.way_of.result _ _
    (λ way h. subst (λ (rs : Bag). Leads (rejects at.early.now (c.args.i + 1)) c.args.l.now.range.id rs (env_of c.args.env.now) way) (sym (c.requires.kept (search rules))) h)
    c.way_of.ensures
