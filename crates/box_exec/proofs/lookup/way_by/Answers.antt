use Rattle.std.proofs.Common.{◌∙◌, refl, subst}
use Rattle.box_exec.specs.Bound.{env_of}
use Rattle.box_exec.specs.Lookup.{Aims}
use Rattle.box_exec.specs.declared.lookup.Aim.{Aim}
use Rattle.box_exec.specs.declared.lookup.Aim.TheVariants.{Hash, Nowhere}
use Rattle.box_exec.proofs.Lookups.{leads-all, leads-hash, leads-nowhere}
use Rattle.box_exec.proofs.lookup.way_by.Goals as goal

pub returns-in-Hash : goal.returns-in-Hash
returns-in-Hash c = λ test q rows e all is.
    let keys = c.args.keys.now in
    let env = env_of c.args.env.now in
    let aims : Aims keys env (Hash c.in-Hash.hash) = subst (λ (a : Aim). Aims keys env a) c.in-Hash.is c.in_ok-hash.ensures in
    leads-hash test q rows env keys c.args.index.now (all, is) _ c.in-Hash.hash e refl refl aims

pub returns-in-Anywhere : goal.returns-in-Anywhere
returns-in-Anywhere c = λ test q rows e all is. leads-all test q rows (env_of c.args.env.now) c.all_rows.result (c.all_rows.ensures.end ∙ e) c.all_rows.ensures.all

pub returns-in-Nowhere : goal.returns-in-Nowhere
returns-in-Nowhere c = λ test q rows e all is.
    let keys = c.args.keys.now in
    let env = env_of c.args.env.now in
    let aims : Aims keys env Nowhere = subst (λ (a : Aim). Aims keys env a) c.in-Nowhere.is c.in_ok-hash.ensures in
    leads-nowhere test q rows env keys c.args.index.now (all, is) _ e refl aims
