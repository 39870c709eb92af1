use Rattle.std.proofs.Common.{All, List, ◌∙◌, subst, sym}
use Rattle.std.proofs.lemmas.Result.{IfOk-weaker}
use Rattle.row_index.specs.Ways.{Indexes}
use Rattle.box_exec.specs.Bound.{env_of}
use Rattle.box_exec.specs.Lookup.{Hashes, RejectsBy, row_hashes}
use Rattle.box_exec.specs.declared.key.Key.{Key}
use Rattle.box_exec.proofs.Lookups.{leads-all, some-is}
use Rattle.box_exec.proofs.lookup.way_through.Goals as goal

pub returns-in-Some : goal.returns-in-Some
returns-in-Some c =
    let h = c.in-Some.h.now in
    IfOk-weaker c.way_by.result _ _
    (λ way f. λ test q rows e is.
    let it = some-is (λ h. Hashes test q rows h.now) c.args.hashed c.in-Some.h c.in-Some.is is in
    f test q rows e (subst (λ (ks : List Key). All (λ (k : Key). RejectsBy test q k) ks) (sym c.deref.ensures.value) it.0)
    (subst (λ (ks : List Key). Indexes (row_hashes q ks rows) h.index) (sym c.deref.ensures.value) it.1))
    c.way_by.ensures

pub returns-in-None : goal.returns-in-None
returns-in-None c = λ test q rows e is. leads-all test q rows (env_of c.args.env.now) c.all_rows.result (c.all_rows.ensures.end ∙ e) c.all_rows.ensures.all
