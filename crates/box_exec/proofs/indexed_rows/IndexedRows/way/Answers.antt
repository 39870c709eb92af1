use Rattle.std.proofs.Common.{ℕ, ◌≡◌, ◌∙◌, true, ap, length, refl, rules, subst, List}
use Rattle.qgm_meaning.specs.Values.{Bag}
use Rattle.qgm_terms.specs.Shown.{cond}
use Rattle.box_exec.specs.Bound.{env_of}
use Rattle.box_exec.specs.Idle.{is_idle}
use Rattle.box_exec.specs.Lookup.{Aims}
use Rattle.box_exec.specs.declared.key.Key.{Key}
use Rattle.box_exec.specs.declared.lookup.Aim.TheVariants.{Hash}
use Rattle.box_exec.proofs.Counts.{idle-alike}
use Rattle.box_exec.proofs.Lookups.{leads-hash, some-is}
use Rattle.box_exec.proofs.indexed_rows.IndexedRows.way.Goals as goal

pub returns-in-Some : goal.returns-in-Some
returns-in-Some c = λ s.
    let f = c.self.inside in
    let x = f.index.now in
    let env = env_of c.args.env.now in
    let same-quant : x.quant ≡ c.args.q = search rules in
    let same-holds : x.holds ≡ c.args.holds = search rules in
    let one : c.in_ok-same_cond.field-0 ≡ true = search rules in
    let same-cond : cond x.condition.now ≡ cond c.args.c.now = c.in_ok-same_cond.ensures.0 one in
    let is = idle-alike x.holds c.args.holds x.quant c.args.q (cond x.condition.now) (cond c.args.c.now) f.rows.now c.args.self.now x.hashed same-holds same-quant same-cond c.self.view_is c.self.invariant in
    let aims : Aims x.hashed.keys.items env (Hash c.in-Some.hash) = subst (λ (ks : List Key). Aims ks env (Hash c.in-Some.hash)) c.deref.ensures.value
    (some-is (λ (hash : ℕ). Aims c.deref.result.now env (Hash hash)) c.in_ok-hash.field-0 c.in-Some.hash c.in-Some.is c.in_ok-hash.ensures) in
    leads-hash (is_idle c.args.holds s (cond c.args.c.now)) c.args.q c.args.self.now env x.hashed.keys.items x.hashed.index (is s) _ c.in-Some.hash (c.len-end.ensures ∙ ap (λ (rs : Bag). length rs) c.self.view_is) refl refl aims
