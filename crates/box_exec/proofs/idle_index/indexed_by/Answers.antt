use Rattle.qgm_terms.specs.Shown.{cond}
use Rattle.box_exec.specs.Idle.{is_idle}
use Rattle.box_exec.specs.Lookup.{Hashes}
use Rattle.box_exec.specs.declared.lookup.Hashed.{Hashed}
use Rattle.box_exec.proofs.Lookups.{some-is}
use Rattle.box_exec.proofs.idle_index.indexed_by.Goals as goal

pub returns-in-Some : goal.returns-in-Some
returns-in-Some c = λ s.
    let test = is_idle c.args.holds s (cond c.args.c.now) in
    some-is (λ (h : Hashed). Hashes test c.args.q c.args.rows.now h) c.in_ok-hashed.field-0 c.in-Some.hashed c.in-Some.is (c.in_ok-hashed.ensures test (λ k d l. c.in_ok-keys.ensures k d l s))
