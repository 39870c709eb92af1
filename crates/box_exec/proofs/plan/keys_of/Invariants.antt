use Rattle.std.proofs.Common.{◌≡◌, ◌++◌, All, drop}
use Rattle.box_exec.specs.Asked.{shown_keys, tested_at}
use Rattle.box_exec.specs.Early.{rejects}
use Rattle.box_exec.specs.Lookup.{RejectsBy}
use Rattle.box_exec.proofs.plan.keys_of.Given as goal

abbrev pub invariant-loop-e : goal.invariant-loop-e
invariant-loop-e l = record {
  rejects : All (λ k. RejectsBy (rejects l.early l.place) l.q k) l.made.items;
  exact : shown_keys l.made.items ++ tested_at (drop l.e-index l.early) l.place l.q ≡ tested_at l.early l.place l.q;
}
