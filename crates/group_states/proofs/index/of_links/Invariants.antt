use Rattle.std.proofs.Common.{◌≡◌, map, take}
use Rattle.group_states.specs.declared.index.Link.{Link}
use Rattle.group_states.proofs.index.of_links.Given as goal

abbrev pub invariant-loop-link : goal.invariant-loop-link
invariant-loop-link l = l.index ≡ map (λ (k : Link). k.hash) (take l.link-index l.links)
