use Rattle.std.proofs.Common.{◌≡◌, ◌<◌, sym, length, rules}
use Rattle.box_exec.proofs.Keys.{chain-nothing, chain-one}
use Rattle.qgm_terms.proofs.Lists.{links_hidden}
use Rattle.qgm_terms.specs.Shown.{term}
use Rattle.box_exec.specs.Bound.{env_of}
use Rattle.box_exec.proofs.grouping.+argument.Goals as goal

pub returns-then-is_empty : goal.returns-then-is_empty
returns-then-is_empty t c =
    let none : length c.in-Chain.list.items ≡ 0 = search rules in
    rw (c.in-Chain.is, links_hidden c.in-Chain.list, chain-one (term c.in-Chain.a.value) c.in-Chain.list.items none, ← c.deref-then-is_empty.ensures) c.argument.ensures

pub returns-else-is_empty : goal.returns-else-is_empty
returns-else-is_empty t c =
    let some : 0 < length c.in-Chain.list.items = search rules in
    rw (c.in-Chain.is, links_hidden c.in-Chain.list) (sym (chain-nothing (env_of c.args.inside.now) (term c.in-Chain.a.value) c.in-Chain.list.items some))
