use Rattle.std.proofs.Common.{◌≡◌, ◌<◌, ◌∙◌, get_or, length, arith}
use Rattle.qgm_core.proofs.ByNumber.{read-within}
use Rattle.qgm_core.proofs.uses.add_use.Goals as goal

pub overflow_add-index_mut : goal.overflow_add-index_mut
overflow_add-index_mut c =
    let uses = c.args.uses.now in
    let b = c.args.b in
    let l : b < length uses.items = omega (arith, c.if-b-len.true, c.len.ensures, uses.ok) in
    let v : c.index_mut.result.now ≡ get_or uses.items b 0 = c.index_mut.ensures.value ∙ read-within uses.items b c.index_mut.result.now 0 l in
    let k = c.requires l in
    omega (arith, v, k)
