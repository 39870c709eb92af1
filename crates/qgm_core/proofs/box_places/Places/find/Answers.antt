use Rattle.std.proofs.Common.{ℕ, ◌==◌, List, None, position, ap, sym, ◌∙◌, arith}
use Rattle.qgm_core.proofs.ByNumber.{read-behind}
use Rattle.qgm_core.proofs.box_places.Places.find.Goals as goal

pub returns-else-b-len : goal.returns-else-b-len
returns-else-b-len c =
    let at = c.self.inside.at in
    let l = c.if-b-len.false in
    let e = c.len.ensures in
    sym (read-behind at.items c.args.b None (omega (arith, l, e, at.ok))) ∙ c.self.invariant c.args.b ∙ ap (λ (xs : List ℕ). position (λ x. x == c.args.b) xs) c.self.view_is
