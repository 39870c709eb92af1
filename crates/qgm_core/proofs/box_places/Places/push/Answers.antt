use Rattle.std.proofs.Common.{◌≡◌, ◌==◌, ℕ, List, Option, Some, None, get_or, length, position, ap, sym, ◌∙◌, arith}
use Rattle.std.specs.Option.{option_or}
use Rattle.qgm_core.proofs.ByNumber.{placed-more, read-within}
use Rattle.qgm_core.proofs.box_places.Places.push.Goals as goal

pub invariant_of-self-2 : goal.invariant_of-self-2
invariant_of-self-2 c =
    let list = c.self.inside.list.items in
    let long = c.make_long.new.table.items in
    let b = c.args.b in
    let i = c.len-i.result in
    let l = c.in_ok-make_long.ensures.within in
    let e : c.or.result ≡ option_or (get_or long b None) (Some i) = c.or.ensures ∙ ap (λ (o : Option ℕ). option_or o (Some i)) (c.index.ensures ∙ read-within long b c.index.result.now None l) in
    let n : i ≡ length list = omega (arith, c.len-i.ensures, c.self.inside.list.ok) in
    λ y. placed-more list c.self.inside.at.items long b i c.or.result c.self.invariant c.in_ok-make_long.ensures.same l e n y ∙ ap (λ (xs : List ℕ). position (λ z. z == y) xs) (sym c.in_ok-push.ensures.items)
