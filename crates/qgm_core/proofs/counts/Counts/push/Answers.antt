use Rattle.std.proofs.Common.{◌≡◌, ◌+◌, ◌++◌, ◌∷◌, [], ℕ, List, ap, sym, ◌∙◌, arith}
use Rattle.list_laws.specs.Lists.{times}
use Rattle.qgm_core.proofs.ByNumber.{counted-more, read-within, times-most}
use Rattle.qgm_core.proofs.counts.Counts.push.Goals as goal

pub overflow_add-index_mut : goal.overflow_add-index_mut
overflow_add-index_mut c =
    let list = c.self.inside.list.items in
    let long = c.make_long.new.table.items in
    let v = c.index_mut.result.now in
    let x = c.args.x in
    let e : v ≡ times x list = c.index_mut.ensures.value ∙ read-within long x v 0 c.in_ok-make_long.ensures.within ∙ c.in_ok-make_long.ensures.same x ∙ c.self.invariant x in
    let m = times-most list x in
    omega (arith, e, m, c.self.inside.list.ok)

pub invariant_of-self-2 : goal.invariant_of-self-2
invariant_of-self-2 c =
    let list = c.self.inside.list.items in
    let long = c.make_long.new.table.items in
    let v = c.index_mut.result.now in
    let x = c.args.x in
    let l = c.in_ok-make_long.ensures.within in
    let e : v ≡ times x list = c.index_mut.ensures.value ∙ read-within long x v 0 l ∙ c.in_ok-make_long.ensures.same x ∙ c.self.invariant x in
    let all : c.push.new.self.items ≡ list ++ x ∷ [] = c.in_ok-push.ensures.items in
    λ y. counted-more list c.self.inside.counts.items long x (v + 1) c.self.invariant c.in_ok-make_long.ensures.same l (omega (arith, e)) y ∙ ap (λ (xs : List ℕ). times y xs) (sym all)
