use Rattle.std.proofs.Common.{◌≡◌, ◌∷◌, [], List, refl, sym, arith}
use Rattle.std.proofs.lemmas.Grind.{common_steps}
use Rattle.qgm_terms.proofs.Lists as listed
use Rattle.qgm_terms.specs.Shown.{cond, conds}
use Rattle.qgm_terms.specs.declared.tree.Gc.{Gc}
use Rattle.box_exec.proofs.Asking.{all-none, any-none}
use Rattle.box_exec.proofs.key.+key_in.Goals as goal

no-conds : (xs : List Gc) → conds xs ≡ [] → xs ≡ []
no-conds [] e = refl
no-conds (x ∷ xs) e = absurd (let z : ⊥ = cc in z)

pub returns-then-is_empty-clause-key : goal.returns-then-is_empty-clause-key
returns-then-is_empty-clause-key t c =
    let empty : c.in-All.list.items ≡ [] = grind (arith, common_steps) in
    rw (c.in-All.is, listed.conds_hidden c.in-All.list, empty, ← c.deref-then-is_empty.ensures) c.key_in.ensures.key

pub returns-then-is_empty-clause-exact : goal.returns-then-is_empty-clause-exact
returns-then-is_empty-clause-exact t c =
    let empty : c.in-All.list.items ≡ [] = grind (arith, common_steps) in
    rw (c.in-All.is, listed.conds_hidden c.in-All.list, empty, ← c.deref-then-is_empty.ensures) c.key_in.ensures.exact

pub returns-else-is_empty-clause-exact : goal.returns-else-is_empty-clause-exact
returns-else-is_empty-clause-exact t c =
    let some : c.in-All.list.items ≡ [] → ⊥ = λ e. grind (arith, common_steps, e) in
    rw (c.in-All.is, listed.conds_hidden c.in-All.list) (sym (all-none c.args.q (cond c.in-All.a.value) (conds c.in-All.list.items) (λ n. some (no-conds c.in-All.list.items n))))

pub returns-then-is_empty-2-clause-key : goal.returns-then-is_empty-2-clause-key
returns-then-is_empty-2-clause-key t c =
    let empty : c.in-Any.list.items ≡ [] = grind (arith, common_steps) in
    rw (c.in-Any.is, listed.conds_hidden c.in-Any.list, empty, ← c.deref-then-is_empty-2.ensures) c.key_in-then-is_empty-2.ensures.key

pub returns-then-is_empty-2-clause-exact : goal.returns-then-is_empty-2-clause-exact
returns-then-is_empty-2-clause-exact t c =
    let empty : c.in-Any.list.items ≡ [] = grind (arith, common_steps) in
    rw (c.in-Any.is, listed.conds_hidden c.in-Any.list, empty, ← c.deref-then-is_empty-2.ensures) c.key_in-then-is_empty-2.ensures.exact

pub returns-else-is_empty-2-clause-exact : goal.returns-else-is_empty-2-clause-exact
returns-else-is_empty-2-clause-exact t c =
    let some : c.in-Any.list.items ≡ [] → ⊥ = λ e. grind (arith, common_steps, e) in
    rw (c.in-Any.is, listed.conds_hidden c.in-Any.list) (sym (any-none c.args.q (cond c.in-Any.a.value) (conds c.in-Any.list.items) (λ n. some (no-conds c.in-Any.list.items n))))
