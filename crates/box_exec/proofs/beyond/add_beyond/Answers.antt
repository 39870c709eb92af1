use Rattle.std.proofs.lemmas.Grind.{common_steps}
use Rattle.std.proofs.Common.{sym, ◌∙◌, ◌++◌, ◌≡◌, List, ℕ, ap, append-nil, subst, arith}
use Rattle.std.specs.Result.{OnOk}
use Rattle.box_exec.proofs.Names.{beyond-at, beyond-none, index-within}
use Rattle.box_exec.proofs.beyond.add_beyond.Goals as goal

pub returns-in_default : goal.returns-in_default
returns-in_default c =
    sym (ap (λ (xs : List ℕ). c.args.out.now.items ++ xs) (beyond-none c.args.below.now c.args.b (sym c.place_of.ensures ∙ c.in_default.is)) ∙ append-nil c.args.out.now.items)

pub bounds-named-below : goal.bounds-named-below
bounds-named-below c = index-within c.args.below.now c.args.b c.in-Some.i c.args.named.now (sym c.place_of.ensures ∙ c.in-Some.is) c.requires

pub returns : goal.returns
returns c =
    let place = sym c.place_of.ensures ∙ c.in-Some.is in
    subst (λ (xs : List ℕ). OnOk c.append.result (c.append.new.out.items ≡ c.args.out.now.items ++ xs))
    (c.deref.ensures.value ∙ beyond-at c.args.below.now c.args.b c.in-Some.i c.args.named.now c.index-named-below.result place c.requires (index-within c.args.below.now c.args.b c.in-Some.i c.args.named.now place c.requires) c.index-named-below.is)
    c.append.ensures

pub overflow_sub-below : goal.overflow_sub-below
overflow_sub-below c = grind (arith, common_steps)

pub overflow_sub-below-2 : goal.overflow_sub-below-2
overflow_sub-below-2 c = grind (arith, common_steps)
