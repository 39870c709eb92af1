use Rattle.std.proofs.Common.{Bool, true, false, subst, sym}
use Rattle.qgm_terms.specs.Shown.{sign}
use Rattle.qgm_terms.specs.Terms.{equal, same, unequal}
use Rattle.qgm_terms.specs.declared.tree.Sign.{Sign}
use Rattle.box_exec.specs.Idle.{Tells}
use Rattle.box_exec.specs.declared.key.Equality.{Equality}
use Rattle.box_exec.specs.declared.key.Equality.TheVariants.{Same}
use Rattle.box_exec.proofs.Counts.{equal-told, same-told, unequal-told}
use Rattle.box_exec.proofs.idle.telling.Goals as goal

pub returns-else-holds : goal.returns-else-holds
returns-else-holds c =
    subst (λ (s : Sign). Tells c.args.holds (sign s) Same) (sym c.in-Same.is) (subst (λ (h : Bool). Tells h same Same) (sym c.if-holds.false) same-told)

pub returns-else-holds-2 : goal.returns-else-holds-2
returns-else-holds-2 c =
    subst (λ (s : Sign). Tells c.args.holds (sign s) c.of_type.result) (sym c.in-Eq.is)
    (subst (λ (h : Bool). Tells h equal c.of_type.result) (sym c.if-holds-2.false) (subst (λ (e : Equality). Tells false equal e) (sym c.of_type.ensures) (equal-told c.args.texts)))

pub returns-then-holds-3 : goal.returns-then-holds-3
returns-then-holds-3 c =
    subst (λ (s : Sign). Tells c.args.holds (sign s) c.of_type-then-holds-3.result) (sym c.in-Ne.is)
    (subst (λ (h : Bool). Tells h unequal c.of_type-then-holds-3.result) (sym c.if-holds-3.true) (subst (λ (e : Equality). Tells true unequal e) (sym c.of_type-then-holds-3.ensures) (unequal-told c.args.texts)))
