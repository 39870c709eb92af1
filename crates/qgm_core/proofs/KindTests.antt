-- A kind that passes its test is it.
use Rattle.std.proofs.Common.{◌≡◌, true, refl}
use Rattle.qgm_core.specs.Kinds.{is_A, is_E, is_F, is_S, is_enforce, is_fed, is_magic, is_permit, is_plain, is_preserve, is_select}
use Rattle.qgm_core.specs.declared.kinds.QuantKind.{QuantKind}
use Rattle.qgm_core.specs.declared.kinds.QuantKind.TheVariants.{F, E, A, S}
use Rattle.qgm_core.specs.declared.kinds.Distinct.{Distinct}
use Rattle.qgm_core.specs.declared.kinds.Distinct.TheVariants.{Enforce, Preserve, Permit}
use Rattle.qgm_core.specs.declared.kinds.Role.{Role}
use Rattle.qgm_core.specs.declared.kinds.Role.TheVariants.{Plain, Magic, Fed}
use Rattle.qgm_core.specs.declared.kinds.BoxKind.{BoxKind}
use Rattle.qgm_core.specs.declared.kinds.BoxKind.TheVariants.{Base, Select, Group, SetOp, OuterJoin}

pub f-is : (k : QuantKind) → is_F k ≡ true → k ≡ F
f-is F h = refl
f-is E h = absurd (let q : ⊥ = cc in q)
f-is A h = absurd (let q : ⊥ = cc in q)
f-is S h = absurd (let q : ⊥ = cc in q)

pub e-is : (k : QuantKind) → is_E k ≡ true → k ≡ E
e-is F h = absurd (let q : ⊥ = cc in q)
e-is E h = refl
e-is A h = absurd (let q : ⊥ = cc in q)
e-is S h = absurd (let q : ⊥ = cc in q)

pub a-is : (k : QuantKind) → is_A k ≡ true → k ≡ A
a-is F h = absurd (let q : ⊥ = cc in q)
a-is E h = absurd (let q : ⊥ = cc in q)
a-is A h = refl
a-is S h = absurd (let q : ⊥ = cc in q)

pub s-is : (k : QuantKind) → is_S k ≡ true → k ≡ S
s-is F h = absurd (let q : ⊥ = cc in q)
s-is E h = absurd (let q : ⊥ = cc in q)
s-is A h = absurd (let q : ⊥ = cc in q)
s-is S h = refl

pub enforce-is : (d : Distinct) → is_enforce d ≡ true → d ≡ Enforce
enforce-is Enforce h = refl
enforce-is Preserve h = absurd (let q : ⊥ = cc in q)
enforce-is Permit h = absurd (let q : ⊥ = cc in q)

pub preserve-is : (d : Distinct) → is_preserve d ≡ true → d ≡ Preserve
preserve-is Enforce h = absurd (let q : ⊥ = cc in q)
preserve-is Preserve h = refl
preserve-is Permit h = absurd (let q : ⊥ = cc in q)

pub permit-is : (d : Distinct) → is_permit d ≡ true → d ≡ Permit
permit-is Enforce h = absurd (let q : ⊥ = cc in q)
permit-is Preserve h = absurd (let q : ⊥ = cc in q)
permit-is Permit h = refl

pub plain-is : (r : Role) → is_plain r ≡ true → r ≡ Plain
plain-is Plain h = refl
plain-is Magic h = absurd (let q : ⊥ = cc in q)
plain-is Fed h = absurd (let q : ⊥ = cc in q)

pub magic-is : (r : Role) → is_magic r ≡ true → r ≡ Magic
magic-is Plain h = absurd (let q : ⊥ = cc in q)
magic-is Magic h = refl
magic-is Fed h = absurd (let q : ⊥ = cc in q)

pub fed-is : (r : Role) → is_fed r ≡ true → r ≡ Fed
fed-is Plain h = absurd (let q : ⊥ = cc in q)
fed-is Magic h = absurd (let q : ⊥ = cc in q)
fed-is Fed h = refl

pub select-is : (k : BoxKind) → is_select k ≡ true → k ≡ Select
select-is (Base table) h = absurd (let q : ⊥ = cc in q)
select-is Select h = refl
select-is (Group keys) h = absurd (let q : ⊥ = cc in q)
select-is (SetOp operator types) h = absurd (let q : ⊥ = cc in q)
select-is OuterJoin h = absurd (let q : ⊥ = cc in q)
