-- What is made of the results of its parts, by what holds of these.
use Rattle.std.proofs.Common.{◌≡◌, ◌++◌, ◌∷◌, [], List, Result, Ok, Err, refl, subst, sym}
use Rattle.std.specs.Prelude.{IfOk, IsOkAnd}
use Rattle.qgm_core.specs.declared.owned.OwnedQuant.{OwnedQuant}
use Rattle.qgm_meaning.specs.Meaning.{Family}
use Rattle.qgm_meaning.specs.Values.{Environment}
use Rattle.row_bag.specs.Bags.{Alike}
use Rattle.box_exec.specs.Ready.{SubsOf}
use Rattle.box_exec.specs.Sources.{rows_held}
use Rattle.box_exec.specs.declared.source.Sub.{Sub}
use Rattle.box_exec.specs.declared.source.SubRows.{SubRows}
use Rattle.box_exec.proofs.Quantifiers.{subs-more}

-- of one part
pub of_part : {X Y E : Type 0} (r : Result Y E) (part : Result X E) (P : Y → X → Type 0) (A : X → Type 0) (T : Y → Type 0)
    → IfOk r (λ y. IsOkAnd part (λ x. P y x)) → IfOk part A → ((y : Y) (x : X) → P y x → A x → T y) → IfOk r T
of_part (Ok y) (Ok x) P A T h a f = f y x h a
of_part (Ok y) (Err e) P A T h a f = absurd h
of_part (Err e) part P A T h a f = tt

-- of two
pub of_parts : {X Y Z E : Type 0} (r : Result Z E) (left : Result X E) (right : Result Y E) (P : Z → X → Y → Type 0) (A : X → Type 0) (B : Y → Type 0) (T : Z → Type 0)
    → IfOk r (λ z. IsOkAnd left (λ x. IsOkAnd right (λ y. P z x y))) → IfOk left A → IfOk right B → ((z : Z) (x : X) (y : Y) → P z x y → A x → B y → T z) → IfOk r T
of_parts (Ok z) (Ok x) (Ok y) P A B T h a b f = f z x y h a b
of_parts (Ok z) (Ok x) (Err e) P A B T h a b f = absurd h
of_parts (Ok z) (Err e) right P A B T h a b f = absurd h
of_parts (Err e) left right P A B T h a b f = tt

-- a part that is there
pub is_there : {X E : Type 0} (part : Result X E) (P A : X → Type 0) (T : Type 0) → IsOkAnd part P → IfOk part A → ((x : X) → P x → A x → T) → T
is_there (Ok x) P A T h a f = f x h a
is_there (Err e) P A T h a f = absurd h

-- one more quantifier has been gone through
pub subs_pushed : (f : Family) (env : Environment) (rs : List OwnedQuant) (ss ts : List Sub) (r : OwnedQuant) (s : SubRows)
    → ts ≡ ss ++ record { quant = r.id; rows = s } ∷ [] → Alike (rows_held s) (f r.over env) → SubsOf f env rs ss → SubsOf f env (rs ++ r ∷ []) ts
subs_pushed f env rs ss ts r s e h k = subst (λ (us : List Sub). SubsOf f env (rs ++ r ∷ []) us) (sym e) (subs-more f env rs ss r (record { quant = r.id; rows = s }) refl h k)
