-- Steps one after the other, and what is left of them.
use Rattle.std.specs.Prelude.{IfOk, IsOkAnd}
use Rattle.std.specs.Result.{OnOk, result_and}
use Rattle.std.proofs.Common.{◌≡◌, ◌<◌, ◌+◌, ℕ, List, ◌∷◌, ◌++◌, Result, Ok, Err, append_assoc, append-nil, length, drop, get_or, ap, ap₂, refl, subst, sym, ◌∙◌}
use Rattle.qgm_core.specs.declared.kinds.QuantKind.{QuantKind}
use Rattle.qgm_core.specs.declared.owned.OwnedQuant.{OwnedQuant}
use Rattle.qgm_translation.specs.Lay.{Boxes, Laid, Step, in_turn, none, over}
use Rattle.qgm_build_terms.specs.Making.{Gives, Leads, Takes, draws}
use Rattle.qgm_build_terms.proofs.Steps.{next_there}

pub takes_none : (s : Boxes) (os : List OwnedQuant) → Takes none s os s os
takes_none s os = record { boxes = refl; quants = sym (append-nil os) }

pub takes_both : (a b : Step) {s t u : Boxes} {os ps rs : List OwnedQuant} → Takes a s os t ps → Takes b t ps u rs → Takes (in_turn a b) s os u rs
takes_both a b {s} {t} {u} {os} {ps} {rs} e f =
    record { boxes = f.boxes ∙ ap (λ (z : Boxes). (b z).boxes) e.boxes; quants = f.quants ∙ ap₂ (λ (zs : List OwnedQuant) (z : Boxes). zs ++ (b z).quants) e.quants e.boxes ∙ append_assoc os (a s).quants (b (a s).boxes).quants }

pub takes_three : (a b d : Step) {s t u v : Boxes} {os ps rs qs : List OwnedQuant} → Takes a s os t ps → Takes b t ps u rs → Takes d u rs v qs → Takes (in_turn a (in_turn b d)) s os v qs
takes_three a b d e f g = takes_both a (in_turn b d) e (takes_both b d f g)

-- a quantifier over what was laid
pub takes_over : (kind : QuantKind) (f : Boxes → Laid) {s t u : Boxes} {b : ℕ} {os ps : List OwnedQuant} → Gives (f s) b t → Takes (draws kind b) t os u ps → Takes (over kind f) s os u ps
takes_over kind f {s} {t} {u} {b} {os} {ps} e d =
    record { boxes = d.boxes ∙ ap₂ (λ (k : ℕ) (z : Boxes). (draws kind k z).boxes) e.0 e.1; quants = d.quants ∙ ap₂ (λ (k : ℕ) (z : Boxes). os ++ (draws kind k z).quants) e.0 e.1 }

-- what is left after a part
pub leads_next : (a r : Step) {s t u : Boxes} {os ps rs : List OwnedQuant} → Takes a s os t ps → Leads (in_turn a r) s os u rs → Leads r t ps u rs
leads_next a r {s} {t} {u} {os} {ps} {rs} f g =
    record { boxes = ap (λ (z : Boxes). (r z).boxes) f.boxes ∙ g.boxes; quants = ap₂ (λ (zs : List OwnedQuant) (z : Boxes). zs ++ (r z).quants) f.quants f.boxes ∙ append_assoc os (a s).quants (r (a s).boxes).quants ∙ g.quants }

pub leads_at : {a b : Step} {s u : Boxes} {os rs : List OwnedQuant} → a ≡ b → Leads a s os u rs → Leads b s os u rs
leads_at {a} {b} {s} {u} {os} {rs} e g = record { boxes = ap (λ (z : Step). (z s).boxes) (sym e) ∙ g.boxes; quants = ap (λ (z : Step). os ++ (z s).quants) (sym e) ∙ g.quants }

-- one more item of a list
pub leads_more : {X : Type 0} (L : List X → Step) (xs : List X) (i : ℕ) (x : X) (a : Step) {s t u : Boxes} {os ps rs : List OwnedQuant} → i < length xs → x ≡ get_or xs i x
    → L (x ∷ drop (i + 1) xs) ≡ in_turn a (L (drop (i + 1) xs)) → Takes a s os t ps → Leads (L (drop i xs)) s os u rs → Leads (L (drop (i + 1) xs)) t ps u rs
leads_more {X} L xs i x a low is e f so_far = leads_next a (L (drop (i + 1) xs)) f (leads_at (ap L (next_there xs i x low is) ∙ e) so_far)

-- one more item of two parts
pub leads_two : {X : Type 0} (L : List X → Step) (xs : List X) (i : ℕ) (x : X) (a b : Step) {s t v u : Boxes} {os ps qs rs : List OwnedQuant} → i < length xs → x ≡ get_or xs i x
    → L (x ∷ drop (i + 1) xs) ≡ in_turn a (in_turn b (L (drop (i + 1) xs))) → Takes a s os t ps → Takes b t ps v qs → Leads (L (drop i xs)) s os u rs → Leads (L (drop (i + 1) xs)) v qs u rs
leads_two {X} L xs i x a b low is e f g so_far =
    leads_next b (L (drop (i + 1) xs)) g (leads_next a (in_turn b (L (drop (i + 1) xs))) f (leads_at (ap L (next_there xs i x low is) ∙ e) so_far))

-- ---- results

-- what is made of two, by what holds of these
pub of_both : {E : Type 0} (r a b : Result ℕ E) (P : ℕ → ℕ → ℕ → Type 0) (A B T : ℕ → Type 0) → IfOk r (λ x. IsOkAnd a (λ y. IsOkAnd b (λ z. P x y z))) → IfOk a A → IfOk b B
    → ((x y z : ℕ) → P x y z → A y → B z → T x) → IfOk r T
of_both (Ok x) (Ok y) (Ok z) P A B T h p q f = f x y z h p q
of_both (Ok x) (Ok y) (Err e) P A B T h p q f = absurd h
of_both (Ok x) (Err e) b P A B T h p q f = absurd h
of_both (Err e) a b P A B T h p q f = tt

-- what holds of two, by what else holds of them
pub and_both : {V U E : Type 0} (a : Result V E) (b : Result U E) (P Q T : V → U → Type 0) → IsOkAnd a (λ x. IsOkAnd b (P x)) → IsOkAnd a (λ x. IsOkAnd b (Q x)) → ((x : V) (y : U) → P x y → Q x y → T x y) → IsOkAnd a (λ x. IsOkAnd b (T x))
and_both (Ok x) (Ok y) P Q T p q f = f x y p q
and_both (Ok x) (Err e) P Q T p q f = absurd p
and_both (Err e) b P Q T p q f = absurd p

-- what is done with another
pub of_one : {V U E : Type 0} (r : Result U E) (a : Result V E) (P A : V → Type 0) (T : Type 0) → OnOk r (IsOkAnd a P) → IfOk a A → ((y : V) → P y → A y → T) → OnOk r T
of_one (Ok u) (Ok y) P A T h p f = f y h p
of_one (Ok u) (Err e) P A T h p f = absurd h
of_one (Err e) a P A T h p f = tt

-- the value of a result, which something is known of
pub value_of : {V E : Type 0} (a : Result V E) (v : V) (P : V → Type 0) → IsOkAnd a (λ w. v ≡ w) → IfOk a P → P v
value_of (Ok w) v P e p = subst P (sym e) p
value_of (Err x) v P e p = absurd e

-- what holds of parts that were all Ok
pub all_two : {T U E P Q : Type 0} (a : Result T E) (b : Result U E) (w : U) → result_and a b ≡ Ok w → OnOk a P → OnOk b Q → P × Q
all_two (Ok x) (Ok y) w e p q = (p, q)
all_two (Ok x) (Err y) w e p q = cc
all_two (Err x) b w e p q = cc

pub all_three : {T U V E P Q S : Type 0} (a : Result T E) (b : Result U E) (d : Result V E) (w : V) → result_and (result_and a b) d ≡ Ok w → OnOk a P → OnOk b Q → OnOk d S → P × (Q × S)
all_three (Ok x) (Ok y) (Ok z) w e p q s = (p, (q, s))
all_three (Ok x) (Ok y) (Err z) w e p q s = cc
all_three (Ok x) (Err y) d w e p q s = cc
all_three (Err x) b d w e p q s = cc

pub ruleset taking = (takes_none, takes_both, takes_three)
