-- How rows are put together, as equations of lists.
use Rattle.std.proofs.Common.{◌≡◌, append_assoc, append-nil, List, [], ◌∷◌, ◌++◌, refl, ap, ap₂, sym, ◌∙◌}
use Rattle.sql_value.specs.Level.{least}
use Rattle.sql_value.specs.Truths.{and}
use Rattle.sql_value.specs.declared.level.Level.{Level}
use Rattle.sql_value.specs.declared.level.Level.TheVariants.{Yes}
use Rattle.sql_value.specs.declared.truth.Truth.{Truth}
use Rattle.row_bag.specs.Bags.{bind, keep, row, unit}
use Rattle.row_bag.specs.declared.row.Row.{Row}
use Rattle.row_bag.proofs.Levels.{least-associative, least-commutative, least-yes, yes-least}

pub keep-keep : {T : Type 0} (l m : Level) (rs : List (Row T)) → keep l (keep m rs) ≡ keep (least l m) rs
keep-keep l m [] = refl
keep-keep l m (r ∷ rs) = ap₂ (λ a b. row r.cells a ∷ b) (sym (least-associative l m r.level)) (keep-keep l m rs)

pub keep-yes : {T : Type 0} (rs : List (Row T)) → keep Yes rs ≡ rs
keep-yes [] = refl
keep-yes (r ∷ rs) = ap₂ (λ a b. row r.cells a ∷ b) (yes-least r.level) (keep-yes rs)

pub keep-append : {T : Type 0} (l : Level) (xs ys : List (Row T)) → keep l (xs ++ ys) ≡ keep l xs ++ keep l ys
keep-append l [] ys = refl
keep-append l (x ∷ xs) ys = ap (λ b. row x.cells (least l x.level) ∷ b) (keep-append l xs ys)

pub keep-bind : {A B : Type 0} (l : Level) (xs : List (Row A)) (f : A → List (Row B)) → keep l (bind xs f) ≡ bind (keep l xs) f
keep-bind l [] f = refl
keep-bind l (x ∷ xs) f =
    keep-append l (keep x.level (f x.cells)) (bind xs f)
    ∙ ap₂ (λ a b. a ++ b) (keep-keep l x.level (f x.cells)) (keep-bind l xs f)

pub bind-append : {A B : Type 0} (xs ys : List (Row A)) (f : A → List (Row B)) → bind (xs ++ ys) f ≡ bind xs f ++ bind ys f
bind-append [] ys f = refl
bind-append (x ∷ xs) ys f =
    ap (λ b. keep x.level (f x.cells) ++ b) (bind-append xs ys f)
    ∙ sym (append_assoc (keep x.level (f x.cells)) (bind xs f) (bind ys f))

-- the nested form and the flat one are one list
pub bind-bind : {A B C : Type 0} (xs : List (Row A)) (f : A → List (Row B)) (g : B → List (Row C)) → bind (bind xs f) g ≡ bind xs (λ c. bind (f c) g)
bind-bind [] f g = refl
bind-bind (x ∷ xs) f g =
    bind-append (keep x.level (f x.cells)) (bind xs f) g
    ∙ ap₂ (λ a b. a ++ b) (sym (keep-bind x.level (f x.cells) g)) (bind-bind xs f g)

pub unit-bind : {A B : Type 0} (c : A) (f : A → List (Row B)) → bind (unit c) f ≡ f c
unit-bind c f = append-nil (keep Yes (f c)) ∙ keep-yes (f c)

pub bind-unit : {A : Type 0} (xs : List (Row A)) → bind xs unit ≡ xs
bind-unit [] = refl
bind-unit (x ∷ xs) = ap₂ (λ a b. row x.cells a ∷ b) (least-yes x.level) (bind-unit xs)

-- keeping after is keeping within
pub bind-keep : {A B : Type 0} (l : Level) (xs : List (Row A)) (f : A → List (Row B)) → keep l (bind xs f) ≡ bind xs (λ c. keep l (f c))
bind-keep l [] f = refl
bind-keep l (x ∷ xs) f =
    keep-append l (keep x.level (f x.cells)) (bind xs f)
    ∙ ap₂ (λ a b. a ++ b)
    (keep-keep l x.level (f x.cells) ∙ ap (λ m. keep m (f x.cells)) (least-commutative l x.level) ∙ sym (keep-keep x.level l (f x.cells)))
    (bind-keep l xs f)

-- rows that two conditions keep, one after the other, are those that both keep together
pub keep-and : {T : Type 0} (p q : Truth) (rs : List (Row T)) → keep p.t (keep q.t rs) ≡ keep (and p q).t rs
keep-and p q rs = keep-keep p.t q.t rs
