-- The aggregates of leaves that stand one behind the other.
use Rattle.std.proofs.Common.{◌≡◌, ◌<◌, ◌+◌, ℕ, List, [], ◌∷◌, ◌++◌, append_assoc, append-nil, length, drop, get_or, ap, sym, ◌∙◌, Result, Ok, Err}
use Rattle.std.specs.Result.{OnOk, result_and}
use Rattle.sql_meaning.specs.ResolvedTrees.{Query, Value}
use Rattle.qgm_core.specs.declared.kinds.QuantKind.{QuantKind}
use Rattle.qgm_translation.specs.Leaves.{Leaf, leaves, sub}
use Rattle.qgm_translation.specs.Maps.{Frame}
use Rattle.qgm_translation.specs.Folds.{folds_in}
use Rattle.qgm_translation.proofs.FoldsSame.{folds_append}
use Rattle.qgm_build_terms.proofs.Steps.{appended, next_there}

-- those of two parts
pub fold_two : (ls ks a b c : List Leaf) → b ≡ a ++ folds_in ls → c ≡ b ++ folds_in ks → c ≡ a ++ folds_in (ls ++ ks)
fold_two ls ks a b c e f = f ∙ ap (λ zs. zs ++ folds_in ks) e ∙ append_assoc a (folds_in ls) (folds_in ks) ∙ ap (λ zs. a ++ zs) (sym (folds_append ls ks))

pub fold_three : (ls ks js a b c d : List Leaf) → b ≡ a ++ folds_in ls → c ≡ b ++ folds_in ks → d ≡ c ++ folds_in js → d ≡ a ++ folds_in (ls ++ (ks ++ js))
fold_three ls ks js a b c d e f g = fold_two ls (ks ++ js) a b d e (fold_two ks js b c d f g)

-- those of a part before a subquery
pub fold_sub : (x y : Value) (fr : Frame) (kind : QuantKind) (query : Query) (a b : List Leaf) → x ≡ y → b ≡ a ++ folds_in (leaves [] x) → b ≡ a ++ folds_in (leaves [] y ++ (sub fr kind query ∷ []))
fold_sub x y fr kind query a b h e = e ∙ ap (λ z. a ++ folds_in (leaves [] z)) h ∙ ap (λ zs. a ++ zs) (sym (append-nil (folds_in (leaves [] y))) ∙ sym (folds_append (leaves [] y) (sub fr kind query ∷ [])))

-- one more part
pub fold_more : {X : Type 0} (L : List X → List Leaf) (xs : List X) (i : ℕ) (x : X) (ls : List Leaf) (old new end : List Leaf) → i < length xs → x ≡ get_or xs i x
    → L (x ∷ drop (i + 1) xs) ≡ ls ++ L (drop (i + 1) xs) → new ≡ old ++ folds_in ls → old ++ folds_in (L (drop i xs)) ≡ end → new ++ folds_in (L (drop (i + 1) xs)) ≡ end
fold_more {X} L xs i x ls old new end low is e f so_far =
    ap (λ zs. zs ++ folds_in (L (drop (i + 1) xs))) f ∙ append_assoc old (folds_in ls) (folds_in (L (drop (i + 1) xs)))
    ∙ ap (λ zs. old ++ zs) (sym (folds_append ls (L (drop (i + 1) xs)))) ∙ ap (λ zs. old ++ folds_in zs) (sym e)
    ∙ ap (λ (ys : List X). old ++ folds_in (L ys)) (sym (next_there xs i x low is)) ∙ so_far

-- what holds of two results and of three, where each is Ok
pub on_both : {T U E P Q R : Type 0} (a : Result T E) (b : Result U E) → (P → Q → R) → OnOk a P → OnOk b Q → OnOk (result_and a b) R
on_both (Ok x) (Ok y) f p q = f p q
on_both (Ok x) (Err e) f p q = tt
on_both (Err e) b f p q = tt

pub on_three : {T U V E P Q S R : Type 0} (a : Result T E) (b : Result U E) (d : Result V E) → (P → Q → S → R) → OnOk a P → OnOk b Q → OnOk d S → OnOk (result_and (result_and a b) d) R
on_three (Ok x) (Ok y) (Ok z) f p q r = f p q r
on_three (Ok x) (Ok y) (Err e) f p q r = tt
on_three (Ok x) (Err e) d f p q r = tt
on_three (Err e) b d f p q r = tt

-- what holds of two results that were both Ok
pub both_there : {T U E P Q R : Type 0} (a : Result T E) (b : Result U E) (r : Result U E) (y : U) → r ≡ result_and a b → r ≡ Ok y → OnOk a P → OnOk b Q → (P → Q → R) → R
both_there (Ok x) (Ok z) r y e w p q f = f p q
both_there (Ok x) (Err d) r y e w p q f = cc
both_there (Err d) b r y e w p q f = cc

pub ruleset folding = (folds_append, appended)
