-- Cells of aggregates and of keys, one by one.
use Rattle.std.proofs.Common.{◌≡◌, ◌<◌, ◌+◌, ◌-◌, ℕ, suc, List, [], ◌∷◌, ◌++◌, append_assoc, map, refl, ap, sym, arith, ◌∙◌}
use Rattle.qgm_translation.specs.Leaves.{Leaf, count, fold, sub}
use Rattle.qgm_translation.specs.Maps.{Ref, column, none_counted}
use Rattle.qgm_translation.specs.Shown.{fold_refs, key_frame, key_ref, ungrouped, ungrouped_cells}
use Rattle.qgm_translation.specs.Folds.{folds_in}
use Rattle.qgm_build_terms.specs.Folds.{leaf_of}
use Rattle.qgm_build_terms.specs.declared.folds.Fold.{Fold}
use Rattle.qgm_build_terms.specs.declared.folds.Fold.TheVariants.{CountAll, Of}

pub ungrouped_more : (x : Leaf) (ls : List Leaf) → ungrouped_cells (x ∷ ls) ≡ ungrouped_cells (x ∷ []) ++ ungrouped_cells ls
ungrouped_more (sub fr kind query) ls = refl
ungrouped_more (fold f distinct x) ls = refl
ungrouped_more count ls = refl

pub ungrouped_folds : (ls : List Leaf) → ungrouped_cells (folds_in ls) ≡ ungrouped_cells ls
ungrouped_folds [] = refl
ungrouped_folds (sub fr kind query ∷ ls) = ungrouped_folds ls
ungrouped_folds (fold f distinct x ∷ ls) = ap (λ rs. ungrouped f ∷ rs) (ungrouped_folds ls)
ungrouped_folds (count ∷ ls) = ap (λ rs. none_counted ∷ rs) (ungrouped_folds ls)

key_step : (u : ℕ) (places : List ℕ) (i n : ℕ) → i < n → key_frame u places i (n - i) ≡ key_ref u 1 places i ∷ key_frame u places (i + 1) (n - (i + 1))
key_step u places i n h =
    let e : n - i ≡ suc (n - (i + 1)) = omega arith in
    ap (key_frame u places i) e

pub key_more : (ys : List Ref) (u : ℕ) (places : List ℕ) (i n : ℕ) (a : List Ref) → i < n → a ++ key_frame u places i (n - i) ≡ ys
    → (a ++ (key_ref u 1 places i ∷ [])) ++ key_frame u places (i + 1) (n - (i + 1)) ≡ ys
key_more ys u places i n a h e =
    append_assoc a (key_ref u 1 places i ∷ []) (key_frame u places (i + 1) (n - (i + 1))) ∙ ap (λ z. a ++ z) (sym (key_step u places i n h)) ∙ e

pub refs_more : (u k : ℕ) (x : Fold) (xs : List Fold) → fold_refs u k (map leaf_of (x ∷ xs)) ≡ column u k ∷ fold_refs u (suc k) (map leaf_of xs)
refs_more u k CountAll xs = refl
refs_more u k (Of f distinct x) xs = refl
