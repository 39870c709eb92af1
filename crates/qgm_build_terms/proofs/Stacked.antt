-- A box that is made last stands on top.
use Rattle.std.proofs.Common.{◌≡◌, ◌+◌, ◌≤◌, ℕ, suc, List, [], ◌∷◌, ◌++◌, length, Bool, refl, ap, ap₂, arith, ◌∙◌}
use Rattle.qgm_box_size.specs.Nodes.{boxes_size, cells_size, conjuncts_size}
use Rattle.qgm_core.specs.Made.{boxes_of, made_box, on_top}
use Rattle.qgm_core.specs.declared.made.NewBox.{NewBox}
use Rattle.qgm_core.specs.declared.node.Node.{Node}
use Rattle.qgm_core.specs.declared.kinds.BoxKind.{BoxKind}
use Rattle.qgm_core.specs.declared.kinds.Distinct.{Distinct}
use Rattle.qgm_core.specs.declared.kinds.Role.TheVariants.{Plain}
use Rattle.qgm_core.specs.declared.owned.OwnedQuant.{OwnedQuant}
use Rattle.qgm_terms.specs.Conjuncts.{Conjuncts}
use Rattle.qgm_terms.specs.Terms.{Cond, Term}
use Rattle.qgm_translation.specs.Shown.{distinct_of}
use Rattle.sql_value.specs.declared.order_key.SqlType.{SqlType}
use Rattle.qgm_translation.specs.Lay.{Boxes, SharedBox, column_types}
use Rattle.qgm_translation.specs.Lay as y
use Rattle.qgm_build_terms.specs.Most.{most_nodes}

on_top_more : (b : ℕ) (xs : List NewBox) (n : NewBox) (below : List Node) → on_top b (xs ++ n ∷ []) below ≡ made_box (length xs + b) n ∷ on_top b xs below
on_top_more b [] n below =
    let e : b ≡ 0 + b = omega arith in
    ap (λ k. made_box k n ∷ below) e
on_top_more b (x ∷ xs) n below =
    let e : length xs + suc b ≡ length (x ∷ xs) + b = omega arith in
    on_top_more (suc b) xs n (made_box b x ∷ below) ∙ ap (λ k. made_box k n ∷ on_top (suc b) xs (made_box b x ∷ below)) e

pub stacked : (xs : List NewBox) (n : NewBox) → boxes_of (xs ++ n ∷ []) ≡ made_box (length xs) n ∷ boxes_of xs
stacked xs n =
    let e : length xs + 0 ≡ length xs = omega arith in
    on_top_more 0 xs n [] ∙ ap (λ k. made_box k n ∷ boxes_of xs) e

-- it takes its nodes off what is left
pub counted_more : (xs new : List NewBox) (n : NewBox) (left rest : ℕ) → new ≡ xs ++ n ∷ [] → rest + (cells_size n.parts.head + conjuncts_size n.parts.conds.items) ≡ left → boxes_size (boxes_of xs) + left ≤ most_nodes
    → boxes_size (boxes_of new) + rest ≤ most_nodes
counted_more xs new n left rest is e h =
    let same : boxes_size (boxes_of new) ≡ (cells_size n.parts.head + conjuncts_size n.parts.conds.items) + boxes_size (boxes_of xs) = ap (λ (zs : List NewBox). boxes_size (boxes_of zs)) is ∙ ap boxes_size (stacked xs n) in
    omega (arith, same, e, h)

one_more : (xs : List NewBox) (n : NewBox) → length (xs ++ n ∷ []) ≡ suc (length xs)
one_more [] n = refl
one_more (x ∷ xs) n = ap suc (one_more xs n)

abbrev pub boxes : List Node → ℕ → ℕ → List (List SqlType) → List (List SqlType) → List SharedBox → Boxes
boxes ns k q rows types shared = record { made = ns; box = k; quant = q; rows = rows; types = types; shared = shared }

abbrev plain : BoxKind → List Cond → List Term → List OwnedQuant → ℕ → List Node → Distinct → ℕ → List Node
plain kind conds head quants b ns d k = record { id = b; parts = record { kind = kind; distinct = d; role = Plain; conds = record { items = conds; spare = k }; head = head }; quants = quants } ∷ ns

-- what is made last is a plain box
pub put_last : (kind : BoxKind) (distinct : Bool) (d : Distinct) (conds : Conjuncts) (head : List Term) (quants : List OwnedQuant) (xs new : List NewBox) (q : ℕ) (rows types more : List (List SqlType)) (shared : List SharedBox) → conds.spare ≡ 0 → d ≡ distinct_of distinct
    → new ≡ xs ++ record { parts = record { kind = kind; distinct = d; role = Plain; conds = conds; head = head }; quants = quants } ∷ []
    → more ≡ types ++ column_types rows kind head ∷ []
    → boxes (boxes_of new) (length new) q rows more shared ≡ (y.put kind distinct conds.items head quants (boxes (boxes_of xs) (length xs) q rows types shared)).boxes
put_last kind distinct d conds head quants xs new q rows types more shared spare e is f =
    let n : NewBox = record { parts = record { kind = kind; distinct = d; role = Plain; conds = conds; head = head }; quants = quants } in
    ap (λ (zs : List NewBox). boxes (boxes_of zs) (length zs) q rows more shared) is
    ∙ ap₂ (λ (ns : List Node) (k : ℕ). boxes ns k q rows more shared) (stacked xs n) (one_more xs n)
    ∙ ap₂ (λ (z : Distinct) (k : ℕ). boxes (plain kind conds.items head quants (length xs) (boxes_of xs) z k) (suc (length xs)) q rows more shared) e spare
    ∙ ap (λ (z : List (List SqlType)). boxes (plain kind conds.items head quants (length xs) (boxes_of xs) (distinct_of distinct) 0) (suc (length xs)) q rows z shared) f
