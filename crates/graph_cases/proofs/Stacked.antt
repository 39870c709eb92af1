-- The numbers of the quantifiers of boxes that are made in turn.
use Rattle.std.proofs.Common.{◌≡◌, ℕ, suc, ◌<◌, ◌++◌, List, [], ◌∷◌, refl, ap, sym, ◌∙◌, map, length, get_or, drop, drop-cons}
use Rattle.std.proofs.lemmas.List.{append-nil, append_assoc}
use Rattle.qgm_core.specs.Boxes.{ids_in, ids_of}
use Rattle.qgm_core.specs.Made.{made_box, on_top}
use Rattle.qgm_core.specs.declared.made.NewBox.{NewBox}
use Rattle.qgm_core.specs.declared.node.Node.{Node}

ids_one : (x : Node) (below : List Node) → ids_in (x ∷ below) ≡ ids_in (x ∷ []) ++ ids_in below
ids_one x below = ap (λ (ids : List ℕ). ids ++ ids_in below) (sym (append-nil (ids_of x)))

-- those of the boxes below stand behind those of the boxes on top
ids-on_top : (b : ℕ) (made : List NewBox) (below : List Node) → ids_in (on_top b made below) ≡ ids_in (on_top b made []) ++ ids_in below
ids-on_top b [] below = refl
ids-on_top b (n ∷ made) below =
    ids-on_top (suc b) made (made_box b n ∷ below)
    ∙ ap (λ (ids : List ℕ). ids_in (on_top (suc b) made []) ++ ids) (ids_one (made_box b n) below)
    ∙ sym (append_assoc (ids_in (on_top (suc b) made [])) (ids_in (made_box b n ∷ [])) (ids_in below))
    ∙ ap (λ (ids : List ℕ). ids ++ ids_in below) (sym (ids-on_top (suc b) made (made_box b n ∷ [])))

-- one box more of those that are on top
pub ids-more : (made : List NewBox) (k : ℕ) (d : NewBox) (done more : List ℕ) → k < length made → done ≡ ids_in (on_top (suc k) (drop (suc k) made) []) → more ≡ done ++ map (λ r. r.id) (get_or made k d).quants → more ≡ ids_in (on_top k (drop k made) [])
ids-more made k d done more l e m =
    m
    ∙ ap (λ (ids : List ℕ). ids ++ map (λ r. r.id) (get_or made k d).quants) e
    ∙ sym (
    ap (λ (ns : List NewBox). ids_in (on_top k ns [])) (drop-cons made k d l)
    ∙ ids-on_top (suc k) (drop (suc k) made) (made_box k (get_or made k d) ∷ [])
    ∙ ap (λ (ids : List ℕ). ids_in (on_top (suc k) (drop (suc k) made) []) ++ ids) (append-nil (ids_of (made_box k (get_or made k d))))
    )
