-- The boxes that F and S quantifiers range over, as marks.
use Rattle.std.proofs.Common.{ℕ, ◌==◌, ◌≡◌, ◌∙◌, ◌||◌, ◌&&◌, ◌++◌, cond, true, false, Bool, List, [], ◌∷◌, ap, filter, map, refl, sym}
use Rattle.std.specs.List.{list_any, flat_map}
use Rattle.std.proofs.lemmas.List.Folds.{list_any-append}
use Rattle.list_laws.specs.Lists.{holds}
use Rattle.list_laws.proofs.Booleans.{and-false, and-true}
use Rattle.qgm_core.specs.Kinds.{is_F_or_S}
use Rattle.qgm_core.specs.declared.node.Node.{Node}
use Rattle.qgm_core.specs.declared.owned.OwnedQuant.{OwnedQuant}
use Rattle.qgm_wellformed.specs.WellFormed.{is_counted, is_counted_in}
use Rattle.qgm_check.specs.Survey.{counted_by, counted_in}

counted-among : (b : ℕ) (rs : List OwnedQuant) → holds b (map (λ r. r.over) (filter (λ r. is_F_or_S r.kind) rs)) ≡ is_counted_in rs b
counted-among b [] = refl
counted-among b (r ∷ rs) = elim (is_F_or_S r.kind) as (λ t. holds b (map (λ x. x.over) (cond t (r ∷ filter (λ x. is_F_or_S x.kind) rs) (filter (λ x. is_F_or_S x.kind) rs))) ≡ (((r.over == b) && t) || is_counted_in rs b)) [
  | true ↦ ap (λ (t : Bool). (r.over == b) || t) (counted-among b rs) ∙ ap (λ (t : Bool). t || is_counted_in rs b) (sym (and-true (r.over == b)))
  | false ↦ counted-among b rs ∙ ap (λ (t : Bool). t || is_counted_in rs b) (sym (and-false (r.over == b)))
]

pub counted_marked : (ns : List Node) (b : ℕ) → holds b (counted_in ns) ≡ is_counted ns b
counted_marked [] b = refl
counted_marked (n ∷ ns) b =
    list_any-append (λ m. m == b) (counted_by n) (counted_in ns)
    ∙ ap (λ (t : Bool). t || holds b (counted_in ns)) (counted-among b n.quants)
    ∙ ap (λ (t : Bool). is_counted_in n.quants b || t) (counted_marked ns b)
