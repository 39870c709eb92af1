-- Columns that are renamed box by box are renamed in all boxes that are reached.
use Rattle.std.proofs.Common.{ℕ, ◌≡◌, cond, Bool, true, List, [], ◌∷◌, map, sym, ap, ◌∙◌, inl, inr, subst}
use Rattle.std.specs.Prelude.{filter}
use Rattle.std.proofs.lemmas.Bool.{cases_Bool}
use Rattle.qgm_core.specs.Boxes.{QueryGraph, has_box, numbers}
use Rattle.qgm_core.specs.Edits.{on_boxes}
use Rattle.list_laws.specs.Lists.{EachOnce, In, holds}
use Rattle.qgm_core.specs.declared.node.Node.{Node}
use Rattle.qgm_edit_laws.proofs.Ranks.{has-in}
use Rattle.qgm_meaning.specs.Scope.{put_node}
use Rattle.qgm_terms.specs.Terms.{Term}
use Rattle.rule_feed.specs.FeedSteps.{put_in}
use Rattle.rule_feed.proofs.SplitEdits.{put-each-is}
use Rattle.rule_magic.specs.Region.{is_below}
use Rattle.rule_magic.specs.RenameSteps.{rename_below}
use Rattle.list_laws.proofs.Booleans.{clash}
use Rattle.list_laws.proofs.Membership.{filter-in, holds-in, in-filter, in-holds, map-in, map-same}

-- those that pass are each there once
kept-once : (t : ℕ → Bool) (xs : List ℕ) → EachOnce xs → EachOnce (filter t xs)
kept-once t [] o = tt
kept-once t (x ∷ xs) o = elim (cases_Bool (t x)) [
  | inr f ↦ subst (λ v. EachOnce (cond v (x ∷ filter t xs) (filter t xs))) (sym f) (kept-once t xs o.1)
  | inl e ↦ subst (λ v. EachOnce (cond v (x ∷ filter t xs) (filter t xs))) (sym e) (
    elim (cases_Bool (holds x (filter t xs))) [
      | inr f ↦ f
      | inl h ↦ absurd (clash (holds x xs) (in-holds x xs (in-filter t x xs (holds-in x (filter t xs) h)).0) o.0)
    ],
    kept-once t xs o.1,
  )
]

pub rename-below-is : (bs : List Node) (y a : ℕ) (cells : List Term) (h : QueryGraph) → EachOnce (numbers bs) → EachOnce (numbers h.boxes) → ((b : ℕ) → is_below bs y b ≡ true → has_box bs b ≡ true)
    → rename_below bs y a cells h ≡ on_boxes (λ (ns : List Node). map (λ (n : Node). cond (is_below bs y n.id) (put_node a cells n) n) ns) h
rename-below-is bs y a cells h once u there =
    put-each-is a cells (filter (is_below bs y) (numbers bs)) h (kept-once (is_below bs y) (numbers bs) once) u
    ∙ ap (λ (ns : List Node). record h { boxes = ns }) (map-same (put_in (filter (is_below bs y) (numbers bs)) a cells) (λ (n : Node). cond (is_below bs y n.id) (put_node a cells n) n) h.boxes (λ n i. ap (λ (v : Bool). cond v (put_node a cells n) n) (same n.id)))
  where
    stands : (b : ℕ) → is_below bs y b ≡ true → In b (numbers bs)
    stands b t = let n = has-in b bs (there b t) in subst (λ (i : ℕ). In i (numbers bs)) n.1.1 (map-in (λ (z : Node). z.id) n.0 bs n.1.0)

    same : (b : ℕ) → holds b (filter (is_below bs y) (numbers bs)) ≡ is_below bs y b
    same b = elim (cases_Bool (is_below bs y b)) [
      | inl t ↦ in-holds b (filter (is_below bs y) (numbers bs)) (filter-in (is_below bs y) b (numbers bs) (stands b t) t) ∙ sym t
      | inr f ↦ elim (cases_Bool (holds b (filter (is_below bs y) (numbers bs)))) [ inr e ↦ e ∙ sym f | inl k ↦ absurd (clash (is_below bs y b) (in-filter (is_below bs y) b (numbers bs) (holds-in b (filter (is_below bs y) (numbers bs)) k)).1 f) ]
    ]
