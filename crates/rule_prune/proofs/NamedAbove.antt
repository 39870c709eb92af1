-- The columns of a box that are marked box by box, as its quantifiers are found, are named.
use Rattle.std.proofs.Common.{ℕ, zero, suc, ◌≡◌, ◌==◌, cond, true, false, List, [], ◌∷◌, ◌++◌, drop, filter, map, refl, ap, subst, ◌∙◌, inl, inr}
use Rattle.std.specs.List.{list_any}
use Rattle.std.proofs.lemmas.Bool.{or_parts}
use Rattle.list_laws.specs.Lists.{In, holds}
use Rattle.list_laws.proofs.Membership.{flat-in, holds-in, in-append, in-holds, in-left}
use Rattle.qgm_core.specs.Edits.{ids_over, quants_over}
use Rattle.qgm_core.specs.declared.node.Node.{Node}
use Rattle.qgm_core.specs.declared.owned.OwnedQuant.{OwnedQuant}
use Rattle.rule_prune.specs.NamedColumns.{named_in_box, named_of}
use Rattle.rule_prune.specs.NamedColumnsLaws.{box-lists, lists-box}

-- of more quantifiers more is named
more-named : (qs ps : List ℕ) (n : Node) (k : ℕ) → In k (named_in_box qs n) → In k (named_in_box (qs ++ ps) n)
more-named qs ps n k i =
    let x = lists-box qs k n i in
    box-lists (qs ++ ps) x.0 k n (in-holds x.0 (qs ++ ps) (in-left x.0 qs ps (holds-in x.0 qs x.1.0))) x.1.1

-- one more box, by the quantifiers that are found so far
pub above-more : (b : ℕ) (bs : List Node) (x : Node) (qs rest old : List ℕ) → In x bs → qs ++ rest ≡ quants_over b bs → ((k : ℕ) → holds k old ≡ true → holds k (named_of b bs) ≡ true)
    → (k : ℕ) → holds k (old ++ named_in_box qs x) ≡ true → holds k (named_of b bs) ≡ true
above-more b bs x qs rest old i e h k t = elim (in-append k old (named_in_box qs x) (holds-in k (old ++ named_in_box qs x) t)) [
  | inl j ↦ h k (in-holds k old j)
  | inr j ↦ in-holds k (named_of b bs) (flat-in (named_in_box (quants_over b bs)) x k bs i (subst (λ z. In k (named_in_box z x)) e (more-named qs rest x k j)))
]

-- a box none of whose quantifiers ranges over b
pub none-over : (b : ℕ) (rs : List OwnedQuant) → list_any (λ (r : OwnedQuant). r.over == b) rs ≡ false → ids_over b rs ≡ []
none-over b [] h = refl
none-over b (r ∷ rs) h =
    let a = or_parts (r.over == b) (list_any (λ (s : OwnedQuant). s.over == b) rs) h in
    ap (λ t. map (λ (s : OwnedQuant). s.id) (cond t (r ∷ filter (λ (s : OwnedQuant). s.over == b) rs) (filter (λ (s : OwnedQuant). s.over == b) rs))) a.0 ∙ none-over b rs a.1

pub in-drop : {X : Type 0} (i : ℕ) (xs : List X) (x : X) → In x (drop i xs) → In x xs
in-drop zero xs x j = j
in-drop (suc i) [] x j = j
in-drop (suc i) (y ∷ xs) x j = inr (in-drop i xs x j)
