-- Of one quantifier none is another one.
use Rattle.std.proofs.Common.{ℕ, ◌==◌, ◌≡◌, ◌≤◌, ◌&&◌, ◌||◌, not, false, List, [], ◌∷◌, length, refl, ap, ◌∙◌, inl, inr, arith}
use Rattle.std.specs.List.{list_any}
use Rattle.std.proofs.Math.Bool.{and-false}
use Rattle.std.proofs.lemmas.Bool.{cases_Bool, or_from}
use Rattle.qgm_core.specs.Boxes.{QueryGraph, is_quant, owns}
use Rattle.qgm_core.specs.Free.{free}
use Rattle.qgm_core.specs.Kinds.{is_F}
use Rattle.qgm_core.specs.declared.node.Node.{Node}
use Rattle.qgm_core.specs.declared.owned.OwnedQuant.{OwnedQuant}
use Rattle.rule_merge.specs.MergeSelect.{has_lateral, is_lateral}
use Rattle.list_laws.proofs.Membership.{any-not, eq-false-sym}

-- q is the one, or isn't owned
no-other : (c : Node) (s : OwnedQuant) → c.quants ≡ s ∷ [] → (q : ℕ) → (owns q c && not (q == s.id)) ≡ false
no-other c s e q = elim (cases_Bool (q == s.id)) [
  | inl t ↦ ap (λ z. owns q c && not z) t ∙ and-false (owns q c)
  | inr f ↦ ap (λ z. list_any (is_quant q) z && not (q == s.id)) e ∙ ap (λ z. (z || false) && not (q == s.id)) (eq-false-sym q s.id f)
]

not-by : (g : QueryGraph) (c : Node) (rs : List OwnedQuant) → c.quants ≡ rs → length rs ≤ 1 → list_any (is_lateral g c) rs ≡ false
not-by g c [] e h = refl
not-by g c (s ∷ []) e h =
    let none : list_any (λ q. owns q c && not (q == s.id)) (free s.over g) ≡ false = any-not (λ q. owns q c && not (q == s.id)) (free s.over g) (λ q i. no-other c s e q) in
    or_from (is_lateral g c s) false (ap (λ z. is_F s.kind && z) none ∙ and-false (is_F s.kind)) refl
not-by g c (s ∷ (t ∷ rs)) e h = absurd (omega arith)

pub alone_apart : (g : QueryGraph) (c : Node) → length c.quants ≤ 1 → has_lateral g c ≡ false
alone_apart g c h = not-by g c c.quants refl h
