-- Nothing is free in a box that owns no quantifier and names none.
use Rattle.std.proofs.Common.{ℕ, suc, zero, ◌==◌, ◌≡◌, ◌<◌, ◌∙◌, ◌||◌, ◌++◌, arith, cond, get_or, length, true, false, Bool, List, [], ◌∷◌, ap, sym, subst, refl, inl, inr}
use Rattle.std.specs.List.{list_all, flat_map}
use Rattle.std.proofs.lemmas.Bool.{cases_Bool, eqb-true, eq-eqb}
use Rattle.list_laws.specs.Lists.{EachOnce, In, holds}
use Rattle.list_laws.proofs.Booleans.{clash}
use Rattle.list_laws.proofs.Membership.{all-from, in-holds, map-in}
use Rattle.qgm_core.specs.Boxes.{numbers, overs_of}
use Rattle.qgm_core.specs.Free.{free_in, named_by, named_where, owned_where, reached}
use Rattle.qgm_core.specs.declared.node.Node.{Node}
use Rattle.qgm_wellformed.specs.Closed.{names_owned}
use Rattle.qgm_wellformed.specs.WellFormed.{is_empty}
use Rattle.qgm_wellformed.proofs.ClosedLaws.{closed_owned}
use Rattle.qgm_check.specs.Survey.{IsApart}

pub at-in : (ns : List Node) (i : ℕ) (n : Node) → i < length ns → n ≡ get_or ns i n → In n ns
at-in [] i n l e = absurd (omega (arith, l))
at-in (m ∷ ms) zero n l e = inl (sym e)
at-in (m ∷ ms) (suc i) n l e = inr (at-in ms i n (omega (arith, l)) e)

-- each box of this number owns nothing and names nothing
abbrev AllApart : ℕ → List Node → Type 0
AllApart b ns = (m : Node) → In m ns → m.id ≡ b → IsApart m

-- the box of a number is the one that stands here
same-box : (ns : List Node) → EachOnce (numbers ns) → (n m : Node) → In n ns → In m ns → m.id ≡ n.id → n ≡ m
same-box [] once n m i j e = elim i [ ]
same-box (x ∷ xs) once n m i j e = elim i [
  | inl here ↦ elim j [
    | inl there ↦ sym here ∙ there
    | inr there ↦ absurd (clash (holds x.id (numbers xs)) (in-holds x.id (numbers xs) (subst (λ (k : ℕ). In k (numbers xs)) (e ∙ ap (λ (y : Node). y.id) (sym here)) (map-in (λ (y : Node). y.id) m xs there))) once.0)
  ]
  | inr later ↦ elim j [
    | inl there ↦ absurd (clash (holds x.id (numbers xs)) (in-holds x.id (numbers xs) (subst (λ (k : ℕ). In k (numbers xs)) (sym e ∙ ap (λ (y : Node). y.id) (sym there)) (map-in (λ (y : Node). y.id) n xs later))) once.0)
    | inr there ↦ same-box xs once.1 n m later there e
  ]
]

reaches-itself : (b : ℕ) (ns : List Node) → AllApart b ns → reached (b ∷ []) ns ≡ b ∷ []
reaches-itself b [] a = refl
reaches-itself b (n ∷ ns) a = ap (λ (marks : List ℕ). reached marks ns) (stays (b == n.id) refl) ∙ reaches-itself b ns (λ m i. a m (inr i))
  where
    stays : (t : Bool) → (b == n.id) ≡ t → cond (t || false) ((b ∷ []) ++ overs_of n) (b ∷ []) ≡ b ∷ []
    stays true e = ap (λ rs. b ∷ ([] ++ overs_of (record n { quants = rs }))) (a n (inl refl) (sym (eqb-true b n.id e))).0
    stays false e = refl

pub apart_closed : (ns : List Node) (n : Node) → EachOnce (numbers ns) → In n ns → IsApart n → true ≡ is_empty (free_in ns n.id)
apart_closed ns n once i apart =
    let all : AllApart n.id ns = λ m j e. subst IsApart (same-box ns once n m i j e) apart in
    let marks : reached (n.id ∷ []) ns ≡ n.id ∷ [] = reaches-itself n.id ns all in
    let ms = reached (n.id ∷ []) ns in
    sym (all-from (names_owned ms (flat_map (owned_where ms) ns)) ns (owned all marks)) ∙ closed_owned ms ns
  where
    owned : AllApart n.id ns → reached (n.id ∷ []) ns ≡ n.id ∷ [] → (m : Node) → In m ns → names_owned (reached (n.id ∷ []) ns) (flat_map (owned_where (reached (n.id ∷ []) ns)) ns) m ≡ true
    owned all marks m j = ap (list_all (λ q. holds q (flat_map (owned_where (reached (n.id ∷ []) ns)) ns))) (ap (λ (ms : List ℕ). named_where ms m) marks ∙ nothing (n.id == m.id) refl)
      where
        nothing : (t : Bool) → (n.id == m.id) ≡ t → cond (t || false) (named_by m) [] ≡ []
        nothing true e = (all m j (sym (eqb-true n.id m.id e))).1
        nothing false e = refl
