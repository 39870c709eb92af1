-- Boxes are fit by facts of a graph.
use Rattle.std.proofs.Common.{ℕ, suc, zero, ◌≡◌, ◌<◌, ◌≤◌, ◌+◌, ◌==◌, ◌&&◌, Bool, true, false, cond, All, List, [], ◌∷◌, Some, get_or, length, map, refl, sym, ap, ◌∙◌, inl, inr, arith}
use Rattle.std.specs.List.{list_any}
use Rattle.std.proofs.lemmas.Bool.{cases_Bool, or_cases, or_left, or_right}
use Rattle.qgm_core.specs.Boxes.{ids_of, is_quant}
use Rattle.qgm_core.specs.Kinds.{is_F}
use Rattle.list_laws.specs.Lists.{In, first, times}
use Rattle.qgm_core.specs.declared.node.Node.{Node}
use Rattle.qgm_core.specs.declared.owned.OwnedQuant.{OwnedQuant}
use Rattle.qgm_meaning.specs.Scope.{loose_of}
use Rattle.qgm_meaning.specs.Searches.{names, names_cond}
use Rattle.box_exec.specs.Ready.{AllFit, Fit, binds_F, names_in_box}
use Rattle.box_exec.specs.Settled.{FitIfSettled, Settled, node_stands}
use Rattle.qgm_core.proofs.Reaching.{in-has}
use Rattle.box_exec.proofs.Tails.{Tail, at-head, behind-one, tail-in, tail-rank, whole}
use Rattle.list_laws.proofs.Booleans.{neither-left, neither-right}
use Rattle.list_laws.proofs.Membership.{eq-itself}
use Rattle.list_laws.proofs.Counting.{in-times, times-in}

in-at : (rs : List OwnedQuant) (i : ℕ) (d : OwnedQuant) → i < length rs → In (get_or rs i d) rs
in-at [] i d l = absurd (omega (arith, l))
in-at (r ∷ rs) zero d l = inl refl
in-at (r ∷ rs) (suc i) d l = inr (in-at rs i d (omega (arith, l)))

numbered : (rs : List OwnedQuant) → ((q : ℕ) → times q (map (λ r. r.id) rs) ≤ 1) → All (λ r. first (is_quant r.id) rs ≡ Some r) rs
numbered [] once i d l = absurd (omega (arith, l))
numbered (r ∷ rs) once zero d l = ap (λ (t : Bool). cond t (Some r) (first (is_quant r.id) rs)) (eq-itself r.id)
numbered (r ∷ rs) once (suc i) d l =
    let within : i < length rs = omega (arith, l) in
    let x = get_or rs i d in
    let stands : 1 ≤ times x.id (map (λ r. r.id) rs) = in-times (λ (r : OwnedQuant). r.id) x rs (in-at rs i d within) in
    elim (cases_Bool (r.id == x.id)) [
      | inl t ↦ absurd (let twice : times x.id (map (λ r. r.id) (r ∷ rs)) ≡ 1 + times x.id (map (λ r. r.id) rs) = ap (λ (b : Bool). cond b 1 0 + times x.id (map (λ r. r.id) rs)) t in let most = once x.id in omega (arith, twice, most, stands))
      | inr f ↦ ap (λ (t : Bool). cond t (Some r) (first (is_quant x.id) rs)) f ∙ numbered rs (λ q. (let most = once q in let less = fewer q r rs in omega (arith, most, less))) i d within
    ]
  where
    fewer : (q : ℕ) (r : OwnedQuant) (rs : List OwnedQuant) → times q (map (λ r. r.id) rs) ≤ times q (map (λ r. r.id) (r ∷ rs))
    fewer q r rs = omega arith

and-is : (a b : Bool) → b ≡ true → (a && b) ≡ false → a ≡ false
and-is true b t h = absurd (let z : ⊥ = cc in z)
and-is false b t h = refl

binds-none : (q : ℕ) (rs : List OwnedQuant) → list_any (λ r. is_F r.kind && is_quant q r) rs ≡ false → binds_F (first (is_quant q) rs) ≡ false
binds-none q [] h = refl
binds-none q (r ∷ rs) h =
    let here = neither-left (is_F r.kind && is_quant q r) (list_any (λ r. is_F r.kind && is_quant q r) rs) h in
    let rest = neither-right (is_F r.kind && is_quant q r) (list_any (λ r. is_F r.kind && is_quant q r) rs) h in
    elim (cases_Bool (is_quant q r)) [
      | inl t ↦ ap (λ (b : Bool). binds_F (cond b (Some r) (first (is_quant q) rs))) t ∙ and-is (is_F r.kind) (is_quant q r) t here
      | inr f ↦ ap (λ (b : Bool). binds_F (cond b (Some r) (first (is_quant q) rs))) f ∙ binds-none q rs rest
    ]

either-order : (q : ℕ) (n : Node) → names_in_box n q ≡ true → node_stands q n ≡ true
either-order q n h =
    let a = list_any (names q) n.parts.head in
    let b = list_any (names_cond q) n.parts.conds.items in
    elim (or_cases b a h) [ inl t ↦ or_right a b t | inr t ↦ or_left a b t ]

module _ (bs : List Node) (w : Settled bs) where
  fit-at : (n : Node) (ns : List Node) → Tail bs (n ∷ ns) → Fit n ns
  fit-at n ns t =
      let i : In n bs = tail-in bs (n ∷ ns) t n (inl refl) in
      record {
        numbered = numbered n.quants (λ q. (let most = w.once q in let part = times-in ids_of q n bs i in omega (arith, most, part)));
        nodes = λ q h. binds-none q n.quants (w.own_nodes n i q (either-order q n h));
        settled = λ q own. ap (λ (f : ℕ → Bool). f q) (sym (at-head (λ q. false) loose_of n ns) ∙ tail-rank (λ q. false) loose_of bs (n ∷ ns) t w.ordered n.id (in-has n (n ∷ ns) (inl refl))) ∙ w.settled n i q own;
      }

  all-fit : (ns : List Node) → Tail bs ns → AllFit ns
  all-fit [] t = tt
  all-fit (n ∷ ns) t = (fit-at n ns t, all-fit ns (behind-one bs n ns t))

pub fit-if-settled : FitIfSettled
fit-if-settled bs w = all-fit bs w bs (whole bs)
