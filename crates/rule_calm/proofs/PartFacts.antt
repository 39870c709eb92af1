-- Facts of a part of a graph: of boxes that stay, over which and by which alone they range and name.
use Rattle.std.proofs.Common.{ℕ, ◌≡◌, ◌≤◌, ◌<◌, Bool, true, List, [], ◌∷◌, ◌⊎◌, refl, subst, inl, inr, arith}
use Rattle.std.proofs.lemmas.Bool.{cases_Bool}
use Rattle.list_laws.specs.Lists.{In, holds}
use Rattle.list_laws.proofs.Booleans.{clash}
use Rattle.list_laws.proofs.Membership.{any-from, eq-itself, holds-in, in-holds}
use Rattle.qgm_core.specs.Boxes.{is_quant, owns}
use Rattle.qgm_core.specs.Free.{IsFree, Reaches, itself, named_by, reached, through}
use Rattle.qgm_core.specs.declared.node.Node.{Node}
use Rattle.qgm_core.specs.declared.owned.OwnedQuant.{OwnedQuant}
use Rattle.qgm_core.proofs.Reaching.{closes, reached-reaches, stays}
use Rattle.qgm_edit_laws.specs.Graph.{Sound}
use Rattle.qgm_edit_laws.specs.Rebuilds.{IsOwned}
use Rattle.qgm_edit_laws.specs.Shaped.{Shaped}
use Rattle.qgm_edit_laws.specs.Placed.{place}
use Rattle.qgm_edit_laws.proofs.Ranks.{place-under}
use Rattle.qgm_edit_laws.proofs.Scope.{one-owner}
use Rattle.qgm_props.specs.Inferred.{Closed, Facts}
use Rattle.qgm_props.specs.Laws.{Tells}
use Rattle.rule_calm.specs.Settled.{IsFirm, SettledBox}
use Rattle.rule_calm.proofs.Framed.{Carried, Covers, Still, gone-covers}
use Rattle.rule_calm.proofs.RebuiltSettled.{carries}

-- what box b reaches
abbrev pub under : List Node → ℕ → ℕ → Bool
under bs b c = holds c (reached (b ∷ []) bs)

module _ (bs : List Node) (root : ℕ) (w : Sound bs root) where
  pub under-itself : (b : ℕ) → under bs b b ≡ true
  under-itself b = in-holds b (reached (b ∷ []) bs) (stays b (b ∷ []) bs (inl refl))

  pub under-over : (b : ℕ) (n : Node) (r : OwnedQuant) → In n bs → In r n.quants → under bs b n.id ≡ true → under bs b r.over ≡ true
  under-over b n r i j h = in-holds r.over (reached (b ∷ []) bs) (closes (b ∷ []) bs w.ordered n r i (holds-in n.id (reached (b ∷ []) bs) h) j)

  -- what is named there is free in b, or owned by a box there
  pub under-named : (b : ℕ) (n : Node) (r : OwnedQuant) → In n bs → under bs b n.id ≡ true → holds r.id (named_by n) ≡ true → (o : IsOwned bs r) → IsFree bs b r.id ⊎ (under bs b o.0.id ≡ true)
  under-named b n r i h m o = elim (cases_Bool (under bs b o.0.id)) [
    | inl t ↦ inr t
    | inr e ↦ inl (
      (n, (i, ((reached-reaches bs w.ordered b n.id).0 h, m))),
      λ x j k. elim (cases_Bool (owns r.id x)) [
        | inr f ↦ f
        | inl y ↦ absurd (
            let same : x ≡ o.0 = one-owner bs root w r.id x o.0 j o.1.0 y (any-from (is_quant r.id) r o.0.quants o.1.1 (eq-itself r.id)) in
            clash (under bs b o.0.id) (subst (λ (z : Node). under bs b z.id ≡ true) same ((reached-reaches bs w.ordered b x.id).1 k)) e)
      ],
    )
  ]

  -- a box that ranges over b isn't there
  pub above-not-under : (b : ℕ) (n : Node) (r : OwnedQuant) → In n bs → In r n.quants → r.over ≡ b → under bs b n.id ≡ true → ⊥
  above-not-under b n r i j e h =
      let up : place bs n.id < place bs b = subst (λ z. place bs n.id < place bs z) e (place-under bs n r w.ordered i j) in
      let down = reach-place b n.id ((reached-reaches bs w.ordered b n.id).0 h) in
      omega (arith, up, down)
    where
      reach-place : (b c : ℕ) → Reaches bs b c → place bs b ≤ place bs c
      reach-place b c (itself x) = omega arith
      reach-place b c (through n r x i j k) = let l = place-under bs n r w.ordered i j in let h = reach-place r.over c k in omega (arith, l, h)

module _ (bs hs : List Node) (root : ℕ) (w : Sound bs root) (v : Sound hs root) (sh : Shaped bs root) (f g : Facts) (tells : Tells f bs) (closed : Closed hs g)
    (settled : (n : Node) → In n bs → SettledBox bs f root n) (kept : ℕ → Bool) (firm : (b : ℕ) → IsFirm bs b → kept b ≡ true → IsFirm hs b) (part : ℕ → Bool) (here : (b : ℕ) → part b ≡ true → kept b ≡ true) where
  -- a box of the part stays, over the part, and names the part
  pub still-in-part : (n : Node) → Still bs hs kept n → part n.id ≡ true → ((r : OwnedQuant) → In r n.quants → part r.over ≡ true) → ((r : OwnedQuant) → holds r.id (named_by n) ≡ true → IsOwned bs r → part r.over ≡ true) → Still bs hs part n
  still-in-part n s p over named = record {
    before = s.before;
    after = s.after;
    number = p;
    over = over;
    named = λ r h o. (named r h o, (s.named r h o).1);
    shut = s.shut;
    shut_over = s.shut_over;
  }

  pub part-carried : ((n : Node) → In n bs → part n.id ≡ true → Still bs hs part n ⊎ Covers bs hs f g part n) → Carried f g part
  part-carried each = carries bs hs root w v sh part f g closed settled (λ b x p. firm b x (here b p)) tells (λ n i. elim (cases_Bool (part n.id)) [
    | inl p ↦ each n i p
    | inr e ↦ inr (gone-covers bs hs f g part n e)
  ])
