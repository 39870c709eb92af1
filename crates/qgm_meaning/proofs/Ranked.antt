-- What is said of a box is a step of what is said of all boxes, and nothing else is so.
use Rattle.std.specs.Prelude.{⊤}
use Rattle.std.proofs.Common.{ℕ, ◌==◌, ◌≡◌, ◌||◌, cond, Bool, true, false, List, [], ◌∷◌, Option, Some, refl, sym, ◌∙◌, ap, subst, eqb-true, inl, inr}
use Rattle.std.proofs.lemmas.Bool.{and_from, and_parts, cases_Bool, eq-eqb, or_left, or_right}
use Rattle.list_laws.specs.Lists.{first}
use Rattle.qgm_core.specs.Boxes.{is_box, all_over, has_box, Ordered}
use Rattle.qgm_core.specs.declared.node.Node.{Node}
use Rattle.qgm_core.specs.declared.owned.OwnedQuant.{OwnedQuant}
use Rattle.qgm_meaning.specs.Ranks.{LooksUnder, SameUnder, by_rank}

-- a box that these boxes hold isn't one that they don't
pub apart : (m : ℕ) (b : ℕ) (ns : List Node) → has_box ns m ≡ false → has_box ns b ≡ true → (m == b) ≡ false
apart m b ns absent held =
    elim (cases_Bool (m == b)) [
      | inl t ↦ absurd (let same : m ≡ b = eqb-true m b t in let found : has_box ns m ≡ true = subst (λ k. has_box ns k ≡ true) (sym same) held in let z : ⊥ = cc in z)
      | inr t ↦ t
    ]

more-over : (m : Node) (ns : List Node) (rs : List OwnedQuant) → all_over ns rs ≡ true → all_over (m ∷ ns) rs ≡ true
more-over m ns [] all = refl
more-over m ns (r ∷ rs) all =
    let parts = and_parts (has_box ns r.over) (all_over ns rs) all in
    and_from (has_box (m ∷ ns) r.over) (all_over (m ∷ ns) rs) (rw parts.0 (or-true (m.id == r.over))) (more-over m ns rs parts.1)
  where
    or-true : (b : Bool) → (b || true) ≡ true
    or-true true = refl
    or-true false = refl

-- the quantifiers of a box range over boxes of the graph
pub overs-held : (ns : List Node) (b : ℕ) (n : Node) → Ordered ns → first (is_box b) ns ≡ Some n → all_over ns n.quants ≡ true
overs-held [] b n o h = absurd (let z : ⊥ = cc in z)
overs-held (m ∷ ns) b n o h =
    elim (m.id == b) as (λ t. ◌≡◌ {A = Option Node} (cond t (Some m) (first (is_box b) ns)) (Some n) → all_over (m ∷ ns) n.quants ≡ true) [
      | true ↦ λ h. (let same : m ≡ n = cc in subst (λ (z : Node). all_over (m ∷ ns) z.quants ≡ true) same (more-over m ns m.quants o.1))
      | false ↦ λ h. more-over m ns n.quants (overs-held ns b n o.2 h)
    ] h

pub under : {X : Type 0} (ns : List Node) (f g : ℕ → X) (rs : List OwnedQuant) → all_over ns rs ≡ true → ((b : ℕ) → has_box ns b ≡ true → f b ≡ g b) → SameUnder rs f g
under ns f g [] all h = tt
under ns f g (r ∷ rs) all h =
    let parts = and_parts (has_box ns r.over) (all_over ns rs) all in
    (h r.over parts.0, under ns f g rs parts.1 h)

module _ {X : Type 0} (none : X) (step : Node → (ℕ → X) → X) where
  abbrev said : List Node → ℕ → X
  said ns b = by_rank none step ns b

  pub lower : (m : Node) (ns : List Node) (b : ℕ) → (m.id == b) ≡ false → said (m ∷ ns) b ≡ said ns b
  lower m ns b h = ap (λ (t : Bool). cond t (step m (said ns)) (said ns b)) h

  -- what is said behind a box is said of the whole
  pub under-whole : (m : Node) (ns : List Node) (rs : List OwnedQuant) → has_box ns m.id ≡ false → all_over ns rs ≡ true → SameUnder rs (said ns) (said (m ∷ ns))
  under-whole m ns rs absent all = under ns (said ns) (said (m ∷ ns)) rs all (λ b held. sym (lower m ns b (apart m.id b ns absent held)))

  module _ (local : LooksUnder step) where
    pub unfold-rank : (ns : List Node) (b : ℕ) (n : Node) → Ordered ns → first (is_box b) ns ≡ Some n → said ns b ≡ step n (said ns)
    unfold-rank [] b n o h = absurd (let z : ⊥ = cc in z)
    unfold-rank (m ∷ ns) b n o h =
        elim (m.id == b) as (λ t. ◌≡◌ {A = Option Node} (cond t (Some m) (first (is_box b) ns)) (Some n) → ◌≡◌ {A = X} (cond t (step m (said ns)) (said ns b)) (step n (said (m ∷ ns)))) [
          | true ↦ λ h. (
              let same : m ≡ n = cc in
              ap (λ (z : Node). step z (said ns)) same ∙ local n (said ns) (said (m ∷ ns)) (under-whole m ns n.quants o.0 (subst (λ (z : Node). all_over ns z.quants ≡ true) same o.1)))
          | false ↦ λ h. unfold-rank ns b n o.2 h ∙ local n (said ns) (said (m ∷ ns)) (under-whole m ns n.quants o.0 (overs-held ns b n o.2 h))
        ] h

    abbrev pub GivenBack : (ℕ → X) → List Node → Type 0
    GivenBack f [] = ⊤
    GivenBack f (n ∷ ns) = (step n f ≡ f n.id) × GivenBack f ns

    pub only-rank : (f : ℕ → X) (ns : List Node) → Ordered ns → GivenBack f ns → (b : ℕ) → has_box ns b ≡ true → said ns b ≡ f b
    only-rank f [] o s b h = absurd (let z : ⊥ = cc in z)
    only-rank f (n ∷ ns) o s b h =
        elim (cases_Bool (n.id == b)) [
          | inl t ↦ ap (λ (t : Bool). cond t (step n (said ns)) (said ns b)) t
              ∙ local n (said ns) f (under ns (said ns) f n.quants o.1 (λ b h. only-rank f ns o.2 s.1 b h))
              ∙ s.0
              ∙ ap f (eqb-true n.id b t)
          | inr t ↦ lower n ns b t ∙ only-rank f ns o.2 s.1 b (subst (λ (t : Bool). (t || has_box ns b) ≡ true) t h)
        ]

    -- ---- the family itself

    -- these boxes are among those
    abbrev Among : List Node → List Node → Type 0
    Among ns [] = ⊤
    Among ns (k ∷ ks) = (has_box ns k.id ≡ true) × (all_over ns k.quants ≡ true) × Among ns ks

    among-more : (m : Node) (ns ks : List Node) → Among ns ks → Among (m ∷ ns) ks
    among-more m ns [] a = tt
    among-more m ns (k ∷ ks) a = (or_right (m.id == k.id) (has_box ns k.id) a.0, more-over m ns k.quants a.1, among-more m ns ks a.2)

    among-all : (ns : List Node) → Ordered ns → Among ns ns
    among-all [] o = tt
    among-all (m ∷ ns) o = (or_left (m.id == m.id) (has_box ns m.id) (eq-eqb m.id m.id refl), more-over m ns m.quants o.1, among-more m ns ns (among-all ns o.2))

    raised : (m : Node) (ns ks : List Node) → has_box ns m.id ≡ false → Among ns ks → GivenBack (said ns) ks → GivenBack (said (m ∷ ns)) ks
    raised m ns [] absent a s = tt
    raised m ns (k ∷ ks) absent a s =
        (sym (local k (said ns) (said (m ∷ ns)) (under-whole m ns k.quants absent a.1)) ∙ s.0 ∙ sym (lower m ns k.id (apart m.id k.id ns absent a.0)), raised m ns ks absent a.2 s.1)

    -- what is said of the boxes of a graph is given back by each
    pub self-back : (ns : List Node) → Ordered ns → GivenBack (said ns) ns
    self-back [] o = tt
    self-back (m ∷ ns) o = (
      sym (local m (said ns) (said (m ∷ ns)) (under-whole m ns m.quants o.0 o.1)) ∙ sym (ap (λ (t : Bool). cond t (step m (said ns)) (said ns m.id)) (eq-eqb m.id m.id refl)),
      raised m ns ns o.0 (among-all ns o.2) (self-back ns o.2),
    )
