-- In a sound graph each head is known at last: what it names ranges over boxes that are known before.
use Rattle.std.proofs.Common.{ℕ, suc, zero, ◌≡◌, ◌&&◌, ◌<◌, Bool, true, List, [], ◌∷◌, ◌++◌, length, Some, refl, sym, ap, subst, ◌∙◌, eqb-true, inl, inr, arith}
use Rattle.std.specs.List.{flat_map}
use Rattle.std.proofs.lemmas.Bool.{and_parts, cases_Bool, or_cases, or_left}
use Rattle.qgm_core.specs.Boxes.{Ordered, ids_of, is_quant, owns, has_box}
use Rattle.qgm_core.specs.Free.{named_by}
use Rattle.qgm_core.specs.Kinds.{is_F}
use Rattle.list_laws.specs.Lists.{In, first}
use Rattle.qgm_core.specs.declared.kinds.BoxKind.TheVariants.{Select}
use Rattle.qgm_core.specs.declared.node.Node.{Node}
use Rattle.qgm_core.specs.declared.owned.OwnedQuant.{OwnedQuant}
use Rattle.qgm_meaning.specs.Scope.{loose, loose_by, loose_each, looks_found, read_by, under_any}
use Rattle.qgm_terms.specs.Named.{names_in, names_in_cond}
use Rattle.qgm_edit_laws.specs.Graph.{Sound, binds_row, nodes_in}
use Rattle.qgm_edit_laws.proofs.Levels as levels
use Rattle.qgm_edit_laws.proofs.Ranks.{has-in, place, place-under}
use Rattle.qgm_edit_laws.proofs.Read.{named-split}
use Rattle.qgm_edit_laws.proofs.Scope.{climb, in-first, parent, touched, unfold-loose}
use Rattle.qgm_edit_laws.proofs.Settled.{settled-soon}
use Rattle.qgm_edit_laws.proofs.Turns.{each-turn, first-own}
use Rattle.qgm_core.proofs.Reaching.{overs-held}
use Rattle.list_laws.proofs.Counting.{times-in}
use Rattle.list_laws.proofs.Membership.{all-from, all-in, any-in, append-one, in-holds, in-left}

in-one : {X : Type 0} (P : X → Type 0) (xs : List X) (x : X) → ((y : X) → In y xs → P y) → P x → (y : X) → In y (xs ++ x ∷ []) → P y
in-one P [] x f p y i = elim i [ inl e ↦ subst P e p | inr z ↦ elim z [ ] ]
in-one P (z ∷ xs) x f p y i = elim i [ inl e ↦ f y (inl e) | inr j ↦ in-one P xs x (λ u k. f u (inr k)) p y j ]

module _ (bs : List Node) (root : ℕ) (w : Sound bs root) where
  abbrev T : ℕ → Bool
  T b = levels.settled bs w.ordered w.once (length bs) b

  abbrev U : ℕ → Type 0
  U q = levels.under bs w.ordered w.once T q ≡ true

  -- what a box looks up ranges over boxes that are known
  abbrev Given : ℕ → Type 0
  Given b = (q : ℕ) → loose bs b q ≡ true → U q

  own : (n : Node) → In n bs → (r : OwnedQuant) → In r n.quants → T r.over ≡ true → U r.id
  own n i r j h = ap (levels.under_by bs w.ordered w.once T) (levels.owner-of bs w.once n r i j) ∙ h

  -- a box whose names range over boxes that are known is known
  close : (n : Node) → In n bs → ((q : ℕ) → In q (flat_map names_in n.parts.head) → U q) → T n.id ≡ true
  close n i h = settled-soon bs w.ordered w.once (suc (length bs)) n.id (ap (levels.step_by bs w.ordered w.once T) (in-first n bs w.ordered i) ∙ all-from (levels.under bs w.ordered w.once T) (flat_map names_in n.parts.head) h)

  module _ (n : Node) (i : In n bs) (given : Given n.id) (below : (r : OwnedQuant) → In r n.quants → Given r.over → T r.over ≡ true) where
    abbrev Known : OwnedQuant → Type 0
    Known r = is_F r.kind ≡ true → T r.over ≡ true

    bound : (rs : List OwnedQuant) → ((r : OwnedQuant) → In r rs → In r n.quants) → ((r : OwnedQuant) → In r rs → Known r) → (q : ℕ) → binds_row q rs ≡ true → U q
    bound rs sub known q h =
        let x = any-in (λ (r : OwnedQuant). is_F r.kind && is_quant q r) rs h in
        let p = and_parts (is_F x.0.kind) (is_quant q x.0) x.1.1 in
        subst U (eqb-true x.0.id q p.1) (own n i x.0 (sub x.0 x.1.0) (known x.0 x.1.0 p.0))

    first-q : (r : OwnedQuant) → In r n.quants → first (is_quant r.id) n.quants ≡ Some r
    first-q r j =
        let less = times-in ids_of r.id n bs i in
        let o = w.once r.id in
        first-own r n.quants (omega arith) j

    -- F quantifiers in their order
    turns : n.parts.kind ≡ Select → (done rest : List OwnedQuant) → n.quants ≡ done ++ rest → ((r : OwnedQuant) → In r done → In r n.quants) → ((r : OwnedQuant) → In r rest → In r n.quants) → ((r : OwnedQuant) → In r done → Known r) → (r : OwnedQuant) → In r rest → Known r
    turns e done [] split sub more known r j = elim j [ ]
    turns e done (x ∷ rest) split sub more known r j =
        let now : Known x = (λ f. below x (more x (inl refl)) (λ q h. elim (cases_Bool (binds_row q done)) [
          | inl t ↦ bound done sub known q t
          | inr t ↦ given q (
              ap (λ (k : ℕ → Bool). k q) (unfold-loose bs n w.ordered i) ∙ ap (λ k. loose_by k n (loose bs) q) e ∙ ap (λ rs. loose_each rs n (loose bs) q) split
              ∙ each-turn n (loose bs) q done x rest f t (ap (λ o. looks_found o (loose bs) q) (first-q x (more x (inl refl))) ∙ h))
        ])) in
        elim j [
          | inl s ↦ subst Known s now
          | inr k ↦ turns e (done ++ x ∷ []) rest (split ∙ sym (append-one done x rest)) (in-one (λ r. In r n.quants) done x sub (more x (inl refl))) (λ r l. more r (inr l)) (in-one Known done x known now) r k
        ]

    -- what is looked up below it ranges over boxes that are known
    pub given-under : (r : OwnedQuant) → In r n.quants → Given r.over
    given-under r j q h = elim (climb bs root w n r q i j h) [
      | inr t ↦ given q t
      | inl t ↦ bound n.quants (λ x k. k) (turns t.0 [] n.quants refl (λ x k. elim k [ ]) (λ x k. k) (λ x k. elim k [ ])) q t.1
    ]

    owned : (q : ℕ) → owns q n ≡ true → U q
    owned q h = let x = any-in (is_quant q) n.quants h in subst U (eqb-true x.0.id q x.1.1) (own n i x.0 x.1.0 (below x.0 x.1.0 (given-under x.0 x.1.0)))

    pub known-here : T n.id ≡ true
    known-here = close n i (λ q j. elim (or_cases (read_by n q) (nodes_in q n) (named-split q n (in-holds q (named_by n) (in-left q (flat_map names_in n.parts.head) (flat_map names_in_cond n.parts.conds.items) j)))) [
      | inr a ↦ owned q (w.own_nodes n i q a).0
      | inl a ↦ elim (touched bs root w n q i (or_left (read_by n q) (under_any n.quants (loose bs) q) a)) [ inl o ↦ owned q o | inr l ↦ given q l ]
    ])

  -- a box is known where what it looks up is
  known-if : (ns : List Node) → Ordered ns → ((n : Node) → In n ns → In n bs) → (n : Node) → In n ns → Given n.id → T n.id ≡ true
  known-if [] o sub n i g = elim i [ ]
  known-if (m ∷ ns) o sub n i g = elim i [
    | inr j ↦ known-if ns o.2 (λ x k. sub x (inr k)) n j g
    | inl e ↦ known-here n (sub n (inl e)) g (λ r j f.
        let held : has_box ns r.over ≡ true = all-in (λ (r : OwnedQuant). has_box ns r.over) r m.quants o.1 (subst (λ (z : Node). In r z.quants) (sym e) j) in
        let x = has-in r.over ns held in
        subst (λ z. T z ≡ true) x.1.1 (known-if ns o.2 (λ y k. sub y (inr k)) x.0 x.1.0 (subst Given (sym x.1.1) f)))
  ]

  given-by : (k b : ℕ) → place bs b < k → Given b
  given-by zero b f q h = absurd (omega arith)
  given-by (suc k) b f q h =
      let p = parent bs root w b q h in
      let r = p.1.1.0 in
      let up : place bs p.0.id < place bs b = subst (λ z. place bs p.0.id < place bs z) p.1.1.1.1 (place-under bs p.0 r w.ordered p.1.0 p.1.1.1.0) in
      given-under p.0 p.1.0 (given-by k p.0.id (omega arith)) (λ x j g.
      let held : has_box bs x.over ≡ true = overs-held bs p.0 x w.ordered p.1.0 j in
      let y = has-in x.over bs held in
      subst (λ z. T z ≡ true) y.1.1 (known-if bs w.ordered (λ n i. i) y.0 y.1.0 (subst Given (sym y.1.1) g))) r p.1.1.1.0 q (subst (λ z. loose bs z q ≡ true) (sym p.1.1.1.1) h)

  -- each box is known
  pub all-settled : (n : Node) → In n bs → levels.settled bs w.ordered w.once (length bs) n.id ≡ true
  all-settled n i = known-if bs w.ordered (λ m j. j) n i (given-by (suc (place bs n.id)) n.id (omega arith))
