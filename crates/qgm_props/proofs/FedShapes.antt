-- What a fed box is in a well-formed graph, and that an open box has one quantifier over it.
use Rattle.std.proofs.Common.{ℕ, ◌≡◌, ◌&&◌, ◌++◌, not, ◌==◌, true, List, [], ◌∷◌, refl, subst}
use Rattle.std.specs.List.{list_all}
use Rattle.std.proofs.lemmas.Bool.{and_parts}
use Rattle.qgm_terms.specs.Terms.{Term}
use Rattle.qgm_core.specs.Boxes.{QueryGraph, is_box, numbers, overs_in}
use Rattle.qgm_core.specs.Free.{IsFree, free_in}
use Rattle.qgm_core.specs.Kinds.{is_F, is_preserve}
use Rattle.list_laws.specs.Lists.{EachOnce, In, first, times}
use Rattle.qgm_core.specs.declared.kinds.BoxKind.TheVariants.{Select}
use Rattle.qgm_core.specs.declared.kinds.Role.TheVariants.{Fed}
use Rattle.qgm_core.specs.declared.node.Node.{Node}
use Rattle.qgm_core.specs.declared.owned.OwnedQuant.{OwnedQuant}
use Rattle.qgm_wellformed.specs.Sentences.{WellFormed}
use Rattle.qgm_wellformed.specs.Shapes as shape
use Rattle.qgm_wellformed.specs.Shapes.{columns_through, fed_by, fed_by_two, heads_are, is_none, kind_fits, magic_found, only, role_fits}
use Rattle.qgm_wellformed.specs.declared.clause.Clause.TheVariants.{I6, I7, I9}

-- what a fed box is
pub record FedShape (boxes : List Node) (n : Node) : Type 0 where
  pub a : OwnedQuant
  pub r : OwnedQuant
  pub quants : n.quants ≡ a ∷ (r ∷ [])
  pub row_a : is_F a.kind ≡ true
  pub row_r : is_F r.kind ≡ true
  pub magic : magic_found (first (is_box a.over) boxes) ≡ true
  pub alone : only a.id (free_in boxes r.over) ≡ true
  pub heads : heads_are n.parts.head (columns_through boxes a ++ columns_through boxes r) ≡ true

fed-two : (boxes : List Node) (head : List Term) (rs : List OwnedQuant) → fed_by boxes head rs ≡ true → (a : OwnedQuant) × ((r : OwnedQuant) × ((rs ≡ a ∷ (r ∷ [])) × (fed_by_two boxes head a r ≡ true)))
fed-two boxes head [] h = absurd (let z : ⊥ = cc in z)
fed-two boxes head (a ∷ []) h = absurd (let z : ⊥ = cc in z)
fed-two boxes head (a ∷ (r ∷ [])) h = (a, (r, (refl, h)))
fed-two boxes head (a ∷ (r ∷ (x ∷ xs))) h = absurd (let z : ⊥ = cc in z)

module _ (g : QueryGraph) (once : EachOnce (numbers g.boxes)) (w : WellFormed g) where
  abbrev bs : List Node
  bs = g.boxes

  -- something is free in box b
  abbrev pub Opened : ℕ → Type 0
  Opened b = (q : ℕ) × IsFree g.boxes b q

  -- a box that is open isn't the root, and has one quantifier over it
  pub not-root : (n : Node) → In n bs → Opened n.id → n.id ≡ g.root → ⊥
  not-root n x f e = (w.kept I6 n x).1 e f.0 (subst (λ z. IsFree bs z f.0) e f.1)

  pub used-once : (n : Node) → In n bs → Opened n.id → times n.id (overs_in bs) ≡ 1
  used-once n x f = (w.kept I7 n x).1 (not-root n x f) f.0 f.1

  pub shape-kind : (n : Node) → In n bs → kind_fits g.root bs n n.parts.kind ≡ true
  shape-kind n x =
      let a = and_parts (kind_fits g.root bs n n.parts.kind && list_all (shape.node_fits n.quants) (shape.nodes_of n) && shape.columns_placed n) _ (w.kept I9 n x) in
      let b = and_parts (kind_fits g.root bs n n.parts.kind && list_all (shape.node_fits n.quants) (shape.nodes_of n)) (shape.columns_placed n) a.0 in
      (and_parts (kind_fits g.root bs n n.parts.kind) (list_all (shape.node_fits n.quants) (shape.nodes_of n)) b.0).0

  pub fed-is : (n : Node) → In n bs → n.parts.kind ≡ Select → n.parts.role ≡ Fed → shape.is_fed g.root bs n ≡ true
  fed-is n x k e =
      let b : kind_fits g.root bs n Select ≡ true = subst (λ z. kind_fits g.root bs n z ≡ true) k (shape-kind n x) in
      let c = and_parts (shape.is_unfolded n) (role_fits g.root bs n n.parts.role) b in
      subst (λ z. role_fits g.root bs n z ≡ true) e c.1

  pub fed-shape : (n : Node) → In n bs → n.parts.kind ≡ Select → n.parts.role ≡ Fed → FedShape bs n
  fed-shape n x k e =
      let d = fed-is n x k e in
      let d1 = and_parts (not (n.id == g.root) && is_preserve n.parts.distinct && is_none n.parts.conds.items) (fed_by bs n.parts.head n.quants) d in
      parted (fed-two bs n.parts.head n.quants d1.1)
    where
      parted : ((a : OwnedQuant) × ((r : OwnedQuant) × ((n.quants ≡ a ∷ (r ∷ [])) × (fed_by_two bs n.parts.head a r ≡ true)))) → FedShape bs n
      parted f =
          let a = f.0 in let r = f.1.0 in
          let p1 = and_parts (is_F a.kind && is_F r.kind && magic_found (first (is_box a.over) bs) && only a.id (free_in bs r.over)) (heads_are n.parts.head (columns_through bs a ++ columns_through bs r)) f.1.1.1 in
          let p2 = and_parts (is_F a.kind && is_F r.kind && magic_found (first (is_box a.over) bs)) (only a.id (free_in bs r.over)) p1.0 in
          let p3 = and_parts (is_F a.kind && is_F r.kind) (magic_found (first (is_box a.over) bs)) p2.0 in
          let p4 = and_parts (is_F a.kind) (is_F r.kind) p3.0 in
          record { a = a; r = r; quants = f.1.1.0; row_a = p4.0; row_r = p4.1; magic = p3.1; alone = p2.1; heads = p1.1 }
