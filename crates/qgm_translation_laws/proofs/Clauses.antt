-- Boxes that are known name what the graph has.
use Rattle.std.proofs.Common.{inl, inr, ◌≡◌, ◌≤◌, ◌<◌, ℕ, zero, suc, ◌==◌, ◌&&◌, ◌||◌, not, Bool, true, false, cond, List, [], ◌∷◌, ◌++◌, length, map, Option, Some, None, refl, ap, ap₂, sym, ◌∙◌, subst, arith}
use Rattle.std.specs.Prelude.{◌⊎◌}
use Rattle.std.specs.List.{flat_map, list_all, list_any}
use Rattle.std.proofs.lemmas.Bool.{cases_Bool}
use Rattle.sql_value.specs.declared.order_key.SqlType.{SqlType}
use Rattle.qgm_core.specs.Boxes.{Ordered, ids_in, is_box, owns, range_in, width}
use Rattle.qgm_core.specs.Free.{named_by}
use Rattle.qgm_core.specs.Kinds.{width_by}
use Rattle.list_laws.specs.Lists.{first, holds, times}
use Rattle.qgm_core.specs.declared.node.Node.{Node}
use Rattle.qgm_core.specs.declared.owned.OwnedQuant.{OwnedQuant}
use Rattle.qgm_core.specs.declared.kinds.BoxKind.{BoxKind}
use Rattle.qgm_core.specs.declared.kinds.BoxKind.TheVariants.{Base, Select, Group, SetOp, OuterJoin}
use Rattle.qgm_terms.specs.Gathered.{Search, listed, listed_cond}
use Rattle.qgm_terms.specs.Named.{columns, names, nodes}
use Rattle.qgm_terms.specs.Terms as t
use Rattle.qgm_terms.specs.Terms.{Cond, Term}
use Rattle.qgm_terms.specs.declared.named.QuantNode.{QuantNode}
use Rattle.qgm_terms.specs.declared.named.QuantNode.TheVariants as node
use Rattle.qgm_wellformed.specs.Columns.{box_under, columns_of, fits, over_box, within}
use Rattle.qgm_wellformed.specs.Shapes.{node_fits, nodes_of}
use Rattle.qgm_wellformed.specs.Types.{column_type, types_after, types_by, types_found}
use Rattle.qgm_wellformed.specs.WellFormed.{once}
use Rattle.qgm_translation.specs.Maps.{Map}
use Rattle.qgm_translation.specs.Sources.{Sources}
use Rattle.qgm_translation_laws.proofs.Frames.{At}
use Rattle.qgm_edit_laws.proofs.Levels as laws
use Rattle.qgm_translation_laws.proofs.Levels as levels
use Rattle.qgm_edit_laws.proofs.Levels.{first-typed, some-in}
use Rattle.qgm_translation_laws.proofs.Parts.{CellIs, Cells, FitAll, Heads, Is, all-append, listed-fit, listed-pass, node_of}
use Rattle.list_laws.proofs.Membership.{any-from}

-- ---- what a search lists of a box

module _ (K : ℕ → ℕ → SqlType → Type 0) (N : QuantNode → Type 0) (J : ℕ → SqlType → Type 0) {X : Type 0} (s : Search (List X)) (p : X → Bool) (column : (q k : ℕ) (a : SqlType) → K q k a → list_all p (s.at_column q k) ≡ true)
    (scalar : (q : ℕ) (a : SqlType) → N (node.Scalar q) → J q a → list_all p (s.at_scalar q) ≡ true) (some : (q : ℕ) (xs : List X) → N (node.Some q) → list_all p xs ≡ true → list_all p (s.at_some q xs) ≡ true)
    (every : (q : ℕ) (xs : List X) → N (node.Every q) → list_all p xs ≡ true → list_all p (s.at_every q xs) ≡ true)
    (inner : (q : ℕ) (a : SqlType) → J q a → (N (node.Some q) ⊎ N (node.Every q)) → list_all p (s.at_column q 1) ≡ true) (aggregate : (xs : List X) → list_all p xs ≡ true → list_all p (s.at_aggregate xs) ≡ true) where
  pub heads-pass : (xs : List Term) (types : List SqlType) → Heads K N J xs types → list_all p (flat_map (listed s) xs) ≡ true
  heads-pass [] types h = refl
  heads-pass (x ∷ xs) [] h = absurd h
  heads-pass (x ∷ xs) (a ∷ types) h = all-append K N J p (listed s x) (flat_map (listed s) xs) (listed-pass K N J s p column scalar some every inner x a h.0) (heads-pass xs types h.1)

  pub fits-pass : (cs : List Cond) → FitAll K N J cs → list_all p (flat_map (listed_cond s) cs) ≡ true
  fits-pass [] h = refl
  fits-pass (c ∷ cs) h = all-append K N J p (listed_cond s c) (flat_map (listed_cond s) cs) (listed-fit K N J s p column scalar some every inner c h.0) (fits-pass cs h.1)

  term-pass : (x : Term) (a : SqlType) → Is K N J x a → list_all p (listed s x) ≡ true
  term-pass = listed-pass K N J s p column scalar some every inner

  cell-pass : (x : Term) (a : SqlType) → CellIs K N J x a → list_all p (listed s x) ≡ true
  cell-pass (t.int n) a h = refl
  cell-pass (t.text x) a h = refl
  cell-pass t.null_int a h = refl
  cell-pass t.null_text a h = refl
  cell-pass (t.col q k) a h = term-pass (t.col q k) a h
  cell-pass (t.scalar q) a h = term-pass (t.scalar q) a h
  cell-pass (t.both op x y) a h = term-pass (t.both op x y) a h
  cell-pass (t.minus_of x) a h = term-pass (t.minus_of x) a h
  cell-pass (t.choose xs x) a h = term-pass (t.choose xs x) a h
  cell-pass t.count_all a h = aggregate [] refl
  cell-pass (t.fold f d x) a h = aggregate (listed s x) (term-pass x h.0 h.1.0)

  pub cells-pass : (xs : List Term) (types : List SqlType) → Cells K N J xs types → list_all p (flat_map (listed s) xs) ≡ true
  cells-pass [] types h = refl
  cells-pass (x ∷ xs) [] h = absurd h
  cells-pass (x ∷ xs) (a ∷ types) h = all-append K N J p (listed s x) (flat_map (listed s) xs) (cell-pass x a h.0) (cells-pass xs types h.1)

-- ---- numbers

times-none : (x : ℕ) (xs : List ℕ) → times x xs ≡ 0 → holds x xs ≡ false
times-none x [] h = refl
times-none x (y ∷ ys) h = elim (cases_Bool (y == x)) [
  | inl e ↦ absurd (let f : cond {A = ℕ} (y == x) 1 0 ≡ 1 = ap (λ (b : Bool). cond {A = ℕ} b 1 0) e in omega arith)
  | inr e ↦ ap (λ b. b || holds x ys) e ∙ (let f : cond {A = ℕ} (y == x) 1 0 ≡ 0 = ap (λ (b : Bool). cond {A = ℕ} b 1 0) e in times-none x ys (omega arith))
]

pub holds-none : (x : ℕ) (xs : List ℕ) → times x xs ≡ 0 → holds x xs ≡ false
holds-none = times-none

pub once-of : (x : ℕ) (xs : List ℕ) → times x xs ≡ 1 → once x xs ≡ true
once-of x [] h = absurd (omega arith)
once-of x (y ∷ ys) h = elim (cases_Bool (y == x)) [
  | inl e ↦ (let f : cond {A = ℕ} (y == x) 1 0 ≡ 1 = ap (λ (b : Bool). cond {A = ℕ} b 1 0) e in ap (λ b. cond b (not (holds x ys)) (once x ys)) e ∙ ap not (times-none x ys (omega arith)))
  | inr e ↦ (let f : cond {A = ℕ} (y == x) 1 0 ≡ 0 = ap (λ (b : Bool). cond {A = ℕ} b 1 0) e in ap (λ b. cond b (not (holds x ys)) (once x ys)) e ∙ once-of x ys (omega arith))
]

map-length : {X Y : Type 0} (f : X → Y) (xs : List X) → length (map f xs) ≡ length xs
map-length f [] = refl
map-length f (x ∷ xs) = ap suc (map-length f xs)

at-less : (types : List SqlType) (i : ℕ) (a : SqlType) → At types i a → i < length types
at-less [] i a h = absurd h
at-less (x ∷ types) zero a h = omega arith
at-less (x ∷ types) (suc i) a h = let r = at-less types i a h in omega arith

within-of : (w i : ℕ) → i < w → within w (suc i) ≡ true
within-of w i h = grind (arith, h)

types_by-length : (at : ℕ → ℕ → Option SqlType) (kind : BoxKind) (head : List Term) → length (types_by at kind head) ≡ width_by kind (length head)
types_by-length at (Base table) head = map-length _ table.types
types_by-length at Select head = map-length _ head
types_by-length at (Group keys) head = map-length _ head
types_by-length at (SetOp operator types) head = map-length _ types
types_by-length at OuterJoin head = map-length _ head

module _ (bs : List Node) (ordered : Ordered bs) (few : (q : ℕ) → times q (ids_in bs) ≤ 1) where
  -- what a quantifier ranges over is found
  found-owner : (n : ℕ) (r : OwnedQuant) (o : Option Node) → first (owns n) bs ≡ o → range_in n o ≡ Some r → list_any (owns n) bs ≡ true
  found-owner n r None e h = absurd (cc h)
  found-owner n r (Some c) e h = let i = some-in (owns n) bs c e in any-from (owns n) c bs i.0 i.1

  pub owned-by : (n b : ℕ) → levels.Ranges bs ordered few n b → list_any (owns n) bs ≡ true
  owned-by n b r = found-owner n r.0 (first (owns n) bs) refl r.1.0

  -- a box that has columns of some types has as many columns
  pub wide : (e b : ℕ) (types : List SqlType) (c : Node) → levels.Over bs ordered few e b types → first (is_box b) bs ≡ Some c → length types ≡ width c
  wide e b types c h f =
      let at = column_type bs (types_after e bs) in
      sym (map-length (λ (x : SqlType). Some x) types) ∙ ap length (sym (h.1 (suc e) (omega arith))) ∙ ap (λ z. length (types_found z)) (first-typed bs (types_after e bs) bs b c f) ∙ types_by-length at c.parts.kind c.parts.head

  module _ (kinds : List ℕ → List SqlType) (sources : Sources) (counted : (name : List ℕ) → length (kinds name) ≡ sources.columns name) where
    pub column-fits : (e n k : ℕ) (a : SqlType) → levels.Column bs ordered few kinds sources counted e n k a → fits k (box_under bs n) ≡ true
    column-fits e n k a h =
        let b = h.0 in
        let types = h.1.1.0 in
        let i = h.1.1.1.1.0 in
        let f = laws.settled-found bs ordered few e b h.1.1.1.0.0 in
        ap (λ o. fits k (over_box bs o)) h.1.0.1.0 ∙ ap (λ z. fits k (first (is_box z) bs)) h.1.0.1.1 ∙ ap (fits k) f.1 ∙ ap (within (width f.0)) h.1.1.1.1.1.0
        ∙ within-of (width f.0) i (subst (λ z. i < z) (wide e b types f.0 h.1.1.1.0 f.1) (at-less types i a h.1.1.1.1.1.1))

    module _ (e : ℕ) (m : Map) (n : Node) (types : List SqlType) where
      abbrev K : ℕ → ℕ → SqlType → Type 0
      K = levels.Kn bs ordered few kinds sources counted e n.quants m

      abbrev N : QuantNode → Type 0
      N = levels.Nn bs ordered few kinds sources counted e n.quants

      abbrev J : ℕ → SqlType → Type 0
      J = levels.Jn bs ordered few kinds sources counted e

      -- what a search lists of the box passes
      local-pass : {X : Type 0} (s : Search (List X)) (p : X → Bool) → ((q k : ℕ) (a : SqlType) → K q k a → list_all p (s.at_column q k) ≡ true) → ((q : ℕ) (a : SqlType) → N (node.Scalar q) → J q a → list_all p (s.at_scalar q) ≡ true)
          → ((q : ℕ) (xs : List X) → N (node.Some q) → list_all p xs ≡ true → list_all p (s.at_some q xs) ≡ true) → ((q : ℕ) (xs : List X) → N (node.Every q) → list_all p xs ≡ true → list_all p (s.at_every q xs) ≡ true)
          → ((q : ℕ) (a : SqlType) → J q a → (N (node.Some q) ⊎ N (node.Every q)) → list_all p (s.at_column q 1) ≡ true) → ((xs : List X) → list_all p xs ≡ true → list_all p (s.at_aggregate xs) ≡ true)
          → (kind : BoxKind) → levels.LocalBy bs ordered few kinds sources counted e m n types kind → list_all p (flat_map (listed s) n.parts.head ++ flat_map (listed_cond s) n.parts.conds.items) ≡ true
      local-pass s p c sc so ev inn ag (Base table) h = ap₂ (λ hs cs. list_all p (flat_map (listed s) hs ++ flat_map (listed_cond s) cs)) h.1.1 h.1.0
      local-pass s p c sc so ev inn ag Select h =
          all-append K N J p (flat_map (listed s) n.parts.head) (flat_map (listed_cond s) n.parts.conds.items) (heads-pass K N J s p c sc so ev inn ag n.parts.head types h.0) (fits-pass K N J s p c sc so ev inn ag n.parts.conds.items h.1)
      local-pass s p c sc so ev inn ag (Group keys) h =
          all-append K N J p (flat_map (listed s) n.parts.head) (flat_map (listed_cond s) n.parts.conds.items) (cells-pass K N J s p c sc so ev inn ag n.parts.head types h.0) (ap (λ cs. list_all p (flat_map (listed_cond s) cs)) h.1)
      local-pass s p c sc so ev inn ag (SetOp operator columns) h = ap₂ (λ hs cs. list_all p (flat_map (listed s) hs ++ flat_map (listed_cond s) cs)) h.1.1 h.1.0
      local-pass s p c sc so ev inn ag OuterJoin h =
          all-append K N J p (flat_map (listed s) n.parts.head) (flat_map (listed_cond s) n.parts.conds.items) (heads-pass K N J s p c sc so ev inn ag n.parts.head types h.0) (fits-pass K N J s p c sc so ev inn ag n.parts.conds.items h.1)

      module _ (local : levels.LocalIs bs ordered few kinds sources counted e m n types) where
        -- the names that a box has
        pub names-all : (Q : ℕ → Bool) → ((q k : ℕ) (a : SqlType) → levels.Kn bs ordered few kinds sources counted e n.quants m q k a → Q q ≡ true) → ((x : QuantNode) → levels.Nn bs ordered few kinds sources counted e n.quants x → Q (node_of x) ≡ true)
            → list_all Q (named_by n) ≡ true
        names-all Q f g =
            local-pass names Q (λ q k a h. one q (f q k a h)) (λ q a x j. one q (g (node.Scalar q) x)) (λ q xs x h. ap₂ ◌&&◌ (g (node.Some q) x) h) (λ q xs x h. ap₂ ◌&&◌ (g (node.Every q) x) h)
            (λ q a j o. elim o [ inl x ↦ one q (g (node.Some q) x) | inr x ↦ one q (g (node.Every q) x) ]) (λ xs h. h) n.parts.kind local
          where
            one : (q : ℕ) → Q q ≡ true → (Q q && true) ≡ true
            one q h = ap (λ b. b && true) h

        -- each name is that of a quantifier of the graph
        pub names-owned : list_all (λ q. list_any (owns q) bs) (named_by n) ≡ true
        names-owned = names-all (λ q. list_any (owns q) bs) (λ q k a h. owned-by q h.0.0 h.0.1.0) (λ x h. owned-by (node_of x) h.1.0 h.1.1.0)

        -- each column is one of the box under its quantifier
        pub columns-all : list_all (λ c. fits c.place (box_under bs c.quant)) (columns_of n) ≡ true
        columns-all =
            local-pass columns (λ c. fits c.place (box_under bs c.quant)) (λ q k a h. ap (λ b. b && true) (column-fits e q k a h.0)) (λ q a x j. refl) (λ q xs x h. h) (λ q xs x h. h) (λ q a j o. ap (λ b. b && true) (column-fits e q 1 a j)) (λ xs h. h)
            n.parts.kind local

        -- each node is of an own quantifier of its kind
        pub nodes-all : list_all (node_fits n.quants) (nodes_of n) ≡ true
        nodes-all =
            local-pass nodes (node_fits n.quants) (λ q k a h. refl) (λ q a x j. ap (λ b. b && true) x.0) (λ q xs x h. ap₂ ◌&&◌ x.0 h) (λ q xs x h. ap₂ ◌&&◌ x.0 h) (λ q a j o. refl) (λ xs h. h) n.parts.kind local
