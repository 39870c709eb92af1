-- What is known of the columns of boxes when heads are looked up so many times.
use Rattle.std.proofs.Common.{◌≡◌, ◌≤◌, ℕ, zero, suc, ◌-◌, ◌==◌, Bool, true, cond, List, [], ◌∷◌, length, Option, Some, None, refl, ap, ◌∙◌, arith}
use Rattle.std.specs.Prelude.{slice_get}
use Rattle.std.specs.List.{flat_map, list_all}
use Rattle.std.proofs.Math.Dec.{eqb-suc-zero}
use Rattle.sql_value.specs.declared.order_key.SqlType.{SqlType}
use Rattle.qgm_core.specs.Boxes.{Ordered, ids_in, is_box, owns, range_in}
use Rattle.list_laws.specs.Lists.{In, first, times}
use Rattle.qgm_core.specs.declared.node.Node.{Node}
use Rattle.qgm_core.specs.declared.owned.OwnedQuant.{OwnedQuant}
use Rattle.qgm_core.specs.declared.kinds.BoxKind.{BoxKind}
use Rattle.qgm_core.specs.declared.kinds.BoxKind.TheVariants.{Base, Select, Group, SetOp, OuterJoin}
use Rattle.qgm_terms.specs.Named.{names_in}
use Rattle.qgm_terms.specs.Terms as t
use Rattle.qgm_terms.specs.Terms.{Term, Cond}
use Rattle.qgm_terms.specs.declared.named.QuantNode.{QuantNode}
use Rattle.qgm_wellformed.specs.Columns.{over_box}
use Rattle.qgm_wellformed.specs.Types.{column_type, cond_fits, is_typed, joined_column, known, term_type, type_found, type_in, types_after, types_by, types_found}
use Rattle.qgm_wellformed.specs.declared.types.Typed.{Typed}
use Rattle.qgm_translation.specs.Maps.{Map}
use Rattle.qgm_translation.specs.Sources.{Sources}
use Rattle.qgm_edit_laws.proofs.Levels as laws
use Rattle.qgm_edit_laws.proofs.Levels.{first-typed, number-of, owner-of}
use Rattle.qgm_edit_laws.proofs.Scope.{in-first}
use Rattle.qgm_translation_laws.proofs.Parts.{CellIs, Cells, Fit, Heads, Is, all-append, names-pass, node_of}
use Rattle.qgm_translation_laws.proofs.TypesFollow.{fit-is, local-follows, type-is}
use Rattle.qgm_translation_laws.proofs.Frames.{At}
use Rattle.qgm_translation_laws.proofs.Boxes as boxes

-- ---- types that are found

pub at-get : (types : List SqlType) (i : ℕ) (a : SqlType) → At types i a → joined_column (slice_get (known types) i) ≡ Some a
at-get [] i a h = absurd h
at-get (x ∷ types) zero a h = ap Some h
at-get (x ∷ types) (suc i) a h = at-get types i a h

pub type_of-found : (k i : ℕ) (o : Option Typed) → k ≡ suc i → type_in k o ≡ joined_column (slice_get (types_found o) i)
type_of-found k i None e = refl
type_of-found k i (Some x) e =
    ap (λ z. cond (z == 0) None (joined_column (slice_get x.types (z - 1)))) e ∙ ap (λ b. cond b None (joined_column (slice_get x.types (suc i - 1)))) (eqb-suc-zero i)
    ∙ (let f : suc i - 1 ≡ i = omega arith in ap (λ z. joined_column (slice_get x.types z)) f)

-- ---- the boxes of a graph

module _ (bs : List Node) (ordered : Ordered bs) (once : (q : ℕ) → times q (ids_in bs) ≤ 1) where
  abbrev under_by : (ℕ → Bool) → Option OwnedQuant → Bool
  under_by = laws.under_by bs ordered once

  abbrev under : (ℕ → Bool) → ℕ → Bool
  under = laws.under bs ordered once

  abbrev settled : ℕ → ℕ → Bool
  settled = laws.settled bs ordered once

  -- ---- boxes and quantifiers

  abbrev pub Over : ℕ → ℕ → List SqlType → Type 0
  Over e b types = (settled e b ≡ true) × ((j : ℕ) → e ≤ j → types_found (first (is_typed b) (types_after j bs)) ≡ known types)

  pub more : (d e b : ℕ) (types : List SqlType) → d ≤ e → Over d b types → Over e b types
  more d e b types u h = (laws.settled-more bs ordered once d e b u h.0, λ j v. h.1 j (omega arith))

  abbrev pub Ranges : ℕ → ℕ → Type 0
  Ranges n b = (r : OwnedQuant) × ((range_in n (first (owns n) bs) ≡ Some r) × (r.over ≡ b))

  pub ranges-of : (n : Node) → In n bs → (r : OwnedQuant) → In r n.quants → Ranges r.id r.over
  ranges-of n i r j = (r, (owner-of bs once n r i j, refl))

  settled-under : (e n b : ℕ) → Ranges n b → settled e b ≡ true → under (settled e) n ≡ true
  settled-under e n b r h = ap (under_by (settled e)) r.1.0 ∙ ap (settled e) r.1.1 ∙ h

  module _ (kinds : List ℕ → List SqlType) (sources : Sources) (counted : (name : List ℕ) → length (kinds name) ≡ sources.columns name) where
    abbrev pub Column : ℕ → ℕ → ℕ → SqlType → Type 0
    Column = boxes.Column kinds sources counted Over more Ranges

    pub column-at : (e n k : ℕ) (a : SqlType) → Column e n k a → (j : ℕ) → e ≤ j → column_type bs (types_after j bs) n k ≡ Some a
    column-at e n k a h j u =
        let b = h.0 in
        let r = h.1.0 in
        let types = h.1.1.0 in
        let i = h.1.1.1.1.0 in
        let found = laws.settled-found bs ordered once e b h.1.1.1.0.0 in
        let table = types_after j bs in
        ap (λ o. type_found table k (over_box bs o)) r.1.0
        ∙ ap (λ z. type_found table k (first (is_box z) bs)) r.1.1
        ∙ ap (type_found table k) found.1
        ∙ ap (λ z. type_in k (first (is_typed z) table)) (number-of bs b found.0 found.1)
        ∙ type_of-found k i (first (is_typed b) table) h.1.1.1.1.1.0
        ∙ ap (λ z. joined_column (slice_get z i)) (h.1.1.1.0.1 j u)
        ∙ at-get types i a h.1.1.1.1.1.1

    abbrev pub Kn : ℕ → List OwnedQuant → Map → ℕ → ℕ → SqlType → Type 0
    Kn = boxes.Kn kinds sources counted Over more Ranges

    abbrev pub Nn : ℕ → List OwnedQuant → QuantNode → Type 0
    Nn = boxes.Nn kinds sources counted Over more Ranges

    abbrev pub Jn : ℕ → ℕ → SqlType → Type 0
    Jn = boxes.Jn kinds sources counted Over more Ranges

    abbrev pub LocalIs : ℕ → Map → Node → List SqlType → Type 0
    LocalIs = boxes.LocalIs kinds sources counted Over more Ranges

    abbrev pub LocalBy : ℕ → Map → Node → List SqlType → BoxKind → Type 0
    LocalBy = boxes.LocalBy kinds sources counted Over more Ranges

    module _ (e : ℕ) (os : List OwnedQuant) (m : Map) where
      abbrev K : ℕ → ℕ → SqlType → Type 0
      K = Kn e os m

      abbrev N : QuantNode → Type 0
      N = Nn e os

      abbrev J : ℕ → SqlType → Type 0
      J = Jn e

      -- ---- names

      column-settled : (n k : ℕ) (a : SqlType) → K n k a → under (settled e) n ≡ true
      column-settled n k a h = settled-under e n h.0.0 h.0.1.0 h.0.1.1.1.0.0

      node-settled : (x : QuantNode) → N x → under (settled e) (node_of x) ≡ true
      node-settled x h = settled-under e (node_of x) h.1.0 h.1.1.0 h.1.1.1.1.0

      pub names-settled : (x : Term) (a : SqlType) → Is K N J x a → list_all (under (settled e)) (names_in x) ≡ true
      names-settled x a h = names-pass K N J (under (settled e)) column-settled node-settled x a h

      heads-settled : (xs : List Term) (types : List SqlType) → Heads K N J xs types → list_all (under (settled e)) (flat_map names_in xs) ≡ true
      heads-settled [] types h = refl
      heads-settled (x ∷ xs) [] h = absurd h
      heads-settled (x ∷ xs) (a ∷ types) h = all-append K N J (under (settled e)) (names_in x) (flat_map names_in xs) (names-settled x a h.0) (heads-settled xs types h.1)

      cell-settled : (x : Term) (a : SqlType) → CellIs K N J x a → list_all (under (settled e)) (names_in x) ≡ true
      cell-settled (t.int n) a h = refl
      cell-settled (t.text x) a h = refl
      cell-settled t.null_int a h = refl
      cell-settled t.null_text a h = refl
      cell-settled (t.col n k) a h = names-settled (t.col n k) a h
      cell-settled (t.scalar n) a h = names-settled (t.scalar n) a h
      cell-settled (t.both op x y) a h = names-settled (t.both op x y) a h
      cell-settled (t.minus_of x) a h = names-settled (t.minus_of x) a h
      cell-settled (t.choose s x) a h = names-settled (t.choose s x) a h
      cell-settled t.count_all a h = refl
      cell-settled (t.fold f d x) a h = names-settled x h.0 h.1.0

      cells-settled : (xs : List Term) (types : List SqlType) → Cells K N J xs types → list_all (under (settled e)) (flat_map names_in xs) ≡ true
      cells-settled [] types h = refl
      cells-settled (x ∷ xs) [] h = absurd h
      cells-settled (x ∷ xs) (a ∷ types) h = all-append K N J (under (settled e)) (names_in x) (flat_map names_in xs) (cell-settled x a h.0) (cells-settled xs types h.1)

      -- ---- types, where columns have them

      module _ (at : ℕ → ℕ → Option SqlType) (at-column : (n k : ℕ) (a : SqlType) → Kn e os m n k a → at n k ≡ Some a) (at-inner : (n : ℕ) (a : SqlType) → Jn e n a → at n 1 ≡ Some a) where
        pub term-typed : (x : Term) (a : SqlType) → Is K N J x a → term_type at x ≡ Some a
        term-typed x a h = type-is K N J at at-column at-inner x a h

        pub cond-typed : (c : Cond) → Fit K N J c → cond_fits at c ≡ true
        cond-typed c h = fit-is K N J at at-column at-inner c h

    -- a box whose head is known after e steps is known after one more
    local-settled : (e : ℕ) (m : Map) (n : Node) (types : List SqlType) (kind : BoxKind) → LocalBy e m n types kind → list_all (under (settled e)) (flat_map names_in n.parts.head) ≡ true
    local-settled e m n types (Base table) h = ap (λ z. list_all (under (settled e)) (flat_map names_in z)) h.1.1
    local-settled e m n types Select h = heads-settled e n.quants m n.parts.head types h.0
    local-settled e m n types (Group keys) h = cells-settled e n.quants m n.parts.head types h.0
    local-settled e m n types (SetOp operator columns) h = ap (λ z. list_all (under (settled e)) (flat_map names_in z)) h.1.1
    local-settled e m n types OuterJoin h = heads-settled e n.quants m n.parts.head types h.0

    pub local-typed : (e : ℕ) (m : Map) (n : Node) (types : List SqlType) (kind : BoxKind) → LocalBy e m n types kind → (at : ℕ → ℕ → Option SqlType) → ((q k : ℕ) (a : SqlType) → Column e q k a → at q k ≡ Some a) → types_by at kind n.parts.head ≡ known types
    local-typed = local-follows kinds sources counted Over more Ranges

    pub close : (e : ℕ) (m : Map) (n : Node) (types : List SqlType) → In n bs → LocalIs e m n types → Over (suc e) n.id types
    close e m n types i h =
        let f = in-first n bs ordered i in (
          ap (laws.step_by bs ordered once (settled e)) f ∙ local-settled e m n types n.parts.kind h,
          λ j u. after j u,
        )
      where
        after : (j : ℕ) → suc e ≤ j → types_found (first (is_typed n.id) (types_after j bs)) ≡ known types
        after zero u = absurd (omega arith)
        after (suc j) u = ap types_found (first-typed bs (types_after j bs) bs n.id n (in-first n bs ordered i)) ∙ local-typed e m n types n.parts.kind h (column_type bs (types_after j bs)) (λ q k a z. column-at e q k a z j (omega arith))
