-- A box that shows a thing has cells and conditions of its types.
use Rattle.std.proofs.Common.{inl, inr, ◌≡◌, ◌≤◌, ◌<◌, ℕ, zero, suc, ◌+◌, ◌==◌, ◌&&◌, ◌||◌, nat_eq, Bool, true, false, cond, not, List, [], ◌∷◌, ◌++◌, map, get_or, length, pos, Option, Some, None, refl, ap, ap₂, sym, ◌∙◌, subst, arith}
use Rattle.std.specs.Prelude.{◌⊎◌}
use Rattle.std.proofs.lemmas.Bool.{and_right, eq-eqb, eqb-true, not-false}
use Rattle.sql_value.specs.declared.order_key.SqlType.{SqlType}
use Rattle.sql_value.specs.declared.order_key.SqlType.TheVariants.{Integer}
use Rattle.sql_meaning.specs.ResolvedTrees.{Values, Test, From, Froms, Query}
use Rattle.sql_meaning.specs.ResolvedTrees as q
use Rattle.qgm_core.specs.Kinds.{is_A, is_E, is_F, is_S, is_select}
use Rattle.list_laws.specs.Lists.{In}
use Rattle.qgm_core.specs.declared.node.Node.{Node}
use Rattle.qgm_core.specs.declared.owned.OwnedQuant.{OwnedQuant}
use Rattle.qgm_core.specs.declared.kinds.BoxKind.{BoxKind}
use Rattle.qgm_core.specs.declared.kinds.BoxKind.TheVariants.{Base, Select, Group, SetOp, OuterJoin}
use Rattle.qgm_core.specs.declared.kinds.Distinct.{Distinct}
use Rattle.qgm_core.specs.declared.kinds.QuantKind.{QuantKind}
use Rattle.qgm_core.specs.declared.kinds.QuantKind.TheVariants as binding
use Rattle.qgm_core.specs.declared.kinds.SetOperator as forms
use Rattle.qgm_terms.specs.Terms as t
use Rattle.qgm_terms.specs.Terms.{Term, Cond}
use Rattle.qgm_terms.specs.declared.named.QuantNode.{QuantNode}
use Rattle.qgm_wellformed.specs.Shapes.{node_fits}
use Rattle.qgm_wellformed.specs.View.{is_row}
use Rattle.qgm_translation.specs.Leaves as w
use Rattle.qgm_translation.specs.Leaves.{Leaf, Slots, after, list_leaves, test_leaves}
use Rattle.qgm_translation.specs.Maps.{Frame, Map, Ref, column, fresh, fresh_in, is_apart, none_counted, nothing, ref_term}
use Rattle.qgm_translation.specs.Shown as v
use Rattle.qgm_translation.specs.Shown.{Thing, of_groups, of_operand, of_query, of_rows, refs}
use Rattle.qgm_translation.specs.Sources.{Sources, from_width, froms_width, width}
use Rattle.qgm_translation.specs.Terms as l
use Rattle.qgm_translation_laws.specs.Typed as typed
use Rattle.qgm_translation_laws.specs.Typed.{ArePlaces, FoldsTo, FromIs, FromsAre, IsOf, IsOfTypes, IsTyped, Scope, keyed, open_scope}
pub use Rattle.qgm_translation.specs.There.{map_of}
use Rattle.qgm_translation_laws.proofs.Parts.{Cells, Fit, FitAll, Heads, Is, cells-append, fit-append, heads-append, node_of}
use Rattle.qgm_translation_laws.proofs.TermsAre.{Asked, Held, MapIs, RefIs, cond-is, held-append, ref-is, same-some, term-is, terms-are}
use Rattle.qgm_translation_laws.proofs.FormedKeys.{Folded, Ins, Refs, agg_types, among, either-false, append-none, arg_types, at-left, at-padded, at-right, folded, folds-to, ins-all, ins-rest, key_types, keys-length, keys-owned, or_row}
use Rattle.qgm_translation_laws.proofs.Frames.{At, Cols, LeavesAre, SubIs, cols-append, cols-seen, from-length, froms-length, leaves-append, map-more, map-none, map-open, query-length, refs-cols, test-leaves, values-leaves}

-- ---- boxes

-- Over: from a level on, a box has columns of these types; Ranges: a quantifier ranges over a box
module _ (kinds : List ℕ → List SqlType) (sources : Sources) (counted : (name : List ℕ) → length (kinds name) ≡ sources.columns name) (Over : ℕ → ℕ → List SqlType → Type 0)
    (more : (d e b : ℕ) (types : List SqlType) → d ≤ e → Over d b types → Over e b types) (Ranges : ℕ → ℕ → Type 0) where
  abbrev pub Column : ℕ → ℕ → ℕ → SqlType → Type 0
  Column e n k a = (b : ℕ) × (Ranges n b × ((types : List SqlType) × (Over e b types × ((i : ℕ) × ((k ≡ suc i) × At types i a)))))

  -- a row of q is bound in the box, or seen in the map
  abbrev pub Bound : List OwnedQuant → Map → ℕ → Type 0
  Bound os m n = (is_row n os ≡ true) ⊎ (fresh n m ≡ false)

  abbrev pub Kn : ℕ → List OwnedQuant → Map → ℕ → ℕ → SqlType → Type 0
  Kn e os m n k a = Column e n k a × Bound os m n

  abbrev pub Nn : ℕ → List OwnedQuant → QuantNode → Type 0
  Nn e os x = (node_fits os x ≡ true) × ((b : ℕ) × (Ranges (node_of x) b × ((types : List SqlType) × Over e b types)))

  abbrev pub Jn : ℕ → ℕ → SqlType → Type 0
  Jn e n a = Column e n 1 a

  -- each of these quantifiers ranges over a box of these types
  abbrev pub Arms : ℕ → List OwnedQuant → List SqlType → Type 0
  Arms e [] types = Unit {0}
  Arms e (o ∷ os) types = Over e o.over types × Arms e os types

  -- what the columns of a box of a kind are, and its conditions
  abbrev pub LocalBy : ℕ → Map → Node → List SqlType → BoxKind → Type 0
  LocalBy e m n types (Base table) = (types ≡ table.types) × v.IsBare n
  LocalBy e m n types Select = Heads (Kn e n.quants m) (Nn e n.quants) (Jn e) n.parts.head types × FitAll (Kn e n.quants m) (Nn e n.quants) (Jn e) n.parts.conds.items
  LocalBy e m n types (Group keys) = Cells (Kn e n.quants m) (Nn e n.quants) (Jn e) n.parts.head types × (n.parts.conds.items ≡ [])
  LocalBy e m n types (SetOp operator columns) = (columns ≡ types) × v.IsBare n × Arms e n.quants types
  LocalBy e m n types OuterJoin = Heads (Kn e n.quants m) (Nn e n.quants) (Jn e) n.parts.head types × FitAll (Kn e n.quants m) (Nn e n.quants) (Jn e) n.parts.conds.items

  abbrev pub LocalIs : ℕ → Map → Node → List SqlType → Type 0
  LocalIs e m n types = LocalBy e m n types n.parts.kind

  -- ---- what a thing is

  abbrev pub RowsAre : List Scope → Froms → Test → List ℕ → List Leaf → List SqlType → Type 0
  RowsAre scopes from by places ls types =
      (row : List SqlType) × (FromsAre kinds scopes from row × IsTyped kinds None (open_scope row ∷ scopes) by
      × ((found : ArePlaces (open_scope row) places) × ((folds : Folded kinds (open_scope row) ls)
      × (types ≡ v.padded Integer (key_types (open_scope row) places found ++ arg_types kinds (open_scope row) ls folds)))))

  abbrev pub GroupsAre : List Scope → Froms → Test → List ℕ → List Leaf → List SqlType → Type 0
  GroupsAre scopes from by places ls types =
      (row : List SqlType) × (FromsAre kinds scopes from row × IsTyped kinds None (open_scope row ∷ scopes) by
      × ((found : ArePlaces (open_scope row) places) × ((folds : Folded kinds (open_scope row) ls)
      × (types ≡ key_types (open_scope row) places found ++ agg_types kinds (open_scope row) ls folds))))

  abbrev pub ThingIs : List Scope → Thing → List SqlType → Type 0
  ThingIs scopes (of_query x) types = IsOfTypes kinds scopes x types
  ThingIs scopes (of_operand x) types = FromIs kinds scopes x types
  ThingIs scopes (of_rows from by places ls) types = RowsAre scopes from by places ls types
  ThingIs scopes (of_groups from by places ls) types = GroupsAre scopes from by places ls types

  -- the body of a view has the columns of its name
  abbrev pub SourceIs : List ℕ → Option Query → Type 0
  SourceIs name None = (sources.stored name).types ≡ kinds name
  SourceIs name (Some body) = IsOfTypes kinds [] body (kinds name)

  -- ---- columns

  pub later : (d e n k : ℕ) (a : SqlType) → d ≤ e → Column d n k a → Column e n k a
  later d e n k a u h = (h.0, (h.1.0, (h.1.1.0, (more d e h.0 h.1.1.0 u h.1.1.1.0, h.1.1.1.1))))

  frame-bound : (fr : Frame) (p n k : ℕ) → get_or fr p nothing ≡ column n k → fresh_in n fr ≡ false
  frame-bound [] p n k h = absurd (cc h)
  frame-bound (r ∷ fr) zero n k h = ap (λ z. is_apart n z && fresh_in n fr) h ∙ ap (λ b. not b && fresh_in n fr) (eq-eqb n n refl)
  frame-bound (r ∷ fr) (suc p) n k h = and_right (is_apart n r) (fresh_in n fr) (frame-bound fr p n k h)

  map-bound : (m : Map) (s p n k : ℕ) → get_or (get_or m s []) p nothing ≡ column n k → fresh n m ≡ false
  map-bound [] s p n k h = absurd (cc h)
  map-bound (fr ∷ m) zero p n k h = ap (λ b. b && fresh n m) (frame-bound fr p n k h)
  map-bound (fr ∷ m) (suc s) p n k h = and_right (fresh_in n fr) (fresh n m) (map-bound m s p n k h)

  -- the types of these columns are told
  pub columns-told : (K : ℕ → ℕ → SqlType → Type 0) → ((n k : ℕ) (a : SqlType) → K n k a → sources.typed (t.col n k) ≡ a) → (fr : Frame) (types : List SqlType) → Cols K fr types → Refs fr → map sources.typed (map ref_term fr) ≡ types
  columns-told K f [] types h o = sym h
  columns-told K f (r ∷ fr) [] h o = absurd h
  columns-told K f (column n k ∷ fr) (a ∷ types) h o = ap₂ (λ z zs. z ∷ zs) (f n k a h.0) (columns-told K f fr types h.1 o)
  columns-told K f (nothing ∷ fr) (a ∷ types) h o = absurd o
  columns-told K f (none_counted ∷ fr) (a ∷ types) h o = absurd o

  pub all-refs : (n i w : ℕ) → Refs (refs n i w)
  all-refs n i zero = tt
  all-refs n i (suc w) = all-refs n (suc i) w

  -- in the box, which is seen through m: what the box under a quantifier shows, and that what is seen through its map is bound in the box or seen through m
  module _ (Below : ℕ → Thing → Map → Type 0) (b : Node) (m : Map) where
    abbrev pub Child : OwnedQuant → Type 0
    Child o =
        (thing : Thing) × ((x : Map) × ((scopes : List Scope) × ((types : List SqlType) × ((e : ℕ) × (Below o.over thing x × MapIs (Column e) x scopes × ThingIs scopes thing types
        × ((n : ℕ) → fresh n x ≡ false → (fresh n m ≡ false) ⊎ ((is_F o.kind ≡ false) × (is_row n b.quants ≡ true) × (is_select b.parts.kind ≡ true))) × (is_S o.kind ≡ true → typed.NotNone types))))))

    abbrev pub Each : List OwnedQuant → Type 0
    Each [] = Unit {0}
    Each (o ∷ os) = Child o × Each os

  module _ (told : (e : ℕ) (os : List OwnedQuant) (m : Map) (x : Term) (a : SqlType) → Is (Kn e os m) (Nn e os) (Jn e) x a → sources.typed x ≡ a)
      (Below : ℕ → Thing → Map → Type 0) (L : ℕ → ℕ) (ups : (e : ℕ) → e ≤ L e)
      (are : (b : ℕ) (thing : Thing) (m : Map) (scopes : List Scope) (types : List SqlType) (e : ℕ) → Below b thing m → MapIs (Column e) m scopes → ThingIs scopes thing types → Over (L e) b types)
      (b : Node) (ranges : (r : OwnedQuant) → In r b.quants → Ranges r.id r.over) where
    module _ (m : Map) (scopes : List Scope) (e : ℕ) (round : MapIs (Column e) m scopes) where
      abbrev pub D : ℕ
      D = L e

      abbrev pub E : ℕ
      E = L (L e)

      abbrev pub K0 : ℕ → ℕ → SqlType → Type 0
      K0 n k a = Column D n k a × Bound b.quants m n

      abbrev pub K : ℕ → ℕ → SqlType → Type 0
      K = Kn E b.quants m

      abbrev pub N : QuantNode → Type 0
      N = Nn E b.quants

      abbrev pub J : ℕ → SqlType → Type 0
      J = Jn E

      pub lift : (n k : ℕ) (a : SqlType) → K0 n k a → K n k a
      lift n k a h = (later D E n k a (ups D) h.0, h.1)

      abbrev pub Kids : List OwnedQuant → Type 0
      Kids = Each Below b m

      abbrev pub BoxIs : List SqlType → Type 0
      BoxIs types = LocalIs E m b types × Kids b.quants

      kid : (o : OwnedQuant) (thing : Thing) (types : List SqlType) → o.kind ≡ binding.F → Below o.over thing m → ThingIs scopes thing types → Child Below b m o
      kid o thing types k below is = (thing, (m, (scopes, (types, (e, (below, round, is, (λ n h. inl h), λ g. absurd (let z : true ≡ false = sym g ∙ ap is_S k in let w : ⊥ = cc in w)))))))

      abbrev pub H : Option Scope → List Leaf → Slots → Type 0
      H = Held kinds K0 K lift N J m

      ref-bound : (r : Ref) (a : SqlType) → ((n k : ℕ) → r ≡ column n k → fresh n m ≡ false) → RefIs (Column e) r a → RefIs K0 r a
      ref-bound nothing a f h = h
      ref-bound none_counted a f h = h
      ref-bound (column n k) a f h = (later e D n k a (ups e) h, inr (f n k refl))

      pub outside : MapIs K0 m scopes
      outside s p a h = ref-bound (get_or (get_or m s []) p nothing) a (λ n k. map-bound m s p n k) (round s p a h)

      ref-weak : (r : Ref) (a : SqlType) → RefIs K0 r a → RefIs (Column D) r a
      ref-weak nothing a h = h
      ref-weak none_counted a h = h
      ref-weak (column n k) a h = h.0

      pub weak : (x : Map) (s : List Scope) → MapIs K0 x s → MapIs (Column D) x s
      weak x s h i p a e = ref-weak (get_or (get_or x i []) p nothing) a (h i p a e)

      -- a column of an F quantifier of the box
      own-column : (o : OwnedQuant) (types : List SqlType) → In o b.quants → o.kind ≡ binding.F → Over D o.over types → (i : ℕ) (a : SqlType) → At types i a → K0 o.id (suc i) a
      own-column o types h k over i a at = ((o.over, (ranges o h, (types, (over, (i, (refl, at)))))), inl (among is_F o b.quants h (ap is_F k)))

      pub own-cols : (o : OwnedQuant) (types : List SqlType) (w : ℕ) → In o b.quants → o.kind ≡ binding.F → Over D o.over types → length types ≡ w → Cols K0 (refs o.id 1 w) types
      own-cols o types w h k over e =
          subst (λ z. Cols K0 (refs o.id 1 z) types) e
          (refs-cols K0 o.id 0 types (λ j a at. let g : j ≡ j + 0 = omega arith in own-column o types h k over (j + 0) a (subst (λ z. At types z a) g at)))

      -- ---- FROM

      one-cols : (x : From) (w : ℕ) (os : List OwnedQuant) (types : List SqlType) → v.ShowsOne sources Below x m os → Ins os b.quants → FromIs kinds scopes x types → length types ≡ w → Cols K0 (refs (v.first_id os) 1 w) types
      one-cols x w [] types h i f e = absurd h
      one-cols x w (o ∷ os) types h i f g = own-cols o types w i.0 h.0 (are o.over (of_operand x) m scopes types e h.1 round f) g

      ins-past : (x : From) (os : List OwnedQuant) → Ins os b.quants → Ins (v.past sources x os) b.quants
      ins-past (q.named name) os i = ins-rest os b.quants i
      ins-past (q.derived query) os i = ins-rest os b.quants i
      ins-past (q.crossed x y) os i = ins-past y (v.past sources x os) (ins-past x os i)
      ins-past (q.joined x y p) os i = ins-past y (v.past sources x os) (ins-past x os i)
      ins-past (q.left_joined x y n p) os i = ins-rest os b.quants i

      pub ins-past_all : (xs : Froms) (os : List OwnedQuant) → Ins os b.quants → Ins (v.past_all sources xs os) b.quants
      ins-past_all q.no_from os i = i
      ins-past_all (q.one_from x xs) os i = ins-past_all xs (v.past sources x os) (ins-past x os i)

      from-cols : (x : From) (os : List OwnedQuant) (types : List SqlType) → v.ShowsFrom sources Below x m os → Ins os b.quants → FromIs kinds scopes x types → Cols K0 (v.frame sources x os) types
      from-cols (q.named name) os types h i f = one-cols (q.named name) (sources.columns name) os types h i f (from-length kinds sources counted scopes (q.named name) types f)
      from-cols (q.derived query) os types h i f = one-cols (q.derived query) (width query) os types h i f (query-length kinds sources counted scopes query types f)
      from-cols (q.crossed x y) os types h i f =
          subst (λ (z : List SqlType). Cols K0 (v.frame sources x os ++ v.frame sources y (v.past sources x os)) z) (sym f.1.1.2)
          (cols-append K0 (v.frame sources x os) (v.frame sources y (v.past sources x os)) f.0 f.1.0 (from-cols x os f.0 h.0 i f.1.1.0) (from-cols y (v.past sources x os) f.1.0 h.1 (ins-past x os i) f.1.1.1))
      from-cols (q.joined x y p) os types h i f =
          subst (λ (z : List SqlType). Cols K0 (v.frame sources x os ++ v.frame sources y (v.past sources x os)) z) (sym f.1.1.2)
          (cols-append K0 (v.frame sources x os) (v.frame sources y (v.past sources x os)) f.0 f.1.0 (from-cols x os f.0 h.0 i f.1.1.0) (from-cols y (v.past sources x os) f.1.0 h.1 (ins-past x os i) f.1.1.1))
      from-cols (q.left_joined x y n p) os types h i f =
          one-cols (q.left_joined x y n p) (from_width sources x + n) os types h i f (from-length kinds sources counted scopes (q.left_joined x y n p) types f)

      pub froms-cols : (xs : Froms) (os : List OwnedQuant) (types : List SqlType) → v.ShowsFroms sources Below xs m os → Ins os b.quants → FromsAre kinds scopes xs types → Cols K0 (v.frame_all sources xs os) types
      froms-cols q.no_from os types h i f = f
      froms-cols (q.one_from x xs) os types h i f =
          subst (λ (z : List SqlType). Cols K0 (v.frame sources x os ++ v.frame_all sources xs (v.past sources x os)) z) (sym f.1.1.2)
          (cols-append K0 (v.frame sources x os) (v.frame_all sources xs (v.past sources x os)) f.0 f.1.0 (from-cols x os f.0 h.0 i f.1.1.0) (froms-cols xs (v.past sources x os) f.1.0 h.1 (ins-past x os i) f.1.1.1))

      -- the ON conditions: their leaves, and they
      abbrev View : Frame → List Scope → Type 0
      View f s = MapIs K0 (f ∷ m) s × ((n : ℕ) → fresh_in n f ≡ false → Bound b.quants m n)

      apart-ref : (r : Ref) (a : SqlType) (n : ℕ) → RefIs K0 r a → is_apart n r ≡ false → Bound b.quants m n
      apart-ref nothing a n h k = absurd (cc k)
      apart-ref none_counted a n h k = absurd (cc k)
      apart-ref (column c i) a n h k = subst (Bound b.quants m) (eqb-true c n (not-false (c == n) k)) h.1

      frame-owned : (fr : Frame) (types : List SqlType) → Cols K0 fr types → (n : ℕ) → fresh_in n fr ≡ false → Bound b.quants m n
      frame-owned [] types h n k = absurd (cc k)
      frame-owned (r ∷ fr) [] h n k = absurd h
      frame-owned (r ∷ fr) (a ∷ types) h n k = either-false (Bound b.quants m n) (is_apart n r) (fresh_in n fr) k (apart-ref r a n h.0) (frame-owned fr types h.1 n)

      view : (fr : Frame) (types : List SqlType) → Cols K0 fr types → View fr (open_scope types ∷ scopes)
      view fr types cols = (map-open K0 fr m types scopes cols outside, frame-owned fr types cols)

      abbrev LA : List Leaf → Type 0
      LA = LeavesAre kinds View None

      on-leaves : (x : From) (os : List OwnedQuant) (types : List SqlType) → v.ShowsFrom sources Below x m os → Ins os b.quants → FromIs kinds scopes x types → LA (v.on_leaves sources x os)
      on-leaves (q.named name) os types h i f = tt
      on-leaves (q.derived query) os types h i f = tt
      on-leaves (q.crossed x y) os types h i f =
          leaves-append kinds View None (v.on_leaves sources x os) (v.on_leaves sources y (v.past sources x os)) (on-leaves x os f.0 h.0 i f.1.1.0) (on-leaves y (v.past sources x os) f.1.0 h.1 (ins-past x os i) f.1.1.1)
      on-leaves (q.joined x y p) os types h i f =
          let past = v.past sources x os in
          let fr = v.frame sources x os ++ v.frame sources y past in
          let cols = cols-append K0 (v.frame sources x os) (v.frame sources y past) f.0 f.1.0 (from-cols x os f.0 h.0 i f.1.1.0) (from-cols y past f.1.0 h.1 (ins-past x os i) f.1.1.1) in
          leaves-append kinds View None (v.on_leaves sources x os) (v.on_leaves sources y past ++ test_leaves fr p) (on-leaves x os f.0 h.0 i f.1.1.0)
          (leaves-append kinds View None (v.on_leaves sources y past) (test_leaves fr p) (on-leaves y past f.1.0 h.1 (ins-past x os i) f.1.1.1)
          (test-leaves kinds View None fr (open_scope (f.0 ++ f.1.0) ∷ scopes) (view fr (f.0 ++ f.1.0) cols) p f.1.1.3).are)
      on-leaves (q.left_joined x y n p) os types h i f = tt

      all-on-leaves : (xs : Froms) (os : List OwnedQuant) (types : List SqlType) → v.ShowsFroms sources Below xs m os → Ins os b.quants → FromsAre kinds scopes xs types → LA (v.all_on_leaves sources xs os)
      all-on-leaves q.no_from os types h i f = tt
      all-on-leaves (q.one_from x xs) os types h i f =
          leaves-append kinds View None (v.on_leaves sources x os) (v.all_on_leaves sources xs (v.past sources x os)) (on-leaves x os f.0 h.0 i f.1.1.0) (all-on-leaves xs (v.past sources x os) f.1.0 h.1 (ins-past x os i) f.1.1.1)

      told-here : (x : Term) (a : SqlType) → Is K N J x a → sources.typed x ≡ a
      told-here x a h = told E b.quants m x a h

      split-fit : (c : Cond) → Fit K N J c → FitAll K N J (l.split c)
      split-fit t.always h = tt
      split-fit (t.and p r) h = fit-append K N J (l.split p) (l.split r) (split-fit p h.0) (split-fit r h.1)
      split-fit (t.compare g x y) h = (h, tt)
      split-fit (t.is_null x) h = (h, tt)
      split-fit (t.or p r) h = (h, tt)
      split-fit (t.not p) h = (h, tt)
      split-fit (t.some n p) h = (h, tt)
      split-fit (t.every n p) h = (h, tt)

      on-fit : (fr : Frame) (types : List SqlType) (s : Slots) (p : Test) → Cols K0 fr types → H None (test_leaves fr p) s → IsTyped kinds None (open_scope types ∷ scopes) p → FitAll K N J (l.split (l.cond sources fr m s p))
      on-fit fr types s p cols h f =
          split-fit (l.cond sources fr m s p) (cond-is kinds K0 K lift N J sources told-here fr m None (open_scope types ∷ scopes) (map-open K0 fr m types scopes cols outside) s p h f)

      ons-fit : (x : From) (os : List OwnedQuant) (types : List SqlType) (s : Slots) → v.ShowsFrom sources Below x m os → Ins os b.quants → FromIs kinds scopes x types → H None (v.on_leaves sources x os) s → FitAll K N J (v.ons sources m x os s)
      ons-fit (q.named name) os types s h i f g = tt
      ons-fit (q.derived query) os types s h i f g = tt
      ons-fit (q.crossed x y) os types s h i f g =
          let past = v.past sources x os in
          let a = held-append kinds K0 K lift N J m None (v.on_leaves sources x os) (v.on_leaves sources y past) s g in
          fit-append K N J (v.ons sources m x os s) (v.ons sources m y past (after (v.on_leaves sources x os) s)) (ons-fit x os f.0 s h.0 i f.1.1.0 a.0)
          (ons-fit y past f.1.0 (after (v.on_leaves sources x os) s) h.1 (ins-past x os i) f.1.1.1 a.1)
      ons-fit (q.joined x y p) os types s h i f g =
          let past = v.past sources x os in
          let fr = v.frame sources x os ++ v.frame sources y past in
          let cols = cols-append K0 (v.frame sources x os) (v.frame sources y past) f.0 f.1.0 (from-cols x os f.0 h.0 i f.1.1.0) (from-cols y past f.1.0 h.1 (ins-past x os i) f.1.1.1) in
          let a = held-append kinds K0 K lift N J m None (v.on_leaves sources x os) (v.on_leaves sources y past ++ test_leaves fr p) s g in
          let mid = after (v.on_leaves sources x os) s in
          let c = held-append kinds K0 K lift N J m None (v.on_leaves sources y past) (test_leaves fr p) mid a.1 in
          let end = after (v.on_leaves sources y past) mid in
          fit-append K N J (v.ons sources m x os s) (v.ons sources m y past mid ++ l.split (l.cond sources fr m end p)) (ons-fit x os f.0 s h.0 i f.1.1.0 a.0)
          (fit-append K N J (v.ons sources m y past mid) (l.split (l.cond sources fr m end p)) (ons-fit y past f.1.0 mid h.1 (ins-past x os i) f.1.1.1 c.0) (on-fit fr (f.0 ++ f.1.0) end p cols c.1 f.1.1.3))
      ons-fit (q.left_joined x y n p) os types s h i f g = tt

      all-ons-fit : (xs : Froms) (os : List OwnedQuant) (types : List SqlType) (s : Slots) → v.ShowsFroms sources Below xs m os → Ins os b.quants → FromsAre kinds scopes xs types → H None (v.all_on_leaves sources xs os) s → FitAll K N J (v.all_ons sources m xs os s)
      all-ons-fit q.no_from os types s h i f g = tt
      all-ons-fit (q.one_from x xs) os types s h i f g =
          let past = v.past sources x os in
          let a = held-append kinds K0 K lift N J m None (v.on_leaves sources x os) (v.all_on_leaves sources xs past) s g in
          fit-append K N J (v.ons sources m x os s) (v.all_ons sources m xs past (after (v.on_leaves sources x os) s)) (ons-fit x os f.0 s h.0 i f.1.1.0 a.0)
          (all-ons-fit xs past f.1.0 (after (v.on_leaves sources x os) s) h.1 (ins-past x os i) f.1.1.1 a.1)

      -- ---- subqueries and aggregates

      -- the columns of aggregates have their types
      abbrev CellsHeld : Option Scope → List Leaf → List Ref → Type 0
      CellsHeld rows [] cs = Unit {0}
      CellsHeld rows (w.sub f kind x ∷ ls) cs = CellsHeld rows ls cs
      CellsHeld rows (w.fold f distinct x ∷ ls) cs = ((row : Scope) → rows ≡ Some row → (u a : SqlType) → IsOf kinds None (row ∷ []) x u → FoldsTo f u a → RefIs K0 (w.first_cell cs) a) × CellsHeld rows ls (w.rest_of cs)
      CellsHeld rows (w.count ∷ ls) cs = ((row : Scope) → rows ≡ Some row → RefIs K0 (w.first_cell cs) Integer) × CellsHeld rows ls (w.rest_of cs)

      none-held : (ls : List Leaf) (cs : List Ref) → CellsHeld None ls cs
      none-held [] cs = tt
      none-held (w.sub f kind x ∷ ls) cs = none-held ls cs
      none-held (w.fold f distinct x ∷ ls) cs = ((λ row e u a h k. absurd (cc e)), none-held ls (w.rest_of cs))
      none-held (w.count ∷ ls) cs = ((λ row e. absurd (cc e)), none-held ls (w.rest_of cs))

      known : (o : OwnedQuant) (kind : QuantKind) (f : Frame) (x : Query) (rows : Option Scope) → In o b.quants → Below o.over (of_query x) (f ∷ m) → SubIs kinds View rows kind f x → (c : ℕ) × (Ranges o.id c × ((types : List SqlType) × Over E c types))
      known o kind f x rows i below sub = (o.over, (ranges o i, (sub.1.1.0, are o.over (of_query x) (f ∷ m) sub.0 sub.1.1.0 D below (weak (f ∷ m) sub.0 sub.1.0.0) sub.1.1.1.0)))

      one-of : (o : OwnedQuant) (f : Frame) (x : Query) → In o b.quants → Below o.over (of_query x) (f ∷ m) → (s : List Scope) → MapIs K0 (f ∷ m) s → (a : SqlType) → IsOfTypes kinds s x (a ∷ []) → J o.id a
      one-of o f x i below s see a g = (o.over, (ranges o i, (a ∷ [], (are o.over (of_query x) (f ∷ m) s (a ∷ []) D below (weak (f ∷ m) s see) g, (zero, (refl, refl))))))

      asked : (o : OwnedQuant) (kind : QuantKind) (f : Frame) (x : Query) (rows : Option Scope) → In o b.quants → o.kind ≡ kind → Below o.over (of_query x) (f ∷ m) → SubIs kinds View rows kind f x → Asked kinds K0 K lift N J m rows kind o.id f x
      asked o binding.F f x rows i k below sub = tt
      asked o binding.E f x rows i k below sub = ((among is_E o b.quants i (ap is_E k), known o binding.E f x rows i below sub), one-of o f x i below)
      asked o binding.A f x rows i k below sub = ((among is_A o b.quants i (ap is_A k), known o binding.A f x rows i below sub), one-of o f x i below)
      asked o binding.S f x rows i k below sub = ((among is_S o b.quants i (ap is_S k), known o binding.S f x rows i below sub), one-of o f x i below)

      subs-held : (rows : Option Scope) (ls : List Leaf) (os : List OwnedQuant) (cs : List Ref) → v.ShowsSubs sources Below m ls os → Ins os b.quants → LeavesAre kinds View rows ls → CellsHeld rows ls cs → H rows ls (record { quants = map (λ o. o.id) os; cells = cs })
      subs-held rows [] os cs h i a c = tt
      subs-held rows (w.sub f kind x ∷ ls) [] cs h i a c = absurd h
      subs-held rows (w.sub f kind x ∷ ls) (o ∷ os) cs h i a c = (asked o kind f x rows i.0 h.0 h.3 a.0, subs-held rows ls os cs h.4 i.1 a.1 c)
      subs-held rows (w.fold f distinct x ∷ ls) os cs h i a c = (c.0, subs-held rows ls os (w.rest_of cs) h i a.1 c.1)
      subs-held rows (w.count ∷ ls) os cs h i a c = (c.0, subs-held rows ls os (w.rest_of cs) h i a.1 c.1)

      subs-kids : b.parts.kind ≡ Select → (rows : Option Scope) (ls : List Leaf) (os : List OwnedQuant) → v.ShowsSubs sources Below m ls os → LeavesAre kinds View rows ls → Kids os
      subs-kids sel rows [] os h a = subst Kids (sym h) tt
      subs-kids sel rows (w.sub f kind x ∷ ls) [] h a = absurd h
      subs-kids sel rows (w.sub f kind x ∷ ls) (o ∷ os) h a = (
        (of_query x, (f ∷ m, (a.0.0, (a.0.1.1.0, (D, (h.3, weak (f ∷ m) a.0.0 a.0.1.0.0, a.0.1.1.1.0, (λ n k. either-false (Seen n) (fresh_in n f) (fresh n m) k (λ g. with_kind n (a.0.1.0.1 n g)) (λ g. inl g)), λ g. a.0.1.1.1.1 (ap is_S (sym h.0) ∙ g))))))),
        subs-kids sel rows ls os h.4 a.1,
      )
        where
          Seen : ℕ → Type 0
          Seen n = (fresh n m ≡ false) ⊎ ((is_F o.kind ≡ false) × (is_row n b.quants ≡ true) × (is_select b.parts.kind ≡ true))

          with_kind : (n : ℕ) → Bound b.quants m n → Seen n
          with_kind n (inl g) = inr (ap is_F h.0 ∙ h.1, g, ap is_select sel)
          with_kind n (inr g) = inl g
      subs-kids sel rows (w.fold f distinct x ∷ ls) os h a = subs-kids sel rows ls os h a.1
      subs-kids sel rows (w.count ∷ ls) os h a = subs-kids sel rows ls os h a.1

      one-kid : (x : From) (os : List OwnedQuant) (types : List SqlType) → v.ShowsOne sources Below x m os → FromIs kinds scopes x types → Kids (w.rest_of os) → Kids os
      one-kid x [] types h f k = absurd h
      one-kid x (o ∷ os) types h f k = (kid o (of_operand x) types h.0 h.1 f, k)

      from-kids : (x : From) (os : List OwnedQuant) (types : List SqlType) → v.ShowsFrom sources Below x m os → FromIs kinds scopes x types → Kids (v.past sources x os) → Kids os
      from-kids (q.named name) os types h f k = one-kid (q.named name) os types h f k
      from-kids (q.derived query) os types h f k = one-kid (q.derived query) os types h f k
      from-kids (q.crossed x y) os types h f k = from-kids x os f.0 h.0 f.1.1.0 (from-kids y (v.past sources x os) f.1.0 h.1 f.1.1.1 k)
      from-kids (q.joined x y p) os types h f k = from-kids x os f.0 h.0 f.1.1.0 (from-kids y (v.past sources x os) f.1.0 h.1 f.1.1.1 k)
      from-kids (q.left_joined x y n p) os types h f k = one-kid (q.left_joined x y n p) os types h f k

      froms-kids : (xs : Froms) (os : List OwnedQuant) (types : List SqlType) → v.ShowsFroms sources Below xs m os → FromsAre kinds scopes xs types → Kids (v.past_all sources xs os) → Kids os
      froms-kids q.no_from os types h f k = k
      froms-kids (q.one_from x xs) os types h f k = from-kids x os f.0 h.0 f.1.1.0 (froms-kids xs (v.past sources x os) f.1.0 h.1 f.1.1.1 k)

      -- ---- boxes

      select-is : (d : Distinct) (from : Froms) (by : Test) (heads : Frame → List Leaf) (list : Frame → Slots → List Term) (row types : List SqlType) → v.ShowsSelect sources Below d from by heads list m b
          → FromsAre kinds scopes from row → IsTyped kinds None (open_scope row ∷ scopes) by → ((fr : Frame) → Cols K0 fr row → LA (heads fr))
          → ((fr : Frame) (s : Slots) → fr ≡ v.frame_all sources from b.quants → Cols K0 fr row → H None (heads fr) s → Heads K N J (list fr s) types) → BoxIs types
      select-is d from by heads list row types h f g apart items =
          let os = b.quants in
          let fr = v.frame_all sources from os in
          let rest = v.past_all sources from os in
          let ls = v.all_leaves sources from by heads os in
          let s = v.slots_of ls rest in
          let cols = froms-cols from os row h.froms (ins-all os) f in
          let on = all-on-leaves from os row h.froms (ins-all os) f in
          let where_leaves = (test-leaves kinds View None fr (open_scope row ∷ scopes) (view fr row cols) by g).are in
          let leaves = leaves-append kinds View None (heads fr) (v.all_on_leaves sources from os ++ test_leaves fr by) (apart fr cols) (leaves-append kinds View None (v.all_on_leaves sources from os) (test_leaves fr by) on where_leaves) in
          let held = subs-held None ls rest (v.ungrouped_cells ls) h.subs (ins-past_all from os (ins-all os)) leaves (none-held ls (v.ungrouped_cells ls)) in
          let a = held-append kinds K0 K lift N J m None (heads fr) (v.all_on_leaves sources from os ++ test_leaves fr by) s held in
          let mid = after (heads fr) s in
          let c = held-append kinds K0 K lift N J m None (v.all_on_leaves sources from os) (test_leaves fr by) mid a.1 in
          let end = after (v.all_on_leaves sources from os) mid in (
            subst (LocalBy E m b types) (sym h.kind) (
              subst (λ (z : List Term). Heads K N J z types) (sym h.head) (items fr s refl cols a.0),
              subst (FitAll K N J) (sym h.conds)
                  (fit-append K N J (v.all_ons sources m from os mid) (l.split (l.cond sources fr m end by)) (all-ons-fit from os row mid h.froms (ins-all os) f c.0) (on-fit fr row end by cols c.1 g)),
            ),
            froms-kids from os row h.froms f (subs-kids h.kind None ls rest h.subs leaves),
          )

      block-is : (distinct : Bool) (list : Values) (from : Froms) (by : Test) (types : List SqlType) → v.ShowsQuery sources Below (q.block distinct list from by) m b → IsOfTypes kinds scopes (q.block distinct list from by) types → BoxIs types
      block-is distinct list from by types h g =
          select-is (v.distinct_of distinct) from by (λ fr. list_leaves fr list) (λ fr s. l.terms sources fr m s list) g.0 types h g.1.0 g.1.1
          (λ fr cols. (values-leaves kinds View None fr (open_scope g.0 ∷ scopes) (view fr g.0 cols) list types g.1.2).are)
          (λ fr s e cols held. terms-are kinds K0 K lift N J sources told-here fr m None (open_scope g.0 ∷ scopes) (map-open K0 fr m g.0 scopes cols outside) s list types held g.1.2)

      frame-heads : (fr : Frame) (types : List SqlType) → Cols K0 fr types → Heads K N J (map ref_term fr) types
      frame-heads [] types h = h
      frame-heads (r ∷ fr) [] h = absurd h
      frame-heads (r ∷ fr) (a ∷ types) h = (ref-is kinds K0 K lift N J r a h.0, frame-heads fr types h.1)

      flat-is : (x : From) (types : List SqlType) → v.ShowsFlat sources Below x m b → FromIs kinds scopes x types → BoxIs types
      flat-is x types h f =
          select-is _ (q.one_from x q.no_from) (q.all q.no_test) (λ fr. []) (λ fr s. map ref_term fr) types types h (types, ([], (f, refl, sym (append-none types)))) tt (λ fr cols. tt) (λ fr s e cols held. frame-heads fr types cols)

      -- ---- the three boxes of a grouped block

      arguments-are : (fr : Frame) (row : List SqlType) → Cols K0 fr row → (ls : List Leaf) → v.PlainArguments fr ls → (folds : Folded kinds (open_scope row) ls) → Heads K N J (v.argument_terms sources fr ls) (arg_types kinds (open_scope row) ls folds)
      arguments-are fr row cols [] h folds = refl
      arguments-are fr row cols (w.sub f kind x ∷ ls) h folds = arguments-are fr row cols ls h folds
      arguments-are fr row cols (w.fold f distinct x ∷ ls) h folds = (
        term-is kinds K0 K lift N J sources told-here fr [] None (open_scope row ∷ []) (map-open K0 fr [] row [] cols (map-none K0)) v.no_slots x folds.0.0
            (subst (λ (z : List Leaf). Held kinds K0 K lift N J [] None z v.no_slots) (sym h.0) tt) folds.0.1.1.0,
        arguments-are fr row cols ls h.1 folds.1,
      )
      arguments-are fr row cols (w.count ∷ ls) h folds = arguments-are fr row cols ls h folds

      places-are : (fr : Frame) (row : List SqlType) → Cols K0 fr row → (places : List ℕ) (found : ArePlaces (open_scope row) places) → Heads K N J (map (λ place. ref_term (get_or fr place nothing)) places) (key_types (open_scope row) places found)
      places-are fr row cols [] found = refl
      places-are fr row cols (p ∷ places) found = (ref-is kinds K0 K lift N J (get_or fr p nothing) found.0 (cols-seen K0 fr row p found.0 cols found.1.0), places-are fr row cols places found.1.1)

      padded-are : (xs : List Term) (types : List SqlType) → Heads K N J xs types → Heads K N J (v.padded (t.int (pos 1)) xs) (v.padded Integer types)
      padded-are [] types h = subst (λ (z : List SqlType). Heads K N J (t.int (pos 1) ∷ []) (v.padded Integer z)) (sym h) (refl, refl)
      padded-are (x ∷ xs) [] h = absurd h
      padded-are (x ∷ xs) (a ∷ types) h = h

      rows-are : (from : Froms) (by : Test) (places : List ℕ) (ls : List Leaf) (types : List SqlType) → v.ShowsRows sources Below from by places ls m b → RowsAre scopes from by places ls types → BoxIs types
      rows-are from by places ls types h g =
          let row = g.0 in
          let found = g.1.2.0 in
          let folds = g.1.2.1.0 in
          subst BoxIs (sym g.1.2.1.1)
          (select-is _ from by (λ fr. []) (v.rows_list sources places ls) row _ h.rows g.1.0 g.1.1 (λ fr cols. tt)
          (λ fr s e cols held.
          padded-are (map (λ place. ref_term (get_or fr place nothing)) places ++ v.argument_terms sources fr ls) (key_types (open_scope row) places found ++ arg_types kinds (open_scope row) ls folds)
          (heads-append K N J (map (λ place. ref_term (get_or fr place nothing)) places) (v.argument_terms sources fr ls) (key_types (open_scope row) places found) (arg_types kinds (open_scope row) ls folds)
          (places-are fr row cols places found) (arguments-are fr row cols ls (subst (λ (z : Frame). v.PlainArguments z ls) (sym e) h.arguments) folds))))

      cols-cells : (fr : Frame) (types : List SqlType) → Cols K0 fr types → Cells K N J (map ref_term fr) types
      cols-cells [] types h = h
      cols-cells (r ∷ fr) [] h = absurd h
      cols-cells (nothing ∷ fr) (a ∷ types) h = (h.0, cols-cells fr types h.1)
      cols-cells (none_counted ∷ fr) (a ∷ types) h = (h.0, cols-cells fr types h.1)
      cols-cells (column n k ∷ fr) (a ∷ types) h = (lift n k a h.0, cols-cells fr types h.1)

      fold-cells : (p : ℕ) (row : Scope) (j : ℕ) (ls : List Leaf) (folds : Folded kinds row ls) → ((i : ℕ) (u : SqlType) → At (arg_types kinds row ls folds) i u → K0 p (j + i) u) → Cells K N J (v.fold_terms p j ls) (agg_types kinds row ls folds)
      fold-cells p row j [] folds get = refl
      fold-cells p row j (w.sub f kind x ∷ ls) folds get = fold-cells p row j ls folds get
      fold-cells p row j (w.fold f distinct x ∷ ls) folds get =
          let e : j + zero ≡ j = omega arith in (
            (folds.0.0, (lift p j folds.0.0 (subst (λ z. K0 p z folds.0.0) e (get zero folds.0.0 refl)), folds-to K N J f folds.0.0 folds.0.1.0 folds.0.1.1.1)),
            fold-cells p row (suc j) ls folds.1 (λ i u at. let g : j + suc i ≡ suc j + i = omega arith in subst (λ z. K0 p z u) g (get (suc i) u at)),
          )
      fold-cells p row j (w.count ∷ ls) folds get = (refl, fold-cells p row j ls folds get)

      groups-of : (from : Froms) (by : Test) (places : List ℕ) (ls : List Leaf) (os : List OwnedQuant) → Ins os b.quants → v.One os (λ p. Below p.over (of_rows from by places ls) m × (b.parts.head ≡ v.groups_list places ls p.id))
          → (row : List SqlType) → FromsAre kinds scopes from row → IsTyped kinds None (open_scope row ∷ scopes) by → (found : ArePlaces (open_scope row) places) (folds : Folded kinds (open_scope row) ls)
          → Cells K N J b.parts.head (key_types (open_scope row) places found ++ agg_types kinds (open_scope row) ls folds) × Kids os
      groups-of from by places ls [] i h row f g found folds = absurd h
      groups-of from by places ls (p ∷ r ∷ os) i h row f g found folds = absurd h
      groups-of from by places ls (p ∷ []) i h row f g found folds =
          let keys = key_types (open_scope row) places found in
          let args = arg_types kinds (open_scope row) ls folds in
          let over = are p.over (of_rows from by places ls) m scopes (v.padded Integer (keys ++ args)) e h.1.0 round (row, (f, g, (found, (folds, refl)))) in
          let len = keys-length (open_scope row) places found in (
            subst (λ (z : List Term). Cells K N J z (keys ++ agg_types kinds (open_scope row) ls folds)) (sym h.1.1)
                (cells-append K N J (v.columns_of p.id 1 (length places)) (v.fold_terms p.id (suc (length places)) ls) keys (agg_types kinds (open_scope row) ls folds)
                (cols-cells (refs p.id 1 (length places)) keys
                (subst (λ z. Cols K0 (refs p.id 1 z) keys) len
                (refs-cols K0 p.id 0 keys (λ j a at. let x : j ≡ j + 0 = omega arith in own-column p (v.padded Integer (keys ++ args)) i.0 h.0 over (j + 0) a (subst (λ z. At (v.padded Integer (keys ++ args)) z a) x (at-padded (keys ++ args) j a (at-left keys args j a at)))))))
                (fold-cells p.id (open_scope row) (suc (length places)) ls folds
                (λ j a at. let x : suc (length keys + j) ≡ suc (length places) + j = ap (λ z. suc (z + j)) len ∙ (let y : suc (length places + j) ≡ suc (length places) + j = omega arith in y) in
                subst (λ z. K0 p.id z a) x (own-column p (v.padded Integer (keys ++ args)) i.0 h.0 over (length keys + j) a (at-padded (keys ++ args) (length keys + j) a (at-right keys args j a at)))))),
            (kid p (of_rows from by places ls) (v.padded Integer (keys ++ args)) h.0 h.1.0 (row, (f, g, (found, (folds, refl)))), tt),
          )

      groups-are : (from : Froms) (by : Test) (places : List ℕ) (ls : List Leaf) (types : List SqlType) → v.ShowsGroups sources Below from by places ls m b → GroupsAre scopes from by places ls types → BoxIs types
      groups-are from by places ls types h g =
          let r = groups-of from by places ls b.quants (ins-all b.quants) h.quants g.0 g.1.0 g.1.1 g.1.2.0 g.1.2.1.0 in
          subst BoxIs (sym g.1.2.1.1) (subst (LocalBy E m b (key_types (open_scope g.0) places g.1.2.0 ++ agg_types kinds (open_scope g.0) ls g.1.2.1.0)) (sym h.kind) (r.0, h.conds), r.1)

      -- the columns of aggregates in the box over the groups
      fold-held : (u : ℕ) (row : Scope) (j : ℕ) (ls : List Leaf) → Folded kinds row ls → ((folds : Folded kinds row ls) (i : ℕ) (a : SqlType) → At (agg_types kinds row ls folds) i a → K0 u (j + i) a) → CellsHeld (Some row) ls (v.fold_refs u j ls)
      fold-held u row j [] folds get = tt
      fold-held u row j (w.sub f kind x ∷ ls) folds get = fold-held u row j ls folds get
      fold-held u row j (w.fold f distinct x ∷ ls) folds get = (
        (λ other e c a is to. let g : j + zero ≡ j = omega arith in
            subst (λ z. K0 u z a) g (get ((c, (a, (subst (λ (z : Scope). IsOf kinds None (z ∷ []) x c) (sym (ap (or_row row) e)) is, to))), folds.1) zero a refl)),
        fold-held u row (suc j) ls folds.1 (λ others i a at. let g : j + suc i ≡ suc j + i = omega arith in subst (λ z. K0 u z a) g (get (folds.0, others) (suc i) a at)),
      )
      fold-held u row j (w.count ∷ ls) folds get = (
        (λ other e. let g : j + zero ≡ j = omega arith in subst (λ z. K0 u z Integer) g (get folds zero Integer refl)),
        fold-held u row (suc j) ls folds (λ others i a at. let g : j + suc i ≡ suc j + i = omega arith in subst (λ z. K0 u z a) g (get others (suc i) a at)),
      )

      key-is : (u j : ℕ) (row : Scope) (places : List ℕ) (found : ArePlaces row places) (i : ℕ) (a : SqlType) → typed.is_among i places ≡ true → get_or row i None ≡ Some a
          → ((k : ℕ) (c : SqlType) → At (key_types row places found) k c → K0 u (suc (k + j)) c) → RefIs K0 (v.key_ref u (suc j) places i) a
      key-is u j row [] found i a h g get = absurd (cc h)
      key-is u j row (p ∷ places) found i a h g get =
          by_case (nat_eq i p) refl
          (λ x. key-is u (suc j) row places found.1.1 i a (ap (λ z. z || typed.is_among i places) (sym x) ∙ h) g (λ k c at. let e : suc k + j ≡ k + suc j = omega arith in subst (λ z. K0 u (suc z) c) e (get (suc k) c at)))
        where
          by_case : (c : Bool) → nat_eq i p ≡ c → (nat_eq i p ≡ false → RefIs K0 (v.key_ref u (suc (suc j)) places i) a) → RefIs K0 (cond c (column u (suc j)) (v.key_ref u (suc (suc j)) places i)) a
          by_case true x rest =
              let same : found.0 ≡ a = same-some found.0 a (sym found.1.0 ∙ ap (λ z. get_or row z None) (sym (eqb-true i p x)) ∙ g) in
              let e : zero + j ≡ j = omega arith in
              subst (λ z. K0 u (suc z) a) e (subst (λ z. K0 u (suc (zero + j)) z) same (get zero found.0 refl))
          by_case false x rest = rest x

      keyed-get : (places : List ℕ) (i : ℕ) (row : List SqlType) (p : ℕ) (a : SqlType) → get_or (keyed places i row) p None ≡ Some a → (typed.is_among (p + i) places ≡ true) × (get_or (open_scope row) p None ≡ Some a)
      keyed-get places i [] p a h = absurd (cc h)
      keyed-get places i (x ∷ row) zero a h = by_case (typed.is_among i places) refl h
        where
          by_case : (c : Bool) → typed.is_among i places ≡ c → cond c (Some x) None ≡ Some a → (typed.is_among (zero + i) places ≡ true) × (Some x ≡ Some a)
          by_case true g e = let z : zero + i ≡ i = omega arith in (ap (λ y. typed.is_among y places) z ∙ g, e)
          by_case false g e = absurd (cc e)
      keyed-get places i (x ∷ row) (suc p) a h =
          let r = keyed-get places (i + 1) row p a h in
          let z : suc p + i ≡ p + (i + 1) = omega arith in
          (ap (λ y. typed.is_among y places) z ∙ r.0, r.1)

      key_frame-get : (u : ℕ) (places : List ℕ) (i n p : ℕ) → p < n → get_or (v.key_frame u places i n) p nothing ≡ v.key_ref u 1 places (p + i)
      key_frame-get u places i zero p h = absurd (omega arith)
      key_frame-get u places i (suc n) zero h = let z : i ≡ zero + i = omega arith in ap (v.key_ref u 1 places) z
      key_frame-get u places i (suc n) (suc p) h = let z : p + (i + 1) ≡ suc p + i = omega arith in key_frame-get u places (i + 1) n p (omega arith) ∙ ap (v.key_ref u 1 places) z

      in-range : (row : List SqlType) (p : ℕ) (a : SqlType) → get_or (open_scope row) p None ≡ Some a → p < length row
      in-range [] p a h = absurd (cc h)
      in-range (x ∷ row) zero a h = omega arith
      in-range (x ∷ row) (suc p) a h = let r = in-range row p a h in omega arith

      upper-of : b.parts.kind ≡ Select → (list : Values) (from : Froms) (by : Test) (places : List ℕ) (n : ℕ) (having : Test) (types : List SqlType) (os : List OwnedQuant) → Ins os b.quants → v.Upper sources Below list from by places n having m b os → froms_width sources from ≡ n
          → (row : List SqlType) → FromsAre kinds scopes from row → IsTyped kinds None (open_scope row ∷ scopes) by → (found : ArePlaces (open_scope row) places)
          → typed.AreOf kinds (Some (open_scope row)) (keyed places 0 row ∷ scopes) list types → IsTyped kinds (Some (open_scope row)) (keyed places 0 row ∷ scopes) having
          → Heads K N J b.parts.head types × FitAll K N J b.parts.conds.items × Kids os
      upper-of sel list from by places n having types [] i h c row f g found are_list is_having = absurd h
      upper-of sel list from by places n having types (u ∷ os) i h c row f g found are_list is_having =
          let open_row = open_scope row in
          let fr = v.key_frame u.id places 0 n in
          let ls = v.upper_leaves fr list having in
          let scope = keyed places 0 row in
          let keys = key_types open_row places found in
          let any : Frame → List Scope → Type 0 = λ _ _. Unit {0} in
          let folds = folded kinds open_row any ls
          (leaves-append kinds any (Some open_row) (list_leaves fr list) (test_leaves fr having) (values-leaves kinds any (Some open_row) fr (scope ∷ scopes) tt list types are_list).are
          (test-leaves kinds any (Some open_row) fr (scope ∷ scopes) tt having is_having).are) in
          let over : (z : Folded kinds open_row ls) → Over D u.over (keys ++ agg_types kinds open_row ls z)
          = λ z. are u.over (of_groups from by places ls) m scopes (keys ++ agg_types kinds open_row ls z) e h.groups round (row, (f, g, (found, (z, refl)))) in
          let len = keys-length open_row places found in
          let key : (j : ℕ) (a : SqlType) → At keys j a → K0 u.id (suc (j + 0)) a
          = λ j a at. let x : j ≡ j + 0 = omega arith in own-column u (keys ++ agg_types kinds open_row ls folds) i.0 h.kind (over folds) (j + 0) a (subst (λ z. At (keys ++ agg_types kinds open_row ls folds) z a) x (at-left keys (agg_types kinds open_row ls folds) j a at)) in
          let aggs : (z : Folded kinds open_row ls) (j : ℕ) (a : SqlType) → At (agg_types kinds open_row ls z) j a → K0 u.id (suc (length places) + j) a
          = λ z j a at. let x : suc (length keys + j) ≡ suc (length places) + j = ap (λ y. suc (y + j)) len ∙ (let y : suc (length places + j) ≡ suc (length places) + j = omega arith in y) in
          subst (λ y. K0 u.id y a) x (own-column u (keys ++ agg_types kinds open_row ls z) i.0 h.kind (over z) (length keys + j) a (at-right keys (agg_types kinds open_row ls z) j a at)) in
          let wide = froms-length kinds sources counted scopes from row f ∙ c in
          let see : MapIs K0 (fr ∷ m) (scope ∷ scopes)
          = map-more K0 fr m scope scopes
          (λ p a x. let r = keyed-get places 0 row p a x in let z : p ≡ p + 0 = omega arith in
          subst (λ y. RefIs K0 y a) (sym (key_frame-get u.id places 0 n p (subst (λ y. p < y) wide (in-range row p a r.1))))
          (key-is u.id 0 open_row places found (p + 0) a r.0 (ap (λ y. get_or open_row y None) (sym z) ∙ r.1) key)) outside in
          let keys_owned : (k : ℕ) → fresh_in k fr ≡ false → Bound b.quants m k = λ k x. inl (keys-owned u.id places 0 n b.quants (among is_F u b.quants i.0 (ap is_F h.kind)) k x) in
          let leaves = leaves-append kinds View (Some open_row) (list_leaves fr list) (test_leaves fr having) (values-leaves kinds View (Some open_row) fr (scope ∷ scopes) (see, keys_owned) list types are_list).are
          (test-leaves kinds View (Some open_row) fr (scope ∷ scopes) (see, keys_owned) having is_having).are in
          let s = v.upper_slots u.id (suc (length places)) ls os in
          let held = subs-held (Some open_row) ls os (v.fold_refs u.id (suc (length places)) ls) h.subs i.1 leaves (fold-held u.id open_row (suc (length places)) ls folds aggs) in
          let a = held-append kinds K0 K lift N J m (Some open_row) (list_leaves fr list) (test_leaves fr having) s held in
          let end = after (list_leaves fr list) s in (
            subst (λ (z : List Term). Heads K N J z types) (sym h.head) (terms-are kinds K0 K lift N J sources told-here fr m (Some open_row) (scope ∷ scopes) see s list types a.0 are_list),
            subst (FitAll K N J) (sym h.conds) (split-fit (l.cond sources fr m end having) (cond-is kinds K0 K lift N J sources told-here fr m (Some open_row) (scope ∷ scopes) see end having a.1 is_having)),
            (kid u (of_groups from by places ls) (keys ++ agg_types kinds open_row ls folds) h.kind h.groups (row, (f, g, (found, (folds, refl)))), subs-kids sel (Some open_row) ls os h.subs leaves),
          )

      -- ---- set operations and outer joins

      pair-of : (x y : Query) (types : List SqlType) (os : List OwnedQuant) → Ins os b.quants → v.Two os (λ p r. Below p.over (of_query x) m × Below r.over (of_query y) m) → IsOfTypes kinds scopes x types → IsOfTypes kinds scopes y types
          → (map sources.typed (v.columns_of (v.first_id os) 1 (length types)) ≡ types) × Arms E os types × Kids os
      pair-of x y types [] i h f g = absurd h
      pair-of x y types (p ∷ []) i h f g = absurd h
      pair-of x y types (p ∷ r ∷ o ∷ os) i h f g = absurd h
      pair-of x y types (p ∷ r ∷ []) i h f g =
          let left = are p.over (of_query x) m scopes types e h.2.0 round f in
          let right = are r.over (of_query y) m scopes types e h.2.1 round g in (
            columns-told K0 (λ n k a z. told-here (t.col n k) a (lift n k a z)) (refs p.id 1 (length types)) types (own-cols p types (length types) i.0 h.0 left refl) (all-refs p.id 1 (length types)),
            (more D E p.over types (ups D) left, (more D E r.over types (ups D) right, tt)),
            (kid p (of_query x) types h.0 h.2.0 f, (kid r (of_query y) types h.1 h.2.1 g, tt)),
          )

      pair-is : (form : forms.SetOperator) (n : ℕ) (x y : Query) (types : List SqlType) → v.ShowsPair sources Below form n x y m b → IsOfTypes kinds scopes x types → IsOfTypes kinds scopes y types → length types ≡ n → BoxIs types
      pair-is form n x y types h f g len =
          let p = pair-of x y types b.quants (ins-all b.quants) h.quants f g in
          (subst (LocalBy E m b types) (sym h.kind) (ap (λ z. map sources.typed (v.columns_of (v.first_id b.quants) 1 z)) (sym len) ∙ p.0, h.bare, p.1), p.2)

      query-is : (x : Query) (types : List SqlType) → v.ShowsQuery sources Below x m b → IsOfTypes kinds scopes x types → BoxIs types
      query-is (q.block distinct list from by) types h g = block-is distinct list from by types h g
      query-is (q.grouped distinct list from by places n having) types h g =
          let r = upper-of h.kind list from by (v.key_places places) n having types b.quants (ins-all b.quants) h.upper h.columns g.0 g.1.0 g.1.1 g.1.2 g.1.3 g.1.4 in
          (subst (LocalBy E m b types) (sym h.kind) (r.0, r.1), r.2)
      query-is (q.combine x op all n y) types h g = pair-is (v.form_of op all) n x y types h g.0 g.1 g.3
      query-is (q.intersect x all n y) types h g = pair-is (v.common_form all) n x y types h g.0 g.1 g.3

      outer-of : (x y : From) (n : ℕ) (p : Test) (a c : List SqlType) (os : List OwnedQuant) → Ins os b.quants → v.Two os (λ l r. v.ShowsSides sources Below x y n p m b l r) → FromIs kinds scopes x a → FromIs kinds scopes y c
          → IsTyped kinds None (open_scope (a ++ c) ∷ scopes) p → length c ≡ n → Heads K N J b.parts.head (a ++ c) × FitAll K N J b.parts.conds.items × Kids os
      outer-of x y n p a c [] i h f g z len = absurd h
      outer-of x y n p a c (j ∷ []) i h f g z len = absurd h
      outer-of x y n p a c (j ∷ r ∷ o ∷ os) i h f g z len = absurd h
      outer-of x y n p a c (j ∷ r ∷ []) i h f g z len =
          let fr = refs j.id 1 (from_width sources x) ++ refs r.id 1 n in
          let cols = cols-append K0 (refs j.id 1 (from_width sources x)) (refs r.id 1 n) a c
          (own-cols j a (from_width sources x) i.0 h.0 (are j.over (of_operand x) m scopes a e h.2.left round f) (from-length kinds sources counted scopes x a f))
          (own-cols r c n i.1.0 h.1 (are r.over (of_operand y) m scopes c e h.2.right round g) len) in (
            subst (λ (k : List Term). Heads K N J k (a ++ c)) (sym h.2.head) (frame-heads fr (a ++ c) cols),
            subst (FitAll K N J) (sym h.2.conds) (on-fit fr (a ++ c) v.no_slots p cols (subst (λ (k : List Leaf). H None k v.no_slots) (sym h.2.on) tt) z),
            (kid j (of_operand x) a h.0 h.2.left f, (kid r (of_operand y) c h.1 h.2.right g, tt)),
          )

      outer-is : (x y : From) (n : ℕ) (p : Test) (types : List SqlType) → v.ShowsOuter sources Below x y n p m b → FromIs kinds scopes (q.left_joined x y n p) types → BoxIs types
      outer-is x y n p types h f =
          let r = outer-of x y n p f.0 f.1.0 b.quants (ins-all b.quants) h.quants f.1.1.0 f.1.1.1 f.1.1.3 f.1.1.4 in
          (subst (LocalBy E m b types) (sym h.kind) (subst (λ (z : List SqlType). Heads K N J b.parts.head z) (sym f.1.1.2) r.0, r.1), r.2)

    -- a box is as its thing is, and so is what its quantifiers range over
    abbrev pub Whole : ℕ → Map → List SqlType → Type 0
    Whole e m types = LocalIs e m b types × Each Below b m b.quants

    base-is : (name : List ℕ) (e : ℕ) (m : Map) → v.ShowsBase sources Below name b → (sources.stored name).types ≡ kinds name → Whole e m (kinds name)
    base-is name e m h g = (subst (LocalBy e m b (kinds name)) (sym h.kind) (sym g, h.bare), subst (Each Below b m) (sym h.quants) tt)

    source-is : (name : List ℕ) (view : Option Query) (e : ℕ) → v.ShowsSource sources Below name view b → SourceIs name view → Whole (L (L e)) [] (kinds name)
    source-is name None e h g = base-is name (L (L e)) [] h g
    source-is name (Some body) e h g = query-is [] [] e (λ s p a z. absurd (cc z)) body (kinds name) h g

    pub thing-is : ((name : List ℕ) → SourceIs name (sources.body name)) → (thing : Thing) (m : Map) (scopes : List Scope) (e : ℕ) (types : List SqlType) → v.ShowsBox sources Below thing m b → MapIs (Column e) m scopes → ThingIs scopes thing types
        → Whole (L (L e)) (map_of thing m) types
    thing-is named (of_query x) m scopes e types h round g = query-is m scopes e round x types h g
    thing-is named (of_operand (q.named name)) m scopes e types h round g = subst (Whole (L (L e)) []) (sym g) (source-is name (sources.body name) e h.1 (named name))
    thing-is named (of_operand (q.derived query)) m scopes e types h round g = query-is m scopes e round query types h g
    thing-is named (of_operand (q.crossed x y)) m scopes e types h round g = flat-is m scopes e round (q.crossed x y) types h g
    thing-is named (of_operand (q.joined x y p)) m scopes e types h round g = flat-is m scopes e round (q.joined x y p) types h g
    thing-is named (of_operand (q.left_joined x y n p)) m scopes e types h round g = outer-is m scopes e round x y n p types h g
    thing-is named (of_rows from by places ls) m scopes e types h round g = rows-are m scopes e round from by places ls types h g
    thing-is named (of_groups from by places ls) m scopes e types h round g = groups-are m scopes e round from by places ls types h g
