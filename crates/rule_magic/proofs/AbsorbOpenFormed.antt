-- G4 with an open right operand: the check finds nothing in the graph after it.
use Rattle.std.proofs.Common.{ℕ, ◌==◌, ◌≡◌, ◌&&◌, ◌||◌, cond, not, Bool, true, false, List, [], ◌∷◌, ◌++◌, map, length, Option, None, refl, sym, ap, ap₂, subst, ◌∙◌, inl, inr}
use Rattle.std.specs.List.{list_all, list_any}
use Rattle.std.proofs.lemmas.Bool.{and_from, and_parts, cases_Bool, not-true, or_left}
use Rattle.sql_value.specs.declared.order_key.SqlType.{SqlType}
use Rattle.qgm_core.specs.Boxes.{QueryGraph, has_box, width}
use Rattle.qgm_core.specs.Edits.{range}
use Rattle.qgm_core.specs.Kinds.{is_F, is_magic, is_permit}
use Rattle.list_laws.specs.Lists.{In}
use Rattle.qgm_core.specs.declared.kinds.QuantKind.TheVariants.{F}
use Rattle.qgm_core.specs.declared.kinds.Role.{Role}
use Rattle.qgm_core.specs.declared.kinds.SetOperator.{SetOperator}
use Rattle.qgm_core.specs.declared.node.Node.{Node}
use Rattle.qgm_core.specs.declared.owned.OwnedQuant.{OwnedQuant}
use Rattle.qgm_core.proofs.KindTests.{f-is}
use Rattle.qgm_core.proofs.Reaching.{in-has}
use Rattle.qgm_wellformed.specs.Shapes.{is_scalar, is_scalar_in}
use Rattle.qgm_wellformed.specs.Types.{all_agree, is_known}
use Rattle.qgm_wellformed.specs.Types as types
use Rattle.qgm_wellformed.specs.WellFormed.{fault}
use Rattle.qgm_wellformed.proofs.Faults.{finds-none}
use Rattle.qgm_edit_laws.specs.Graph.{Sound}
use Rattle.qgm_edit_laws.specs.Rebuilds.{HasForm}
use Rattle.qgm_edit_laws.specs.Reforms.{types_at}
use Rattle.qgm_edit_laws.proofs.Ranks.{has-in}
use Rattle.qgm_edit_laws.proofs.Rebuilt.{rebuilt-formed}
use Rattle.qgm_edit_laws.proofs.TypedKept.{found-under}
use Rattle.qgm_meaning.specs.Scope.{loose, put_node}
use Rattle.qgm_meaning.specs.Tags.{columns_from}
use Rattle.qgm_props.specs.Inferred.{Facts}
use Rattle.rule_magic.specs.AbsorbSetOperation.{SetAt, absorbed_set, renamed_set}
use Rattle.rule_magic.specs.Boxes.{pair_box, set_box}
use Rattle.rule_magic.specs.Places.{MayAbsorb}
use Rattle.rule_magic.specs.Region.{RetypesBelow, is_below}
use Rattle.rule_magic.proofs.AbsorbFacts as fed
use Rattle.rule_magic.proofs.AbsorbOpenSet as after
use Rattle.rule_magic.proofs.AbsorbSetFormed as made
use Rattle.rule_magic.proofs.AbsorbSetFormed.{all-agree-behind}
use Rattle.rule_magic.proofs.AbsorbShared.{IsRoleOver}
use Rattle.rule_magic.proofs.PairFormed.{pair-form}
use Rattle.rule_magic.proofs.RenamedFormed.{region-forms}
use Rattle.rule_magic.proofs.SetFormed.{set-form}
use Rattle.list_laws.proofs.Booleans.{clash}
use Rattle.list_laws.proofs.Membership.{eq-false-sym, eq-itself}

any-map : (f : Node → Node) (t : Node → Bool) → ((n : Node) → t (f n) ≡ t n) → (ns : List Node) → list_any t (map f ns) ≡ list_any t ns
any-map f t h [] = refl
any-map f t h (n ∷ ns) = ap₂ (λ a b. a || b) (h n) (any-map f t h ns)

module _ (g : QueryGraph) (known : Facts) (d : Node) (may : MayAbsorb g.boxes known d) (form : SetOperator) (ts mt : List SqlType) (l r1 : OwnedQuant) (x y : Node) (s u p : ℕ) (lr rr : Role) (up l1 l2 : List Node) (at : SetAt g known d may form ts mt l r1 x y s u p up l1 l2) (opened : loose g.boxes y.id may.a.id ≡ true)
    (fits_left : IsRoleOver g.boxes x.id lr) (fits_right : IsRoleOver g.boxes y.id rr) where
  abbrev m : Node
  m = may.m

  abbrev c : Node
  c = may.c

  abbrev a : OwnedQuant
  a = may.a

  abbrev d' : Node
  d' = set_box d.id form mt may.r.id may.c.id u s

  abbrev s' : Node
  s' = pair_box s rr p may.m.id (width may.m) r1.id y.id (width y)

  abbrev c' : Node
  c' = pair_box may.c.id lr may.a.id may.m.id (width may.m) l.id x.id (width x)

  abbrev base : List Node
  base = (absorbed_set g known d may form mt l r1 x y s u p lr rr up l1 l2).boxes

  abbrev put : Node → Node
  put n = put_node may.a.id (columns_from p 1 (width may.m)) n

  abbrev ren : Node → Node
  ren n = cond (is_below g.boxes r1.over n.id) (put_node may.a.id (columns_from p 1 (width may.m)) n) n

  abbrev hs : List Node
  hs = map (λ (n : Node). cond (is_below g.boxes r1.over n.id) (put_node may.a.id (columns_from p 1 (width may.m)) n) n) (absorbed_set g known d may form mt l r1 x y s u p lr rr up l1 l2).boxes

  abbrev kept : ℕ → Bool
  kept b = not (b == c.id)

  abbrev look : ℕ → ℕ → Bool
  look b q = after.looks_of g.boxes may.c.id r1.over may.a.id p b q

  abbrev T : ℕ → List (Option SqlType)
  T b = cond (b == may.c.id) (types_at g.boxes may.m.id ++ types_at g.boxes x.id) (cond (b == s) (types_at g.boxes may.m.id ++ types_at g.boxes y.id) (types_at g.boxes b))

  w : Sound g.boxes g.root
  w = after.w g known d may form ts mt l r1 x y s u p lr rr up l1 l2 at opened

  v : Sound hs g.root
  v = after.sound-after g known d may form ts mt l r1 x y s u p lr rr up l1 l2 at opened

  looks-after : (b q : ℕ) → has_box hs b ≡ true → loose hs b q ≡ look b q
  looks-after = after.looks-after g known d may form ts mt l r1 x y s u p lr rr up l1 l2 at opened

  T-old : (n : Node) → In n g.boxes → (n.id == c.id) ≡ false → T n.id ≡ types_at g.boxes n.id
  T-old = made.T-old g known d may form ts mt l r1 x y s u p lr rr up l1 l2 at

  T-c : T c.id ≡ types_at g.boxes m.id ++ types_at g.boxes x.id
  T-c = made.T-c g known d may form ts mt l r1 x y s u p lr rr up l1 l2 at

  T-s : T s ≡ types_at g.boxes m.id ++ types_at g.boxes y.id
  T-s = made.T-s g known d may form ts mt l r1 x y s u p lr rr up l1 l2 at

  T-m : T m.id ≡ types_at g.boxes m.id
  T-m = T-old m may.in_m (made.m-not-c g known d may form ts mt l r1 x y s u p lr rr up l1 l2 at)

  T-x : T x.id ≡ types_at g.boxes x.id
  T-x = T-old x at.in_x (made.x-not-c g known d may form ts mt l r1 x y s u p lr rr up l1 l2 at)

  T-y : T y.id ≡ types_at g.boxes y.id
  T-y = T-old y at.in_y (made.y-not-c g known d may form ts mt l r1 x y s u p lr rr up l1 l2 at)

  in-r1 : In r1 c.quants
  in-r1 = after.in-r1 g known d may form ts mt l r1 x y s u p lr rr up l1 l2 at opened

  in-l : In l c.quants
  in-l = after.in-l g known d may form ts mt l r1 x y s u p lr rr up l1 l2 at opened

  rows : (is_F l.kind ≡ true) × (is_F r1.kind ≡ true)
  rows = made.rows-c g known d may form ts mt l r1 x y s u p lr rr up l1 l2 at

  -- ---- boxes that are renamed

  closed-m : (q : ℕ) → loose g.boxes m.id q ≡ false
  closed-m = fed.closed-m g at.once at.formed known at.tells d may

  -- an open box below is under the new select, or was below before
  users : (n : Node) (z : OwnedQuant) → In n hs → In z n.quants → is_below g.boxes r1.over z.over ≡ true → loose g.boxes z.over a.id ≡ true → (o : Node) × ((t : OwnedQuant) × (In o g.boxes × (In t o.quants × ((t.over ≡ z.over) × (t.kind ≡ z.kind)))))
  users n z i j b h = elim (after.each-in g known d may form ts mt l r1 x y s u p lr rr up l1 l2 at opened n i) [
    | inl e ↦ elim (subst (λ (k : Node). In z k.quants) e j) [
      | inl k ↦ absurd (clash (is_below g.boxes r1.over z.over) b (subst (λ (k : OwnedQuant). is_below g.boxes r1.over k.over ≡ false) k (after.not-below-c g known d may form ts mt l r1 x y s u p lr rr up l1 l2 at opened)))
      | inr k ↦ elim k [ inl k ↦ absurd (clash (is_below g.boxes r1.over z.over) b (subst (λ (k : OwnedQuant). is_below g.boxes r1.over k.over ≡ false) k (after.not-below-s g known d may form ts mt l r1 x y s u p lr rr up l1 l2 at opened))) | inr k ↦ elim k [ ] ]
    ]
    | inr e ↦ elim e [
      | inl e ↦ elim (subst (λ (k : Node). In z k.quants) e j) [
        | inl k ↦ absurd (clash (loose g.boxes z.over a.id) h (subst (λ (k : OwnedQuant). loose g.boxes k.over a.id ≡ false) k (closed-m a.id)))
        | inr k ↦ elim k [ inl k ↦ (c, (r1, (may.in_c, (in-r1, (at.over_y ∙ ap (λ (q : OwnedQuant). q.over) k, f-is r1.kind rows.1 ∙ ap (λ (q : OwnedQuant). q.kind) k))))) | inr k ↦ elim k [ ] ]
      ]
      | inr e ↦ elim e [
        | inl e ↦ elim (subst (λ (k : Node). In z k.quants) e j) [
          | inl k ↦ absurd (clash (loose g.boxes z.over a.id) h (subst (λ (k : OwnedQuant). loose g.boxes k.over a.id ≡ false) k (closed-m a.id)))
          | inr k ↦ elim k [
            | inl k ↦ (
                let o : x.id ≡ z.over = ap (λ (q : OwnedQuant). q.over) k in
                absurd (clash (loose g.boxes z.over a.id) h (subst (λ q. loose g.boxes q a.id ≡ false) o (after.x-closed-below g known d may form ts mt l r1 x y s u p lr rr up l1 l2 at opened (subst (λ q. is_below g.boxes r1.over q ≡ true) (sym o) b) a.id))))
            | inr k ↦ elim k [ ]
          ]
        ]
        | inr e ↦ (e.0, (z, (e.1.0, (subst (λ (k : List OwnedQuant). In z k) (ap (λ (k : Node). k.quants) e.1.1.1.1 ∙ after.ren-quants g known d may form ts mt l r1 x y s u p lr rr up l1 l2 at opened e.0) j, (refl, refl)))))
      ]
    ]
  ]

  below-box : (b : ℕ) → is_below g.boxes r1.over b ≡ true → (n : Node) × (In n g.boxes × (n.id ≡ b))
  below-box b t = has-in b g.boxes ((after.region g known d may form ts mt l r1 x y s u p lr rr up l1 l2 at opened).there b t)

  retypes : RetypesBelow g.boxes hs g.root T m r1.over a.id p (width m)
  retypes = record {
    sound = v;
    looks = λ b q t. (
        let n = below-box b t in
        let held : has_box hs b ≡ true = subst (λ k. has_box hs k ≡ true) n.1.1 (in-has (put n.0) hs ((after.below-renamed g known d may form ts mt l r1 x y s u p lr rr up l1 l2 at opened).stand n.0 n.1.0 (subst (λ k. is_below g.boxes r1.over k ≡ true) (sym n.1.1) t))) in
        looks-after b q held ∙ after.look-below g known d may form ts mt l r1 x y s u p lr rr up l1 l2 at opened b q t);
    users = users;
    types = λ b t. (let n = below-box b t in subst (λ k. T k ≡ types_at g.boxes k) n.1.1 (T-old n.0 n.1.0 (after.below-c g known d may form ts mt l r1 x y s u p lr rr up l1 l2 at opened n.0 (subst (λ k. is_below g.boxes r1.over k ≡ true) (sym n.1.1) t))));
    under_a = found-under g.boxes g.root w a.id (record { owner = d; quant = a; box = m; owner_in = may.in_d; quant_in = after.in-a g known d may form ts mt l r1 x y s u p lr rr up l1 l2 at opened; is_q = refl; box_in = may.in_m; is_over = may.over_m });
    under_p = found-under hs g.root v p (record { owner = s'; quant = range p F m.id; box = m; owner_in = after.in-s' g known d may form ts mt l r1 x y s u p lr rr up l1 l2 at opened; quant_in = inl refl; is_q = refl; box_in = after.in-m g known d may form ts mt l r1 x y s u p lr rr up l1 l2 at opened; is_over = refl });
    types_m = T-m;
    wide = refl;
  }

  below-form : (n : Node) → In n g.boxes → is_below g.boxes r1.over n.id ≡ true → loose g.boxes n.id a.id ≡ true → HasForm hs g.root T (put n)
  below-form = region-forms g.boxes hs g.root c r1 a.id p (width m) kept look T m w (made.ty g known d may form ts mt l r1 x y s u p lr rr up l1 l2 at) (made.sh g known d may form ts mt l r1 x y s u p lr rr up l1 l2 at)
      (after.arm g known d may form ts mt l r1 x y s u p lr rr up l1 l2 at opened) (after.below-renamed g known d may form ts mt l r1 x y s u p lr rr up l1 l2 at opened) retypes

  -- ---- boxes that are made

  scalar-same : (b : ℕ) → is_scalar hs b ≡ is_scalar base b
  scalar-same b = any-map ren (λ (n : Node). is_scalar_in n.quants b) (λ n. ap (λ (k : List OwnedQuant). is_scalar_in k b) (after.ren-quants g known d may form ts mt l r1 x y s u p lr rr up l1 l2 at opened n)) base

  known-m : list_all is_known (T m.id) ≡ true
  known-m = ap (list_all is_known) T-m ∙ made.known-m g known d may form ts mt l r1 x y s u p lr rr up l1 l2 at

  agree-arm : (z : OwnedQuant) (n : Node) → In z c.quants → z.over ≡ n.id → all_agree (types_at g.boxes n.id) (types.known ts) ≡ true
  agree-arm = made.agree-arm g known d may form ts mt l r1 x y s u p lr rr up l1 l2 at

  known-arm : (z : OwnedQuant) (n : Node) → In z c.quants → z.over ≡ n.id → list_all is_known (types_at g.boxes n.id) ≡ true
  known-arm z n j e = made.known-of g known d may form ts mt l r1 x y s u p lr rr up l1 l2 at (types_at g.boxes n.id) (types.known ts) (agree-arm z n j e)

  seen-arm : (z : OwnedQuant) (n : Node) → In z c.quants → is_F z.kind ≡ true → z.over ≡ n.id → In n g.boxes → is_permit n.parts.distinct ≡ false
  seen-arm = made.seen-arm g known d may form ts mt l r1 x y s u p lr rr up l1 l2 at

  seen-m : is_permit m.parts.distinct ≡ false
  seen-m = made.seen-m g known d may form ts mt l r1 x y s u p lr rr up l1 l2 at

  long-m : length (T m.id) ≡ width m
  long-m = ap length T-m ∙ made.long-m g known d may form ts mt l r1 x y s u p lr rr up l1 l2 at

  magic-m : is_magic m.parts.role ≡ true
  magic-m = fed.magic-m g at.once at.formed known at.tells d may

  left-form : HasForm hs g.root T c'
  left-form = pair-form hs look c.id a.id l.id lr m x (after.left g known d may form ts mt l r1 x y s u p lr rr up l1 l2 at opened) g.root v T (T-c ∙ ap₂ (λ (v z : List (Option SqlType)). v ++ z) (sym T-m) (sym T-x)) long-m (ap length T-x ∙ made.long-x g known d may form ts mt l r1 x y s u p lr rr up l1 l2 at)
      known-m (ap (list_all is_known) T-x ∙ known-arm l x in-l at.over_x) seen-m (seen-arm l x in-l rows.0 at.over_x at.in_x) (λ h. absurd (made.scalar-c g known d may form ts mt l r1 x y s u p lr rr up l1 l2 at (sym (scalar-same c.id) ∙ h)))
      (elim fits_left [
        | inl e ↦ inl e
        | inr e ↦ (
            let o : loose g.boxes x.id a.id ≡ true = subst (λ q. loose g.boxes x.id q ≡ true) (made.x-alone g known d may form ts mt l r1 x y s u p lr rr up l1 l2 at e.1.0 e.1.1) e.1.1 in
            inr (e.0, eq-false-sym g.root c.id (made.root-not-c g known d may form ts mt l r1 x y s u p lr rr up l1 l2 at), (magic-m, (same o a.id ∙ o, λ q h. made.x-alone g known d may form ts mt l r1 x y s u p lr rr up l1 l2 at q (sym (same o q) ∙ h)))))
      ])
    where
      beside : loose g.boxes x.id a.id ≡ true → is_below g.boxes r1.over x.id ≡ false
      beside h = elim (cases_Bool (is_below g.boxes r1.over x.id)) [ inr f ↦ f | inl t ↦ absurd (clash (loose g.boxes x.id a.id) h (after.x-closed-below g known d may form ts mt l r1 x y s u p lr rr up l1 l2 at opened t a.id)) ]

      same : loose g.boxes x.id a.id ≡ true → (q : ℕ) → loose hs x.id q ≡ loose g.boxes x.id q
      same h q = looks-after x.id q (in-has x hs (after.in-x g known d may form ts mt l r1 x y s u p lr rr up l1 l2 at opened)) ∙ after.look-beside g known d may form ts mt l r1 x y s u p lr rr up l1 l2 at opened x.id q (made.x-not-c g known d may form ts mt l r1 x y s u p lr rr up l1 l2 at) (beside h)

  right-form : HasForm hs g.root T s'
  right-form = subst (λ (z : Node). HasForm hs g.root T z) (after.same-s g known d may form ts mt l r1 x y s u p lr rr up l1 l2 at opened)
      (pair-form hs look s p r1.id rr m (put y) (after.right g known d may form ts mt l r1 x y s u p lr rr up l1 l2 at opened) g.root v T (T-s ∙ ap₂ (λ (v z : List (Option SqlType)). v ++ z) (sym T-m) (sym T-y)) long-m
      (ap length T-y ∙ made.long-y g known d may form ts mt l r1 x y s u p lr rr up l1 l2 at ∙ sym (after.wide-put g known d may form ts mt l r1 x y s u p lr rr up l1 l2 at opened y))
      known-m (ap (list_all is_known) T-y ∙ known-arm r1 y in-r1 at.over_y) seen-m (seen-arm r1 y in-r1 rows.1 at.over_y at.in_y) (λ h. absurd (made.scalar-s g known d may form ts mt l r1 x y s u p lr rr up l1 l2 at (sym (scalar-same s) ∙ h)))
      (elim fits_right [ inl e ↦ inl e | inr e ↦ inr (e.0, s-not-root, (magic-m, (same p ∙ is-p, λ q h. (after.right g known d may form ts mt l r1 x y s u p lr rr up l1 l2 at opened).alone q (sym (same q) ∙ h)))) ]))
    where
      s-not-root : (s == g.root) ≡ false
      s-not-root = let n = has-in g.root g.boxes w.rooted in subst (λ b. (s == b) ≡ false) n.1.1 (made.s-not g known d may form ts mt l r1 x y s u p lr rr up l1 l2 at n.0 n.1.0)

      same : (q : ℕ) → loose hs y.id q ≡ look y.id q
      same q = looks-after y.id q (in-has (put y) hs (after.in-y g known d may form ts mt l r1 x y s u p lr rr up l1 l2 at opened))

      is-p : look y.id p ≡ true
      is-p = after.look-below g known d may form ts mt l r1 x y s u p lr rr up l1 l2 at opened y.id p (after.below-y g known d may form ts mt l r1 x y s u p lr rr up l1 l2 at opened)
          ∙ or_left ((p == p) && loose g.boxes y.id a.id) (not (p == a.id) && loose g.boxes y.id p) (and_from (p == p) (loose g.boxes y.id a.id) (eq-itself p) opened)

  set-form-d : HasForm hs g.root T d'
  set-form-d = set-form hs look d.id may.r.id u form mt c' s' (after.set_is g known d may form ts mt l r1 x y s u p lr rr up l1 l2 at opened) g.root v T (made.T-d g known d may form ts mt l r1 x y s u p lr rr up l1 l2 at)
      (agrees (T c.id) (types_at g.boxes x.id) T-c (agree-arm l x in-l at.over_x)) (agrees (T s) (types_at g.boxes y.id) T-s (agree-arm r1 y in-r1 at.over_y)) (made.some-mt g known d may form ts mt l r1 x y s u p lr rr up l1 l2 at) refl refl
    where
      agrees : (own os : List (Option SqlType)) → own ≡ types_at g.boxes m.id ++ os → all_agree os (types.known ts) ≡ true → all_agree own (types.known mt) ≡ true
      agrees own os e h = ap₂ all_agree e at.typed ∙ all-agree-behind (types_at g.boxes m.id) os (types.known ts) (made.known-m g known d may form ts mt l r1 x y s u p lr rr up l1 l2 at) h

  abbrev fresh : ℕ → Bool
  fresh b = (b == d.id) || ((b == s) || ((b == may.c.id) || (is_below g.boxes r1.over b && loose g.boxes b may.a.id)))

  -- the check finds nothing after it
  pub open-formed : fault (renamed_set g known d may form mt l r1 x y s u p lr rr up l1 l2) ≡ None
  open-formed = rebuilt-formed g (renamed_set g known d may form mt l r1 x y s u p lr rr up l1 l2) kept look fresh T at.once ((finds-none g at.once).1 at.formed) refl (after.rebuilds g known d may form ts mt l r1 x y s u p lr rr up l1 l2 at opened)
      (λ n i k. T-old n i (not-true (n.id == c.id) k))
      (λ n i z f. elim (after.each-in g known d may form ts mt l r1 x y s u p lr rr up l1 l2 at opened n i) [
        | inl e ↦ subst (λ (z : Node). HasForm hs g.root T z) (sym e) set-form-d
        | inr e ↦ elim e [
          | inl e ↦ subst (λ (z : Node). HasForm hs g.root T z) (sym e) right-form
          | inr e ↦ elim e [
            | inl e ↦ subst (λ (z : Node). HasForm hs g.root T z) (sym e) left-form
            | inr e ↦ (
                let o = e.0 in
                let k = and_parts (is_below g.boxes r1.over o.id) (loose g.boxes o.id a.id) (sym (after.old-fresh g known d may form ts mt l r1 x y s u p lr rr up l1 l2 at opened o e.1.0 e.1.1.0 e.1.1.1.0)
                ∙ subst (λ b. fresh b ≡ true) (ap (λ (z : Node). z.id) e.1.1.1.1 ∙ after.ren-id g known d may form ts mt l r1 x y s u p lr rr up l1 l2 at opened o) f) in
                subst (λ (z : Node). HasForm hs g.root T z) (sym (e.1.1.1.1 ∙ after.ren-below g known d may form ts mt l r1 x y s u p lr rr up l1 l2 at opened o k.0)) (below-form o e.1.0 k.0 k.1))
          ]
        ]
      ])
