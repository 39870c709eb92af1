-- A box put under a quantifier, over the box that the quantifier ranged over, keeps a graph sound.
use Rattle.std.proofs.Common.{ℕ, zero, suc, ◌==◌, ◌≡◌, ◌&&◌, ◌||◌, ◌+◌, ◌≤◌, ◌<◌, cond, Bool, true, false, List, [], ◌∷◌, ◌++◌, map, take, Option, Some, refl, sym, ap, ap₂, subst, ◌∙◌, eqb-true, ◌⊎◌, inl, inr, arith}
use Rattle.std.specs.List.{list_any}
use Rattle.std.proofs.lemmas.Bool.{and_parts, cases_Bool, eq-eqb, or_cases, or_right}
use Rattle.qgm_core.specs.declared.node.Node.{Node}
use Rattle.qgm_core.specs.declared.owned.OwnedQuant.{OwnedQuant}
use Rattle.qgm_core.specs.declared.kinds.BoxKind.{BoxKind}
use Rattle.qgm_core.specs.declared.kinds.BoxKind.TheVariants.{Base, Select, Group, SetOp, OuterJoin}
use Rattle.qgm_core.specs.Boxes.{has_box, ids_of, is_box, is_quant, overs_in, overs_of, owns, width}
use Rattle.qgm_core.specs.Edits.{on_quant}
use Rattle.qgm_core.specs.Kinds.{is_F}
use Rattle.list_laws.specs.Lists.{In, change, first, times}
use mathlib.Core.Path.{fun_ext}
use Rattle.row_bag.specs.Bags.{bind}
use Rattle.row_bag.specs.declared.tables.Table.{Table}
use Rattle.qgm_meaning.specs.Meaning.{Family, bag_in, over_each, quant_rows, rows_found, rows_of}
use Rattle.qgm_meaning.specs.Ranks.{SameUnder}
use Rattle.qgm_meaning.specs.Scope.{loose, read_by}
use Rattle.qgm_meaning.specs.Values.{Bag, Environment, bound}
use Rattle.qgm_meaning.proofs.Unfold.{rows-local}
use Rattle.qgm_edit_laws.proofs.Scope.{bound-above, bound-owned, one-owner, only-bag, unfold-bag}
use Rattle.qgm_edit_laws.specs.Adds.{Interposes, as_box, interposed, onto}
use Rattle.qgm_edit_laws.specs.Changes.{Changes}
use Rattle.qgm_edit_laws.specs.Checked.{own_seen}
use Rattle.qgm_edit_laws.specs.Graph.{ArmsBy, BareBy, Sound, binds_row, nodes_in, reads_in}
use Rattle.qgm_edit_laws.specs.Placed.{Below, place}
use Rattle.qgm_edit_laws.specs.Scoped.{Local, Scoped, shows_by}
use Rattle.qgm_edit_laws.proofs.Adds.{added-local, loose-owned, not-s, s-own, seen-owned}
use Rattle.qgm_edit_laws.proofs.Changes.{changed-sound}
use Rattle.qgm_edit_laws.proofs.Edits.{OnceEach, once-each}
use Rattle.qgm_edit_laws.proofs.OneBox.{has-map, ranked}
use Rattle.qgm_edit_laws.proofs.PlacedLists.{any-more, in-more, more-in, more-own, times-more}
use Rattle.qgm_edit_laws.proofs.PlacedOne.{counted, g-cases, g-id, same-ids}
use Rattle.qgm_edit_laws.proofs.Ranks.{has-in, same-box}
use Rattle.qgm_edit_laws.proofs.Scoped.{few-ids, scoped-of}
use Rattle.qgm_core.specs.declared.parts.BoxParts.{BoxParts}
use Rattle.qgm_edit_laws.proofs.Turns.{first-own}
use Rattle.qgm_core.proofs.Reaching.{in-has, overs-held}
use Rattle.list_laws.proofs.Counting.{times-map, times-some}
use Rattle.list_laws.proofs.Membership.{any-from, any-in, eq-false-sym, eq-itself, in-left, in-map, in-right, other}
use Rattle.list_laws.proofs.Booleans.{clash}

-- ---- a list of quantifiers in which the first that passes ranges over another box

abbrev pub over_now : ℕ → OwnedQuant → OwnedQuant
over_now s r = record r { over = s }

abbrev pub turned : ℕ → ℕ → List OwnedQuant → List OwnedQuant
turned q s rs = change (is_quant q) (over_now s) rs

module _ (q s : ℕ) where
  pub turned-any : (p : OwnedQuant → Bool) → ((r : OwnedQuant) → p (over_now s r) ≡ p r) → (rs : List OwnedQuant) → list_any p (turned q s rs) ≡ list_any p rs
  turned-any p same [] = refl
  turned-any p same (r ∷ rs) = elim (r.id == q) as (λ t. list_any p (cond t (over_now s r ∷ rs) (r ∷ turned q s rs)) ≡ list_any p (r ∷ rs)) [
    | true ↦ ap (λ z. z || list_any p rs) (same r)
    | false ↦ ap (λ z. p r || z) (turned-any p same rs)
  ]

  pub turned-ids : (rs : List OwnedQuant) → map (λ (r : OwnedQuant). r.id) (turned q s rs) ≡ map (λ (r : OwnedQuant). r.id) rs
  turned-ids [] = refl
  turned-ids (r ∷ rs) = elim (r.id == q) as (λ t. map (λ (r : OwnedQuant). r.id) (cond t (over_now s r ∷ rs) (r ∷ turned q s rs)) ≡ map (λ (r : OwnedQuant). r.id) (r ∷ rs)) [
    | true ↦ refl
    | false ↦ ap (λ z. r.id ∷ z) (turned-ids rs)
  ]

  -- one of them is as it was, or is the one that turned
  pub turned-in : (rs : List OwnedQuant) (x : OwnedQuant) → In x (turned q s rs) → In x rs ⊎ ((r : OwnedQuant) × (In r rs × ((r.id ≡ q) × (over_now s r ≡ x))))
  turned-in [] x j = elim j [ ]
  turned-in (r ∷ rs) x j = elim (r.id == q) as (λ t. (r.id == q) ≡ t → In x (cond t (over_now s r ∷ rs) (r ∷ turned q s rs)) → In x (r ∷ rs) ⊎ ((y : OwnedQuant) × (In y (r ∷ rs) × ((y.id ≡ q) × (over_now s y ≡ x))))) [
    | true ↦ λ t j. elim j [ inl e ↦ inr (r, (inl refl, (eqb-true r.id q t, e))) | inr k ↦ inl (inr k) ]
    | false ↦ λ t j. elim j [ inl e ↦ inl (inl e) | inr k ↦ elim (turned-in rs x k) [ inl a ↦ inl (inr a) | inr a ↦ inr (a.0, (inr a.1.0, a.1.1)) ] ]
  ] refl j

  -- the same at a split
  pub turned-split : (rs done : List OwnedQuant) (x : OwnedQuant) (rest : List OwnedQuant) → turned q s rs ≡ done ++ x ∷ rest
      → (before : List OwnedQuant) × ((r : OwnedQuant) × ((after : List OwnedQuant) × ((rs ≡ before ++ r ∷ after) × (((p : ℕ) → binds_row p done ≡ binds_row p before) × ((x.kind ≡ r.kind) × ((x ≡ r) ⊎ ((r.id ≡ q) × (x.over ≡ s))))))))
  turned-split [] [] x rest e = absurd (let z : ⊥ = cc in z)
  turned-split [] (d ∷ done) x rest e = absurd (let z : ⊥ = cc in z)
  turned-split (r ∷ rs) [] x rest e = elim (r.id == q) as (λ t. (r.id == q) ≡ t → ◌≡◌ {A = List OwnedQuant} (cond t (over_now s r ∷ rs) (r ∷ turned q s rs)) (x ∷ rest) → (before : List OwnedQuant) × ((y : OwnedQuant) × ((after : List OwnedQuant) × ((r ∷ rs ≡ before ++ y ∷ after) × (((p : ℕ) → binds_row p [] ≡ binds_row p before) × ((x.kind ≡ y.kind) × ((x ≡ y) ⊎ ((y.id ≡ q) × (x.over ≡ s))))))))) [
    | true ↦ λ t e. (let h : over_now s r ≡ x = cc in ([], (r, (rs, (refl, ((λ p. refl), (ap (λ (z : OwnedQuant). z.kind) (sym h), inr (eqb-true r.id q t, ap (λ (z : OwnedQuant). z.over) (sym h)))))))))
    | false ↦ λ t e. (let h : r ≡ x = cc in ([], (r, (rs, (refl, ((λ p. refl), (ap (λ (z : OwnedQuant). z.kind) (sym h), inl (sym h))))))))
  ] refl e
  turned-split (r ∷ rs) (d ∷ done) x rest e = elim (r.id == q) as (λ t. (r.id == q) ≡ t → ◌≡◌ {A = List OwnedQuant} (cond t (over_now s r ∷ rs) (r ∷ turned q s rs)) (d ∷ (done ++ x ∷ rest)) → (before : List OwnedQuant) × ((y : OwnedQuant) × ((after : List OwnedQuant) × ((r ∷ rs ≡ before ++ y ∷ after) × (((p : ℕ) → binds_row p (d ∷ done) ≡ binds_row p before) × ((x.kind ≡ y.kind) × ((x ≡ y) ⊎ ((y.id ≡ q) × (x.over ≡ s))))))))) [
    | true ↦ λ t e. (
        let h : over_now s r ≡ d = cc in let k : rs ≡ done ++ x ∷ rest = cc in
        (r ∷ done, (x, (rest, (ap (λ z. r ∷ z) k, ((λ p. ap (λ (z : OwnedQuant). (is_F z.kind && is_quant p z) || binds_row p done) (sym h)), (refl, inl refl)))))))
    | false ↦ λ t e. (
        let h : r ≡ d = cc in let k : turned q s rs ≡ done ++ x ∷ rest = cc in
        let y = turned-split rs done x rest k in
        (r ∷ y.0, (y.1.0, (y.1.1.0, (ap (λ z. r ∷ z) y.1.1.1.0, ((λ p. ap₂ (λ (z : OwnedQuant) (b : Bool). (is_F z.kind && is_quant p z) || b) (sym h) (y.1.1.1.1.0 p)), y.1.1.1.1.1))))))
  ] refl e

  pub turned-times : (x : ℕ) (rs : List OwnedQuant) (r : OwnedQuant) → first (is_quant q) rs ≡ Some r → times x (map (λ (r : OwnedQuant). r.over) (turned q s rs)) + times x (r.over ∷ []) ≡ times x (map (λ (r : OwnedQuant). r.over) rs) + times x (s ∷ [])
  turned-times x [] r h = absurd (let z : ⊥ = cc in z)
  turned-times x (y ∷ rs) r h = elim (y.id == q) as (λ t. ◌≡◌ {A = Option OwnedQuant} (cond t (Some y) (first (is_quant q) rs)) (Some r) → times x (map (λ (r : OwnedQuant). r.over) (cond t (over_now s y ∷ rs) (y ∷ turned q s rs))) + times x (r.over ∷ []) ≡ times x (map (λ (r : OwnedQuant). r.over) (y ∷ rs)) + times x (s ∷ [])) [
    | true ↦ λ h. (let e : y ≡ r = cc in let a : times x (y.over ∷ []) ≡ times x (r.over ∷ []) = ap (λ (z : OwnedQuant). times x (z.over ∷ [])) e in omega arith)
    | false ↦ λ h. (let a = turned-times x rs r h in omega arith)
  ] h

-- what is given doesn't ask which boxes quantifiers range over
pub turned-each : (i s : ℕ) (rs : List OwnedQuant) (t : Family) (give : Environment → Bag) (e : Environment) → over_each (turned i s rs) t give e ≡ over_each rs t give e
turned-each i s [] t give e = refl
turned-each i s (r ∷ rs) t give e = elim (r.id == i) as (λ b. over_each (cond b (over_now s r ∷ rs) (r ∷ turned i s rs)) t give e ≡ over_each (r ∷ rs) t give e) [
  | true ↦ refl
  | false ↦ ap (λ (h : Environment → Bag). cond (is_F r.kind) (bind (t r.id e) (λ cells. h (bound r.id cells e))) (h e)) (fun_ext (λ e. turned-each i s rs t give e))
]

-- a quantifier that binds no row is read by no box
module _ (bs : List Node) (root : ℕ) (w : Sound bs root) (o : Node) (r : OwnedQuant) (i : In o bs) (j : In r o.quants) (not-F : is_F r.kind ≡ false) where
  own-r : owns r.id o ≡ true
  own-r = any-from (is_quant r.id) r o.quants j (eq-itself r.id)

  pub rowless : (n : Node) → In n bs → binds_row r.id n.quants ≡ true → ⊥
  rowless n l t =
      let x = any-in (λ (q : OwnedQuant). is_F q.kind && is_quant r.id q) n.quants t in
      let y = and_parts (is_F x.0.kind) (is_quant r.id x.0) x.1.1 in
      let same : n ≡ o = one-owner bs root w r.id n o l i (bound-owned r.id n.quants t) own-r in
      let few = few-ids bs o r.id (w.once r.id) i in
      let e1 = first-own r o.quants few j in
      let e2 = first-own x.0 o.quants (subst (λ z. times z (ids_of o) ≤ 1) (sym (eqb-true x.0.id r.id y.1)) few) (subst (λ (z : Node). In x.0 z.quants) same x.1.0) in
      let e3 : Some x.0 ≡ Some r = sym e2 ∙ ap (λ z. first (is_quant z) o.quants) (eqb-true x.0.id r.id y.1) ∙ e1 in
      let e4 : x.0 ≡ r = cc in clash (is_F r.kind) (subst (λ (z : OwnedQuant). is_F z.kind ≡ true) e4 y.0) not-F

  pub rowless-unread : o.parts.kind ≡ Select → (n : Node) → In n bs → read_by n r.id ≡ true → ⊥
  rowless-unread k n l t = elim (or_cases (own_seen n.parts.kind n r.id) (loose bs n.id r.id) ((scoped-of bs root w n l).own r.id t)) [
    | inl a ↦ (let same : n ≡ o = one-owner bs root w r.id n o l i (seen-owned n.parts.kind n r.id a) own-r in
        rowless n l (subst (λ k. own_seen k n r.id ≡ true) (ap (λ (z : Node). z.parts.kind) same ∙ k) a))
    | inr a ↦ (let x = bound-above bs root w n.id r.id a in rowless x.0 x.1.0 x.1.1.0)
  ]

-- what stands before stands above
place-before : (xs : List Node) (o s : Node) (ys : List Node) → OnceEach (xs ++ s ∷ ys) → In o xs → place (xs ++ s ∷ ys) o.id < place (xs ++ s ∷ ys) s.id
place-before [] o s ys u i = elim i [ ]
place-before (x ∷ xs) o s ys u i =
    let f : (x.id == s.id) ≡ false = other (has_box (xs ++ s ∷ ys)) x.id s.id u.0 (in-has s (xs ++ s ∷ ys) (more-own xs s ys)) in
    let b : place (x ∷ (xs ++ s ∷ ys)) s.id ≡ suc (place (xs ++ s ∷ ys) s.id) = ap (λ (t : Bool). cond t 0 (suc (place (xs ++ s ∷ ys) s.id))) f in
    elim i [
      | inl e ↦ (let a : place (x ∷ (xs ++ s ∷ ys)) o.id ≡ 0 = ap (λ (t : Bool). cond t 0 (suc (place (xs ++ s ∷ ys) o.id))) (subst (λ (z : Node). (x.id == z.id) ≡ true) e (eq-itself x.id)) in omega arith)
      | inr j ↦ (
          let g : (x.id == o.id) ≡ false = other (has_box (xs ++ s ∷ ys)) x.id o.id u.0 (in-has o (xs ++ s ∷ ys) (in-left o xs (s ∷ ys) j)) in
          let a : place (x ∷ (xs ++ s ∷ ys)) o.id ≡ suc (place (xs ++ s ∷ ys) o.id) = ap (λ (t : Bool). cond t 0 (suc (place (xs ++ s ∷ ys) o.id))) g in
          let h = place-before xs o s ys u.1 j in omega arith)
    ]

module _ (xs ys : List Node) (root : ℕ) (w : Sound (xs ++ ys) root) (s o c : Node) (r : OwnedQuant) (m : Interposes xs ys root s o c r) where
  abbrev bs : List Node
  bs = xs ++ ys

  abbrev hs : List Node
  hs = xs ++ s ∷ ys

  abbrev f : Node → Node
  f = on_quant r.id (over_now s.id)

  abbrev g : Node → Node
  g = onto o.id r.id s.id

  abbrev look : ℕ → ℕ → Bool
  look = as_box bs s.id c.id

  l : Local hs root
  l = added-local xs ys root w s m.adds

  o-bs : In o bs
  o-bs = in-left o xs ys m.in_o

  c-bs : In c bs
  c-bs = in-right c xs ys m.in_c

  o-hs : In o hs
  o-hs = more-in xs s ys o o-bs

  -- a box that was there isn't s
  pub apart : (n : Node) → In n bs → (n.id == s.id) ≡ false
  apart n i = elim (cases_Bool (n.id == s.id)) [ inr f ↦ f | inl t ↦ absurd (clash (has_box bs s.id) (subst (λ z. has_box bs z ≡ true) (eqb-true n.id s.id t) (in-has n bs i)) m.adds.fresh) ]

  pub over-apart : (n : Node) (p : OwnedQuant) → In n bs → In p n.quants → (p.over == s.id) ≡ false
  over-apart n p i j = let x = has-in p.over bs (overs-held bs n p w.ordered i j) in subst (λ z. (z == s.id) ≡ false) x.1.1 (apart x.0 x.1.0)

  pub as-was : (b q : ℕ) → (b == s.id) ≡ false → look b q ≡ loose bs b q
  as-was b q n = ap (λ t. cond t (loose bs c.id q) (loose bs b q)) n

  pub as-c : (q : ℕ) → look s.id q ≡ loose bs c.id q
  as-c q = ap (λ t. cond t (loose bs c.id q) (loose bs s.id q)) (eq-itself s.id)

  pub id : (y : Node) → (g y).id ≡ y.id
  id = g-id hs l.ordered o o-hs f (λ y. refl)

  pub cases : (y : Node) → In y hs → ((y ≡ o) × (g y ≡ f o)) ⊎ (((y.id == o.id) ≡ false) × (g y ≡ y))
  cases = g-cases hs l.ordered o o-hs f (λ y. refl)

  owner : owns r.id o ≡ true
  owner = any-from (is_quant r.id) r o.quants m.owned (eq-itself r.id)

  only-r : (p : OwnedQuant) → In p o.quants → p.id ≡ r.id → p.over ≡ c.id
  only-r p i e =
      let few = few-ids bs o r.id (w.once r.id) o-bs in
      let a = first-own r o.quants few m.owned in
      let b = first-own p o.quants (subst (λ z. times z (ids_of o) ≤ 1) (sym e) few) i in
      let same : Some p ≡ Some r = sym b ∙ ap (λ z. first (is_quant z) o.quants) e ∙ a in
      let x : p ≡ r = cc in ap (λ (z : OwnedQuant). z.over) x ∙ m.over_c

  -- the quantifiers of a box after
  pub quants-after : (y : Node) (p : OwnedQuant) → In y hs → In p (g y).quants → In p y.quants ⊎ ((y ≡ o) × ((p.over ≡ s.id) × (p.id ≡ r.id)))
  quants-after y p i j = elim (cases y i) [
    | inl e ↦ elim (turned-in r.id s.id o.quants p (subst (λ (z : Node). In p z.quants) e.1 j)) [
      | inl a ↦ inl (subst (λ (z : Node). In p z.quants) (sym e.0) a)
      | inr a ↦ inr (e.0, (ap (λ (z : OwnedQuant). z.over) (sym a.1.1.1), ap (λ (z : OwnedQuant). z.id) (sym a.1.1.1) ∙ a.1.1.0))
    ]
    | inr e ↦ inl (subst (λ (z : Node). In p z.quants) e.1 j)
  ]

  any-after : (p : OwnedQuant → Bool) → ((x : OwnedQuant) → p (over_now s.id x) ≡ p x) → (y : Node) → list_any p (g y).quants ≡ list_any p y.quants
  any-after p same y = elim (y.id == o.id) as (λ t. list_any p (cond t (f y) y).quants ≡ list_any p y.quants) [ true ↦ turned-any r.id s.id p same y.quants | false ↦ refl ]

  wide : (y : Node) → width (g y) ≡ width y
  wide y = elim (y.id == o.id) as (λ t. width (cond t (f y) y) ≡ width y) [ true ↦ refl | false ↦ refl ]

  pub parts : (y : Node) → (g y).parts ≡ y.parts
  parts y = elim (y.id == o.id) as (λ t. (cond t (f y) y).parts ≡ y.parts) [ true ↦ refl | false ↦ refl ]

  pub s-hs : In s hs
  s-hs = more-own xs s ys

  times-after : (b : ℕ) → times b (overs_in (map g hs)) + times b (c.id ∷ []) ≡ (times b (overs_in bs) + times b (overs_of s)) + times b (s.id ∷ [])
  times-after b =
      let a = counted hs l.ordered o o-hs f (λ y. refl) overs_of b in
      let d = times-more overs_of b xs s ys in
      let e = turned-times r.id s.id b o.quants r (first-own r o.quants (few-ids bs o r.id (w.once r.id) o-bs) m.owned) in
      let k : times b (r.over ∷ []) ≡ times b (c.id ∷ []) = ap (λ z. times b (z ∷ [])) m.over_c in omega arith

  one : (x : ℕ) (b : ℕ) → (x == b) ≡ true → times b (x ∷ []) ≡ 1
  one x b t = (let k : ◌≡◌ {A = ℕ} (cond (x == b) 1 0) 1 = ap (λ (b : Bool). cond {A = ℕ} b 1 0) t in omega arith)

  zero-of : (x : ℕ) (b : ℕ) → (x == b) ≡ false → times b (x ∷ []) ≡ 0
  zero-of x b n = (let k : ◌≡◌ {A = ℕ} (cond (x == b) 1 0) 0 = ap (λ (b : Bool). cond {A = ℕ} b 1 0) n in omega arith)

  none-over : (rs : List OwnedQuant) (b : ℕ) → ((p : OwnedQuant) → In p rs → (p.over == b) ≡ false) → times b (map (λ (r : OwnedQuant). r.over) rs) ≡ 0
  none-over [] b h = refl
  none-over (p ∷ rs) b h = let a = none-over rs b (λ x i. h x (inr i)) in let k : ◌≡◌ {A = ℕ} (cond (p.over == b) 1 0) 0 = ap (λ (b : Bool). cond {A = ℕ} b 1 0) (h p (inl refl)) in omega arith

  s-not-root : (s.id == root) ≡ false
  s-not-root = elim (cases_Bool (s.id == root)) [ inr n ↦ n | inl t ↦ absurd (clash (has_box bs root) w.rooted (subst (λ z. has_box bs z ≡ false) (eqb-true s.id root t) m.adds.fresh)) ]

  root-once : times root (overs_in (map g hs)) ≡ 0
  root-once =
      let a = times-after root in let b = w.top in
      let d = none-over s.quants root (λ p i. m.adds.not_root p i) in
      let e = zero-of s.id root s-not-root in omega arith

  changes : Changes hs root g
  changes = record {
    id = id;
    over = λ y p i j. elim (quants-after y p i j) [
      | inl a ↦ ranked hs l.ordered y p i a
      | inr e ↦ subst (λ z. Below hs y.id z) (sym e.1.0) (subst (λ (z : Node). Below hs z.id s.id) (sym e.0) (in-has s hs s-hs, place-before xs o s ys (once-each hs l.ordered) m.in_o))
    ];
    once = λ q. (let a = same-ids hs l.ordered o o-hs f (λ y. refl) (turned-ids r.id s.id o.quants) q in let b = l.once q in omega arith);
    top = root-once;
    fits = λ n i q k t. (
        let u : reads_in q k n ≡ true = subst (λ z. reads_in q k (record n { parts = z }) ≡ true) (parts n) t in
        λ y z p iy j e iz v. elim (quants-after y p iy j) [
          | inl a ↦ (let h = l.fits n i q k u y p z iy a e iz v in (h.0, subst (λ u. k ≤ u) (sym (wide z)) h.1))
          | inr x ↦ (
              let same : z ≡ s = same-box hs z s l.ordered iz s-hs (v ∙ x.1.0) in
              let h = m.fits n i k (subst (λ z. reads_in z k n ≡ true) (sym e ∙ x.1.1) u) in (h.0, subst (λ u. k ≤ u) (sym (wide z)) (subst (λ (z : Node). k ≤ width z) (sym same) h.1)))
        ]);
    own_nodes = λ y i q t. (let h = l.own_nodes y i q (subst (λ z. nodes_in q (record y { parts = z }) ≡ true) (parts y) t) in
        (any-after (is_quant q) (λ x. refl) y ∙ h.0, any-after (λ x. is_F x.kind && is_quant q x) (λ x. refl) y ∙ h.1));
    bare = λ y i. bare-after y.parts.kind y (l.bare y i) (parts y);
    arms = λ y z p i j iz v. subst (λ u. ArmsBy (g y).parts.kind u (width (g y))) (sym (wide z)) (subst (λ u. ArmsBy (g y).parts.kind (width z) u) (sym (wide y)) (subst (λ k. ArmsBy k (width z) (width y)) (sym (ap (λ (p : BoxParts). p.kind) (parts y))) (elim (quants-after y p i j) [
      | inl a ↦ l.arms y z p i a iz v
      | inr x ↦ (
          let same : z ≡ s = same-box hs z s l.ordered iz s-hs (v ∙ x.1.0) in
          subst (λ (u : Node). ArmsBy u.parts.kind (width z) (width u)) (sym x.0) (subst (λ (u : Node). ArmsBy o.parts.kind (width u) (width o)) (sym same) m.arms))
    ])));
  }
    where
      bare-of : (k : BoxKind) (y : Node) (rs : List OwnedQuant) → (y.quants ≡ [] → rs ≡ []) → BareBy k y → BareBy k (record y { quants = rs })
      bare-of (Base t) y rs e b = (e b.0, b.1, b.2)
      bare-of Select y rs e b = tt
      bare-of (Group n) y rs e b = tt
      bare-of (SetOp form v) y rs e b = b
      bare-of OuterJoin y rs e b = tt

      bare-after : (k : BoxKind) (y : Node) → BareBy y.parts.kind y → (g y).parts ≡ y.parts → BareBy (g y).parts.kind (g y)
      bare-after k y b e = elim (y.id == o.id) as (λ t. BareBy (cond t (f y) y).parts.kind (cond t (f y) y)) [
        | true ↦ bare-of y.parts.kind y (turned r.id s.id y.quants) (λ e. ap (turned r.id s.id) e) b
        | false ↦ b
      ]

  scoped-o : Scoped look (f o)
  scoped-o = record {
    under = λ done x rest e q t. (
        let z = turned-split r.id s.id o.quants done x rest e in
        let p = z.1.0 in
        let j : In p o.quants = subst (λ u. In p u) (sym z.1.1.1.0) (in-right p z.0 (p ∷ z.1.1.0) (inl refl)) in
        let old : loose bs p.over q ≡ true = (elim z.1.1.1.1.1.1 [
          | inl same ↦ sym (as-was p.over q (over-apart o p o-bs j)) ∙ subst (λ (u : OwnedQuant). look u.over q ≡ true) same t
          | inr turn ↦ subst (λ u. loose bs u q ≡ true) (sym (only-r p j turn.0)) (sym (as-c q) ∙ subst (λ u. look u q ≡ true) turn.1 t)
        ]) in
        subst (λ u. (shows_by o.parts.kind (turned r.id s.id o.quants) done x q || u) ≡ true) (sym (as-was o.id q (apart o o-bs)))
        (shown o.parts.kind q done x z.0 p z.1.1.0 (z.1.1.1.1.0 q) z.1.1.1.1.1.0 ((scoped-of bs root w o o-bs).under z.0 p z.1.1.0 z.1.1.1.0 q old)));
    own = λ q t. subst (λ u. (own_seen o.parts.kind (f o) q || u) ≡ true) (sym (as-was o.id q (apart o o-bs))) (subst (λ u. (u || loose bs o.id q) ≡ true) (sym (own-after o.parts.kind q)) ((scoped-of bs root w o o-bs).own q t));
  }
    where
      shown : (k : BoxKind) (q : ℕ) (done : List OwnedQuant) (x : OwnedQuant) (before : List OwnedQuant) (p : OwnedQuant) (after : List OwnedQuant) → binds_row q done ≡ binds_row q before → x.kind ≡ p.kind
          → (shows_by k o.quants before p q || loose bs o.id q) ≡ true → (shows_by k (turned r.id s.id o.quants) done x q || loose bs o.id q) ≡ true
      shown (Base t) q done x before p after e k h = h
      shown Select q done x before p after e k h =
          ap₂ (λ (b : Bool) (c : Bool). cond b c (binds_row q (turned r.id s.id o.quants)) || loose bs o.id q) (ap is_F k) e
          ∙ ap (λ c. cond (is_F p.kind) (binds_row q before) c || loose bs o.id q) (turned-any r.id s.id (λ x. is_F x.kind && is_quant q x) (λ x. refl) o.quants) ∙ h
      shown (Group n) q done x before p after e k h = h
      shown (SetOp form v) q done x before p after e k h = h
      shown OuterJoin q done x before p after e k h = h

      taken : (n q : ℕ) (rs : List OwnedQuant) → list_any (is_quant q) (take n (turned r.id s.id rs)) ≡ list_any (is_quant q) (take n rs)
      taken zero q rs = refl
      taken (suc n) q [] = refl
      taken (suc n) q (x ∷ rs) = elim (x.id == r.id) as (λ t. list_any (is_quant q) (take (suc n) (cond t (over_now s.id x ∷ rs) (x ∷ turned r.id s.id rs))) ≡ list_any (is_quant q) (take (suc n) (x ∷ rs))) [
        | true ↦ refl
        | false ↦ ap (λ z. is_quant q x || z) (taken n q rs)
      ]

      own-after : (k : BoxKind) (q : ℕ) → own_seen k (f o) q ≡ own_seen k o q
      own-after (Base t) q = refl
      own-after Select q = turned-any r.id s.id (λ x. is_F x.kind && is_quant q x) (λ x. refl) o.quants
      own-after (Group n) q = taken 1 q o.quants
      own-after (SetOp form v) q = refl
      own-after OuterJoin q = taken 2 q o.quants

  scoped-old : (n : Node) → In n bs → Scoped look n
  scoped-old n i = record {
    under = λ done p rest e q t. (
        let j : In p n.quants = subst (λ u. In p u) (sym e) (in-right p done (p ∷ rest) (inl refl)) in
        subst (λ u. (shows_by n.parts.kind n.quants done p q || u) ≡ true) (sym (as-was n.id q (apart n i))) ((scoped-of bs root w n i).under done p rest e q (sym (as-was p.over q (over-apart n p i j)) ∙ t)));
    own = λ q t. subst (λ u. (own_seen n.parts.kind n q || u) ≡ true) (sym (as-was n.id q (apart n i))) ((scoped-of bs root w n i).own q t);
  }

  used : (b q : ℕ) → look b q ≡ true → times b (overs_in (map g hs)) ≡ 1
  used b q t = elim (cases_Bool (b == s.id)) [
    | inl e ↦ (
        let same : b ≡ s.id = eqb-true b s.id e in
        let a = times-after b in
        let d : times b (overs_in bs) ≡ 0 = subst (λ z. times z (overs_in bs) ≡ 0) (sym same) unused in
        let k : times b (overs_of s) ≡ 0 = none-over s.quants b (λ p i. elim (cases_Bool (p.over == b)) [ inr n ↦ n | inl y ↦ absurd (s-own xs ys root w s m.adds p i (eqb-true p.over b y ∙ same)) ]) in
        let n = zero-of c.id b (subst (λ z. (c.id == z) ≡ false) (sym same) (apart c c-bs)) in
        let u = one s.id b (eq-eqb s.id b (sym same)) in omega arith)
    | inr e ↦ (
        let l : loose bs b q ≡ true = sym (as-was b q e) ∙ t in
        let a = times-after b in let d = w.used b q l in let n = zero-of s.id b (eq-false-sym b s.id e) in
        elim (cases_Bool (c.id == b)) [
          | inl y ↦ (let u = one c.id b y in let k : times b (overs_of s) ≡ 1 = subst (λ z. times z (overs_of s) ≡ 1) (eqb-true c.id b y) m.once_c in omega arith)
          | inr y ↦ (
              let u = zero-of c.id b y in
              let k : times b (overs_of s) ≡ 0 = none-over s.quants b (λ p i. elim (cases_Bool (p.over == b)) [
                | inr n ↦ n
                | inl h ↦ (let v = eqb-true p.over b h in absurd (elim (m.others p i) [ inl x ↦ clash (c.id == b) (eq-eqb c.id b (sym x ∙ v)) y | inr x ↦ clash (loose bs b q) l (subst (λ z. loose bs z q ≡ false) v (x q)) ]))
              ]) in omega arith)
        ])
  ]
    where
      unused : times s.id (overs_in bs) ≡ 0
      unused = elim (cases_0 (times s.id (overs_in bs))) [
        | inl e ↦ e
        | inr h ↦ (let x = times-some overs_of s.id bs h in let y = times-map (λ (p : OwnedQuant). p.over) s.id x.0.quants x.1.1 in absurd (not-s xs ys root w s m.adds x.0 y.0 x.1.0 y.1.0 y.1.1))
      ]
        where
          cases_0 : (k : ℕ) → (k ≡ 0) ⊎ (1 ≤ k)
          cases_0 zero = inl refl
          cases_0 (suc k) = inr (omega arith)

  -- each box is scoped by what was looked up, in s what was in c
  pub scoped-all : (y : Node) → In y hs → Scoped look (g y)
  scoped-all y i = elim (cases y i) [
    | inl e ↦ subst (λ z. Scoped look z) (sym e.1) scoped-o
    | inr e ↦ subst (λ z. Scoped look z) (sym e.1) (elim (in-more xs s ys y i) [ inl x ↦ subst (λ z. Scoped look z) x m.scoped | inr j ↦ scoped-old y j ])
  ]

  pub interposed-sound : Sound (interposed xs ys s o.id r.id) root
  interposed-sound = changed-sound hs root g l.ordered l.rooted changes look
      scoped-all
      (λ y i q t. (
      let h : owns q y ≡ true = sym (any-after (is_quant q) (λ x. refl) y) ∙ t in
      elim (in-more xs s ys y i) [
        | inl x ↦ subst (λ (z : Node). look z.id q ≡ false) x (as-c q ∙ elim (cases_Bool (loose bs c.id q)) [
          | inr n ↦ n
          | inl u ↦ absurd (clash (list_any (owns q) bs) (loose-owned bs root w c.id q u) (m.adds.new q (subst (λ z. owns q z ≡ true) (sym x) h)))
        ])
        | inr j ↦ as-was y.id q (apart y j) ∙ w.settled y j q h
      ]))
      used

  -- ---- bags: where s gives these rows of what it ranges over, and o the same rows as before
  module _ (tables : List Table) (give : Environment → Bag) where
    abbrev f0 : Family
    f0 = bag_in tables bs

    -- what s gives, and what the others gave
    abbrev pub fam : Family
    fam b env = cond (b == s.id) (give env) (bag_in tables (xs ++ ys) b env)

    pub fam-was : (b : ℕ) → (b == s.id) ≡ false → fam b ≡ f0 b
    fam-was b n = fun_ext (λ e. ap (λ (t : Bool). cond t (give e) (f0 b e)) n)

    pub fam-s : (e : Environment) → fam s.id e ≡ give e
    fam-s e = ap (λ (t : Bool). cond t (give e) (f0 s.id e)) (eq-itself s.id)

    same-below : (n : Node) → In n bs → (rs : List OwnedQuant) → ((p : OwnedQuant) → In p rs → In p n.quants) → SameUnder rs fam f0
    same-below n i [] sub = tt
    same-below n i (p ∷ rs) sub = (fam-was p.over (over-apart n p i (sub p (inl refl))), same-below n i rs (λ q j. sub q (inr j)))

    pub interposed-bag : ((e : Environment) → rows_of tables s fam e ≡ give e) → ((e : Environment) → rows_of tables (on_quant r.id (over_now s.id) o) fam e ≡ rows_of tables o (bag_in tables (xs ++ ys)) e)
        → (b : ℕ) → has_box (xs ++ ys) b ≡ true → (e : Environment) → bag_in tables (interposed xs ys s o.id r.id) b e ≡ bag_in tables (xs ++ ys) b e
    interposed-bag hs' ho b held e =
        let x = has-in b bs held in
        let n : (b == s.id) ≡ false = subst (λ z. (z == s.id) ≡ false) x.1.1 (apart x.0 x.1.0) in
        only-bag tables fam (map g hs) interposed-sound.ordered back b (has-map g id hs b ∙ any-more (is_box b) xs s ys ∙ or_right (s.id == b) (has_box bs b) held) e
        ∙ ap (λ (k : Environment → Bag). k e) (fam-was b n)
      where
        old : (y : Node) → In y bs → (e : Environment) → rows_of tables y f0 e ≡ fam y.id e
        old y i e = sym (unfold-bag tables bs y w.ordered i e) ∙ ap (λ (k : Environment → Bag). k e) (sym (fam-was y.id (apart y i)))

        at-box : (y : Node) → In y hs → (e : Environment) → rows_of tables (g y) fam e ≡ fam y.id e
        at-box y i e = elim (cases y i) [
          | inl c ↦ ap (λ z. rows_of tables z fam e) c.1 ∙ ho e ∙ subst (λ (z : Node). rows_of tables o f0 e ≡ fam z.id e) (sym c.0) (old o o-bs e)
          | inr c ↦ ap (λ z. rows_of tables z fam e) c.1 ∙ elim (in-more xs s ys y i) [
            | inl k ↦ subst (λ (z : Node). rows_of tables z fam e ≡ fam z.id e) k (hs' e ∙ sym (fam-s e))
            | inr k ↦ ap (λ (h : Environment → Bag). h e) (rows-local tables y fam f0 (same-below y k y.quants (λ p j. j))) ∙ old y k e
          ]
        ]

        back : (n : Node) → In n (map g hs) → (e : Environment) → rows_of tables n fam e ≡ fam n.id e
        back n i e = let y = in-map g n hs i in subst (λ (z : Node). rows_of tables z fam e ≡ fam z.id e) y.1.1 (at-box y.0 y.1.0 e ∙ ap (λ b. fam b e) (sym (id y.0)))

    -- ---- what o's quantifiers give
    found : first (is_quant r.id) o.quants ≡ Some r
    found = first-own r o.quants (few-ids bs o r.id (w.once r.id) o-bs) m.owned

    pub turned-before : (e : Environment) → quant_rows o (bag_in tables (xs ++ ys)) r.id e ≡ bag_in tables (xs ++ ys) c.id e
    turned-before e = ap (λ z. rows_found z f0 e) found ∙ ap (λ z. f0 z e) m.over_c

    first-turned : (rs : List OwnedQuant) → first (is_quant r.id) rs ≡ Some r → (e : Environment) → rows_found (first (is_quant r.id) (turned r.id s.id rs)) fam e ≡ give e
    first-turned [] h e = absurd (let z : ⊥ = cc in z)
    first-turned (x ∷ rs) h e = elim (cases_Bool (x.id == r.id)) [
      | inl t ↦ ap (λ (z : Bool). rows_found (first (is_quant r.id) (cond z (over_now s.id x ∷ rs) (x ∷ turned r.id s.id rs))) fam e) t ∙ ap (λ (z : Bool). rows_found (cond z (Some (over_now s.id x)) (first (is_quant r.id) rs)) fam e) t ∙ fam-s e
      | inr n ↦ ap (λ (z : Bool). rows_found (first (is_quant r.id) (cond z (over_now s.id x ∷ rs) (x ∷ turned r.id s.id rs))) fam e) n ∙ ap (λ (z : Bool). rows_found (cond z (Some x) (first (is_quant r.id) (turned r.id s.id rs))) fam e) n
          ∙ first-turned rs (sym (ap (λ (z : Bool). cond z (Some x) (first (is_quant r.id) rs)) n) ∙ h) e
    ]

    pub turned-after : (e : Environment) → quant_rows (on_quant r.id (over_now s.id) o) fam r.id e ≡ give e
    turned-after e = first-turned o.quants found e

    untouched : (q : ℕ) (rs : List OwnedQuant) → ((y : OwnedQuant) → In y rs → In y o.quants) → rows_found (first (is_quant q) rs) fam ≡ rows_found (first (is_quant q) rs) f0
    untouched q [] sub = refl
    untouched q (y ∷ rs) sub = elim (y.id == q) as (λ z. rows_found (cond z (Some y) (first (is_quant q) rs)) fam ≡ rows_found (cond z (Some y) (first (is_quant q) rs)) f0) [
      | true ↦ fam-was y.over (over-apart o y o-bs (sub y (inl refl)))
      | false ↦ untouched q rs (λ y j. sub y (inr j))
    ]

    others-found : (q : ℕ) → (q == r.id) ≡ false → (rs : List OwnedQuant) → ((x : OwnedQuant) → In x rs → In x o.quants) → rows_found (first (is_quant q) (turned r.id s.id rs)) fam ≡ rows_found (first (is_quant q) rs) f0
    others-found q n [] sub = refl
    others-found q n (x ∷ rs) sub = elim (cases_Bool (x.id == r.id)) [
      | inl t ↦ (
          let k : (x.id == q) ≡ false = (elim (cases_Bool (x.id == q)) [ inr h ↦ h | inl h ↦ absurd (clash (q == r.id) (eq-eqb q r.id (sym (eqb-true x.id q h) ∙ eqb-true x.id r.id t)) n) ]) in
          ap (λ (z : Bool). rows_found (first (is_quant q) (cond z (over_now s.id x ∷ rs) (x ∷ turned r.id s.id rs))) fam) t
          ∙ ap (λ (z : Bool). rows_found (cond z (Some (over_now s.id x)) (first (is_quant q) rs)) fam) k ∙ untouched q rs (λ y j. sub y (inr j))
          ∙ sym (ap (λ (z : Bool). rows_found (cond z (Some x) (first (is_quant q) rs)) f0) k))
      | inr t ↦ ap (λ (z : Bool). rows_found (first (is_quant q) (cond z (over_now s.id x ∷ rs) (x ∷ turned r.id s.id rs))) fam) t ∙ (elim (x.id == q) as (λ z. rows_found (cond z (Some x) (first (is_quant q) (turned r.id s.id rs))) fam ≡ rows_found (cond z (Some x) (first (is_quant q) rs)) f0) [
        | true ↦ fam-was x.over (over-apart o x o-bs (sub x (inl refl)))
        | false ↦ others-found q n rs (λ y j. sub y (inr j))
      ])
    ]

    pub others-after : (q : ℕ) → (q == r.id) ≡ false → quant_rows (on_quant r.id (over_now s.id) o) fam q ≡ quant_rows o (bag_in tables (xs ++ ys)) q
    others-after q n = others-found q n o.quants (λ x j. j)

-- a box is of its kind where a quantifier moves onto another box
pub onto-kind : (o q s : ℕ) (n : Node) → (onto o q s n).parts.kind ≡ n.parts.kind
onto-kind o q s n = elim (n.id == o) as (λ t. (cond t (on_quant q (over_now s) n) n).parts.kind ≡ n.parts.kind) [ true ↦ refl | false ↦ refl ]
