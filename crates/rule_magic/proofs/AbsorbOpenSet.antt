-- G4 with an open right operand: names of the magic box's quantifier become those of a new one below it; the graph after it is sound, and what its boxes look up is told.
use Rattle.std.proofs.Common.{ℕ, ◌==◌, ◌≡◌, ◌≤◌, ◌<◌, ◌+◌, ◌&&◌, ◌||◌, cond, not, Bool, true, false, List, [], ◌∷◌, ◌++◌, map, refl, sym, ap, ap₂, subst, ◌∙◌, eqb-true, ◌⊎◌, inl, inr, arith}
use Rattle.std.specs.List.{flat_map, list_any}
use Rattle.std.proofs.lemmas.Bool.{and_from, and_parts, cases_Bool, eq-eqb, not-true, or_cases, or_left, or_right}
use Rattle.sql_value.specs.declared.order_key.SqlType.{SqlType}
use Rattle.qgm_core.specs.Boxes.{Ordered, QueryGraph, has_box, ids_in, is_quant, overs_in, overs_of, ids_of, owns, width}
use Rattle.qgm_core.specs.Edits.{range}
use Rattle.qgm_core.specs.Free.{named_by}
use Rattle.qgm_core.specs.Kinds.{is_magic, width_by}
use Rattle.list_laws.specs.Lists.{In, holds, times}
use Rattle.qgm_core.specs.declared.kinds.QuantKind.TheVariants.{F}
use Rattle.qgm_core.specs.declared.kinds.Role.{Role}
use Rattle.qgm_core.specs.declared.kinds.SetOperator.{SetOperator}
use Rattle.qgm_core.specs.declared.node.Node.{Node}
use Rattle.qgm_core.specs.declared.owned.OwnedQuant.{OwnedQuant}
use Rattle.qgm_meaning.specs.Scope.{loose, put_node}
use Rattle.qgm_meaning.specs.Tags.{columns_from}
use Rattle.qgm_props.specs.Inferred.{Facts}
use Rattle.qgm_terms.specs.Substitution.{substituted}
use Rattle.qgm_edit_laws.specs.Graph.{Sound}
use Rattle.qgm_edit_laws.specs.Placed.{place}
use Rattle.qgm_edit_laws.specs.Rebuilds.{IsOwned, MadeIn, Rebuilds, StaysIn}
use Rattle.qgm_edit_laws.proofs.Edits.{length-map}
use Rattle.qgm_edit_laws.proofs.FreeLoose.{free-looks}
use Rattle.qgm_edit_laws.proofs.OneBox.{ordered-map, ranked}
use Rattle.qgm_edit_laws.proofs.Ranks.{has-in, place-under, same-box}
use Rattle.qgm_edit_laws.proofs.Rebuilt.{looks-exact, one-quant, rebuilt}
use Rattle.qgm_edit_laws.proofs.Scope.{loose-held, one-owner}
use Rattle.rule_magic.specs.AbsorbSetOperation.{SetAt, SetOpenSound, absorbed_set}
use Rattle.rule_magic.specs.Boxes.{pair_box, set_box}
use Rattle.rule_magic.specs.Places.{MayAbsorb}
use Rattle.rule_magic.specs.Region.{IsArm, IsRegion, RenamesBelow, is_below}
use Rattle.rule_magic.proofs.AbsorbFacts as fed
use Rattle.rule_magic.proofs.AbsorbSelectFormed as one
use Rattle.rule_magic.proofs.AbsorbSetFormed as made
use Rattle.rule_magic.proofs.PairFormed.{IsPair, pair-made, width-pair}
use Rattle.rule_magic.proofs.Region.{arm-has-region, region-renames, region-stays}
use Rattle.rule_magic.proofs.RenamedMade.{renamed-is-made}
use Rattle.rule_magic.proofs.SetFormed.{IsSet, set-made}
use Rattle.qgm_core.proofs.Reaching.{in-has}
use Rattle.list_laws.proofs.Booleans.{clash}
use Rattle.list_laws.proofs.Membership.{any-from, any-in, eq-false-sym, eq-itself}

in-map : (f : Node → Node) (n : Node) (ns : List Node) → In n ns → In (f n) (map f ns)
in-map f n [] i = elim i [ ]
in-map f n (m ∷ ns) i = elim i [ inl e ↦ inl (ap f e) | inr j ↦ inr (in-map f n ns j) ]

from-map : (f : Node → Node) (n : Node) (ns : List Node) → In n (map f ns) → (v : Node) × (In v ns × (n ≡ f v))
from-map f n [] i = elim i [ ]
from-map f n (m ∷ ns) i = elim i [ inl e ↦ (m, (inl refl, sym e)) | inr j ↦ (let v = from-map f n ns j in (v.0, (inr v.1.0, v.1.1))) ]

pub same-flat : (G : Node → List ℕ) (f : Node → Node) → ((n : Node) → G (f n) ≡ G n) → (ns : List Node) → flat_map G (map f ns) ≡ flat_map G ns
same-flat G f h [] = refl
same-flat G f h (n ∷ ns) = ap₂ (λ (a b : List ℕ). a ++ b) (h n) (same-flat G f h ns)

pub and-none : (v : Bool) → (v && false) ≡ false
and-none true = refl
and-none false = refl

-- what the boxes of a graph look up where names of a become those of p below y, and c nothing
abbrev pub looks_of : List Node → ℕ → ℕ → ℕ → ℕ → ℕ → ℕ → Bool
looks_of bs c y a p b q = not (b == c) && cond (is_below bs y b) (((q == p) && loose bs b a) || (not (q == a) && loose bs b q)) (loose bs b q)

module _ (g : QueryGraph) (known : Facts) (d : Node) (may : MayAbsorb g.boxes known d) (form : SetOperator) (ts mt : List SqlType) (l r1 : OwnedQuant) (x y : Node) (s u p : ℕ) (lr rr : Role) (up l1 l2 : List Node) (at : SetAt g known d may form ts mt l r1 x y s u p up l1 l2) (opened : loose g.boxes y.id may.a.id ≡ true) where
  abbrev bs : List Node
  bs = g.boxes

  abbrev m : Node
  m = may.m

  abbrev c : Node
  c = may.c

  abbrev a : OwnedQuant
  a = may.a

  abbrev r : OwnedQuant
  r = may.r

  abbrev d' : Node
  d' = set_box d.id form mt may.r.id may.c.id u s

  abbrev s' : Node
  s' = pair_box s rr p may.m.id (width may.m) r1.id y.id (width y)

  abbrev c' : Node
  c' = pair_box may.c.id lr may.a.id may.m.id (width may.m) l.id x.id (width x)

  abbrev base : List Node
  base = (absorbed_set g known d may form mt l r1 x y s u p lr rr up l1 l2).boxes

  abbrev below : ℕ → Bool
  below b = is_below g.boxes r1.over b

  abbrev put : Node → Node
  put n = put_node may.a.id (columns_from p 1 (width may.m)) n

  abbrev ren : Node → Node
  ren n = cond (is_below g.boxes r1.over n.id) (put_node may.a.id (columns_from p 1 (width may.m)) n) n

  abbrev hs : List Node
  hs = map (λ (n : Node). cond (is_below g.boxes r1.over n.id) (put_node may.a.id (columns_from p 1 (width may.m)) n) n) (absorbed_set g known d may form mt l r1 x y s u p lr rr up l1 l2).boxes

  abbrev kept : ℕ → Bool
  kept b = not (b == c.id)

  abbrev look : ℕ → ℕ → Bool
  look b q = looks_of g.boxes may.c.id r1.over may.a.id p b q

  pub w : Sound g.boxes g.root
  w = made.w g known d may form ts mt l r1 x y s u p lr rr up l1 l2 at

  pub in-r1 : In r1 c.quants
  in-r1 = made.in-r1 g known d may form ts mt l r1 x y s u p lr rr up l1 l2 at

  pub in-l : In l c.quants
  in-l = made.in-l g known d may form ts mt l r1 x y s u p lr rr up l1 l2 at

  pub in-a : In a d.quants
  in-a = made.in-a g known d may form ts mt l r1 x y s u p lr rr up l1 l2 at

  alone-y : (q : ℕ) → loose g.boxes y.id q ≡ true → q ≡ a.id
  alone-y = made.arm-alone g known d may form ts mt l r1 x y s u p lr rr up l1 l2 at r1 y in-r1 at.over_y

  alone-x : (q : ℕ) → loose g.boxes x.id q ≡ true → q ≡ a.id
  alone-x = made.x-alone g known d may form ts mt l r1 x y s u p lr rr up l1 l2 at

  pub arm : IsArm g.boxes c r1 a.id
  arm = record {
    within = may.in_c;
    owned = in-r1;
    opened = subst (λ b. loose g.boxes b a.id ≡ true) (sym at.over_y) opened;
    alone = λ q h. alone-y q (subst (λ b. loose g.boxes b q ≡ true) at.over_y h);
    owner = d;
    in_owner = may.in_d;
    owns_a = any-from (is_quant a.id) a d.quants in-a (eq-itself a.id);
  }

  pub region : IsRegion g.boxes r1 a.id
  region = arm-has-region g.boxes g.root c r1 a.id w arm

  -- ---- what is below

  c-higher : place g.boxes c.id < place g.boxes r1.over
  c-higher = place-under g.boxes c r1 w.ordered may.in_c in-r1

  pub not-below-c : is_below g.boxes r1.over c.id ≡ false
  not-below-c = region.above c.id c-higher

  pub not-below-d : is_below g.boxes r1.over d.id ≡ false
  not-below-d = region.above d.id (
      let k : place g.boxes d.id < place g.boxes c.id = subst (λ i. place g.boxes d.id < place g.boxes i) (sym may.over_c) (place-under g.boxes d r w.ordered may.in_d (made.in-r g known d may form ts mt l r1 x y s u p lr rr up l1 l2 at)) in
      let h = c-higher in omega (arith, k, h))

  pub below-c : (n : Node) → is_below g.boxes r1.over n.id ≡ true → (n.id == c.id) ≡ false
  below-c n t = elim (cases_Bool (n.id == c.id)) [ inr f ↦ f | inl e ↦ absurd (clash (below n.id) t (subst (λ b. below b ≡ false) (sym (eqb-true n.id c.id e)) not-below-c)) ]

  below-d : (n : Node) → is_below g.boxes r1.over n.id ≡ true → (n.id == d.id) ≡ false
  below-d n t = elim (cases_Bool (n.id == d.id)) [ inr f ↦ f | inl e ↦ absurd (clash (below n.id) t (subst (λ b. below b ≡ false) (sym (eqb-true n.id d.id e)) not-below-d)) ]

  pub not-below-s : is_below g.boxes r1.over s ≡ false
  not-below-s = elim (cases_Bool (below s)) [ inr f ↦ f | inl t ↦ absurd (clash (has_box g.boxes s) (region.there s t) at.s_new) ]

  -- ---- renamed boxes

  pub ren-below : (n : Node) → is_below g.boxes r1.over n.id ≡ true → ren n ≡ put n
  ren-below n t = ap (λ v. cond v (put n) n) t

  pub ren-beside : (n : Node) → is_below g.boxes r1.over n.id ≡ false → ren n ≡ n
  ren-beside n f = ap (λ v. cond v (put n) n) f

  pub ren-by : {X : Type 0} (f : Node → X) → ((n : Node) → f (put_node may.a.id (columns_from p 1 (width may.m)) n) ≡ f n) → (n : Node) → f (cond (is_below g.boxes r1.over n.id) (put_node may.a.id (columns_from p 1 (width may.m)) n) n) ≡ f n
  ren-by f h n = elim (cases_Bool (below n.id)) [ inl t ↦ ap f (ren-below n t) ∙ h n | inr t ↦ ap f (ren-beside n t) ]

  pub ren-id : (n : Node) → (ren n).id ≡ n.id
  ren-id = ren-by (λ (n : Node). n.id) (λ n. refl)

  pub ren-quants : (n : Node) → (ren n).quants ≡ n.quants
  ren-quants = ren-by (λ (n : Node). n.quants) (λ n. refl)

  pub wide-put : (n : Node) → width (put_node may.a.id (columns_from p 1 (width may.m)) n) ≡ width n
  wide-put n = ap (width_by n.parts.kind) (length-map (substituted may.a.id (columns_from p 1 (width may.m))) n.parts.head)

  ren-width : (n : Node) → width (ren n) ≡ width n
  ren-width = ren-by width wide-put

  pub in-ren : (n : Node) → In n base → In (ren n) hs
  in-ren n i = in-map ren n base i

  beside-in : (n : Node) → is_below g.boxes r1.over n.id ≡ false → In n base → In n hs
  beside-in n f i = subst (λ (z : Node). In z hs) (ren-beside n f) (in-ren n i)

  pub in-d' : In d' hs
  in-d' = beside-in d' not-below-d (made.in-d' g known d may form ts mt l r1 x y s u p lr rr up l1 l2 at)

  pub in-s' : In s' hs
  in-s' = beside-in s' not-below-s (made.in-s' g known d may form ts mt l r1 x y s u p lr rr up l1 l2 at)

  pub in-c' : In c' hs
  in-c' = beside-in c' not-below-c (made.in-c' g known d may form ts mt l r1 x y s u p lr rr up l1 l2 at)

  pub ordered : Ordered hs
  ordered = ordered-map ren ren-id base o (λ n z i j. ranked base o n z i (subst (λ (k : List OwnedQuant). In z k) (ren-quants n) j))
    where
      o : Ordered base
      o = made.ordered g known d may form ts mt l r1 x y s u p lr rr up l1 l2 at

  once-after : (i : ℕ) → times i (ids_in hs) ≤ 1
  once-after i = subst (λ z. times i z ≤ 1) (sym (same-flat ids_of ren (λ n. ap (map (λ (q : OwnedQuant). q.id)) (ren-quants n)) base)) (made.once-after g known d may form ts mt l r1 x y s u p lr rr up l1 l2 at i)

  overs-after : (b : ℕ) → (s == b) ≡ false → (m.id == b) ≡ false → times b (overs_in hs) ≡ times b (overs_in g.boxes)
  overs-after b f e = ap (times b) (same-flat overs_of ren (λ n. ap (map (λ (q : OwnedQuant). q.over)) (ren-quants n)) base) ∙ made.overs-after g known d may form ts mt l r1 x y s u p lr rr up l1 l2 at b f e

  -- ---- what is looked up

  pub look-beside : (b q : ℕ) → (b == c.id) ≡ false → is_below g.boxes r1.over b ≡ false → look b q ≡ loose g.boxes b q
  look-beside b q f e = ap₂ (λ v z. not v && cond z (((q == p) && loose g.boxes b a.id) || (not (q == a.id) && loose g.boxes b q)) (loose g.boxes b q)) f e

  pub look-below : (b q : ℕ) → is_below g.boxes r1.over b ≡ true → look b q ≡ (((q == p) && loose g.boxes b a.id) || (not (q == a.id) && loose g.boxes b q))
  look-below b q t = ap₂ (λ v z. not v && cond z (((q == p) && loose g.boxes b a.id) || (not (q == a.id) && loose g.boxes b q)) (loose g.boxes b q)) not-c t
    where
      not-c : (b == c.id) ≡ false
      not-c = elim (cases_Bool (b == c.id)) [ inr f ↦ f | inl e ↦ absurd (clash (below b) t (subst (λ i. below i ≡ false) (sym (eqb-true b c.id e)) not-below-c)) ]

  pub look-closed : (b : ℕ) → ((q : ℕ) → loose g.boxes b q ≡ false) → (q : ℕ) → look b q ≡ false
  look-closed b f q =
      ap₂ (λ v z. not (b == c.id) && cond (below b) (((q == p) && v) || (not (q == a.id) && z)) z) (f a.id) (f q)
      ∙ ap₂ (λ v z. not (b == c.id) && cond (below b) (v || z) false) (and-none (q == p)) (and-none (not (q == a.id)))
      ∙ elim (cases_Bool (below b)) [ inl t ↦ ap (λ v. not (b == c.id) && cond v false false) t ∙ and-none (not (b == c.id)) | inr t ↦ ap (λ v. not (b == c.id) && cond v false false) t ∙ and-none (not (b == c.id)) ]

  pub looks-c : (q : ℕ) → look c.id q ≡ false
  looks-c q = ap (λ v. not v && cond (below c.id) (((q == p) && loose g.boxes c.id a.id) || (not (q == a.id) && loose g.boxes c.id q)) (loose g.boxes c.id q)) (eq-itself c.id)

  pub looks-d : (q : ℕ) → look d.id q ≡ false
  looks-d = look-closed d.id (one.closed-d g at.once at.formed known at.tells d may)

  looks-m : (q : ℕ) → look m.id q ≡ false
  looks-m = look-closed m.id (fed.closed-m g at.once at.formed known at.tells d may)

  pub looks-s : (q : ℕ) → look s q ≡ false
  looks-s = look-closed s (λ q. elim (cases_Bool (loose g.boxes s q)) [ inr f ↦ f | inl h ↦ absurd (clash (has_box g.boxes s) (loose-held g.boxes s q h) at.s_new) ])

  -- ---- boxes below

  p-new : (z : OwnedQuant) (n : Node) → In n g.boxes → In z n.quants → (z.id == p) ≡ false
  p-new = made.new-id g known d may form ts mt l r1 x y s u p lr rr up l1 l2 at p at.p_new

  one-box : (n : Node) → In n hs → n.id ≡ m.id → width n ≡ width m
  one-box n i e =
      let v = from-map ren n base i in
      let k : v.0.id ≡ m.id = sym (ren-id v.0) ∙ ap (λ (z : Node). z.id) (sym v.1.1) ∙ e in
      ap width v.1.1 ∙ ren-width v.0 ∙ ap width (same-box base v.0 m (made.ordered g known d may form ts mt l r1 x y s u p lr rr up l1 l2 at) v.1.0 (made.in-m g known d may form ts mt l r1 x y s u p lr rr up l1 l2 at) k)

  pub below-renamed : RenamesBelow g.boxes hs kept look r1.over a.id p (width m)
  below-renamed = record {
    ordered = ordered;
    once = once-after;
    new = elim (cases_Bool (list_any (owns p) g.boxes)) [
      | inr f ↦ f
      | inl h ↦ absurd (let n = any-in (owns p) g.boxes h in let z = any-in (is_quant p) n.0.quants n.1.1 in clash (z.0.id == p) z.1.1 (p-new z.0 n.0 n.1.0 z.1.0))
    ];
    stand = λ n i t. subst (λ (z : Node). In z hs) (ren-below n t) (in-ren n (made.to-hs g known d may form ts mt l r1 x y s u p lr rr up l1 l2 at n i (below-d n t) (below-c n t)));
    looks = λ b q t. look-below b q t;
    keeps = λ b t. elim (cases_Bool (b == c.id)) [ inr f ↦ ap not f | inl e ↦ absurd (clash (below b) t (subst (λ i. below i ≡ false) (sym (eqb-true b c.id e)) not-below-c)) ];
    places = λ n k i h. w.fits n i a.id k h d a m may.in_d in-a refl may.in_m may.over_m;
    fits_p = λ k lo hi n z v i j e iv ev. (
        let same : z ≡ range p F m.id = one-quant hs once-after z (range p F m.id) (n, (i, j)) (s', (in-s', inl refl)) e in
        (lo, subst (λ b. k ≤ b) (sym (one-box v iv (ev ∙ ap (λ (q : OwnedQuant). q.over) same))) hi));
  }

  below-stays : (n : Node) → In n g.boxes → is_below g.boxes r1.over n.id ≡ true → loose g.boxes n.id a.id ≡ false → (put n ≡ n) × StaysIn g.boxes hs kept look n
  below-stays = region-stays g.boxes hs g.root c r1 a.id p (width m) kept look w arm below-renamed

  below-made : (n : Node) → In n g.boxes → is_below g.boxes r1.over n.id ≡ true → loose g.boxes n.id a.id ≡ true → MadeIn hs look (put n)
  below-made n i t h = renamed-is-made g.boxes hs g.root look a.id p (width m) n w (region-renames g.boxes hs g.root c r1 a.id p (width m) kept look w arm below-renamed n i t h) (wide-put n)

  ren-still : (n : Node) → In n g.boxes → (is_below g.boxes r1.over n.id ≡ true → loose g.boxes n.id a.id ≡ false) → ren n ≡ n
  ren-still n i f = elim (cases_Bool (below n.id)) [ inl t ↦ ren-below n t ∙ (below-stays n i t (f t)).0 | inr t ↦ ren-beside n t ]

  pub x-closed-below : is_below g.boxes r1.over x.id ≡ true → (q : ℕ) → loose g.boxes x.id q ≡ false
  x-closed-below t q = elim (region.beside c l may.in_c not-below-c in-l (subst (λ b. below b ≡ true) (sym at.over_x) t)) [
    | inl e ↦ absurd (clash (l.id == r1.id) (eq-eqb l.id r1.id (ap (λ (z : OwnedQuant). z.id) e)) (made.l-not-r1 g known d may form ts mt l r1 x y s u p lr rr up l1 l2 at))
    | inr f ↦ subst (λ b. loose g.boxes b q ≡ false) at.over_x (f q)
  ]

  pub in-m : In m hs
  in-m = subst (λ (z : Node). In z hs) (ren-still m may.in_m (λ t. fed.closed-m g at.once at.formed known at.tells d may a.id)) (in-ren m (made.in-m g known d may form ts mt l r1 x y s u p lr rr up l1 l2 at))

  pub in-x : In x hs
  in-x = subst (λ (z : Node). In z hs) (ren-still x at.in_x (λ t. x-closed-below t a.id)) (in-ren x (made.in-x g known d may form ts mt l r1 x y s u p lr rr up l1 l2 at))

  pub below-y : is_below g.boxes r1.over y.id ≡ true
  below-y = subst (λ b. is_below g.boxes r1.over b ≡ true) at.over_y region.top

  -- ---- boxes that stay

  pub beside-closed : (n : Node) (z : OwnedQuant) → In n g.boxes → (n.id == c.id) ≡ false → is_below g.boxes r1.over n.id ≡ false → In z n.quants → is_below g.boxes r1.over z.over ≡ true → (q : ℕ) → loose g.boxes z.over q ≡ false
  beside-closed n z i nc out j t = elim (region.beside n z i out j t) [
    | inr k ↦ k
    | inl e ↦ absurd (clash (n.id == c.id) (eq-eqb n.id c.id (ap (λ (z : Node). z.id) (one-owner g.boxes g.root w r1.id n c i may.in_c (any-from (is_quant r1.id) z n.quants j (eq-eqb z.id r1.id (ap (λ (q : OwnedQuant). q.id) e))) (any-from (is_quant r1.id) r1 c.quants in-r1 (eq-itself r1.id))))) nc)
  ]

  beside-stays : (n : Node) → In n g.boxes → (n.id == d.id) ≡ false → (n.id == c.id) ≡ false → is_below g.boxes r1.over n.id ≡ false → StaysIn g.boxes hs kept look n
  beside-stays n i nd nc out = record {
    within = i;
    number = ap not nc;
    same = λ q. look-beside n.id q nc out;
    over = λ z j. (
        let f = made.elsewhere g known d may form ts mt l r1 x y s u p lr rr up l1 l2 at n z i nd j in
        (ap not f, λ q. elim (cases_Bool (below z.over)) [ inr t ↦ look-beside z.over q f t | inl t ↦ (let k = beside-closed n z i nc out j t in look-closed z.over k q ∙ sym (k q)) ]));
    named = λ z h v. elim (cases_Bool (v.0.id == d.id)) [
      | inl e ↦ (
          let same : v.0 ≡ d = same-box g.boxes v.0 d w.ordered v.1.0 may.in_d (eqb-true v.0.id d.id e) in
          elim (one.of-d g at.once at.formed known at.tells d may z (subst (λ (k : Node). In z k.quants) same v.1.1)) [
            | inl k ↦ (ap not (ap (λ (k : OwnedQuant). k.over == c.id) k ∙ one.a-elsewhere g at.once at.formed known at.tells d may up l1 l2 at.before), (range a.id F m.id, ((c', (in-c', inl refl)), (ap (λ (k : OwnedQuant). k.id) (sym k), may.over_m ∙ ap (λ (k : OwnedQuant). k.over) (sym k)))))
            | inr k ↦ absurd (one.r-unnamed g at.once at.formed known at.tells d may n i nd (subst (λ (k : OwnedQuant). holds k.id (named_by n) ≡ true) k h))
          ])
      | inr f ↦ elim (cases_Bool (v.0.id == c.id)) [
        | inl e ↦ (
            let same : v.0 ≡ c = same-box g.boxes v.0 c w.ordered v.1.0 may.in_c (eqb-true v.0.id c.id e) in
            let still : kept z.over ≡ true = ap not (made.elsewhere g known d may form ts mt l r1 x y s u p lr rr up l1 l2 at v.0 z v.1.0 f v.1.1) in
            made.of-c g known d may form ts mt l r1 x y s u p lr rr up l1 l2 at (λ (k : OwnedQuant). k ≡ z → (kept z.over ≡ true) × ((t : OwnedQuant) × (IsOwned hs t × ((t.id ≡ z.id) × (t.over ≡ z.over)))))
            (λ k. (still, (range l.id F x.id, ((c', (in-c', inr (inl refl))), (ap (λ (k : OwnedQuant). k.id) k, sym at.over_x ∙ ap (λ (k : OwnedQuant). k.over) k)))))
            (λ k. (still, (range r1.id F y.id, ((s', (in-s', inr (inl refl))), (ap (λ (k : OwnedQuant). k.id) k, sym at.over_y ∙ ap (λ (k : OwnedQuant). k.over) k)))))
            z (subst (λ (k : Node). In z k.quants) same v.1.1) refl)
        | inr k ↦ (ap not (made.elsewhere g known d may form ts mt l r1 x y s u p lr rr up l1 l2 at v.0 z v.1.0 f v.1.1), (z, ((ren v.0, (in-ren v.0 (made.to-hs g known d may form ts mt l r1 x y s u p lr rr up l1 l2 at v.0 v.1.0 f k), subst (λ (k : List OwnedQuant). In z k) (sym (ren-quants v.0)) v.1.1)), (refl, refl))))
      ]
    ];
  }

  -- ---- boxes that are made

  pub left : IsPair hs look c' m x a.id l.id
  left = record {
    ordered = ordered;
    once = once-after;
    in_n = in-c';
    in_m = in-m;
    in_x = in-x;
    apart = eq-false-sym l.id a.id (made.l-not-a g known d may form ts mt l r1 x y s u p lr rr up l1 l2 at);
    closed = looks-m;
    alone = λ q h. elim (cases_Bool (below x.id)) [
      | inl t ↦ absurd (clash (look x.id q) h (look-closed x.id (x-closed-below t) q))
      | inr t ↦ alone-x q (sym (look-beside x.id q (made.x-not-c g known d may form ts mt l r1 x y s u p lr rr up l1 l2 at) t) ∙ h)
    ];
    nothing = looks-c;
  }

  abbrev s'' : Node
  s'' = pair_box s rr p may.m.id (width may.m) r1.id y.id (width (put_node may.a.id (columns_from p 1 (width may.m)) y))

  pub same-s : s'' ≡ s'
  same-s = ap (λ k. pair_box s rr p may.m.id (width may.m) r1.id y.id k) (wide-put y)

  pub in-y : In (put y) hs
  in-y = below-renamed.stand y at.in_y below-y

  pub right : IsPair hs look s'' m (put y) p r1.id
  right = record {
    ordered = ordered;
    once = once-after;
    in_n = subst (λ (z : Node). In z hs) (sym same-s) in-s';
    in_m = in-m;
    in_x = in-y;
    apart = eq-false-sym r1.id p (p-new r1 c may.in_c in-r1);
    closed = looks-m;
    alone = λ q h. elim (or_cases ((q == p) && loose g.boxes y.id a.id) (not (q == a.id) && loose g.boxes y.id q) (sym (look-below y.id q below-y) ∙ h)) [
      | inl z ↦ eqb-true q p (and_parts (q == p) (loose g.boxes y.id a.id) z).0
      | inr z ↦ (let k = and_parts (not (q == a.id)) (loose g.boxes y.id q) z in absurd (clash (q == a.id) (eq-eqb q a.id (alone-y q k.1)) (not-true (q == a.id) k.0)))
    ];
    nothing = looks-s;
  }

  pub set_is : IsSet hs look d' c' s' mt
  set_is = record {
    ordered = ordered;
    in_n = in-d';
    in_left = in-c';
    in_right = in-s';
    closed_left = looks-c;
    closed_right = looks-s;
    nothing = looks-d;
    wide_left = width-pair hs look c.id a.id l.id lr m x left ∙ ap (λ z. width m + z) (made.wide-arm g known d may form ts mt l r1 x y s u p lr rr up l1 l2 at l x in-l at.over_x at.in_x) ∙ sym (made.long-mt g known d may form ts mt l r1 x y s u p lr rr up l1 l2 at);
    wide_right = ap width (sym same-s) ∙ width-pair hs look s p r1.id rr m (put y) right ∙ ap (λ z. width m + z) (wide-put y ∙ made.wide-arm g known d may form ts mt l r1 x y s u p lr rr up l1 l2 at r1 y in-r1 at.over_y at.in_y) ∙ sym (made.long-mt g known d may form ts mt l r1 x y s u p lr rr up l1 l2 at);
  }

  -- ---- rebuilt

  abbrev fresh : ℕ → Bool
  fresh b = (b == d.id) || ((b == s) || ((b == c.id) || (is_below g.boxes r1.over b && loose g.boxes b a.id)))

  -- a box after it is one of the three, or one beside, or one below, which stays or is renamed
  pub each-in : (n : Node) → In n hs → (n ≡ d') ⊎ ((n ≡ s') ⊎ ((n ≡ c') ⊎ ((v : Node) × (In v g.boxes × (((v.id == d.id) ≡ false) × (((v.id == c.id) ≡ false) × (n ≡ ren v)))))))
  each-in n i =
      let v = from-map ren n base i in
      elim (made.each-in g known d may form ts mt l r1 x y s u p lr rr up l1 l2 at v.0 v.1.0) [
        | inl e ↦ inl (v.1.1 ∙ ap ren e ∙ ren-beside d' not-below-d)
        | inr e ↦ elim e [
          | inl e ↦ inr (inl (v.1.1 ∙ ap ren e ∙ ren-beside s' not-below-s))
          | inr e ↦ elim e [ inl e ↦ inr (inr (inl (v.1.1 ∙ ap ren e ∙ ren-beside c' not-below-c))) | inr e ↦ inr (inr (inr (v.0, (e.0, (e.1.0, (e.1.1, v.1.1)))))) ]
        ]
      ]

  pub old-fresh : (v : Node) → In v g.boxes → (v.id == d.id) ≡ false → (v.id == c.id) ≡ false → fresh v.id ≡ (is_below g.boxes r1.over v.id && loose g.boxes v.id a.id)
  old-fresh v i nd nc = ap₂ (λ j k. j || (k || ((v.id == c.id) || (is_below g.boxes r1.over v.id && loose g.boxes v.id a.id)))) nd (eq-false-sym s v.id (made.s-not g known d may form ts mt l r1 x y s u p lr rr up l1 l2 at v i)) ∙ ap (λ k. k || (is_below g.boxes r1.over v.id && loose g.boxes v.id a.id)) nc

  pub rebuilds : Rebuilds g.boxes hs g.root kept look fresh
  rebuilds = record {
    ordered = ordered;
    rooted = (let n = has-in g.root g.boxes w.rooted in subst (λ b. has_box hs b ≡ true) n.1.1 (held n.0 n.1.0));
    top = (let n = has-in g.root g.boxes w.rooted in overs-after g.root (subst (λ b. (s == b) ≡ false) n.1.1 (made.s-not g known d may form ts mt l r1 x y s u p lr rr up l1 l2 at n.0 n.1.0)) (made.root-not-m g known d may form ts mt l r1 x y s u p lr rr up l1 l2 at) ∙ w.top);
    once = once-after;
    wide = λ v n i j k e. alike width (λ z. ren-width z) (made.width-d g known d may form ts mt l r1 x y s u p lr rr up l1 l2 at) v n i j k e;
    magic = λ v n i j k e. alike (λ (z : Node). is_magic z.parts.role) (ren-by (λ (z : Node). is_magic z.parts.role) (λ z. refl)) (sym (ap is_magic may.is_fed)) v n i j k e;
    held = λ v i k. held v i;
    used = λ b i h. (
        let k = was b i h in
        let n = has-in b g.boxes (loose-held g.boxes b k.0 k.1) in
        overs-after b (subst (λ z. (s == z) ≡ false) n.1.1 (made.s-not g known d may form ts mt l r1 x y s u p lr rr up l1 l2 at n.0 n.1.0)) (made.open-not-m g known d may form ts mt l r1 x y s u p lr rr up l1 l2 at b k.0 k.1) ∙ w.used b k.0 k.1);
    each = λ n i. elim (each-in n i) [
      | inl z ↦ inr (subst (λ b. fresh b ≡ true) (ap (λ (z : Node). z.id) (sym z)) fresh-d)
      | inr z ↦ elim z [
        | inl z ↦ inr (subst (λ b. fresh b ≡ true) (ap (λ (z : Node). z.id) (sym z)) fresh-s)
        | inr z ↦ elim z [
          | inl z ↦ inr (subst (λ b. fresh b ≡ true) (ap (λ (z : Node). z.id) (sym z)) fresh-c)
          | inr z ↦ (
              let v = z.0 in
              elim (cases_Bool (below v.id)) [
                | inr t ↦ inl (subst (StaysIn g.boxes hs kept look) (sym (z.1.1.1.1 ∙ ren-beside v t)) (beside-stays v z.1.0 z.1.1.0 z.1.1.1.0 t))
                | inl t ↦ elim (cases_Bool (loose g.boxes v.id a.id)) [
                  | inr f ↦ (let k = below-stays v z.1.0 t f in inl (subst (StaysIn g.boxes hs kept look) (sym (z.1.1.1.1 ∙ ren-below v t ∙ k.0)) k.1))
                  | inl f ↦ inr (subst (λ b. fresh b ≡ true) (sym (ap (λ (z : Node). z.id) z.1.1.1.1 ∙ ren-id v)) (old-fresh v z.1.0 z.1.1.0 z.1.1.1.0 ∙ and_from (below v.id) (loose g.boxes v.id a.id) t f))
                ]
              ])
        ]
      ]
    ];
    made = λ n i h. elim (each-in n i) [
      | inl z ↦ subst (MadeIn hs look) (sym z) (set-made hs look d.id r.id u form mt c' s' set_is)
      | inr z ↦ elim z [
        | inl z ↦ subst (MadeIn hs look) (same-s ∙ sym z) (pair-made hs look s p r1.id rr m (put y) right)
        | inr z ↦ elim z [
          | inl z ↦ subst (MadeIn hs look) (sym z) (pair-made hs look c.id a.id l.id lr m x left)
          | inr z ↦ (
              let v = z.0 in
              let k = and_parts (below v.id) (loose g.boxes v.id a.id) (sym (old-fresh v z.1.0 z.1.1.0 z.1.1.1.0) ∙ subst (λ b. fresh b ≡ true) (ap (λ (z : Node). z.id) z.1.1.1.1 ∙ ren-id v) h) in
              subst (MadeIn hs look) (sym (z.1.1.1.1 ∙ ren-below v k.0)) (below-made v z.1.0 k.0 k.1))
        ]
      ]
    ];
  }
    where
      fresh-d : fresh d.id ≡ true
      fresh-d = or_left (d.id == d.id) _ (eq-itself d.id)

      fresh-s : fresh s ≡ true
      fresh-s = or_right (s == d.id) _ (or_left (s == s) _ (eq-itself s))

      fresh-c : fresh c.id ≡ true
      fresh-c = or_right (c.id == d.id) _ (or_right (c.id == s) _ (or_left (c.id == c.id) _ (eq-itself c.id)))

      held : (v : Node) → In v g.boxes → has_box hs v.id ≡ true
      held v i = elim (cases_Bool (v.id == d.id)) [
        | inl e ↦ subst (λ b. has_box hs b ≡ true) (sym (eqb-true v.id d.id e)) (in-has d' hs in-d')
        | inr f ↦ elim (cases_Bool (v.id == c.id)) [
          | inl e ↦ subst (λ b. has_box hs b ≡ true) (sym (eqb-true v.id c.id e)) (in-has c' hs in-c')
          | inr k ↦ subst (λ b. has_box hs b ≡ true) (ren-id v) (in-has (ren v) hs (in-ren v (made.to-hs g known d may form ts mt l r1 x y s u p lr rr up l1 l2 at v i f k)))
        ]
      ]

      was : (b q : ℕ) → look b q ≡ true → (i : ℕ) × (loose g.boxes b i ≡ true)
      was b q h = elim (cases_Bool (below b)) [
        | inl t ↦ elim (or_cases ((q == p) && loose g.boxes b a.id) (not (q == a.id) && loose g.boxes b q) (sym (look-below b q t) ∙ h)) [
          | inl z ↦ (a.id, (and_parts (q == p) (loose g.boxes b a.id) z).1)
          | inr z ↦ (q, (and_parts (not (q == a.id)) (loose g.boxes b q) z).1)
        ]
        | inr t ↦ (q, (let e = and_parts (not (b == c.id)) (cond (below b) (((q == p) && loose g.boxes b a.id) || (not (q == a.id) && loose g.boxes b q)) (loose g.boxes b q)) h in subst (λ v. cond v (((q == p) && loose g.boxes b a.id) || (not (q == a.id) && loose g.boxes b q)) (loose g.boxes b q) ≡ true) t e.1))
      ]

      alike : {X : Type 0} (f : Node → X) → ((n : Node) → f (cond (is_below g.boxes r1.over n.id) (put_node may.a.id (columns_from p 1 (width may.m)) n) n) ≡ f n) → f d' ≡ f d → (v n : Node) → In v g.boxes → In n hs → kept v.id ≡ true → v.id ≡ n.id → f n ≡ f v
      alike f h same v n i j k e =
          let z = from-map ren n base j in
          ap f z.1.1 ∙ h z.0 ∙ made.kept-alike g known d may form ts mt l r1 x y s u p lr rr up l1 l2 at f same v z.0 i z.1.0 k (e ∙ ap (λ (z : Node). z.id) z.1.1 ∙ ren-id z.0)

  pub sound-after : Sound hs g.root
  sound-after = rebuilt g.boxes hs g.root kept look fresh w rebuilds

  pub looks-after : (b i : ℕ) → has_box hs b ≡ true → loose hs b i ≡ look b i
  looks-after = looks-exact g.boxes hs g.root kept look fresh w rebuilds

pub set-open-sound : SetOpenSound
set-open-sound = λ g known d may form ts mt l r1 x y s u p lr rr up l1 l2 at h. sound-after g known d may form ts mt l r1 x y s u p lr rr up l1 l2 at (free-looks g.boxes g.root (made.w g known d may form ts mt l r1 x y s u p lr rr up l1 l2 at) y.id may.a.id h)
