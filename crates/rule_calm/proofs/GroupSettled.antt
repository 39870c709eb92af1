-- G3 with keys keeps a graph settled.
use Rattle.std.proofs.Common.{ℕ, suc, ◌==◌, ◌≡◌, ◌≤◌, ◌+◌, ◌&&◌, ◌||◌, nat_le, nat_lt, not, Bool, true, false, List, take, refl, sym, ap, subst, ◌∙◌, eqb-true, inl, inr}
use Rattle.std.specs.List.{flat_map, list_all}
use Rattle.std.proofs.lemmas.Bool.{and_from, and_parts, cases_Bool, ltb-true, not-true, or_from}
use Rattle.list_laws.specs.Lists.{In}
use Rattle.list_laws.proofs.Membership.{any-from, any-none, eq-itself, flat-in, in-left}
use Rattle.qgm_core.specs.Boxes.{QueryGraph, width}
use Rattle.qgm_core.specs.declared.kinds.BoxKind.{BoxKind}
use Rattle.qgm_core.specs.declared.kinds.BoxKind.TheVariants.{Group}
use Rattle.qgm_core.specs.declared.kinds.Role.TheVariants.{Fed}
use Rattle.qgm_core.specs.declared.node.Node.{Node}
use Rattle.qgm_core.specs.declared.owned.OwnedQuant.{OwnedQuant}
use Rattle.qgm_meaning.specs.Scope.{loose}
use Rattle.qgm_meaning.specs.Searches.{names}
use Rattle.qgm_meaning.specs.Tags.{columns_from}
use Rattle.qgm_terms.specs.Named.{columns_in, columns_in_cond}
use Rattle.qgm_terms.specs.Terms.{Term}
use Rattle.qgm_terms.specs.declared.named.Column.{Column}
use Rattle.qgm_wellformed.specs.Columns.{columns_of}
use Rattle.qgm_edit_laws.specs.Graph.{Sound}
use Rattle.qgm_edit_laws.specs.Rebuilds.{Rebuilds}
use Rattle.qgm_edit_laws.specs.Shaped.{Shaped}
use Rattle.qgm_edit_laws.proofs.CheckedParts.{shaped}
use Rattle.qgm_edit_laws.proofs.Read.{column-named, is_at}
use Rattle.qgm_edit_laws.proofs.WellFormedKept.{numbers-once}
use Rattle.qgm_props.specs.Inferred.{Closed, Facts, at_place, clean_by, error_free_under, free_by, is_free, under_first}
use Rattle.qgm_props.proofs.Settled.{all-told}
use Rattle.rule_magic.specs.AbsorbGroup.{GroupAt, absorbed_group}
use Rattle.rule_magic.specs.Boxes.{keyed_box, pair_box}
use Rattle.rule_magic.specs.Places.{MayAbsorb}
use Rattle.rule_magic.proofs.AbsorbFacts as fed
use Rattle.rule_magic.proofs.AbsorbGroupFormed as made
use Rattle.rule_calm.specs.Settled.{IsFirm, IsSettled, SettledBox, single_free, single_free_cond}
use Rattle.rule_calm.proofs.FedSettled as of_fed
use Rattle.rule_calm.proofs.FedSettled.{clean-by, free-by}
use Rattle.rule_calm.proofs.Framed.{Carried, Still, firm-stays, gone-covers, range-is, still-firm, told-closed}
use Rattle.rule_calm.proofs.HeadPlaces.{place-only, place-split}
use Rattle.rule_calm.proofs.KeyedSettled.{keyed-clean, keyed-first, keyed-second, keyed-settled}
use Rattle.rule_calm.proofs.OperatorFacts.{place-at}
use Rattle.rule_calm.proofs.PairSettled.{pair-clean, pair-first, pair-second, pair-settled}
use Rattle.rule_calm.proofs.PartFacts.{part-carried, still-in-part}
use Rattle.rule_calm.proofs.RebuiltSettled.{before-still, carries, still-is-settled}

module _ (g : QueryGraph) (known : Facts) (d : Node) (may : MayAbsorb g.boxes known d) (k : ℕ) (q : OwnedQuant) (x : Node) (up l1 l2 : List Node) (at : GroupAt g known d may k q x up l1 l2) (each : (n : Node) → In n g.boxes → SettledBox g.boxes known g.root n) where
  abbrev bs : List Node
  bs = g.boxes

  abbrev hs : List Node
  hs = (absorbed_group g known d may k q x up l1 l2).boxes

  abbrev c : Node
  c = may.c

  abbrev m : Node
  m = may.m

  abbrev a : OwnedQuant
  a = may.a

  abbrev r : OwnedQuant
  r = may.r

  abbrev d' : Node
  d' = keyed_box d.id (width may.m + suc k) q.id may.r.id (width may.m) (width x) may.c.parts.head may.c.id

  abbrev c' : Node
  c' = pair_box may.c.id Fed may.a.id may.m.id (width may.m) q.id x.id (width x)

  abbrev kn : Facts
  kn = (all-told (absorbed_group g known d may k q x up l1 l2).boxes).0

  abbrev kept : ℕ → Bool
  kept b = not (b == may.c.id)

  abbrev look : ℕ → ℕ → Bool
  look b p = not (b == may.c.id) && loose g.boxes b p

  abbrev fresh : ℕ → Bool
  fresh b = (b == d.id) || (b == may.c.id)

  w : Sound g.boxes g.root
  w = made.w g at.once at.formed known at.tells d may up l1 l2 at.before (suc k) at.a_group q at.alone x at.in_x at.over_x

  sh : Shaped g.boxes g.root
  sh = made.sh g at.once at.formed known at.tells d may up l1 l2 at.before (suc k) at.a_group q at.alone x at.in_x at.over_x

  v : Sound hs g.root
  v = made.sound-after g at.once at.formed known at.tells d may up l1 l2 at.before (suc k) at.a_group q at.alone x at.in_x at.over_x

  rebuilds : Rebuilds g.boxes hs g.root kept look fresh
  rebuilds = made.rebuilds g at.once at.formed known at.tells d may up l1 l2 at.before (suc k) at.a_group q at.alone x at.in_x at.over_x

  shaped-after : Shaped hs g.root
  shaped-after = shaped (absorbed_group g known d may k q x up l1 l2) (numbers-once hs v.ordered) (made.group-formed g at.once at.formed known at.tells d may up l1 l2 at.before (suc k) at.a_group q at.alone x at.in_x at.over_x (absorbed_group g known d may k q x up l1 l2) refl refl)

  closed : Closed hs kn
  closed = told-closed hs kn (all-told hs).1

  in-d' : In d' hs
  in-d' = made.in-d' g at.once at.formed known at.tells d may up l1 l2 at.before (suc k) at.a_group q at.alone x at.in_x at.over_x

  in-c' : In c' hs
  in-c' = made.in-c' g at.once at.formed known at.tells d may up l1 l2 at.before (suc k) at.a_group q at.alone x at.in_x at.over_x

  stays : (n : Node) → In n bs → (n.id == d.id) ≡ false → (n.id == c.id) ≡ false → Still bs hs kept n
  stays n i nd nc = before-still g.boxes hs g.root kept look fresh w rebuilds n i (ap not nc) (or_from (n.id == d.id) (n.id == c.id) nd nc)

  firm : (b : ℕ) → IsFirm bs b → kept b ≡ true → IsFirm hs b
  firm = firm-stays bs hs kept (λ n i j. elim (cases_Bool (n.id == d.id)) [
    | inl e ↦ inr (λ z. of_fed.not-firm g at.once at.formed known at.tells d may (subst (IsFirm bs) (eqb-true n.id d.id e) z))
    | inr f ↦ inl (still-firm bs hs kept n (stays n i f (not-true (n.id == c.id) j)))
  ])

  -- ---- what is below

  abbrev low : ℕ → Bool
  low = of_fed.low g at.once at.formed known at.tells d may

  low-kept : (b : ℕ) → low b ≡ true → kept b ≡ true
  low-kept b h = ap not (of_fed.low-not-c g at.once at.formed known at.tells d may b h)

  part : Carried known kn low
  part = part-carried bs hs g.root w v sh known kn at.tells closed each kept firm low low-kept (λ n i j. (
      let z = of_fed.low-under g at.once at.formed known at.tells d may n.id j in
      let e = of_fed.low-not-d g at.once at.formed known at.tells d may n.id j in
      let f = of_fed.low-not-c g at.once at.formed known at.tells d may n.id j in
      inl (still-in-part bs hs g.root w v sh known kn at.tells closed each kept firm low low-kept n (stays n i e f) j
      (λ s l. of_fed.low-over g at.once at.formed known at.tells d may n s i z e l) (λ s h o. of_fed.low-named g at.once at.formed known at.tells d may n s i z e h o))))

  in-q : In q c.quants
  in-q = subst (λ (z : List OwnedQuant). In q z) (sym at.alone) (inl refl)

  x-low : low x.id ≡ true
  x-low = subst (λ b. low b ≡ true) at.over_x (of_fed.low-over g at.once at.formed known at.tells d may c q may.in_c (of_fed.c-under g at.once at.formed known at.tells d may) (of_fed.c-not-d g at.once at.formed known at.tells d may) in-q)

  m-low : low m.id ≡ true
  m-low = of_fed.m-low g at.once at.formed known at.tells d may

  m-free : (j : ℕ) → 1 ≤ j → j ≤ width m → kn.error_free m.id j ≡ true
  m-free j s l = part.error_free m.id j m-low (place-at (width m) (known.error_free m.id) may.columns j s l)

  c-clean : clean_by bs known (Group (suc k)) c ≡ true
  c-clean = subst (λ (z : BoxKind). clean_by bs known z c ≡ true) at.a_group (clean-by bs known at.tells g.root w c may.in_c (of_fed.c-clean g at.once at.formed known at.tells d may each))

  keys-free : (under_first known.clean c.quants ≡ true) × (list_all (is_free bs known false) (take (suc k) c.parts.head) ≡ true)
  keys-free = and_parts (under_first known.clean c.quants) (list_all (is_free bs known false) (take (suc k) c.parts.head)) c-clean

  now-c : kn.clean c.id ≡ true
  now-c = pair-clean hs g.root v kn closed c.id Fed a.id m.id (width m) q.id x.id (width x) in-c' (part.clean m.id m-low may.clean)
      (part.clean x.id x-low (subst (λ b. known.clean b ≡ true) at.over_x (subst (λ (z : List OwnedQuant). under_first known.clean z ≡ true) at.alone keys-free.0)))

  -- ---- the cells of c

  own : (t : Term) → In t c.parts.head → (y : Column) → In y (columns_in t) → y.quant ≡ q.id
  own t i y j = made.named-c g at.once at.formed known at.tells d may up l1 l2 at.before (suc k) at.a_group q at.alone x at.in_x at.over_x y.quant
      (column-named y.quant y.place c (any-from (is_at y.quant y.place) y (columns_of c) (in-left y (flat_map columns_in c.parts.head) (flat_map columns_in_cond c.parts.conds.items) (flat-in columns_in t y c.parts.head i j)) (and_from (y.quant == y.quant) (y.place == y.place) (eq-itself y.quant) (eq-itself y.place))))

  bare : (t : Term) → In t c.parts.head → (p : ℕ) → names p t ≡ false
  bare t i p = any-none (names p) t c.parts.head (made.names-c g at.once at.formed known at.tells d may up l1 l2 at.before (suc k) at.a_group q at.alone x at.in_x at.over_x p) i

  single : list_all single_free c.parts.head ≡ true
  single = (and_parts (list_all single_free c.parts.head) (list_all single_free_cond c.parts.conds.items) (each c may.in_c).no_single).0

  cols : (j : ℕ) → 1 ≤ j → j ≤ width x → error_free_under bs known q.id j ≡ true → kn.error_free c.id (width m + j) ≡ true
  cols j s l h = pair-second hs g.root v kn closed c.id Fed a.id m.id (width m) q.id x.id (width x) in-c' j (width m + j) refl s l
      (part.error_free x.id j x-low (subst (λ b. known.error_free b j ≡ true) at.over_x (sym (range-is bs g.root w (λ b. known.error_free b j) q (c, (may.in_c, in-q))) ∙ h)))

  first : (j : ℕ) → 1 ≤ j → j ≤ width m → kn.error_free c.id j ≡ true
  first j s l = pair-first hs g.root v kn closed c.id Fed a.id m.id (width m) q.id x.id (width x) in-c' j s l (m-free j s l)

  now-d : kn.clean d.id ≡ true
  now-d = keyed-clean bs hs g.root v shaped-after known kn closed d.id (width m + suc k) q.id r.id (width m) (width x) c.parts.head c.id in-d' own bare single cols first (suc k) refl now-c keys-free.1

  of-r : (j : ℕ) → error_free_under bs known r.id j ≡ true → known.error_free c.id j ≡ true
  of-r j h = subst (λ b. known.error_free b j ≡ true) (sym may.over_c) (sym (range-is bs g.root w (λ b. known.error_free b j) r (d, (may.in_d, fed.in-r g at.once at.formed known at.tells d may))) ∙ h)

  now-free : (j : ℕ) → known.error_free d.id j ≡ true → kn.error_free d.id j ≡ true
  now-free j h =
      let z = free-by bs known at.tells g.root w d may.in_d j h in
      elim (place-split (is_free bs known false) a.id (width m) (columns_from r.id 1 (width c)) j
      (subst (λ (t : List Term). at_place (is_free bs known false) t j ≡ true) (fed.head-is g at.once at.formed known at.tells d may) (subst (λ (t : BoxKind). free_by bs known t d j ≡ true) (fed.kind_d g at.once at.formed known at.tells d may) z.1))) [
        | inl o ↦ keyed-first bs hs g.root v shaped-after known kn closed d.id (width m + suc k) q.id r.id (width m) (width x) c.parts.head c.id in-d' own bare single cols first now-d j (ltb-true 0 j (and_parts (nat_lt 0 j) (nat_le j (width d)) z.0).0) o.0
        | inr o ↦ (
            let f = free-by bs known at.tells g.root w c may.in_c o.0 (of-r o.0 (place-only (is_free bs known false) r.id (width c) o.0 o.1.1)) in
            let y = and_parts (known.clean c.id) (at_place (is_free bs known (under_first known.at_most_one c.quants)) c.parts.head o.0) (subst (λ (t : BoxKind). free_by bs known t c o.0 ≡ true) at.a_group f.1) in
            keyed-second bs hs g.root v shaped-after known kn closed d.id (width m + suc k) q.id r.id (width m) (width x) c.parts.head c.id in-d' own bare single cols first now-d o.0 j o.1.0 (under_first known.at_most_one c.quants) y.1)
      ]

  -- ---- all boxes after it

  carried : Carried known kn kept
  carried = carries bs hs g.root w v sh kept known kn closed each firm at.tells (λ n i. elim (cases_Bool (n.id == d.id)) [
    | inl e ↦ (
        let id = eqb-true n.id d.id e in
        inr (record { clean = λ j y z. subst (λ b. kn.clean b ≡ true) (sym id) now-d; error_free = λ o j y l z. subst (λ b. kn.error_free b o ≡ true) (sym id) (now-free o (subst (λ b. known.error_free b o ≡ true) id y)) }))
    | inr f ↦ elim (cases_Bool (n.id == c.id)) [
      | inr j ↦ inl (stays n i f j)
      | inl j ↦ inr (gone-covers bs hs known kn kept n (ap not j))
    ]
  ])

  pub group-settled : IsSettled (absorbed_group g known d may k q x up l1 l2)
  group-settled = record {
    known = kn;
    tells = (all-told hs).1;
    each = λ n i. elim (made.each-in g at.once at.formed known at.tells d may up l1 l2 at.before (suc k) at.a_group q at.alone x at.in_x at.over_x n i) [
      | inl z ↦ subst (SettledBox hs kn g.root) (sym z) (keyed-settled bs hs g.root v shaped-after known kn closed d.id (width m + suc k) q.id r.id (width m) (width x) c.parts.head c.id in-d' own bare single cols first now-d)
      | inr z ↦ elim z [
        | inl z ↦ subst (SettledBox hs kn g.root) (sym z) (pair-settled hs g.root v kn closed c.id Fed a.id m.id (width m) q.id x.id (width x) in-c' refl now-c)
        | inr z ↦ still-is-settled bs hs g.root w v sh kept known kn closed each firm carried n (stays n z.0 z.1.0 z.1.1)
      ]
    ];
  }
