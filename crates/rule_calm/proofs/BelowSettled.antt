-- Where columns of the magic box's quantifier become those of a new one below an open right operand: what is inferred of the boxes there and of those beside, and that they are settled.
use Rattle.std.proofs.Common.{ℕ, ◌==◌, ◌≡◌, ◌&&◌, ◌||◌, cond, map, not, Bool, true, false, List, ◌⊎◌, refl, sym, ap, ap₂, subst, ◌∙◌, eqb-true, inl, inr}
use Rattle.std.specs.List.{list_all}
use Rattle.std.proofs.lemmas.Bool.{and_from, and_parts, cases_Bool, not-true, or_left}
use Rattle.list_laws.specs.Lists.{EachOnce, In, holds}
use Rattle.list_laws.proofs.Booleans.{clash}
use Rattle.list_laws.proofs.Membership.{eq-itself}
use Rattle.qgm_core.specs.Boxes.{QueryGraph, has_box, numbers, owns, width}
use Rattle.qgm_core.specs.Edits.{range}
use Rattle.qgm_core.specs.Free.{named_by}
use Rattle.qgm_core.specs.Kinds.{is_S}
use Rattle.qgm_core.specs.declared.kinds.QuantKind.TheVariants.{F}
use Rattle.qgm_core.specs.declared.node.Node.{Node}
use Rattle.qgm_core.specs.declared.owned.OwnedQuant.{OwnedQuant}
use Rattle.qgm_core.proofs.Reaching.{in-has, overs-held}
use Rattle.qgm_meaning.specs.Scope.{loose, put_node}
use Rattle.qgm_meaning.specs.Tags.{columns_from}
use Rattle.qgm_terms.specs.Substitution.{substituted_cond}
use Rattle.qgm_wellformed.specs.Sentences.{WellFormed}
use Rattle.qgm_wellformed.specs.Shapes.{node_fits, nodes_of}
use Rattle.qgm_edit_laws.specs.Graph.{Sound}
use Rattle.qgm_edit_laws.specs.Rebuilds.{IsOwned, Rebuilds}
use Rattle.qgm_edit_laws.specs.Shaped.{Shaped}
use Rattle.qgm_edit_laws.proofs.Ranks.{has-in, same-box}
use Rattle.qgm_edit_laws.proofs.Rebuilt.{looks-exact, rebuilt}
use Rattle.qgm_props.specs.Calm.{is_closed}
use Rattle.qgm_props.specs.Inferred.{Closed, Facts}
use Rattle.qgm_props.specs.Laws.{Tells}
use Rattle.rule_magic.specs.Places.{MayAbsorb}
use Rattle.rule_magic.specs.Region.{is_below}
use Rattle.rule_magic.proofs.AbsorbFacts as fed
use Rattle.rule_magic.proofs.AbsorbOpenSet.{looks_of}
use Rattle.rule_magic.proofs.AbsorbSelectFormed as one
use Rattle.rule_magic.proofs.AbsorbShared.{closed-looks}
use Rattle.rule_calm.specs.Settled.{IsFirm, SettledBox}
use Rattle.rule_calm.proofs.FedSettled as of_fed
use Rattle.rule_calm.proofs.Framed.{Carried, Covers, FirmStays, Names, OwnedAs, Still, firm-single, firm-stays, still-firm}
use Rattle.rule_calm.proofs.PartFacts.{part-carried, still-in-part}
use Rattle.rule_calm.proofs.RebuiltSettled.{before-still, nodes-fit, still-is-settled}
use Rattle.rule_calm.proofs.RenamedFacts.{Renaming, put-covers, put-settled}
use Rattle.rule_calm.proofs.Shut.{shut-same}

-- the graph is rebuilt over the fed box d, the box under it and the new one s; below y columns of a are those of p, which ranges over the magic box
pub record RenamingBelow (g : QueryGraph) (known : Facts) (d : Node) (may : MayAbsorb g.boxes known d) (hs : List Node) (y s p : ℕ) : Type 0 where
  pub rebuilds : Rebuilds g.boxes hs g.root (λ b. not (b == may.c.id)) (λ b q. looks_of g.boxes may.c.id y may.a.id p b q) (λ b. (b == d.id) || ((b == s) || ((b == may.c.id) || (is_below g.boxes y b && loose g.boxes b may.a.id))))
  pub stand : (n : Node) → In n g.boxes → is_below g.boxes y n.id ≡ true → In (put_node may.a.id (columns_from p 1 (width may.m)) n) hs
  pub new : (n : Node) → In n g.boxes → (n.id == s) ≡ false
  -- what another box than these two names is there after
  pub named : (n : Node) → In n g.boxes → (n.id == d.id) ≡ false → (n.id == may.c.id) ≡ false → (z : OwnedQuant) → holds z.id (named_by n) ≡ true → IsOwned g.boxes z → (not (z.over == may.c.id) ≡ true) × OwnedAs hs z
  pub apart : (n : Node) → In n g.boxes → is_below g.boxes y n.id ≡ true → owns may.a.id n ≡ false
  pub beside_c : is_below g.boxes y may.c.id ≡ false
  pub beside_d : is_below g.boxes y d.id ≡ false
  pub over_m : IsOwned hs (range p F may.m.id)

module _ (g : QueryGraph) (once : EachOnce (numbers g.boxes)) (wf : WellFormed g) (known : Facts) (tells : Tells known g.boxes) (d : Node) (may : MayAbsorb g.boxes known d) (hs : List Node) (y s p : ℕ) (renamed : RenamingBelow g known d may hs y s p)
    (kn : Facts) (closed : Closed hs kn) (each : (n : Node) → In n g.boxes → SettledBox g.boxes known g.root n) where
  abbrev bs : List Node
  bs = g.boxes

  abbrev c : Node
  c = may.c

  abbrev m : Node
  m = may.m

  abbrev a : OwnedQuant
  a = may.a

  abbrev below : ℕ → Bool
  below b = is_below g.boxes y b

  abbrev put : Node → Node
  put n = put_node may.a.id (columns_from p 1 (width may.m)) n

  abbrev kept : ℕ → Bool
  kept b = not (b == may.c.id)

  abbrev look : ℕ → ℕ → Bool
  look b q = looks_of g.boxes may.c.id y may.a.id p b q

  abbrev fresh : ℕ → Bool
  fresh b = (b == d.id) || ((b == s) || ((b == may.c.id) || (is_below g.boxes y b && loose g.boxes b may.a.id)))

  w : Sound g.boxes g.root
  w = one.w g once wf known tells d may

  sh : Shaped g.boxes g.root
  sh = one.sh g once wf known tells d may

  v : Sound hs g.root
  v = rebuilt g.boxes hs g.root kept look fresh w renamed.rebuilds

  elsewhere : (n : Node) (z : OwnedQuant) → In n g.boxes → (n.id == d.id) ≡ false → In z n.quants → (z.over == c.id) ≡ false
  elsewhere n z i nd j = elim (cases_Bool (z.over == c.id)) [
    | inr f ↦ f
    | inl e ↦ absurd (clash (n.id == d.id) (subst (λ (k : Node). (k.id == d.id) ≡ true) (sym (fed.only-d g once wf known tells d may n z i j (eqb-true z.over c.id e))) (eq-itself d.id)) nd)
  ]

  -- ---- what is looked up

  below-c : (b : ℕ) → is_below g.boxes y b ≡ true → (b == c.id) ≡ false
  below-c b t = elim (cases_Bool (b == c.id)) [ inr f ↦ f | inl e ↦ absurd (clash (below b) t (subst (λ b. below b ≡ false) (sym (eqb-true b c.id e)) renamed.beside_c)) ]

  below-d : (b : ℕ) → is_below g.boxes y b ≡ true → (b == d.id) ≡ false
  below-d b t = elim (cases_Bool (b == d.id)) [ inr f ↦ f | inl e ↦ absurd (clash (below b) t (subst (λ b. below b ≡ false) (sym (eqb-true b d.id e)) renamed.beside_d)) ]

  look-is : (b q : ℕ) (z : Bool) → (b == c.id) ≡ false → is_below g.boxes y b ≡ z → look b q ≡ cond z (((q == p) && loose g.boxes b a.id) || (not (q == a.id) && loose g.boxes b q)) (loose g.boxes b q)
  look-is b q z f e = ap₂ (λ v z. not v && cond z (((q == p) && loose g.boxes b a.id) || (not (q == a.id) && loose g.boxes b q)) (loose g.boxes b q)) f e

  -- where a isn't looked up, all that is looked up is as before
  look-same : (b : ℕ) → (b == c.id) ≡ false → (is_below g.boxes y b && loose g.boxes b a.id) ≡ false → (q : ℕ) → look b q ≡ loose g.boxes b q
  look-same b f e q = elim (cases_Bool (below b)) [
    | inr t ↦ look-is b q false f t
    | inl t ↦ (
        let n : loose g.boxes b a.id ≡ false = sym (ap (λ z. z && loose g.boxes b a.id) t) ∙ e in
        look-is b q true f t ∙ ap (λ z. ((q == p) && z) || (not (q == a.id) && loose g.boxes b q)) n ∙ (elim (cases_Bool (q == a.id)) [
          | inl k ↦ ap (λ z. ((q == p) && false) || (not z && loose g.boxes b q)) k ∙ none (q == p) ∙ sym (ap (loose g.boxes b) (eqb-true q a.id k) ∙ n)
          | inr k ↦ ap (λ z. ((q == p) && false) || (not z && loose g.boxes b q)) k ∙ ap (λ z. z || loose g.boxes b q) (never (q == p))
        ]))
  ]
    where
      never : (b : Bool) → (b && false) ≡ false
      never true = refl
      never false = refl

      none : (b : Bool) → ((b && false) || false) ≡ false
      none true = refl
      none false = refl

  looks-after : (b q : ℕ) → has_box hs b ≡ true → loose hs b q ≡ look b q
  looks-after = looks-exact g.boxes hs g.root kept look fresh w renamed.rebuilds

  -- a box that isn't closed
  open-not : (xs : List Node) → Sound xs g.root → (b q : ℕ) → loose xs b q ≡ true → is_closed xs b ≡ false
  open-not xs z b q h = elim (cases_Bool (is_closed xs b)) [ inr f ↦ f | inl t ↦ absurd (clash (loose xs b q) h (closed-looks xs g.root z b t q)) ]

  -- boxes are open as before
  shut-kept : (b : ℕ) → (b == c.id) ≡ false → has_box hs b ≡ true → is_closed hs b ≡ is_closed bs b
  shut-kept b f h = elim (cases_Bool (below b && loose g.boxes b a.id)) [
    | inr e ↦ shut-same bs hs g.root w v b (λ q. looks-after b q h ∙ look-same b f e q)
    | inl t ↦ (
        let z = and_parts (below b) (loose g.boxes b a.id) t in
        open-not hs v b p (looks-after b p h ∙ look-is b p true f z.0 ∙ or_left ((p == p) && loose g.boxes b a.id) (not (p == a.id) && loose g.boxes b p) (and_from (p == p) (loose g.boxes b a.id) (eq-itself p) z.1))
        ∙ sym (open-not bs w b a.id z.1))
  ]

  held : (b : ℕ) → (b == c.id) ≡ false → has_box g.boxes b ≡ true → has_box hs b ≡ true
  held b f h = let n = has-in b g.boxes h in subst (λ b. has_box hs b ≡ true) n.1.1 (renamed.rebuilds.held n.0 n.1.0 (ap not (ap (λ b. b == c.id) n.1.1 ∙ f)))

  -- ---- boxes that stay, and boxes that are renamed

  old-fresh : (n : Node) → In n g.boxes → (n.id == d.id) ≡ false → (n.id == c.id) ≡ false → fresh n.id ≡ (is_below g.boxes y n.id && loose g.boxes n.id a.id)
  old-fresh n i nd nc = ap₂ (λ j k. j || (k || ((n.id == c.id) || (is_below g.boxes y n.id && loose g.boxes n.id a.id)))) nd (renamed.new n i) ∙ ap (λ k. k || (is_below g.boxes y n.id && loose g.boxes n.id a.id)) nc

  pub stays : (n : Node) → In n bs → (n.id == d.id) ≡ false → (n.id == c.id) ≡ false → (is_below g.boxes y n.id && loose g.boxes n.id a.id) ≡ false → Still bs hs kept n
  stays n i nd nc e = before-still g.boxes hs g.root kept look fresh w renamed.rebuilds n i (ap not nc) (old-fresh n i nd nc ∙ e)

  names-kept : (n : Node) → In n bs → is_below g.boxes y n.id ≡ true → Names bs hs kept n
  names-kept n i t = record {
    before = i;
    over = λ z j. ap not (elsewhere n z i (below-d n.id t) j);
    owned = λ z j. (z, ((put n, (renamed.stand n i t, j)), (refl, refl)));
    named = renamed.named n i (below-d n.id t) (below-c n.id t);
  }

  fit : (n : Node) → In n bs → list_all (node_fits n.quants) (nodes_of n) ≡ true
  fit = nodes-fit bs g.root sh

  shut-put : (n : Node) → In n bs → is_below g.boxes y n.id ≡ true → is_closed hs n.id ≡ is_closed bs n.id
  shut-put n i t = shut-kept n.id (below-c n.id t) (in-has (put n) hs (renamed.stand n i t))

  shut-over : (n : Node) → In n bs → is_below g.boxes y n.id ≡ true → (z : OwnedQuant) → In z n.quants → is_closed hs z.over ≡ is_closed bs z.over
  shut-over n i t z j = let f = elsewhere n z i (below-d n.id t) j in shut-kept z.over f (held z.over f (overs-held g.boxes n z w.ordered i j))

  -- ---- firm boxes

  pub firm : (b : ℕ) → IsFirm bs b → kept b ≡ true → IsFirm hs b
  firm = firm-stays bs hs kept (λ n i k. (
      let nc = not-true (n.id == c.id) k in
      elim (cases_Bool (n.id == d.id)) [
        | inl e ↦ inr (λ z. of_fed.not-firm g once wf known tells d may (subst (IsFirm bs) (eqb-true n.id d.id e) z))
        | inr f ↦ elim (cases_Bool (below n.id && loose g.boxes n.id a.id)) [
          | inr e ↦ inl (still-firm bs hs kept n (stays n i f nc e))
          | inl e ↦ (let t = (and_parts (below n.id) (loose g.boxes n.id a.id) e).0 in inl (still-there n i t))
        ]
      ]))
    where
      still-there : (n : Node) → In n bs → is_below g.boxes y n.id ≡ true → FirmStays bs hs kept n
      still-there n i t = record {
        n = put n;
        after = renamed.stand n i t;
        id = refl;
        kind = refl;
        role = refl;
        conds = λ e. ap (map (substituted_cond a.id (columns_from p 1 (width m)))) e;
        quants = refl;
        over = λ z j. ap not (elsewhere n z i (below-d n.id t) j);
        shut = shut-put n i t;
        shut_over = shut-over n i t;
      }

  firm-under : (n : Node) → In n bs → (n.id == d.id) ≡ false → (z : OwnedQuant) → In z n.quants → is_S z.kind ≡ true → IsFirm hs z.over
  firm-under n i nd z j t = firm z.over ((each n i).scalars z j t) (ap not (elsewhere n z i nd j))

  single-under : (n : Node) → In n bs → (n.id == d.id) ≡ false → (z : OwnedQuant) → In z n.quants → is_S z.kind ≡ true → kn.at_most_one z.over ≡ true
  single-under n i nd z j t = firm-single hs v.ordered kn closed z.over (firm-under n i nd z j t)

  -- ---- what is below both

  abbrev low : ℕ → Bool
  low = of_fed.low g once wf known tells d may

  low-kept : (b : ℕ) → low b ≡ true → kept b ≡ true
  low-kept b h = ap not (of_fed.low-not-c g once wf known tells d may b h)

  m-low : low m.id ≡ true
  m-low = of_fed.m-low g once wf known tells d may

  renaming : (q : ℕ → Bool) → q a.over ≡ true → Renaming bs hs q a.id p
  renaming q h = record { was = a; was_owned = (d, (may.in_d, fed.in-a g once wf known tells d may)); was_is = refl; now = range p F m.id; now_owned = renamed.over_m; now_is = refl; same = may.over_m; over = h }

  names-low : (n : Node) → In n bs → is_below g.boxes y n.id ≡ true → low n.id ≡ true → Names bs hs low n
  names-low n i t k =
      let z = of_fed.low-under g once wf known tells d may n.id k in
      record {
        before = i;
        over = λ q j. of_fed.low-over g once wf known tells d may n q i z (below-d n.id t) j;
        owned = λ q j. (q, ((put n, (renamed.stand n i t, j)), (refl, refl)));
        named = λ q h o. (of_fed.low-named g once wf known tells d may n q i z (below-d n.id t) h o, (renamed.named n i (below-d n.id t) (below-c n.id t) q h o).1);
      }

  pub part : Carried known kn low
  part = part-carried bs hs g.root w v sh known kn tells closed each kept firm low low-kept (λ n i k. (
      let z = of_fed.low-under g once wf known tells d may n.id k in
      let e = of_fed.low-not-d g once wf known tells d may n.id k in
      let f = of_fed.low-not-c g once wf known tells d may n.id k in
      elim (cases_Bool (below n.id && loose g.boxes n.id a.id)) [
        | inr o ↦ inl (still-in-part bs hs g.root w v sh known kn tells closed each kept firm low low-kept n (stays n i e f o) k
            (λ q j. of_fed.low-over g once wf known tells d may n q i z e j) (λ q h o. of_fed.low-named g once wf known tells d may n q i z e h o))
        | inl o ↦ (
            let t = (and_parts (below n.id) (loose g.boxes n.id a.id) o).0 in
            inr (put-covers bs hs g.root w v low a.id p (width m) (renaming low (subst (λ b. low b ≡ true) may.over_m m-low)) n (names-low n i t k) (renamed.apart n i t) (renamed.stand n i t) (shut-put n i t) (shut-over n i t) (fit n i) known kn closed k (single-under n i e) (each n i)))
      ]))

  -- ---- all boxes after it

  a-kept : kept a.over ≡ true
  a-kept = ap not (fed.a-not-c g once wf known tells d may)

  -- another box than these two stays or is covered
  pub other-covers : (n : Node) → In n bs → (n.id == d.id) ≡ false → (n.id == c.id) ≡ false → Still bs hs kept n ⊎ Covers bs hs known kn kept n
  other-covers n i nd nc = elim (cases_Bool (below n.id && loose g.boxes n.id a.id)) [
    | inr o ↦ inl (stays n i nd nc o)
    | inl o ↦ (
        let t = (and_parts (below n.id) (loose g.boxes n.id a.id) o).0 in
        inr (put-covers bs hs g.root w v kept a.id p (width m) (renaming kept a-kept) n (names-kept n i t) (renamed.apart n i t) (renamed.stand n i t) (shut-put n i t) (shut-over n i t) (fit n i) known kn closed (ap not nc) (single-under n i nd) (each n i)))
  ]

  module _ (carried : Carried known kn kept) where
    settled-put : (n : Node) → In n bs → (is_below g.boxes y n.id && loose g.boxes n.id a.id) ≡ true → SettledBox hs kn g.root (put n)
    settled-put n i o =
        let z = and_parts (below n.id) (loose g.boxes n.id a.id) o in
        put-settled bs hs g.root w v kept a.id p (width m) (renaming kept a-kept) n (names-kept n i z.0) (renamed.apart n i z.0) (renamed.stand n i z.0) (shut-put n i z.0) (shut-over n i z.0) (fit n i) known kn closed (ap not (below-c n.id z.0)) (single-under n i (below-d n.id z.0)) (each n i)
        carried (firm-under n i (below-d n.id z.0)) (firm-single hs v.ordered kn closed)

    -- and is settled
    pub other-settled : (n z : Node) → In n hs → In z bs → (z.id == d.id) ≡ false → (z.id == c.id) ≡ false → n ≡ cond (is_below g.boxes y z.id) (put_node may.a.id (columns_from p 1 (width may.m)) z) z → SettledBox hs kn g.root n
    other-settled n z i j nd nc e = elim (cases_Bool (below z.id && loose g.boxes z.id a.id)) [
      | inl o ↦ subst (SettledBox hs kn g.root) (sym (e ∙ ap (λ b. cond b (put z) z) (and_parts (below z.id) (loose g.boxes z.id a.id) o).0)) (settled-put z j o)
      | inr o ↦ (
          let t = stays z j nd nc o in
          let id : n.id ≡ z.id = ap (λ (k : Node). k.id) e ∙ same-id z (below z.id) in
          subst (SettledBox hs kn g.root) (same-box hs z n v.ordered t.after i (sym id)) (still-is-settled bs hs g.root w v sh kept known kn closed each firm carried z t))
    ]
      where
        same-id : (z : Node) (b : Bool) → (cond b (put z) z).id ≡ z.id
        same-id z true = refl
        same-id z false = refl
