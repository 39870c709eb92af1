-- What an execution takes is what loops that skip nothing take.
use Rattle.std.proofs.Common.{ℕ, ◌≡◌, ◌≤◌, ◌+◌, ◌==◌, ◌&&◌, ◌||◌, Bool, true, false, cond, List, [], ◌∷◌, refl, sym, ap, ap₂, subst, ◌∙◌, eqb-true, inl, inr, arith}
use Rattle.std.proofs.lemmas.Bool.{cases_Bool}
use Rattle.row_bag.specs.declared.tables.Table.{Table}
use Rattle.qgm_core.specs.Boxes.{QueryGraph, has_box}
use Rattle.qgm_core.specs.Free.{Reaches, itself, free_in, reached}
use Rattle.list_laws.specs.Lists.{In, holds}
use Rattle.qgm_core.specs.declared.node.Node.{Node}
use Rattle.qgm_core.specs.declared.owned.OwnedQuant.{OwnedQuant}
use Rattle.qgm_meaning.specs.Meaning.{bag, bag_in, rows_of}
use Rattle.qgm_meaning.specs.Plain.{Counts, closed_among, counted, counted_by, if_closed, if_open, plain}
use Rattle.qgm_meaning.specs.Values.{Bag, Environment}
use Rattle.box_exec.specs.Beyond.{beyond, beyond_of}
use Rattle.box_exec.specs.Closed.{AllClosed, NamesBound, PlainOfClosed, closed_marked, closed_number, marked_number, reached_number}
use Rattle.box_exec.specs.Costs.{asked, costs}
use Rattle.box_exec.specs.Kept.{KeptAs, Took, behind, is_nil, kept_costs, kept_number}
use Rattle.box_exec.proofs.Closed.{nil-alike}
use Rattle.box_exec.proofs.Counting.{counted-one, counted-same, none}
use Rattle.qgm_core.proofs.Reaching.{closes, in-has, reached-reaches}
use Rattle.box_exec.proofs.Tails.{Tail, at-head, behind-one, has-in, not-up, overs-here, tail-has, tail-in, tail-ordered, tail-rank, whole}
use Rattle.list_laws.proofs.Booleans.{and-false, and-true}
use Rattle.list_laws.proofs.Membership.{holds-in, in-holds}

open-if : (xs : List ℕ) (x : ℕ) → cond (is_nil xs) 0 x ≡ if_open xs x
open-if [] x = refl
open-if (y ∷ xs) x = refl

closed-if : (xs : List ℕ) (x : ℕ) → cond (is_nil xs) x 0 ≡ if_closed xs x
closed-if [] x = refl
closed-if (y ∷ xs) x = refl

pub none-more : (x : ℕ) → 0 + x ≡ x
none-more x = omega arith

module _ (tables : List Table) (g : QueryGraph) (w : NamesBound g) where
  abbrev pub marks : List ℕ
  marks = reached (g.root ∷ []) g.boxes

  -- the boxes that are kept, the root with them
  abbrev pub kept : ℕ → Bool
  kept b = is_nil (beyond g.boxes b) && holds b marks

  -- one evaluation of a box over what is counted below it
  abbrev step : Node → Counts → Environment → ℕ
  step n below env = counted_by n.parts.kind n (bag tables g) (λ c env. if_open (free_in g.boxes c) (below c env)) env

  reached-from : (b : ℕ) → holds b marks ≡ true → Reaches g.boxes g.root b
  reached-from b h = (reached-reaches g.boxes w.ordered g.root b).0 h

  pub kept-on : (b : ℕ) → holds b marks ≡ true → kept b ≡ is_nil (free_in g.boxes b)
  kept-on b h = ap (λ (t : Bool). is_nil (beyond g.boxes b) && t) h ∙ and-true (is_nil (beyond g.boxes b)) ∙ nil-alike g w b (reached-from b h)

  pub kept-off : (b : ℕ) → holds b marks ≡ false → kept b ≡ false
  kept-off b h = ap (λ (t : Bool). is_nil (beyond g.boxes b) && t) h ∙ and-false (is_nil (beyond g.boxes b))

  root-marked : holds g.root marks ≡ true
  root-marked = (reached-reaches g.boxes w.ordered g.root g.root).1 (itself g.root)

  pub root-kept : kept g.root ≡ true
  root-kept = ap₂ (λ (xs : List ℕ) (t : Bool). is_nil xs && t) w.top root-marked

  pub under-marked : (n : Node) (r : OwnedQuant) → In n g.boxes → holds n.id marks ≡ true → In r n.quants → holds r.over marks ≡ true
  under-marked n r i h j = in-holds r.over marks (closes (g.root ∷ []) g.boxes w.ordered n r i (holds-in n.id marks h) j)

  -- ---- one evaluation of a box

  abbrev Counted : List Node → Type 0
  Counted ns = (b : ℕ) → has_box ns b ≡ true → holds b marks ≡ true → (env : Environment) → costs tables kept ns b env ≡ counted g.boxes (bag tables g) ns b env

  one-counted : (n : Node) (ns : List Node) → Tail g.boxes (n ∷ ns) → Counted ns → holds n.id marks ≡ true → (env : Environment) → counted_by n.parts.kind n (bag_in tables ns) (asked tables kept ns) env ≡ step n (counted g.boxes (bag tables g) ns) env
  one-counted n ns t below m env =
      counted-same (bag_in tables ns) (bag tables g) (asked tables kept ns) (λ c e. if_open (free_in g.boxes c) (counted g.boxes (bag tables g) ns c e)) n.parts.kind n
      (λ r i e. (
      let held : has_box ns r.over ≡ true = overs-here ns n r (tail-ordered g.boxes (n ∷ ns) t w.ordered) i in
      let on : holds r.over marks ≡ true = under-marked n r (tail-in g.boxes (n ∷ ns) t n (inl refl)) m i in
      let rest : Tail g.boxes ns = behind-one g.boxes n ns t in (
        ap (λ (f : Environment → Bag). f e) (tail-rank (λ env. []) (rows_of tables) g.boxes ns rest w.ordered r.over held),
        ap₂ (λ (k : Bool) (x : ℕ). cond k 0 x) (kept-on r.over on) (below r.over held on e) ∙ open-if (free_in g.boxes r.over) (counted g.boxes (bag tables g) ns r.over e),
      )))
      env

  costs-counted : (ns : List Node) → Tail g.boxes ns → Counted ns
  costs-counted [] t b h m env = absurd (let z : ⊥ = cc in z)
  costs-counted (n ∷ ns) t b h m env =
      let rest : Tail g.boxes ns = behind-one g.boxes n ns t in
      elim (cases_Bool (n.id == b)) [
        | inl e ↦ ap (λ (x : Bool). cond x (counted_by n.parts.kind n (bag_in tables ns) (asked tables kept ns) env) (costs tables kept ns b env)) e
            ∙ one-counted n ns t (costs-counted ns rest) (subst (λ (z : ℕ). holds z marks ≡ true) (sym (eqb-true n.id b e)) m) env
            ∙ sym (ap (λ (x : Bool). cond x (step n (counted g.boxes (bag tables g) ns)) (counted g.boxes (bag tables g) ns b) env) e)
        | inr f ↦ ap (λ (x : Bool). cond x (counted_by n.parts.kind n (bag_in tables ns) (asked tables kept ns) env) (costs tables kept ns b env)) f
            ∙ costs-counted ns rest b (sym (ap (λ (x : Bool). x || has_box ns b) f) ∙ h) m env
            ∙ sym (ap (λ (x : Bool). cond x (step n (counted g.boxes (bag tables g) ns)) (counted g.boxes (bag tables g) ns b) env) f)
      ]

  in-whole : (n : Node) (ns : List Node) → Tail g.boxes (n ∷ ns) → (env : Environment) → step n (counted g.boxes (bag tables g) ns) env ≡ counted g.boxes (bag tables g) g.boxes n.id env
  in-whole n ns t env =
      ap (λ (f : Environment → ℕ). f env)
      (sym (at-head {X = Environment → ℕ} (λ env. 0) step n ns) ∙ tail-rank {X = Environment → ℕ} (λ env. 0) step g.boxes (n ∷ ns) t w.ordered n.id (in-has n (n ∷ ns) (inl refl)))

  -- ---- sums

  sums-costs : (ns : List Node) → Tail g.boxes ns → kept_costs tables kept ns ≡ closed_among g.boxes (bag tables g) marks ns
  sums-costs [] t = refl
  sums-costs (n ∷ ns) t = ap₂ (λ (x y : ℕ). x + y) (elim (cases_Bool (holds n.id marks)) [
    | inr f ↦ ap (λ (k : Bool). cond k (counted_by n.parts.kind n (bag_in tables ns) (asked tables kept ns) []) 0) (kept-off n.id f)
        ∙ sym (ap (λ (k : Bool). cond k (if_closed (free_in g.boxes n.id) (counted g.boxes (bag tables g) g.boxes n.id [])) 0) f)
    | inl m ↦ ap₂ (λ (k : Bool) (x : ℕ). cond k x 0) (kept-on n.id m) (one-counted n ns t (costs-counted ns (behind-one g.boxes n ns t)) m [] ∙ in-whole n ns t [])
        ∙ closed-if (free_in g.boxes n.id) (counted g.boxes (bag tables g) g.boxes n.id [])
        ∙ sym (ap (λ (k : Bool). cond k (if_closed (free_in g.boxes n.id) (counted g.boxes (bag tables g) g.boxes n.id [])) 0) m)
  ]) (sums-costs ns (behind-one g.boxes n ns t))

  sums-number : (ns : List Node) → kept_number kept ns ≡ closed_marked g.boxes marks ns
  sums-number [] = refl
  sums-number (n ∷ ns) = ap₂ (λ (x y : ℕ). x + y) (elim (cases_Bool (holds n.id marks)) [
    | inr f ↦ ap (λ (k : Bool). cond k 1 0) (kept-off n.id f) ∙ sym (ap (λ (k : Bool). cond k (if_closed (free_in g.boxes n.id) 1) 0) f)
    | inl m ↦ ap (λ (k : Bool). cond k 1 0) (kept-on n.id m) ∙ closed-if (free_in g.boxes n.id) 1 ∙ sym (ap (λ (k : Bool). cond k (if_closed (free_in g.boxes n.id) 1) 0) m)
  ]) (sums-number ns)

  -- a box that stands before the root isn't reached
  pub before-off : (m : Node) (ns : List Node) → Tail g.boxes (m ∷ ns) → has_box ns g.root ≡ true → kept m.id ≡ false
  before-off m ns t h = kept-off m.id (elim (cases_Bool (holds m.id marks)) [
    | inr f ↦ f
    | inl y ↦ absurd (not-up g.boxes ns m t w.ordered g.root h (reached-from m.id y))
  ])

  root-costs : (ns : List Node) → Tail g.boxes ns → has_box ns g.root ≡ true → kept_costs tables kept ns ≡ costs tables kept ns g.root [] + kept_costs tables kept (behind g.root ns)
  root-costs [] t h = absurd (let z : ⊥ = cc in z)
  root-costs (m ∷ ns) t h =
      let one : ℕ = counted_by m.parts.kind m (bag_in tables ns) (asked tables kept ns) [] in
      elim (cases_Bool (m.id == g.root)) [
        | inl e ↦ ap (λ (k : Bool). cond k one 0 + kept_costs tables kept ns) (ap kept (eqb-true m.id g.root e) ∙ root-kept)
            ∙ sym (ap (λ (k : Bool). cond k one (costs tables kept ns g.root []) + kept_costs tables kept (cond k ns (behind g.root ns))) e)
        | inr f ↦ (
            let held : has_box ns g.root ≡ true = sym (ap (λ (x : Bool). x || has_box ns g.root) f) ∙ h in
            ap (λ (k : Bool). cond k one 0 + kept_costs tables kept ns) (before-off m ns t held)
            ∙ none-more (kept_costs tables kept ns)
            ∙ root-costs ns (behind-one g.boxes m ns t) held
            ∙ sym (ap (λ (k : Bool). cond k one (costs tables kept ns g.root []) + kept_costs tables kept (cond k ns (behind g.root ns))) f))
      ]

  root-number : (ns : List Node) → Tail g.boxes ns → has_box ns g.root ≡ true → kept_number kept ns ≡ 1 + kept_number kept (behind g.root ns)
  root-number [] t h = absurd (let z : ⊥ = cc in z)
  root-number (m ∷ ns) t h = elim (cases_Bool (m.id == g.root)) [
    | inl e ↦ ap (λ (k : Bool). cond k 1 0 + kept_number kept ns) (ap kept (eqb-true m.id g.root e) ∙ root-kept)
        ∙ sym (ap (λ (k : Bool). 1 + kept_number kept (cond k ns (behind g.root ns))) e)
    | inr f ↦ (
        let held : has_box ns g.root ≡ true = sym (ap (λ (x : Bool). x || has_box ns g.root) f) ∙ h in
        ap (λ (k : Bool). cond k 1 0 + kept_number kept ns) (before-off m ns t held)
        ∙ none-more (kept_number kept ns)
        ∙ root-number ns (behind-one g.boxes m ns t) held
        ∙ sym (ap (λ (k : Bool). 1 + kept_number kept (cond k ns (behind g.root ns))) f))
  ]

  -- ---- the execution

  pub tail-behind : (ns : List Node) → Tail g.boxes ns → Tail g.boxes (behind g.root ns)
  tail-behind [] t = t
  tail-behind (m ∷ ns) t = elim (m.id == g.root) as (λ k. Tail g.boxes (cond k ns (behind g.root ns))) [
    | true ↦ behind-one g.boxes m ns t
    | false ↦ tail-behind ns (behind-one g.boxes m ns t)
  ]

  pub kept-as : (ns : List Node) → Tail g.boxes ns → KeptAs kept marks ns
  kept-as [] t = tt
  kept-as (n ∷ ns) t = (
    ap (λ (xs : List ℕ). is_nil xs && holds n.id marks) (sym (tail-rank [] beyond_of g.boxes (n ∷ ns) t w.ordered n.id (in-has n (n ∷ ns) (inl refl))) ∙ at-head [] beyond_of n ns),
    kept-as ns (behind-one g.boxes n ns t),
  )

  pub took-within : (before after : ℕ) → Took tables g before after → (before + closed_number g ≤ after) × (after ≤ before + plain tables g)
  took-within before after took =
      let between = took w.rooted kept (kept-as (behind g.root g.boxes) (tail-behind g.boxes (whole g.boxes))) in
      let low = root-number g.boxes (whole g.boxes) w.rooted in
      let number = sums-number g.boxes in
      let high = root-costs g.boxes (whole g.boxes) w.rooted in
      let cost = sums-costs g.boxes (whole g.boxes) in
      (omega (arith, between.0, low, number), omega (arith, between.1, high, cost))

  -- ---- where all boxes are closed

  module _ (all : AllClosed g) where
    closed-at : (b : ℕ) → has_box g.boxes b ≡ true → holds b marks ≡ true → free_in g.boxes b ≡ []
    closed-at b h m =
        let x = has-in b g.boxes h in
        subst (λ (z : ℕ). free_in g.boxes z ≡ []) x.1.1 (all x.0 x.1.0 (subst (λ (z : ℕ). Reaches g.boxes g.root z) (sym x.1.1) (reached-from b m)))

    one-step : (n : Node) (ns : List Node) → Tail g.boxes (n ∷ ns) → holds n.id marks ≡ true → (env : Environment) → step n (counted g.boxes (bag tables g) ns) env ≡ 1
    one-step n ns t m env =
        counted-same (bag tables g) (bag tables g) (λ c e. if_open (free_in g.boxes c) (counted g.boxes (bag tables g) ns c e)) none n.parts.kind n
        (λ r i e. (
        let held : has_box g.boxes r.over ≡ true = tail-has g.boxes ns (behind-one g.boxes n ns t) r.over (overs-here ns n r (tail-ordered g.boxes (n ∷ ns) t w.ordered) i) in
        let on : holds r.over marks ≡ true = under-marked n r (tail-in g.boxes (n ∷ ns) t n (inl refl)) m i in
        (refl, ap (λ (xs : List ℕ). if_open xs (counted g.boxes (bag tables g) ns r.over e)) (closed-at r.over held on))))
        env
        ∙ counted-one n.parts.kind n (bag tables g) env

    plain-ones : (ns : List Node) → Tail g.boxes ns → closed_among g.boxes (bag tables g) marks ns ≡ marked_number marks ns
    plain-ones [] t = refl
    plain-ones (n ∷ ns) t = ap₂ (λ (x y : ℕ). x + y) (elim (cases_Bool (holds n.id marks)) [
      | inr f ↦ ap (λ (k : Bool). cond k (if_closed (free_in g.boxes n.id) (counted g.boxes (bag tables g) g.boxes n.id [])) 0) f ∙ sym (ap (λ (k : Bool). cond k 1 0) f)
      | inl m ↦ ap (λ (k : Bool). cond k (if_closed (free_in g.boxes n.id) (counted g.boxes (bag tables g) g.boxes n.id [])) 0) m
          ∙ ap₂ if_closed (closed-at n.id (in-has n g.boxes (tail-in g.boxes (n ∷ ns) t n (inl refl))) m) (sym (in-whole n ns t []) ∙ one-step n ns t m [])
          ∙ sym (ap (λ (k : Bool). cond k 1 0) m)
    ]) (plain-ones ns (behind-one g.boxes n ns t))

    closed-ones : (ns : List Node) → Tail g.boxes ns → closed_marked g.boxes marks ns ≡ marked_number marks ns
    closed-ones [] t = refl
    closed-ones (n ∷ ns) t = ap₂ (λ (x y : ℕ). x + y) (elim (cases_Bool (holds n.id marks)) [
      | inr f ↦ ap (λ (k : Bool). cond k (if_closed (free_in g.boxes n.id) 1) 0) f ∙ sym (ap (λ (k : Bool). cond k 1 0) f)
      | inl m ↦ ap (λ (k : Bool). cond k (if_closed (free_in g.boxes n.id) 1) 0) m
          ∙ ap (λ (xs : List ℕ). if_closed xs 1) (closed-at n.id (in-has n g.boxes (tail-in g.boxes (n ∷ ns) t n (inl refl))) m)
          ∙ sym (ap (λ (k : Bool). cond k 1 0) m)
    ]) (closed-ones ns (behind-one g.boxes n ns t))

    pub took-exactly : (before after : ℕ) → Took tables g before after → after ≡ before + reached_number g
    took-exactly before after took =
        let within = took-within before after took in
        let low = closed-ones g.boxes (whole g.boxes) in
        let high = plain-ones g.boxes (whole g.boxes) in
        omega (arith, within.0, within.1, low, high)

pub plain-of-closed : PlainOfClosed
plain-of-closed tables g w all = plain-ones tables g w all g.boxes (whole g.boxes)
