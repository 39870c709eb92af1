-- What an execution takes is what the definition of ways says.
use Rattle.std.proofs.Common.{ℕ, ◌≡◌, ◌≤◌, ◌+◌, ◌==◌, ◌&&◌, ◌||◌, not, Bool, true, false, cond, List, [], ◌∷◌, length, refl, sym, ap, ap₂, subst, ◌∙◌, eqb-true, inl, inr, arith}
use Rattle.std.specs.List.{list_all}
use Rattle.std.proofs.lemmas.Bool.{cases_Bool}
use Rattle.row_bag.specs.Bags.{total}
use Rattle.row_bag.specs.declared.tables.Table.{Table}
use Rattle.qgm_core.specs.Boxes.{HasBox, Ordered, QueryGraph, has_box}
use Rattle.qgm_core.specs.Free.{free_in, reached}
use Rattle.qgm_core.specs.Kinds.{is_F}
use Rattle.list_laws.specs.Lists.{In, holds}
use Rattle.qgm_core.specs.declared.kinds.BoxKind.{BoxKind}
use Rattle.qgm_core.specs.declared.kinds.BoxKind.TheVariants.{Base, Select, Group, SetOp, OuterJoin}
use Rattle.qgm_core.specs.declared.node.Node.{Node}
use Rattle.qgm_core.specs.declared.owned.OwnedQuant.{OwnedQuant}
use Rattle.qgm_meaning.specs.Meaning.{Family, bag, bag_in, rows_of}
use Rattle.qgm_meaning.specs.Plain.{Counts}
use Rattle.qgm_meaning.specs.Values.{Bag, Environment, bound}
use Rattle.box_exec.specs.Closed.{NamesBound}
use Rattle.box_exec.specs.Kept.{KeptAs, behind, is_nil}
use Rattle.box_exec.specs.Taken.{bound_order, in_turn, is_taken, matches, taken, taken_among, taken_by, takes, unless_closed, ways, ways_number}
use Rattle.box_exec.specs.Takings.{asked_takings, kept_takings, takings}
use Rattle.box_exec.proofs.Counting.{SameBelow, each-same, rows-same, total-same}
use Rattle.box_exec.proofs.Orders.{reordered-in}
use Rattle.qgm_core.proofs.Reaching.{in-has}
use Rattle.box_exec.proofs.Tails.{Tail, at-head, behind-one, overs-here, tail-in, tail-ordered, tail-rank, whole}
use Rattle.box_exec.proofs.Totals.{before-off, kept, kept-as, kept-off, kept-on, marks, none-more, root-kept, tail-behind, under-marked}
use Rattle.box_exec.proofs.Turns.{turn-reorders}

-- ---- boxes that are kept, or closed

-- two ways to say which boxes are closed say the same under these
abbrev SameClosed : List OwnedQuant → (ℕ → Bool) → (ℕ → Bool) → Type 0
SameClosed rs kept closed = (r : OwnedQuant) → In r rs → kept r.over ≡ closed r.over

all-same : (kept closed : ℕ → Bool) (rs : List OwnedQuant) → SameClosed rs kept closed → list_all (λ r. kept r.over) rs ≡ list_all (λ r. closed r.over) rs
all-same kept closed [] h = refl
all-same kept closed (r ∷ rs) h = ap₂ (λ (x y : Bool). x && y) (h r (inl refl)) (all-same kept closed rs (λ s i. h s (inr i)))

order-in : (closed : ℕ → Bool) (n : Node) (r : OwnedQuant) → In r (bound_order closed n) → In r n.quants
order-in closed n r = elim (list_all (λ r. closed r.over) n.quants) as (λ b. In r (cond b (in_turn n (length n.quants) n.quants) n.quants) → In r n.quants) [
  | true ↦ reordered-in n.quants (in_turn n (length n.quants) n.quants) (turn-reorders n (length n.quants) n.quants refl) r
  | false ↦ λ i. i
]

module _ (kept closed : ℕ → Bool) (bags others : Family) (count counts : Counts) (n : Node) where
  ways-same : (rs : List OwnedQuant) → SameClosed rs kept closed → SameBelow rs bags others count counts → (env : Environment) → ways kept n rs bags env ≡ ways closed n rs others env
  ways-same [] h k env = refl
  ways-same (r ∷ rs) h k env =
      let rest : (e : Environment) → ways kept n rs bags e ≡ ways closed n rs others e = λ e. ways-same rs (λ s i. h s (inr i)) (λ s i. k s (inr i)) e in
      ap₂ (λ (x y : ℕ). cond (is_F r.kind) x y)
      (total-same (λ cells level. cond (is_taken kept n r rs env cells) (1 + ways kept n rs bags (bound r.id cells env)) 0) (λ cells level. cond (is_taken closed n r rs env cells) (1 + ways closed n rs others (bound r.id cells env)) 0)
      (λ cells level. ap₂ (λ (b : Bool) (x : ℕ). cond (not b || takes (matches n r rs) r.id env cells) (1 + x) 0) (h r (inl refl)) (rest (bound r.id cells env))) (bags r.over env)
      ∙ ap (λ (rows : Bag). total ◌+◌ 0 (λ cells level. cond (is_taken closed n r rs env cells) (1 + ways closed n rs others (bound r.id cells env)) 0) rows) (k r (inl refl) env).0)
      (rest env)

  pub taken-same : (kind : BoxKind) → SameClosed n.quants kept closed → SameBelow n.quants bags others count counts → (env : Environment) → taken_by kept kind n bags count env ≡ taken_by closed kind n others counts env
  taken-same (Base table) h k env = refl
  taken-same Select h k env =
      let order : bound_order kept n ≡ bound_order closed n = ap (λ (b : Bool). cond b (in_turn n (length n.quants) n.quants) n.quants) (all-same kept closed n.quants h) in
      ap₂ (λ (x y : ℕ). x + y)
      (ap (λ (rs : List OwnedQuant). ways kept n rs bags env) order ∙ ways-same (bound_order closed n) (λ r i. h r (order-in closed n r i)) (λ r i. k r (order-in closed n r i)) env)
      (rows-same bags others count counts n.quants n.quants k k env)
  taken-same (Group keys) h k env = each-same bags others count counts n.quants k env
  taken-same (SetOp operator types) h k env = each-same bags others count counts n.quants k env
  taken-same OuterJoin h k env = each-same bags others count counts n.quants k env

-- ---- an execution

-- the root and each box behind it that is kept take so many rows at most
abbrev pub TookRows : List Table → QueryGraph → ℕ → ℕ → Type 0
TookRows tables g before after =
    HasBox g.root g → Ordered g.boxes → (kept : ℕ → Bool) → KeptAs kept (reached (g.root ∷ []) g.boxes) (behind g.root g.boxes) → after ≤ before + (takings tables kept g.boxes g.root [] + kept_takings tables kept (behind g.root g.boxes))

module _ (tables : List Table) (g : QueryGraph) (w : NamesBound g) where
  abbrev held : ℕ → Bool
  held = kept tables g w

  abbrev closed : ℕ → Bool
  closed b = is_nil (free_in g.boxes b)

  abbrev marked : List ℕ
  marked = marks tables g w

  -- one evaluation of a box over what is taken below it
  abbrev step : Node → Counts → Environment → ℕ
  step n below env = taken_by closed n.parts.kind n (bag tables g) (unless_closed closed below) env

  one-taken : (n : Node) (ns : List Node) → Tail g.boxes (n ∷ ns) → ((b : ℕ) → has_box ns b ≡ true → holds b marked ≡ true → (env : Environment) → takings tables held ns b env ≡ taken closed (bag tables g) ns b env) → holds n.id marked ≡ true → (env : Environment)
      → taken_by held n.parts.kind n (bag_in tables ns) (asked_takings tables held ns) env ≡ step n (taken closed (bag tables g) ns) env
  one-taken n ns t below m env =
      let there : (r : OwnedQuant) → In r n.quants → has_box ns r.over ≡ true = λ r i. overs-here ns n r (tail-ordered g.boxes (n ∷ ns) t w.ordered) i in
      let on : (r : OwnedQuant) → In r n.quants → holds r.over marked ≡ true = λ r i. under-marked tables g w n r (tail-in g.boxes (n ∷ ns) t n (inl refl)) m i in
      taken-same held closed (bag_in tables ns) (bag tables g) (asked_takings tables held ns) (unless_closed closed (taken closed (bag tables g) ns)) n n.parts.kind
      (λ r i. kept-on tables g w r.over (on r i))
      (λ r i e. (
        ap (λ (f : Environment → Bag). f e) (tail-rank (λ env. []) (rows_of tables) g.boxes ns (behind-one g.boxes n ns t) w.ordered r.over (there r i)),
        ap₂ (λ (k : Bool) (x : ℕ). cond k 0 x) (kept-on tables g w r.over (on r i)) (below r.over (there r i) (on r i) e),
      ))
      env

  takings-taken : (ns : List Node) → Tail g.boxes ns → (b : ℕ) → has_box ns b ≡ true → holds b marked ≡ true → (env : Environment) → takings tables held ns b env ≡ taken closed (bag tables g) ns b env
  takings-taken [] t b h m env = absurd (let z : ⊥ = cc in z)
  takings-taken (n ∷ ns) t b h m env =
      let rest : Tail g.boxes ns = behind-one g.boxes n ns t in
      elim (cases_Bool (n.id == b)) [
        | inl e ↦ ap (λ (x : Bool). cond x (taken_by held n.parts.kind n (bag_in tables ns) (asked_takings tables held ns) env) (takings tables held ns b env)) e
            ∙ one-taken n ns t (takings-taken ns rest) (subst (λ (z : ℕ). holds z marked ≡ true) (sym (eqb-true n.id b e)) m) env
            ∙ sym (ap (λ (x : Bool). cond x (step n (taken closed (bag tables g) ns)) (taken closed (bag tables g) ns b) env) e)
        | inr f ↦ ap (λ (x : Bool). cond x (taken_by held n.parts.kind n (bag_in tables ns) (asked_takings tables held ns) env) (takings tables held ns b env)) f
            ∙ takings-taken ns rest b (sym (ap (λ (x : Bool). x || has_box ns b) f) ∙ h) m env
            ∙ sym (ap (λ (x : Bool). cond x (step n (taken closed (bag tables g) ns)) (taken closed (bag tables g) ns b) env) f)
      ]

  in-whole : (n : Node) (ns : List Node) → Tail g.boxes (n ∷ ns) → (env : Environment) → step n (taken closed (bag tables g) ns) env ≡ taken closed (bag tables g) g.boxes n.id env
  in-whole n ns t env =
      ap (λ (f : Environment → ℕ). f env)
      (sym (at-head {X = Environment → ℕ} (λ env. 0) step n ns) ∙ tail-rank {X = Environment → ℕ} (λ env. 0) step g.boxes (n ∷ ns) t w.ordered n.id (in-has n (n ∷ ns) (inl refl)))

  sums-taken : (ns : List Node) → Tail g.boxes ns → kept_takings tables held ns ≡ taken_among closed (bag tables g) g.boxes marked ns
  sums-taken [] t = refl
  sums-taken (n ∷ ns) t =
      let one : ℕ = taken_by held n.parts.kind n (bag_in tables ns) (asked_takings tables held ns) [] in
      let all : ℕ = taken closed (bag tables g) g.boxes n.id [] in
      ap₂ (λ (x y : ℕ). x + y) (elim (cases_Bool (holds n.id marked)) [
        | inr f ↦ ap (λ (k : Bool). cond k one 0) (kept-off tables g w n.id f) ∙ sym (ap (λ (k : Bool). cond (k && closed n.id) all 0) f)
        | inl m ↦ ap₂ (λ (k : Bool) (x : ℕ). cond k x 0) (kept-on tables g w n.id m) (one-taken n ns t (takings-taken ns (behind-one g.boxes n ns t)) m [] ∙ in-whole n ns t [])
            ∙ sym (ap (λ (k : Bool). cond (k && closed n.id) all 0) m)
      ]) (sums-taken ns (behind-one g.boxes n ns t))

  root-taken : (ns : List Node) → Tail g.boxes ns → has_box ns g.root ≡ true → kept_takings tables held ns ≡ takings tables held ns g.root [] + kept_takings tables held (behind g.root ns)
  root-taken [] t h = absurd (let z : ⊥ = cc in z)
  root-taken (m ∷ ns) t h =
      let one : ℕ = taken_by held m.parts.kind m (bag_in tables ns) (asked_takings tables held ns) [] in
      elim (cases_Bool (m.id == g.root)) [
        | inl e ↦ ap (λ (k : Bool). cond k one 0 + kept_takings tables held ns) (ap held (eqb-true m.id g.root e) ∙ root-kept tables g w)
            ∙ sym (ap (λ (k : Bool). cond k one (takings tables held ns g.root []) + kept_takings tables held (cond k ns (behind g.root ns))) e)
        | inr f ↦ (
            let there : has_box ns g.root ≡ true = sym (ap (λ (x : Bool). x || has_box ns g.root) f) ∙ h in
            ap (λ (k : Bool). cond k one 0 + kept_takings tables held ns) (before-off tables g w m ns t there)
            ∙ none-more (kept_takings tables held ns)
            ∙ root-taken ns (behind-one g.boxes m ns t) there
            ∙ sym (ap (λ (k : Bool). cond k one (takings tables held ns g.root []) + kept_takings tables held (cond k ns (behind g.root ns))) f))
      ]

  pub taken-within : (before after : ℕ) → TookRows tables g before after → after ≤ before + ways_number tables g
  taken-within before after took =
      let most = took w.rooted w.ordered held (kept-as tables g w (behind g.root g.boxes) (tail-behind tables g w g.boxes (whole g.boxes))) in
      let high = root-taken g.boxes (whole g.boxes) w.rooted in
      let sum = sums-taken g.boxes (whole g.boxes) in
      omega (arith, most, high, sum)
