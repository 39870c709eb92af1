-- Where boxes stand, and what is said of them from below.
use Rattle.std.proofs.Common.{ℕ, suc, zero, ◌≡◌, ◌<◌, ◌≤◌, ◌+◌, ◌||◌, ◌==◌, Bool, true, false, cond, List, [], ◌∷◌, drop, get_or, length, position, slice_get, Option, Some, None, add-one, refl, sym, ◌∙◌, ap, subst, arith, inl, inr}
use Rattle.std.proofs.lemmas.Bool.{cases_Bool}
use Rattle.std.proofs.lemmas.List.Quantifiers.{position-Some}
use Rattle.row_bag.specs.declared.tables.Table.{Table}
use Rattle.qgm_core.specs.Boxes.{has_box, is_box}
use Rattle.qgm_core.specs.declared.node.Node.{Node}
use Rattle.qgm_core.proofs.First.{absent}
use Rattle.qgm_meaning.specs.Meaning.{bag_in, rows_of}
use Rattle.qgm_meaning.specs.Ranks.{by_rank}
use Rattle.qgm_meaning.specs.Values.{Bag, Environment}
use Rattle.row_bag.specs.Bags.{Alike}
use Rattle.box_exec.specs.Lasting.{AllPlanned}
use Rattle.box_exec.specs.Ready.{AllFit, Entry, Fit, Held, IsOpen, Ready, weight}
use Rattle.box_exec.specs.declared.plan.Plan.{Plan}
use Rattle.row_bag.specs.declared.operand.Operand.{Operand}
use Rattle.box_exec.specs.Costs.{is_held}
use Rattle.box_exec.proofs.Evaluations.{keeps-under}
use Rattle.box_exec.proofs.Takings.{ordered-at, seek-at, takes-under}
use Rattle.box_exec.proofs.Loops.{from}

pub not-there : (ns : List Node) (b : ℕ) → position (is_box b) ns ≡ None → has_box ns b ≡ false
not-there ns b e = elim (cases_Bool (has_box ns b)) [
  | inl t ↦ absurd (absent (is_box b) ns e t)
  | inr t ↦ t
]

module _ {X : Type 0} (none : X) (step : Node → (ℕ → X) → X) where
  pub rank-none : (ns : List Node) (b : ℕ) → has_box ns b ≡ false → by_rank none step ns b ≡ none
  rank-none [] b h = refl
  rank-none (n ∷ ns) b h =
      elim (cases_Bool (n.id == b)) [
        | inl t ↦ absurd (let z : true ≡ false = sym (ap (λ (x : Bool). x || has_box ns b) t) ∙ h in let y : ⊥ = cc in y)
        | inr t ↦ ap (λ (x : Bool). cond x (step n (by_rank none step ns)) (by_rank none step ns b)) t ∙ rank-none ns b (sym (ap (λ (x : Bool). x || has_box ns b) t) ∙ h)
      ]

  at-first : (ns : List Node) (b i : ℕ) (d : Node) → i < length ns → is_box b (get_or ns i d) ≡ true → ((k : ℕ) → k < i → is_box b (get_or ns k d) ≡ false)
      → by_rank none step ns b ≡ step (get_or ns i d) (by_rank none step (drop (suc i) ns))
  at-first [] b i d l t before = absurd (omega (arith, l))
  at-first (n ∷ ns) b zero d l t before = ap (λ (x : Bool). cond x (step n (by_rank none step ns)) (by_rank none step ns b)) t
  at-first (n ∷ ns) b (suc i) d l t before =
      ap (λ (x : Bool). cond x (step n (by_rank none step ns)) (by_rank none step ns b)) (before zero (omega arith))
      ∙ at-first ns b i d (omega (arith, l)) t (λ k m. before (suc k) (omega (arith, m)))

  pub rank-at : (ns : List Node) (b i : ℕ) (n : Node) → position (is_box b) ns ≡ Some i → n ≡ get_or ns i n → by_rank none step ns b ≡ step n (by_rank none step (drop (i + 1) ns))
  rank-at ns b i n e at =
      let h = position-Some (is_box b) ns i n e in
      at-first ns b i n h.0 h.1 h.2 ∙ ap (λ (m : Node). step m (by_rank none step (drop (suc i) ns))) (sym at) ∙ ap (λ (k : ℕ). step n (by_rank none step (drop k ns))) (sym (add-one i))

pub inside : (ns : List Node) (b i : ℕ) (n : Node) → position (is_box b) ns ≡ Some i → i < length ns
inside ns b i n e = (position-Some (is_box b) ns i n e).0

-- ---- boxes behind

pub fit-drop : (ns : List Node) (i : ℕ) → AllFit ns → AllFit (drop i ns)
fit-drop ns zero h = h
fit-drop [] (suc i) h = h
fit-drop (n ∷ ns) (suc i) h = fit-drop ns i h.1

ready-drop : (tables : List Table) (memo : List (Option Operand)) (ns : List Node) (i : ℕ) → Ready tables memo ns → Ready tables memo (drop i ns)
ready-drop tables memo ns zero h = h
ready-drop tables memo [] (suc i) h = h
ready-drop tables memo (n ∷ ns) (suc i) h = ready-drop tables memo ns i h.2

pub ready-at : (tables : List Table) (memo : List (Option Operand)) (ns : List Node) (i : ℕ) (n : Node) → i < length ns → n ≡ get_or ns i n → Ready tables memo ns
    → Fit n (drop (i + 1) ns) × Entry tables n (drop (i + 1) ns) (slice_get memo (length (drop (i + 1) ns))) × Ready tables memo (drop (i + 1) ns)
ready-at tables memo ns i n l at h =
    subst (Ready tables memo) (from ns i n l ∙ ap (λ (m : Node). m ∷ drop (i + 1) ns) (sym at)) (ready-drop tables memo ns i h)

plans-drop : (memo : List (Option Operand)) (plans : List (Option Plan)) (ns : List Node) (i : ℕ) → AllPlanned memo plans ns → AllPlanned memo plans (drop i ns)
plans-drop memo plans ns zero h = h
plans-drop memo plans [] (suc i) h = h
plans-drop memo plans (n ∷ ns) (suc i) h = plans-drop memo plans ns i h.1

plans-at : (memo : List (Option Operand)) (plans : List (Option Plan)) (ns : List Node) (i : ℕ) (n : Node) → i < length ns → n ≡ get_or ns i n → AllPlanned memo plans ns → AllPlanned memo plans (n ∷ drop (i + 1) ns)
plans-at memo plans ns i n l at h =
    subst (AllPlanned memo plans) (from ns i n l ∙ ap (λ (m : Node). m ∷ drop (i + 1) ns) (sym at)) (plans-drop memo plans ns i h)

weight-drop : (ns : List Node) (i : ℕ) → weight (drop i ns) ≤ weight ns
weight-drop ns zero = omega arith
weight-drop [] (suc i) = omega arith
weight-drop (n ∷ ns) (suc i) = let h = weight-drop ns i in omega (arith, h)

weight-at : (ns : List Node) (i : ℕ) (n : Node) → i < length ns → n ≡ get_or ns i n → length n.quants + 8 + weight (drop (i + 1) ns) ≤ weight ns
weight-at ns i n l at =
    let h = weight-drop ns i in
    let k : weight (drop i ns) ≡ length n.quants + 8 + weight (drop (i + 1) ns) = ap weight (from ns i n l ∙ ap (λ (m : Node). m ∷ drop (i + 1) ns) (sym at)) in
    omega (arith, h, k)

-- ---- what stands under a quantifier

pub nothing-under : (tables : List Table) (ns : List Node) (b : ℕ) → position (is_box b) ns ≡ None → (env : Environment) → bag_in tables ns b env ≡ []
nothing-under tables ns b e env = ap (λ (f : Environment → Bag). f env) (rank-none (λ env. []) (rows_of tables) ns b (not-there ns b e))

pub bag-at : (tables : List Table) (ns : List Node) (b i : ℕ) (n : Node) → position (is_box b) ns ≡ Some i → n ≡ get_or ns i n → (env : Environment) → bag_in tables ns b env ≡ rows_of tables n (bag_in tables (drop (i + 1) ns)) env
bag-at tables ns b i n e at env = ap (λ (f : Environment → Bag). f env) (rank-at (λ env. []) (rows_of tables) ns b i n e at)

pub open-under : (tables : List Table) (memo : List (Option Operand)) (ns behind : List Node) (b i : ℕ) (n : Node) → position (is_box b) ns ≡ Some i → n ≡ get_or ns i n → behind ≡ drop (i + 1) ns → is_held (slice_get memo (length behind)) ≡ false → Ready tables memo ns
    → IsOpen tables memo ns b n behind
open-under tables memo ns behind b i n e at is unheld ready =
    let free : is_held (slice_get memo (length (drop (i + 1) ns))) ≡ false = subst (λ (ms : List Node). is_held (slice_get memo (length ms)) ≡ false) is unheld in
    let l = inside ns b i n e in
    let h = ready-at tables memo ns i n l at ready in
    subst (IsOpen tables memo ns b n) (sym is) (record { bag = bag-at tables ns b i n e at; fit = h.0; ready = h.2; less = weight-at ns i n l at; plans = λ ps. plans-at memo ps ns i n l at; keeps = keeps-under tables memo ns b i n e at free; seeks = λ kept ps. seek-at kept ps ns i n l at; takes = takes-under tables memo ns b i n e at free; ordered = ordered-at ns i n l at })

pub entry-holds : (tables : List Table) (n : Node) (ns : List Node) (o : Option (Option Operand)) (rows : Bag) (env : Environment) → Entry tables n ns o → Held o rows → Alike rows (rows_of tables n (bag_in tables ns) env)
entry-holds tables n ns None rows env h e = absurd e
entry-holds tables n ns (Some None) rows env h e = absurd e
entry-holds tables n ns (Some (Some s)) rows env h e = subst (λ (b : Bag). Alike b (rows_of tables n (bag_in tables ns) env)) (sym e) (h env)

own : {X : Type 0} (xs : List X) (i : ℕ) (d : X) → i < length xs → get_or xs i d ≡ get_or xs i (get_or xs i d)
own [] i d l = absurd (omega (arith, l))
own (x ∷ xs) zero d l = refl
own (x ∷ xs) (suc i) d l = own xs i d (omega (arith, l))

kept-at : (tables : List Table) (memo : List (Option Operand)) (ns behind : List Node) (b i : ℕ) (rows : Bag) (d : Node) → position (is_box b) ns ≡ Some i → behind ≡ drop (i + 1) ns → Ready tables memo ns → Held (slice_get memo (length behind)) rows
    → (env : Environment) → Alike rows (bag_in tables ns b env)
kept-at tables memo ns behind b i rows d e is ready held env =
    let l = inside ns b i d e in
    let n = get_or ns i d in
    let h = ready-at tables memo ns i n l (own ns i d l) ready in
    subst (Alike rows) (sym (bag-at tables ns b i n e (own ns i d l) env))
    (entry-holds tables n (drop (i + 1) ns) (slice_get memo (length (drop (i + 1) ns))) rows env h.1 (subst (λ (ms : List Node). Held (slice_get memo (length ms)) rows) is held))

pub kept-under : (tables : List Table) (memo : List (Option Operand)) (ns behind : List Node) (b i : ℕ) (rows : Bag) → position (is_box b) ns ≡ Some i → behind ≡ drop (i + 1) ns → Ready tables memo ns → Held (slice_get memo (length behind)) rows
    → (env : Environment) → Alike rows (bag_in tables ns b env)
kept-under tables memo [] behind b i rows e = absurd (let z : ⊥ = cc in z)
kept-under tables memo (n ∷ ns) behind b i rows e = kept-at tables memo (n ∷ ns) behind b i rows n e
