-- Nothing is given where a condition rejects before all quantifiers are bound.
use Rattle.std.proofs.Common.{ℕ, suc, zero, ◌≡◌, ◌<◌, ◌==◌, ◌&&◌, ◌++◌, Bool, true, false, cond, All, List, [], ◌∷◌, Some, append-nil, drop, get_or, length, map, refl, sym, ap, subst, ◌∙◌, eqb-true, inl, inr, arith}
use Rattle.std.specs.List.{list_any}
use Rattle.std.proofs.lemmas.Bool.{and_parts, cases_Bool, or_left, or_right}
use Rattle.row_bag.specs.Bags.{Alike, bind, keep, unit}
use Rattle.row_bag.proofs.Agreement.{alike-append, alike-bind, alike-keep, alike-keep_no, alike-refl, alike-same, alike-sym, alike-trans}
use Rattle.sql_value.specs.Level.{least}
use Rattle.sql_value.specs.declared.cell.Cell.{Cell}
use Rattle.sql_value.specs.declared.level.Level.{Level}
use Rattle.sql_value.specs.declared.level.Level.TheVariants.{No, Cardinality, Division, Overflow, Yes}
use Rattle.qgm_core.specs.Boxes.{is_quant}
use Rattle.qgm_core.specs.Kinds.{is_F}
use Rattle.list_laws.specs.Lists.{In, first}
use Rattle.qgm_core.specs.declared.node.Node.{Node}
use Rattle.qgm_core.specs.declared.owned.OwnedQuant.{OwnedQuant}
use Rattle.qgm_meaning.specs.Meaning.{Family, given_by, over_each, quant_rows, rows_found}
use Rattle.qgm_meaning.specs.Searches.{names_cond}
use Rattle.qgm_meaning.specs.Values.{Bag, Environment, all_true, bound, head_cells, row_of, truth}
use Rattle.qgm_meaning.proofs.Frames.{SameRows, truth-framed}
use Rattle.qgm_meaning.proofs.Nodes.{truth-nodes}
use Rattle.qgm_terms.specs.Terms.{Cond}
use Rattle.qgm_terms.specs.Wanted.{reads_cond}
use Rattle.qgm_terms.specs.Shown as shown
use Rattle.box_exec.specs.Early.{IsEarly, is_none, rejects}
use Rattle.box_exec.specs.Plans.{Bound, family, left_at, ranges}
use Rattle.box_exec.specs.Sources.{held_by}
use Rattle.box_exec.specs.declared.boxes.At.{At}
use Rattle.box_exec.specs.declared.early.Early.{Early}
use Rattle.list_laws.proofs.Booleans.{clash, neither-left, neither-right}
use Rattle.list_laws.proofs.Membership.{any-in}

-- ---- lists

pub all-at : {X : Type 0} (P : X → Type 0) (x : X) (xs : List X) → All P xs → In x xs → P x
all-at P x [] h i = elim i [ ]
all-at P x (y ∷ xs) h i = elim i [
  | inl e ↦ subst P e (h zero y (omega arith))
  | inr j ↦ all-at P x xs (λ k d l. h (suc k) d (omega (arith, l))) j
]

-- ---- one condition that rejects

least-no : (l : Level) → least l No ≡ No
least-no No = refl
least-no Cardinality = refl
least-no Division = refl
least-no Overflow = refl
least-no Yes = refl

no-least : (l : Level) → least No l ≡ No
no-least No = refl
no-least Cardinality = refl
no-least Division = refl
no-least Overflow = refl
no-least Yes = refl

pub none-no : (l : Level) → is_none l ≡ true → l ≡ No
none-no No h = refl
none-no Cardinality h = absurd (let z : ⊥ = cc in z)
none-no Division h = absurd (let z : ⊥ = cc in z)
none-no Overflow h = absurd (let z : ⊥ = cc in z)
none-no Yes h = absurd (let z : ⊥ = cc in z)

module _ (s : ℕ → Bag) (env : Environment) where
  pub all-no : (c : Cond) (ps : List Cond) → In c ps → (truth s c env).t ≡ No → (all_true s ps env).t ≡ No
  all-no c [] i h = elim i [ ]
  all-no c (p ∷ ps) i h = elim i [
    | inl e ↦ ap (λ (l : Level). least l (all_true s ps env).t) (ap (λ (p : Cond). (truth s p env).t) e ∙ h) ∙ no-least (all_true s ps env).t
    | inr j ↦ ap (λ (l : Level). least (truth s p env).t l) (all-no c ps j h) ∙ least-no (truth s p env).t
  ]

abbrev no-rows : List Cell → Bag
no-rows cells = []

bind-none : (rows : Bag) → bind rows no-rows ≡ []
bind-none [] = refl
bind-none (r ∷ rows) = bind-none rows

unnamed-found : (f : Family) (c : Cond) (q : ℕ) (env : Environment) (rs : List OwnedQuant) → list_any (λ (r : OwnedQuant). names_cond r.id c) rs ≡ false → names_cond q c ≡ true → rows_found (first (is_quant q) rs) f env ≡ []
unnamed-found f c q env [] none named = refl
unnamed-found f c q env (r ∷ rs) none named = elim (cases_Bool (r.id == q)) [
  | inl e ↦ absurd (clash (names_cond q c) named (subst (λ (z : ℕ). names_cond z c ≡ false) (eqb-true r.id q e) (neither-left (names_cond r.id c) (list_any (λ (r : OwnedQuant). names_cond r.id c) rs) none)))
  | inr n ↦ ap (λ (b : Bool). rows_found (cond b (Some r) (first (is_quant q) rs)) f env) n
      ∙ unnamed-found f c q env rs (neither-right (names_cond r.id c) (list_any (λ (r : OwnedQuant). names_cond r.id c) rs) none) named
]

module _ (n : Node) (f : Family) (c : Cond) (env : Environment) (stands : In c n.parts.conds.items) (unnamed : list_any (λ (r : OwnedQuant). names_cond r.id c) n.quants ≡ false) (no : (truth (held_by []) c env).t ≡ No) where
  over-none : (rs : List OwnedQuant) → list_any (λ (r : OwnedQuant). reads_cond r.id c) rs ≡ false → (e : Environment) → SameRows (λ q. reads_cond q c) e env → Alike (over_each rs (quant_rows n f) (given_by (quant_rows n f) n) e) []
  over-none [] unread e same =
      let rows : ℕ → Bag = λ q. quant_rows n f q e in
      let rejects : (truth rows c e).t ≡ No = ap (λ (x : _). x.t) (truth-nodes rows (held_by []) c e (λ q named. unnamed-found f c q e n.quants unnamed named) ∙ truth-framed (held_by []) c e env same) ∙ no in
      alike-trans (alike-same (ap (λ (l : Level). keep l (unit (head_cells rows n.parts.head e))) (all-no rows e c n.parts.conds.items stands rejects))) (alike-keep_no (unit (head_cells rows n.parts.head e)))
  over-none (r ∷ rs) unread e same =
      let here : reads_cond r.id c ≡ false = neither-left (reads_cond r.id c) (list_any (λ (r : OwnedQuant). reads_cond r.id c) rs) unread in
      let rest = neither-right (reads_cond r.id c) (list_any (λ (r : OwnedQuant). reads_cond r.id c) rs) unread in
      elim (is_F r.kind) as (λ k. Alike (cond k (bind (quant_rows n f r.id e) (λ cells. over_each rs (quant_rows n f) (given_by (quant_rows n f) n) (bound r.id cells e))) (over_each rs (quant_rows n f) (given_by (quant_rows n f) n) e)) []) [
        | true ↦ alike-trans
            (alike-bind (alike-refl (quant_rows n f r.id e)) (λ cells. over-none rs rest (bound r.id cells e) (beside r.id cells e here same)))
            (alike-same (bind-none (quant_rows n f r.id e)))
        | false ↦ over-none rs rest e same
      ]
    where
      beside : (x : ℕ) (cells : List Cell) (e : Environment) → reads_cond x c ≡ false → SameRows (λ q. reads_cond q c) e env → SameRows (λ q. reads_cond q c) (bound x cells e) env
      beside x cells e away same = record {
        rows = λ q h. elim (cases_Bool (x == q)) [
          | inl t ↦ absurd (clash (reads_cond q c) h (subst (λ (z : ℕ). reads_cond z c ≡ false) (eqb-true x q t) away))
          | inr t ↦ ap (λ (b : Bool). cond b cells (row_of q e)) t ∙ same.rows q h
        ];
      }

pub rejects-all : (at : At) → Bound at → (k : ℕ) (env : Environment) → rejects at.early.now k env ≡ true → Alike (left_at at k env) []
rejects-all at plan k env h =
    let x = any-in (λ (e : Early). (e.place == k) && is_none (truth (held_by []) (shown.cond e.cond.now) env).t) at.early.now h in
    let e = x.0 in
    let both = and_parts (e.place == k) (is_none (truth (held_by []) (shown.cond e.cond.now) env).t) x.1.1 in
    let is = all-at (λ (e : Early). IsEarly at.node.now (ranges at.loops.now) e) e at.early.now plan.plan.early x.1.0 in
    over-none at.node.now (family at) (shown.cond e.cond.now) env is.stands is.unnamed
    (none-no (truth (held_by []) (shown.cond e.cond.now) env).t both.1)
    (drop k (ranges at.loops.now))
    (subst (λ (z : ℕ). list_any (λ (r : OwnedQuant). reads_cond r.id (shown.cond e.cond.now)) (drop z (ranges at.loops.now)) ≡ false) (eqb-true e.place k both.0) is.unread)
    env (record { rows = λ q h. refl })

pub nothing-added : (level : Level) (out rows : Bag) → Alike rows [] → Alike out (out ++ keep level rows)
nothing-added level out rows h = alike-trans (alike-same (sym (append-nil out))) (alike-append (alike-refl out) (alike-sym (alike-keep level h)))

-- ---- the conditions themselves

pub in-map-at : {X Y : Type 0} (f : X → Y) (xs : List X) (i : ℕ) (x : X) → i < length xs → x ≡ get_or xs i x → In (f x) (map f xs)
in-map-at f [] i x l e = absurd (omega (arith, l))
in-map-at f (y ∷ xs) zero x l e = inl (ap f (sym e))
in-map-at f (y ∷ xs) (suc i) x l e = inr (in-map-at f xs i x (omega (arith, l)) e)

pub all-push : {X : Type 0} (P : X → Type 0) (xs : List X) (x : X) → All P xs → P x → All P (xs ++ x ∷ [])
all-push P [] x h p zero d l = p
all-push P [] x h p (suc k) d l = absurd (omega (arith, l))
all-push P (y ∷ xs) x h p zero d l = h zero y (omega arith)
all-push P (y ∷ xs) x h p (suc k) d l = all-push P xs x (λ i e m. h (suc i) e (omega (arith, m))) p k d (omega (arith, l))

pub all-more : {X : Type 0} (P : X → Type 0) (xs ys : List X) {x : X} → ys ≡ xs ++ x ∷ [] → All P xs → P x → All P ys
all-more P xs ys {x = x} e h p = subst (All P) (sym e) (all-push P xs x h p)

pub any-at : {X : Type 0} (p : X → Bool) (xs : List X) (i : ℕ) (x : X) → i < length xs → x ≡ get_or xs i x → p x ≡ true → list_any p xs ≡ true
any-at p [] i x l e h = absurd (omega (arith, l))
any-at p (y ∷ xs) zero x l e h = or_left (p y) (list_any p xs) (ap p (sym e) ∙ h)
any-at p (y ∷ xs) (suc i) x l e h = or_right (p y) (list_any p xs) (any-at p xs i x (omega (arith, l)) e h)
