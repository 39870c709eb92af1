-- A box in the place of another.
use Rattle.std.proofs.Common.{ℕ, ◌==◌, ◌≡◌, ◌&&◌, ◌||◌, cond, Bool, true, false, List, [], ◌∷◌, Option, Some, refl, sym, ap, ap₂, subst, ◌∙◌, eqb-true, inl, inr}
use Rattle.std.proofs.lemmas.Bool.{cases_Bool}
use Rattle.row_bag.specs.Bags.{Agree}
use Rattle.row_bag.specs.Sets.{same_cells}
use Rattle.row_bag.specs.declared.tables.Table.{Table}
use Rattle.row_bag.proofs.Agreement.{alike-same}
use Rattle.row_bag.proofs.Counts.{agree-from_alike}
use Rattle.qgm_core.specs.declared.node.Node.{Node}
use Rattle.qgm_core.specs.declared.owned.OwnedQuant.{OwnedQuant}
use Rattle.qgm_core.specs.Boxes.{QueryGraph, Ordered, all_over, box_of, has_box, is_box}
use Rattle.list_laws.specs.Lists.{change, first}
use Rattle.qgm_meaning.specs.Replace.{replace}
use Rattle.qgm_meaning.specs.Laws.{AgreesBack, AllStay, Stays}
use Rattle.qgm_meaning.specs.Meaning.{Family, bag, quant_rows, rows_of}
use Rattle.qgm_meaning.specs.Values.{Bag, Environment}
use Rattle.qgm_meaning.proofs.Alikes.{only-alike}
use Rattle.qgm_meaning.proofs.Ranked.{GivenBack, self-back}
use Rattle.qgm_meaning.proofs.Unfold.{rows-local, unfold-bag}

-- the same boxes are held
pub held-change : (b : ℕ) (m : Node) (x : ℕ) (ns : List Node) → m.id ≡ b → has_box (change (is_box b) (λ _. m) ns) x ≡ has_box ns x
held-change b m x [] e = refl
held-change b m x (n ∷ ns) e = elim (cases_Bool (n.id == b)) [
  | inl t ↦ rw t (ap (λ (y : ℕ). (y == x) || has_box ns x) (e ∙ sym (eqb-true n.id b t)))
  | inr t ↦ rw t (ap (λ (z : Bool). (n.id == x) || z) (held-change b m x ns e))
]

over-change : (b : ℕ) (m : Node) (ns : List Node) (rs : List OwnedQuant) → m.id ≡ b → all_over (change (is_box b) (λ _. m) ns) rs ≡ all_over ns rs
over-change b m ns [] e = refl
over-change b m ns (r ∷ rs) e = ap₂ (λ (x y : Bool). x && y) (held-change b m r.over ns e) (over-change b m ns rs e)

pub ordered-change : (b : ℕ) (n m : Node) (ns : List Node) → m.id ≡ b → first (is_box b) ns ≡ Some n → ((ks : List Node) → all_over ks n.quants ≡ true → all_over ks m.quants ≡ true) → Ordered ns → Ordered (change (is_box b) (λ _. m) ns)
ordered-change b n m [] e h overs o = tt
ordered-change b n m (k ∷ ns) e h overs o =
    elim (k.id == b) as (λ t. (k.id == b) ≡ t → ◌≡◌ {A = Option Node} (cond t (Some k) (first (is_box b) ns)) (Some n) → Ordered (cond t (m ∷ ns) (k ∷ change (is_box b) (λ _. m) ns))) [
      | true ↦ λ t h. (let same : k ≡ n = cc in
          (subst (λ (y : ℕ). has_box ns y ≡ false) (eqb-true k.id b t ∙ sym e) o.0, overs ns (subst (λ (z : Node). all_over ns z.quants ≡ true) same o.1), o.2))
      | false ↦ λ t h. (held-change b m k.id ns e ∙ o.0, over-change b m ns k.quants e ∙ o.1, ordered-change b n m ns e h overs o.2)
    ] refl h

agree-same : {xs ys : Bag} → xs ≡ ys → Agree same_cells xs ys
agree-same e = agree-from_alike same_cells (alike-same e)

module _ (tables : List Table) (f : Family) (passes : Environment → Bool) where
  back-all : (ns : List Node) → GivenBack (λ env. []) (rows_of tables) (rows-local tables) f ns → AllStay passes f ns → AgreesBack passes tables f ns
  back-all [] s st = tt
  back-all (n ∷ ns) s st = (st.0, (λ env p. agree-same (ap (λ (h : Environment → Bag). h env) s.0)), back-all ns s.1 st.1)

  back-change : (b : ℕ) (m : Node) (ns : List Node) → Stays passes (quant_rows m f) m.quants → ((env : Environment) → passes env ≡ true → Agree same_cells (rows_of tables m f env) (f m.id env))
      → GivenBack (λ env. []) (rows_of tables) (rows-local tables) f ns → AllStay passes f ns → AgreesBack passes tables f (change (is_box b) (λ _. m) ns)
  back-change b m [] sm h s st = tt
  back-change b m (n ∷ ns) sm h s st = elim (n.id == b) as (λ t. AgreesBack passes tables f (cond t (m ∷ ns) (n ∷ change (is_box b) (λ _. m) ns))) [
    | true ↦ (sm, h, back-all ns s.1 st.1)
    | false ↦ (st.0, (λ env p. agree-same (ap (λ (h : Environment → Bag). h env) s.0)), back-change b m ns sm h s.1 st.1)
  ]

pub replaced : (tables : List Table) (g : QueryGraph) (passes : Environment → Bool) (b : ℕ) (n m : Node) → Ordered g.boxes → box_of b g ≡ Some n → m.id ≡ b → ((ns : List Node) → all_over ns n.quants ≡ true → all_over ns m.quants ≡ true)
    → AllStay passes (bag tables g) g.boxes → Stays passes (quant_rows m (bag tables g)) m.quants
    → ((env : Environment) → passes env ≡ true → Agree same_cells (rows_of tables m (bag tables g) env) (rows_of tables n (bag tables g) env))
    → (x : ℕ) → has_box g.boxes x ≡ true → (env : Environment) → passes env ≡ true → Agree same_cells (bag tables (replace b m g) x env) (bag tables g x env)
replaced tables g passes b n m o held id overs st sm h x hx env p =
    agree-from_alike same_cells (only-alike tables (bag tables g) passes (change (is_box b) (λ _. m) g.boxes) (ordered-change b n m g.boxes id held overs o)
    (back-change tables (bag tables g) passes b m g.boxes sm
    (λ env p. subst (λ (rows : Bag). Agree same_cells (rows_of tables m (bag tables g) env) rows) (sym (unfold-bag tables g.boxes b n env o held) ∙ ap (λ (y : ℕ). bag tables g y env) (sym id)) (h env p))
    (self-back (λ env. []) (rows_of tables) (rows-local tables) g.boxes o) st) x (held-change b m x g.boxes id ∙ hx) env p)
