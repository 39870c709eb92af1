-- What the tests of P2 to P4 say: of columns that a conjunct reads, and of the select that takes it.
use Rattle.std.proofs.Common.{ℕ, ◌==◌, ◌≡◌, ◌||◌, not, Bool, true, false, List, ◌∷◌, ◌++◌, Option, Some, None, refl, sym, ap, subst, ◌∙◌, eqb-true, inl, inr, []}
use Rattle.std.specs.Prelude.{◌↔◌}
use Rattle.std.specs.List.{list_all, list_any}
use Rattle.std.proofs.lemmas.Bool.{and_from, and_parts, cases_Bool, eq-eqb, not-true, or_cases, or_left, or_right}
use Rattle.qgm_core.specs.Boxes.{QueryGraph, box_of, overs_in}
use Rattle.list_laws.specs.Lists.{times}
use Rattle.qgm_core.specs.declared.node.Node.{Node}
use Rattle.qgm_core.specs.declared.owned.OwnedQuant.{OwnedQuant}
use Rattle.qgm_terms.specs.Named.{columns_in_cond}
use Rattle.qgm_terms.specs.Terms.{Cond}
use Rattle.qgm_terms.specs.Wanted.{reads_at_cond}
use Rattle.qgm_terms.specs.declared.named.Column.{Column}
use Rattle.qgm_edit_laws.proofs.Levels.{number-of}
use Rattle.qgm_edit_laws.proofs.Read.{columns-listed, is_at}
use Rattle.rule_facts.specs.Places.{in_box, is_plain_select, plain-from, plain-to}
use Rattle.rule_push.specs.PushPlaces.{is_input, reads_only}
use Rattle.rule_push.specs.Pushable.{Input}
use Rattle.list_laws.proofs.Booleans.{clash}

-- ---- columns that are read

any-either : (t : Column → Bool) (xs : List Column) → list_any t (xs ++ []) ≡ list_any t xs
any-either t [] = refl
any-either t (x ∷ xs) = ap (λ z. t x || z) (any-either t xs)

-- a column that is read is among those that are named
read-listed : (c : Node) (q k : ℕ) (p : Cond) → reads_at_cond q k p ≡ true → list_any (is_at q k) (columns_in_cond p) ≡ true
read-listed c q k p h =
    sym (any-either (is_at q k) (columns_in_cond p))
    ∙ columns-listed q k (record c { parts = record c.parts { head = []; conds = record c.parts.conds { items = p ∷ [] } } }) (or_left (reads_at_cond q k p) false h)

all-at : (t : ℕ → Bool) (q k : ℕ) (xs : List Column) → list_any (is_at q k) xs ≡ true → list_all (λ x. t x.place) xs ≡ true → t k ≡ true
all-at t q k [] a h = absurd (let z : ⊥ = cc in z)
all-at t q k (x ∷ xs) a h =
    let s = and_parts (t x.place) (list_all (λ x. t x.place) xs) h in
    elim (or_cases (is_at q k x) (list_any (is_at q k) xs) a) [
      | inl e ↦ subst (λ z. t z ≡ true) (eqb-true x.place k (and_parts (x.quant == q) (x.place == k) e).1) s.0
      | inr i ↦ all-at t q k xs i s.1
    ]

all-from : (t : Column → Bool) (xs : List Column) → ((x : Column) → t x ≡ true) → list_all t xs ≡ true
all-from t [] f = refl
all-from t (x ∷ xs) f = and_from (t x) (list_all t xs) (f x) (all-from t xs f)

-- exactly the places that are read pass (c is any box)
pub reads-only-is : (c : Node) (passes : ℕ → Bool) (q : ℕ) (p : Cond) → (reads_only passes q p ≡ true) ↔ ((k : ℕ) → reads_at_cond q k p ≡ true → passes k ≡ true)
reads-only-is c passes q p = (
  λ h k t. (elim (or_cases (passes k) (not (reads_at_cond q k p)) (all-at (λ k. passes k || not (reads_at_cond q k p)) q k (columns_in_cond p) (read-listed c q k p t) h)) [
    | inl y ↦ y
    | inr n ↦ absurd (clash (reads_at_cond q k p) t (not-true (reads_at_cond q k p) n))
  ]),
  λ f. all-from (λ x. passes x.place || not (reads_at_cond q x.place p)) (columns_in_cond p) (λ x. elim (cases_Bool (reads_at_cond q x.place p)) [
    | inl t ↦ or_left (passes x.place) (not (reads_at_cond q x.place p)) (f x.place t)
    | inr n ↦ or_right (passes x.place) (not (reads_at_cond q x.place p)) (ap not n)
  ]),
)

-- ---- the select that takes it

in-some : (t : Node → Bool) (o : Option Node) → in_box t o ≡ true → (n : Node) × ((o ≡ Some n) × (t n ≡ true))
in-some t None h = absurd (let z : ⊥ = cc in z)
in-some t (Some n) h = (n, (refl, h))

pub input-from : (g : QueryGraph) (s : OwnedQuant) → is_input g s ≡ true → (n : Node) × Input g s n
input-from g s h =
    let a = and_parts (in_box is_plain_select (box_of s.over g)) (times s.over (overs_in g.boxes) == 1) h in
    let f = in-some is_plain_select (box_of s.over g) a.0 in
    let k = plain-from f.0 f.1.1 in (
      f.0,
      record {
        under = f.1.0;
        one_use = subst (λ z. times z (overs_in g.boxes) ≡ 1) (sym (number-of g.boxes s.over f.0 f.1.0)) (eqb-true (times s.over (overs_in g.boxes)) 1 a.1);
        select = k.0;
        plain = k.1;
      },
    )

pub input-to : (g : QueryGraph) (s : OwnedQuant) (n : Node) → Input g s n → is_input g s ≡ true
input-to g s n i =
    and_from (in_box is_plain_select (box_of s.over g)) (times s.over (overs_in g.boxes) == 1)
    (ap (in_box is_plain_select) i.under ∙ plain-to n i.select i.plain)
    (eq-eqb (times s.over (overs_in g.boxes)) 1 (subst (λ z. times z (overs_in g.boxes) ≡ 1) (number-of g.boxes s.over n i.under) i.one_use))
