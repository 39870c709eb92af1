-- How many rows a select takes that is evaluated over open boxes.
use Rattle.std.proofs.Common.{ℕ, ◌≡◌, ◌<◌, ◌+◌, ◌∙◌, not, Bool, true, false, List, [], drop, get_or, length, refl, sym, ap, ap₂, subst, inl, inr, arith}
use Rattle.std.specs.List.{list_all, list_any}
use Rattle.std.proofs.lemmas.Bool.{cases_Bool}
use Rattle.list_laws.specs.Lists.{In}
use Rattle.sql_value.specs.declared.cell.Cell.{Cell}
use Rattle.qgm_core.specs.Kinds.{is_F}
use Rattle.qgm_core.specs.Boxes.{has_box}
use Rattle.qgm_core.specs.declared.kinds.BoxKind.{BoxKind}
use Rattle.qgm_core.specs.declared.kinds.BoxKind.TheVariants.{Select}
use Rattle.qgm_core.specs.declared.owned.OwnedQuant.{OwnedQuant}
use Rattle.qgm_meaning.specs.Plain.{counted_by, under_rows}
use Rattle.qgm_meaning.specs.Values.{Environment, bound}
use Rattle.box_exec.specs.Asked.{keys_at}
use Rattle.box_exec.specs.Early.{is_open}
use Rattle.box_exec.specs.Plans.{Planned, SeeksAt, SoughtAt, asked_at, asked_takings_at, cost_at, family, ranges, takings_at, takings_left, ways_left}
use Rattle.box_exec.specs.Sought.{AllSought, OpensAs}
use Rattle.box_exec.specs.Taken.{bound_order, is_taken, taken_by, takes}
use Rattle.box_exec.specs.Takings.{keys_by, order_by}
use Rattle.box_exec.specs.declared.boxes.At.{At}
use Rattle.box_exec.specs.declared.under.Loop.{Loop}
use Rattle.box_exec.proofs.Evaluations.{each_row, rows-bound, rows-over}
use Rattle.box_exec.proofs.Lookups.{in-at}
use Rattle.box_exec.proofs.Quantifiers.{placed, range-at, range-within}
use Rattle.box_exec.proofs.Seeking.{any-open, row_ways, taken-here, taken-open, ways-bound, ways-over}
use Rattle.box_exec.proofs.Tails.{overs-here}
use Rattle.box_exec.proofs.Takings.{each-sum}

-- the ways that begin with a row, and what is taken by the boxes below with it
abbrev pub row_takings : At → (ℕ → Bool) → ℕ → OwnedQuant → Environment → List Cell → ℕ
row_takings at kept k r env cells =
    row_ways kept at.node.now (ranges at.loops.now) (family at) k r env cells + under_rows (drop (k + 1) at.node.now.quants) at.node.now.quants (family at) (asked_takings_at at kept) (bound r.id cells env)

-- by the kind of the box
pub kind-cost : (at : At) (kept : ℕ → Bool) (env : Environment) (kind : BoxKind) → at.node.now.parts.kind ≡ kind → cost_at at kept env ≡ counted_by kind at.node.now (family at) (asked_at at kept) env
kind-cost at kept env kind is = ap (λ (k : BoxKind). counted_by k at.node.now (family at) (asked_at at kept) env) is

pub kind-takings : (at : At) (kept : ℕ → Bool) (env : Environment) (kind : BoxKind) → at.node.now.parts.kind ≡ kind → takings_at at kept env ≡ taken_by kept kind at.node.now (family at) (asked_takings_at at kept) env
kind-takings at kept env kind is = ap (λ (k : BoxKind). taken_by kept k at.node.now (family at) (asked_takings_at at kept) env) is

true-not : (b : Bool) → true ≡ not b → b ≡ false
true-not true h = absurd (let z : ⊥ = cc in z)
true-not false h = refl

pub false-not : (b : Bool) → false ≡ not b → b ≡ true
false-not true h = refl
false-not false h = absurd (let z : ⊥ = cc in z)

module _ (at : At) (plan : Planned at) (kept : ℕ → Bool) (seeks : SeeksAt at kept) where
  pub there : (r : OwnedQuant) → In r (ranges at.loops.now) → has_box at.below.now r.over ≡ true
  there r i = overs-here at.below.now at.node.now r seeks.ordered (subst (In r) plan.ranged i)

  -- where something is open the order is that of the text
  pub text-order : at.node.now.parts.kind ≡ Select → list_any (λ (l : Loop). is_open l.under) at.loops.now ≡ true → SoughtAt at × (ranges at.loops.now ≡ bound_order kept at.node.now)
  text-order select anew =
      let n = at.node.now in
      let here = seeks.here select in
      let some : list_all (λ (r : OwnedQuant). kept r.over) (ranges at.loops.now) ≡ false =
      true-not (list_all (λ (r : OwnedQuant). kept r.over) (ranges at.loops.now)) (sym anew ∙ any-open at.run.now.memo.now at.below.now kept at.loops.now seeks.keeps plan.opens there) in
      let none : at.orders.now ≡ [] = here.text (ap (list_all (λ (r : OwnedQuant). kept r.over)) (sym plan.ranged) ∙ some) in
      let text : order_by n at.orders.now ≡ ranges at.loops.now = ap (order_by n) none ∙ sym plan.ranged in (
        subst (AllSought n (ranges at.loops.now)) (ap (keys_by at.keyed.now) none) (subst (λ (rs : List OwnedQuant). AllSought n rs (keys_by at.keyed.now at.orders.now)) text here.keys),
        sym text ∙ here.order,
      )

  module _ (k : ℕ) (l : Loop) (inside : k < length at.loops.now) (is : l ≡ get_or at.loops.now k l) where
    within : k < length (ranges at.loops.now)
    within = range-within at.loops.now k inside

    stands : l.range ≡ get_or (ranges at.loops.now) k l.range
    stands = range-at at.loops.now k l inside is

    -- a row that is found is taken
    pub row-taken : SoughtAt at → is_F l.range.kind ≡ true → (env : Environment) (cells : List Cell) (b : Bool) → b ≡ true → (is_open l.under ≡ false → b ≡ takes (keys_at at.keyed.now k) l.range.id env cells)
        → is_taken kept at.node.now l.range (drop (k + 1) (ranges at.loops.now)) env cells ≡ true
    row-taken sought f env cells b found by = elim (cases_Bool (is_open l.under)) [
      | inl anew ↦
          (let opens : OpensAs at.run.now.memo.now at.below.now l.range.over l.under = subst (λ (x : Loop). OpensAs at.run.now.memo.now at.below.now x.range.over x.under) (sym is) (plan.opens k l inside) in
          let unkept : kept l.range.over ≡ false = true-not (kept l.range.over) (sym anew ∙ opens kept seeks.keeps (there l.range (in-at (ranges at.loops.now) k l.range within stands))) in
          taken-open kept at.node.now (ranges at.loops.now) (family at) k l.range within stands env cells unkept)
      | inr shut ↦ taken-here kept at.node.now (ranges at.loops.now) (family at) k l.range within stands at.keyed.now env cells sought f (sym (by shut) ∙ found)
    ]

    pub takings-over : is_F l.range.kind ≡ false → (env : Environment) → takings_left at kept k env ≡ takings_left at kept (k + 1) env
    takings-over f env =
        ap₂ (λ (x y : ℕ). x + y) (ways-over kept at.node.now (ranges at.loops.now) (family at) k l.range within stands f env)
        (rows-over at.node.now.quants at.node.now.quants (family at) (asked_takings_at at kept) env k l.range (placed at plan k l inside is).0 f)

    pub takings-bound : is_F l.range.kind ≡ true → (env : Environment) → takings_left at kept k env ≡ asked_takings_at at kept l.range.over env + each_row (row_takings at kept k l.range env) (family at l.range.over env)
    takings-bound f env =
        let rows = family at l.range.over env in
        let ways : ways_left at kept k env ≡ each_row (row_ways kept at.node.now (ranges at.loops.now) (family at) k l.range env) rows = ways-bound kept at.node.now (ranges at.loops.now) (family at) k l.range within stands f env in
        let under = rows-bound at.node.now.quants at.node.now.quants (family at) (asked_takings_at at kept) env k l.range (placed at plan k l inside is).0 f in
        let both = each-sum (row_ways kept at.node.now (ranges at.loops.now) (family at) k l.range env) (λ (cells : List Cell). under_rows (drop (k + 1) at.node.now.quants) at.node.now.quants (family at) (asked_takings_at at kept) (bound l.range.id cells env)) rows in
        omega (arith, ways, under, both)
