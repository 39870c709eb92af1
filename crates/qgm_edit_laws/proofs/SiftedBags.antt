-- Rows of some boxes pass tests: the bags of a changed graph, where each box gives them back.
use Rattle.std.proofs.Common.{ℕ, ◌≡◌, ◌&&◌, Bool, true, false, List, ◌∷◌, map, Option, Some, None, refl, sym, ap, subst, ◌∙◌, inl, inr, [], ◌||◌}
use Rattle.std.proofs.lemmas.Bool.{and_from, and_parts, or_cases}
use mathlib.Core.Path.{fun_ext}
use Rattle.row_bag.specs.Bags.{Agree, row}
use Rattle.row_bag.specs.Filters.{passing}
use Rattle.row_bag.specs.Sets.{same_cells}
use Rattle.row_bag.specs.Verdict.{is_there}
use Rattle.row_bag.specs.declared.tables.Table.{Table}
use Rattle.row_bag.proofs.Counts.{agree-from_alike}
use Rattle.row_bag.proofs.Levels.{no-least}
use Rattle.sql_value.specs.Level.{least}
use Rattle.sql_value.specs.declared.cell.Cell.{Cell}
use Rattle.sql_value.specs.declared.level.Level.{Level}
use Rattle.sql_value.specs.declared.level.Level.TheVariants.{No, Cardinality, Division, Overflow, Yes}
use Rattle.qgm_core.specs.Boxes.{is_quant}
use Rattle.list_laws.specs.Lists.{In, first}
use Rattle.qgm_core.specs.declared.node.Node.{Node}
use Rattle.qgm_core.specs.declared.owned.OwnedQuant.{OwnedQuant}
use Rattle.qgm_meaning.specs.Fits.{fits}
use Rattle.qgm_meaning.specs.Laws.{AgreesBack, AllStay, Stays, occurs}
use Rattle.qgm_meaning.specs.Meaning.{Family, bag_in, quant_rows, rows_found, rows_of}
use Rattle.qgm_meaning.specs.Ranks.{SameUnder}
use Rattle.qgm_meaning.specs.Values.{Bag, Environment}
use Rattle.qgm_meaning.proofs.Alikes.{only-alike}
use Rattle.qgm_meaning.proofs.Fitting.{hereditary}
use Rattle.qgm_meaning.proofs.Unfold.{rows-local}
use Rattle.qgm_edit_laws.specs.Graph.{Sound}
use Rattle.qgm_edit_laws.specs.SiftedBags.{Tests, sift, sifted}
use Rattle.qgm_edit_laws.proofs.Scope.{unfold-bag}

-- a row that is there was there
pub sift-occurs : (o : Option (List Cell → Level)) (rows : Bag) (cells : List Cell) → occurs cells (sift o rows) ≡ true → occurs cells rows ≡ true
sift-occurs None rows cells h = h
sift-occurs (Some level) [] cells h = h
sift-occurs (Some level) (r ∷ rows) cells h = elim (or_cases (same_cells r.cells cells && is_there (row r.cells (least r.level (least (level r.cells) Yes)))) (occurs cells (passing level rows)) h) [
  | inl t ↦ (
      let a = and_parts (same_cells r.cells cells) (is_there (row r.cells (least r.level (least (level r.cells) Yes)))) t in
      ap (λ b. b || occurs cells rows) (and_from (same_cells r.cells cells) (is_there r) a.0 (was r.level (least (level r.cells) Yes) a.1)))
  | inr t ↦ ap (λ b. (same_cells r.cells cells && is_there r) || b) (sift-occurs (Some level) rows cells t) ∙ or-true (same_cells r.cells cells && is_there r)
]
  where
    or-true : (b : Bool) → (b || true) ≡ true
    or-true true = refl
    or-true false = refl

    was : (l m : Level) → is_there (row r.cells (least l m)) ≡ true → is_there (row r.cells l) ≡ true
    was No m t = sym (ap (λ (l : Level). is_there (row r.cells l)) (no-least m)) ∙ t
    was Cardinality m t = refl
    was Division m t = refl
    was Overflow m t = refl
    was Yes m t = refl

pub stay-in : (passes : Environment → Bool) (f : Family) (ns : List Node) → AllStay passes f ns → (n : Node) → In n ns → Stays passes (quant_rows n f) n.quants
stay-in passes f [] a n i = elim i [ ]
stay-in passes f (m ∷ ns) a n i = elim i [ inl e ↦ subst (λ (z : Node). Stays passes (quant_rows z f) z.quants) e a.0 | inr j ↦ stay-in passes f ns a.1 n j ]

pub stays-to : (passes : Environment → Bool) (s s' : Family) (rs : List OwnedQuant) → Stays passes s rs → ((q : ℕ) (e : Environment) (cells : List Cell) → occurs cells (s' q e) ≡ true → occurs cells (s q e) ≡ true) → Stays passes s' rs
stays-to passes s s' [] st h = tt
stays-to passes s s' (r ∷ rs) st h = ((λ e cells f p o. st.0 e cells f p (h r.id e cells o)), stays-to passes s s' rs st.1 h)

module _ (bs : List Node) (root : ℕ) (w : Sound bs root) (tables : List Table) (t : Tests) where
  abbrev pub f : Family
  f = bag_in tables bs

  abbrev pub f' : Family
  f' = sifted t (bag_in tables bs)

  abbrev pub passes : Environment → Bool
  passes e = fits (bag_in tables bs) bs e

  -- what quantifiers find is what they found, or less
  found-occurs : (o : Option OwnedQuant) (e : Environment) (cells : List Cell) → occurs cells (rows_found o f' e) ≡ true → occurs cells (rows_found o f e) ≡ true
  found-occurs None e cells h = h
  found-occurs (Some r) e cells h = sift-occurs (t r.over) (f r.over e) cells h

  stay : (n : Node) → In n bs → Stays passes (quant_rows n f') n.quants
  stay n i = stays-to passes (quant_rows n f) (quant_rows n f') n.quants (stay-in passes f bs (hereditary f bs) n i) (λ q e cells o. found-occurs (first (is_quant q) n.quants) e cells o)

  -- boxes that change and give the sifted rows back, where environments fit: so the root gives what it gave
  module _ (g : Node → Node) (id : (y : Node) → (g y).id ≡ y.id) (quants : (y : Node) → In y bs → (g y).quants ≡ y.quants) (after : Sound (map g bs) root) (free : t root ≡ None)
      (back : (y : Node) → In y bs → (e : Environment) → passes e ≡ true → Agree same_cells (rows_of tables (g y) f' e) (f' y.id e)) where
    backs : (ns : List Node) → ((n : Node) → In n ns → In n bs) → AgreesBack passes tables f' (map g ns)
    backs [] sub = tt
    backs (n ∷ ns) sub = (
      subst (λ rs. Stays passes (λ x. rows_found (first (is_quant x) rs) f') rs) (sym (quants n (sub n (inl refl)))) (stay n (sub n (inl refl))),
      (λ e p. subst (λ x. Agree same_cells (rows_of tables (g n) f' e) (f' x e)) (sym (id n)) (back n (sub n (inl refl)) e p)),
      backs ns (λ x i. sub x (inr i)),
    )

    pub sifted-agree : Agree same_cells (bag_in tables (map g bs) root []) (bag_in tables bs root [])
    sifted-agree =
        let h = agree-from_alike same_cells (only-alike tables f' passes (map g bs) after.ordered (backs bs (λ n i. i)) root after.rooted [] refl) in
        subst (λ z. Agree same_cells (bag_in tables (map g bs) root []) z) (ap (λ o. sift o (f root [])) free) h

  -- ---- a box under whose quantifiers nothing is sifted

  pub untested : (x : ℕ) → t x ≡ None → f' x ≡ f x
  untested x n = fun_ext (λ e. ap (λ o. sift o (f x e)) n)

  pub same-under : (rs : List OwnedQuant) → ((r : OwnedQuant) → In r rs → t r.over ≡ None) → SameUnder rs f' f
  same-under [] h = tt
  same-under (r ∷ rs) h = (untested r.over (h r (inl refl)), same-under rs (λ x i. h x (inr i)))

  pub rows-same : (n : Node) → ((r : OwnedQuant) → In r n.quants → t r.over ≡ None) → rows_of tables n f' ≡ rows_of tables n f
  rows-same n h = rows-local tables n f' f (same-under n.quants h)

  pub untouched : (y : Node) → In y bs → t y.id ≡ None → ((r : OwnedQuant) → In r y.quants → t r.over ≡ None) → (e : Environment) → rows_of tables y f' e ≡ f' y.id e
  untouched y i n h e = ap (λ (z : Environment → Bag). z e) (rows-same y h) ∙ sym (unfold-bag tables bs y w.ordered i e) ∙ sym (ap (λ (z : Environment → Bag). z e) (untested y.id n))
