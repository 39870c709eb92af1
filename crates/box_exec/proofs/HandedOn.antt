-- A select that hands rows on gives these rows.
use Rattle.std.proofs.Common.{ℕ, suc, ◌≡◌, ◌+◌, ◌++◌, ◌==◌, Bool, true, cond, List, [], ◌∷◌, drop, get_or, length, map, position, slice_get, Option, Some, None, refl, sym, ◌∙◌, ap, ap₂, subst, arith, eqb-true}
use Rattle.std.proofs.lemmas.Bool.{and_parts}
use Rattle.row_bag.specs.Bags.{Alike, bind, keep, row, unit}
use Rattle.row_bag.specs.declared.tables.Table.{Table}
use Rattle.row_bag.proofs.Agreement.{alike-bind, alike-refl, alike-same, alike-trans}
use Rattle.row_bag.proofs.Levels.{least-yes}
use Rattle.sql_value.specs.declared.cell.Cell.{Cell}
use Rattle.sql_value.specs.declared.cell.Cell.TheVariants.{Null}
use Rattle.sql_value.specs.declared.level.Level.{Level}
use Rattle.qgm_core.specs.Boxes.{is_box, is_quant}
use Rattle.list_laws.specs.Lists.{first}
use Rattle.qgm_core.specs.declared.kinds.BoxKind.{BoxKind}
use Rattle.qgm_core.specs.declared.kinds.BoxKind.TheVariants.{Base, Select, Group, SetOp, OuterJoin}
use Rattle.qgm_core.specs.declared.node.Node.{Node}
use Rattle.qgm_core.specs.declared.owned.OwnedQuant.{OwnedQuant}
use Rattle.qgm_terms.specs.Terms.{Cond, Term, col}
use Rattle.qgm_meaning.specs.Meaning.{Family, bag_in, given_by, once_if, over_each, quant_rows, rows_by, rows_found, rows_of, rows_or_none}
use Rattle.qgm_meaning.specs.Values.{Bag, Environment, all_true, bound, head_cells, row_of, value}
use Rattle.row_bag.specs.Order.{cell_of}
use Rattle.row_bag.specs.Tables.{bag_named}
use Rattle.box_exec.specs.HandedOn.{HandsOn, InOrder, base_of, is_wide}
use Rattle.box_exec.specs.Ready.{Entry, Held, Ready}
use Rattle.row_bag.specs.declared.operand.Operand.{Operand}
use Rattle.box_exec.proofs.Places.{bag-at, kept-under}
use Rattle.list_laws.proofs.Membership.{eq-itself}

-- ---- the cells of a row

in-order : (f : Term → Cell) (q k : ℕ) (head : List Term) (cells : List Cell) → InOrder q k head → length cells ≡ length head → ((j : ℕ) → f (col q (k + j)) ≡ get_or cells j Null) → map f head ≡ cells
in-order f q k [] [] o l h = refl
in-order f q k [] (c ∷ cells) o l h = absurd (omega (arith, l))
in-order f q k (x ∷ xs) [] o l h = absurd (omega (arith, l))
in-order f q k (x ∷ xs) (c ∷ cells) o l h =
    let here : k ≡ k + 0 = omega arith in
    ap₂ (λ (a : Cell) (b : List Cell). a ∷ b) (ap f o.0 ∙ ap (λ (m : ℕ). f (col q m)) here ∙ h 0)
    (in-order f q (k + 1) xs cells o.1 (omega (arith, l)) (λ j. let e : k + 1 + j ≡ k + suc j = omega arith in ap (λ (m : ℕ). f (col q m)) e ∙ h (suc j)))

own-cell : (q : ℕ) (cells : List Cell) (env : Environment) (j : ℕ) → cell_of (1 + j) (row_of q (bound q cells env)) ≡ get_or cells j Null
own-cell q cells env j =
    let e : 1 + j ≡ suc j = omega arith in
    ap (λ (b : Bool). cell_of (1 + j) (cond b cells (row_of q env))) (eq-itself q) ∙ ap (λ (m : ℕ). get_or (Null ∷ cells) m Null) e

pub same-cells : (s : ℕ → Bag) (q : ℕ) (head : List Term) (cells : List Cell) (env : Environment) → InOrder q 1 head → length cells ≡ length head → head_cells s head (bound q cells env) ≡ cells
same-cells s q head cells env o l = in-order (λ x. value s x (bound q cells env)) q 1 head cells o l (own-cell q cells env)

-- ---- the rows of a box

wide-bind : (f : List Cell → Bag) (width : ℕ) (rows : Bag) → is_wide width rows ≡ true → ((cells : List Cell) → length cells ≡ width → f cells ≡ unit cells) → bind rows f ≡ rows
wide-bind f width [] w h = refl
wide-bind f width (r ∷ rows) w h =
    let both = and_parts (length r.cells == width) (is_wide width rows) w in
    ap₂ (λ (a b : Bag). keep r.level a ++ b) (h r.cells (eqb-true (length r.cells) width both.0)) (wide-bind f width rows both.1 h)
    ∙ ap (λ (l : Level). row r.cells l ∷ rows) (least-yes r.level)

module _ (tables : List Table) (n : Node) (bag : Family) (r : OwnedQuant) (on : HandsOn n r) (env : Environment) where
  abbrev give : List Cell → Bag
  give cells = given_by (quant_rows n bag) n (bound r.id cells env)

  given-unit : (cells : List Cell) → length cells ≡ length n.parts.head → give cells ≡ unit cells
  given-unit cells l =
      let inside = bound r.id cells env in
      let s : ℕ → Bag = λ q. quant_rows n bag q inside in
      ap (λ (ps : List Cond). keep (all_true s ps inside).t (unit (head_cells s n.parts.head inside))) on.unfiltered
      ∙ ap (λ (cs : List Cell). unit cs) (same-cells s r.id n.parts.head cells env on.ordered l)

  own-rows : quant_rows n bag r.id env ≡ bag r.over env
  own-rows =
      ap (λ (rs : List OwnedQuant). rows_found (first (is_quant r.id) rs) bag env) on.alone
      ∙ ap (λ (b : Bool). rows_found (cond b (Some r) None) bag env) (eq-itself r.id)

  bound-rows : rows_of tables n bag env ≡ bind (bag r.over env) give
  bound-rows =
      let s = quant_rows n bag in
      ap (λ (k : BoxKind). rows_by k tables n s env) on.kind
      ∙ ap (λ (b : Bool). once_if b (over_each n.quants s (given_by s n) env)) on.repeated
      ∙ ap (λ (rs : List OwnedQuant). over_each rs s (given_by s n) env) on.alone
      ∙ ap (λ (b : Bool). cond b (bind (s r.id env) give) (given_by s n env)) on.bound
      ∙ ap (λ (rows : Bag). bind rows give) own-rows

  -- rows that are those of the box under the quantifier, and have a cell for each column of the head, are those of the select
  pub handed-rows : (rows : Bag) → is_wide (length n.parts.head) rows ≡ true → Alike rows (bag r.over env) → Alike rows (rows_of tables n bag env)
  handed-rows rows w h =
      alike-trans (alike-same (sym (wide-bind give (length n.parts.head) rows w given-unit)))
      (alike-trans (alike-bind h (λ c. alike-refl (give c))) (alike-same (sym bound-rows)))

-- ---- the entries of a memo

entry-of : (tables : List Table) (n : Node) (ns : List Node) (o : Option (Option Operand)) (rows : Bag) → Held o rows → ((env : Environment) → Alike rows (rows_of tables n (bag_in tables ns) env)) → Entry tables n ns o
entry-of tables n ns None rows e h = tt
entry-of tables n ns (Some None) rows e h = tt
entry-of tables n ns (Some (Some s)) rows e h = λ env. subst (λ (b : Bag). Alike b (rows_of tables n (bag_in tables ns) env)) e (h env)

pub handed-entry : (tables : List Table) (memo : List (Option Operand)) (n : Node) (ns behind : List Node) (r : OwnedQuant) (i : ℕ) (rows : Bag) → HandsOn n r → position (is_box r.over) ns ≡ Some i → behind ≡ drop (i + 1) ns
    → Held (slice_get memo (length behind)) rows → is_wide (length n.parts.head) rows ≡ true → Ready tables memo ns → Entry tables n ns (slice_get memo (length behind))
handed-entry tables memo n ns behind r i rows on e is kept w ready =
    entry-of tables n ns (slice_get memo (length behind)) rows kept
    (λ env. handed-rows tables n (bag_in tables ns) r on env rows w (kept-under tables memo ns behind r.over i rows e is ready kept env))

-- ---- the rows of a table

base-rows : (k : BoxKind) (tables : List Table) (n : Node) (s : Family) (env : Environment) (name : List ℕ) → base_of k ≡ Some name → rows_by k tables n s env ≡ rows_or_none (bag_named tables name)
base-rows (Base table) tables n s env name e = let same : table.name ≡ name = cc e in ap (λ (m : List ℕ). rows_or_none (bag_named tables m)) same
base-rows Select tables n s env name e = absurd (cc e)
base-rows (Group k) tables n s env name e = absurd (cc e)
base-rows (SetOp form types) tables n s env name e = absurd (cc e)
base-rows OuterJoin tables n s env name e = absurd (cc e)

-- the rows of a table that a select hands on
pub handed-table : (tables : List Table) (n : Node) (ns : List Node) (r : OwnedQuant) (i : ℕ) (b : Node) (name : List ℕ) → HandsOn n r → position (is_box r.over) ns ≡ Some i → b ≡ get_or ns i b → base_of b.parts.kind ≡ Some name
    → is_wide (length n.parts.head) (rows_or_none (bag_named tables name)) ≡ true → (env : Environment) → Alike (rows_or_none (bag_named tables name)) (rows_of tables n (bag_in tables ns) env)
handed-table tables n ns r i b name on e at is w env =
    let below = bag_in tables (drop (i + 1) ns) in
    handed-rows tables n (bag_in tables ns) r on env (rows_or_none (bag_named tables name)) w
    (alike-same (sym (bag-at tables ns r.over i b e at env ∙ base-rows b.parts.kind tables b (quant_rows b below) env name is)))
