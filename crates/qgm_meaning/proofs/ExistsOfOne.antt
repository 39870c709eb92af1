-- U1 on a graph, over a box of at most one row, and at a box that is read as a set.
use Rattle.std.proofs.Common.{ℕ, ◌≤◌, ◌==◌, ◌≡◌, ◌&&◌, ◌||◌, cond, Bool, true, false, List, [], ◌∷◌, ◌++◌, Some, refl, sym, ap, subst, ◌∙◌}
use Rattle.std.specs.List.{list_any}
use Rattle.std.proofs.lemmas.Bool.{and_from, eq-eqb}
use mathlib.Core.Path.{fun_ext}
use Rattle.row_bag.specs.AsSets.{is_clean}
use Rattle.row_bag.proofs.Setting.{levels-sets, sets-sym}
use Rattle.row_bag.specs.Bags.{Agree, Alike}
use Rattle.row_bag.specs.Joins.{how_many}
use Rattle.row_bag.specs.Sets.{SameLevels, same_cells}
use Rattle.row_bag.specs.declared.tables.Table.{Table}
use Rattle.row_bag.proofs.Agreement.{alike-sym}
use Rattle.row_bag.proofs.Counts.{agree-from_alike}
use Rattle.qgm_core.specs.Boxes.{QueryGraph, Ordered, box_of, has_box, is_quant, owns}
use Rattle.list_laws.specs.Lists.{first}
use Rattle.qgm_core.specs.declared.kinds.BoxKind.TheVariants.{Select}
use Rattle.qgm_core.specs.declared.kinds.Distinct.{Distinct}
use Rattle.qgm_core.specs.declared.kinds.QuantKind.TheVariants.{E}
use Rattle.qgm_core.specs.declared.node.Node.{Node}
use Rattle.qgm_core.specs.declared.owned.OwnedQuant.{OwnedQuant}
use Rattle.qgm_core.specs.declared.parts.BoxParts.{BoxParts}
use Rattle.qgm_meaning.specs.AsSets.{AgreeAs, AllReadSets, ReadsSets}
use Rattle.qgm_meaning.specs.Exists.{ExistsJoinsAsSet, ExistsJoinsOfOne, Unread, each_box, some_box}
use Rattle.qgm_meaning.specs.Fits.{fits, has_row}
use Rattle.qgm_meaning.specs.Laws.{Stays, occurs}
use Rattle.qgm_meaning.specs.Meaning.{Family, bag, bag_in, quant_rows, rows_by, rows_found, rows_of}
use Rattle.qgm_meaning.specs.Replace.{replace}
use Rattle.qgm_meaning.specs.Rules.{as_F, as_Q}
use Rattle.qgm_meaning.specs.Scope.{loose, read_by, under_any}
use Rattle.qgm_meaning.specs.Values.{Bag, Environment, bound}
use Rattle.qgm_terms.specs.Terms.{Cond, Term, some}
use Rattle.qgm_terms.specs.Wanted.{reads, reads_cond}
use Rattle.qgm_meaning.proofs.AsSets.{replaced-as_set}
use Rattle.qgm_meaning.proofs.Existing.{joins-levels, joins-of_one}
use Rattle.qgm_meaning.proofs.ExistsJoined.{any-before, inner, moved, overs-moved, own-append}
use Rattle.qgm_meaning.proofs.Fitting.{hereditary}
use Rattle.qgm_meaning.proofs.Frames.{any-framed, bag-framed}
use Rattle.qgm_meaning.proofs.Joined.{unread}
use Rattle.qgm_meaning.proofs.Replacing.{replaced}
use Rattle.qgm_meaning.proofs.ScalarJoined.{first-any, owned-there, stays-of, with-last, without}
use Rattle.qgm_meaning.proofs.Within.{loose-unfold}
use Rattle.list_laws.proofs.Booleans.{neither-left, neither-right}

module _ (tables : List Table) (g : QueryGraph) (b : ℕ) (p : BoxParts) (d : Distinct) (us : List OwnedQuant) (i over : ℕ) (vs : List OwnedQuant) (xs : List Cond) (c : Cond) (ys : List Cond) (head : List Term)
    (o : Ordered g.boxes) (held : box_of b g ≡ Some (some_box b p d us i over vs xs c ys head)) (hu : list_any (is_quant i) us ≡ false) (hv : list_any (is_quant i) vs ≡ false) (away : loose g.boxes b i ≡ false) where
  abbrev n : Node
  n = some_box b p d us i over vs xs c ys head

  abbrev m : Node
  m = each_box b p d us i over vs xs c ys head

  abbrev f : Family
  f = bag tables g

  abbrev s : Family
  s = quant_rows n f

  abbrev passes : Environment → Bool
  passes = fits f g.boxes

  same-quants : quant_rows m f ≡ s
  same-quants = fun_ext (λ q. sym (moved E i over vs hv f q us hu))

  nothing-inner : (read_by n i || under_any n.quants (loose g.boxes) i) ≡ false
  nothing-inner = inner n (loose g.boxes) i n.quants (own-append E refl i over us vs hu hv) (ap (λ (f : ℕ → Bool). f i) (sym (loose-unfold g.boxes b n o held)) ∙ away)

  reads-none : read_by n i ≡ false
  reads-none = neither-left (read_by n i) (under_any n.quants (loose g.boxes) i) nothing-inner

  beside : (list_any (reads_cond i) xs ≡ false) × (list_any (reads_cond i) ys ≡ false)
  beside = any-before (reads_cond i) xs (some i c) ys (neither-right (list_any (reads i) head) (list_any (reads_cond i) n.parts.conds.items) reads-none)

  not-read : Unread s i xs ys head
  not-read = record {
    cells = neither-left (list_any (reads i) head) (list_any (reads_cond i) n.parts.conds.items) reads-none;
    before = beside.0;
    behind = beside.1;
    below = λ q cells env. sym (any-framed n (bag_in tables g.boxes) (loose g.boxes) (bag-framed tables g.boxes) q env (bound i cells env)
        (unread (under_any n.quants (loose g.boxes)) i cells env (neither-right (read_by n i) (under_any n.quants (loose g.boxes) i) nothing-inner)));
  }

  at-i : (env : Environment) → s i env ≡ f over env
  at-i env = found us hu
    where
      found : (us : List OwnedQuant) → list_any (is_quant i) us ≡ false → rows_found (first (is_quant i) (us ++ as_Q E i over ∷ vs)) f env ≡ f over env
      found [] h = ap (λ (b : Bool). rows_found (cond b (Some (as_Q E i over)) (first (is_quant i) vs)) f env) (eq-eqb i i refl)
      found (u ∷ us) h =
          ap (λ (b : Bool). rows_found (cond b (Some u) (first (is_quant i) (us ++ as_Q E i over ∷ vs))) f env) (neither-left (u.id == i) (list_any (is_quant i) us) h)
          ∙ found us (neither-right (u.id == i) (list_any (is_quant i) us) h)

  stays-n : Stays passes s (us ++ vs)
  stays-n = without passes s us (as_Q E i over) vs (stays-of passes f g.boxes b n (hereditary f g.boxes) held)

  stays-m : Stays passes (quant_rows m f) m.quants
  stays-m = subst (λ (r : Family). Stays passes r m.quants) (sym same-quants) (with-last passes s (us ++ vs) (as_F i over) stays-n (
    (λ env cells k p there. and_from (has_row f g.boxes i cells env) (passes env)
        (first-any (λ n. owns i n && occurs cells (quant_rows n f i env)) g.boxes b n held (and_from (owns i n) (occurs cells (s i env)) (owned-there us (as_Q E i over) vs) there)) p),
    tt,
  ))

  pub of-one : ((env : Environment) → passes env ≡ true → how_many (f over env) ≤ 1) → (x : ℕ) → has_box g.boxes x ≡ true → (env : Environment) → passes env ≡ true → Agree same_cells (bag tables (replace b m g) x env) (bag tables g x env)
  of-one one x hx env fit =
      replaced tables g passes b n m o held refl (λ ks h. overs-moved E ks us vs i over h) (hereditary f g.boxes) stays-m
      (λ env fit. agree-from_alike same_cells (alike-sym (subst (λ (r : Family). Alike (rows_by Select tables n s env) (rows_by Select tables m r env)) (sym same-quants)
      (joins-of_one tables s b p d us vs i over xs ys c head passes not-read stays-n (λ e pe. subst (λ (rows : Bag). how_many rows ≤ 1) (sym (at-i e)) (one e pe)) env fit))))
      x hx env fit

  pub as-set : AllReadSets (λ x. x == b) g.boxes → ReadsSets (λ x. x == b) m → ((env : Environment) → passes env ≡ true → is_clean (rows_of tables n f env) ≡ true) → ((env : Environment) → passes env ≡ true → is_clean (rows_of tables m f env) ≡ true)
      → (x : ℕ) → has_box g.boxes x ≡ true → (env : Environment) → passes env ≡ true → AgreeAs (x == b) (bag tables (replace b m g) x env) (bag tables g x env)
  as-set reads rm cn cm x hx env fit =
      replaced-as_set tables g passes b n m o held refl (λ ks h. overs-moved E ks us vs i over h) reads rm (hereditary f g.boxes) stays-m
      (λ env fit. sets-sym same_cells (levels-sets same_cells (rows_of tables n f env) (rows_of tables m f env) (cn env fit) (cm env fit)
      (subst (λ (r : Family). SameLevels same_cells (rows_by Select tables n s env) (rows_by Select tables m r env)) (sym same-quants)
      (joins-levels tables s b p d us vs i over xs ys c head env not-read))))
      x hx env fit

pub exists-joins_of_one : ExistsJoinsOfOne
exists-joins_of_one = λ tables g b p d us i over vs xs c ys head o held hu hv away one x hx env fit. of-one tables g b p d us i over vs xs c ys head o held hu hv away one x hx env fit

pub exists-joins_as_set : ExistsJoinsAsSet
exists-joins_as_set = λ tables g b p d us i over vs xs c ys head o held hu hv away reads rm cn cm x hx env fit. as-set tables g b p d us i over vs xs c ys head o held hu hv away reads rm cn cm x hx env fit
