-- Rows of one box before those of another.
use Rattle.std.proofs.Common.{ℕ, suc, ◌==◌, ◌≡◌, cond, Bool, true, false, List, [], ◌∷◌, ◌++◌, length, get_or, refl, sym, ap, ap₂, ◌∙◌}
use Rattle.std.proofs.lemmas.Bool.{eq-eqb}
use Rattle.row_bag.specs.Tags.{led}
use Rattle.row_bag.specs.Bags.{bind, keep, unit}
use Rattle.row_bag.specs.Order.{cell_of}
use Rattle.row_bag.proofs.Binds.{keep-yes}
use Rattle.sql_value.specs.declared.cell.Cell.{Cell}
use Rattle.sql_value.specs.declared.cell.Cell.TheVariants.{Null}
use Rattle.qgm_core.specs.Kinds.{is_F}
use Rattle.qgm_core.specs.declared.kinds.Distinct.TheVariants.{Preserve}
use Rattle.qgm_core.specs.declared.node.Node.{Node}
use Rattle.qgm_core.specs.declared.owned.OwnedQuant.{OwnedQuant}
use Rattle.qgm_core.specs.declared.parts.BoxParts.{BoxParts}
use Rattle.qgm_meaning.specs.Meaning.{Family, given_by, over_each}
use Rattle.qgm_meaning.specs.Rules.{selecting}
use Rattle.qgm_meaning.specs.Tags.{FedRows, columns_from}
use Rattle.qgm_meaning.specs.Values.{Bag, Environment, bound, head_cells, row_of}
use Rattle.qgm_meaning.specs.Widths.{Wide}
use Rattle.qgm_terms.specs.Terms.{Term}

-- what is given of rows of a width
bind-wide : (w : ℕ) (rows : Bag) (f g : List Cell → Bag) → Wide w rows → ((c : List Cell) → length c ≡ w → f c ≡ g c) → bind rows f ≡ bind rows g
bind-wide w [] f g h k = refl
bind-wide w (r ∷ rows) f g h k = ap₂ (λ (x y : Bag). keep r.level x ++ y) (k r.cells h.0) (bind-wide w rows f g h.1 k)

at-place : (pre : List Cell) (x : Cell) (v : List Cell) → get_or (pre ++ x ∷ v) (length pre) Null ≡ x
at-place [] x v = refl
at-place (y ∷ pre) x v = at-place pre x v

append-one : (xs : List Cell) (x : Cell) (ys : List Cell) → (xs ++ x ∷ []) ++ ys ≡ xs ++ x ∷ ys
append-one [] x ys = refl
append-one (z ∷ xs) x ys = ap (λ (t : List Cell). z ∷ t) (append-one xs x ys)

length-one : (xs : List Cell) (x : Cell) → length (xs ++ x ∷ []) ≡ suc (length xs)
length-one [] x = refl
length-one (z ∷ xs) x = ap suc (length-one xs x)

-- all columns of a row, in order, are the row
columns-row : (s : ℕ → Bag) (q : ℕ) (e : Environment) (pre v : List Cell) → row_of q e ≡ pre ++ v → head_cells s (columns_from q (suc (length pre)) (length v)) e ≡ v
columns-row s q e pre [] h = refl
columns-row s q e pre (x ∷ v) h =
    ap₂ (λ (c : Cell) (cs : List Cell). c ∷ cs) (ap (cell_of (suc (length pre))) h ∙ at-place pre x v)
    (ap (λ k. head_cells s (columns_from q (suc k) (length v)) e) (sym (length-one pre x)) ∙ columns-row s q e (pre ++ x ∷ []) v (h ∙ sym (append-one pre x v)))

whole-row : (s : ℕ → Bag) (q w : ℕ) (e : Environment) (v : List Cell) → row_of q e ≡ v → length v ≡ w → head_cells s (columns_from q 1 w) e ≡ v
whole-row s q w e v h l = ap (λ n. head_cells s (columns_from q 1 n) e) (sym l) ∙ columns-row s q e [] v h

head-append : (s : ℕ → Bag) (xs ys : List Term) (e : Environment) → head_cells s (xs ++ ys) e ≡ head_cells s xs e ++ head_cells s ys e
head-append s [] ys e = refl
head-append s (x ∷ xs) ys e = ap (λ (cells : List Cell). Rattle.qgm_meaning.specs.Values.value s x e ∷ cells) (head-append s xs ys e)

module _ (s : Family) (b : ℕ) (p : BoxParts) (first second : OwnedQuant) (w v : ℕ) (env : Environment) (apart : (second.id == first.id) ≡ false) where
  abbrev n : Node
  n = selecting b p Preserve [] (columns_from first.id 1 w ++ columns_from second.id 1 v) (first ∷ second ∷ [])

  abbrev both : List Cell → List Cell → Environment
  both tag cells = bound second.id cells (bound first.id tag env)

  in-both : (tag cells : List Cell) → length tag ≡ w → length cells ≡ v → given_by s n (both tag cells) ≡ unit (tag ++ cells)
  in-both tag cells lt lc =
      keep-yes (unit (head_cells (λ q. s q (both tag cells)) (columns_from first.id 1 w ++ columns_from second.id 1 v) (both tag cells)))
      ∙ ap (λ (c : List Cell). unit c) (head-append (λ q. s q (both tag cells)) (columns_from first.id 1 w) (columns_from second.id 1 v) (both tag cells)
      ∙ ap₂ (λ (x y : List Cell). x ++ y)
      (whole-row (λ q. s q (both tag cells)) first.id w (both tag cells) tag (ap (λ (t : Bool). cond t cells (row_of first.id (bound first.id tag env))) apart ∙ ap (λ (t : Bool). cond t tag (row_of first.id env)) (eq-eqb first.id first.id refl)) lt)
      (whole-row (λ q. s q (both tag cells)) second.id v (both tag cells) cells (ap (λ (t : Bool). cond t cells (row_of second.id (bound first.id tag env))) (eq-eqb second.id second.id refl)) lc))

  fed : is_F first.kind ≡ true → is_F second.kind ≡ true → Wide w (s first.id env) → ((tag : List Cell) → Wide v (s second.id (bound first.id tag env))) → over_each (first ∷ second ∷ []) s (given_by s n) env ≡ led (s first.id env) (λ tag. s second.id (bound first.id tag env))
  fed f g hw hv =
      ap (λ (t : Bool). cond t (bind (s first.id env) (λ tag. over_each (second ∷ []) s (given_by s n) (bound first.id tag env))) (over_each (second ∷ []) s (given_by s n) env)) f
      ∙ bind-wide w (s first.id env) (λ tag. over_each (second ∷ []) s (given_by s n) (bound first.id tag env)) (λ tag. bind (s second.id (bound first.id tag env)) (λ cells. unit (tag ++ cells))) hw (λ tag lt.
      ap (λ (t : Bool). cond t (bind (s second.id (bound first.id tag env)) (λ cells. given_by s n (both tag cells))) (given_by s n (bound first.id tag env))) g
      ∙ bind-wide v (s second.id (bound first.id tag env)) (λ cells. given_by s n (both tag cells)) (λ cells. unit (tag ++ cells)) (hv tag) (λ cells lc. in-both tag cells lt lc))

pub fed-rows : FedRows
fed-rows = λ tables s b p first second w v env f g apart hw hv. fed s b p first second w v env apart f g hw hv
