-- Rows of queries and of the operands of a FROM have the cells that their columns ask for.
use Rattle.std.proofs.Common.{◌≡◌, ℕ, suc, ◌+◌, nat_eq, Bool, true, false, cond, List, [], ◌∷◌, ◌++◌, length, replicate, ◌-◌, min, refl, ap, ap₂, ◌∙◌, subst, Option, Some, None}
use Rattle.std.proofs.lemmas.List.{length-append}
use Rattle.row_bag.specs.Bags.{bind, keep, unit}
use Rattle.row_bag.specs.Errors.{error_among, error_in}
use Rattle.row_bag.specs.Sets.{except, except_all, error_or_bag, failed_cells, intersect, intersect_all, multiplicity, same_cells}
use Rattle.row_bag.specs.declared.row.Row.{Row}
use Rattle.sql_ast.specs.declared.word.SetOperator.{SetOperator}
use Rattle.sql_ast.specs.declared.word.SetOperator.TheVariants as operator
use Rattle.sql_meaning.specs.Groups.{Group, no_group}
use Rattle.sql_meaning.specs.Joins.{combined, distinct_if, how_many, intersected, kept, left_join, or_else, partners, product, selected}
use Rattle.sql_value.specs.declared.cell.Cell.{Cell}
use Rattle.sql_value.specs.declared.cell.Cell.TheVariants.{Null}
use Rattle.sql_value.specs.declared.cell.Kind.{Kind}
use Rattle.sql_value.specs.declared.truth.Truth.{Truth}
use Rattle.sql_meaning.specs.ResolvedMeaning as k
use Rattle.sql_meaning.specs.ResolvedTrees.{From, Froms, Query, Values}
use Rattle.sql_meaning.specs.ResolvedTrees as q
use Rattle.qgm_meaning.specs.Values.{Bag}
use Rattle.qgm_core.specs.declared.node.Node.{Node}
use Rattle.qgm_core.specs.declared.owned.OwnedQuant.{OwnedQuant}
use Rattle.qgm_translation.specs.Maps.{Map}
use Rattle.qgm_translation.specs.Shown.{Thing, of_query, of_operand, of_rows, of_groups}
use Rattle.qgm_translation.specs.Sources.{how_many_values, width}
use Rattle.qgm_translation.specs.Shown as w
use Rattle.qgm_translation.specs.Sources.{Sources, from_width, froms_width}
use Rattle.qgm_translation.proofs.Wide.{Wide, all-any, all-append, all-bind, all-distinct, all-keep, all-times, replicate-length}

abbrev Long : ℕ → List Cell → Type 0
Long n cells = length cells ≡ n

wide-product : (m n : ℕ) (X Y : Bag) → Wide m X → Wide n Y → Wide (m + n) (product X Y)
wide-product m n X Y h k =
    all-bind (Long (m + n)) (Long m) X (λ a. bind Y (λ b. unit (a ++ b))) h (λ a p.
    all-bind (Long (m + n)) (Long n) Y (λ b. unit (a ++ b)) k (λ b r. (length-append a b ∙ ap₂ ◌+◌ p r, tt)))

pub wide-kept : (n : ℕ) (on : List Cell → Truth) (X : Bag) → Wide n X → Wide n (kept on X)
wide-kept n on X h = all-bind (Long n) (Long n) X (λ row. keep (on row).t (unit row)) h (λ a p. all-keep (Long n) (on a).t (unit a) (p, tt))

wide-either : (n : ℕ) (b : Bool) (X Y : Bag) → Wide n X → Wide n Y → Wide n (cond b X Y)
wide-either n true X Y h k = h
wide-either n false X Y h k = k

wide-left : (m n : ℕ) (on : List Cell → Truth) (X Y : Bag) → Wide m X → Wide n Y → Wide (m + n) (left_join on (replicate n Null) X Y)
wide-left m n on X Y h k =
    all-bind (Long (m + n)) (Long m) X (λ row. or_else (partners on Y row) (unit (row ++ replicate n Null))) h (λ a p.
    wide-either (m + n) (nat_eq (how_many (partners on Y a)) 0) (unit (a ++ replicate n Null)) (partners on Y a)
    (length-append a (replicate n Null) ∙ ap₂ ◌+◌ p (replicate-length n Null), tt)
    (all-bind (Long (m + n)) (Long n) Y (λ others. keep (on (a ++ others)).t (unit (a ++ others))) k
    (λ b r. all-keep (Long (m + n)) (on (a ++ b)).t (unit (a ++ b)) (length-append a b ∙ ap₂ ◌+◌ p r, tt))))

pub wide-if : (n : ℕ) (d : Bool) (X : Bag) → Wide n X → Wide n (distinct_if d X)
wide-if n true X h = all-distinct (Long n) same_cells X h
wide-if n false X h = h

wide-error : (n : ℕ) (o : Option Kind) (X : Bag) → Wide n X → Wide n (error_or_bag (failed_cells n) o X)
wide-error n None X h = h
wide-error n (Some kind) X h = (replicate-length n _, tt)

pub wide-combined : (n : ℕ) (op : SetOperator) (all : Bool) (X Y : Bag) → Wide n X → Wide n Y → Wide n (combined op all (failed_cells n) X Y)
wide-combined n operator.Union true X Y h k = all-append (Long n) X Y h k
wide-combined n operator.Union false X Y h k = all-distinct (Long n) same_cells (X ++ Y) (all-append (Long n) X Y h k)
wide-combined n operator.Except true X Y h k =
    wide-error n (error_among error_in (X ++ Y)) (except_all same_cells X Y) (all-times (Long n) same_cells X (λ c. multiplicity same_cells c X - multiplicity same_cells c Y) h)
wide-combined n operator.Except false X Y h k =
    wide-error n (error_among error_in (X ++ Y)) (except same_cells X Y) (all-times (Long n) same_cells X (λ c. 1 - multiplicity same_cells c Y) h)

pub wide-intersected : (n : ℕ) (all : Bool) (X Y : Bag) → Wide n X → Wide n (intersected all (failed_cells n) X Y)
wide-intersected n true X Y h =
    wide-error n (error_among error_in (X ++ Y)) (intersect_all same_cells X Y) (all-times (Long n) same_cells X (λ c. min (multiplicity same_cells c X) (multiplicity same_cells c Y)) h)
wide-intersected n false X Y h =
    wide-error n (error_among error_in (X ++ Y)) (intersect same_cells X Y) (all-times (Long n) same_cells X (λ c. min 1 (multiplicity same_cells c Y)) h)

pub wide-selected : {T : Type 0} (n : ℕ) (test : T → Truth) (list : T → List Cell) (X : List (Row T)) → ((a : T) → length (list a) ≡ n) → Wide n (selected test list X)
wide-selected n test list X h =
    all-bind (Long n) (λ _. Unit {0}) X (λ row. keep (test row).t (unit (list row))) (all-any (λ _. Unit {0}) X (λ _. tt)) (λ a _. all-keep (Long n) (test a).t (unit (list a)) (h a, tt))

pub list-length : (known : List ℕ → Bag) (xs : Values) (scopes : k.Scopes) (group : Group (List Cell)) → length (k.cells known xs scopes group) ≡ how_many_values xs
list-length known q.no_value scopes group = refl
list-length known (q.one_value x xs) scopes group = ap suc (list-length known xs scopes group)

module _ (known : List ℕ → Bag) (sources : Sources) where
  -- what is said of the rows of a thing
  abbrev pub WideThing : Thing → k.Scopes → Type 0
  WideThing (of_query x) scopes = Wide (width x) (k.rows known x scopes)
  WideThing (of_operand x) scopes = Wide (from_width sources x) (k.from_rows known x scopes)
  WideThing (of_rows from by places ls) scopes = Wide (froms_width sources from) (k.frames known from scopes)
  WideThing (of_groups from by places ls) scopes = Wide (froms_width sources from) (k.frames known from scopes)

  module _ (sized : (name : List ℕ) → Wide (sources.columns name) (known name)) (Below : ℕ → Thing → Map → Type 0)
      (wides : (b : ℕ) (thing : Thing) (m : Map) → Below b thing m → (scopes : k.Scopes) → WideThing thing scopes) where
    wide-one : (x : From) (m : Map) (os : List OwnedQuant) → w.ShowsOne sources Below x m os → (scopes : k.Scopes) → Wide (from_width sources x) (k.from_rows known x scopes)
    wide-one x m [] h scopes = absurd h
    wide-one x m (o ∷ os) h scopes = wides o.over (of_operand x) m h.1 scopes

    pub wide-from : (x : From) (m : Map) (os : List OwnedQuant) → w.ShowsFrom sources Below x m os → (scopes : k.Scopes) → Wide (from_width sources x) (k.from_rows known x scopes)
    wide-from (q.named name) m os h scopes = wide-one (q.named name) m os h scopes
    wide-from (q.derived query) m os h scopes = wide-one (q.derived query) m os h scopes
    wide-from (q.crossed x y) m os h scopes =
        wide-product (from_width sources x) (from_width sources y) (k.from_rows known x scopes) (k.from_rows known y scopes) (wide-from x m os h.0 scopes) (wide-from y m (w.past sources x os) h.1 scopes)
    wide-from (q.joined x y p) m os h scopes =
        wide-kept (from_width sources x + from_width sources y) (λ row. k.truth known p (row ∷ scopes) no_group) (product (k.from_rows known x scopes) (k.from_rows known y scopes))
        (wide-product (from_width sources x) (from_width sources y) (k.from_rows known x scopes) (k.from_rows known y scopes) (wide-from x m os h.0 scopes) (wide-from y m (w.past sources x os) h.1 scopes))
    wide-from (q.left_joined x y n p) m os h scopes = wide-one (q.left_joined x y n p) m os h scopes

    pub wide-froms : (xs : Froms) (m : Map) (os : List OwnedQuant) → w.ShowsFroms sources Below xs m os → (scopes : k.Scopes) → Wide (froms_width sources xs) (k.frames known xs scopes)
    wide-froms q.no_from m os h scopes = (refl, tt)
    wide-froms (q.one_from x xs) m os h scopes =
        wide-product (from_width sources x) (froms_width sources xs) (k.from_rows known x scopes) (k.frames known xs scopes) (wide-from x m os h.0 scopes) (wide-froms xs m (w.past sources x os) h.1 scopes)

    two-wide : (P : OwnedQuant → OwnedQuant → Type 0) (Z : Type 0) (os : List OwnedQuant) → w.Two os P → ((p r : OwnedQuant) → P p r → Z) → Z
    two-wide P Z [] h f = absurd h
    two-wide P Z (p ∷ []) h f = absurd h
    two-wide P Z (p ∷ r ∷ []) h f = f p r h.2
    two-wide P Z (p ∷ r ∷ o ∷ os) h f = absurd h

    one-wide : (P : OwnedQuant → Type 0) (Z : Type 0) (os : List OwnedQuant) → w.One os P → ((p : OwnedQuant) → P p → Z) → Z
    one-wide P Z [] h f = absurd h
    one-wide P Z (p ∷ []) h f = f p h.1
    one-wide P Z (p ∷ r ∷ os) h f = absurd h

    wide-query : (x : Query) (m : Map) (b : Node) → w.ShowsQuery sources Below x m b → (scopes : k.Scopes) → Wide (width x) (k.rows known x scopes)
    wide-query (q.block distinct list from by) m b h scopes =
        wide-if (how_many_values list) distinct _ (wide-selected (how_many_values list) (λ row. k.truth known by (row ∷ scopes) no_group) (λ row. k.cells known list (row ∷ scopes) no_group) (k.frames known from scopes) (λ row. list-length known list (row ∷ scopes) no_group))
    wide-query (q.grouped distinct list from by places n having) m b h scopes =
        wide-if (how_many_values list) distinct _ (wide-selected (how_many_values list) (λ one. k.truth known having (one.key ∷ scopes) one.group) (λ one. k.cells known list (one.key ∷ scopes) one.group)
        (k.groups places n (kept (λ row. k.truth known by (row ∷ scopes) no_group) (k.frames known from scopes))) (λ one. list-length known list (one.key ∷ scopes) one.group))
    wide-query (q.combine x op all n y) m b h scopes =
        two-wide (λ p r. Below p.over (of_query x) m × Below r.over (of_query y) m) (Wide n (k.rows known (q.combine x op all n y) scopes)) b.quants h.quants
        (λ p r e. wide-combined n op all (k.rows known x scopes) (k.rows known y scopes)
        (subst (λ z. Wide z (k.rows known x scopes)) h.left (wides p.over (of_query x) m e.0 scopes)) (subst (λ z. Wide z (k.rows known y scopes)) h.right (wides r.over (of_query y) m e.1 scopes)))
    wide-query (q.intersect x all n y) m b h scopes =
        two-wide (λ p r. Below p.over (of_query x) m × Below r.over (of_query y) m) (Wide n (k.rows known (q.intersect x all n y) scopes)) b.quants h.quants
        (λ p r e. wide-intersected n all (k.rows known x scopes) (k.rows known y scopes) (subst (λ z. Wide z (k.rows known x scopes)) h.left (wides p.over (of_query x) m e.0 scopes)))

    wide-operand : (x : From) (m : Map) (b : Node) → w.ShowsOperand sources Below x m b → (scopes : k.Scopes) → Wide (from_width sources x) (k.from_rows known x scopes)
    wide-operand (q.named name) m b h scopes = sized name
    wide-operand (q.derived query) m b h scopes = wide-query query m b h scopes
    wide-operand (q.crossed x y) m b h scopes = wide-from (q.crossed x y) m b.quants h.froms.0 scopes
    wide-operand (q.joined x y p) m b h scopes = wide-from (q.joined x y p) m b.quants h.froms.0 scopes
    wide-operand (q.left_joined x y n p) m b h scopes =
        two-wide _ (Wide (from_width sources x + n) (k.from_rows known (q.left_joined x y n p) scopes)) b.quants h.quants
        (λ l r e. wide-left (from_width sources x) n (λ row. k.truth known p (row ∷ scopes) no_group) (k.from_rows known x scopes) (k.from_rows known y scopes)
        (wides l.over (of_operand x) m e.left scopes) (subst (λ z. Wide z (k.from_rows known y scopes)) h.columns (wides r.over (of_operand y) m e.right scopes)))

    pub wide-box : (thing : Thing) (m : Map) (b : Node) → w.ShowsBox sources Below thing m b → (scopes : k.Scopes) → WideThing thing scopes
    wide-box (of_query x) m b h scopes = wide-query x m b h scopes
    wide-box (of_operand x) m b h scopes = wide-operand x m b h scopes
    wide-box (of_rows from by places ls) m b h scopes = wide-froms from m b.quants h.rows.froms scopes
    wide-box (of_groups from by places ls) m b h scopes =
        one-wide _ (Wide (froms_width sources from) (k.frames known from scopes)) b.quants h.quants (λ p e. wides p.over (of_rows from by places ls) m e.0 scopes)
