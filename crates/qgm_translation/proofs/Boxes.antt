-- A box that shows a thing gives its rows, and so does each box of a graph.
use Rattle.std.proofs.Common.{◌≡◌, ℕ, zero, suc, ◌==◌, ◌&&◌, not, Bool, true, false, cond, List, [], ◌∷◌, ◌++◌, map, length, replicate, get_or, append-nil, refl, ap, ap₂, sym, ◌∙◌, subst, Option, Some, None, pos}
use Rattle.std.proofs.lemmas.Bool.{and_parts}
use mathlib.Core.Path.{fun_ext}
use Rattle.row_bag.specs.Bags.{bind, keep, unit}
use Rattle.row_bag.specs.Order.{cell_of}
use Rattle.row_bag.specs.Tables.{bag_named}
use Rattle.row_bag.specs.declared.tables.Table.{Table}
use Rattle.row_bag.proofs.Binds.{bind-bind, bind-unit, keep-yes, unit-bind}
use Rattle.sql_meaning.specs.Groups.{no_group}
use Rattle.sql_meaning.specs.Joins.{distinct_if, or_else, partners, selected}
use Rattle.sql_value.specs.Truths as t
use Rattle.sql_value.specs.declared.cell.Cell.{Cell}
use Rattle.sql_value.specs.declared.cell.Cell.TheVariants.{Int, Null}
use Rattle.sql_value.specs.declared.truth.Truth.{Truth}
use Rattle.sql_meaning.specs.ResolvedMeaning as k
use Rattle.sql_meaning.specs.ResolvedTrees.{Value, Values, Test, From, Froms, Query}
use Rattle.sql_meaning.specs.ResolvedTrees as q
use Rattle.qgm_meaning.specs.Values.{Bag, Environment, bound, head_cells, value}
use Rattle.qgm_terms.specs.Terms.{Term}
use Rattle.qgm_terms.specs.Terms as terms
use Rattle.qgm_meaning.specs.Meaning as boxes
use Rattle.qgm_meaning.specs.Meaning.{of_one, of_two}
use Rattle.qgm_core.specs.Kinds.{is_enforce}
use Rattle.qgm_core.specs.declared.kinds.Distinct.TheVariants.{Preserve}
use Rattle.sql_meaning.specs.ResolvedViews.{viewed}
use Rattle.qgm_translation.proofs.Bridge.{combined-same, intersected-same, once-same, source-same}
use Rattle.qgm_meaning.specs.Meaning.{Family, bag_in, grouped_rows, rows_by, rows_of}
use Rattle.qgm_core.specs.declared.node.Node.{Node}
use Rattle.qgm_core.specs.declared.owned.OwnedQuant.{OwnedQuant}
use Rattle.qgm_translation.proofs.Bridge.{given_of, rows_in}
use Rattle.qgm_translation.specs.Maps.{Frame, Map, fresh, nothing, ref_cell, ref_term, seen, seen_in}
use Rattle.qgm_translation.specs.Leaves.{Leaf, Slots, count, fold, list_leaves, sub}
use Rattle.qgm_translation.specs.Terms.{split, term}
use Rattle.qgm_translation.specs.Terms as l
use Rattle.qgm_translation.specs.Shown.{PlainArguments, Thing, argument_terms, distinct_ids, key_places, no_slots, of_groups, of_operand, of_query, of_rows, padded, refs}
use Rattle.qgm_translation.proofs.Things.{arguments}
use Rattle.qgm_translation.specs.Shown as w
use Rattle.qgm_translation.specs.Sources.{Sources, from_width}
use Rattle.qgm_translation.proofs.Things.{thing_rows}
use Rattle.qgm_translation.proofs.TermLaws.{Mean, all-split, cond-means, get_or-map, ref-means, row-same, term-means, terms-mean}
use Rattle.qgm_core.specs.declared.kinds.Distinct.{Distinct}
use Rattle.qgm_core.specs.declared.kinds.SetOperator as forms
use Rattle.qgm_translation.proofs.Things.{filtered, lower_rows}
use Rattle.qgm_translation.proofs.Froms.{HaveBags, frame-fresh, fresh-refs, gives, kept-bind, map-fresh, refs-seen, seen-append}
use Rattle.qgm_translation.proofs.Groups.{group-free}
use Rattle.qgm_translation.proofs.Keys.{picked}
use Rattle.qgm_translation.proofs.Selects.{Always, Fresh, Plain, refs-head, select-rows}
use Rattle.qgm_translation.proofs.Uppers.{upper-rows}
use Rattle.qgm_translation.proofs.Wide.{Wide, bind-all}
use Rattle.qgm_translation.proofs.Widths.{WideThing, wide-box, wide-kept}

types-length : {X : Type 0} (f : Term → X) (q k n : ℕ) → length (map f (w.columns_of q k n)) ≡ n
types-length f q k zero = refl
types-length f q k (suc n) = ap suc (types-length f q (suc k) n)

padded-head : (s : ℕ → Bag) (e : Environment) (x : Term) (xs : List Term) → head_cells s (padded x xs) e ≡ padded (value s x e) (head_cells s xs e)
padded-head s e x [] = refl
padded-head s e x (y ∷ ys) = refl

head-append : (s : ℕ → Bag) (e : Environment) (xs ys : List Term) → head_cells s (xs ++ ys) e ≡ head_cells s xs e ++ head_cells s ys e
head-append s e [] ys = refl
head-append s e (x ∷ xs) ys = ap (λ b. value s x e ∷ b) (head-append s e xs ys)

keys-head : (s : ℕ → Bag) (e : Environment) (fr : Frame) (places : List ℕ) → head_cells s (map (λ place. ref_term (get_or fr place nothing)) places) e ≡ picked places (seen_in e fr)
keys-head s e fr [] = refl
keys-head s e fr (p ∷ ps) = ap₂ (λ a b. a ∷ b) (ref-means s e (get_or fr p nothing) ∙ sym (get_or-map (ref_cell e) fr p nothing)) (keys-head s e fr ps)

arguments-head : (sources : Sources) (known : List ℕ → Bag) (s : ℕ → Bag) (e : Environment) (fr : Frame) (ls : List Leaf) → PlainArguments fr ls → head_cells s (argument_terms sources fr ls) e ≡ arguments known ls (seen_in e fr)
arguments-head sources known s e fr [] h = refl
arguments-head sources known s e fr (sub f kind x ∷ ls) h = arguments-head sources known s e fr ls h
arguments-head sources known s e fr (fold f distinct x ∷ ls) h =
    ap₂ (λ a b. a ∷ b)
    (term-means known s (λ f. seen e (f ∷ [])) (λ _ _. ⊥) (λ _ _. ⊥) no_group sources fr [] (λ d. d ≡ e) (λ d g. ap (λ z. seen z (fr ∷ [])) g) (λ n b d cells g. absurd b) (λ r v b d g. absurd b) no_slots x
    (subst (λ zs. Mean known s (λ f. seen e (f ∷ [])) (λ _ _. ⊥) (λ _ _. ⊥) no_group zs no_slots) (sym h.0) tt) e refl)
    (arguments-head sources known s e fr ls h.1)
arguments-head sources known s e fr (count ∷ ls) h = arguments-head sources known s e fr ls h

nulls-seen : (q j n : ℕ) (env : Environment) → seen_in (bound q [] env) (refs q (suc j) n) ≡ replicate n Null
nulls-seen q j zero env = refl
nulls-seen q j (suc n) env = ap₂ (λ a b. a ∷ b) (ap (cell_of (suc j)) (row-same q [] env)) (nulls-seen q (suc j) n env)

module _ (tables : List Table) (known : List ℕ → Bag) (sources : Sources)
    (sized : (name : List ℕ) → Wide (sources.columns name) (known name)) (fixed : (name : List ℕ) → known name ≡ viewed known tables name (sources.body name)) where
  -- over boxes below that give the rows of what they show
  module _ (bag : Family) (Below : ℕ → Thing → Map → Type 0)
      (bags : (b : ℕ) (thing : Thing) (m : Map) → Below b thing m → (env : Environment) → bag b env ≡ thing_rows known thing (seen env m))
      (wides : (b : ℕ) (thing : Thing) (m : Map) → Below b thing m → (scopes : k.Scopes) → WideThing known sources thing scopes) where
    wide-operands : (b : ℕ) (x : From) (m : Map) → Below b (of_operand x) m → (scopes : k.Scopes) → Wide (from_width sources x) (k.from_rows known x scopes)
    wide-operands b x m = wides b (of_operand x) m

    abbrev Selects : Distinct → Froms → Test → (Frame → List Leaf) → (Frame → Slots → List Term) → Map → Node → Type 0
    Selects = w.ShowsSelect sources Below

    -- a select box, whatever its list
    select-box : (from : Froms) (by : Test) (heads : Frame → List Leaf) (list : Frame → Slots → List Term) (m : Map) (n : Node) (lister : k.Scopes → List Cell → List Cell) (distinct : Bool)
        → Selects (w.distinct_of distinct) from by heads list m n
        → ((e : Environment) (sl : Slots) → Plain known sources bag Below bags wide-operands (rows_in n.quants bag) m e (heads (w.frame_all sources from n.quants)) sl → head_cells (λ q. rows_in n.quants bag q e) (list (w.frame_all sources from n.quants) sl) e ≡ lister (seen e m) (seen_in e (w.frame_all sources from n.quants)))
        → (env : Environment) → rows_of tables n bag env ≡ distinct_if distinct (selected (λ row. k.truth known by (row ∷ seen env m) no_group) (lister (seen env m)) (k.frames known from (seen env m)))
    select-box from by heads list m n lister distinct h means env =
        ap (λ kind. rows_by kind tables n (rows_in n.quants bag) env) h.kind
        ∙ ap₂ (λ d rows. boxes.once_if (is_enforce d) rows) h.plain.distinctness (select-rows known sources bag Below bags wide-operands from by heads list m n lister (w.distinct_of distinct) h means env)
        ∙ once-same distinct (selected (λ row. k.truth known by (row ∷ seen env m) no_group) (lister (seen env m)) (k.frames known from (seen env m)))

    -- the rows of two quantifiers, and of one
    two-rows : (P : OwnedQuant → OwnedQuant → Type 0) (N : List OwnedQuant → Type 0) (z : Bag) (f : ℕ → ℕ → Bag) (os : List OwnedQuant) → w.Two os P → N os → ((p r : OwnedQuant) → P p r → N (p ∷ r ∷ []) → f p.id r.id ≡ z) → of_two os f ≡ z
    two-rows P N z f [] h n each = absurd h
    two-rows P N z f (p ∷ []) h n each = absurd h
    two-rows P N z f (p ∷ r ∷ []) h n each = each p r h.2 n
    two-rows P N z f (p ∷ r ∷ o ∷ os) h n each = absurd h

    one-row : (P : OwnedQuant → Type 0) (N : List OwnedQuant → Type 0) (z : Bag) (f : ℕ → Bag) (os : List OwnedQuant) → w.One os P → N os → ((p : OwnedQuant) → P p → N (p ∷ []) → f p.id ≡ z) → of_one os f ≡ z
    one-row P N z f [] h n each = absurd h
    one-row P N z f (p ∷ []) h n each = each p h.1 n
    one-row P N z f (p ∷ r ∷ os) h n each = absurd h

    pair-box : (form : forms.SetOperator) (n : ℕ) (x y : Query) (m : Map) (b : Node) → w.ShowsPair sources Below form n x y m b → (env : Environment)
        → rows_of tables b bag env ≡ boxes.combined form n (k.rows known x (seen env m)) (k.rows known y (seen env m))
    pair-box form n x y m b h env =
        ap (λ kind. rows_by kind tables b (rows_in b.quants bag) env) h.kind
        ∙ ap (λ w. of_two b.quants (λ p r. boxes.combined form w (rows_in b.quants bag p env) (rows_in b.quants bag r env))) (types-length sources.typed (w.first_id b.quants) 1 n)
        ∙ two-rows (λ p r. Below p.over (of_query x) m × Below r.over (of_query y) m) (HaveBags (rows_in b.quants bag) bag) (boxes.combined form n (k.rows known x (seen env m)) (k.rows known y (seen env m)))
        (λ p r. boxes.combined form n (rows_in b.quants bag p env) (rows_in b.quants bag r env)) b.quants h.quants (gives bag b.quants h.plain.numbered.0)
        (λ p r e g. ap₂ (boxes.combined form n) (g.0 env ∙ bags p.over (of_query x) m e.0 env) (g.1.0 env ∙ bags r.over (of_query y) m e.1 env))

    query-box : (x : Query) (m : Map) (b : Node) → w.ShowsQuery sources Below x m b → (env : Environment) → rows_of tables b bag env ≡ k.rows known x (seen env m)
    query-box (q.block distinct list from by) m b h env =
        select-box from by (λ fr. list_leaves fr list) (λ fr s. l.terms sources fr m s list) m b (λ scopes row. k.cells known list (row ∷ scopes) no_group) distinct h
        (λ e sl mean. let s : ℕ → Bag = λ n. rows_in b.quants bag n e in let fr = w.frame_all sources from b.quants in
        terms-mean known s (λ f. seen e (f ∷ m)) (Fresh known sources bag Below bags wide-operands m) (Always known sources bag Below bags wide-operands) no_group sources fr m (λ d. seen d (fr ∷ m) ≡ seen e (fr ∷ m)) (λ d g. g)
        (λ n f d cells g. map-fresh n cells d (fr ∷ m) f ∙ g) (λ r v x d g. x d) sl list mean e refl) env
    query-box (q.grouped distinct list from by places n having) m b h env =
        ap (λ kind. rows_by kind tables b (rows_in b.quants bag) env) h.kind
        ∙ ap₂ (λ d rows. boxes.once_if (is_enforce d) rows) h.plain.distinctness (upper-rows known sources bag Below bags wide-operands list from by places n having m b b.quants (rows_in b.quants bag) h.key h.plain.numbered (gives bag b.quants h.plain.numbered.0)
        (λ c ls below scopes. wide-kept n (λ row. k.truth known by (row ∷ scopes) no_group) (k.frames known from scopes) (subst (λ z. Wide z (k.frames known from scopes)) h.columns (wides c (of_groups from by (key_places places) ls) m below scopes))) h.upper env)
        ∙ once-same distinct (selected (λ one. k.truth known having (one.key ∷ seen env m) one.group) (λ one. k.cells known list (one.key ∷ seen env m) one.group) (k.groups places n (filtered known from by (seen env m))))
    query-box (q.combine x op all n y) m b h env = pair-box (w.form_of op all) n x y m b h env ∙ combined-same op all n (k.rows known x (seen env m)) (k.rows known y (seen env m))
    query-box (q.intersect x all n y) m b h env = pair-box (w.common_form all) n x y m b h env ∙ intersected-same all n (k.rows known x (seen env m)) (k.rows known y (seen env m))

    source-box : (name : List ℕ) (view : Option Query) (b : Node) → w.ShowsSource sources Below name view b → (env : Environment) → rows_of tables b bag env ≡ viewed known tables name view
    source-box name None b h env =
        ap (λ kind. rows_by kind tables b (rows_in b.quants bag) env) h.kind ∙ ap (λ z. boxes.rows_or_none (bag_named tables z)) h.named ∙ source-same (bag_named tables name)
    source-box name (Some view) b h env = query-box view [] b h env

    -- a select over one operand alone, with all its columns
    alone : (x : From) (scopes : k.Scopes) → selected (λ row. k.truth known (q.all q.no_test) (row ∷ scopes) no_group) (λ row. row) (k.frames known (q.one_from x q.no_from) scopes) ≡ k.from_rows known x scopes
    alone x scopes =
        let X = k.from_rows known x scopes in
        bind-bind X (λ row. bind (unit []) (λ others. unit (row ++ others))) (λ row. keep (t.truth_of true).t (unit row))
        ∙ ap (bind X) (fun_ext (λ row.
        ap (λ rows. bind rows (λ row. keep (t.truth_of true).t (unit row))) (unit-bind [] (λ others. unit (row ++ others)))
        ∙ unit-bind (row ++ []) (λ row. keep (t.truth_of true).t (unit row))
        ∙ keep-yes (unit (row ++ [])) ∙ ap unit (append-nil row)))
        ∙ bind-unit X

    operand-select : (x : From) (m : Map) (b : Node) → Selects Preserve (q.one_from x q.no_from) (q.all q.no_test) (λ fr. []) (λ fr s. map ref_term fr) m b → (env : Environment) → rows_of tables b bag env ≡ k.from_rows known x (seen env m)
    operand-select x m b h env =
        select-box (q.one_from x q.no_from) (q.all q.no_test) (λ fr. []) (λ fr s. map ref_term fr) m b (λ scopes row. row) false h
        (λ e sl mean. refs-head (λ n. rows_in b.quants bag n e) e (w.frame_all sources (q.one_from x q.no_from) b.quants)) env
        ∙ alone x (seen env m)

    operand-box : (x : From) (m : Map) (b : Node) → w.ShowsOperand sources Below x m b → (env : Environment) → rows_of tables b bag env ≡ k.from_rows known x (seen env m)
    operand-box (q.named name) m b h env = source-box name (sources.body name) b h.1 env ∙ sym (fixed name)
    operand-box (q.derived query) m b h env = query-box query m b h env
    operand-box (q.crossed x y) m b h env = operand-select (q.crossed x y) m b h env
    operand-box (q.joined x y p) m b h env = operand-select (q.joined x y p) m b h env
    operand-box (q.left_joined x y n on) m b h env =
        ap (λ kind. rows_by kind tables b (rows_in b.quants bag) env) h.kind
        ∙ two-rows (λ l r. w.ShowsSides sources Below x y n on m b l r) (λ os. w.Numbered m os × HaveBags (rows_in b.quants bag) bag os) (k.from_rows known (q.left_joined x y n on) (seen env m))
        (boxes.outer_rows b (rows_in b.quants bag) env) b.quants h.quants (h.plain.numbered, gives bag b.quants h.plain.numbered.0)
        (λ p r e here.
        let numbered = here.0 in
        let scopes = seen env m in
        let wx = from_width sources x in
        let fr = refs p.id 1 wx ++ refs r.id 1 n in
        let new = and_parts (fresh p.id m) (fresh r.id m && true) numbered.1 in
        let also = and_parts (fresh r.id m) true new.1 in
        let d = and_parts (not (p.id == r.id) && true) (true && true) numbered.0 in
        let apart = and_parts (not (p.id == r.id)) true d.0 in
        let test : List Cell → Truth = λ row. k.truth known on (row ∷ scopes) no_group in
        let bare : (others : List Cell) (cells : List Cell) → length cells ≡ wx → seen_in (bound r.id others (bound p.id cells env)) (refs p.id 1 wx) ≡ cells
        = λ others cells len. frame-fresh r.id others (bound p.id cells env) (refs p.id 1 wx) (fresh-refs r.id p.id 1 wx apart.0) ∙ refs-seen p.id wx cells env len in
        let both : (cells others : List Cell) → length cells ≡ wx → length others ≡ n → seen_in (bound r.id others (bound p.id cells env)) fr ≡ cells ++ others
        = λ cells others len more. seen-append (bound r.id others (bound p.id cells env)) (refs p.id 1 wx) (refs r.id 1 n) ∙ ap₂ (λ a c. a ++ c) (bare others cells len) (refs-seen r.id n others (bound p.id cells env) more) in
        let outer : (cells others : List Cell) → seen (bound r.id others (bound p.id cells env)) m ≡ scopes
        = λ cells others. map-fresh r.id others (bound p.id cells env) m also.0 ∙ map-fresh p.id cells env m new.0 in
        let row : (cells others : List Cell) → length cells ≡ wx → length others ≡ n → given_of b.parts.conds.items b.parts.head (λ _ _. []) (bound r.id others (bound p.id cells env)) ≡ keep (test (cells ++ others)).t (unit (cells ++ others))
        = λ cells others len more.
        let f = bound r.id others (bound p.id cells env) in
        ap₂ (λ cs hs. given_of cs hs (λ _ _. []) f) e.conds e.head
        ∙ ap₂ (λ (z : Truth) (zs : List Cell). keep z.t (unit zs))
        (all-split boxes.nothing (l.cond sources fr m no_slots on) f
        ∙ cond-means known boxes.nothing (λ g. seen f (g ∷ m)) (λ _ _. ⊥) (λ _ _. ⊥) no_group sources fr m (λ g. g ≡ f) (λ g k. ap (λ z. seen z (fr ∷ m)) k) (λ i u g c k. absurd u) (λ i v u g k. absurd u) no_slots on
        (subst (λ zs. Mean known boxes.nothing (λ g. seen f (g ∷ m)) (λ _ _. ⊥) (λ _ _. ⊥) no_group zs no_slots) (sym e.on) tt) f refl
        ∙ ap (λ z. k.truth known on z no_group) (ap₂ (λ a z. a ∷ z) (both cells others len more) (outer cells others)))
        (refs-head boxes.nothing f fr ∙ both cells others len more) in
        let none : (cells : List Cell) → length cells ≡ wx → head_cells boxes.nothing b.parts.head (bound r.id [] (bound p.id cells env)) ≡ cells ++ replicate n Null
        = λ cells len.
        let f = bound r.id [] (bound p.id cells env) in
        ap (λ hs. head_cells boxes.nothing hs f) e.head ∙ refs-head boxes.nothing f fr ∙ seen-append f (refs p.id 1 wx) (refs r.id 1 n)
        ∙ ap₂ (λ a c. a ++ c) (bare [] cells len) (nulls-seen r.id 0 n (bound p.id cells env)) in
        ap₂ (λ xs ys. bind xs (λ cells. or_else (bind ys (λ others. given_of b.parts.conds.items b.parts.head (λ _ _. []) (bound r.id others (bound p.id cells env)))) (unit (head_cells boxes.nothing b.parts.head (bound r.id [] (bound p.id cells env))))))
        (here.1.0 env ∙ bags p.over (of_operand x) m e.left env) (here.1.1.0 env ∙ bags r.over (of_operand y) m e.right env)
        ∙ bind-all (λ cells. length cells ≡ wx) (k.from_rows known x scopes)
        (λ cells. or_else (bind (k.from_rows known y scopes) (λ others. given_of b.parts.conds.items b.parts.head (λ _ _. []) (bound r.id others (bound p.id cells env)))) (unit (head_cells boxes.nothing b.parts.head (bound r.id [] (bound p.id cells env)))))
        (λ cells. or_else (partners test (k.from_rows known y scopes) cells) (unit (cells ++ replicate n Null)))
        (wides p.over (of_operand x) m e.left scopes)
        (λ cells len. ap₂ or_else
        (bind-all (λ others. length others ≡ n) (k.from_rows known y scopes) (λ others. given_of b.parts.conds.items b.parts.head (λ _ _. []) (bound r.id others (bound p.id cells env))) (λ others. keep (test (cells ++ others)).t (unit (cells ++ others)))
        (subst (λ z. Wide z (k.from_rows known y scopes)) h.columns (wides r.over (of_operand y) m e.right scopes)) (λ others more. row cells others len more))
        (ap unit (none cells len))))

    thing-box : (thing : Thing) (m : Map) (b : Node) → w.ShowsBox sources Below thing m b → (env : Environment) → rows_of tables b bag env ≡ thing_rows known thing (seen env m)
    thing-box (of_query x) m b h env = query-box x m b h env
    thing-box (of_operand x) m b h env = operand-box x m b h env
    thing-box (of_rows from by places ls) m b h env =
        let fr = w.frame_all sources from b.quants in
        let lower : List Cell → List Cell = λ row. padded (Int (pos 1)) (picked places row ++ arguments known ls row) in
        select-box from by (λ fr. []) (λ fr s. padded (terms.int (pos 1)) (map (λ place. ref_term (get_or fr place nothing)) places ++ argument_terms sources fr ls)) m b (λ scopes. lower) false h.rows
        (λ e sl mean. let s : ℕ → Bag = λ n. rows_in b.quants bag n e in
        padded-head s e (terms.int (pos 1)) (map (λ place. ref_term (get_or fr place nothing)) places ++ argument_terms sources fr ls)
        ∙ ap (padded (Int (pos 1))) (head-append s e (map (λ place. ref_term (get_or fr place nothing)) places) (argument_terms sources fr ls) ∙ ap₂ (λ a c. a ++ c) (keys-head s e fr places) (arguments-head sources known s e fr ls h.arguments))) env
        ∙ sym (kept-bind (k.frames known from (seen env m)) (λ row. k.truth known by (row ∷ seen env m) no_group) (λ row. unit (lower row)))
    thing-box (of_groups from by places ls) m b h env =
        ap (λ kind. rows_by kind tables b (rows_in b.quants bag) env) h.kind
        ∙ one-row (λ p. Below p.over (of_rows from by places ls) m × (b.parts.head ≡ w.groups_list places ls p.id)) (HaveBags (rows_in b.quants bag) bag) (thing_rows known (of_groups from by places ls) (seen env m))
        (λ p. grouped_rows (length places) b.parts.head p env (rows_in b.quants bag p env)) b.quants h.quants (gives bag b.quants h.plain.numbered.0)
        (λ p e g. ap₂ (λ hs rows. grouped_rows (length places) hs p.id env rows) e.1 (g.0 env ∙ bags p.over (of_rows from by places ls) m e.0 env) ∙ group-free known places ls p.id env (lower_rows known from by places ls (seen env m)))

  -- ---- the boxes of a graph

  abbrev pub Shows : List Node → ℕ → Thing → Map → Type 0
  Shows = w.Shows sources

  pub wide : (ns : List Node) (b : ℕ) (thing : Thing) (m : Map) → Shows ns b thing m → (scopes : k.Scopes) → WideThing known sources thing scopes
  wide [] b thing m h scopes = absurd h
  wide (n ∷ ns) b thing m h scopes =
      elim (n.id == b) as (λ own. w.Either own (w.ShowsBox sources (Shows ns) thing m n) (Shows ns b thing m) → WideThing known sources thing scopes) [
        | true ↦ (λ h. wide-box known sources sized (Shows ns) (wide ns) thing m n h scopes)
        | false ↦ (λ h. wide ns b thing m h scopes)
      ] h

  -- a box that shows a thing gives its rows, in every environment
  pub agree : (ns : List Node) (b : ℕ) (thing : Thing) (m : Map) → Shows ns b thing m → (env : Environment) → bag_in tables ns b env ≡ thing_rows known thing (seen env m)
  agree [] b thing m h env = absurd h
  agree (n ∷ ns) b thing m h env =
      elim (n.id == b) as (λ own. w.Either own (w.ShowsBox sources (Shows ns) thing m n) (Shows ns b thing m) → cond own (rows_of tables n (bag_in tables ns)) (bag_in tables ns b) env ≡ thing_rows known thing (seen env m)) [
        | true ↦ (λ h. thing-box (bag_in tables ns) (Shows ns) (agree ns) (wide ns) thing m n h env)
        | false ↦ (λ h. agree ns b thing m h env)
      ] h
