-- What a schema's tokens spell is read, and no tokens spell two schemas.
use Rattle.std.proofs.Common.{◌≡◌, ℕ, zero, suc, ◌≤◌, true, List, [], ◌∷◌, Some, refl, sym, ◌∙◌, ap, length, arith}
use Rattle.std.specs.Option.{option_map, option_and_then}
use Rattle.sql_text.specs.declared.key.Key.TheVariants as k
use Rattle.sql_text.specs.declared.token.Token.{Token}
use Rattle.sql_text.specs.declared.token.Token.TheVariants as t
use Rattle.sql_text.specs.Depth.{shallow}
use Rattle.sql_ast.specs.declared.schema.ColumnConstraint.{ColumnConstraint}
use Rattle.sql_ast.specs.declared.schema.ColumnConstraint.TheVariants as constraint
use Rattle.sql_ast.specs.declared.schema.Element.{Element}
use Rattle.sql_ast.specs.declared.schema.Element.TheVariants as el
use Rattle.sql_ast.specs.declared.schema.TableDecl.{TableDecl}
use Rattle.sql_ast.specs.Grammatical.{SpellsSchema, is_query, is_element, are_elements, is_statement, are_statements, some_of}
use Rattle.sql_ast.specs.Spelling as sp
use Rattle.sql_ast.specs.Syntax as s
use Rattle.sql_parser.specs.ReadSchema as r
use Rattle.sql_parser.specs.ReadSchema.{schema_tree}
use Rattle.sql_parser.specs.Words as w
use Rattle.sql_parser.specs.Words.{◌>>=◌}
use Rattle.sql_parser.proofs.Steps.{some_inj, and_ok}
use Rattle.sql_parser.proofs.Balanced as balanced
use Rattle.sql_parser.proofs.Balanced.{Balanced, nothing, token, joined, brackets, weaker, tall_query}
use Rattle.sql_parser.proofs.CompleteWords as words
use Rattle.sql_parser.proofs.Complete.{query_followed, query_same}

tail_inj : (u : Token) (ts us : List Token) → u ∷ ts ≡ u ∷ us → ts ≡ us
tail_inj u ts us h = cc

-- ---- tables

names_read : (ns : List (List ℕ)) (ts : List Token) → some_of ns ≡ true → w.names (sp.names ns (t.RightParen ∷ ts)) ≡ Some (ns, t.RightParen ∷ ts)
names_read [] ts some = absurd (cc)
names_read (n ∷ ns) ts some = words.names_read n ns (t.RightParen ∷ ts) (omega arith)

-- where no constraint follows
constraints_read : (cs : List ColumnConstraint) (ts : List Token) → r.constraints ts ≡ ([], ts) → r.constraints (sp.constraints cs ts) ≡ (cs, ts)
constraints_read [] ts h = h
constraints_read (constraint.NotNull ∷ cs) ts h = ap (λ x. (constraint.NotNull ∷ x.0, x.1)) (constraints_read cs ts h)
constraints_read (constraint.PrimaryKey ∷ cs) ts h = ap (λ x. (constraint.PrimaryKey ∷ x.0, x.1)) (constraints_read cs ts h)
constraints_read (constraint.Unique ∷ cs) ts h = ap (λ x. (constraint.Unique ∷ x.0, x.1)) (constraints_read cs ts h)

element_read : (x : Element) (ts : List Token) → is_element x ≡ true → r.constraints ts ≡ ([], ts) → r.element (sp.element x ts) ≡ Some (x, ts)
element_read (el.Column c) ts g h = rw (words.data_type_read c.data_type (sp.constraints c.constraints ts), constraints_read c.constraints ts h) refl
element_read (el.PrimaryKey ns) ts g h = rw (names_read ns ts g) refl
element_read (el.Unique ns) ts g h = rw (names_read ns ts g) refl

more_start : (xs : List Element) (ts : List Token) → r.constraints (sp.more_elements xs (t.RightParen ∷ ts)) ≡ ([], sp.more_elements xs (t.RightParen ∷ ts))
more_start [] ts = refl
more_start (x ∷ xs) ts = refl

more_elements_read : (xs : List Element) (n : ℕ) (ts : List Token) → are_elements xs ≡ true → length xs ≤ n
    → r.more_elements n (sp.more_elements xs (t.RightParen ∷ ts)) ≡ Some (xs, t.RightParen ∷ ts)
more_elements_read [] zero ts g fit = refl
more_elements_read [] (suc n) ts g fit = refl
more_elements_read (x ∷ xs) zero ts g fit = absurd (omega arith)
more_elements_read (x ∷ xs) (suc n) ts g fit =
    let gx = and_ok (is_element x) (are_elements xs) g in
    rw (element_read x (sp.more_elements xs (t.RightParen ∷ ts)) gx.0 (more_start xs ts), more_elements_read xs n ts gx.1 (omega arith)) refl

-- ---- the tokens' number and depth

constraints : (cs : List ColumnConstraint) → Balanced (sp.constraints cs) 0
constraints [] = nothing
constraints (constraint.NotNull ∷ cs) = token (t.Key k.Not) _ 0 refl (token (t.Key k.Null) _ 0 refl (constraints cs))
constraints (constraint.PrimaryKey ∷ cs) = token (t.Key k.Primary) _ 0 refl (token (t.Key k.Key) _ 0 refl (constraints cs))
constraints (constraint.Unique ∷ cs) = token (t.Key k.Unique) _ 0 refl (constraints cs)

-- "(" names ")"
key_names : (ns : List (List ℕ)) → Balanced (λ ts. t.LeftParen ∷ sp.names ns (t.RightParen ∷ ts)) 0
key_names ns = weaker _ 0 1 (omega arith) (brackets _ 0 (balanced.names ns))

element : (x : Element) → Balanced (sp.element x) 0
element (el.Column c) = token (t.Name c.name) _ 0 refl (joined _ _ 0 0 (balanced.data_type c.data_type) (constraints c.constraints))
element (el.PrimaryKey ns) = token (t.Key k.Primary) _ 0 refl (token (t.Key k.Key) _ 0 refl (key_names ns))
element (el.Unique ns) = token (t.Key k.Unique) _ 0 refl (key_names ns)

more_elements : (xs : List Element) → Balanced (sp.more_elements xs) 0
more_elements [] = nothing
more_elements (x ∷ xs) = token t.Comma _ 0 refl (joined _ _ 0 0 (element x) (more_elements xs))

elements : (xs : List Element) → Balanced (sp.elements xs) 0
elements [] = nothing
elements (x ∷ xs) = joined _ _ 0 0 (element x) (more_elements xs)

statement : (x : s.Statement) → Balanced (sp.statement x) 0
statement (s.table d) = token (t.Key k.Create) _ 0 refl (token (t.Key k.Table) _ 0 refl (token (t.Name d.name) _ 0 refl
    (weaker _ 0 1 (omega arith) (brackets _ 0 (elements d.elements)))))
statement (s.view v) = token (t.Key k.Create) _ 0 refl (token (t.Key k.View) _ 0 refl (token (t.Name v.name) _ 0 refl
    (joined _ _ 0 0 (balanced.column_list v.columns) (token (t.Key k.As) _ 0 refl (weaker _ 0 (tall_query v.query) (omega arith) (balanced.query v.query))))))

elements_count : (xs : List Element) (ts : List Token) → length xs ≤ length (sp.more_elements xs ts)
elements_count [] ts = omega arith
elements_count (x ∷ xs) ts = let p = elements_count xs ts in let q = (element x).longer (sp.more_elements xs ts) in omega (arith, p, q)

elements_read : (xs : List Element) (ts : List Token) → some_of xs ≡ true → are_elements xs ≡ true → r.elements (sp.elements xs (t.RightParen ∷ ts)) ≡ Some (xs, t.RightParen ∷ ts)
elements_read [] ts some g = absurd (cc)
elements_read (x ∷ xs) ts some g =
    let gx = and_ok (is_element x) (are_elements xs) g in
    rw (
      element_read x (sp.more_elements xs (t.RightParen ∷ ts)) gx.0 (more_start xs ts),
      more_elements_read xs (length (sp.more_elements xs (t.RightParen ∷ ts))) ts gx.1 (elements_count xs (t.RightParen ∷ ts)),
    )
    refl

table_read : (d : TableDecl) (ts : List Token) → is_statement (s.table d) ≡ true → r.statement (sp.statement (s.table d) ts) ≡ Some (s.table d, ts)
table_read d ts g =
    let gd = and_ok (some_of d.elements) (are_elements d.elements) g in
    rw (elements_read d.elements ts gd.0 gd.1) refl

-- ---- statements

-- before AS
column_list_read : (ns : List (List ℕ)) (ts : List Token) → w.column_list (sp.column_list ns (t.Key k.As ∷ ts)) ≡ Some (ns, t.Key k.As ∷ ts)
column_list_read [] ts = refl
column_list_read (n ∷ ns) ts = ap (λ m. m >>= w.closed (λ ns. ns)) (words.names_read n ns (t.RightParen ∷ t.Key k.As ∷ ts) (omega arith))

view_read : (v : s.ViewDecl) (ts : List Token) → is_query v.query ≡ true → shallow 64 (sp.statement (s.view v) (t.Semicolon ∷ ts)) ≡ true
    → r.statement (sp.statement (s.view v) (t.Semicolon ∷ ts)) ≡ Some (s.view v, t.Semicolon ∷ ts)
view_read v ts g room =
    let us = sp.query v.query (t.Semicolon ∷ ts) in
    let query_room = ((balanced.column_list v.columns).fits 64 (t.Key k.As ∷ us) room).1 in
    rw (column_list_read v.columns us, (query_followed v.query (t.Semicolon ∷ ts) g (omega arith) query_room).0) refl

statement_read : (x : s.Statement) (ts : List Token) → is_statement x ≡ true → shallow 64 (sp.statement x (t.Semicolon ∷ ts)) ≡ true
    → r.statement (sp.statement x (t.Semicolon ∷ ts)) ≡ Some (x, t.Semicolon ∷ ts)
statement_read (s.table d) ts g h = table_read d (t.Semicolon ∷ ts) g
statement_read (s.view v) ts g h = view_read v ts g h

one_turn : (n : ℕ) (ts : List Token) (x : s.Statement) (xs : List s.Statement) (us : List Token) → r.statement ts ≡ Some (x, t.Semicolon ∷ us) → r.statements n us ≡ Some xs
    → r.statements (suc n) ts ≡ Some (x ∷ xs)
one_turn n [] x xs us h rest = absurd (cc)
one_turn n (u ∷ ts) x xs us h rest =
    ap (λ m. option_and_then (λ y. option_map (λ ys. y.0 ∷ ys) (r.statements n y.1)) (m >>= r.semicolon)) h
    ∙ ap (option_map (λ ys. x ∷ ys)) rest

statements_read : (xs : List s.Statement) (n : ℕ) → are_statements xs ≡ true → shallow 64 (sp.statements xs) ≡ true → length xs ≤ n → r.statements n (sp.statements xs) ≡ Some xs
statements_read [] n g h fit = refl
statements_read (x ∷ xs) zero g h fit = absurd (omega arith)
statements_read (x ∷ xs) (suc n) g h fit =
    let gx = and_ok (is_statement x) (are_statements xs) g in
    one_turn n (sp.statement x (t.Semicolon ∷ sp.statements xs)) x xs (sp.statements xs) (statement_read x (sp.statements xs) gx.0 h)
    (statements_read xs n gx.1 ((statement x).fits 64 (t.Semicolon ∷ sp.statements xs) h).1 (omega arith))

statements_count : (xs : List s.Statement) → length xs ≤ length (sp.statements xs)
statements_count [] = omega arith
statements_count (x ∷ xs) = let p = statements_count xs in let q = (statement x).longer (t.Semicolon ∷ sp.statements xs) in omega (arith, p, q)

schema_of : (ts : List Token) (x : s.Schema) → r.statements (length ts) ts ≡ Some x.statements → schema_tree ts ≡ Some x
unfolding schema_tree
schema_of ts x h = ap (option_map (λ xs. record { statements = xs })) h

pub schema_complete : (ts : List Token) (x : s.Schema) → shallow 64 ts ≡ true → SpellsSchema x ts → schema_tree ts ≡ Some x
schema_complete ts x flat spells = rw spells.spelled (
    schema_of (sp.schema x) x
    (statements_read x.statements (length (sp.schema x)) spells.grammatical (ap (shallow 64) (sym spells.spelled) ∙ flat) (statements_count x.statements))
    )

-- ---- no tokens spell two schemas

table_unique : (a b : TableDecl) (ts us : List Token) → is_statement (s.table a) ≡ true → is_statement (s.table b) ≡ true → sp.statement (s.table a) ts ≡ sp.statement (s.table b) us
    → (s.table a ≡ s.table b) × (ts ≡ us)
table_unique a b ts us ga gb h =
    let e = some_inj (s.table a, ts) (s.table b, us) (sym (table_read a ts ga) ∙ ap r.statement h ∙ table_read b us gb) in
    (ap (λ x. x.0) e, ap (λ x. x.1) e)

views_same : (n m : List ℕ) (ns ms : List (List ℕ)) (p q : s.Query) → n ≡ m → ns ≡ ms → p ≡ q
    → s.view (record { name = n; columns = ns; query = p }) ≡ s.view (record { name = m; columns = ms; query = q })
views_same n m ns ms p q e f g = rw (e, f, g) refl

view_tail : (ns ms : List (List ℕ)) (ts us : List Token) → sp.column_list ns (t.Key k.As ∷ ts) ≡ sp.column_list ms (t.Key k.As ∷ us) → (ns ≡ ms) × (ts ≡ us)
view_tail ns ms ts us h =
    let e = some_inj (ns, t.Key k.As ∷ ts) (ms, t.Key k.As ∷ us) (sym (column_list_read ns ts) ∙ ap w.column_list h ∙ column_list_read ms us) in
    (ap (λ x. x.0) e, tail_inj (t.Key k.As) ts us (ap (λ x. x.1) e))

name_tail : (n m : List ℕ) (ts us : List Token) → t.Key k.Create ∷ t.Key k.View ∷ t.Name n ∷ ts ≡ t.Key k.Create ∷ t.Key k.View ∷ t.Name m ∷ us → (n ≡ m) × (ts ≡ us)
name_tail n m ts us h = (cc, cc)

view_unique : (a b : s.ViewDecl) (ts us : List Token) → is_query a.query ≡ true → is_query b.query ≡ true
    → sp.statement (s.view a) (t.Semicolon ∷ ts) ≡ sp.statement (s.view b) (t.Semicolon ∷ us) → (s.view a ≡ s.view b) × (ts ≡ us)
view_unique a b ts us ga gb h =
    let n = name_tail a.name b.name (sp.column_list a.columns (t.Key k.As ∷ sp.query a.query (t.Semicolon ∷ ts))) (sp.column_list b.columns (t.Key k.As ∷ sp.query b.query (t.Semicolon ∷ us))) h in
    let c = view_tail a.columns b.columns (sp.query a.query (t.Semicolon ∷ ts)) (sp.query b.query (t.Semicolon ∷ us)) n.1 in
    let q = query_same a.query b.query (t.Semicolon ∷ ts) (t.Semicolon ∷ us) ga gb (omega arith) (omega arith) c.1 in
    (views_same a.name b.name a.columns b.columns a.query b.query n.0 c.0 q.0, tail_inj t.Semicolon ts us q.1)

statement_unique : (x y : s.Statement) (ts us : List Token) → is_statement x ≡ true → is_statement y ≡ true
    → sp.statement x (t.Semicolon ∷ ts) ≡ sp.statement y (t.Semicolon ∷ us) → (x ≡ y) × (ts ≡ us)
statement_unique (s.table a) (s.table b) ts us ga gb h = let e = table_unique a b (t.Semicolon ∷ ts) (t.Semicolon ∷ us) ga gb h in (e.0, tail_inj t.Semicolon ts us e.1)
statement_unique (s.table a) (s.view b) ts us ga gb h = absurd (cc)
statement_unique (s.view a) (s.table b) ts us ga gb h = absurd (cc)
statement_unique (s.view a) (s.view b) ts us ga gb h = view_unique a b ts us ga gb h

statements_unique : (xs ys : List s.Statement) → are_statements xs ≡ true → are_statements ys ≡ true → sp.statements xs ≡ sp.statements ys → xs ≡ ys
statements_unique [] [] gx gy h = refl
statements_unique [] (s.table b ∷ ys) gx gy h = absurd (cc)
statements_unique [] (s.view b ∷ ys) gx gy h = absurd (cc)
statements_unique (s.table a ∷ xs) [] gx gy h = absurd (cc)
statements_unique (s.view a ∷ xs) [] gx gy h = absurd (cc)
statements_unique (x ∷ xs) (y ∷ ys) gx gy h =
    let g = and_ok (is_statement x) (are_statements xs) gx in
    let k = and_ok (is_statement y) (are_statements ys) gy in
    let e = statement_unique x y (sp.statements xs) (sp.statements ys) g.0 k.0 h in
    rw (e.0, statements_unique xs ys g.1 k.1 e.1) refl

pub schema_unique : (ts : List Token) (a b : s.Schema) → SpellsSchema a ts → SpellsSchema b ts → a ≡ b
schema_unique ts a b ha hb =
    ap (λ xs. record { statements = xs }) (statements_unique a.statements b.statements ha.grammatical hb.grammatical (sym ha.spelled ∙ hb.spelled))
